-- Paths that only one of two cuts excludes.
use Rattle.std.proofs.Common.{◌≡◌, ℕ, zero, suc, ◌<◌, true, false, Bor, List, [], ◌∷◌, length, map, get_or, ap, ◌∙◌, arith}
use Rattle.std.specs.List.{list_all}
use Rattle.std.proofs.lemmas.Bool.{and_parts}
use Rattle.dump_trees.specs.Paths.{names_of}
use Rattle.dump_trees.specs.Siblings.{has_node_names}
use Rattle.dump_index.specs.steps.InOrder.{ends_in_slash}
use Rattle.dump_cut.specs.steps.ExcludedPaths.{paths_of}
use Rattle.dump_cut.proofs.ParentLemmas.{ends_named}
use Rattle.dump_cut.proofs.RangeLemmas.{shown_twice}

-- each of some texts has names of nodes
named_text : (texts : List (Bor (List ℕ))) (n : ℕ) (d : Bor (List ℕ))
    → list_all has_node_names (map (λ text. names_of text.now) texts) ≡ true → n < length texts
    → has_node_names (names_of (get_or texts n d).now) ≡ true
named_text [] n d all low = absurd (omega (arith, low))
named_text (text ∷ texts) zero d all low =
    (and_parts (has_node_names (names_of text.now)) (list_all has_node_names (map (λ text. names_of text.now) texts)) all).0
named_text (text ∷ texts) (suc n) d all low =
    named_text texts n d
    (and_parts (has_node_names (names_of text.now)) (list_all has_node_names (map (λ text. names_of text.now) texts)) all).1
    (omega (arith, low))

-- so it doesn't end in a slash
pub bare_text : (texts : List (Bor (List ℕ))) (n : ℕ) (d : Bor (List ℕ))
    → list_all has_node_names (map (λ text. names_of text.now) texts) ≡ true → n < length texts
    → ends_in_slash (get_or texts n d).now ≡ false
bare_text texts n d all low = ends_named (get_or texts n d).now (named_text texts n d all low)

-- the paths of borrowed texts
pub seen_paths : (texts lent : List (Bor (List ℕ))) (paths : List (List ℕ)) → texts ≡ lent
    → map (λ text. text.now) lent ≡ paths → map (λ text. names_of text.now) texts ≡ paths_of paths
seen_paths texts lent paths same are =
    shown_twice names_of (λ text. text.now) texts ∙ ap (map names_of) (ap (map (λ text. text.now)) same ∙ are)
