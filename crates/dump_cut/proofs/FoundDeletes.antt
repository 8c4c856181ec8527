-- The deletes that are found for the changes of an index, one by one.
use Rattle.std.proofs.Common.{◌≡◌, ◌==◌, ℕ, zero, suc, ◌+◌, Bool, true, false, not, ◌&&◌, cond, nat_eq, List, [], ◌∷◌, ◌++◌, length, map, take, Option, Some, None, refl, sym, ap, ap₂, ◌∙◌, subst, arith}
use Rattle.std.specs.Global.{Vec}
use Rattle.std.specs.Prelude.{slice_get}
use Rattle.std.specs.List.{list_all}
use Rattle.std.proofs.lemmas.Bool.{and_parts, and_from, eqb-true}
use Rattle.std.proofs.lemmas.List.{length-map, map-append}
use Rattle.std.proofs.lemmas.List.Elements.{filter-append}
use Rattle.std.proofs.lemmas.List.Folds.{list_all-append}
use Rattle.dump_trees.specs.Changes.{Made}
use Rattle.dump_trees.specs.steps.FollowedRests.{rests_made}
use Rattle.dump_trees.specs.Following.{Way}
use Rattle.dump_trees.specs.steps.LoadCheck.{ToldKinds}
use Rattle.dump_trees.specs.steps.Looking.{Placed}
use Rattle.dump_trees.specs.Paths.{NodePath, names_of, path_of}
use Rattle.dump_trees.specs.Returns.{is_covered}
use Rattle.dump_trees.specs.Siblings.{has_node_names}
use Rattle.dump_history.specs.WrittenNodes.{is_plain_path}
use Rattle.dump_cut.specs.steps.TrimmedCopies.{are_plain, deletes_nothing, AreDeletes, kept_changes, lost_paths}
use Rattle.dump_cut.specs.steps.Deletes.{delete_texts_of}

-- a path with names of nodes has no leading slash
pub named_bare : (text : List ℕ) → has_node_names (names_of text) ≡ true → path_of text ≡ names_of text
named_bare [] named = refl
named_bare (b ∷ text) named = cases (nat_eq b 47) refl
  where
    cases : (c : Bool) → nat_eq b 47 ≡ c → path_of (b ∷ text) ≡ names_of (b ∷ text)
    cases false isnt = ap (λ d. names_of (cond d text (b ∷ text))) isnt
    cases true is = absurd (slash b (eqb-true b 47 is) named)
      where
        slash : (c : ℕ) → c ≡ 47 → has_node_names (names_of (c ∷ text)) ≡ true → ⊥
        slash c same all = let bad : false ≡ true = subst (λ d. has_node_names (names_of (d ∷ text)) ≡ true) same all in cc

-- so a load reads such paths as they are spelled
read_named : (paths : List (Vec ℕ)) → list_all (λ path. has_node_names (names_of path.items)) paths ≡ true
    → map path_of (map (λ path. path.items) paths) ≡ map (λ path. names_of path.items) paths
read_named [] named = refl
read_named (path ∷ paths) named =
    let parts = and_parts (has_node_names (names_of path.items))
    (list_all (λ p. has_node_names (names_of p.items)) paths) named in
    ap₂ (λ (p : NodePath) (ps : List NodePath). p ∷ ps) (named_bare path.items parts.0) (read_named paths parts.1)

-- the paths that a change takes, by what an index says about it
pub lost_told : (excluded : List NodePath) (told : ToldKinds) (placed : List Placed) (p : Placed) (path : NodePath)
    (made : Option Made) (paths : List (Vec ℕ)) → p.change.path ≡ path → p.change.made ≡ made
    → list_all (λ text. has_node_names (names_of text.items)) paths ≡ true
    → map (λ text. names_of text.items) paths
    ≡ map (λ rest. path ++ rest) (rests_made Way.ToSources excluded told placed path made)
    → map path_of (map (λ text. text.items) paths) ≡ lost_paths excluded told placed p
lost_told excluded told placed p path made paths at makes named lost =
    read_named paths named
    ∙ (lost
    ∙ sym (ap₂ (λ to m. map (λ rest. to ++ rest) (rests_made Way.ToSources excluded told placed to m)) at makes))

-- the texts of paths are tested one by one
pub one_shown : (paths : List (Vec ℕ))
    → list_all (λ path. is_plain_path path.items) paths ≡ list_all is_plain_path (map (λ path. path.items) paths)
one_shown [] = refl
one_shown (path ∷ paths) = ap (λ b. is_plain_path path.items && b) (one_shown paths)

pub all_shown : (deletes : List (Vec (Vec ℕ)))
    → list_all (λ paths. list_all (λ path. is_plain_path path.items) paths.items) deletes ≡ are_plain (delete_texts_of deletes)
all_shown [] = refl
all_shown (paths ∷ deletes) = ap₂ (λ a b. a && b) (one_shown paths.items) (all_shown deletes)

pub plain_shown : (deletes : List (Vec (Vec ℕ))) → are_plain (delete_texts_of deletes) ≡ true
    → list_all (λ paths. list_all (λ path. is_plain_path path.items) paths.items) deletes ≡ true
plain_shown deletes are = all_shown deletes ∙ are

pub nothing_shown : (deletes : List (Vec (Vec ℕ)))
    → list_all (λ paths. length paths.items == 0) deletes ≡ deletes_nothing (delete_texts_of deletes)
nothing_shown [] = refl
nothing_shown (paths ∷ deletes) =
    ap₂ (λ n b. (n == 0) && b) (sym (length-map paths.items (λ path. path.items))) (nothing_shown deletes)

-- the texts of one more list of paths
pub plain_more : (deletes all : List (Vec (Vec ℕ))) (paths : Vec (Vec ℕ)) → all ≡ deletes ++ paths ∷ []
    → are_plain (delete_texts_of deletes) ≡ true → list_all is_plain_path (map (λ text. text.items) paths.items) ≡ true
    → are_plain (delete_texts_of all) ≡ true
plain_more deletes all paths joined are plain =
    ap are_plain (ap delete_texts_of joined ∙ map-append _ deletes (paths ∷ []))
    ∙ (list_all-append (λ texts. list_all is_plain_path texts) (delete_texts_of deletes) (delete_texts_of (paths ∷ []))
    ∙ and_from _ _ are (and_from _ _ plain refl))

-- the deletes of the first changes, this many
pub record AreDeletesUpTo (excluded : List NodePath) (told : ToldKinds) (placed : List Placed) (count : ℕ)
    (deletes : List (Vec (Vec ℕ))) : Type 0 where
  pub paths : map (map path_of) (delete_texts_of deletes)
      ≡ map (lost_paths excluded told placed) (kept_changes excluded (take count placed))
  pub plain : are_plain (delete_texts_of deletes) ≡ true

take_next : (placed : List Placed) (place : ℕ) (p : Placed) → slice_get placed place ≡ Some p
    → take (place + 1) placed ≡ take place placed ++ p ∷ []
take_next [] place p there = absurd (let bad : None ≡ Some p = there in cc)
take_next (q ∷ placed) zero p there =
    let both : Some q ≡ Some p = there in
    let same : q ≡ p = cc in ap (λ r. r ∷ []) same
take_next (q ∷ placed) (suc place) p there =
    ap (λ n. take n (q ∷ placed)) (let next : suc place + 1 ≡ suc (place + 1) = omega arith in next)
    ∙ ap (λ ps. q ∷ ps) (take_next placed place p there)

module _ (excluded : List NodePath) (told : ToldKinds) (placed : List Placed) (place : ℕ) (p : Placed)
    (there : slice_get placed place ≡ Some p) (deletes : List (Vec (Vec ℕ)))
    (so_far : AreDeletesUpTo excluded told placed place deletes) where
  one_more : (b : Bool) → is_covered excluded p.change.path ≡ b
      → kept_changes excluded (take (place + 1) placed)
      ≡ kept_changes excluded (take place placed) ++ cond (not b) (p ∷ []) []
  one_more b is =
      ap (kept_changes excluded) (take_next placed place p there)
      ∙ (filter-append (λ (q : Placed). not (is_covered excluded q.change.path)) (take place placed) (p ∷ [])
      ∙ ap (λ c. kept_changes excluded (take place placed) ++ cond (not c) (p ∷ []) []) is)

  -- a change at an excluded path has no deletes
  pub none_there : is_covered excluded p.change.path ≡ true → AreDeletesUpTo excluded told placed (place + 1) deletes
  none_there is = record {
    paths = so_far.paths
        ∙ sym (ap (map (lost_paths excluded told placed)) (one_more true is
        ∙ Rattle.std.proofs.Common.append-nil (kept_changes excluded (take place placed))));
    plain = so_far.plain;
  }

  -- another change has these deletes
  pub some_there : is_covered excluded p.change.path ≡ false → (paths : Vec (Vec ℕ)) (all : List (Vec (Vec ℕ)))
      → all ≡ deletes ++ paths ∷ []
      → map path_of (map (λ text. text.items) paths.items) ≡ lost_paths excluded told placed p
      → list_all is_plain_path (map (λ text. text.items) paths.items) ≡ true
      → AreDeletesUpTo excluded told placed (place + 1) all
  some_there isnt paths all joined are plain = record {
    paths = ap (map (map path_of)) (ap delete_texts_of joined ∙ map-append _ deletes (paths ∷ []))
        ∙ (map-append (map path_of) (delete_texts_of deletes) (delete_texts_of (paths ∷ []))
        ∙ (ap₂ (λ (front : List (List NodePath)) (last : List NodePath). front ++ last ∷ []) so_far.paths are
        ∙ (sym (map-append (lost_paths excluded told placed) (kept_changes excluded (take place placed)) (p ∷ []))
        ∙ sym (ap (map (lost_paths excluded told placed)) (one_more false isnt)))));
    plain = plain_more deletes all paths joined so_far.plain plain;
  }

-- the deletes of all changes
pub all_deletes : (excluded : List NodePath) (told : ToldKinds) (placed : List Placed) (count : ℕ)
    (deletes : List (Vec (Vec ℕ))) → length placed ≡ count → AreDeletesUpTo excluded told placed count deletes
    → AreDeletes excluded told placed (delete_texts_of deletes)
all_deletes excluded told placed count deletes long are = record {
  paths = are.paths
      ∙ ap (λ ps. map (lost_paths excluded told placed) (kept_changes excluded ps))
      (ap (λ n. take n placed) (sym long) ∙ Rattle.std.proofs.Math.Seq.take-length placed);
  plain = are.plain;
}
