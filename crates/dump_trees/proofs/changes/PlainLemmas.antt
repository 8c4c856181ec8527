-- A copy whose source isn't kept, and the plain file that is written of it.
use Rattle.dump_trees.proofs.Prelude.{◌≡◌, ◌||◌, option_map, cond, IsTrue, refl, sym, ap, ◌∙◌, subst, subst₂, append-nil, IfSome, AllZip, both_ways, and_parts, and_from, eqb-true, nil_from_length, Property, Settings, NodePath, keeps, below, parent_of, Node, Tree, HasDirectories, is_directory_node, at_or_below, grafted, at_top, put, empty_tree, PropertyChange, TextChange, has_directory, deleted, node_put, copied, edited_with, with_props, with_text, props_set, text_set, NewProperty, KeepsEntries, IsNewNode, AreNewProps, IsRestricted, has_no_props}
use Rattle.std.proofs.Common.{ℕ, Bool, true, false, ◌&&◌, List, [], ◌∷◌, ◌++◌, length, Option, Some, None, option_and_then, is_some, is_none}
use Rattle.dump_trees.proofs.changes.EditLemmas.{edits_new}
use Rattle.dump_trees.proofs.paths.KeptPaths.{gives_nothing}
use Rattle.dump_trees.proofs.changes.TreeLemmas.{below_rest, below_found, below_top, RestrictedAt, nothing_restricted, directory_restricted}
use Rattle.dump_trees.proofs.changes.StageLemmas.{Follows}

-- what exists at the top

-- the node that is put
pub put_at : (top : NodePath) (n : Node) (tree : Tree) → put top n tree top ≡ Some n
put_at top n tree = ap (λ o. at_top o n (tree top)) (below_top top)

-- the top of what is grafted
pub graft_at : (top : NodePath) (new tree : Tree) → grafted top new tree top ≡ new []
graft_at top new tree = ap (λ o. at_or_below o new (tree top)) (below_top top)

-- nothing exists below a file, and nothing exists below a path without a node

below_no_directory : (tree : Tree) → HasDirectories tree → (top : NodePath) → is_directory_node (tree top) ≡ false
    → (name : List ℕ) (rest : NodePath) → tree (top ++ name ∷ rest) ≡ None
below_no_directory tree directories top none name rest = cases (tree (top ++ name ∷ rest)) refl
  where
    cases : (o : Option Node) → tree (top ++ name ∷ rest) ≡ o → o ≡ None
    cases None at = refl
    cases (Some node) at = absurd (both_ways _ none (directories top name rest node at))

-- after a deletion, or if nothing existed there before, nothing exists at the top and below it
pub all_gone : (deletes : Bool) (top : NodePath) (tree : Tree) → HasDirectories tree
    → IsTrue (deletes || is_none (tree top))
    → IfSome (deleted deletes top tree) (λ after. (rest : NodePath) → after (top ++ rest) ≡ None)
all_gone true top tree directories free = cases (is_some (parent_of top) && is_some (tree top))
  where
    cases : (b : Bool) → IfSome (cond b (Some (grafted top empty_tree tree)) None)
        (λ after. (rest : NodePath) → after (top ++ rest) ≡ None)
    cases false = tt
    cases true = λ rest. ap (λ o. at_or_below o empty_tree (tree (top ++ rest))) (below_found top rest)
all_gone false top tree directories free = λ rest. cases rest
  where
    none : (o : Option Node) → is_none o ≡ true → o ≡ None
    none None is = refl
    none (Some node) is = absurd (let bad : false ≡ true = is in cc)

    cases : (rest : NodePath) → tree (top ++ rest) ≡ None
    cases [] = ap tree (append-nil top) ∙ none (tree top) free
    cases (name ∷ rest) = below_no_directory tree directories top (ap is_directory_node (none (tree top) free)) name rest

-- properties and a text, set one after the other

-- the tree with a file in which properties and a text are set
abbrev file_set : Option (List Property) → List ℕ → List Property → List ℕ → NodePath → Tree → Tree
file_set None text old other top tree = put top (Node.File old text) tree
file_set (Some entries) text old other top tree =
    put top (Node.File (edited_with entries []) text) (put top (Node.File (edited_with entries []) other) tree)

-- the result for both, by what exists at the top
abbrev both_set : Option (List Property) → List ℕ → NodePath → Tree → Option Node → Option Tree
both_set props text top tree None = None
both_set props text top tree (Some (Node.Directory old)) = None
both_set props text top tree (Some (Node.File old other)) = Some (file_set props text old other top tree)

-- the text's part
abbrev texted : List ℕ → NodePath → Tree → Option Node → Option Tree
texted text top tree o = option_map (λ node. put top node tree)
    (option_and_then (λ node. with_text (TextChange.Replaced text) node) o)

-- the part of the properties and then of the text
abbrev propped : List Property → List ℕ → NodePath → Tree → Option Node → Option Tree
propped props text top tree o =
    option_and_then (λ t. text_set (Some (TextChange.Replaced text)) top t)
    (option_map (λ node. put top (with_props (PropertyChange.Replaced props) node) tree) o)

-- the change of properties that has these entries in place of the old ones
abbrev pub replaced : Option (List Property) → Option PropertyChange
replaced entries = option_map (λ es. PropertyChange.Replaced es) entries

edited : (props : Option (List Property)) (text : List ℕ) (top : NodePath) (tree : Tree) (o : Option Node)
    → tree top ≡ o
    → option_and_then (λ t. text_set (Some (TextChange.Replaced text)) top t) (props_set (replaced props) top tree)
    ≡ both_set props text top tree o
edited None text top tree None at = ap (texted text top tree) at
edited None text top tree (Some (Node.Directory old)) at = ap (texted text top tree) at
edited None text top tree (Some (Node.File old other)) at = ap (texted text top tree) at
edited (Some props) text top tree None at = ap (propped props text top tree) at
edited (Some props) text top tree (Some (Node.Directory old)) at =
    ap (propped props text top tree) at
    ∙ ap (texted text top (put top (Node.Directory (edited_with props [])) tree))
    (put_at top (Node.Directory (edited_with props [])) tree)
edited (Some props) text top tree (Some (Node.File old other)) at =
    ap (propped props text top tree) at
    ∙ ap (texted text top (put top (Node.File (edited_with props []) other) tree))
    (put_at top (Node.File (edited_with props []) other) tree)

-- of two nodes that are put at the top, the second one stays
pub at_twice : (o : Option NodePath) (n m : Node) (old : Option Node) → at_top o n (at_top o m old) ≡ at_top o n old
at_twice None n m old = refl
at_twice (Some []) n m old = refl
at_twice (Some (name ∷ rest)) n m old = refl

module _ (settings : Settings) (IsNew : NewProperty) (entries : KeepsEntries IsNew) (source top : NodePath)
    (from old new : Tree)
    (props others : Option (List Property)) (text : List ℕ)
    (both : AreNewProps IsNew (replaced props) (replaced others))
    (bare : IsTrue (is_some props || has_no_props (from source))) (is : IsTrue (keeps settings top))
    (directories : HasDirectories from) (gone : (rest : NodePath) → old (top ++ rest) ≡ None)
    (r : IsRestricted settings IsNew old new) where
  -- the tree with the copy, and the tree with the plain file
  abbrev copy_tree : Tree
  copy_tree = grafted top (λ rest. from (source ++ rest)) old

  abbrev plain_tree : Tree
  plain_tree = put top (Node.File [] []) new

  -- with their files put in, they differ only in new properties
  alike : (ps qs earlier : List Property) (other : List ℕ) → AllZip IsNew ps qs
      → from source ≡ Some (Node.File earlier other)
      → IsRestricted settings IsNew (put top (Node.File ps text) copy_tree) (put top (Node.File qs text) plain_tree)
  alike ps qs earlier other pair file = record {
    kept = λ path kept. (cases path (below top path) refl).0 kept;
    left = λ path left. (cases path (below top path) refl).1 left;
  }
    where
      cases : (path : NodePath) (o : Option NodePath) → below top path ≡ o
          → RestrictedAt settings IsNew path
          (at_top o (Node.File ps text) (at_or_below o (λ rest. from (source ++ rest)) (old path)))
          (at_top o (Node.File qs text) (at_top o (Node.File [] []) (new path)))
      cases path None at = (r.kept path, r.left path)
      cases path (Some []) at =
          subst (λ p. RestrictedAt settings IsNew p (Some (Node.File ps text)) (Some (Node.File qs text)))
          (sym (below_rest top path [] at ∙ append-nil top))
          (λ kept. (pair, refl), λ left. absurd (both_ways _ left is))
      cases path (Some (name ∷ rest)) at =
          subst (λ p. RestrictedAt settings IsNew p (from (source ++ name ∷ rest)) (new p))
          (sym (below_rest top path (name ∷ rest) at))
          (let none = nothing_restricted settings IsNew old new r top (name ∷ rest) is (gone (name ∷ rest)) in
          let no_source = below_no_directory from directories source (ap is_directory_node file) name rest in (
            λ kept. subst (λ o. IsNewNode IsNew o (new (top ++ name ∷ rest))) (sym no_source)
                (subst (λ o. IsNewNode IsNew None o) (sym none) tt),
            λ left. none ∙ sym (gives_nothing settings top (name ∷ rest) is left),
          ))

  -- the same if the properties were put in before
  alike_twice : (ps qs earlier : List Property) (n m : Node) (other : List ℕ) → AllZip IsNew ps qs
      → from source ≡ Some (Node.File earlier other)
      → IsRestricted settings IsNew (put top (Node.File ps text) (put top n copy_tree))
      (put top (Node.File qs text) (put top m plain_tree))
  alike_twice ps qs earlier n m other pair file = record {
    kept = λ path kept. subst₂ (λ a b. IsNewNode IsNew a b)
        (sym (at_twice (below top path) (Node.File ps text) n (copy_tree path)))
        (sym (at_twice (below top path) (Node.File qs text) m (plain_tree path)))
        (once.kept path kept);
    left = λ path left. at_twice (below top path) (Node.File qs text) m (plain_tree path) ∙ once.left path left;
  }
    where
      once : IsRestricted settings IsNew (put top (Node.File ps text) copy_tree)
          (put top (Node.File qs text) plain_tree)
      once = alike ps qs earlier other pair file

  -- the two files, with the properties that are set or with none
  files_alike : (ps qs : Option (List Property)) → AreNewProps IsNew (replaced ps) (replaced qs)
      → IsTrue (is_some ps || has_no_props (from source))
      → (earlier : List Property) (other : List ℕ) → from source ≡ Some (Node.File earlier other)
      → IsRestricted settings IsNew (file_set ps text earlier other top copy_tree)
      (file_set qs text [] [] top plain_tree)
  files_alike None None pair none earlier other file =
      let same : earlier ≡ [] = nil_from_length earlier
      (eqb-true (length earlier) 0 (ap has_no_props (sym file) ∙ none)) in
      alike earlier [] earlier other (subst (λ p. AllZip IsNew p []) (sym same) tt) file
  files_alike None (Some qs) pair none earlier other file = absurd pair
  files_alike (Some ps) None pair none earlier other file = absurd pair
  files_alike (Some ps) (Some qs) pair none earlier other file =
      alike_twice (edited_with ps []) (edited_with qs []) earlier (Node.File (edited_with ps []) other)
      (Node.File (edited_with qs []) []) other (edits_new IsNew entries ps qs [] [] pair tt) file

  -- the plain file is made wherever the copy is
  plain_made : has_directory old top ≡ true → node_put (Node.File [] []) top new ≡ Some plain_tree
  plain_made some =
      let none = ap new (sym (append-nil top)) ∙ nothing_restricted settings IsNew old new r top [] is (gone []) in
      ap (λ b. cond b (Some plain_tree) None)
      (and_from (is_none (new top)) (has_directory new top) (ap is_none none)
      (directory_restricted settings IsNew old new r top is some))

  -- the copy and the plain file, each with the properties and the text
  pub plain_follows : Follows settings IsNew
      (option_and_then (λ t. text_set (Some (TextChange.Replaced text)) top t)
      (option_and_then (λ t. props_set (replaced props) top t)
      (copied source top old from)))
      (option_and_then (λ t. text_set (Some (TextChange.Replaced text)) top t)
      (option_and_then (λ t. props_set (replaced others) top t)
      (node_put (Node.File [] []) top new)))
  plain_follows = made (is_some (from source) && has_directory old top) refl
    where
      set : (o : Option Node) → from source ≡ o → Follows settings IsNew (both_set props text top copy_tree o)
          (Some (file_set others text [] [] top plain_tree))
      set None at = tt
      set (Some (Node.Directory ps)) at = tt
      set (Some (Node.File ps other)) at = files_alike props others both bare ps other at

      made : (b : Bool) → (is_some (from source) && has_directory old top) ≡ b → Follows settings IsNew
          (option_and_then (λ t. text_set (Some (TextChange.Replaced text)) top t)
          (option_and_then (λ t. props_set (replaced props) top t)
          (cond b (Some copy_tree) None)))
          (option_and_then (λ t. text_set (Some (TextChange.Replaced text)) top t)
          (option_and_then (λ t. props_set (replaced others) top t)
          (node_put (Node.File [] []) top new)))
      made false at = tt
      made true at =
          let some = (and_parts (is_some (from source)) (has_directory old top) at).1 in
          let whole = edited props text top copy_tree (from source)
          (graft_at top (λ rest. from (source ++ rest)) old ∙ ap from (append-nil source)) in
          let filtered = ap (λ o. option_and_then (λ t. text_set (Some (TextChange.Replaced text)) top t)
          (option_and_then (λ t. props_set (replaced others) top t) o)) (plain_made some)
          ∙ edited others text top plain_tree (Some (Node.File [] [])) (put_at top (Node.File [] []) new) in
          subst₂ (λ a b. Follows settings IsNew a b) (sym whole) (sym filtered) (set (from source) refl)
