-- Each name in a directory is one of the names that can exist there.
use Rattle.dump_trees.proofs.Prelude.{◌≡◌, zero, suc, ◌≤◌, ◌||◌, cond, bytes_eq, refl, sym, ap, ◌∙◌, subst, inl, inr, ◌⊎◌, arith, append-nil, append_assoc, slice_get, IfSome, list_any, both_ways, or_left, or_right, or_cases, bytes_eq-Decides, NodePath, below, Node, Tree, HasDirectories, root_alone, put, Made, PropertyChange, TextChange, Change, History, is_copied, deleted, made_in, node_put, has_directory, props_set, text_set, step}
use Rattle.std.proofs.Common.{ℕ, Bool, true, false, ◌&&◌, List, [], ◌∷◌, ◌++◌, Option, Some, None, option_and_then, length, is_some, is_none}
use Rattle.dump_trees.specs.steps.Looking.{Placed, placed_from, end_of, touches_rest, touches_path, holds_there, latest, left_by, origin_of, node_with_props, node_with_text, set_by}
use Rattle.dump_trees.specs.steps.Listing.{name_made, name_below, names_made, names_from, names_left, names_there, names_behind, names_within, NamesAreLooked}
use Rattle.dump_trees.proofs.changes.TreeLemmas.{below_rest, below_found}
use Rattle.dump_trees.proofs.changes.DirectoryLemmas.{step_keeps}
use Rattle.dump_trees.proofs.histories.HistoryLemmas.{root_directories}
use Rattle.dump_trees.proofs.expansions.BranchLemmas.{clear_below}
use Rattle.dump_trees.proofs.expansions.StandingLemmas.{origin_in, step_has, step_untouched, copy_has_tree}
use Rattle.dump_trees.proofs.expansions.LookLemmas.{StepsAt, Runs, loaded_begun}

-- lists of names

-- whether a name is among these
abbrev pub Has : List ℕ → List (List ℕ) → Type 0
Has name names = list_any (λ other. bytes_eq other name) names ≡ true

has_left : (name : List ℕ) (names others : List (List ℕ)) → Has name names → Has name (names ++ others)
has_left name [] others is = absurd (let bad : false ≡ true = is in cc)
has_left name (first ∷ names) others is =
    elim (or_cases (bytes_eq first name) (list_any (λ other. bytes_eq other name) names) is) [
      | inl here ↦ or_left (bytes_eq first name) (list_any (λ other. bytes_eq other name) (names ++ others)) here
      | inr there ↦ or_right (bytes_eq first name) (list_any (λ other. bytes_eq other name) (names ++ others))
          (has_left name names others there)
    ]

has_right : (name : List ℕ) (names others : List (List ℕ)) → Has name others → Has name (names ++ others)
has_right name [] others is = is
has_right name (first ∷ names) others is =
    or_right (bytes_eq first name) (list_any (λ other. bytes_eq other name) (names ++ others))
    (has_right name names others is)

-- more changes add names, and remove none
has_more : (name : List ℕ) (new names others : List (List ℕ)) → Has name (names ++ others)
    → Has name ((new ++ names) ++ others)
has_more name new names others is =
    subst (λ ns. Has name ns) (sym (append_assoc new names others)) (has_right name new (names ++ others) is)

-- paths

-- one more name at the end of the rest
below_more : (top path rest more : NodePath) → below top path ≡ Some rest → below top (path ++ more) ≡ Some (rest ++ more)
below_more top path rest more at =
    ap (λ p. below top (p ++ more)) (below_rest top path rest at)
    ∙ (ap (λ p. below top p) (append_assoc top rest more) ∙ below_found top (rest ++ more))

-- what is at or below a path in a directory, and isn't that path, has the directory at or below it
below_less : (top path : NodePath) (name first : List ℕ) (rest : NodePath)
    → below top (path ++ name ∷ []) ≡ Some (first ∷ rest) → (more : NodePath) × (below top path ≡ Some more)
below_less [] path name first rest at = (path, refl)
below_less (one ∷ []) [] name first rest at = cases (bytes_eq one name) at
  where
    cases : (b : Bool) → cond b (Some []) None ≡ Some (first ∷ rest)
        → (more : NodePath) × (below (one ∷ []) [] ≡ Some more)
    cases true is = absurd (let bad : Some [] ≡ Some (first ∷ rest) = is in cc)
    cases false is = absurd (let bad : None ≡ Some (first ∷ rest) = is in cc)
below_less (one ∷ two ∷ top) [] name first rest at = cases (bytes_eq one name) at
  where
    cases : (b : Bool) → cond b None None ≡ Some (first ∷ rest)
        → (more : NodePath) × (below (one ∷ two ∷ top) [] ≡ Some more)
    cases true is = absurd (let bad : None ≡ Some (first ∷ rest) = is in cc)
    cases false is = absurd (let bad : None ≡ Some (first ∷ rest) = is in cc)
below_less (one ∷ top) (other ∷ path) name first rest at =
    cases (below_less top path name first rest) (bytes_eq one other) at
  where
    cases : (below top (path ++ name ∷ []) ≡ Some (first ∷ rest) → (more : NodePath) × (below top path ≡ Some more))
        → (b : Bool) → cond b (below top (path ++ name ∷ [])) None ≡ Some (first ∷ rest)
        → (more : NodePath) × (cond b (below top path) None ≡ Some more)
    cases further true is = further is
    cases further false is = absurd (let bad : None ≡ Some (first ∷ rest) = is in cc)

-- single changes

-- if there is no node, a change sets no properties and no text
set_nothing : (c : Change) (rest : NodePath) → set_by c rest None ≡ None
set_nothing c [] = both c.props c.text
  where
    props_none : (props : Option PropertyChange) → node_with_props props None ≡ None
    props_none None = refl
    props_none (Some change) = refl

    text_none : (text : Option TextChange) → node_with_text text None ≡ None
    text_none None = refl
    text_none (Some change) = refl

    both : (props : Option PropertyChange) (text : Option TextChange)
        → node_with_text text (node_with_props props None) ≡ None
    both props text = ap (node_with_text text) (props_none props) ∙ text_none text
set_nothing c (name ∷ rest) = refl

-- what exists after a change, and wasn't deleted, existed before
stood_before : (history : History) (c : Change) (rest : NodePath) (old : Option Node)
    → is_some (set_by c rest (origin_in history old (left_by c.deletes))) ≡ true
    → (c.deletes ≡ false) × (is_some old ≡ true)
stood_before history c rest old is = cases c.deletes refl is
  where
    by_old : (o : Option Node) → is_some (set_by c rest o) ≡ true → is_some o ≡ true
    by_old None some =
        absurd (let bad : false ≡ true = sym (ap is_some (set_nothing c rest)) ∙ some in cc)
    by_old (Some node) some = refl

    cases : (d : Bool) → c.deletes ≡ d → is_some (set_by c rest (origin_in history old (left_by d))) ≡ true
        → (c.deletes ≡ false) × (is_some old ≡ true)
    cases true deletes some =
        absurd (let bad : false ≡ true = sym (ap is_some (set_nothing c rest)) ∙ some in cc)
    cases false stays some = (stays, by_old old some)

-- a new node that replaces nothing is made at a path without a node
new_needs_none : (history : History) (before after : Tree) (c : Change) → c.deletes ≡ false
    → (c.made ≡ Some Made.NewDirectory) ⊎ (c.made ≡ Some Made.NewFile) → step history before c ≡ Some after
    → before c.path ≡ None
new_needs_none history before after c stays (inl made) at =
    cases (before c.path) refl
    (sym (λ i. option_and_then (λ t. text_set c.text c.path t)
    (option_and_then (λ t. props_set c.props c.path t)
    (option_and_then (λ t. made_in history (made i) c.path t) (deleted (stays i) c.path before)))) ∙ at)
  where
    cases : (o : Option Node) → before c.path ≡ o
        → option_and_then (λ t. text_set c.text c.path t)
        (option_and_then (λ t. props_set c.props c.path t) (node_put (Node.Directory []) c.path before)) ≡ Some after
        → o ≡ None
    cases None stands done = refl
    cases (Some node) stands done =
        absurd (let bad : None ≡ Some after
        = sym (ap (λ o. option_and_then (λ t. text_set c.text c.path t)
        (option_and_then (λ t. props_set c.props c.path t)
        (cond (is_none o && has_directory before c.path) (Some (put c.path (Node.Directory []) before)) None))) stands) ∙ done
        in cc)
new_needs_none history before after c stays (inr made) at =
    cases (before c.path) refl
    (sym (λ i. option_and_then (λ t. text_set c.text c.path t)
    (option_and_then (λ t. props_set c.props c.path t)
    (option_and_then (λ t. made_in history (made i) c.path t) (deleted (stays i) c.path before)))) ∙ at)
  where
    cases : (o : Option Node) → before c.path ≡ o
        → option_and_then (λ t. text_set c.text c.path t)
        (option_and_then (λ t. props_set c.props c.path t) (node_put (Node.File [] []) c.path before)) ≡ Some after
        → o ≡ None
    cases None stands done = refl
    cases (Some node) stands done =
        absurd (let bad : None ≡ Some after
        = sym (ap (λ o. option_and_then (λ t. text_set c.text c.path t)
        (option_and_then (λ t. props_set c.props c.path t)
        (cond (is_none o && has_directory before c.path) (Some (put c.path (Node.File [] []) before)) None))) stands) ∙ done
        in cc)

module _ (placed : List Placed) (bound : ℕ) (trees : List Tree) (runs : Runs root_alone placed bound trees) where
  -- the trees between changes have directories
  directories_at : (more count : ℕ) → count ≤ more → (tree : Tree) → slice_get trees count ≡ Some tree → HasDirectories tree
  directories_at more zero low tree at =
      let same : root_alone ≡ tree = (let both : Some root_alone ≡ Some tree = sym runs.start ∙ at in cc) in
      subst (λ t. HasDirectories t) same root_directories
  directories_at zero (suc count) low tree at = absurd (omega arith)
  directories_at (suc more) (suc count) low tree at =
      let s = runs.each count tree at in
      subst (λ o. IfSome o HasDirectories) s.leads
      (step_keeps s.history
      (λ number old is. let early = s.earlier number old is in
      directories_at more (end_of placed number) (omega arith) old (s.found number old is))
      s.before s.at.change (directories_at more count (omega arith) s.before s.was))

  -- each name that exists is one of these, if no more than this many changes are followed
  abbrev Lists : ℕ → Type 0
  Lists more = (count : ℕ) → count ≤ more → (tree : Tree) → slice_get trees count ≡ Some tree → (path : NodePath)
      (name : List ℕ) → is_some (tree (path ++ name ∷ [])) ≡ true → Has name (names_within more placed count path)

  module _ (more : ℕ) (lists : Lists more) (path : NodePath) (name : List ℕ) where
    -- what a change that touches the path leaves below it
    module _ (place : ℕ) (low : place ≤ more) (after : Tree) (s : StepsAt placed bound trees place after)
        (stands : is_some (after (path ++ name ∷ [])) ≡ true) where
      child_stands : (rest : NodePath) → below s.at.change.path path ≡ Some rest
          → is_some (set_by s.at.change (rest ++ name ∷ [])
          (origin_in s.history (s.before (path ++ name ∷ []))
          (origin_of s.at.change.deletes s.at.change.made (rest ++ name ∷ [])))) ≡ true
      child_stands rest at =
          ap is_some (step_has s.history s.before after s.at.change (path ++ name ∷ []) (rest ++ name ∷ [])
          (below_more s.at.change.path path rest (name ∷ []) at) s.leads)
          ∙ stands

      -- what existed there before
      from_before : is_some (s.before (path ++ name ∷ [])) ≡ true → Has name (names_within more placed place path)
      from_before some = lists place low s.before s.was path name some

      below_set : (rest : NodePath) (old : Option Node) → is_some (set_by s.at.change (rest ++ name ∷ []) old) ≡ true
          → is_some old ≡ true
      below_set [] old is = is
      below_set (first ∷ rest) old is = is

      -- where something new is made, nothing was below, or it is deleted
      new_here : (s.at.change.made ≡ Some Made.NewDirectory) ⊎ (s.at.change.made ≡ Some Made.NewFile)
          → below s.at.change.path path ≡ Some []
          → is_some (origin_in s.history (s.before (path ++ name ∷ [])) (left_by s.at.change.deletes)) ≡ true → ⊥
      new_here new at some = sides s.at.change.deletes refl some
        where
          sides : (d : Bool) → s.at.change.deletes ≡ d
              → is_some (origin_in s.history (s.before (path ++ name ∷ [])) (left_by d)) ≡ true → ⊥
          sides true deletes some = let bad : false ≡ true = some in cc
          sides false stays some =
              both_ways (is_some (s.before (path ++ name ∷ [])))
              (ap is_some
              (clear_below s.before (directories_at more place low s.before s.was) path
              (ap s.before (below_rest s.at.change.path path [] at ∙ append-nil s.at.change.path)
              ∙ new_needs_none s.history s.before after s.at.change stays new s.leads) (name ∷ []))) some

      -- what is new touches nothing below it, or deletes it
      new_above : is_copied s.at.change.made ≡ false → (s.at.change.deletes || is_copied s.at.change.made) ≡ true
          → is_some (origin_in s.history (s.before (path ++ name ∷ [])) (left_by s.at.change.deletes)) ≡ true → ⊥
      new_above isnt touched some =
          elim (or_cases s.at.change.deletes (is_copied s.at.change.made) touched) [
            | inl deletes ↦ gone s.at.change.deletes deletes some
            | inr copies ↦ let bad : false ≡ true = sym isnt ∙ copies in cc
          ]
        where
          gone : (d : Bool) → d ≡ true
              → is_some (origin_in s.history (s.before (path ++ name ∷ [])) (left_by d)) ≡ true → ⊥
          gone true deletes some = let bad : false ≡ true = some in cc
          gone false deletes some = let bad : false ≡ true = deletes in cc

      made_below : (made : Option Made) → s.at.change.made ≡ made → (rest : NodePath)
          → below s.at.change.path path ≡ Some rest → touches_rest (Some rest) s.at.change ≡ true
          → is_some (origin_in s.history (s.before (path ++ name ∷ []))
          (origin_of s.at.change.deletes made (rest ++ name ∷ []))) ≡ true
          → Has name (names_from (names_within more placed) placed place path
          (origin_of s.at.change.deletes made rest))
      made_below None is rest at touched some = sides s.at.change.deletes some
        where
          sides : (d : Bool) → is_some (origin_in s.history (s.before (path ++ name ∷ [])) (left_by d)) ≡ true
              → Has name (names_from (names_within more placed) placed place path (left_by d))
          sides true some = absurd (let bad : false ≡ true = some in cc)
          sides false some = from_before some
      made_below (Some Made.NewDirectory) is [] at touched some = absurd (new_here (inl is) at some)
      made_below (Some Made.NewDirectory) is (first ∷ rest) at touched some = absurd (new_above (ap is_copied is) touched some)
      made_below (Some Made.NewFile) is [] at touched some = absurd (new_here (inr is) at some)
      made_below (Some Made.NewFile) is (first ∷ rest) at touched some = absurd (new_above (ap is_copied is) touched some)
      made_below (Some (Made.Copied number source)) is rest at touched some =
          let old = copy_has_tree s.history s.before after s.at.change number source is s.leads in
          let early = s.earlier number old.0 old.1 in
          lists (end_of placed number) (omega arith) old.0 (s.found number old.0 old.1) (source ++ rest) name
          (ap (λ p. is_some (old.0 p)) (append_assoc source rest (name ∷ []))
          ∙ (ap (λ o. is_some (option_and_then (λ (t : Tree). t (source ++ (rest ++ name ∷ []))) o)) (sym old.1)
          ∙ some))

      touched_lists : (o : Option NodePath) → below s.at.change.path path ≡ o
          → touches_rest o s.at.change ≡ true
          → Has name (names_left (names_within more placed) placed place path s.at.change o)
      touched_lists None at touched = absurd (let bad : false ≡ true = touched in cc)
      touched_lists (Some rest) at touched =
          made_below s.at.change.made refl rest at touched
          (below_set rest (origin_in s.history (s.before (path ++ name ∷ []))
          (origin_of s.at.change.deletes s.at.change.made (rest ++ name ∷ []))) (child_stands rest at))

      -- if the path isn't touched, the name is a new one, or it existed before
      new_or_before : touches_path path s.at.change ≡ false
          → Has name (name_made (below path s.at.change.path) s.at.change.made)
          ⊎ (is_some (s.before (path ++ name ∷ [])) ≡ true)
      new_or_before apart = sides (touches_path (path ++ name ∷ []) s.at.change) refl
        where
          same_path : below s.at.change.path (path ++ name ∷ []) ≡ Some [] → s.at.change.path ≡ path ++ name ∷ []
          same_path at = sym (below_rest s.at.change.path (path ++ name ∷ []) [] at ∙ append-nil s.at.change.path)

          new : (made : Option Made) → s.at.change.made ≡ made
              → below s.at.change.path (path ++ name ∷ []) ≡ Some []
              → Has name (name_made (below path s.at.change.path) made)
              ⊎ (is_some (s.before (path ++ name ∷ [])) ≡ true)
          new (Some m) made at =
              inl (subst (λ o. Has name (name_made o (Some m)))
              (sym (ap (λ p. below path p) (same_path at) ∙ below_found path (name ∷ [])))
              (or_left (bytes_eq name name) false ((bytes_eq-Decides name name).1 refl)))
          new None made at =
              inr (stood_before s.history s.at.change [] (s.before (path ++ name ∷ []))
              (ap (λ m. is_some (set_by s.at.change [] (origin_in s.history (s.before (path ++ name ∷ []))
              (origin_of s.at.change.deletes m [])))) (sym made)
              ∙ (ap is_some (step_has s.history s.before after s.at.change (path ++ name ∷ []) [] at s.leads)
              ∙ stands))).1

          -- a change at a path above that touches it touches the path
          above : (first : List ℕ) (rest : NodePath)
              → below s.at.change.path (path ++ name ∷ []) ≡ Some (first ∷ rest)
              → (s.at.change.deletes || is_copied s.at.change.made) ≡ true
              → Has name (name_made (below path s.at.change.path) s.at.change.made)
              ⊎ (is_some (s.before (path ++ name ∷ [])) ≡ true)
          above first rest at is =
              let less = below_less s.at.change.path path name first rest at in
              absurd (both_ways (touches_path path s.at.change) apart
              (ap (λ o. touches_rest o s.at.change) less.1 ∙ touching less.0))
            where
              copies_make : (made : Option Made) → is_copied made ≡ true → is_some made ≡ true
              copies_make None copies = copies
              copies_make (Some made) copies = refl

              touching : (rest : NodePath) → touches_rest (Some rest) s.at.change ≡ true
              touching [] =
                  or_left (s.at.change.deletes || is_some s.at.change.made || is_some s.at.change.props)
                  (is_some s.at.change.text)
                  (or_left (s.at.change.deletes || is_some s.at.change.made) (is_some s.at.change.props)
                  (elim (or_cases s.at.change.deletes (is_copied s.at.change.made) is) [
                    | inl deletes ↦ or_left s.at.change.deletes (is_some s.at.change.made) deletes
                    | inr copies ↦ or_right s.at.change.deletes (is_some s.at.change.made)
                        (copies_make s.at.change.made copies)
                  ]))
              touching (first ∷ rest) = is

          by_rest : (o : Option NodePath) → below s.at.change.path (path ++ name ∷ []) ≡ o
              → touches_rest o s.at.change ≡ true
              → Has name (name_made (below path s.at.change.path) s.at.change.made)
              ⊎ (is_some (s.before (path ++ name ∷ [])) ≡ true)
          by_rest None at is = absurd (let bad : false ≡ true = is in cc)
          by_rest (Some []) at is = new s.at.change.made refl at
          by_rest (Some (first ∷ rest)) at is = above first rest at is

          sides : (b : Bool) → touches_path (path ++ name ∷ []) s.at.change ≡ b
              → Has name (name_made (below path s.at.change.path) s.at.change.made)
              ⊎ (is_some (s.before (path ++ name ∷ [])) ≡ true)
          sides false far =
              inr (sym (ap is_some (step_untouched s.history s.before after s.at.change (path ++ name ∷ []) far s.leads))
              ∙ stands)
          sides true near = by_rest (below s.at.change.path (path ++ name ∷ [])) refl near

    -- the names after this number of changes
    abbrev names_at : ℕ → List (List ℕ)
    names_at count = names_made placed count path
        ++ names_behind (names_within more placed) placed path (latest (touches_path path) placed count)

    behind_lists : (count : ℕ) → count ≤ suc more → (tree : Tree) → slice_get trees count ≡ Some tree
        → is_some (tree (path ++ name ∷ [])) ≡ true → Has name (names_at count)
    behind_lists zero low tree at some =
        let same : root_alone ≡ tree = (let both : Some root_alone ≡ Some tree = sym runs.start ∙ at in cc) in
        absurd (both_ways (is_some (root_alone (path ++ name ∷ []))) (alone path)
        (ap (λ (t : Tree). is_some (t (path ++ name ∷ []))) same ∙ some))
      where
        alone : (p : NodePath) → is_some (root_alone (p ++ name ∷ [])) ≡ false
        alone [] = refl
        alone (first ∷ p) = refl
    behind_lists (suc count) low tree at some =
        cases (runs.each count tree at) (λ t was there. behind_lists count (omega arith) t was there)
      where
        sides : (s : StepsAt placed bound trees count tree)
            → ((t : Tree) → slice_get trees count ≡ Some t → is_some (t (path ++ name ∷ [])) ≡ true
            → Has name (names_at count))
            → (b : Bool) → touches_path path s.at.change ≡ b
            → Has name ((name_made (below path s.at.change.path) s.at.change.made ++ names_made placed count path)
            ++ names_behind (names_within more placed) placed path
            (cond b (Some count) (latest (touches_path path) placed count)))
        sides s further true touched =
            has_right name (name_made (below path s.at.change.path) s.at.change.made ++ names_made placed count path)
            (names_there (names_within more placed) placed count path (slice_get placed count))
            (subst (λ o. Has name (names_there (names_within more placed) placed count path o)) (sym s.there)
            (touched_lists count (omega arith) tree s some (below s.at.change.path path) refl touched))
        sides s further false apart =
            elim (new_or_before count (omega arith) tree s some apart) [
              | inl new ↦
                  has_left name
                  (name_made (below path s.at.change.path) s.at.change.made ++ names_made placed count path)
                  (names_behind (names_within more placed) placed path (latest (touches_path path) placed count))
                  (has_left name (name_made (below path s.at.change.path) s.at.change.made)
                  (names_made placed count path) new)
              | inr before ↦
                  has_more name (name_made (below path s.at.change.path) s.at.change.made)
                  (names_made placed count path)
                  (names_behind (names_within more placed) placed path (latest (touches_path path) placed count))
                  (further s.before s.was before)
            ]

        cases : (s : StepsAt placed bound trees count tree)
            → ((t : Tree) → slice_get trees count ≡ Some t → is_some (t (path ++ name ∷ [])) ≡ true
            → Has name (names_at count))
            → Has name ((name_below path (slice_get placed count) ++ names_made placed count path)
            ++ names_behind (names_within more placed) placed path
            (cond (holds_there (touches_path path) (slice_get placed count)) (Some count)
            (latest (touches_path path) placed count)))
        cases s further =
            subst (λ o. Has name ((name_below path o ++ names_made placed count path)
            ++ names_behind (names_within more placed) placed path
            (cond (holds_there (touches_path path) o) (Some count) (latest (touches_path path) placed count))))
            (sym s.there)
            (sides s further (touches_path path s.at.change) refl)

  -- each name that exists
  pub names_run : (more : ℕ) → Lists more
  names_run zero zero low tree at path name some =
      let same : root_alone ≡ tree = (let both : Some root_alone ≡ Some tree = sym runs.start ∙ at in cc) in
      absurd (both_ways (is_some (root_alone (path ++ name ∷ []))) (alone path)
      (ap (λ (t : Tree). is_some (t (path ++ name ∷ []))) same ∙ some))
    where
      alone : (p : NodePath) → is_some (root_alone (p ++ name ∷ [])) ≡ false
      alone [] = refl
      alone (first ∷ p) = refl
  names_run zero (suc count) low tree at path name some = absurd (omega arith)
  names_run (suc more) count low tree at path name some =
      behind_lists more (names_run more) path name count low tree at some

-- the laws, as the contract states them

pub names_are_looked : NamesAreLooked
names_are_looked revisions trees number tree path name at there some =
    let all = loaded_begun root_alone revisions trees at in
    names_run (placed_from 1 revisions) (length revisions) all.1 all.2.runs
    (end_of (placed_from 1 revisions) number) (end_of (placed_from 1 revisions) number) (omega arith) tree
    (all.2.ends number tree there) path name some
