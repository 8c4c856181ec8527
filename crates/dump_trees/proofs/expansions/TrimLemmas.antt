-- Copies with deletions after them.
use Rattle.dump_trees.proofs.Prelude.{◌≡◌, cond, option_map, refl, sym, ap, ◌∙◌, subst, append-nil, append_assoc, list_all, both_ways, and_parts, and_from, not-true, Exclude, Settings, NodePath, keeps, below, Node, Tree, at_or_below, grafted, at_top, put, empty_tree, Made, PropertyChange, TextChange, Change, History, has_directory, copied, deleted, made_in, with_props, with_text, props_put, props_set, text_set, step, steps, NewProperty, NewNumber, KeepsEntries, IsNewNode, AreNewProps, IsNewMade, IsRestricted, IsNewChange, AreRestricted, sets_whole}
use Rattle.std.proofs.Common.{ℕ, Bool, true, false, not, ◌&&◌, List, [], ◌∷◌, ◌++◌, Option, Some, None, option_and_then, is_some, is_none}
use Rattle.dump_trees.specs.steps.ExpansionCases.{deletions, none_is_below}
use Rattle.dump_trees.specs.steps.ComingBack.{ComesBack}
use Rattle.dump_trees.specs.steps.Trimming.{CoverTaken}
use Rattle.dump_trees.proofs.paths.KeptPaths.{gives_nothing, keeps_nothing}
use Rattle.dump_trees.proofs.changes.TreeLemmas.{below_rest, below_found, below_top, same_presence, RestrictedAt, nothing_restricted, graft_restricts, directory_restricted}
use Rattle.dump_trees.proofs.changes.StageLemmas.{Follows, follows_then, follows_if, deleted_follows, props_follow, text_follows}
use Rattle.dump_trees.proofs.changes.StepLemmas.{followed}
use Rattle.dump_trees.proofs.expansions.BranchLemmas.{below_joined, graft_outside}
use Rattle.dump_trees.proofs.expansions.DeletionLemmas.{parent_below, deletion_step, still_stand, without, without_none, without_found}
use Rattle.dump_trees.proofs.expansions.StandingLemmas.{step_has}
use Rattle.dump_trees.proofs.expansions.EveryLemmas.{copies_something}

-- whether a path, given from the top on, is below it
abbrev is_deeper : NodePath → Bool
is_deeper [] = false
is_deeper (name ∷ rest) = true

abbrev are_deeper : List NodePath → Bool
are_deeper rests = list_all is_deeper rests

-- what is deleted below the top

module _ (top : NodePath) where
  -- putting a node at the top and deleting below the top can be exchanged
  graft_put : (name : List ℕ) (rest : NodePath) (node : Node) (tree : Tree)
      → grafted (top ++ name ∷ rest) empty_tree (put top node tree)
      ≡ put top node (grafted (top ++ name ∷ rest) empty_tree tree)
  graft_put name rest node tree = λ i. λ path.
      (ap (λ o. at_or_below o empty_tree (at_top (below top path) node (tree path))) (below_joined top (name ∷ rest) path)
      ∙ (cases (below top path) (tree path)
      ∙ ap (λ o. at_top (below top path) node (at_or_below o empty_tree (tree path)))
      (sym (below_joined top (name ∷ rest) path)))) i
    where
      cases : (o : Option NodePath) (old : Option Node)
          → at_or_below (option_and_then (λ more. below (name ∷ rest) more) o) empty_tree (at_top o node old)
          ≡ at_top o node (at_or_below (option_and_then (λ more. below (name ∷ rest) more) o) empty_tree old)
      cases None old = refl
      cases (Some []) old = refl
      cases (Some (other ∷ more)) old = refl

  without_put : (rests : List NodePath) (node : Node) (tree : Tree) → are_deeper rests ≡ true
      → without top rests (put top node tree) ≡ put top node (without top rests tree)
  without_put [] node tree deeper = refl
  without_put ([] ∷ rests) node tree deeper = absurd (let bad : false ≡ true = deeper in cc)
  without_put ((name ∷ rest) ∷ rests) node tree deeper =
      ap (without top rests) (graft_put name rest node tree)
      ∙ without_put rests node (grafted (top ++ name ∷ rest) empty_tree tree) deeper

  -- and what is at the top stays
  without_here : (rests : List NodePath) (tree : Tree) → are_deeper rests ≡ true → without top rests tree top ≡ tree top
  without_here [] tree deeper = refl
  without_here ([] ∷ rests) tree deeper = absurd (let bad : false ≡ true = deeper in cc)
  without_here ((name ∷ rest) ∷ rests) tree deeper =
      without_here rests (grafted (top ++ name ∷ rest) empty_tree tree) deeper
      ∙ graft_outside (top ++ name ∷ rest) empty_tree tree top
      (below_joined top (name ∷ rest) top ∙ ap (option_and_then (λ more. below (name ∷ rest) more)) (below_top top))

  -- the same is deleted from what is grafted at the top
  without_graft : (rests : List NodePath) (new tree : Tree)
      → without top rests (grafted top new tree) ≡ grafted top (without [] rests new) tree
  without_graft [] new tree = refl
  without_graft (rest ∷ rests) new tree =
      ap (without top rests) (λ i. λ path. (ap (λ o. at_or_below o empty_tree (at_or_below (below top path) new (tree path)))
      (below_joined top rest path) ∙ cases (below top path) (tree path)) i)
      ∙ without_graft rests (grafted rest empty_tree new) tree
    where
      cases : (o : Option NodePath) (old : Option Node)
          → at_or_below (option_and_then (λ more. below rest more) o) empty_tree (at_or_below o new old)
          ≡ at_or_below o (grafted rest empty_tree new) old
      cases None old = refl
      cases (Some more) old = refl

  -- so properties and a text can be set at the top before or after

  puts_before : (rests : List NodePath) (change : PropertyChange) (tree : Tree) → are_deeper rests ≡ true
      → props_put change top (without top rests tree) ≡ option_map (without top rests) (props_put change top tree)
  puts_before rests change tree deeper =
      ap (option_map (λ node. put top (with_props change node) (without top rests tree))) (without_here rests tree deeper)
      ∙ cases (tree top)
    where
      cases : (o : Option Node)
          → option_map (λ node. put top (with_props change node) (without top rests tree)) o
          ≡ option_map (without top rests) (option_map (λ node. put top (with_props change node) tree) o)
      cases None = refl
      cases (Some node) = ap Some (sym (without_put rests (with_props change node) tree deeper))

  props_before : (rests : List NodePath) (props : Option PropertyChange) (tree : Tree) → are_deeper rests ≡ true
      → props_set props top (without top rests tree) ≡ option_map (without top rests) (props_set props top tree)
  props_before rests None tree deeper = refl
  props_before rests (Some (PropertyChange.Replaced entries)) tree deeper =
      puts_before rests (PropertyChange.Replaced entries) tree deeper
  props_before rests (Some (PropertyChange.Edited [])) tree deeper = refl
  props_before rests (Some (PropertyChange.Edited (entry ∷ entries))) tree deeper =
      puts_before rests (PropertyChange.Edited (entry ∷ entries)) tree deeper

  text_before : (rests : List NodePath) (text : Option TextChange) (tree : Tree) → are_deeper rests ≡ true
      → text_set text top (without top rests tree) ≡ option_map (without top rests) (text_set text top tree)
  text_before rests None tree deeper = refl
  text_before rests (Some change) tree deeper =
      ap (λ o. option_map (λ node. put top node (without top rests tree)) (option_and_then (λ node. with_text change node) o))
      (without_here rests tree deeper)
      ∙ cases (option_and_then (λ node. with_text change node) (tree top))
    where
      cases : (o : Option Node) → option_map (λ node. put top node (without top rests tree)) o
          ≡ option_map (without top rests) (option_map (λ node. put top node tree) o)
      cases None = refl
      cases (Some node) = ap Some (sym (without_put rests node tree deeper))

  -- if something exists at each path, the paths are deleted one after the other
  deleting : (history : History) (rests : List NodePath) (tree : Tree) → are_deeper rests ≡ true
      → list_all (λ rest. is_some (tree (top ++ rest))) rests ≡ true → none_is_below rests ≡ true
      → steps history tree (deletions top rests) ≡ Some (without top rests tree)
  deleting history [] tree deeper stand apart = refl
  deleting history ([] ∷ rests) tree deeper stand apart = absurd (let bad : false ≡ true = deeper in cc)
  deleting history ((name ∷ rest) ∷ rests) tree deeper stand apart =
      let two =
      and_parts (is_some (tree (top ++ name ∷ rest))) (list_all (λ r. is_some (tree (top ++ r))) rests) stand in
      let three =
      and_parts (list_all (λ other. is_none (below (name ∷ rest) other)) rests) (none_is_below rests) apart in
      ap (option_and_then (λ t. steps history t (deletions top rests)))
      (deletion_step history (top ++ name ∷ rest) tree (parent_below top name rest) two.0)
      ∙ deleting history rests (grafted (top ++ name ∷ rest) empty_tree tree) deeper
      (still_stand top (name ∷ rest) tree rests three.0 two.1) three.1

-- a path stays if nothing at it or above it is deleted
without_apart : (rests : List NodePath) (tree : Tree) (path : NodePath)
    → list_all (λ other. is_none (below other path)) rests ≡ true → without [] rests tree path ≡ tree path
without_apart [] tree path apart = refl
without_apart (rest ∷ rests) tree path apart =
    let parts = and_parts (is_none (below rest path)) (list_all (λ other. is_none (below other path)) rests) apart in
    without_apart rests (grafted rest empty_tree tree) path parts.1 ∙ cases (below rest path) parts.0
  where
    cases : (o : Option NodePath) → is_none o ≡ true → at_or_below o empty_tree (tree path) ≡ tree path
    cases None is = refl
    cases (Some more) is = absurd (let bad : false ≡ true = is in cc)

map_then : (f : Tree → Option Tree) (w : Tree → Tree) (o : Option Tree)
    → option_map w (option_and_then f o) ≡ option_and_then (λ t. option_map w (f t)) o
map_then f w None = refl
map_then f w (Some t) = refl

then_map : (f : Tree → Option Tree) (w : Tree → Tree) → ((t : Tree) → f (w t) ≡ option_map w (f t)) → (o : Option Tree)
    → option_and_then f (option_map w o) ≡ option_map w (option_and_then f o)
then_map f w same None = refl
then_map f w same (Some t) = same t

-- a copy and the deletions after it

module _ (settings : Settings) (IsNew : NewProperty) (exclude : settings.side ≡ Exclude) (top source : NodePath)
    (kept : keeps settings top ≡ true) (kept_source : keeps settings source ≡ true) (rests : List NodePath)
    (old other_old : Tree) (r : IsRestricted settings IsNew old other_old)
    (none_back : (rest : NodePath) (node : Node) → old (source ++ rest) ≡ Some node
    → keeps settings (top ++ rest) ≡ true → keeps settings (source ++ rest) ≡ true)
    (cover : CoverTaken settings old top source rests) where
  -- the paths are below the top, which is kept
  deeper : (paths : List NodePath) → list_all (λ rest. not (keeps settings (top ++ rest))) paths ≡ true
      → are_deeper paths ≡ true
  deeper [] left = refl
  deeper ([] ∷ paths) left =
      absurd (both_ways (keeps settings top)
      (ap (keeps settings) (sym (append-nil top)) ∙ not-true (keeps settings (top ++ []))
      (and_parts (not (keeps settings (top ++ []))) (list_all (λ rest. not (keeps settings (top ++ rest))) paths) left).0)
      kept)
  deeper ((name ∷ rest) ∷ paths) left =
      deeper paths (and_parts (not (keeps settings (top ++ name ∷ rest)))
      (list_all (λ more. not (keeps settings (top ++ more))) paths) left).1

  -- what is kept isn't at or below one of the paths
  apart_from : (paths : List NodePath) → list_all (λ rest. not (keeps settings (top ++ rest))) paths ≡ true
      → (rest : NodePath) → keeps settings (top ++ rest) ≡ true
      → list_all (λ other. is_none (below other rest)) paths ≡ true
  apart_from [] left rest keep = refl
  apart_from (path ∷ paths) left rest keep =
      let parts = and_parts (not (keeps settings (top ++ path))) (list_all (λ more. not (keeps settings (top ++ more))) paths)
      left in
      and_from (is_none (below path rest)) (list_all (λ other. is_none (below other rest)) paths)
      (cases (below path rest) refl (not-true (keeps settings (top ++ path)) parts.0))
      (apart_from paths parts.1 rest keep)
    where
      cases : (o : Option NodePath) → below path rest ≡ o → keeps settings (top ++ path) ≡ false → is_none o ≡ true
      cases None at gone = refl
      cases (Some more) at gone =
          absurd (both_ways (keeps settings (top ++ rest))
          (ap (λ p. keeps settings (top ++ p)) (below_rest path rest more at)
          ∙ (ap (keeps settings) (sym (append_assoc top path more))
          ∙ keeps_nothing settings (top ++ path) more exclude gone)) keep)

  -- what is copied, without these paths
  abbrev taken : Tree
  taken = without [] rests (λ rest. other_old (source ++ rest))

  -- it is what exists at the source, restricted by the paths to which it comes
  taken_restricted : (rest : NodePath) → RestrictedAt settings IsNew (top ++ rest) (old (source ++ rest)) (taken rest)
  taken_restricted rest = (
    λ keep. subst (λ o. IsNewNode IsNew (old (source ++ rest)) o)
        (sym (without_apart rests (λ more. other_old (source ++ more)) rest (apart_from rests cover.left rest keep)))
        (kept_node keep (old (source ++ rest)) refl),
    λ left. none_left left (other_old (source ++ rest)) refl ∙ sym (gives_nothing settings top rest kept left),
  )
    where
      kept_node : keeps settings (top ++ rest) ≡ true → (o : Option Node) → old (source ++ rest) ≡ o
          → IsNewNode IsNew (old (source ++ rest)) (other_old (source ++ rest))
      kept_node keep None at =
          subst (λ o. IsNewNode IsNew o (other_old (source ++ rest))) (sym at)
          (subst (λ o. IsNewNode IsNew None o)
          (sym (nothing_restricted settings IsNew old other_old r source rest kept_source at)) tt)
      kept_node keep (Some node) at = r.kept (source ++ rest) (none_back rest node at keep)

      by_source : keeps settings (top ++ rest) ≡ false → (node : Node) → other_old (source ++ rest) ≡ Some node
          → (b : Bool) → keeps settings (source ++ rest) ≡ b → taken rest ≡ None
      by_source left node at false is =
          absurd (let bad : None ≡ Some node
          = sym (r.left (source ++ rest) is ∙ gives_nothing settings source rest kept_source is) ∙ at in cc)
      by_source left node at true is =
          without_found [] rests (λ more. other_old (source ++ more)) rest
          (cover.all rest (same_presence IsNew (old (source ++ rest)) (other_old (source ++ rest))
          (r.kept (source ++ rest) is) ∙ ap is_some at) is left)

      none_left : keeps settings (top ++ rest) ≡ false → (o : Option Node) → other_old (source ++ rest) ≡ o
          → taken rest ≡ None
      none_left left None at = without_none [] rests (λ more. other_old (source ++ more)) rest at
      none_left left (Some node) at = by_source left node at (keeps settings (source ++ rest)) refl

  -- the copy, with the deletions, follows the copy
  copy_follows : (u v : Tree) → IsRestricted settings IsNew u v
      → Follows settings IsNew (copied source top u old) (option_map (without top rests) (copied source top v other_old))
  copy_follows u v s =
      subst (λ o. Follows settings IsNew (copied source top u old) o)
      (sym (cond_map (is_some (other_old source) && has_directory v top)
      ∙ ap (λ t. cond (is_some (other_old source) && has_directory v top) (Some t) None)
      (without_graft top rests (λ rest. other_old (source ++ rest)) v)))
      (follows_if settings IsNew (is_some (old source) && has_directory u top)
      (is_some (other_old source) && has_directory v top)
      (grafted top (λ rest. old (source ++ rest)) u) (grafted top taken v)
      (λ both. let parts = and_parts (is_some (old source)) (has_directory u top) both in
      and_from (is_some (other_old source)) (has_directory v top)
      (sym (same_presence IsNew (old source) (other_old source) (r.kept source kept_source)) ∙ parts.0)
      (directory_restricted settings IsNew u v s top kept parts.1))
      (graft_restricts settings IsNew top (λ rest. old (source ++ rest)) taken u v s taken_restricted))
    where
      cond_map : (b : Bool)
          → option_map (without top rests) (cond b (Some (grafted top (λ rest. other_old (source ++ rest)) v)) None)
          ≡ cond b (Some (without top rests (grafted top (λ rest. other_old (source ++ rest)) v))) None
      cond_map true = refl
      cond_map false = refl

  -- what is taken exists in the restricted tree too
  taken_stand : (paths : List NodePath) → list_all (λ rest. keeps settings (source ++ rest)) paths ≡ true
      → list_all (λ rest. is_some (old (source ++ rest))) paths ≡ true
      → list_all (λ rest. is_some (other_old (source ++ rest))) paths ≡ true
  taken_stand [] keep stand = refl
  taken_stand (path ∷ paths) keep stand =
      let one = and_parts (keeps settings (source ++ path)) (list_all (λ rest. keeps settings (source ++ rest)) paths) keep in
      let two = and_parts (is_some (old (source ++ path))) (list_all (λ rest. is_some (old (source ++ rest))) paths) stand in
      and_from (is_some (other_old (source ++ path))) (list_all (λ rest. is_some (other_old (source ++ rest))) paths)
      (sym (same_presence IsNew (old (source ++ path)) (other_old (source ++ path)) (r.kept (source ++ path) one.0))
      ∙ two.0)
      (taken_stand paths one.1 two.1)

  module _ (history others : History) (number written : ℕ) (there : history number ≡ Some old)
      (other_there : others written ≡ Some other_old) (deletes : Bool) (props others_props : Option PropertyChange)
      (entries : KeepsEntries IsNew) (both : AreNewProps IsNew props others_props)
      (text : Option TextChange) (before restricted : Tree) (s : IsRestricted settings IsNew before restricted) where
    -- what is written of the copy
    abbrev new : Change
    new = record {
      path = top;
      deletes = deletes;
      made = Some (Made.Copied written source);
      props = others_props;
      text = text;
    }

    made_follows : (u v : Tree) → IsRestricted settings IsNew u v
        → Follows settings IsNew (made_in history (Some (Made.Copied number source)) top u)
        (option_map (without top rests) (made_in others (Some (Made.Copied written source)) top v))
    made_follows u v restricts =
        subst (λ o. Follows settings IsNew (option_and_then (λ tree. copied source top u tree) o)
        (option_map (without top rests) (option_and_then (λ tree. copied source top v tree) (others written)))) (sym there)
        (subst (λ o. Follows settings IsNew (copied source top u old)
        (option_map (without top rests) (option_and_then (λ tree. copied source top v tree) o))) (sym other_there)
        (copy_follows u v restricts))

    -- all stages, and the deletions after them
    trimmed_follows : Follows settings IsNew
        (step history before
        (record { path = top; deletes = deletes; made = Some (Made.Copied number source); props = props; text = text }))
        (option_map (without top rests) (step others restricted new))
    trimmed_follows =
        subst (λ o. Follows settings IsNew (option_and_then (λ t. text_set text top t) first) o)
        (then_map (λ t. text_set text top t) (without top rests)
        (λ t. text_before top rests text t (deeper rests cover.left)) later)
        (follows_then settings IsNew (λ t. text_set text top t) (λ t. text_set text top t) first
        (option_map (without top rests) later)
        (subst (λ o. Follows settings IsNew first o)
        (then_map (λ t. props_set others_props top t) (without top rests)
        (λ t. props_before top rests others_props t (deeper rests cover.left)) making)
        (follows_then settings IsNew (λ t. props_set props top t) (λ t. props_set others_props top t)
        (option_and_then (λ t. made_in history (Some (Made.Copied number source)) top t) (deleted deletes top before))
        (option_map (without top rests) making)
        (subst (λ o. Follows settings IsNew
        (option_and_then (λ t. made_in history (Some (Made.Copied number source)) top t) (deleted deletes top before)) o)
        (sym (map_then (λ t. made_in others (Some (Made.Copied written source)) top t) (without top rests)
        (deleted deletes top restricted)))
        (follows_then settings IsNew (λ t. made_in history (Some (Made.Copied number source)) top t)
        (λ t. option_map (without top rests) (made_in others (Some (Made.Copied written source)) top t))
        (deleted deletes top before) (deleted deletes top restricted)
        (deleted_follows settings IsNew deletes top before restricted kept s) made_follows))
        (λ t u f. props_follow settings IsNew entries props others_props top t u kept both f)))
        (λ t u f. text_follows settings IsNew text top t u kept f))
      where
        making : Option Tree
        making = option_and_then (λ t. made_in others (Some (Made.Copied written source)) top t)
            (deleted deletes top restricted)

        later : Option Tree
        later = option_and_then (λ t. props_set others_props top t)
            (option_and_then (λ t. made_in others (Some (Made.Copied written source)) top t)
            (deleted deletes top restricted))

        first : Option Tree
        first = option_and_then (λ t. props_set props top t)
            (option_and_then (λ t. made_in history (Some (Made.Copied number source)) top t) (deleted deletes top before))

    -- what is deleted exists after the copy
    stand_there : (mid : Tree) → step others restricted new ≡ Some mid → (paths : List NodePath)
        → are_deeper paths ≡ true → list_all (λ rest. is_some (other_old (source ++ rest))) paths ≡ true
        → list_all (λ rest. is_some (mid (top ++ rest))) paths ≡ true
    stand_there mid at [] deep stand = refl
    stand_there mid at ([] ∷ paths) deep stand = absurd (let bad : false ≡ true = deep in cc)
    stand_there mid at ((name ∷ rest) ∷ paths) deep stand =
        let parts = and_parts (is_some (other_old (source ++ name ∷ rest)))
        (list_all (λ more. is_some (other_old (source ++ more))) paths) stand in
        and_from (is_some (mid (top ++ name ∷ rest))) (list_all (λ more. is_some (mid (top ++ more))) paths)
        (ap is_some (sym (step_has others restricted mid new (top ++ name ∷ rest) (name ∷ rest)
        (below_found top (name ∷ rest)) at)
        ∙ ap (option_and_then (λ tree. tree (source ++ name ∷ rest))) other_there) ∙ parts.0)
        (stand_there mid at paths deep parts.1)

    -- so the deletions can be made, and lead to the restricted tree
    pub trimmed_leads : (after : Tree)
        → step history before
        (record { path = top; deletes = deletes; made = Some (Made.Copied number source); props = props; text = text })
        ≡ Some after
        → (other : Tree) × (steps others restricted (new ∷ deletions top rests) ≡ Some other)
        × IsRestricted settings IsNew after other
    trimmed_leads after at =
        let done = followed settings IsNew
        (step history before
        (record { path = top; deletes = deletes; made = Some (Made.Copied number source); props = props; text = text }))
        (option_map (without top rests) (step others restricted new)) trimmed_follows after at in
        cases done.0 done.2 (step others restricted new) refl done.1
      where
        cases : (other : Tree) → IsRestricted settings IsNew after other → (o : Option Tree)
            → step others restricted new ≡ o → option_map (without top rests) o ≡ Some other
            → (other : Tree) × (steps others restricted (new ∷ deletions top rests) ≡ Some other)
            × IsRestricted settings IsNew after other
        cases other restricts None stepped is = absurd (let bad : None ≡ Some other = is in cc)
        cases other restricts (Some mid) stepped is = (
          without top rests mid,
          ap (option_and_then (λ t. steps others t (deletions top rests))) stepped
              ∙ deleting top others rests mid (deeper rests cover.left)
              (stand_there mid stepped rests (deeper rests cover.left) (taken_stand rests cover.kept cover.stand))
              cover.apart,
          (let same : other ≡ without top rests mid
              = (let both : Some (without top rests mid) ≡ Some other = is in cc) in
              subst (λ t. IsRestricted settings IsNew after t) same restricts),
        )

-- copies

-- a copy of a kept path stays one
stays_copy : (settings : Settings) (IsNumber : NewNumber) (whole : Bool) (number : ℕ) (source : NodePath)
    (made : Option Made) → keeps settings source ≡ true
    → IsNewMade settings IsNumber whole (Some (Made.Copied number source)) made
    → (written : ℕ) × IsNumber number written × (made ≡ Some (Made.Copied written source))
stays_copy settings IsNumber whole number source None kept is = absurd is
stays_copy settings IsNumber whole number source (Some Made.NewDirectory) kept is = absurd is
stays_copy settings IsNumber whole number source (Some Made.NewFile) kept is =
    absurd (both_ways (keeps settings source) is.0 kept)
stays_copy settings IsNumber whole number source (Some (Made.Copied written same)) kept is =
    (written, is.1, ap (λ p. Some (Made.Copied written p)) is.2)

-- if prefixes are excluded, and nothing comes back by a kept copy: what the filter writes for it, and then the
-- deletions, lead from the restricted tree to the restricted one. The deletions are of what the copy takes to paths
-- that aren't kept
pub trimmed_copy : (settings : Settings) (IsNew : NewProperty) (IsNumber : NewNumber) → KeepsEntries IsNew
    → (history others : History) (before after restricted old : Tree) (c new : Change) (number : ℕ) (source : NodePath)
    (rests : List NodePath) → settings.side ≡ Exclude
    → AreRestricted settings IsNew IsNumber history others → IsRestricted settings IsNew before restricted
    → step history before c ≡ Some after
    → keeps settings c.path ≡ true → c.made ≡ Some (Made.Copied number source) → history number ≡ Some old
    → (ComesBack settings history c → ⊥) → CoverTaken settings old c.path source rests
    → IsNewChange settings IsNew IsNumber c new
    → (other : Tree) × (steps others restricted (new ∷ deletions c.path rests) ≡ Some other)
    × IsRestricted settings IsNew after other
trimmed_copy settings IsNew IsNumber entries history others before after restricted old c new number source rests exclude
    same r at kept is there none cover is_new =
    let (written, numbered, made) = stays_copy settings IsNumber (sets_whole c) number source new.made kept_source
    (subst (λ m. IsNewMade settings IsNumber (sets_whole c) m new.made) is is_new.made) in
    let (other_old, other_there, restricts) = same number written old numbered there in
    let (other, leads, done) = trimmed_leads settings IsNew exclude c.path source kept kept_source rests old other_old
    restricts none_back cover history others number written there other_there c.deletes c.props new.props entries
    is_new.props c.text before restricted r after
    (sym (ap (λ m. step history before
    (record { path = c.path; deletes = c.deletes; made = m; props = c.props; text = c.text })) is) ∙ at) in
    (other, ap (option_and_then (λ t. steps others t (deletions c.path rests))) (moved written made) ∙ leads, done)
  where
    -- at each rest of the source something comes back, or it is kept
    back_or_kept : (rest : NodePath) → is_some (old (source ++ rest)) ≡ true → keeps settings (c.path ++ rest) ≡ true
        → (b : Bool) → keeps settings (source ++ rest) ≡ b → b ≡ true
    back_or_kept rest stands keep true here = refl
    back_or_kept rest stands keep false here =
        absurd (none record {
          number = number;
          source = source;
          old = old;
          rest = rest;
          copies = is;
          there = there;
          stands = stands;
          kept = keep;
          left = here;
        })

    none_back : (rest : NodePath) (node : Node) → old (source ++ rest) ≡ Some node
        → keeps settings (c.path ++ rest) ≡ true → keeps settings (source ++ rest) ≡ true
    none_back rest node here keep =
        back_or_kept rest (ap is_some here) keep (keeps settings (source ++ rest)) refl

    kept_source : keeps settings source ≡ true
    kept_source =
        let (node, here) = copies_something history before after old c number source is there at in
        sym (ap (keeps settings) (append-nil source))
        ∙ none_back [] node (ap old (append-nil source) ∙ here) (ap (keeps settings) (append-nil c.path) ∙ kept)

    moved : (written : ℕ) → new.made ≡ Some (Made.Copied written source)
        → step others restricted new ≡ step others restricted
        (record {
          path = c.path;
          deletes = c.deletes;
          made = Some (Made.Copied written source);
          props = new.props;
          text = c.text;
        })
    moved written made = λ i. step others restricted
        (record { path = is_new.path i; deletes = is_new.deletes i; made = made i; props = new.props; text = is_new.text i })
