-- In place of the changes of a dump that loads, no copy is over what its own revision changed.
use Rattle.std.proofs.Common.{◌≡◌, ℕ, Bool, true, false, not, ◌&&◌, ◌||◌, List, [], ◌∷◌, ◌++◌, length, map, take, drop, Option, Some, None, is_some, bytes_eq, refl, sym, ap, ap₂, ◌∙◌, subst, append_assoc, append-nil, inl, inr}
use Rattle.std.specs.Prelude.{slice_get, ⊤}
use Rattle.std.specs.List.{AllByRecursion, AllZip}
use Rattle.std.specs.List.Sorted.{IsStrictlySortedBy}
use Rattle.std.specs.Cmp.Lexicographic.{slice_cmp}
use Rattle.std.specs.Ordering.{nat_cmp}
use Rattle.std.proofs.lemmas.Bool.{and_cases, and_left, and_parts, and_right, both_ways, not-true, not_from_true, or_cases, or_from, or_left, or_parts, or_right}
use Rattle.std.proofs.lemmas.Option.{same_Some}
use Rattle.std.proofs.lemmas.Slice.Eq.{bytes_eq-Decides}
use Rattle.dump_text.specs.PropertyList.{Property}
use Rattle.dump_trees.specs.Changes.{Change, History, Made, is_copied, step, steps}
use Rattle.dump_trees.specs.steps.ExpansionCases.{deletion_of}
use Rattle.dump_trees.specs.LoadCheck.{sets_props}
use Rattle.dump_trees.specs.steps.LoadCheck.{Kinds, delta_applies, is_directory, is_file, kind_left, kind_made, kinds_allow, kinds_before, making_allowed, node_set}
use Rattle.dump_trees.specs.Paths.{NodePath, below, names_of}
use Rattle.dump_trees.specs.Revisions.{loaded}
use Rattle.dump_trees.specs.Trees.{Tree}
use Rattle.dump_trees.specs.steps.Trees.{HasDirectories}
use Rattle.dump_trees.proofs.changes.TreeLemmas.{below_found, below_rest}
use Rattle.dump_trees.proofs.cuts.CheckedSteps.{change_leaves, kind_of_left, kind_of_made, kind_some, left_of, made_over, step_is_allowed}
use Rattle.dump_trees.proofs.cuts.EverSiblings.{file_some}
use Rattle.dump_trees.proofs.cuts.CoveredPaths.{exists_above}
use Rattle.dump_trees.proofs.cuts.FollowLemmas.{then_some}
use Rattle.dump_trees.proofs.quiet.LeavingLemmas.{step_leaves}
use Rattle.dump_history.specs.CopiesOver.{copies_over_changed, copies_to, is_changed_after, some_copies_over}
use Rattle.dump_history.specs.steps.ExpandedDumps.{Stead}
use Rattle.dump_history.specs.steps.ExpandedText.{changes_for, expanded_changes}
use Rattle.dump_history.specs.WrittenNodes.{WrittenNode}
use Rattle.dump_history.specs.steps.WrittenNodes.{written_change}
use Rattle.dump_index.specs.steps.Children.{is_child_named}
use Rattle.dump_index.specs.steps.Kinds.{kind_look}
use Rattle.dump_index.specs.steps.Listed.{Listed}
use Rattle.dump_changes.specs.steps.FileTexts.{ToldText}
use Rattle.dump_expansion.specs.steps.ByChanges.{expanded_by}
use Rattle.dump_expansion.specs.steps.GivenSteads.{GivenStead}
use Rattle.dump_additions.specs.steps.Additions.{AreNodesOf, IsAddition, IsNodeOfForm, MakesRoot, copies_over}
use Rattle.dump_additions.specs.steps.Parts.{Copied, Named, NoName, NoPart, Opened, WrittenFile, ArePartsIn, ArePartsOf, PartMeant}
use Rattle.dump_additions.specs.declared.parts.Form.{Form}
use Rattle.dump_additions.specs.declared.parts.Form.TheVariants.{Copy, Directory, File}
use Rattle.dump_additions.proofs.AdditionLemmas.{AllKnown, AllRevisionsKnown, ClearedFirst, InPlace, IsKnown, IsSteadAt, LeftAlone}
use Rattle.dump_additions.proofs.WrittenLemmas.{head_once, tail_ordered}
use Rattle.dump_trees.proofs.paths.PrefixRests.{same_rest}

-- changes one after the other

-- whether the path is changed after these changes
abbrev changed_after : NodePath → Bool → List Change → Bool
changed_after path changed [] = changed
changed_after path changed (c ∷ changes) = changed_after path (is_changed_after (below c.path path) c changed) changes

none_then : (path : NodePath) (xs ys : List Change) (changed : Bool) → copies_over_changed path changed xs ≡ false
    → copies_over_changed path (changed_after path changed xs) ys ≡ false
    → copies_over_changed path changed (xs ++ ys) ≡ false
none_then path [] ys changed one two = two
none_then path (c ∷ xs) ys changed one two =
    let parts = or_parts (changed && copies_to (below c.path path) c)
    (copies_over_changed path (is_changed_after (below c.path path) c changed) xs) one in
    or_from _ _ parts.0 (none_then path xs ys (is_changed_after (below c.path path) c changed) parts.1 two)

-- what is changed exists

held : (b x : Bool) → b ≡ true → (not b || x) ≡ true → x ≡ true
held true x holds is = is
held false x holds is = absurd (let bad : false ≡ true = holds in cc)

-- if the kinds allow a change, and it changes what exists at its path, something exists there after it
allowed_exists : (c : Change) (kinds : Kinds) (changed : Bool) → (changed ≡ true → is_some kinds.here ≡ true)
    → kinds_allow c kinds ≡ true → is_changed_after (Some []) c changed ≡ true
    → is_some (kind_made c.made (kind_left c.deletes kinds.here) kinds.source) ≡ true
allowed_exists c kinds changed was allowed is =
    let texts = and_parts _ (not (is_some c.text) || is_file (kind_made c.made (kind_left c.deletes kinds.here) kinds.source))
    allowed in
    let props = and_parts _ (not (sets_props c.props) || is_some (kind_made c.made (kind_left c.deletes kinds.here) kinds.source))
    texts.0 in
    let makes = and_parts _ (making_allowed c.made (kind_left c.deletes kinds.here) kinds) props.0 in
    cases c.made c.deletes makes.1 props.1 texts.1 is
  where
    cases : (made : Option Made) (deletes : Bool) → making_allowed made (kind_left deletes kinds.here) kinds ≡ true
        → (not (sets_props c.props) || is_some (kind_made made (kind_left deletes kinds.here) kinds.source)) ≡ true
        → (not (is_some c.text) || is_file (kind_made made (kind_left deletes kinds.here) kinds.source)) ≡ true
        → (is_some made || (not deletes && (changed || (deletes || is_some made || sets_props c.props || is_some c.text)))) ≡ true
        → is_some (kind_made made (kind_left deletes kinds.here) kinds.source) ≡ true
    cases None true makes props text is = absurd (let bad : false ≡ true = is in cc)
    cases None false makes props text is =
        elim (or_cases changed (sets_props c.props || is_some c.text) is) [
          | inl holds ↦ was holds
          | inr set ↦ elim (or_cases (sets_props c.props) (is_some c.text) set) [
            | inl sets ↦ held (sets_props c.props) (is_some kinds.here) sets props
            | inr sets ↦ file_some kinds.here (held (is_some c.text) (is_file kinds.here) sets text)
          ]
        ]
    cases (Some Made.NewDirectory) deletes makes props text is = refl
    cases (Some Made.NewFile) deletes makes props text is = refl
    cases (Some (Made.Copied number source)) deletes makes props text is =
        (and_parts (is_some kinds.source) (is_directory kinds.parent) makes).0

step_exists : (history : History) (before after : Tree) (c : Change) (changed : Bool)
    → (changed ≡ true → is_some (before c.path) ≡ true) → step history before c ≡ Some after
    → is_changed_after (Some []) c changed ≡ true → is_some (after c.path) ≡ true
step_exists history before after c changed was at is =
    change_leaves history before after c
    (sym (kind_some (made_over history before c))
    ∙ (ap is_some (kind_of_made history c.made (left_of c.deletes (before c.path))
    ∙ ap (λ k. kind_made c.made k kinds.source) (kind_of_left c.deletes (before c.path)))
    ∙ allowed_exists c kinds changed (λ holds. kind_some (before c.path) ∙ was holds) allowed is)) at
  where
    kinds : Kinds
    kinds = kinds_before history before c

    allowed : kinds_allow c kinds ≡ true
    allowed =
        (and_parts (kinds_allow c kinds) (delta_applies c.text (node_set history before c))
        (sym (step_is_allowed history before c) ∙ ap is_some at)).0

-- what is copied is made
copied_some : (made : Option Made) → is_copied made ≡ true → is_some made ≡ true
copied_some None is = absurd (let bad : false ≡ true = is in cc)
copied_some (Some m) is = refl

-- a change
changed_exists : (history : History) (before after : Tree) (c : Change) (path : NodePath) (changed : Bool)
    → (changed ≡ true → is_some (before path) ≡ true) → step history before c ≡ Some after
    → is_changed_after (below c.path path) c changed ≡ true → is_some (after path) ≡ true
changed_exists history before after c path changed was at = cases (below c.path path) refl
  where
    cases : (o : Option NodePath) → below c.path path ≡ o → is_changed_after o c changed ≡ true
        → is_some (after path) ≡ true
    cases None apart is =
        ap is_some (step_leaves history before after c path None apart tt (λ d. refl) (λ d. refl) at) ∙ was is
    cases (Some []) found is =
        let same : path ≡ c.path = below_rest c.path path [] found ∙ append-nil c.path in
        ap (λ p. is_some (after p)) same
        ∙ step_exists history before after c changed (λ holds. ap (λ p. is_some (before p)) (sym same) ∙ was holds) at is
    cases (Some (name ∷ rest)) found is =
        let parts = and_parts changed (not (c.deletes || is_some c.made)) is in
        let quiet = or_parts c.deletes (is_some c.made) (not-true (c.deletes || is_some c.made) parts.1) in
        ap is_some (step_leaves history before after c path (Some (name ∷ rest)) found tt
        (λ d. absurd (both_ways c.deletes quiet.0 d)) (λ d. absurd (both_ways (is_some c.made) quiet.1 (copied_some c.made d))) at)
        ∙ was parts.0

-- several changes
steps_exist : (history : History) (path : NodePath) (cs : List Change) (before after : Tree) (changed : Bool)
    → (changed ≡ true → is_some (before path) ≡ true) → steps history before cs ≡ Some after
    → changed_after path changed cs ≡ true → is_some (after path) ≡ true
steps_exist history path [] before after changed was at is =
    ap (λ (t : Tree). is_some (t path)) (same_Some after before (sym at)) ∙ was is
steps_exist history path (c ∷ cs) before after changed was at is =
    let (middle, first, rest) = then_some (λ t. steps history t cs) (step history before c) after at in
    steps_exist history path cs middle after (is_changed_after (below c.path path) c changed)
    (λ holds. changed_exists history before middle c path changed was first holds) rest is

-- changes at other paths copy nothing to a path

abbrev NotAt : NodePath → List Change → Type 0
NotAt path changes = AllByRecursion (λ (c : Change). c.path ≡ path → ⊥) changes

copies_elsewhere : (o : Option NodePath) (c : Change) → (o ≡ Some [] → ⊥) → copies_to o c ≡ false
copies_elsewhere None c other = refl
copies_elsewhere (Some []) c other = absurd (other refl)
copies_elsewhere (Some (name ∷ rest)) c other = refl

none_elsewhere : (path : NodePath) (cs : List Change) (changed : Bool) → NotAt path cs
    → copies_over_changed path changed cs ≡ false
none_elsewhere path [] changed apart = refl
none_elsewhere path (c ∷ cs) changed (other, apart) =
    or_from _ _
    (and_right changed _
    (copies_elsewhere (below c.path path) c
    (λ is. other (sym (below_rest c.path path [] is ∙ append-nil c.path)))))
    (none_elsewhere path cs (is_changed_after (below c.path path) c changed) apart)

-- parts are at different paths

all_append : (P : PartMeant → Type 0) (xs ys : List PartMeant) → AllByRecursion P xs → AllByRecursion P ys
    → AllByRecursion P (xs ++ ys)
all_append P [] ys one two = two
all_append P (x ∷ xs) ys (here, one) two = (here, all_append P xs ys one two)

all_weaker : (P Q : PartMeant → Type 0) → ((x : PartMeant) → P x → Q x) → (xs : List PartMeant) → AllByRecursion P xs
    → AllByRecursion Q xs
all_weaker P Q more [] all = tt
all_weaker P Q more (x ∷ xs) (here, all) = (more x here, all_weaker P Q more xs all)

-- no part has this rest
abbrev NoneAt : NodePath → List PartMeant → Type 0
NoneAt rest parts = AllByRecursion (λ (part : PartMeant). part.rest ≡ rest → ⊥) parts

-- each part has another rest
abbrev AllApart : List PartMeant → Type 0
AllApart [] = ⊤
AllApart (part ∷ parts) = NoneAt part.rest parts × AllApart parts

apart_append : (first others : List PartMeant) → AllApart first → AllApart others
    → AllByRecursion (λ (part : PartMeant). NoneAt part.rest others) first → AllApart (first ++ others)
apart_append [] others one two across = two
apart_append (part ∷ first) others (own, one) two (here, across) = (
  all_append (λ (other : PartMeant). other.rest ≡ part.rest → ⊥) first others own here,
  apart_append first others one two across,
)

abbrev IsWithin : NodePath → PartMeant → Type 0
IsWithin top part = (more : NodePath) × (part.rest ≡ top ++ more)

abbrev IsInside : NodePath → List (List ℕ) → PartMeant → Type 0
IsInside top names part =
    (name : List ℕ) × (more : NodePath) × (part.rest ≡ top ++ name ∷ more) × (is_child_named names name ≡ true)

module _ (listed : List Listed) (excluded : List NodePath) (number : ℕ) (path source : NodePath) where
  mutual
    all_within : (rest : NodePath) (parts : List PartMeant) → ArePartsOf listed excluded number path source rest parts
        → AllByRecursion (IsWithin rest) parts
    all_within rest _ (NoPart _ form) = tt
    all_within rest _ (Copied _ form) = (([], sym (append-nil rest)), tt)
    all_within rest _ (WrittenFile _ form) = (([], sym (append-nil rest)), tt)
    all_within rest _ (Opened _ names parts form children inside) = (
      ([], sym (append-nil rest)),
      all_weaker (IsInside rest names) (IsWithin rest) (λ part w. (w.0 ∷ w.1, w.2)) parts
          (all_inside rest names parts inside),
    )

    all_inside : (rest : NodePath) (names : List (List ℕ)) (parts : List PartMeant)
        → ArePartsIn listed excluded number path source rest names parts → AllByRecursion (IsInside rest names) parts
    all_inside rest _ _ (NoName _) = tt
    all_inside rest _ _ (Named _ name names first others one more) =
        all_append (IsInside rest (name ∷ names)) first others
        (all_weaker (IsWithin (rest ++ name ∷ [])) (IsInside rest (name ∷ names))
        (λ part w. (
          name,
          w.0,
          w.1 ∙ append_assoc rest (name ∷ []) w.0,
          or_left (bytes_eq name name) _ ((bytes_eq-Decides name name).1 refl),
        )) first (all_within (rest ++ name ∷ []) first one))
        (all_weaker (IsInside rest names) (IsInside rest (name ∷ names))
        (λ part w. (w.0, w.1, w.2, or_right (bytes_eq name w.0) _ w.3)) others (all_inside rest names others more))

  not_below_itself : (rest : NodePath) (name : List ℕ) (more : NodePath) → rest ++ name ∷ more ≡ rest → ⊥
  not_below_itself rest name more is =
      let bad : name ∷ more ≡ [] = same_rest rest (name ∷ more) [] (is ∙ sym (append-nil rest)) in cc

  other_names : (rest : NodePath) (name other : List ℕ) (names : List (List ℕ)) (more others : NodePath)
      → is_child_named names name ≡ false → is_child_named names other ≡ true
      → rest ++ other ∷ others ≡ (rest ++ name ∷ []) ++ more → ⊥
  other_names rest name other names more others new named is =
      let both : other ∷ others ≡ name ∷ more =
      same_rest rest (other ∷ others) (name ∷ more) (is ∙ append_assoc rest (name ∷ []) more) in
      let same : other ≡ name = cc in
      both_ways (is_child_named names name) new (ap (is_child_named names) (sym same) ∙ named)

  mutual
    parts_apart : (rest : NodePath) (parts : List PartMeant) → ArePartsOf listed excluded number path source rest parts
        → AllApart parts
    parts_apart rest _ (NoPart _ form) = tt
    parts_apart rest _ (Copied _ form) = (tt, tt)
    parts_apart rest _ (WrittenFile _ form) = (tt, tt)
    parts_apart rest _ (Opened _ names parts form children inside) = (
      all_weaker (IsInside rest names) (λ (part : PartMeant). part.rest ≡ rest → ⊥)
          (λ part w same. not_below_itself rest w.0 w.1 (sym w.2 ∙ same)) parts (all_inside rest names parts inside),
      inside_apart rest names parts inside children.ordered,
    )

    inside_apart : (rest : NodePath) (names : List (List ℕ)) (parts : List PartMeant)
        → ArePartsIn listed excluded number path source rest names parts
        → IsStrictlySortedBy (slice_cmp nat_cmp) names → AllApart parts
    inside_apart rest _ _ (NoName _) ordered = tt
    inside_apart rest _ _ (Named _ name names first others one more) ordered =
        apart_append first others (parts_apart (rest ++ name ∷ []) first one)
        (inside_apart rest names others more (tail_ordered name names ordered))
        (all_weaker (IsWithin (rest ++ name ∷ [])) (λ (part : PartMeant). NoneAt part.rest others)
        (λ part w. all_weaker (IsInside rest names) (λ (other : PartMeant). other.rest ≡ part.rest → ⊥)
        (λ other v same. other_names rest name v.0 names w.0 v.1 (head_once name names ordered) v.3 (sym v.2 ∙ (same ∙ w.1)))
        others (all_inside rest names others more)) first (all_within (rest ++ name ∷ []) first one))

-- the changes that write parts

-- each change is at the path of its part
abbrev AreAtParts : NodePath → List PartMeant → List Change → Type 0
AreAtParts top parts changes = AllZip (λ (part : PartMeant) (c : Change). c.path ≡ top ++ part.rest) parts changes

module _ (top path : NodePath) where
  not_at_others : (rest : NodePath) (parts : List PartMeant) (xs : List Change) → path ≡ top ++ rest → NoneAt rest parts
      → AreAtParts top parts xs → NotAt path xs
  not_at_others rest [] [] same apart are = tt
  not_at_others rest [] (x ∷ xs) same apart are = absurd are
  not_at_others rest (part ∷ parts) [] same apart are = absurd are
  not_at_others rest (part ∷ parts) (x ∷ xs) same (other, apart) (is, are) = (
    λ here. other (same_rest top part.rest rest (sym is ∙ (here ∙ same))),
    not_at_others rest parts xs same apart are,
  )

  not_at_outside : (parts : List PartMeant) (xs : List Change) → below top path ≡ None → AreAtParts top parts xs
      → NotAt path xs
  not_at_outside [] [] outside are = tt
  not_at_outside [] (x ∷ xs) outside are = absurd are
  not_at_outside (part ∷ parts) [] outside are = absurd are
  not_at_outside (part ∷ parts) (x ∷ xs) outside (is, are) = (
    λ here. let bad : None ≡ Some part.rest =
        sym outside ∙ (ap (below top) (sym here ∙ is) ∙ below_found top part.rest) in cc,
    not_at_outside parts xs outside are,
  )

  -- one part after the other
  none_apart : (parts : List PartMeant) (xs : List Change) → AllApart parts → AreAtParts top parts xs
      → copies_over_changed path false xs ≡ false
  none_apart [] [] apart are = refl
  none_apart [] (x ∷ xs) apart are = absurd are
  none_apart (part ∷ parts) [] apart are = absurd are
  none_apart (part ∷ parts) (x ∷ xs) (own, apart) (is, are) =
      cases (none_apart parts xs apart are) (below x.path path) refl
    where
      cases : copies_over_changed path false xs ≡ false → (o : Option NodePath) → below x.path path ≡ o
          → copies_over_changed path (is_changed_after o x false) xs ≡ false
      cases further None at = further
      cases further (Some (name ∷ rest)) at = further
      cases further (Some []) at =
          none_elsewhere path xs (is_changed_after (Some []) x false)
          (not_at_others part.rest parts xs (below_rest x.path path [] at ∙ (append-nil x.path ∙ is)) own are)

  copies_none : (o : Option NodePath) (c : Change) → is_copied c.made ≡ false → copies_to o c ≡ false
  copies_none None c plain = refl
  copies_none (Some []) c plain = and_left (is_copied c.made) (not c.deletes) plain
  copies_none (Some (name ∷ rest)) c plain = refl

  -- after a root that is no copy, and replaces what exists
  none_in_addition : (before : Tree) → HasDirectories before → (changed : Bool)
      → (changed ≡ true → is_some (before path) ≡ true) → (root : Change) → root.path ≡ top
      → root.deletes ≡ is_some (before top) → is_copied root.made ≡ false → (parts : List PartMeant) (xs : List Change)
      → NoneAt [] parts → AllApart parts → AreAtParts top parts xs → copies_over_changed path changed (root ∷ xs) ≡ false
  none_in_addition before directories changed was root root_path deletes plain parts xs below_root apart are =
      subst (λ p. ((changed && copies_to (below p path) root)
      || copies_over_changed path (is_changed_after (below p path) root changed) xs) ≡ false) (sym root_path)
      (or_from _ _ (and_right changed _ (copies_none (below top path) root plain)) (cases (below top path) refl))
    where
      replaced : (name : List ℕ) (rest : NodePath) → below top path ≡ Some (name ∷ rest) → (b : Bool) → changed ≡ b
          → (b && not (root.deletes || is_some root.made)) ≡ false
      replaced name rest at false same = refl
      replaced name rest at true same =
          not_from_true (root.deletes || is_some root.made)
          (or_left root.deletes (is_some root.made)
          (deletes ∙ exists_above before directories top (name ∷ rest)
          (ap (λ p. is_some (before p)) (sym (below_rest top path (name ∷ rest) at)) ∙ was same)))

      cases : (o : Option NodePath) → below top path ≡ o
          → copies_over_changed path (is_changed_after o root changed) xs ≡ false
      cases None at = none_elsewhere path xs changed (not_at_outside parts xs at are)
      cases (Some []) at =
          none_elsewhere path xs (is_changed_after (Some []) root changed)
          (not_at_others [] parts xs (below_rest top path [] at) below_root are)
      cases (Some (name ∷ rest)) at =
          subst (λ b. copies_over_changed path b xs ≡ false) (sym (replaced name rest at changed refl))
          (none_apart parts xs apart are)

-- a copy after a deletion at its path
none_cleared : (o : Option NodePath) (c : Change) (changed : Bool)
    → ((changed && copies_to o (deletion_of c.path))
    || ((is_changed_after o (deletion_of c.path) changed && copies_to o c) || false)) ≡ false
none_cleared None c true = refl
none_cleared None c false = refl
none_cleared (Some []) c true = refl
none_cleared (Some []) c false = refl
none_cleared (Some (name ∷ rest)) c true = refl
none_cleared (Some (name ∷ rest)) c false = refl

-- what is in place of changes

module _ (blocks : List (List ℕ)) (texts : List ToldText) (listed : List Listed) (excluded : List NodePath)
    (path : NodePath) where
  -- the nodes of an addition
  node_path : (number : ℕ) (top source : NodePath) (form : Form) (rest : NodePath) (w : WrittenNode)
      → IsNodeOfForm blocks texts listed excluded number top source form rest w → (written_change w).path ≡ top ++ rest
  node_path number top source Copy rest w is = ap (λ (c : Change). c.path) is.0
  node_path number top source Directory rest w (text, entries, text_is, change_is, are) =
      ap (λ (c : Change). c.path) change_is
  node_path number top source File rest w (text, entries, its, text_is, change_is, said, are, set) =
      ap (λ (c : Change). c.path) change_is

  at_parts : (number : ℕ) (top source : NodePath) (parts : List PartMeant) (nodes : List WrittenNode)
      → AreNodesOf blocks texts listed excluded number top source parts nodes
      → AreAtParts top parts (map written_change nodes)
  at_parts number top source [] [] are = tt
  at_parts number top source [] (w ∷ nodes) are = absurd are
  at_parts number top source (part ∷ parts) [] are = absurd are
  at_parts number top source (part ∷ parts) (w ∷ nodes) (is, are) =
      (node_path number top source part.form part.rest w is, at_parts number top source parts nodes are)

  record IsPlainRoot (place : ℕ) (l : Listed) (root : Change) : Type 0 where
    pub at : root.path ≡ names_of l.path
    pub deletes : root.deletes ≡ is_some (kind_look listed place (names_of l.path))
    pub plain : is_copied root.made ≡ false

  plain_root : (place : ℕ) (l : Listed) (own : List Property) (form : Form) (w : WrittenNode)
      → MakesRoot blocks texts listed excluded place l own form w → IsPlainRoot place l (written_change w)
  plain_root place l own Copy w makes = absurd makes
  plain_root place l own Directory w (keeps, is) = record {
    at = ap (λ (c : Change). c.path) is;
    deletes = ap (λ (c : Change). c.deletes) is;
    plain = ap (λ (c : Change). is_copied c.made) is;
  }
  plain_root place l own File w (its, set, said, is) = record {
    at = ap (λ (c : Change). c.path) is;
    deletes = ap (λ (c : Change). c.deletes) is;
    plain = ap (λ (c : Change). is_copied c.made) is;
  }

  module _ (history : History) (before : Tree) (c : Change) (s : Stead) (changed : Bool)
      (was : changed ≡ true → is_some (before path) ≡ true)
      (k : IsKnown blocks texts listed excluded history before c s) where
    -- a change that doesn't copy over something
    alone : copies_over listed k.place k.l ≡ false → (o : Option NodePath) → below c.path path ≡ o
        → (changed && copies_to o c) ≡ false
    alone over None at = and_right changed false refl
    alone over (Some (name ∷ rest)) at = and_right changed false refl
    alone over (Some []) at = cases changed refl
      where
        here : path ≡ names_of k.l.path
        here = below_rest c.path path [] at ∙ (append-nil c.path ∙ k.is.path)

        cases : (b : Bool) → changed ≡ b → (b && (is_copied c.made && not c.deletes)) ≡ false
        cases false same = refl
        cases true same =
            elim (and_cases (is_copied k.l.made && not k.l.deletes)
            (is_some (kind_look listed k.place (names_of k.l.path))) over) [
              | inl no_copy ↦ ap₂ (λ m d. is_copied m && not d) k.is.made k.is.deletes ∙ no_copy
              | inr nothing ↦
                  absurd (both_ways (is_some (kind_look listed k.place (names_of k.l.path))) nothing
                  (k.kinds (names_of k.l.path) ∙ (ap (λ p. is_some (before p)) (sym here) ∙ was same)))
            ]

    addition : (g : GivenStead) → IsAddition blocks texts listed excluded k.place k.l g
        → copies_over_changed path changed (map written_change g.nodes) ≡ false
    addition g a =
        let root = plain_root k.place k.l a.is_root.own a.form a.root a.is_root.makes in
        let apart = parts_apart listed excluded a.number (names_of k.l.path) a.source []
        (record { form = a.form; rest = [] } ∷ a.parts) a.are_parts in
        subst (λ ws. copies_over_changed path changed (map written_change ws) ≡ false)
        (sym (ap (λ (x : GivenStead). x.nodes) a.given))
        (none_in_addition (names_of k.l.path) path before k.directories changed was (written_change a.root) root.at
        (root.deletes ∙ k.kinds (names_of k.l.path)) root.plain a.parts (map written_change a.nodes) apart.0 apart.1
        (at_parts a.number (names_of k.l.path) a.source a.parts a.nodes a.are_nodes))

    by_stead : IsSteadAt blocks texts listed excluded k.place k.l s
        → copies_over_changed path changed (changes_for s c) ≡ false
    by_stead (LeftAlone same over) =
        subst (λ x. copies_over_changed path changed (changes_for x c) ≡ false) (sym same)
        (or_from _ _ (alone over (below c.path path) refl) refl)
    by_stead (ClearedFirst w same clears over) =
        subst (λ x. copies_over_changed path changed (changes_for x c) ≡ false) (sym same)
        (subst (λ d. copies_over_changed path changed (d ∷ c ∷ []) ≡ false)
        (sym (clears ∙ ap deletion_of (sym k.is.path))) (none_cleared (below c.path path) c changed))
    by_stead (InPlace g a same) =
        subst (λ x. copies_over_changed path changed (changes_for x c) ≡ false) (sym same)
        (subst (λ cs. copies_over_changed path changed cs ≡ false) (sym (append-nil (map written_change g.nodes)))
        (addition g a))

  -- the changes of a revision, before which the path is changed only if something exists there
  changes_none : (history : History) (cs : List Change) (steads : List Stead) (before after : Tree) (changed : Bool)
      → (changed ≡ true → is_some (before path) ≡ true)
      → AllKnown blocks texts listed excluded history before cs steads → steps history before cs ≡ Some after
      → copies_over_changed path changed (expanded_changes steads cs) ≡ false
  changes_none history [] [] before after changed was known at = refl
  changes_none history [] (s ∷ steads) before after changed was known at = refl
  changes_none history (c ∷ cs) [] before after changed was known at = absurd known
  changes_none history (c ∷ cs) (s ∷ steads) before after changed was (own, more) at =
      let (middle, first, rest) = then_some (λ t. steps history t cs) (step history before c) after at in
      none_then path (changes_for s c) (expanded_changes steads cs) changed
      (by_stead history before c s changed was own own.stead)
      (changes_none history cs steads middle after (changed_after path changed (changes_for s c))
      (λ holds. steps_exist history path (changes_for s c) before middle changed was (own.expands middle first).same holds)
      (more middle first) rest)

  -- the same for each revision
  pub revisions_none : (left : List (List Change)) (older : List Tree) (youngest : Tree) (steads : List Stead)
      (trees : List Tree) → AllRevisionsKnown blocks texts listed excluded older youngest left steads
      → loaded older youngest left ≡ Some trees → some_copies_over path (expanded_by steads left) ≡ false
  revisions_none [] older youngest steads trees known leads = refl
  revisions_none (cs ∷ left) older youngest steads trees (own, more) leads =
      let (tree, first, rest) =
      then_some (λ t. loaded (older ++ t ∷ []) t left) (steps (slice_get older) youngest cs) trees leads in
      or_from _ _
      (changes_none (slice_get older) cs (take (length cs) steads) youngest tree false
      (λ bad. absurd (let worse : false ≡ true = bad in cc)) own first)
      (revisions_none left (older ++ tree ∷ []) tree (drop (length cs) steads) trees (more tree first) rest)
