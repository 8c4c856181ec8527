-- What is in place of the changes of a dump that loads does the same.
use Rattle.std.proofs.Common.{◌≡◌, ℕ, suc, ◌+◌, true, false, not, ◌&&◌, List, [], ◌∷◌, ◌++◌, length, map, take, drop, Option, Some, None, option_map, option_and_then, is_some, refl, sym, ap, ap₂, ◌∙◌, subst, append_assoc, append-nil, arith}
use Rattle.std.specs.Prelude.{IfSome, slice_get, ⊤}
use Rattle.std.specs.List.{AllZip}
use Rattle.std.proofs.lemmas.Bool.{and_parts, not-true}
use Rattle.std.proofs.lemmas.List.{length-append}
use Rattle.dump_text.specs.PropertyList.{Property}
use Rattle.dump_records.specs.RecordText.{DumpRecord}
use Rattle.dump_filter.specs.FilterLaws.{keep_all}
use Rattle.dump_trees.specs.steps.Branches.{Branch, tree_of}
use Rattle.dump_trees.specs.Changes.{Change, History, Made, TextChange, deleted, edited_with, is_copied, is_directory_at, made_in, props_set, step, steps, text_set}
use Rattle.dump_trees.specs.steps.ComingBack.{properties_of}
use Rattle.dump_trees.specs.steps.ExpansionCases.{deletion_of}
use Rattle.dump_trees.specs.steps.Expansions.{AllExpand, AllRevisionsExpand, Expands}
use Rattle.dump_trees.specs.steps.LoadCheck.{Kinds, delta_applies, is_directory, kind_left, kinds_allow, kinds_before, making_allowed, node_set}
use Rattle.dump_trees.specs.steps.Looking.{Placed, end_of, look, placed_from}
use Rattle.dump_trees.specs.Paths.{NodePath, names_of, parent_of}
use Rattle.dump_trees.specs.Revisions.{loaded, loaded_over}
use Rattle.dump_trees.specs.Trees.{Node, Tree, empty_tree, grafted, root_alone}
use Rattle.dump_trees.specs.steps.Trees.{HasDirectories}
use Rattle.dump_trees.specs.steps.WritingOut.{file_of, directory_of}
use Rattle.dump_trees.proofs.cuts.CheckedLoads.{AreFrom, Pushed, all_from, from_append, of_one, one_from, placed_append, placed_cut, pushed, steps_then, one_length}
use Rattle.dump_trees.proofs.cuts.CheckedSteps.{parent_directory, step_is_allowed}
use Rattle.dump_trees.proofs.expansions.BranchLemmas.{graft_outside}
use Rattle.dump_trees.proofs.expansions.DeletionLemmas.{deletion_step}
use Rattle.dump_trees.proofs.expansions.FiniteLemmas.{HasEntries}
use Rattle.dump_trees.proofs.expansions.FiniteSteps.{AllFinite, IsFinite, finite_directories, finite_stands, finite_step, finite_steps}
use Rattle.dump_trees.proofs.expansions.EveryLemmas.{copy_parts, finite_more}
use Rattle.dump_trees.proofs.expansions.LeadLemmas.{leads_then}
use Rattle.dump_trees.proofs.expansions.LookLemmas.{look_finds, look_finds_each}
use Rattle.dump_trees.proofs.expansions.StayingLemmas.{copied_same}
use Rattle.dump_trees.proofs.histories.FrontLemmas.{loaded_behind}
use Rattle.dump_trees.proofs.histories.KeptNumbers.{length_push}
use Rattle.dump_history.specs.RecordChanges.{Patching}
use Rattle.dump_history.specs.WrittenNodes.{WrittenNode}
use Rattle.dump_history.specs.steps.WrittenNodes.{replacing, written_change}
use Rattle.dump_history.specs.steps.ExpandedDumps.{OwnForm, Stead}
use Rattle.dump_history.specs.steps.ExpandedText.{changes_for, expanded_changes}
use Rattle.dump_history.proofs.cuts.TrimmedLaw.{each_change_stays}
use Rattle.dump_index.specs.steps.IndexLaws.{HasText, IsListed}
use Rattle.dump_index.specs.steps.InOrder.{are_in_order}
use Rattle.dump_index.specs.steps.Kinds.{kind_look}
use Rattle.dump_index.specs.steps.Listed.{Listed, all_placed, listed_of}
use Rattle.dump_index.specs.steps.ToldKinds.{kind_meant}
use Rattle.dump_index.specs.declared.change.NodeChange.{NodeChange}
use Rattle.dump_index.specs.declared.change.NodeKind.{NodeKind}
use Rattle.dump_index.specs.declared.change.Setting.TheVariants.{Keeps}
use Rattle.dump_index.proofs.LawLemmas.{end_same}
use Rattle.dump_index.proofs.ToldLemmas.{index_tells_kinds}
use Rattle.dump_changes.specs.TextDeltas.{AgreesWithSvndiff}
use Rattle.dump_changes.specs.steps.FileTexts.{ToldText, record_texts}
use Rattle.dump_changes.specs.steps.NodeProperties.{ArePropertiesAt, ListNodes, property_blocks}
use Rattle.dump_changes.specs.steps.PatchedTexts.{IsTextAt}
use Rattle.dump_changes.proofs.PatchedLemmas.{patched_found}
use Rattle.dump_expansion.specs.steps.ByChanges.{expanded_by}
use Rattle.dump_expansion.specs.steps.GivenSteads.{GivenStead, left_alone}
use Rattle.dump_additions.specs.steps.Additions.{AreNodesOf, IsAddition, IsNodeOfForm, MakesRoot, copies_over}
use Rattle.dump_additions.specs.declared.parts.Form.{Form}
use Rattle.dump_additions.specs.declared.parts.Form.TheVariants.{Copy, Directory, File}
use Rattle.dump_additions.specs.steps.Parts.{ArePartsOf, PartMeant}
use Rattle.dump_additions.specs.steps.WrittenParts.{AreChangesFor, AreEntriesAt, IsChangeOfForm}
use Rattle.dump_additions.proofs.CopyLemmas.{WritesRoot, copy_expands, early, in_trees}
use Rattle.dump_additions.proofs.EntryLemmas.{set_again}
use Rattle.dump_trees.proofs.expansions.BackLemmas.{from_more}

-- the properties of a node of a finite tree, set as entries, make the same properties
own_again : (tree : Tree) → IsFinite tree → (path : NodePath) (node : Node) → tree path ≡ Some node
    → edited_with (properties_of node) [] ≡ properties_of node
own_again tree finite path node at = cases (s.branch) (s.whole.entries) (sym (s.has []) ∙ (ap tree (append-nil path) ∙ at))
  where
    s : Rattle.dump_trees.proofs.expansions.FiniteLemmas.Stands tree path
    s = finite_stands tree finite path node at

    cases : (branch : Branch) → HasEntries branch → tree_of branch [] ≡ Some node
        → edited_with (properties_of node) [] ≡ properties_of node
    cases (Branch.Directory props inside) (made, more) is =
        let same : Node.Directory props ≡ node = (let both : Some (Node.Directory props) ≡ Some node = is in cc) in
        subst (λ n. edited_with (properties_of n) [] ≡ properties_of n) same (set_again made.0 props made.1)
    cases (Branch.File props text) (entries, made) is =
        let same : Node.File props text ≡ node = (let both : Some (Node.File props text) ≡ Some node = is in cc) in
        subst (λ n. edited_with (properties_of n) [] ≡ properties_of n) same (set_again entries props made)

-- a change that sets no text
no_text_of : (text : Option TextChange) → HasText Keeps text → text ≡ None
no_text_of None is = refl
no_text_of (Some change) is = absurd is

some_kind : (o : Option NodeKind) (n : Option Node)
    → option_map kind_meant o ≡ option_map Rattle.dump_trees.specs.steps.LoadCheck.kind_of_node n → is_some o ≡ is_some n
some_kind None None is = refl
some_kind None (Some node) is = absurd (cc)
some_kind (Some kind) None is = absurd (cc)
some_kind (Some kind) (Some node) is = refl

-- a copy over something, without deleting it, does the same after a deletion of this

module _ (history : History) (c : Change) (stays : c.deletes ≡ false) (copies : is_copied c.made ≡ true) where
  -- what a copy needs above its path
  copy_parent : (before after : Tree) → step history before c ≡ Some after → is_some (parent_of c.path) ≡ true
  copy_parent before after at =
      by_made c.made copies (and_parts _ _ (and_parts _ _ (and_parts _ _ allowed).0).0).1
    where
      kinds : Kinds
      kinds = kinds_before history before c

      allowed : kinds_allow c kinds ≡ true
      allowed =
          (and_parts (kinds_allow c kinds) (delta_applies c.text (node_set history before c))
          (sym (step_is_allowed history before c) ∙ ap is_some at)).0

      above : (o : Option NodePath) → is_directory_at before o ≡ true → is_some o ≡ true
      above None is = is
      above (Some parent) is = refl

      by_made : (made : Option Made) → is_copied made ≡ true
          → making_allowed made (kind_left c.deletes kinds.here) kinds ≡ true → is_some (parent_of c.path) ≡ true
      by_made None copied is = absurd (let bad : false ≡ true = copied in cc)
      by_made (Some Made.NewDirectory) copied is = absurd (let bad : false ≡ true = copied in cc)
      by_made (Some Made.NewFile) copied is = absurd (let bad : false ≡ true = copied in cc)
      by_made (Some (Made.Copied number source)) copied is =
          above (parent_of c.path)
          (sym (parent_directory before (parent_of c.path))
          ∙ (and_parts (is_some kinds.source) (is_directory kinds.parent) is).1)

  -- it doesn't depend on what is deleted
  copy_after_deletion : (before : Tree) → step history (grafted c.path empty_tree before) c ≡ step history before c
  copy_after_deletion before =
      let (number, source, is) = copy_parts c.made copies in
      ap (λ b. further (deleted b c.path (grafted c.path empty_tree before))) stays
      ∙ (ap (λ o. option_and_then (λ t. text_set c.text c.path t) (option_and_then (λ t. props_set c.props c.path t) o))
      (ap (λ m. made_in history m c.path (grafted c.path empty_tree before)) is
      ∙ (copied_same history number source c.path before (grafted c.path empty_tree before)
      (graft_outside c.path empty_tree before)
      ∙ ap (λ m. made_in history m c.path before) (sym is)))
      ∙ ap (λ b. further (deleted b c.path before)) (sym stays))
    where
      further : Option Tree → Option Tree
      further o =
          option_and_then (λ t. text_set c.text c.path t)
          (option_and_then (λ t. props_set c.props c.path t) (option_and_then (λ t. made_in history c.made c.path t) o))

  cleared_expands : (before : Tree) → is_some (before c.path) ≡ true
      → Expands keep_all history before c (deletion_of c.path ∷ c ∷ [])
  cleared_expands before some after at =
      leads_then keep_all history (deletion_of c.path ∷ []) (c ∷ []) before (grafted c.path empty_tree before) after
      (each_change_stays history before (deletion_of c.path) (grafted c.path empty_tree before)
      (deletion_step history c.path before (copy_parent before after at) some))
      (each_change_stays history (grafted c.path empty_tree before) c after (copy_after_deletion before ∙ at))

module _ (blocks : List (List ℕ)) (texts : List ToldText) (listed : List Listed) (excluded : List NodePath) where
  -- What is in place of the change at a place. If the change doesn't copy over something, it is the change itself. If
  -- it does, it is a deletion of what exists there, and then the change. It may also be an addition.
  pub data IsSteadAt (place : ℕ) (l : Listed) (s : Stead) : Type 0 where
    LeftAlone : s ≡ left_alone → copies_over listed place l ≡ false → IsSteadAt place l s
    ClearedFirst : (w : WrittenNode) → s ≡ record { nodes = w ∷ []; own = OwnForm.AsItIs }
        → written_change w ≡ deletion_of (names_of l.path) → copies_over listed place l ≡ true
        → IsSteadAt place l s
    InPlace : (g : GivenStead) → IsAddition blocks texts listed excluded place l g
        → s ≡ record { nodes = g.nodes; own = OwnForm.LeftOut } → IsSteadAt place l s

  -- the same for the changes from this place on
  abbrev pub AreSteadsFrom : ℕ → List Listed → List Stead → Type 0
  AreSteadsFrom place [] steads = steads ≡ []
  AreSteadsFrom place (l ∷ ls) [] = ⊥
  AreSteadsFrom place (l ∷ ls) (s ∷ steads) = IsSteadAt place l s × AreSteadsFrom (suc place) ls steads

  -- a change, the tree before it, and what is in its place
  pub record IsKnown (history : History) (before : Tree) (c : Change) (s : Stead) : Type 0 where
    pub place : ℕ
    pub number : ℕ
    pub l : Listed
    pub is : IsListed l (record { revision = number; change = c })
    pub stead : IsSteadAt place l s
    pub kinds : (p : NodePath) → is_some (kind_look listed place p) ≡ is_some (before p)
    pub directories : HasDirectories before
    pub expands : Expands keep_all history before c (changes_for s c)

  -- the same for the changes of a revision, and for those of each revision
  abbrev pub AllKnown : History → Tree → List Change → List Stead → Type 0
  AllKnown history before [] steads = ⊤
  AllKnown history before (c ∷ cs) [] = ⊥
  AllKnown history before (c ∷ cs) (s ∷ steads) = IsKnown history before c s
      × ((after : Tree) → step history before c ≡ Some after → AllKnown history after cs steads)

  abbrev pub AllRevisionsKnown : List Tree → Tree → List (List Change) → List Stead → Type 0
  AllRevisionsKnown older youngest [] steads = ⊤
  AllRevisionsKnown older youngest (cs ∷ left) steads =
      AllKnown (slice_get older) youngest cs (take (length cs) steads)
      × ((tree : Tree) → steps (slice_get older) youngest cs ≡ Some tree
      → AllRevisionsKnown (older ++ tree ∷ []) tree left (drop (length cs) steads))

  -- what is in place of them does the same
  changes_expand : (history : History) (cs : List Change) (steads : List Stead) (before : Tree)
      → AllKnown history before cs steads → AllExpand keep_all history before cs (expanded_changes steads cs)
  changes_expand history [] [] before known = refl
  changes_expand history [] (s ∷ steads) before known = refl
  changes_expand history (c ∷ cs) [] before known = absurd known
  changes_expand history (c ∷ cs) (s ∷ steads) before (own, more) = (
    changes_for s c,
    expanded_changes steads cs,
    refl,
    own.expands,
    λ after at. changes_expand history cs steads after (more after at),
  )

  pub revisions_expand : (left : List (List Change)) (older : List Tree) (youngest : Tree) (steads : List Stead)
      → AllRevisionsKnown older youngest left steads
      → AllRevisionsExpand keep_all older youngest left (expanded_by steads left)
  revisions_expand [] older youngest steads known = refl
  revisions_expand (cs ∷ left) older youngest steads (own, more) = (
    expanded_changes (take (length cs) steads) cs,
    expanded_by (drop (length cs) steads) left,
    refl,
    changes_expand (slice_get older) cs (take (length cs) steads) youngest own,
    λ tree at. revisions_expand left (older ++ tree ∷ []) tree (drop (length cs) steads) (more tree at),
  )

module _ (patched : Patching) (agrees : AgreesWithSvndiff patched) (records : List DumpRecord) (changes : List NodeChange)
    (revisions : List (List Change)) (trees : List Tree) (excluded : List NodePath) (lists : ListNodes patched records changes (placed_from 1 revisions))
    (ordered : are_in_order 0 changes ≡ true) (loads : loaded_over root_alone revisions ≡ Some trees) where
  abbrev listed : List Listed
  listed = map listed_of changes

  abbrev here : List Placed
  here = placed_from 1 revisions

  abbrev blocks : List (List ℕ)
  blocks = property_blocks records

  abbrev texts : List ToldText
  texts = record_texts records

  abbrev Addition : ℕ → Listed → GivenStead → Type 0
  Addition = IsAddition blocks texts listed excluded

  -- the properties found in an earlier revision
  properties_found : (text : List ℕ) (count : ℕ) (props : List Property) → ArePropertiesAt blocks listed text count props
      → (node : Node) → look root_alone here count (names_of text) ≡ Some node → properties_of node ≡ props
  properties_found text count props are node at = are patched records changes here node refl refl lists ordered at

  text_found : (text : List ℕ) (count : ℕ) (its : ToldText) → IsTextAt texts listed text count its
      → (props : List Property) (found : List ℕ) → look root_alone here count (names_of text) ≡ Some (Node.File props found)
      → found ≡ its.text
  text_found text count its is props found at =
      patched_found patched records changes here text count its props found agrees lists ordered is at

  module _ (number : ℕ) (old : Tree) (there : slice_get trees number ≡ Some old) (finite : IsFinite old) where
    -- what is looked up there is in that tree
    looked_there : (source rest : NodePath) (text : List ℕ) → names_of text ≡ source ++ rest
        → look root_alone here (end_of (all_placed listed) number) (names_of text) ≡ old (source ++ rest)
    looked_there source rest text text_is =
        ap₂ (λ n p. look root_alone here n p) (sym (end_same listed here lists.listed number)) text_is
        ∙ look_finds_each root_alone revisions trees number old (source ++ rest) loads there

    entries_found : (path source rest : NodePath) (text : List ℕ) (entries : List Property) → names_of text ≡ source ++ rest
        → ArePropertiesAt blocks listed text (end_of (all_placed listed) number) entries
        → AreEntriesAt old number path source rest entries
    entries_found path source rest text entries text_is are node at =
        let found = properties_found text (end_of (all_placed listed) number) entries are node
        (looked_there source rest text text_is ∙ at) in
        subst (λ es. edited_with es [] ≡ properties_of node) found (own_again old finite (source ++ rest) node at)

    form_found : (path source : NodePath) (form : Form) (rest : NodePath) (w : WrittenNode)
        → IsNodeOfForm blocks texts listed excluded number path source form rest w
        → IsChangeOfForm old number path source form rest (written_change w)
    form_found path source Copy rest w (is, kind) = is
    form_found path source Directory rest w (text, entries, text_is, change_is, are) =
        (entries, change_is, entries_found path source rest text entries text_is are)
    form_found path source File rest w (text, entries, its, text_is, change_is, said, are, is) = (
      entries,
      its.text,
      change_is,
      entries_found path source rest text entries text_is are,
      λ props found at.
          text_found text (end_of (all_placed listed) number) its is props found (looked_there source rest text text_is ∙ at),
    )

    nodes_found : (path source : NodePath) (parts : List PartMeant) (nodes : List WrittenNode)
        → AreNodesOf blocks texts listed excluded number path source parts nodes
        → AreChangesFor old number path source parts (map written_change nodes)
    nodes_found path source [] [] are = tt
    nodes_found path source [] (w ∷ nodes) are = absurd are
    nodes_found path source (part ∷ parts) [] are = absurd are
    nodes_found path source (part ∷ parts) (w ∷ nodes) (is, are) =
        (form_found path source part.form part.rest w is, nodes_found path source parts nodes are)

  -- what is in place of changes of the dump
  abbrev SteadAt : ℕ → Listed → Stead → Type 0
  SteadAt = IsSteadAt blocks texts listed excluded

  abbrev SteadsFrom : ℕ → List Listed → List Stead → Type 0
  SteadsFrom = AreSteadsFrom blocks texts listed excluded

  -- in a revision, after the ones that load to these trees
  module _ (rs : List (List Change)) (older more : List Tree) (youngest : Tree) (joined : trees ≡ older ++ more)
      (begins : loaded_over root_alone rs ≡ Some older) (last : slice_get older (length rs) ≡ Some youngest)
      (all : AllFinite (slice_get older)) where
    size : (changes : List Change) → length (rs ++ changes ∷ []) ≡ suc (length rs)
    size changes = length_push rs changes

    -- after some of its changes, before this one
    module _ (ds : List Change) (before : Tree) (finite : IsFinite before)
        (done : steps (slice_get older) youngest ds ≡ Some before) (c : Change) (behind : List Placed)
        (is_here : here ≡ placed_from 1 (rs ++ (ds ++ c ∷ []) ∷ []) ++ behind)
        (late : AreFrom (suc (length rs)) behind) where
      abbrev place : ℕ
      place = length (placed_from 1 (rs ++ ds ∷ []))

      cut : placed_from 1 (rs ++ (ds ++ c ∷ []) ∷ []) ≡ placed_from 1 (rs ++ ds ∷ []) ++ of_one (1 + length rs) (c ∷ [])
      cut = placed_cut 1 rs ds (c ∷ [])

      next_place : length (placed_from 1 (rs ++ (ds ++ c ∷ []) ∷ [])) ≡ suc place
      next_place = ap length cut ∙ length_push (placed_from 1 (rs ++ ds ∷ [])) (record { revision = 1 + length rs; change = c })

      one_late : AreFrom (suc (length rs)) (of_one (1 + length rs) (c ∷ []))
      one_late =
          subst (λ n. AreFrom n (of_one (1 + length rs) (c ∷ [])))
          (let same : 1 + length rs ≡ suc (length rs) = omega arith in same) (one_from (1 + length rs) (c ∷ []))

      push_before : Pushed root_alone rs older ds before
      push_before = pushed root_alone rs older youngest ds before begins last done

      kind_before : (p : NodePath) → is_some (kind_look listed place p) ≡ is_some (before p)
      kind_before p =
          some_kind (kind_look listed place p) (before p)
          (index_tells_kinds changes here lists.listed (rs ++ ds ∷ []) (of_one (1 + length rs) (c ∷ []) ++ behind)
          (older ++ before ∷ []) before p
          (is_here ∙ (ap (λ (ps : List Placed). ps ++ behind) cut
          ∙ append_assoc (placed_from 1 (rs ++ ds ∷ [])) (of_one (1 + length rs) (c ∷ [])) behind))
          (subst (λ n. AreFrom n (of_one (1 + length rs) (c ∷ []) ++ behind)) (sym (size ds))
          (from_append (suc (length rs)) (of_one (1 + length rs) (c ∷ [])) behind one_late late))
          push_before.loads push_before.last)

      look_after : (after : Tree) → step (slice_get older) before c ≡ Some after → (p : NodePath)
          → look root_alone here (suc place) p ≡ after p
      look_after after at p =
          let push = pushed root_alone rs older youngest (ds ++ c ∷ []) after begins last
          (steps_then (slice_get older) youngest ds (c ∷ [])
          ∙ (ap (option_and_then (λ t. steps (slice_get older) t (c ∷ []))) done
          ∙ ap (option_and_then (λ t. steps (slice_get older) t [])) at)) in
          ap₂ (λ ps n. look root_alone ps n p) is_here (sym next_place)
          ∙ look_finds root_alone (rs ++ (ds ++ c ∷ []) ∷ []) behind (older ++ after ∷ []) after p push.loads push.last
          (subst (λ n. AreFrom n behind) (sym (size (ds ++ c ∷ []))) late)

      -- what is in place of a copy
      addition_expands : (after : Tree) (at : step (slice_get older) before c ≡ Some after) (n : ℕ) (l : Listed)
          → IsListed l (record { revision = n; change = c }) → (g : GivenStead) → Addition place l g
          → Expands keep_all (slice_get older) before c (map written_change g.nodes)
      addition_expands after at n l is g a =
          subst (λ ws. Expands keep_all (slice_get older) before c (map written_change ws))
          (sym (ap (λ (x : GivenStead). x.nodes) a.given))
          (subst (λ w. Expands keep_all (slice_get older) before c (w ∷ map written_change a.nodes)) (sym root.1)
          (copy_expands changes revisions trees ordered lists.listed loads older more joined all before after finite c at
          a.number a.source makes excluded a.parts a.is_root.own (map written_change a.nodes) changes_are own_is a.form parts_are
          root.0 root.2))
        where
          path_is : names_of l.path ≡ c.path
          path_is = sym is.path

          makes : c.made ≡ Some (Made.Copied a.number a.source)
          makes = is.made ∙ a.copies

          old : (old : Tree) × (slice_get older a.number ≡ Some old)
          old = early changes revisions trees ordered lists.listed loads older more joined all before after finite c at a.number
              a.source makes

          parts_are : ArePartsOf listed excluded a.number c.path a.source [] (record { form = a.form; rest = [] } ∷ a.parts)
          parts_are =
              subst (λ p. ArePartsOf listed excluded a.number p a.source [] (record { form = a.form; rest = [] } ∷ a.parts))
              path_is a.are_parts

          changes_are : AreChangesFor old.0 a.number c.path a.source a.parts (map written_change a.nodes)
          changes_are =
              nodes_found a.number old.0
              (in_trees changes revisions trees ordered lists.listed loads older more joined all before after finite c at a.number
              a.source makes)
              (all a.number old.0 old.1) c.path a.source a.parts a.nodes
              (subst (λ p. AreNodesOf blocks texts listed excluded a.number p a.source a.parts a.nodes) path_is a.are_nodes)

          finite_after : IsFinite after
          finite_after = subst (λ o. IfSome o IsFinite) at (finite_step (slice_get older) all before finite c)

          -- what is found at the path after the change
          looked_after : look root_alone here (suc place) (names_of l.path) ≡ after c.path
          looked_after = ap (look root_alone here (suc place)) path_is ∙ look_after after at c.path

          own_is : (node : Node) → after c.path ≡ Some node → edited_with a.is_root.own [] ≡ properties_of node
          own_is node there =
              let found = properties_found l.path (suc place) a.is_root.own a.is_root.own_are node (looked_after ∙ there) in
              subst (λ es. edited_with es [] ≡ properties_of node) found (own_again after finite_after c.path node there)

          replaced : (make : NodePath → Change)
              → replacing (is_some (kind_look listed place (names_of l.path))) (make (names_of l.path))
              ≡ replacing (is_some (before c.path)) (make c.path)
          replaced make =
              ap₂ (λ b p. replacing b (make p))
              (kind_before (names_of l.path) ∙ ap (λ p. is_some (before p)) path_is) path_is

          root_by : (form : Form) → MakesRoot blocks texts listed excluded place l a.is_root.own form a.root
              → (first : Change) × (written_change a.root ≡ replacing (is_some (before c.path)) first)
              × WritesRoot changes revisions trees ordered lists.listed loads older more joined all before after finite c at
              a.number a.source makes a.is_root.own form first
          root_by Copy made = absurd made
          root_by Directory (keeps, made) = (
            directory_of c.path a.is_root.own,
            made ∙ replaced (λ p. directory_of p a.is_root.own),
            (no_text_of c.text (subst (λ s. HasText s c.text) keeps is.text), refl),
          )
          root_by File (its, set, said, made) = (
            file_of c.path a.is_root.own its.text,
            made ∙ replaced (λ p. file_of p a.is_root.own its.text),
            (
              its.text,
              refl,
              λ props found there. text_found l.path (suc place) its set props found (looked_after ∙ there),
            ),
          )

          root : (first : Change) × (written_change a.root ≡ replacing (is_some (before c.path)) first)
              × WritesRoot changes revisions trees ordered lists.listed loads older more joined all before after finite c at
              a.number a.source makes a.is_root.own a.form first
          root = root_by a.form a.is_root.makes

      -- a copy over something, which is deleted first
      cleared_stays : (l : Listed) → c.made ≡ l.made → c.deletes ≡ l.deletes → c.path ≡ names_of l.path → (w : WrittenNode)
          → written_change w ≡ deletion_of (names_of l.path) → copies_over listed place l ≡ true
          → Expands keep_all (slice_get older) before c (written_change w ∷ c ∷ [])
      cleared_stays l made deletes path_is w clears over =
          let parts = and_parts (is_copied l.made && not l.deletes) (is_some (kind_look listed place (names_of l.path))) over in
          let copies = and_parts (is_copied l.made) (not l.deletes) parts.0 in
          subst (λ d. Expands keep_all (slice_get older) before c (d ∷ c ∷ []))
          (sym (clears ∙ ap deletion_of (sym path_is)))
          (cleared_expands (slice_get older) c (deletes ∙ not-true l.deletes copies.1) (ap is_copied made ∙ copies.0) before
          (ap (λ p. is_some (before p)) path_is ∙ (sym (kind_before (names_of l.path)) ∙ parts.1)))

      -- what is in place of any change
      stead_expands : (n : ℕ) (l : Listed) → IsListed l (record { revision = n; change = c }) → (s : Stead)
          → SteadAt place l s → Expands keep_all (slice_get older) before c (changes_for s c)
      stead_expands n l is s (LeftAlone alone none) =
          subst (λ x. Expands keep_all (slice_get older) before c (changes_for x c)) (sym alone)
          (each_change_stays (slice_get older) before c)
      stead_expands n l is s (ClearedFirst w same clears over) =
          subst (λ x. Expands keep_all (slice_get older) before c (changes_for x c)) (sym same)
          (cleared_stays l is.made is.deletes is.path w clears over)
      stead_expands n l is s (InPlace g a same) =
          subst (λ x. Expands keep_all (slice_get older) before c (changes_for x c)) (sym same)
          (subst (λ cs. Expands keep_all (slice_get older) before c cs) (sym (append-nil (map written_change g.nodes)))
          (λ after at. addition_expands after at n l is g a after at))

    -- the changes of the revision, each of which is known with the tree before it
    changes_known : (cs ds : List Change) (before : Tree) → IsFinite before
        → steps (slice_get older) youngest ds ≡ Some before → (behind : List Placed)
        → here ≡ placed_from 1 (rs ++ (ds ++ cs) ∷ []) ++ behind → AreFrom (suc (length rs)) behind → (place : ℕ)
        → place ≡ length (placed_from 1 (rs ++ ds ∷ [])) → (ls : List Listed) → AllZip IsListed ls (of_one (1 + length rs) cs)
        → (steads : List Stead) → SteadsFrom place ls steads
        → AllKnown blocks texts listed excluded (slice_get older) before cs steads
    changes_known [] ds before finite done behind is_here late place place_is ls zip steads are = tt
    changes_known (c ∷ cs) ds before finite done behind is_here late place place_is [] zip steads are = absurd zip
    changes_known (c ∷ cs) ds before finite done behind is_here late place place_is (l ∷ ls) zip [] are = absurd are
    changes_known (c ∷ cs) ds before finite done behind is_here late place place_is (l ∷ ls) (is, zip) (s ∷ steads) (own, are) = (
      record {
        place = length (placed_from 1 (rs ++ ds ∷ []));
        number = 1 + length rs;
        l = l;
        is = is;
        stead = subst (λ n. SteadAt n l s) place_is own;
        kinds = kind_before ds before finite done c (of_one (1 + length rs) cs ++ behind) with_c late_too;
        directories = finite_directories before finite;
        expands =
            stead_expands ds before finite done c (of_one (1 + length rs) cs ++ behind) with_c late_too (1 + length rs) l is s
            (subst (λ n. SteadAt n l s) place_is own);
      },
      λ after at.
          changes_known cs (ds ++ c ∷ []) after
          (subst (λ o. IfSome o IsFinite) at (finite_step (slice_get older) all before finite c))
          (steps_then (slice_get older) youngest ds (c ∷ [])
          ∙ (ap (option_and_then (λ t. steps (slice_get older) t (c ∷ []))) done
          ∙ ap (option_and_then (λ t. steps (slice_get older) t [])) at))
          behind (is_here ∙ ap (λ ds'. placed_from 1 (rs ++ ds' ∷ []) ++ behind) (sym (append_assoc ds (c ∷ []) cs))) late
          (suc place)
          (ap suc place_is
          ∙ sym (ap length (placed_cut 1 rs ds (c ∷ []))
          ∙ length_push (placed_from 1 (rs ++ ds ∷ [])) (record { revision = 1 + length rs; change = c })))
          ls zip steads are,
    )
      where
        with_c : here ≡ placed_from 1 (rs ++ (ds ++ c ∷ []) ∷ []) ++ (of_one (1 + length rs) cs ++ behind)
        with_c =
            is_here
            ∙ (ap (λ ds'. placed_from 1 (rs ++ ds' ∷ []) ++ behind) (sym (append_assoc ds (c ∷ []) cs))
            ∙ (ap (λ (ps : List Placed). ps ++ behind) (placed_cut 1 rs (ds ++ c ∷ []) cs)
            ∙ append_assoc (placed_from 1 (rs ++ (ds ++ c ∷ []) ∷ [])) (of_one (1 + length rs) cs) behind))

        late_too : AreFrom (suc (length rs)) (of_one (1 + length rs) cs ++ behind)
        late_too =
            from_append (suc (length rs)) (of_one (1 + length rs) cs) behind
            (subst (λ n. AreFrom n (of_one (1 + length rs) cs))
            (let same : 1 + length rs ≡ suc (length rs) = omega arith in same) (one_from (1 + length rs) cs))
            late

  -- lists of two parts
  record AreSplitAt (place : ℕ) (ls rest : List Listed) (steads : List Stead) : Type 0 where
    pub first : SteadsFrom place ls (take (length ls) steads)
    pub others : SteadsFrom (place + length ls) rest (drop (length ls) steads)

  split_steads : (place : ℕ) (ls rest : List Listed) (steads : List Stead) → SteadsFrom place (ls ++ rest) steads
      → AreSplitAt place ls rest steads
  split_steads place [] rest steads are = record {
    first = refl;
    others = subst (λ n. SteadsFrom n rest steads) (let same : place ≡ place + 0 = omega arith in same) are;
  }
  split_steads place (l ∷ ls) rest [] are = absurd are
  split_steads place (l ∷ ls) rest (s ∷ steads) (own, are) =
      let more = split_steads (suc place) ls rest steads are in
      record {
        first = (own, more.first);
        others = subst (λ n. SteadsFrom n rest (drop (length ls) steads))
            (let same : suc place + length ls ≡ place + suc (length ls) = omega arith in same) more.others;
      }

  record AreListedApart (ls : List Listed) (xs ys : List Placed) : Type 0 where
    pub front : List Listed
    pub back : List Listed
    pub joined : ls ≡ front ++ back
    pub first : AllZip IsListed front xs
    pub others : AllZip IsListed back ys

  split_listed : (ls : List Listed) (xs ys : List Placed) → AllZip IsListed ls (xs ++ ys) → AreListedApart ls xs ys
  split_listed ls [] ys all = record { front = []; back = ls; joined = refl; first = tt; others = all }
  split_listed [] (x ∷ xs) ys all = absurd all
  split_listed (l ∷ ls) (x ∷ xs) ys (is, all) =
      let more = split_listed ls xs ys all in
      record {
        front = l ∷ more.front;
        back = more.back;
        joined = ap (λ ms. l ∷ ms) more.joined;
        first = (is, more.first);
        others = more.others;
      }

  zip_size : (ls : List Listed) (number : ℕ) (cs : List Change) → AllZip IsListed ls (of_one number cs) → length ls ≡ length cs
  zip_size [] number [] all = refl
  zip_size [] number (c ∷ cs) all = absurd all
  zip_size (l ∷ ls) number [] all = absurd all
  zip_size (l ∷ ls) number (c ∷ cs) (is, all) = ap suc (zip_size ls number cs all)

  -- the changes of all revisions
  pub revisions_known : (left rs : List (List Change)) (older : List Tree) (youngest : Tree) → here ≡ placed_from 1 (rs ++ left)
      → loaded_over root_alone rs ≡ Some older → slice_get older (length rs) ≡ Some youngest → AllFinite (slice_get older)
      → IsFinite youngest → loaded older youngest left ≡ Some trees → (ls : List Listed)
      → AllZip IsListed ls (placed_from (suc (length rs)) left) → (steads : List Stead)
      → SteadsFrom (length (placed_from 1 rs)) ls steads
      → AllRevisionsKnown blocks texts listed excluded older youngest left steads
  revisions_known [] rs older youngest is_here begins last all finite leads ls zip steads are = tt
  revisions_known (cs ∷ left) rs older youngest is_here begins last all finite leads ls zip steads are = (
    first,
    λ tree at.
        let push = pushed root_alone rs older youngest cs tree begins last at in
        revisions_known left (rs ++ cs ∷ []) (older ++ tree ∷ []) tree
        (is_here ∙ ap (placed_from 1) (sym (append_assoc rs (cs ∷ []) left))) push.loads push.last
        (finite_more older tree all (finite_tree tree at))
        (finite_tree tree at) (sym (ap (option_and_then (λ t. loaded (older ++ t ∷ []) t left)) at) ∙ leads) parts.back
        (subst (λ n. AllZip IsListed parts.back (placed_from n left)) (ap suc (sym (length_push rs cs))) parts.others)
        (drop (length cs) steads)
        (subst (λ n. SteadsFrom n parts.back (drop (length cs) steads)) next_place
        (subst (λ n. SteadsFrom (length (placed_from 1 rs) + length parts.front) parts.back (drop n steads)) parts_size
        its.others)),
  )
    where
      joined : (more : List Tree) × (trees ≡ older ++ more)
      joined = loaded_behind older youngest (cs ∷ left) trees leads

      finite_tree : (tree : Tree) → steps (slice_get older) youngest cs ≡ Some tree → IsFinite tree
      finite_tree tree at = subst (λ o. IfSome o IsFinite) at (finite_steps (slice_get older) all cs youngest finite)

      parts : AreListedApart ls (of_one (suc (length rs)) cs) (placed_from (suc (suc (length rs))) left)
      parts = split_listed ls (of_one (suc (length rs)) cs) (placed_from (suc (suc (length rs))) left) zip

      parts_size : length parts.front ≡ length cs
      parts_size = zip_size parts.front (suc (length rs)) cs parts.first

      its : AreSplitAt (length (placed_from 1 rs)) parts.front parts.back steads
      its = split_steads (length (placed_from 1 rs)) parts.front parts.back steads
          (subst (λ ms. SteadsFrom (length (placed_from 1 rs)) ms steads) parts.joined are)

      one_more : placed_from 1 (rs ++ cs ∷ []) ≡ placed_from 1 rs ++ of_one (1 + length rs) cs
      one_more =
          placed_append 1 rs (cs ∷ [])
          ∙ ap (λ (ps : List Placed). placed_from 1 rs ++ ps) (append-nil (of_one (1 + length rs) cs))

      next_place : length (placed_from 1 rs) + length parts.front ≡ length (placed_from 1 (rs ++ cs ∷ []))
      next_place =
          ap (λ n. length (placed_from 1 rs) + n) (parts_size ∙ sym (one_length (1 + length rs) cs))
          ∙ sym (ap length one_more ∙ length-append (placed_from 1 rs) (of_one (1 + length rs) cs))

      none_done : length (placed_from 1 rs) ≡ length (placed_from 1 (rs ++ [] ∷ []))
      none_done =
          ap length (sym (placed_append 1 rs ([] ∷ []) ∙ append-nil (placed_from 1 rs)))

      here_now : here ≡ placed_from 1 (rs ++ ([] ++ cs) ∷ []) ++ placed_from (suc (suc (length rs))) left
      here_now =
          is_here
          ∙ (ap (placed_from 1) (sym (append_assoc rs (cs ∷ []) left))
          ∙ (placed_append 1 (rs ++ cs ∷ []) left
          ∙ ap (λ n. placed_from 1 (rs ++ cs ∷ []) ++ placed_from n left)
          (ap (λ n. 1 + n) (length_push rs cs)
          ∙ (let same : 1 + suc (length rs) ≡ suc (suc (length rs)) = omega arith in same))))

      later : AreFrom (suc (length rs)) (placed_from (suc (suc (length rs))) left)
      later =
          from_more (suc (length rs)) (suc (suc (length rs))) (omega arith) (placed_from (suc (suc (length rs))) left)
          (all_from (suc (suc (length rs))) left)

      first : AllKnown blocks texts listed excluded (slice_get older) youngest cs (take (length cs) steads)
      first =
          changes_known rs older joined.0 youngest joined.1 begins last all cs [] youngest finite refl
          (placed_from (suc (suc (length rs))) left) here_now later (length (placed_from 1 rs)) none_done parts.front
          (subst (λ n. AllZip IsListed parts.front (of_one n cs))
          (let same : suc (length rs) ≡ 1 + length rs = omega arith in same) parts.first)
          (take (length cs) steads)
          (subst (λ n. SteadsFrom (length (placed_from 1 rs)) parts.front (take n steads)) parts_size its.first)
