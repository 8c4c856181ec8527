-- The laws of expanded dumps, in the form of the contracts.
use Rattle.std.proofs.Common.{◌≡◌, ℕ, zero, suc, true, List, [], ◌∷◌, map, Some, None, refl, sym, ap, ◌∙◌, subst}
use Rattle.std.specs.Prelude.{slice_get}
use Rattle.std.proofs.lemmas.Simd.{map-map}
use Rattle.dump_records.specs.RecordText.{DumpRecord}
use Rattle.dump_filter.specs.FilterLaws.{keep_all}
use Rattle.dump_trees.specs.Changes.{Change}
use Rattle.dump_trees.specs.steps.Expansions.{AllRevisionsExpand}
use Rattle.dump_trees.specs.steps.Looking.{placed_from}
use Rattle.dump_trees.specs.Paths.{NodePath}
use Rattle.dump_trees.specs.Trees.{Tree, root_alone}
use Rattle.dump_trees.proofs.expansions.FiniteSteps.{AllFinite, IsFinite, finite_root}
use Rattle.dump_history.specs.CopiesOver.{some_copies_over}
use Rattle.dump_history.specs.steps.ExpandedDumps.{Stead}
use Rattle.dump_history.specs.steps.ExpandedText.{made_in_stead}
use Rattle.dump_history.specs.RecordChanges.{Patching}
use Rattle.dump_history.proofs.expanded.ExpandedLaw.{expanded_dump_loads}
use Rattle.dump_history.proofs.expanded.SteadLemmas.{expansions_are_dumps}
use Rattle.dump_index.specs.steps.IndexLaws.{AreListed}
use Rattle.dump_index.specs.steps.Listed.{Listed, listed_of}
use Rattle.dump_index.specs.declared.change.NodeChange.{NodeChange}
use Rattle.dump_changes.specs.steps.FileTexts.{record_texts}
use Rattle.dump_changes.specs.steps.NodeProperties.{ListNodes, node_numbers, property_blocks}
use Rattle.dump_changes.proofs.PropertyLemmas.{nodes_are}
use Rattle.dump_expansion.specs.steps.ByChanges.{are_given_for, expanded_by, steads_for}
use Rattle.dump_expansion.specs.steps.GivenSteads.{GivenStead, steads_in}
use Rattle.dump_expansion.proofs.ByChanges.{steads_by_changes}
use Rattle.dump_additions.specs.steps.AdditionLaws.{AdditionsCopyOverNothing, AdditionsExpand, AdditionsLoadTheSame, HasAdditions}
use Rattle.dump_additions.proofs.AdditionLemmas.{AllRevisionsKnown, AreSteadsFrom, revisions_expand, revisions_known}
use Rattle.dump_additions.proofs.CopyOverLemmas.{revisions_none}
use Rattle.dump_additions.proofs.NumberLemmas.{numbers_of, numbers_rise, rise, steads_are}

module _ (patched : Patching) (dump : List ℕ) (records : List DumpRecord) (changes : List NodeChange)
    (revisions : List (List Change)) (trees : List Tree) (excluded : List NodePath) (given : List GivenStead)
    (h : HasAdditions patched dump records changes revisions trees excluded given) where
  lists : ListNodes patched records changes (placed_from 1 revisions)
  lists =
      let (placed, nodes, zip) = h.listed patched in
      let same = nodes_are patched records revisions placed h.loads.makes nodes in
      record {
        make = subst (Rattle.dump_changes.specs.steps.ListedDumps.NodesMake patched None records) same nodes;
        listed = subst (AreListed changes) same zip;
        numbers = h.numbers;
      }

  numbers_are : numbers_of (map listed_of changes) ≡ node_numbers 0 records
  numbers_are = map-map (λ (l : Listed). l.record_number) listed_of changes ∙ h.numbers

  root_finite : AllFinite (slice_get (root_alone ∷ []))
  root_finite zero tree at =
      subst IsFinite (let same : root_alone ≡ tree = (let both : Some root_alone ≡ Some tree = at in cc) in same) finite_root
  root_finite (suc number) tree at = absurd (let bad : None ≡ Some tree = at in cc)

  -- what is given for the changes of the index
  its : (are_given_for (numbers_of (map listed_of changes)) given ≡ true)
      × AreSteadsFrom (property_blocks records) (record_texts records) (map listed_of changes) excluded 0
      (map listed_of changes) (steads_for (numbers_of (map listed_of changes)) given)
  its = steads_are (property_blocks records) (record_texts records) (map listed_of changes) excluded 0 (map listed_of changes)
      given h.additions (ap rise numbers_are ∙ numbers_rise records)

  abbrev steads : List Stead
  steads = steads_for (numbers_of (map listed_of changes)) given

  made_is : made_in_stead records (steads_in 0 records given) revisions ≡ expanded_by steads revisions
  made_is =
      steads_by_changes patched dump records revisions given h.has h.loads.makes
      (ap (λ ns. are_given_for ns given) (sym numbers_are) ∙ its.0)
      ∙ ap (λ ns. expanded_by (steads_for ns given) revisions) (sym numbers_are)

  known : AllRevisionsKnown (property_blocks records) (record_texts records) (map listed_of changes) excluded
      (root_alone ∷ []) root_alone revisions steads
  known =
      revisions_known patched h.agrees records changes revisions trees excluded lists h.ordered h.loads.loads revisions []
      (root_alone ∷ []) root_alone refl refl refl root_finite finite_root h.loads.loads (map listed_of changes) lists.listed
      steads its.1

  pub expands : AllRevisionsExpand keep_all (root_alone ∷ []) root_alone revisions
      (made_in_stead records (steads_in 0 records given) revisions)
  expands =
      subst (AllRevisionsExpand keep_all (root_alone ∷ []) root_alone revisions) (sym made_is)
      (revisions_expand (property_blocks records) (record_texts records) (map listed_of changes) excluded revisions
      (root_alone ∷ []) root_alone steads known)

pub additions_expand : AdditionsExpand
additions_expand patched dump records changes revisions trees excluded given h =
    expands patched dump records changes revisions trees excluded given h

pub additions_load : AdditionsLoadTheSame
additions_load patched dump text records changes revisions trees excluded given h expanded =
    let all = expands patched dump records changes revisions trees excluded given h in
    let (again, has, form) = expansions_are_dumps patched keep_all dump text records (steads_in 0 records given) revisions h.has
    h.loads.makes (expanded records h.has) all in
    let (loads, apart, numbers, properties) = expanded_dump_loads patched keep_all dump records (steads_in 0 records given) again
    revisions (made_in_stead records (steads_in 0 records given) revisions) trees h.has h.loads form in
    (again, has, loads, numbers, properties)

pub additions_over : AdditionsCopyOverNothing
additions_over patched dump records changes revisions trees excluded given path h =
    ap (some_copies_over path) (made_is patched dump records changes revisions trees excluded given h)
    ∙ revisions_none (property_blocks records) (record_texts records) (map listed_of changes) excluded path revisions
    (root_alone ∷ []) root_alone (steads patched dump records changes revisions trees excluded given h) trees
    (known patched dump records changes revisions trees excluded given h) h.loads.loads
