-- Both parts of a dump that loads.
use Rattle.std.proofs.Common.{◌≡◌, ℕ, suc, ◌+◌, ◌<◌, true, false, List, [], ◌∷◌, ◌++◌, length, map, take, drop, Option, Some, None, option_and_then, refl, sym, ap, ◌∙◌, subst, arith, append_assoc}
use Rattle.std.proofs.lemmas.Bool.{and_from, and_parts}
use Rattle.std.proofs.lemmas.List.{length-map, length-take-le, map-append, take-append-drop}
use Rattle.std.proofs.lemmas.Slice.Zip.{AllZip-long}
use Rattle.std.proofs.Math.Seq.{take-append_seam}
use Rattle.std.specs.Prelude.{slice_get}
use Rattle.std.specs.List.{AllZip}
use Rattle.dump_text.specs.PropertyList.{Property}
use Rattle.dump_records.specs.DumpText.{Ending, HasRecords, HaveVersions, IsCutInto, line_feeds}
use Rattle.dump_records.specs.RecordText.{DumpRecord, is_lawful}
use Rattle.dump_records.proofs.Versions.{versions_append, versions_prefix}
use Rattle.dump_digest.specs.RecordParts.{HasPropertyList, is_revision_record}
use Rattle.dump_filter.specs.Groups.{Group, group_number, groups, revision_numbers}
use Rattle.dump_trees.specs.Changes.{Change, steps}
use Rattle.dump_trees.specs.Revisions.{loaded, loaded_over}
use Rattle.dump_trees.specs.Trees.{Tree, root_alone}
use Rattle.dump_trees.proofs.histories.FrontLemmas.{loaded_behind, loaded_length}
use Rattle.dump_trees.proofs.histories.KeptNumbers.{get_last, length_push}
use Rattle.dump_history.specs.DumpChanges.{HaveRevisionProperties, LoadsAs, MakeChanges, counts_from, has_ordered_nodes}
use Rattle.dump_history.specs.steps.ExpandedDumps.{IsSameRecord}
use Rattle.dump_history.specs.ExpandedText.{AreRecordTexts}
use Rattle.dump_history.specs.RecordChanges.{Patching}
use Rattle.dump_history.proofs.cuts.TrimmedTexts.{same_group_revisions, same_groups_make, same_ordered}
use Rattle.dump_history.proofs.expanded.FormLemmas.{AllFit, all_fit}
use Rattle.dump_history.proofs.expanded.StandLemmas.{HaveSameRevisions, same_numbers, same_properties}
use Rattle.dump_history.proofs.expanded.TextLemmas.{both_fit, texts_grow}
use Rattle.dump_cut.specs.LaterParts.{KeepsVersion, LoadsInParts, LoadsOn, head_part, is_later_revision, part_from, part_up_to}
use Rattle.dump_cut.specs.steps.LaterParts.{DumpsLoadInParts}
use Rattle.dump_cut.proofs.TrimmedTextLemmas.{cut_texts}
use Rattle.dump_cut.proofs.LaterRecords.{BeginsGroup, CutBefore, before_first, begins_group, both_parts, counted_parts, cut_at, cut_before, first_is_dump, first_no_revision, fit_parts, from_first, groups_join, groups_up_to, later_revision, no_groups_before, ordered_join, texts_are_dump, version_before, versions_rest, zip_parts}

-- a load in two parts

-- the first revisions load to these trees, and then the others load over them
record LoadedParts (trees : List Tree) (youngest : Tree) (number : ℕ) (front rest : List (List Change)) (all : List Tree)
    : Type 0 where
  first : List Tree
  last : Tree
  loads : loaded trees youngest front ≡ Some first
  count : length first ≡ suc (number + length front)
  is_last : slice_get first (number + length front) ≡ Some last
  goes_on : loaded first last rest ≡ Some all

loaded_parts : (trees : List Tree) (youngest : Tree) (number : ℕ) → length trees ≡ suc number
    → slice_get trees number ≡ Some youngest → (front rest : List (List Change)) (all : List Tree)
    → loaded trees youngest (front ++ rest) ≡ Some all → LoadedParts trees youngest number front rest all
loaded_parts trees youngest number size at [] rest all is =
    let none : number + 0 ≡ number = omega arith in
    record {
      first = trees;
      last = youngest;
      loads = refl;
      count = size ∙ ap suc (sym none);
      is_last = ap (slice_get trees) none ∙ at;
      goes_on = is;
    }
loaded_parts trees youngest number size at (changes ∷ front) rest all is =
    cases (steps (slice_get trees) youngest changes) refl is
    (λ t found. loaded_parts (trees ++ t ∷ []) t (suc number) (length_push trees t ∙ ap suc size)
    (ap (slice_get (trees ++ t ∷ [])) (sym size) ∙ get_last trees t) front rest all found)
  where
    cases : (o : Option Tree) → steps (slice_get trees) youngest changes ≡ o
        → option_and_then (λ t. loaded (trees ++ t ∷ []) t (front ++ rest)) o ≡ Some all
        → ((t : Tree) → loaded (trees ++ t ∷ []) t (front ++ rest) ≡ Some all
        → LoadedParts (trees ++ t ∷ []) t (suc number) front rest all)
        → LoadedParts trees youngest number (changes ∷ front) rest all
    cases None makes bad further = absurd (let worse : None ≡ Some all = bad in cc)
    cases (Some t) makes found further =
        let parts = further t found in
        let same : suc number + length front ≡ number + suc (length front) = omega arith in
        record {
          first = parts.first;
          last = parts.last;
          loads = ap (option_and_then (λ t. loaded (trees ++ t ∷ []) t front)) makes ∙ parts.loads;
          count = parts.count ∙ ap suc same;
          is_last = ap (slice_get parts.first) (sym same) ∙ parts.is_last;
          goes_on = parts.goes_on;
        }

module _ (patched : Patching) (number : ℕ) (dump : List ℕ) (records : List DumpRecord) (revisions : List (List Change))
    (trees : List Tree) (has : HasRecords dump records Ending.Whole)
    (loads : LoadsAs patched root_alone records revisions trees) (low : number < length trees) where
  -- the records before the first revision, those up to the revision, and those from the next one on
  abbrev heads : List DumpRecord
  heads = before_first is_revision_record records

  abbrev firsts : List DumpRecord
  firsts = before_first (is_later_revision number) records

  abbrev later : List DumpRecord
  later = from_first (is_later_revision number) records

  cut : IsCutInto 0 0 dump records []
  cut = subst (λ (l : List ℕ). IsCutInto 0 0 dump records l) has.3.0 has.1

  at_head : CutBefore is_revision_record 0 0 (length dump) dump records
  at_head = cut_before is_revision_record 0 0 (length dump) dump records (omega arith) cut

  at_later : CutBefore (is_later_revision number) 0 0 (length dump) dump records
  at_later = cut_before (is_later_revision number) 0 0 (length dump) dump records (omega arith) cut

  -- the records

  fit : AllFit records
  fit = all_fit 0 0 dump [] records cut

  begins : BeginsGroup later
  begins = begins_group (is_later_revision number) (later_revision number) records fit

  versions : KeepsVersion number records → HaveVersions 0 (heads ++ later)
  versions keeps =
      let of_heads = versions_prefix 0 heads (from_first is_revision_record records)
      (subst (HaveVersions 0) (sym (both_parts is_revision_record records)) has.2) in
      let of_later = versions_rest 0 firsts later
      (subst (HaveVersions 0) (sym (both_parts (is_later_revision number) records)) has.2) in
      versions_append 0 heads later of_heads
      (subst (λ v. HaveVersions v later)
      (version_before (is_later_revision number) 0 records ∙ keeps ∙ sym (version_before is_revision_record 0 records))
      of_later)

  fit_later : AllFit (heads ++ later)
  fit_later =
      both_fit heads later
      (fit_parts heads (from_first is_revision_record records)
      (subst AllFit (sym (both_parts is_revision_record records)) fit)).0
      (fit_parts firsts later (subst AllFit (sym (both_parts (is_later_revision number) records)) fit)).1

  -- the groups

  grouped : groups records ≡ groups firsts ++ groups later
  grouped = ap groups (sym (both_parts (is_later_revision number) records)) ∙ groups_join firsts later begins

  later_groups : groups (heads ++ later) ≡ groups later
  later_groups = groups_join heads later begins ∙ ap (λ (gs : List Group). gs ++ groups later) (no_groups_before records)

  tree_count : length trees ≡ suc (length revisions)
  tree_count =
      loaded_length (root_alone ∷ []) root_alone revisions trees loads.loads
      ∙ (let next : 1 + length revisions ≡ suc (length revisions) = omega arith in next)

  first_count : length (groups firsts) ≡ suc number
  first_count =
      let all = AllZip-long (MakeChanges patched) (groups records) ([] ∷ revisions) loads.makes.changes in
      let size = tree_count in
      let count = groups_up_to number 0 records loads.makes.numbered (omega arith) (omega (arith, low, all, size)) in
      omega (arith, count)

  -- what the groups make and have, in two parts
  group_parts : {B : Type 0} (R : Group → B → Type 0) (zs : List B) → AllZip R (groups records) zs
      → AllZip R (groups firsts) (take (suc number) zs) × AllZip R (groups later) (drop (suc number) zs)
  group_parts {B} R zs all =
      subst (λ n. AllZip R (groups firsts) (take n zs) × AllZip R (groups later) (drop n zs)) first_count
      (zip_parts R (groups firsts) (groups later) zs (subst (λ (gs : List Group). AllZip R gs zs) grouped all))

  numbered : (counts_from 0 (map group_number (groups firsts)) ≡ true)
      × (counts_from (suc number) (map group_number (groups later)) ≡ true)
  numbered =
      let parts = counted_parts 0 (map group_number (groups firsts)) (map group_number (groups later))
      (ap (counts_from 0) (sym (ap (map group_number) grouped ∙ map-append group_number (groups firsts) (groups later)))
      ∙ loads.makes.numbered) in
      let size : suc number ≡ 0 + length (map group_number (groups firsts)) =
      sym first_count ∙ sym (length-map (groups firsts) group_number) ∙ omega arith in
      (parts.0, ap (λ n. counts_from n (map group_number (groups later))) size ∙ parts.1)

  -- their order
  ordered : (has_ordered_nodes false firsts ≡ true) × (has_ordered_nodes false later ≡ true)
  ordered =
      and_parts (has_ordered_nodes false firsts) (has_ordered_nodes false later)
      (sym (ordered_join false firsts later begins)
      ∙ ap (has_ordered_nodes false) (both_parts (is_later_revision number) records)
      ∙ loads.makes.ordered)

  ordered_later : has_ordered_nodes false (heads ++ later) ≡ true
  ordered_later =
      let rest = from_first is_revision_record records in
      let head = and_parts (has_ordered_nodes false heads) (has_ordered_nodes false rest)
      (sym (ordered_join false heads rest (begins_group is_revision_record (λ r revision. revision) records fit))
      ∙ ap (has_ordered_nodes false) (both_parts is_revision_record records)
      ∙ loads.makes.ordered) in
      ordered_join false heads later begins
      ∙ and_from (has_ordered_nodes false heads) (has_ordered_nodes false later) head.0 ordered.1

  -- the trees

  parts : LoadedParts (root_alone ∷ []) root_alone 0 (take number revisions) (drop number revisions) trees
  parts =
      loaded_parts (root_alone ∷ []) root_alone 0 refl refl (take number revisions) (drop number revisions) trees
      (ap (loaded_over root_alone) (take-append-drop number revisions) ∙ loads.loads)

  last_is : 0 + length (take number revisions) ≡ number
  last_is =
      let size = tree_count in
      let count = length-take-le number revisions (omega (arith, low, size)) in omega (arith, count)

  first_trees : take (suc number) trees ≡ parts.first
  first_trees =
      let (more, is) = loaded_behind parts.first parts.last (drop number revisions) trees parts.goes_on in
      (λ i. take (suc (sym last_is i)) (is i)) ∙ ap (λ n. take n (parts.first ++ more)) (sym parts.count)
      ∙ take-append_seam parts.first more

  -- the first part

  pub loads_first : LoadsAs patched root_alone firsts (take number revisions) (take (suc number) trees)
  loads_first = record {
    makes = record {
      numbered = numbered.0;
      ordered = ordered.0;
      changes = (group_parts (MakeChanges patched) ([] ∷ revisions) loads.makes.changes).0;
    };
    loads = parts.loads ∙ ap Some (sym first_trees);
  }

  first_properties : (props : List (List Property)) → HaveRevisionProperties records props
      → HaveRevisionProperties firsts (take (suc number) props)
  first_properties props have = (group_parts (λ (g : Group) ps. HasPropertyList g.revision ps) props have).0

  -- the later part, whose records are the same at other places
  module _ (others : List DumpRecord) (same : AllZip IsSameRecord (heads ++ later) others) where
    same_revisions : HaveSameRevisions (groups (heads ++ later)) (groups others)
    same_revisions = same_group_revisions (heads ++ later) others same

    on_count : length (take (suc number) trees) ≡ suc number
    on_count = length-take-le (suc number) trees (omega (arith, low))

    loads_later : LoadsOn patched (take (suc number) trees) others (drop number revisions) trees
    loads_later = record {
      numbered = ap (λ n. counts_from n (revision_numbers others)) on_count
          ∙ ap (counts_from (suc number)) (same_numbers (groups (heads ++ later)) (groups others) same_revisions
          ∙ ap (map group_number) later_groups) ∙ numbered.1;
      ordered = same_ordered false (heads ++ later) others same ordered_later;
      changes = same_groups_make patched (heads ++ later) others (drop number revisions) same
          (subst (λ (gs : List Group). AllZip (MakeChanges patched) gs (drop number revisions)) (sym later_groups)
          (group_parts (MakeChanges patched) ([] ∷ revisions) loads.makes.changes).1);
      last = number;
      youngest = parts.last;
      count = on_count;
      is_youngest = (λ i. slice_get (first_trees i) (sym last_is i)) ∙ parts.is_last;
      loads = ap (λ ts. loaded ts parts.last (drop number revisions)) first_trees ∙ parts.goes_on;
    }

    later_properties : (props : List (List Property)) → HaveRevisionProperties records props
        → HaveRevisionProperties others (drop (suc number) props)
    later_properties props have =
        let Has : Group → List Property → Type 0 = λ g ps. HasPropertyList g.revision ps in
        same_properties (groups (heads ++ later)) (groups others) (drop (suc number) props) same_revisions
        (subst (λ (gs : List Group). AllZip Has gs (drop (suc number) props)) (sym later_groups)
        (group_parts Has props have).1)

  -- the first record is a version record
  module _ (keeps : KeepsVersion number records) (r : DumpRecord) (rest : List DumpRecord) (is : records ≡ r ∷ rest)
      (lawful : is_lawful 0 r.headers ≡ true) where
    heads_are : heads ≡ r ∷ before_first is_revision_record rest
    heads_are = ap (before_first is_revision_record) is ∙ rw (first_no_revision r lawful) refl

    has_others : (part : List ℕ) → part ≡ head_part dump records ++ part_from number dump records
        → (others : List DumpRecord) × HasRecords part others Ending.Whole × AllZip IsSameRecord (heads ++ later) others
    has_others part part_is =
        let (lfs, front, spelled, texts) = cut_texts 0 0 at_head.front heads at_head.cut in
        let more = before_first is_revision_record rest in
        let whole : heads ++ later ≡ r ∷ (more ++ later) = ap (λ (l : List DumpRecord). l ++ later) heads_are in
        let (others, has_them, same) =
        texts_are_dump part (front ++ at_later.after) r (more ++ later) lfs (subst AllFit whole fit_later) lawful
        (subst (HaveVersions 0) whole (versions keeps))
        (part_is
        ∙ (λ i. (cut_at is_revision_record dump records at_head).0 i
        ++ (cut_at (is_later_revision number) dump records at_later).1 i)
        ∙ ap (λ t. t ++ at_later.after) spelled
        ∙ append_assoc (line_feeds lfs) front at_later.after)
        (subst (λ (l : List DumpRecord). AreRecordTexts l (front ++ at_later.after)) whole
        (texts_grow heads later front at_later.after texts at_later.texts)) in
        (others, has_them, subst (λ (l : List DumpRecord). AllZip IsSameRecord l others) (sym whole) same)

    both_load : (first part : List ℕ) → first ≡ part_up_to number dump records
        → part ≡ head_part dump records ++ part_from number dump records
        → LoadsInParts patched number records revisions trees first part
    both_load first part first_is part_is =
        let (others, has_them, same) = has_others part part_is in
        record {
          firsts = firsts;
          others = others;
          has_firsts = first_is_dump number dump first records has first_is;
          has_others = has_them;
          loads_first = loads_first;
          loads_later = loads_later others same;
          properties = λ props have. (first_properties props have, later_properties others same props have);
        }

  parts_load : KeepsVersion number records → (rs : List DumpRecord) → records ≡ rs → IsCutInto 0 0 dump rs []
      → 0 < length rs → (first part : List ℕ) → first ≡ part_up_to number dump records
      → part ≡ head_part dump records ++ part_from number dump records
      → LoadsInParts patched number records revisions trees first part
  parts_load keeps [] is cut_is some = absurd (omega (arith, some))
  parts_load keeps (r ∷ rest) is cut_is some = both_load keeps r rest is cut_is.5.lawful

-- each dump that loads can be cut after each revision
pub dumps_load_in_parts : DumpsLoadInParts
dumps_load_in_parts patched number dump first part records revisions trees has loads low keeps is_first is_later =
    parts_load patched number dump records revisions trees has loads low keeps records refl
    (subst (λ (l : List ℕ). IsCutInto 0 0 dump records l) has.3.0 has.1) has.3.1 first part (is_first records has)
    (is_later records has)
