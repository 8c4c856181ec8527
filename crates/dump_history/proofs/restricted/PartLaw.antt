-- The law of partial dumps.
use Rattle.dump_history.proofs.Prelude.{◌≡◌, suc, ◌+◌, Bool, true, not, ◌&&◌, ◌||◌, ◌==◌, ◌⊎◌, None, IsSome, is_some, length, map, bytes_eq, MatchBool, refl, sym, ap, ◌∙◌, subst, inl, inr, arith, list_all, MatchBool-at_false, or_left, or_right, or_parts, length-map, Ending, HasRecords, IsCutInto, DumpRecord, Settings, KeptRevisions, image, is_mergeinfo, mergeinfo_name, LengthsFit, Group, groups, group_number, keeps_group, first_number, kept_revisions, IsNewProperty, IsWrittenCopyNumber, IsCleanText, AllLawful, all_lawful, reads_again, Tree, root_alone, is_copied, Change, given, NewProperty, KeepsEntries, ImagesRestrict, revisions_behind, loaded_over, names_none_behind, stays_numbered, AreNewRevisions, kept_from, kept_of, IsWrittenNumber, given_directories, loads_alike, given_alike, both_restrict, history, AreAbove, kept_above, fewer_names_none, all_quiet, Patching, IsRaised, sets_mergeinfo, names_revision, count_to_gap, KeepsNamedNumbers, keeps_numbering, HasNoGapIfKept, RevisionsKeepProperties, MakePartRevisions, MakePartRevisionsWithGaps, IsLoadedProperty, IsLoadedBehindOne, kept_as_loaded, PartLoadsBehind, FilteredPartRestricts, QuietPartRestricts, absurd_bool, first_true, second_true}
use Rattle.std.proofs.Common.{ℕ, false, List, [], ◌∷◌, Some, filter}
use Rattle.dump_history.proofs.again.NodeChanges.{entries_kept}
use Rattle.dump_history.proofs.again.GroupsAgain.{keeps_first, AreGroupsAgain, groups_again}
use Rattle.dump_history.proofs.again.GroupChanges.{GroupsMake, empty_rule, AreNumberedFrom, groups_change}
use Rattle.dump_history.proofs.again.GroupNumbers.{renumbered_again, same_again, kept_numbers_are, properties_again}
use Rattle.dump_history.proofs.again.OrderAgain.{none_behind, order_again}
use Rattle.dump_history.proofs.again.NamingNodes.{none_named_behind}
use Rattle.dump_history.proofs.again.GapNumbers.{no_gap, gap_again}
use Rattle.dump_history.proofs.again.DumpAgain.{groups_are, numbered_from, counted_from}
use Rattle.dump_history.proofs.restricted.RaisedLemmas.{raised_entries}
use Rattle.dump_history.proofs.restricted.PartNumbers.{raised_image, kept_raised, kept_from_raised, raised_none_behind, raised_counts, kept_loaded}
use Rattle.dump_history.proofs.restricted.PartChanges.{revisions_lowered}

-- the first number of groups that are numbered one by one from a number, if there are groups
first_is : (n : ℕ) (gs : List Group) → AreNumberedFrom n gs → (first_number (map group_number gs) ≡ n) ⊎ (gs ≡ [])
first_is n [] numbered = inr refl
first_is n (g ∷ gs) numbered = inl numbered.0

-- the clean text that the filter writes of a partial dump that makes these revisions
module _ (patched : Patching) (before : ℕ) (settings : Settings) (dump text : List ℕ) (records : List DumpRecord)
    (revisions : List (List Change))
    (clean : IsCleanText settings dump records text) (fit : LengthsFit settings records)
    (keeps : KeepsNamedNumbers settings records) (makes : MakePartRevisions patched before records revisions) where
  abbrev kept : KeptRevisions
  kept = kept_revisions settings records

  -- the kept revisions, numbered as the load numbers them
  abbrev loaded_kept : KeptRevisions
  loaded_kept = kept_of settings (empty_rule settings) revisions

  abbrev loaded_numbers : List ℕ
  loaded_numbers = kept_from settings (empty_rule settings) 1 revisions

  lawful : AllLawful records
  lawful = all_lawful 0 0 dump [] records
      (subst (λ (rest : List ℕ). IsCutInto 0 0 dump records rest) clean.whole.3.0 clean.whole.1)

  numbered : AreNumberedFrom (suc before) (groups records)
  numbered = numbered_from (suc before) (groups records) makes.numbered

  pub numbers_are : kept.numbers ≡ map (λ k. before + k) loaded_numbers
  numbers_are =
      kept_numbers_are settings patched before (groups records) (revisions_behind before revisions)
      (groups_are records).1 numbered makes.changes
      ∙ ap (λ n. kept_from settings (empty_rule settings) n (revisions_behind before revisions))
      (let same : suc before ≡ before + 1 = omega arith in same)
      ∙ kept_from_raised settings before 1 revisions

  above : AreAbove 0 loaded_numbers
  above = kept_above settings (empty_rule settings) 0 1 revisions (omega arith)

  -- without renumbering, no change names a revision after the first dropped one
  none_behind_dropped : settings.renumber ≡ false
      → names_none_behind settings (empty_rule settings) names_revision (revisions_behind before revisions) ≡ true
  none_behind_dropped stays = none_named_behind patched settings before (groups records)
      (revisions_behind before revisions) (groups_are records).1 numbered makes.changes
      (MatchBool-at_false _ _ stays keeps)

  -- so each copy finds its revision
  pub keeps_changes : stays_numbered settings (empty_rule settings) revisions ≡ true
  keeps_changes = cases settings.renumber refl
    where
      cases : (b : Bool) → settings.renumber ≡ b → stays_numbered settings (empty_rule settings) revisions ≡ true
      cases true renumber = or_left settings.renumber _ renumber
      cases false stays = or_right settings.renumber _ (fewer_names_none settings (empty_rule settings) names_revision
          (λ (c : Change). is_copied c.made) (λ c none. (or_parts (is_copied c.made) (sets_mergeinfo c) none).0)
          revisions (sym (raised_none_behind settings before revisions) ∙ none_behind_dropped stays))

  -- the number of a copy is written so that the load finds the right one
  written_number : (n new : ℕ) → IsWrittenCopyNumber settings kept (before + n) new
      → (low : ℕ) × (new ≡ before + low) × IsWrittenNumber settings loaded_kept n low
  written_number n new is = cases settings.renumber is
    where
      no_image : groups records ≡ [] → image kept (before + n) ≡ None
      no_image none = ap (λ (gs : List Group). image (kept_of_groups gs) (before + n)) none
        where
          kept_of_groups : List Group → KeptRevisions
          kept_of_groups gs = record {
            first = first_number (map group_number gs);
            numbers = map group_number (filter (keeps_group settings) gs);
          }

      cases : (b : Bool) → MatchBool b (image kept (before + n) ≡ Some new) (new ≡ before + n)
          → (low : ℕ) × (new ≡ before + low) × MatchBool b (image loaded_kept n ≡ Some low) (low ≡ n)
      cases true at =
          elim (first_is (suc before) (groups records) numbered) [
            | inl first ↦ raised_image before n new kept loaded_numbers above first numbers_are at
            | inr none ↦ absurd (let bad : None ≡ Some new = sym (no_image none) ∙ at in cc)
          ]
      cases false same = (n, same, refl)

  renumbered : settings.renumber ≡ true → (again : List Group) → AreGroupsAgain settings kept (groups records) again
      → AreNumberedFrom (suc before) again
  renumbered renumber again reads =
      elim (first_is (suc before) (groups records) numbered) [
        | inl first ↦ subst (λ n. AreNumberedFrom n again)
            (let same : suc before + length {A = ℕ} [] ≡ suc before = omega arith in same)
            (renumbered_again settings kept renumber (suc before) first (suc before) [] (groups records) again refl
            refl (groups_are records).0 numbered reads)
        | inr none ↦ subst (AreNumberedFrom (suc before))
            (sym (subst (λ gs. AreGroupsAgain settings kept gs again) none reads)) tt
      ]

  -- if the numbering is kept, there is no gap
  numbers_again : keeps_numbering settings records ≡ true → (again : List Group)
      → AreGroupsAgain settings kept (groups records) again → AreNumberedFrom (suc before) again
  numbers_again all again reads = cases settings.renumber refl
    where
      cases : (b : Bool) → settings.renumber ≡ b → AreNumberedFrom (suc before) again
      cases true renumber = renumbered renumber again reads
      cases false stays = same_again settings kept stays (suc before) (groups records) again
          (sym (ap (λ b. b || list_all (keeps_group settings) (groups records)) stays) ∙ all)
          (groups_are records).0 numbered reads

  -- otherwise there may be a gap
  gaps_again : (again : List Group) (written : List (List Change))
      → AreGroupsAgain settings kept (groups records) again → GroupsMake patched again written
      → AreNewRevisions settings (IsNewProperty settings kept) (IsWrittenCopyNumber settings kept)
      (empty_rule settings) (revisions_behind before revisions) written
      → count_to_gap (suc before) (map group_number again) written ≡ true
  gaps_again again written reads make new = cases settings.renumber refl
    where
      cases : (b : Bool) → settings.renumber ≡ b → count_to_gap (suc before) (map group_number again) written ≡ true
      cases true renumber = no_gap patched (suc before) again written (renumbered renumber again reads) make
      cases false stays = gap_again settings kept stays patched (IsNewProperty settings kept)
          (entries_kept settings kept) (IsWrittenCopyNumber settings kept) before (groups records) again
          (revisions_behind before revisions) written (groups_are records).0 (groups_are records).1 numbered
          makes.changes reads make new (none_behind_dropped stays)

  -- the text is a partial dump that makes what the filter leaves of the revisions
  pub record IsPartLeft : Type 0 where
    pub again : List DumpRecord
    pub has : HasRecords text again Ending.Whole
    pub written : List (List Change)
    pub makes_again : MakePartRevisionsWithGaps patched before again written
    pub no_gap_if_kept : HasNoGapIfKept settings records (suc before) again
    pub new : AreNewRevisions settings (IsNewProperty settings (kept_revisions settings records))
        (IsWrittenNumber settings (kept_of settings (empty_rule settings) revisions)) (empty_rule settings)
        revisions written
    pub properties : RevisionsKeepProperties settings records again

  pub part_left : IsPartLeft
  part_left =
      let (again, has, reads) = reads_again settings dump text records clean fit in
      let read_groups = groups_again settings kept records text again lawful reads in
      let (raised, make, new) = groups_change patched settings kept before (groups records) (groups again)
      (revisions_behind before revisions) (groups_are records).1 numbered read_groups makes.changes in
      let (written, raised_is, are_new) = revisions_lowered settings (IsNewProperty settings kept) before
      (IsWrittenCopyNumber settings kept) (IsWrittenNumber settings loaded_kept) written_number (empty_rule settings)
      (kept_raised settings before) revisions raised new in
      record {
        again = again;
        has = has;
        written = written;
        makes_again = record {
          numbered = sym (raised_counts before (suc before) (map group_number (groups again)) written)
              ∙ (ap (count_to_gap (suc before) (map group_number (groups again))) (sym raised_is)
              ∙ gaps_again (groups again) raised read_groups make new);
          ordered = order_again settings kept false false records text again lawful makes.ordered
              (λ first. absurd (absurd_bool (keeps_first settings kept records) first
              (none_behind settings kept records makes.ordered))) reads;
          changes = subst (GroupsMake patched (groups again)) raised_is make;
        };
        no_gap_if_kept =
            λ all. counted_from (suc before) (groups again) (numbers_again all (groups again) read_groups);
        new = are_new;
        properties = properties_again settings kept (groups records) (groups again) (groups_are records).0 read_groups;
      }

-- loaded properties keep their names, and have a value if they had one

loaded_entries : (before : ℕ) → KeepsEntries (IsLoadedProperty before)
loaded_entries before old new (name, value) = (name, cases (is_mergeinfo old && not (before == 0)) refl value)
  where
    cases : (b : Bool) → (is_mergeinfo old && not (before == 0)) ≡ b
        → MatchBool b (IsSome new.value) (new.value ≡ old.value) → is_some new.value ≡ is_some old.value
    cases true is some =
        let merges = first_true (is_mergeinfo old) (not (before == 0)) is in
        some ∙ sym (second_true (bytes_eq old.name mergeinfo_name) (is_some old.value) merges)
    cases false is same = ap (λ v. is_some v) same

loaded_behind_one : (before : ℕ) → KeepsEntries (IsLoadedBehindOne before)
loaded_behind_one before old new = cases (before == 0)
  where
    cases : (b : Bool) → MatchBool b (IsRaised 1 old new) (IsLoadedProperty before old new)
        → (new.name ≡ old.name) × (is_some new.value ≡ is_some old.value)
    cases true raised = raised_entries 1 old new raised
    cases false loaded = loaded_entries before old new loaded

-- if something has the restricted trees in a new repository, it has them after others too, with the properties that a
-- load makes
part_behind : (IsLoaded : NewProperty) → KeepsEntries IsLoaded → (older : List Tree) (before : ℕ) (settings : Settings)
    (records : List DumpRecord) (trees others : List Tree) (written : List (List Change))
    → loaded_over (given settings) written ≡ Some others
    → length others ≡ suc (length (kept_revisions settings records).numbers)
    → ImagesRestrict settings (IsNewProperty settings (kept_revisions settings records))
    (image (kept_as_loaded before (kept_revisions settings records))) trees others
    → PartLoadsBehind IsLoaded older before settings records trees written
part_behind IsLoaded entries older before settings records trees others written loads size images moved behind =
    let (later, loaded_are, same_size, alike) = loads_alike IsLoaded entries older (given settings) written moved others
    (given_directories settings) (given_alike settings IsLoaded) behind loads in (
      later,
      loaded_are,
      same_size ∙ size,
      λ number tree at.
          let (new, middle, image_is, stands, restricted) = images number tree at in
          let (other, there, same) = alike new middle stands in (
            new,
            other,
            image_is,
            there,
            both_restrict (IsNewProperty settings (kept_revisions settings records)) IsLoaded settings tree middle other
                restricted same,
          ),
    )

-- a partial dump loads, and its changes are separated: what is written of it loads, and has the restricted trees
pub filtered_part_restricts : FilteredPartRestricts
filtered_part_restricts patched before settings dump text records revisions trees clean fit keeps loads apart =
    let left = part_left patched before settings dump text records revisions clean fit keeps loads.makes in
    let (others, loaded, size, images) = history settings
    (IsNewProperty settings (kept_revisions settings records))
    (entries_kept settings (kept_revisions settings records)) (empty_rule settings) revisions left.written trees
    (keeps_changes patched before settings dump text records revisions clean fit keeps loads.makes) loads.loads apart
    left.new in
    let numbers = numbers_are patched before settings dump text records revisions clean fit keeps loads.makes in
    let same_size = size ∙ ap suc (sym (ap length numbers
    ∙ length-map (kept_from settings (empty_rule settings) 1 revisions) (λ k. before + k))) in
    let same_images = subst (λ (k : KeptRevisions). ImagesRestrict settings
    (IsNewProperty settings (kept_revisions settings records)) (image k) trees others)
    (sym (kept_loaded before (kept_revisions settings records)
    (kept_from settings (empty_rule settings) 1 revisions) numbers)) images in (
      left.again,
      left.written,
      left.has,
      left.makes_again,
      left.no_gap_if_kept,
      part_behind (IsLoadedProperty before) (loaded_entries before) [] before settings records trees others left.written
          loaded same_size same_images,
      part_behind (IsLoadedBehindOne before) (loaded_behind_one before) (root_alone ∷ []) before settings records trees
          others left.written loaded same_size same_images,
      left.properties,
    )

-- the same for a partial dump of quiet changes
pub quiet_part_restricts : QuietPartRestricts
quiet_part_restricts patched before settings dump text records revisions trees clean fit keeps loads quiet over =
    filtered_part_restricts patched before settings dump text records revisions trees clean fit keeps loads
    (all_quiet settings (root_alone ∷ []) root_alone revisions quiet over)
