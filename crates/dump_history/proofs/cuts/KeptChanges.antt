-- What is written of a dump comes from its kept changes, if no record is replaced.
use Rattle.dump_history.proofs.Prelude.{◌≡◌, true, refl, sym, subst, inl, append-nil, drop, slice_get, MatchBool-at_false, Contains, Property, DumpRecord, Settings, KeptRevisions, kept_revisions, IsNewProperty, keeps, NodePath, Tree, root_alone, Made, Change, NewProperty, NewNumber, EmptyRule, AreNewRevisions, keeps_revision, IsWrittenNumber, Patching}
use Rattle.std.proofs.Common.{ℕ, Bool, false, List, [], ◌∷◌, ◌++◌, Option, Some, None, map, option_and_then}
use Rattle.std.specs.List.{All}
use Rattle.std.proofs.lemmas.Bool.{MatchBool-at_true}
use Rattle.std.proofs.lemmas.List.Elements.{All-nil, All-cons, All-head, All-tail, All-append, All-same, All-weaker, All-contains_itself}
use Rattle.dump_records.specs.DumpText.{Ending, HasRecords}
use Rattle.dump_filter.specs.FilterLaws.{LengthsFit}
use Rattle.dump_filter.specs.WholeText.{IsCleanText}
use Rattle.dump_trees.specs.Changes.{History, step, steps}
use Rattle.dump_trees.specs.ComingBack.{SetsProperty, SomeKeptDoes, entries_in}
use Rattle.dump_trees.specs.steps.ExpansionCases.{deletion_of, deletions}
use Rattle.dump_trees.specs.Revisions.{loaded}
use Rattle.dump_trees.specs.steps.Trimming.{IsSameNumber}
use Rattle.dump_history.specs.steps.CutDumps.{leaves_no_gap}
use Rattle.dump_history.specs.DumpChanges.{MakeRevisions}
use Rattle.dump_history.specs.KeptChanges.{CopiesPart, ComesOfKept, ChangesComeOfKept}
use Rattle.dump_history.specs.steps.KeptChanges.{FilteredChangesAreKept, TrimmedChangesAreKept}
use Rattle.dump_history.specs.TrimmedDumps.{IsTrimmedText}
use Rattle.dump_history.specs.steps.TrimmedDumps.{AreAllTrimming, AreTrimming, changes_behind, part_groups, revisions_with, stays_empty}
use Rattle.dump_history.specs.WrittenNodes.{WrittenNode}
use Rattle.dump_history.specs.steps.WrittenNodes.{written_change}
use Rattle.dump_history.proofs.restricted.FilteredLaw.{is_left, same_kept}
use Rattle.dump_history.proofs.restricted.LoadsOnce.{whole_records_once}
use Rattle.dump_history.proofs.cuts.CopiesOver.{Delete, IsDeletion, over_without, written_over}
use Rattle.dump_history.proofs.cuts.WrittenChanges.{IsSameProperty, revisions_written}
use Rattle.dump_history.proofs.cuts.OwnNumbers.{numbers_are_kept}
use Rattle.dump_history.proofs.cuts.TrimmedTexts.{trimmed_texts_are_dumps}

deletions_delete : (top : NodePath) (rests : List NodePath) → All IsDeletion (deletions top rests)
deletions_delete top [] = All-nil IsDeletion
deletions_delete top (rest ∷ rests) =
    All-cons IsDeletion (deletion_of (top ++ rest)) (deletions top rests) (top ++ rest, refl) (deletions_delete top rests)

-- the nodes after changes delete
module _ (settings : Settings) where
  trimming_deletes : (history : History) (before after : Tree) (changes : List Change) (behind : List (List WrittenNode))
      → AreTrimming settings history before changes behind → steps history before changes ≡ Some after
      → All Delete behind
  trimming_deletes history before after [] behind none at = All-same Delete behind [] none (All-nil Delete)
  trimming_deletes history before after (c ∷ changes) behind trims at =
      sides (λ t more trimming rest. trimming_deletes history t after changes more trimming rest)
      (step history before c) refl at (keeps settings c.path) refl
    where
      Later : Type 0
      Later = (t : Tree) (more : List (List WrittenNode)) → AreTrimming settings history t changes more
          → steps history t changes ≡ Some after → All Delete more

      sides : Later → (o : Option Tree) → step history before c ≡ o
          → option_and_then (λ t. steps history t changes) o ≡ Some after
          → (b : Bool) → keeps settings c.path ≡ b → All Delete behind
      sides later None is bad b kept = absurd (let worse : None ≡ Some after = bad in cc)
      sides later (Some t) is rest true kept =
          let (nodes, more, rests, listed, deleted, trimmed, further) = MatchBool-at_true _ _ kept trims in
          All-same Delete behind (nodes ∷ more) listed
          (All-cons Delete nodes more
          (All-same IsDeletion (map written_change nodes) (deletions c.path rests) deleted (deletions_delete c.path rests))
          (later t more (further t is) rest))
      sides later (Some t) is rest false left = later t behind (MatchBool-at_false _ _ left trims t is) rest

  all_trimming_deletes : (older : List Tree) (youngest : Tree) (these : List (List Change)) (trees : List Tree)
      (groups : List (List (List WrittenNode))) → AreAllTrimming settings older youngest these groups
      → loaded older youngest these ≡ Some trees → All (All Delete) groups
  all_trimming_deletes older youngest [] trees groups none at =
      All-same (All Delete) groups [] none (All-nil (All Delete))
  all_trimming_deletes older youngest (changes ∷ these) trees groups trims at =
      sides (λ t more trimming loads. all_trimming_deletes (older ++ t ∷ []) t these trees more trimming loads)
      (steps (slice_get older) youngest changes) refl at (keeps_revision settings (stays_empty settings) changes) refl
    where
      Later : Type 0
      Later = (t : Tree) (more : List (List (List WrittenNode)))
          → AreAllTrimming settings (older ++ t ∷ []) t these more
          → loaded (older ++ t ∷ []) t these ≡ Some trees → All (All Delete) more

      sides : Later → (o : Option Tree) → steps (slice_get older) youngest changes ≡ o
          → option_and_then (λ t. loaded (older ++ t ∷ []) t these) o ≡ Some trees
          → (b : Bool) → keeps_revision settings (stays_empty settings) changes ≡ b → All (All Delete) groups
      sides later None is bad b kept = absurd (let worse : None ≡ Some trees = bad in cc)
      sides later (Some t) is loads true kept =
          let (first, rest, listed, trimming, further) = MatchBool-at_true _ _ kept trims in
          All-same (All Delete) groups (first ∷ rest) listed
          (All-cons (All Delete) first rest (trimming_deletes (slice_get older) youngest t changes first trimming is)
          (later t rest (further t is) loads))
      sides later (Some t) is loads false left = later t groups (MatchBool-at_false _ _ left trims t is) loads

-- a kept change comes from itself
module _ (settings : Settings) (revisions : List (List Change)) where
  own_set : (changes : List Change) (c : Change) → Contains revisions changes → Contains changes c
      → keeps settings c.path ≡ true → ComesOfKept settings revisions IsSameProperty IsSameNumber c
  own_set changes c among there kept = record {
    props = All-weaker (Contains (entries_in c.props))
        (λ new. (old : Property) × IsSameProperty old new × SomeKeptDoes settings revisions (SetsProperty old))
        (λ p has. (p, refl, does (SetsProperty p) has)) (entries_in c.props) (All-contains_itself (entries_in c.props));
    text = λ change is. inl (does (λ d. d.text ≡ Some change) is);
    copies = λ number source is. (
      number,
      refl,
      does (CopiesPart c.path number source)
          (source, [], is, sym (append-nil c.path), sym (append-nil source)),
    );
  }
    where
      does : (Does : Change → Type 0) → Does c → SomeKeptDoes settings revisions Does
      does Does it = record { changes = changes; change = c; among = among; there = there; kept = kept; does = it }

  abbrev IsKeptSet : Change → Type 0
  IsKeptSet d = keeps settings d.path ≡ true → ComesOfKept settings revisions IsSameProperty IsSameNumber d

  all_own : All (All IsKeptSet) revisions
  all_own =
      All-weaker (Contains revisions) (All IsKeptSet)
      (λ changes among. All-weaker (Contains changes) IsKeptSet (λ c there. own_set changes c among there) changes
      (All-contains_itself changes)) revisions (All-contains_itself revisions)

  -- a deletion comes from nothing
  module _ (IsNew : NewProperty) (IsNumber : NewNumber) where
    abbrev Comes : Change → Type 0
    Comes d = ComesOfKept settings revisions IsNew IsNumber d

    deletion_comes : (path : NodePath) → Comes (deletion_of path)
    deletion_comes path = record {
      props = All-nil (λ new. (old : Property) × IsNew old new × SomeKeptDoes settings revisions (SetsProperty old));
      text = λ change is. absurd (let bad : None ≡ Some change = is in cc);
      copies = λ number source is. absurd (let bad : None ≡ Some (Made.Copied number source) = is in cc);
    }

    deletion_is : (d : Change) → IsDeletion d → Comes d
    deletion_is d (path, is) = subst Comes (sym is) (deletion_comes path)

    -- changes with deletions after them come from kept changes too
    behind_come : (behind : List (List WrittenNode)) (changes : List Change) → All Delete behind → All Comes changes
        → All Comes (changes_behind behind changes)
    behind_come [] changes deletes come = All-nil Comes
    behind_come (nodes ∷ behind) [] deletes come = All-nil Comes
    behind_come (nodes ∷ behind) (c ∷ changes) deletes come =
        All-cons Comes c (map written_change nodes ++ changes_behind behind changes) (All-head Comes c changes come)
        (All-append Comes (map written_change nodes) (changes_behind behind changes)
        (All-weaker IsDeletion Comes deletion_is (map written_change nodes) (All-head Delete nodes behind deletes))
        (behind_come behind changes (All-tail Delete nodes behind deletes) (All-tail Comes c changes come)))

    revisions_come : (groups : List (List (List WrittenNode))) (written : List (List Change)) → All (All Delete) groups
        → All (All Comes) written → All (All Comes) (revisions_with groups written)
    revisions_come [] written deletes come = All-nil (All Comes)
    revisions_come (behind ∷ groups) [] deletes come = All-nil (All Comes)
    revisions_come (behind ∷ groups) (changes ∷ written) deletes come =
        All-cons (All Comes) (changes_behind behind changes) (revisions_with groups written)
        (behind_come behind changes (All-head (All Delete) behind groups deletes) (All-head (All Comes) changes written come))
        (revisions_come groups written (All-tail (All Delete) behind groups deletes) (All-tail (All Comes) changes written come))

-- what the filter writes
module _ (patched : Patching) (settings : Settings) (dump filtered : List ℕ) (records : List DumpRecord)
    (revisions : List (List Change)) (clean : IsCleanText settings dump records filtered)
    (fit : LengthsFit settings records) (makes : MakeRevisions patched records revisions)
    (no_gap : leaves_no_gap settings ≡ true) where
  abbrev IsNew : NewProperty
  IsNew = IsNewProperty settings (kept_revisions settings records)

  abbrev AllCome : List (List Change) → Type 0
  AllCome written =
      All (All (ComesOfKept settings revisions IsNew (IsWrittenNumber settings (kept_revisions settings records)))) written

  written_come : (kept : KeptRevisions) (rule : EmptyRule) (written : List (List Change))
      → kept_revisions settings records ≡ kept
      → AreNewRevisions settings IsNew (IsWrittenNumber settings kept) rule revisions written → AllCome written
  written_come kept rule written same new =
      subst (λ k. All (All (ComesOfKept settings revisions IsNew (IsWrittenNumber settings k))) written) (sym same)
      (revisions_written settings revisions IsNew (IsWrittenNumber settings kept) rule revisions written
      (all_own settings revisions) new)

  pub filtered_come : ChangesComeOfKept patched settings records revisions filtered
  filtered_come =
      let (named, numbering) = numbers_are_kept settings records no_gap in
      let left = is_left patched settings dump filtered records revisions clean fit named makes in (
        left.again,
        left.written,
        left.has,
        record {
          numbered = left.no_gap_if_kept numbering;
          ordered = left.makes_again.ordered;
          changes = left.makes_again.changes;
        },
        written_come _ _ left.written (same_kept patched settings dump filtered records revisions clean fit named makes) left.new,
        λ side path over. written_over settings IsNew _ _ side path revisions left.written left.new over,
      )

  -- with nodes after its records that delete
  pub trimmed_come : (again : List DumpRecord) (behind : List (List WrittenNode)) (text : List ℕ)
      → HasRecords filtered again Ending.Whole → IsTrimmedText again behind text
      → All (All Delete) (drop 1 (part_groups again behind))
      → ChangesComeOfKept patched settings records revisions text
  trimmed_come again behind text has trimmed deletes =
      let (named, numbering) = numbers_are_kept settings records no_gap in
      let left = is_left patched settings dump filtered records revisions clean fit named makes in
      let same : left.again ≡ again = whole_records_once filtered left.again again left.has has in
      let (parts, has_parts, makes_parts, properties) =
      trimmed_texts_are_dumps patched filtered text left.again behind left.written left.has
      (record {
        numbered = left.no_gap_if_kept numbering;
        ordered = left.makes_again.ordered;
        changes = left.makes_again.changes;
      }) (subst (λ l. IsTrimmedText l behind text) (sym same) trimmed) in (
        parts,
        revisions_with (drop 1 (part_groups left.again behind)) left.written,
        has_parts,
        makes_parts,
        revisions_come settings revisions IsNew (IsWrittenNumber settings (kept_revisions settings records))
            (drop 1 (part_groups left.again behind)) left.written
            (subst (λ l. All (All Delete) (drop 1 (part_groups l behind))) (sym same) deletes)
            (written_come _ _ left.written
            (same_kept patched settings dump filtered records revisions clean fit named makes) left.new),
        λ side path over.
            written_over settings IsNew _ _ side path revisions left.written left.new
            (over_without path (drop 1 (part_groups left.again behind)) left.written
            (subst (λ l. All (All Delete) (drop 1 (part_groups l behind))) (sym same) deletes) over),
      )

pub filtered_changes_are_kept : FilteredChangesAreKept
filtered_changes_are_kept patched settings dump filtered records revisions clean fit makes no_gap =
    filtered_come patched settings dump filtered records revisions clean fit makes no_gap

pub trimmed_changes_are_kept : TrimmedChangesAreKept
trimmed_changes_are_kept patched settings dump records revisions trees text f no_gap =
    trimmed_come patched settings dump f.filtered records revisions f.clean f.fit f.loads.makes no_gap f.again f.behind text
    f.has_again f.trimmed
    (all_trimming_deletes settings (root_alone ∷ []) root_alone revisions trees
    (drop 1 (part_groups f.again f.behind)) f.trims f.loads.loads)
