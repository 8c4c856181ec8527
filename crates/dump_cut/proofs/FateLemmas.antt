-- The revisions that the filter keeps, record by record, are those of the groups.
use Rattle.std.proofs.Common.{◌≡◌, ℕ, suc, ◌+◌, ◌==◌, Bool, true, false, ◌&&◌, ◌||◌, List, [], ◌∷◌, ◌++◌, length, map, take_while, Option, Some, None, if◌then◌else◌, cond, refl, sym, ap, ap₂, ◌∙◌, arith, append-nil, append_assoc}
use Rattle.std.proofs.Math.Bool.{and-true, or-false, or_assoc}
use Rattle.std.proofs.lemmas.List.Sums.{take_while-cons}
use Rattle.std.specs.List.{list_any}
use Rattle.std.specs.Prelude.{⊤}
use Rattle.dump_records.specs.DumpText.{BeginsWithRecords, Ending, IsCutInto}
use Rattle.dump_records.specs.RecordText.{DumpRecord, record_text}
use Rattle.dump_records.specs.declared.cutter.Cut.{Cut}
use Rattle.dump_records.specs.declared.cutter.Cut.TheVariants as cuts
use Rattle.dump_records.specs.declared.record.Record.{Record}
use Rattle.dump_records.specs.steps.CutRecords.{EndsAfter}
use Rattle.dump_records.specs.steps.CutterState.{CutterState}
use Rattle.dump_records.specs.steps.RecordViews.{CutStep, record_item}
use Rattle.dump_rules.specs.Settings.{Settings}
use Rattle.dump_digest.specs.RecordParts.{is_kept_node, is_node, is_revision_record}
use Rattle.dump_filter.specs.Groups.{group_of, groups, keeps_empty, revision_number}
use Rattle.dump_filter.proofs.groups.KindLemmas.{alone}
use Rattle.dump_cut.specs.declared.fates.OpenRevision.{OpenRevision}
use Rattle.dump_cut.specs.declared.fates.RevisionFate.{RevisionFate}
use Rattle.dump_cut.specs.RevisionFates.{fate_of_group, fates_of_groups}
use Rattle.dump_records.proofs.CutterLemmas.{ReadSoFar, none_read, read_ends, read_more}
use Rattle.dump_cut.specs.steps.OpenRevisions.{AreFatesIn, ended_fates, fates_before, open_after, open_with}

-- the fates that are added after an open revision, up to the end of these records
abbrev pub fates_by : Settings → Option OpenRevision → List DumpRecord → List RevisionFate
fates_by settings present [] = ended_fates settings present
fates_by settings present (r ∷ records) =
    fates_before settings present r ++ fates_by settings (open_after settings present r) records

-- the fate of the open revision, if these nodes follow
abbrev closed_fates : Settings → Option OpenRevision → List DumpRecord → List RevisionFate
closed_fates settings None ns = []
closed_fates settings (Some p) ns = record {
  number = p.number;
  stays = p.number == 0 || (p.kept || list_any (is_kept_node settings) ns)
      || keeps_empty settings.empty (p.bare && length ns == 0);
} ∷ []

-- no record is both a node and a revision
abbrev pub AreOfOneKind : List DumpRecord → Type 0
AreOfOneKind [] = ⊤
AreOfOneKind (r ∷ records) = (is_node r ≡ true → is_revision_record r ≡ false) × AreOfOneKind records

kinds_of_cut : (number place : ℕ) (text rest : List ℕ) (records : List DumpRecord)
    → IsCutInto number place text records rest → AreOfOneKind records
kinds_of_cut number place text rest [] cut = tt
kinds_of_cut number place text rest (r ∷ records) (lfs, front, after, is, at, stands, more) =
    (alone number r stands.lawful, kinds_of_cut (number + 1) (r.place + length (record_text r)) after rest records more)

kinds_begun : (dump : List ℕ) (records : List DumpRecord) → BeginsWithRecords dump records → AreOfOneKind records
kinds_begun dump records (rest, cut, versions) = kinds_of_cut 0 0 dump rest records cut

-- the nodes at the beginning of the records
nodes_more : (r : DumpRecord) (records : List DumpRecord) → is_node r ≡ true
    → take_while is_node (r ∷ records) ≡ r ∷ take_while is_node records
nodes_more r records is =
    take_while-cons is_node r records ∙ ap (λ b. cond b (r ∷ take_while is_node records) []) is

nodes_none : (r : DumpRecord) (records : List DumpRecord) → is_node r ≡ false → take_while is_node (r ∷ records) ≡ []
nodes_none r records is =
    take_while-cons is_node r records ∙ ap (λ b. cond b (r ∷ take_while is_node records) []) is

ended_is : (settings : Settings) (present : Option OpenRevision) → ended_fates settings present ≡ closed_fates settings present []
ended_is settings None = refl
ended_is settings (Some p) = ap₂ (λ k b. record {
  number = p.number;
  stays = p.number == 0 || k || keeps_empty settings.empty b;
} ∷ []) (sym (or-false p.kept)) (sym (and-true p.bare))

some_nodes : (n : ℕ) (b : Bool) → (b && (suc n == 0)) ≡ false
some_nodes n true = grind arith
some_nodes n false = refl

module _ (settings : Settings) (present : Option OpenRevision) (r : DumpRecord) (records : List DumpRecord)
    (more : (next : Option OpenRevision) → fates_by settings next records
    ≡ closed_fates settings next (take_while is_node records) ++ fates_of_groups settings records) where
  -- before a record that is no node the open revision has all of its nodes
  ends_before : is_node r ≡ false
      → ended_fates settings present ≡ closed_fates settings present (take_while is_node (r ∷ records))
  ends_before other = ended_is settings present ∙ ap (closed_fates settings present) (sym (nodes_none r records other))

  of_revision : is_node r ≡ false
      → ended_fates settings present
      ++ fates_by settings (Some (record { number = revision_number r; bare = true; kept = false })) records
      ≡ closed_fates settings present (take_while is_node (r ∷ records))
      ++ map (fate_of_group settings) (group_of r records ∷ groups records)
  of_revision other =
      ap₂ (λ xs ys. xs ++ ys) (ends_before other)
      (more (Some (record { number = revision_number r; bare = true; kept = false })))

  of_other : is_node r ≡ false
      → ended_fates settings present ++ fates_by settings None records
      ≡ closed_fates settings present (take_while is_node (r ∷ records)) ++ fates_of_groups settings records
  of_other other = ap₂ (λ xs ys. xs ++ ys) (ends_before other) (more None)

  node_closes : (p : Option OpenRevision) → is_node r ≡ true
      → closed_fates settings (open_with (is_kept_node settings r) p) (take_while is_node records)
      ≡ closed_fates settings p (take_while is_node (r ∷ records))
  node_closes None node = refl
  node_closes (Some p) node =
      ap₂ (λ k b. record {
        number = p.number;
        stays = p.number == 0 || k || keeps_empty settings.empty b;
      } ∷ [])
      (or_assoc p.kept (is_kept_node settings r) (list_any (is_kept_node settings) (take_while is_node records)))
      (sym (some_nodes (length (take_while is_node records)) p.bare))
      ∙ ap (λ ns. closed_fates settings (Some p) ns) (sym (nodes_more r records node))

  of_node : is_node r ≡ true
      → fates_by settings (open_with (is_kept_node settings r) present) records
      ≡ closed_fates settings present (take_while is_node (r ∷ records)) ++ fates_of_groups settings records
  of_node node = more (open_with (is_kept_node settings r) present)
      ∙ ap (λ xs. xs ++ fates_of_groups settings records) (node_closes present node)

  fates_step : (v n : Bool) → is_node r ≡ n → is_revision_record r ≡ v → (n ≡ true → v ≡ false)
      → (if n then [] else ended_fates settings present) ++ fates_by settings
      (if v then Some (record { number = revision_number r; bare = true; kept = false })
      else if n then open_with (is_kept_node settings r) present else None) records
      ≡ closed_fates settings present (take_while is_node (r ∷ records))
      ++ map (fate_of_group settings) (if v then group_of r records ∷ groups records else groups records)
  fates_step true true node revision alone = absurd (let bad : true ≡ false = alone refl in cc)
  fates_step true false other revision alone = of_revision other
  fates_step false true node other alone = of_node node
  fates_step false false other no_revision alone = of_other other

-- the added fates are those of the open revision and of the groups
fates_are_by : (settings : Settings) (present : Option OpenRevision) (records : List DumpRecord) → AreOfOneKind records
    → fates_by settings present records
    ≡ closed_fates settings present (take_while is_node records) ++ fates_of_groups settings records
fates_are_by settings present [] kinds = ended_is settings present ∙ sym (append-nil (closed_fates settings present []))
fates_are_by settings present (r ∷ records) kinds =
    fates_step settings present r records (λ next. fates_are_by settings next records kinds.1) (is_revision_record r)
    (is_node r) refl refl kinds.0

-- what is known after the records that the cutter has returned
pub record FatesSoFar (settings : Settings) (dump : List ℕ) (cutter : CutterState) (present : Option OpenRevision)
    (fates : List RevisionFate) : Type 0 where
  pub read : ReadSoFar dump cutter
  pub so_far : (rest : List DumpRecord) → fates_by settings None (read.before ++ rest) ≡ fates ++ fates_by settings present rest

pub no_fates : (settings : Settings) (dump : List ℕ) (cutter : CutterState) (present : Option OpenRevision)
    (fates : List RevisionFate) → cutter ≡ record { dump = dump; number = 0 } → present ≡ None → fates ≡ []
    → FatesSoFar settings dump cutter present fates
no_fates settings dump cutter present fates is none empty = record {
  read = none_read dump cutter is;
  so_far = λ rest. ap₂ (λ (o : Option OpenRevision) (fs : List RevisionFate). fs ++ fates_by settings o rest) (sym none)
      (sym empty);
}

-- one more record
module _ (settings : Settings) (dump : List ℕ) (cutter after : CutterState) (present : Option OpenRevision)
    (fates : List RevisionFate) (known : FatesSoFar settings dump cutter present fates) where
  pub fates_more : (item : Record) → CutStep cutter (cuts.Item item) after → (all : List RevisionFate)
      (next : Option OpenRevision) → all ≡ fates ++ fates_before settings present (record_item item)
      → next ≡ open_after settings present (record_item item) → FatesSoFar settings dump after next all
  fates_more item step all next are is = record {
    read = read_more dump cutter after known.read item step;
    so_far = λ rest. ap (fates_by settings None) (append_assoc known.read.before (record_item item ∷ []) rest)
        ∙ known.so_far (record_item item ∷ rest)
        ∙ sym (append_assoc fates (fates_before settings present (record_item item))
        (fates_by settings (open_after settings present (record_item item)) rest))
        ∙ ap₂ (λ (fs : List RevisionFate) (o : Option OpenRevision). fs ++ fates_by settings o rest) (sym are) (sym is);
  }

  -- the fates when the records end
  ended_with : (ending : Ending) → EndsAfter cutter.dump cutter.number ending → (all : List RevisionFate)
      → all ≡ fates ++ ended_fates settings present → AreFatesIn settings dump all
  ended_with ending ends all are = record {
    records = known.read.before;
    ending = ending;
    has = read_ends dump cutter after known.read ending ends;
    fates_are = are ∙ sym (known.so_far []) ∙ ap (fates_by settings None) (append-nil known.read.before)
        ∙ fates_are_by settings None known.read.before (kinds_begun dump known.read.before known.read.begins);
  }

  pub all_fates : (found : Cut) → CutStep cutter found after → ((item : Record) → found ≡ cuts.Item item → ⊥)
      → (all : List RevisionFate) → all ≡ fates ++ ended_fates settings present → AreFatesIn settings dump all
  all_fates (cuts.Item item) step other all are = absurd (other item refl)
  all_fates cuts.Finished step other all are = ended_with Ending.Whole step.0 all are
  all_fates (cuts.Fault kind place) step other all are = ended_with (Ending.Broken kind place) step.0 all are
