-- One pass over the records of a dump.
use Rattle.dump_survey.proofs.Prelude.{◌≡◌, ℕ, ◌-◌, ◌<◌, ◌∷◌, ◌++◌, [], List, refl, sym, ◌∙◌, subst, arith, length, Record, DumpRecord, Cut, Ending, BeginsWithRecords, HasRecords, CutterState, EndsAfter, CutStep, record_item, IsVisitedAfter}
use Rattle.dump_records.specs.declared.cutter.Cut.TheVariants as cuts
use Rattle.dump_records.proofs.CutterLemmas.{ReadSoFar, begins_more, none_read, read_ends, read_more, read_nearer}

module _ {V : Type 0} (has_visited : V → List DumpRecord → V → Type 0) (dump : List ℕ) where
  -- the visitor was given the records that the cutter has returned
  pub record VisitedSoFar (cutter : CutterState) (first now : V) : Type 0 where
    pub read : ReadSoFar dump cutter
    pub visited : has_visited first read.before now

  pub none_visited : (cutter : CutterState) (first : V) → cutter ≡ record { dump = dump; number = 0 }
      → has_visited first [] first → VisitedSoFar cutter first first
  none_visited cutter first is none = record { read = none_read dump cutter is; visited = none }

  module _ (cutter : CutterState) (first now : V) (so_far : VisitedSoFar cutter first now) where
    module _ (after : CutterState) (item : Record) (step : CutStep cutter (cuts.Item item) after) where
      comes_next : IsVisitedAfter item so_far.read.before
      comes_next = (
        subst (λ d. BeginsWithRecords d (so_far.read.before ++ record_item item ∷ []))
            (sym (step.0 ∙ so_far.read.dump_is)) (begins_more dump cutter after so_far.read item step),
        so_far.read.count ∙ sym step.1,
      )

      -- the visitor may be given the record that the cutter returns
      pub next_visit : (begun : V) × (before : List DumpRecord) × IsVisitedAfter item before × has_visited begun before now
      next_visit = (first, so_far.read.before, comes_next, so_far.visited)

      -- the cutter is nearer to the end of the dump
      pub comes_nearer : length dump - after.number < length dump - cutter.number
      comes_nearer = let near = read_nearer dump cutter after so_far.read item step in omega (arith, near.0, near.1)

      pub visited_more : (next : V)
          → ((begun : V) → (before : List DumpRecord) → IsVisitedAfter item before → has_visited begun before now
          → has_visited begun (before ++ record_item item ∷ []) next)
          → VisitedSoFar after first next
      visited_more next visits = record {
        read = read_more dump cutter after so_far.read item step;
        visited = visits first so_far.read.before comes_next so_far.visited;
      }

    -- when the records end, the visitor was given all of them
    given_all : (after : CutterState) (ending : Ending) → EndsAfter cutter.dump cutter.number ending
        → (records : List DumpRecord) × (end : Ending) × HasRecords dump records end × has_visited first records now
    given_all after ending ends =
        (so_far.read.before, ending, read_ends dump cutter after so_far.read ending ends, so_far.visited)

    pub all_visited : (cut : Cut) (after : CutterState) → CutStep cutter cut after
        → ((item : Record) → cut ≡ cuts.Item item → ⊥)
        → (records : List DumpRecord) × (end : Ending) × HasRecords dump records end × has_visited first records now
    all_visited (cuts.Item item) after step other = absurd (other item refl)
    all_visited cuts.Finished after step other = given_all after Ending.Whole step.0
    all_visited (cuts.Fault kind place) after step other = given_all after (Ending.Broken kind place) step.0
