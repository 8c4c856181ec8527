-- A part of each record that a cutter has returned.
use Rattle.dump_changes.proofs.Prelude.{◌≡◌, ℕ, ◌+◌, ◌≤◌, List, [], ◌∷◌, ◌++◌, map, refl, sym, ap, ◌∙◌, Ending, HasRecords, DumpRecord, EndsAfter, CutterState, CutStep, record_item, Record}
use Rattle.std.proofs.lemmas.List.{map-append}
use Rattle.dump_records.specs.declared.cutter.Cut.{Cut}
use Rattle.dump_records.specs.declared.cutter.Cut.TheVariants as cuts
use Rattle.dump_records.proofs.Unique.{records_once}
use Rattle.dump_records.proofs.CutterLemmas.{ReadSoFar, none_read, read_ends, read_more}

module _ {A B : Type 0} (shown : A → B) (part : DumpRecord → B) (dump : List ℕ) where
  -- these are the parts of the records that the cutter has returned
  pub record PartsSoFar (cutter : CutterState) (parts : List A) : Type 0 where
    pub read : ReadSoFar dump cutter
    pub parts_are : map shown parts ≡ map part read.before

  pub no_parts : (cutter : CutterState) (parts : List A) → cutter ≡ record { dump = dump; number = 0 } → parts ≡ []
      → PartsSoFar cutter parts
  no_parts cutter parts is none = record { read = none_read dump cutter is; parts_are = ap (map shown) none }

  module _ (cutter after : CutterState) (parts : List A) (so_far : PartsSoFar cutter parts) where
    module _ (item : Record) (step : CutStep cutter (cuts.Item item) after) where
      -- the parts with that of one more record
      pub one_more_part : (own : A) (all : List A) → shown own ≡ part (record_item item) → all ≡ parts ++ own ∷ []
          → PartsSoFar after all
      one_more_part own all is all_are = record {
        read = read_more dump cutter after so_far.read item step;
        parts_are =
            ap (map shown) all_are
            ∙ map-append shown parts (own ∷ [])
            ∙ ap (λ (ps : List B). ps ++ shown own ∷ []) so_far.parts_are
            ∙ ap (λ p. map part so_far.read.before ++ p ∷ []) is
            ∙ sym (map-append part so_far.read.before (record_item item ∷ []));
      }

    -- when the records end, these are the parts of all records
    of_all : (end : Ending) → EndsAfter cutter.dump cutter.number end → (records : List DumpRecord) (ending : Ending)
        → HasRecords dump records ending → map shown parts ≡ map part records
    of_all end ends records ending has =
        so_far.parts_are
        ∙ ap (map part) (records_once dump so_far.read.before records end ending
        (read_ends dump cutter after so_far.read end ends) has).0

    pub all_parts : (cut : Cut) → CutStep cutter cut after → ((item : Record) → cut ≡ cuts.Item item → ⊥)
        → (records : List DumpRecord) (ending : Ending) → HasRecords dump records ending
        → map shown parts ≡ map part records
    all_parts (cuts.Item item) step none = absurd (none item refl)
    all_parts cuts.Finished step none = of_all Ending.Whole step.0
    all_parts (cuts.Fault kind place) step none = of_all (Ending.Broken kind place) step.0
