-- The steps of a sequencer, seen as those of a run on one thread whose sink is the text that the sequencer has
-- released.
use Rattle.dump_pipeline.proofs.Prelude.{◌≡◌, ◌∙◌, ℕ, ◌+◌, List, [], ◌++◌, length, Option, Some, None, refl, sym, ap, subst, arith, append-nil, FaultKind, Record, DumpRecord, record_dump, record_number, record_item, CutterState, Ending, EndsAfter, IsRecordOf, Settings, capped, report_of, FilterState, first_state, AreAccepted, Accepts, Refuses, Finishes, Report, IsFilterAnswer, NumberedPiece, End, ending_of, text_of, HasFiltered, IsEndOf, IsFilterPrefix}
use Rattle.std.proofs.lemmas.List.{length-append}
use Rattle.dump_pipeline.specs.declared.answer.Answer.TheVariants as answers
use Rattle.dump_pipeline.specs.declared.stage.End.TheVariants as ends
use Rattle.dump_pipeline.proofs.Ends.{record_once, ends_once}
use Rattle.dump_pipeline.proofs.RunLemmas.{begun, stepped, refused, broken, finished, no_memory}

abbrev at : List ℕ → ℕ → CutterState
at dump number = record { dump = dump; number = number }

-- at first nothing is released
pub begins : (settings : Settings) (dump : List ℕ) → HasFiltered settings dump (first_state settings) 0 []
begins settings dump = begun settings dump (at dump 0) _ (Some []) refl refl

-- a record is accepted
pub steps : (settings : Settings) (dump : List ℕ) (filter : FilterState) (next : ℕ) (text piece : List ℕ) (r : Record)
    → HasFiltered settings dump filter next text → record_dump r ≡ dump → record_number r ≡ next
    → IsRecordOf dump next (record_item r)
    → Accepts filter (record_item r) piece
    → HasFiltered settings dump (record filter {
      last = Some (record { dump = record_dump r; number = record_number r });
    }) (next + 1) (text ++ piece)
steps settings dump filter next text piece r h of number is accepts =
    stepped settings dump (at dump next) filter (Some []) (Some text) (capped (length text)) h r
    (at dump (next + 1)) _ piece (Some (text ++ piece)) (capped (length (text ++ piece)))
    (of, number, is, refl) accepts refl
    (record { appended = refl; count_is = let total = length-append text piece in omega arith })

-- a record has a fault
pub fault : (settings : Settings) (dump : List ℕ) (filter : FilterState) (next : ℕ) (text : List ℕ) (r : DumpRecord)
    (kind : FaultKind)
    → HasFiltered settings dump filter next text → IsRecordOf dump next r → Refuses filter r kind
    → IsFilterAnswer settings dump text (answers.Fault kind next r.place)
fault settings dump filter next text r kind h is refuses =
    let leaves = refused settings dump (at dump next) filter (Some []) (Some text)
    (capped (length text)) h r kind r.place next is refuses refl refl in
    subst (λ (t : List ℕ). IsFilterAnswer settings dump t (answers.Fault kind next r.place))
    (sym leaves.appended) leaves.answered

-- no record is where the next would begin
pub broken_off : (settings : Settings) (dump : List ℕ) (filter : FilterState) (next place : ℕ) (text : List ℕ)
    (kind : FaultKind)
    → HasFiltered settings dump filter next text → EndsAfter dump next (Ending.Broken kind place)
    → IsFilterAnswer settings dump text (answers.Fault kind next place)
broken_off settings dump filter next place text kind h ends =
    let leaves = broken settings dump (at dump next) filter (Some []) (Some text)
    (capped (length text)) h kind place next ends (sym h.next) in
    subst (λ (t : List ℕ). IsFilterAnswer settings dump t (answers.Fault kind next place))
    (sym leaves.appended) leaves.answered

-- memory ran out
pub memory : (settings : Settings) (dump : List ℕ) (filter : FilterState) (next : ℕ) (text : List ℕ)
    → HasFiltered settings dump filter next text → IsFilterPrefix settings dump text
memory settings dump filter next text h =
    let leaves = no_memory settings dump (at dump next) filter (Some []) (Some text) (capped (length text)) h in
    subst (λ (t : List ℕ). IsFilterPrefix settings dump t) (sym leaves.appended) leaves.answered.0

-- the dump ends
pub whole : (settings : Settings) (dump : List ℕ) (filter : FilterState) (next : ℕ) (text piece : List ℕ)
    (report : Report)
    → HasFiltered settings dump filter next text → EndsAfter dump next Ending.Whole → Finishes filter piece
    → ((records : List DumpRecord) → AreAccepted filter records → report ≡ report_of filter.settings records)
    → IsFilterAnswer settings dump (text ++ piece) (answers.Clean report)
whole settings dump filter next text piece report h ends finishes reports =
    let leaves = finished settings dump (at dump next) filter (Some []) (Some text) (capped (length text)) h
    (Some (text ++ piece)) (answers.Clean report) ends (piece, finishes, refl, reports) in
    subst (λ (t : List ℕ). IsFilterAnswer settings dump t (answers.Clean report)) (sym leaves.appended) leaves.answered

-- after an end nothing more is released
pub ended_with_nothing : (settings : Settings) (dump : List ℕ) (end : End) (text piece : List ℕ) → piece ≡ []
    → IsEndOf settings dump end text
    → IsEndOf settings dump end (text ++ piece)
ended_with_nothing settings dump end text piece none =
    subst (IsEndOf settings dump end) (sym (ap (λ (p : List ℕ). text ++ p) none ∙ append-nil text))

-- which record of the dump this is
pub record_is : (dump : List ℕ) (r : Record) → record_dump r ≡ dump → IsRecordOf dump (record_number r) (record_item r)
record_is dump r of =
    record_once dump (record_number r) (record_item r)
    (subst (λ (d : List ℕ). ∥ IsRecordOf d (record_number r) (record_item r) ∥₁) of r.numbered)

-- the last word is the fault that ends the list
pub last_fault : (settings : Settings) (dump : List ℕ) (filter : FilterState) (number place : ℕ) (text : List ℕ)
    (kind : FaultKind)
    (last : Option (FaultKind × ℕ)) → last ≡ Some (kind, place) → ∥ EndsAfter dump number (ending_of last) ∥₁
    → HasFiltered settings dump filter number text → IsEndOf settings dump (ends.Fault kind number place) text
last_fault settings dump filter number place text kind last is known h =
    broken_off settings dump filter number place text kind h
    (ends_once dump number (Ending.Broken kind place)
    (subst (λ (l : Option (FaultKind × ℕ)). ∥ EndsAfter dump number (ending_of l) ∥₁) is known))

-- the last word is the end of the dump
pub last_end : (settings : Settings) (dump : List ℕ) (filter : FilterState) (number : ℕ) (text piece : List ℕ)
    (report : Report)
    (last : Option (FaultKind × ℕ)) → last ≡ None → ∥ EndsAfter dump number (ending_of last) ∥₁
    → HasFiltered settings dump filter number text
    → Finishes filter piece → ((records : List DumpRecord) → AreAccepted filter records
    → report ≡ report_of filter.settings records)
    → IsEndOf settings dump (ends.Clean report) (text ++ piece)
last_end settings dump filter number text piece report last is known h finishes reports =
    whole settings dump filter number text piece report h
    (ends_once dump number Ending.Whole (subst (λ (l : Option (FaultKind × ℕ)). ∥ EndsAfter dump number
    (ending_of l) ∥₁) is known)) finishes reports

-- a record's fault, with its number and place
pub record_fault : (settings : Settings) (dump : List ℕ) (filter : FilterState) (number place : ℕ) (text : List ℕ)
    (r same : Record) (kind : FaultKind)
    → record_dump r ≡ dump → same ≡ r → number ≡ record_number same → place ≡ (record_item same).place
    → Refuses filter (record_item r) kind
    → HasFiltered settings dump filter (record_number r) text
    → IsEndOf settings dump (ends.Fault kind number place) text
record_fault settings dump filter number place text r same kind of is number_is place_is refuses h =
    subst (λ (n : ℕ). IsEndOf settings dump (ends.Fault kind n place) text)
    (sym (number_is ∙ ap (λ (x : Record). record_number x) is))
    (subst (λ (n : ℕ). IsEndOf settings dump (ends.Fault kind (record_number r) n) text)
    (sym (place_is ∙ ap (λ (x : Record). (record_item x).place) is))
    (fault settings dump filter (record_number r) text (record_item r) kind h (record_is dump r of) refuses))

-- before the first step
pub begins_with : (settings options : Settings) (dump : List ℕ) (filter : FilterState) (put : List NumberedPiece)
    → options ≡ settings
    → filter ≡ first_state options → put ≡ [] → HasFiltered settings dump filter 0 (text_of put)
begins_with settings options dump filter put same is none =
    subst (λ (l : List NumberedPiece). HasFiltered settings dump filter 0 (text_of l)) (sym none)
    (subst (λ (f : FilterState). HasFiltered settings dump f 0 [])
    (sym (is ∙ ap (λ (s : Settings). first_state s) same)) (begins settings dump))
