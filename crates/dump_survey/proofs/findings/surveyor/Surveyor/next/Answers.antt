use Rattle.dump_survey.proofs.Prelude.{◌≡◌, ◌⊎◌, ◌↔◌, Bool, ◌||◌, IsTrue, sym, ap, ◌∙◌, subst, or_left, Cut, DumpRecord, record_item, CutStep, IsUnreadRevision, TellsNaming, leaves_number, SurveyStep, Surveying}
use Rattle.std.specs.Result.{IfOk}
use Rattle.dump_survey.specs.declared.findings.surveyor.End.TheVariants as ends
use Rattle.dump_survey.proofs.SurveyorLemmas.{ended, room, goes_on, stepped_ok}
use Rattle.dump_survey.proofs.UnreadLemmas.{still_unread, now_unread}
use Rattle.dump_survey.proofs.findings.surveyor.Surveyor.next.Goals as goal
use Rattle.dump_survey.proofs.findings.surveyor.Surveyor.next.Goals.{then-self, else-self, then-self-2, else-self-2}

pub returns-in-Finished : goal.returns-in-Finished
returns-in-Finished c =
    let step = subst (λ (x : Cut). CutStep c.self.inside.cutter x c.next.new.self) c.in-Finished.is c.next.ensures in
    rw (← c.self.view_is) (ended c.self.inside.options.now c.self.inside.prefixes c.self.inside.known c.self.inside.cutter c.next.new.self c.self.invariant ends.Whole c.finished-end.result step.0 step.1 c.finished-end.ensures)

pub returns-in-Fault : goal.returns-in-Fault
returns-in-Fault c =
    let step = subst (λ (x : Cut). CutStep c.self.inside.cutter x c.next.new.self) c.in-Fault.is c.next.ensures in
    rw (← c.self.view_is) (ended c.self.inside.options.now c.self.inside.prefixes c.self.inside.known c.self.inside.cutter c.next.new.self c.self.invariant (ends.Broken c.in-Fault.kind c.in-Fault.place)
    c.finished-end-in-Fault.result step.0 step.1 c.finished-end-in-Fault.ensures)

pub add-requires-clause-room : goal.add-requires-clause-room
add-requires-clause-room c =
    let step = subst (λ (x : Cut). CutStep c.self.inside.cutter x c.next.new.self) c.in-Item.is c.next.ensures in
    room c.self.inside.options.now c.self.inside.prefixes c.self.inside.known c.self.inside.cutter c.next.new.self c.self.invariant c.in-Item.item step

pub invariant_of-self-2 : goal.invariant_of-self-2
invariant_of-self-2 c =
    let step = subst (λ (x : Cut). CutStep c.self.inside.cutter x c.next.new.self) c.in-Item.is c.next.ensures in
    let still : (names : DumpRecord → Bool) → TellsNaming names → c.if-self.self ≡ (c.self.inside.known.numbers_left
    || leaves_number c.self.inside.options.now names c.self.inside.known.tally (record_item c.in-Item.item)) =
    elim c.if-self.branch [
      | then-self w ↦ λ names tells. w.self-is
          ∙ (w.if-self.true ∙ sym (or_left c.self.inside.known.numbers_left _ w.if-self.true))
      | else-self w ↦ λ names tells. w.self-is ∙ (w.leaves_number-self-inside.ensures names tells
          ∙ sym (ap (λ b. b || leaves_number c.self.inside.options.now names c.self.inside.known.tally
          (record_item c.in-Item.item)) w.if-self.false))
    ] in
    let unread_still : IsTrue c.if-self-2.self
    ↔ (IsTrue c.self.inside.known.unread_revision ⊎ IsUnreadRevision (record_item c.in-Item.item)) =
    elim c.if-self-2.branch [
      | then-self-2 w ↦ still_unread (record_item c.in-Item.item) c.self.inside.known.unread_revision c.if-self-2.self w.self-is
          w.if-self-2.true
      | else-self-2 w ↦ now_unread (record_item c.in-Item.item) c.self.inside.known.unread_revision c.if-self-2.self
          w.is_unread_revision-self-inside.result w.self-is w.if-self-2.false w.is_unread_revision-self-inside.ensures
    ] in
    goes_on c.self.inside.options.now c.self.inside.prefixes c.self.inside.known c.self.inside.cutter c.next.new.self c.self.invariant c.in-Item.item step
    (record {
      idle = c.leave_touched.new.idle;
      tally = c.add.new.self;
      numbers_left = c.if-self.self;
      unread_revision = c.if-self-2.self;
      places = c.note.new.self;
    }) c.leave_touched.ensures c.add.ensures still unread_still c.findings-found.result
    c.findings-found.ensures c.place_of.result c.place_of.ensures c.note.ensures

pub returns : goal.returns
returns c =
    let step = subst (λ (x : Cut). CutStep c.self.inside.cutter x c.next.new.self) c.in-Item.is c.next.ensures in
    let seen : Surveying = record {
      dump = c.next.new.self.dump;
      settings = c.self.inside.options.now;
      number = c.next.new.self.number;
    } in
    subst (λ (s : Surveying). IfOk c.step_of.result (λ reported. SurveyStep s reported seen)) c.self.view_is
    (stepped_ok c.self.inside.options.now c.self.inside.prefixes c.self.inside.known c.self.inside.cutter
    c.next.new.self c.self.invariant c.in-Item.item step c.step_of.result c.step_of.ensures)
