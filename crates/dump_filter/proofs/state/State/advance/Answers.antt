use Rattle.dump_filter.proofs.Prelude.{◌≡◌, sym, ap, ◌∙◌, ℕ, Option, Some, Record, record_item, Verdict, done_record, Fate, State, view_state, fate_state, text_count}
use Rattle.dump_filter.specs.declared.state.State.{State as StateFields}
use Rattle.dump_filter.proofs.state.State.advance.Goals as goal
use Rattle.dump_filter.proofs.state.State.advance.Goals.{in-Keep+in_ok-piece-in-Keep, in-Drop, in-Hold+in_ok-piece-in-Hold, in-Pass+in_ok-piece-in-Pass}

pub keep_node-requires-clause-node : goal.keep_node-requires-clause-node
keep_node-requires-clause-node c = c.requires.node c.in-Keep.copy c.in-Keep.is

pub hold_revision-requires-clause-revision : goal.hold_revision-requires-clause-revision
hold_revision-requires-clause-revision c = c.requires.revision c.in-Hold.is

-- the same state with another count of checked texts, whichever record was the last
counted : (fields : StateFields) (state : State) (last : Option Record) (n m : ℕ) → view_state fields ≡ state → n ≡ m
    → view_state (record fields { last = last; report = record fields.report { texts_checked = n } })
    ≡ record state { report = record state.report { texts_checked = m } }
counted fields state last n m is same = λ i. record (is i) { report = record (is i).report { texts_checked = same i } }

pub returns-clause-state : goal.returns-clause-state
returns-clause-state c =
    let s = view_state c.args.self.now in
    let r = record_item (done_record c.args.done) in
    let behind = λ (fate : Fate). fate_state c.args.options.now s r fate in
    let texts = c.text_count-texts_checked.ensures ∙ ap (λ (v : Verdict). text_count v.checked s.report) c.verdict.ensures.value in
    let counts = counted c.match-fate.self (behind c.args.fate) (Some c.item-item.result) _ _ in
    elim c.match-fate.branch [
      | in-Keep+in_ok-piece-in-Keep w ↦ counts
          (ap view_state w.self-is ∙ w.in_ok-piece-in-Keep.ensures.state ∙ ap behind (sym w.in-Keep.is)) texts
      | in-Drop w ↦ counts
          (ap view_state w.self-is ∙ w.drop_node-piece.ensures.state c.args.options.now r ∙ ap behind (sym w.in-Drop.is)) texts
      | in-Hold+in_ok-piece-in-Hold w ↦ counts
          (ap view_state w.self-is ∙ w.in_ok-piece-in-Hold.ensures.state ∙ ap behind (sym w.in-Hold.is)) texts
      | in-Pass+in_ok-piece-in-Pass w ↦ counts
          (ap view_state w.self-is ∙ w.in_ok-piece-in-Pass.ensures.state ∙ ap behind (sym w.in-Pass.is)) texts
    ]
