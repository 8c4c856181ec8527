use Rattle.dump_filter.proofs.Prelude.{sym, ap, ◌∙◌, not-false, record_item, Record, done_record, done_verdict, Verdict, view_state, is_in_order}
use Rattle.dump_filter.proofs.answer.DecisionLemmas.{node_is_taken, decided_in_order}
use Rattle.dump_filter.proofs.decide.decide.Goals as goal

pub fate_of-requires-clause-taken : goal.fate_of-requires-clause-taken
fate_of-requires-clause-taken c keep =
    let s = view_state c.args.state.now in
    let order = ap (λ (x : Record). is_in_order s (record_item x)) (sym c.item-item.ensures) ∙ sym c.is_in_order.ensures
    ∙ c.if-not-is_in_order.false in
    node_is_taken c.args.options.now s (record_item (done_record c.args.done.now)) keep
    order

pub returns : goal.returns
returns c ps asked =
    let options = c.args.options.now in
    let s = view_state c.args.state.now in
    let r = record_item (done_record c.args.done.now) in
    let value = c.verdict-verdict.ensures.value in
    let order = ap (λ (x : Record). is_in_order s (record_item x)) (sym c.item-item.ensures) ∙ sym c.is_in_order.ensures
    ∙ c.if-not-is_in_order.false in
    let props = ap (λ (v : Verdict). v.props_ok) (sym value)
    ∙ not-false c.verdict-verdict.result.props_ok c.if-not-verdict.false in
    let md5 = ap (λ (v : Verdict). v.md5_ok) (sym value)
    ∙ not-false c.verdict-verdict.result.md5_ok c.if-not-verdict-2.false in
    let sha1 = ap (λ (v : Verdict). v.sha1_ok) (sym value)
    ∙ not-false c.verdict-verdict.result.sha1_ok c.if-not-verdict-3.false in
    c.fate_of.ensures ps (λ keep. asked keep props)
    ∙ sym (decided_in_order options s r (done_verdict c.args.done.now) ps order props md5 sha1)
