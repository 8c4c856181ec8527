use Rattle.dump_filter.proofs.Prelude.{◌≡◌, true, false, sym, ◌∙◌, subst, Settings, record_item, is_kept_node, done_record, done_verdict, view_state}
use Rattle.dump_filter.proofs.groups.KindLemmas.{found_kind}
use Rattle.dump_filter.proofs.answer.DecisionLemmas.{fate_of_dropped, fate_of_node, fate_of_revision}
use Rattle.dump_filter.proofs.decide.fate_of.Goals as goal

pub node_fate-requires-clause-taken : goal.node_fate-requires-clause-taken
node_fate-requires-clause-taken c =
    let keep = subst (λ (s : Settings). is_kept_node s (record_item (done_record c.args.done.now)) ≡ true)
    c.requires.options (sym c.is_kept.ensures ∙ c.if-is_kept.true) in
    c.requires.taken keep

pub returns-then-is_kept : goal.returns-then-is_kept
returns-then-is_kept c ps list =
    let d = c.args.done.now in
    let r = record_item (done_record d) in
    let keep = subst (λ (s : Settings). is_kept_node s r ≡ true) c.requires.options
    (sym c.is_kept.ensures ∙ c.if-is_kept.true) in
    c.node_fate.ensures ps (list keep)
    ∙ sym (fate_of_node c.args.options.now (view_state c.args.state.now) r (done_verdict d).merge_ok ps keep)

pub returns-in-Revision : goal.returns-in-Revision
returns-in-Revision c ps list =
    let d = c.args.done.now in
    let kind = found_kind c.item.ensures (sym c.kind.ensures ∙ c.in-Revision.is) in
    fate_of_revision c.args.options.now (view_state c.args.state.now) (record_item (done_record d))
    (done_verdict d).merge_ok ps
    kind.0 kind.1

pub returns-else-is_kept : goal.returns-else-is_kept
returns-else-is_kept c ps list =
    let d = c.args.done.now in
    let kind = found_kind c.item.ensures (sym c.kind.ensures ∙ c.in-Node.is) in
    let left = subst (λ (s : Settings). is_kept_node s (record_item (done_record d)) ≡ false) c.requires.options
    (sym c.is_kept.ensures ∙ c.if-is_kept.false) in
    fate_of_dropped c.args.options.now (view_state c.args.state.now) (record_item (done_record d))
    (done_verdict d).merge_ok ps kind.0 left
