use Rattle.dump_rules.proofs.Prelude.{◌<◌, ◌++◌, arith, ap, ◌∙◌, List, ℕ, map, length, length-map, nat_tests, on_ok_weaker, Span, runs_text, span_range, joined}
use Rattle.dump_rules.proofs.new_values.NewLineLemmas.{written_runs}
use Rattle.dump_rules.proofs.rewriting.push_spans.Goals as goal

pub returns : goal.returns
returns c =
    let a = c.is_empty.ensures in
    let b = c.if-is_empty.false in
    let d = c.deref.ensures.value in
    let size = length-map c.args.spans.items span_range in
    let ok = c.args.spans.ok in
    let some : 0 < length (map span_range c.args.spans.items) = grind (arith, nat_tests) in
    on_ok_weaker c.push_runs.result
    (λ is. written_runs c.args.out.now.items c.args.path.now c.push_bytes.new.out.items c.push_bytes-2.new.out.items c.push_runs.new.out.items
    (map span_range c.sort.new.spans.items) (map span_range c.args.spans.items) some c.sort.ensures
    (c.in_ok-push_bytes.ensures ∙ ap (λ (t : List ℕ). t ++ c.args.path.now) c.in_ok-push_break.ensures)
    c.in_ok-push_bytes-2.ensures
    (is ∙ ap (λ (l : List Span). c.push_bytes-2.new.out.items ++ runs_text (joined (map span_range l))) d))
    c.push_runs.ensures
