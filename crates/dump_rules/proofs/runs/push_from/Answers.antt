use Rattle.dump_rules.proofs.Prelude.{◌+◌, ◌++◌, sym, ap, ◌∙◌, map, drop, List, ℕ, codes, Range, run_text, runs_text, span_range, joined_from}
use Rattle.dump_rules.proofs.new_values.RunsLemmas.{next_touches, next_left, written_on}
use Rattle.dump_rules.proofs.runs.push_from.Goals as goal
use Rattle.dump_rules.proofs.runs.push_from.Goals.{then-touches, else-touches+in_ok-push_run+in_ok-push_bytes}

pub loop-span-preserved : goal.loop-span-preserved
loop-span-preserved c = elim c.if-touches.branch [
  | then-touches w ↦ rw (w.out-is, w.run-is) (
      c.loop-span.invariant
      ∙ ap (λ (l : List Range). c.loop-span.out.items ++ runs_text l)
      (next_touches (span_range c.loop-span.run) c.args.behind.now c.loop-span.span-index _ c.loop-span-test.true
      (sym c.touches.ensures ∙ w.if-touches.true))
      ∙ ap (λ (r : Range). c.loop-span.out.items ++ runs_text
      (joined_from r (map span_range (drop (c.loop-span.span-index + 1) c.args.behind.now))))
      (sym w.reaching-run.ensures))
  | else-touches+in_ok-push_run+in_ok-push_bytes w ↦ rw (w.out-is, w.run-is) (
      c.loop-span.invariant
      ∙ ap (λ (t : List ℕ). c.loop-span.out.items ++ t)
      (next_left (span_range c.loop-span.run) c.args.behind.now c.loop-span.span-index _ c.loop-span-test.true
      (sym c.touches.ensures ∙ w.if-touches.false))
      ∙ written_on (run_text (span_range c.loop-span.run))
      (codes ",") _ c.loop-span.out.items _ _ w.in_ok-push_run.ensures w.in_ok-push_bytes.ensures)
]
