use Rattle.dump_rules.proofs.Prelude.{◌≡◌, ◌==◌, ℕ, List, [], sym, ap, subst, ◌∙◌, OnOk, slice_split, with_new_lines}
use Rattle.dump_rules.proofs.new_values.NewLineLemmas.{parts_first, lines_last, first_reads, step_lines}
use Rattle.dump_rules.proofs.rewriting.push_lines.Goals as goal

pub push_line-requires-clause-reads : goal.push_line-requires-clause-reads
push_line-requires-clause-reads c =
    let (line, others) = c.cut_at.result in
    let cut = parts_first 10 c.loop-lf.rest.now line.now others.now c.in-Some.lf (sym c.find.ensures ∙ c.in-Some.is)
    c.cut_at.ensures.before c.cut_at.ensures.behind in
    (first_reads line.now (slice_split (λ b. b == 10) others.now) _ cut c.loop-lf.invariant.read).0

pub loop-lf-preserved : goal.loop-lf-preserved
loop-lf-preserved c =
    let (line, others) = c.cut_at.result in
    let lines = slice_split (λ b. b == 10) others.now in
    let cut = parts_first 10 c.loop-lf.rest.now line.now others.now c.in-Some.lf (sym c.find.ensures ∙ c.in-Some.is)
    c.cut_at.ensures.before c.cut_at.ensures.behind in
    record {
      read = (first_reads line.now lines _ cut c.loop-lf.invariant.read).1;
      written = c.loop-lf.invariant.written
          ∙ step_lines c.args.options.now c.args.reach.now c.loop-lf.out.items c.push_line.new.out.items line.now
          lines _ cut c.in_ok-push_line.ensures;
    }

pub push_line-requires-2-clause-reads : goal.push_line-requires-2-clause-reads
push_line-requires-2-clause-reads c =
    let whole = lines_last c.loop-lf.rest.now (sym c.find.ensures ∙ c.in_default.is) in
    (first_reads c.loop-lf.rest.now [] _ whole c.loop-lf.invariant.read).0

pub returns : goal.returns
returns c =
    let whole = lines_last c.loop-lf.rest.now (sym c.find.ensures ∙ c.in_default.is) in
    subst (λ (t : List ℕ). OnOk c.push_line-2.result (c.push_line-2.new.out.items ≡ t))
    (sym (c.loop-lf.invariant.written
    ∙ ap (with_new_lines c.args.options.now c.args.reach.now c.loop-lf.out.items) whole))
    c.push_line-2.ensures
