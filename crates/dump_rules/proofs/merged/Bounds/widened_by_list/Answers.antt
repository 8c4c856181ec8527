use Rattle.dump_rules.proofs.Prelude.{sym, ap, ◌∙◌, range_parts, parts_bounds}
use Rattle.dump_rules.proofs.reading.RangeLemmas.{position_whole}
use Rattle.dump_rules.proofs.faults.MergedLemmas.{bounds_first, list_bounds_is}
use Rattle.dump_rules.proofs.new_values.NewLineLemmas.{parts_first}
use Rattle.dump_rules.proofs.merged.Bounds.widened_by_list.Goals as goal

pub loop-comma-preserved : goal.loop-comma-preserved
loop-comma-preserved c =
    let rest = c.loop-comma.rest.now in
    let cut = parts_first 44 rest c.cut_at.result.0.now c.cut_at.result.1.now c.in-Some.comma
    (sym c.find.ensures ∙ c.in-Some.is) c.cut_at.ensures.before c.cut_at.ensures.behind in
    c.loop-comma.invariant
    ∙ bounds_first c.loop-comma.bounds _ c.cut_at.result.0.now (range_parts c.cut_at.result.1.now)
    (range_parts rest) cut
    c.widened_by-bounds.ensures

pub returns : goal.returns
returns c =
    c.widened_by.ensures
    ∙ sym (list_bounds_is c.args.bounds c.args.list.now ∙ c.loop-comma.invariant
    ∙ ap (parts_bounds c.loop-comma.bounds)
    (position_whole 44 c.loop-comma.rest.now (sym c.find.ensures ∙ c.in_default.is)))
