use Rattle.std.proofs.Common.{◌∙◌, ap, not, ◌==◌, sym}
use Rattle.dump_cut.proofs.FoundSiblings.{cut_below}
use Rattle.dump_cut.proofs.siblings.is_in_cut.Goals as goal

pub returns : goal.returns
returns c =
    ap not (c.is_empty-2.ensures ∙ ap (λ n. n == 0) c.in_ok-below.field-0.ok.0)
    ∙ cut_below c.args.included.now c.args.path.now c.in_ok-below.field-0.items c.in_ok-below.ensures.named
    (sym c.is_empty.ensures ∙ c.if-is_empty.false) (sym c.covers.ensures ∙ c.if-covers.false) c.in_ok-below.ensures.rests
