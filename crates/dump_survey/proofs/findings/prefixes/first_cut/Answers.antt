use Rattle.std.proofs.Common.{refl, sym, ◌∙◌}
use Rattle.dump_survey.proofs.CutLemmas.{place_cuts, place_is_passed, none_left}
use Rattle.dump_survey.proofs.findings.prefixes.first_cut.Goals as goal

pub loop-place-init : goal.loop-place-init
loop-place-init c = refl

pub returns-then-branch : goal.returns-then-branch
returns-then-branch c = c.prefix.ensures
    ∙ sym (c.loop-place.invariant
    ∙ place_cuts c.args.options.now c.args.path.now c.args.other.now c.args.bare.now c.loop-place.place c.requires _
    c.loop-place-test.true (sym c.in_ok-cuts_below.ensures ∙ c.if-branch.true))

pub loop-place-preserved : goal.loop-place-preserved
loop-place-preserved c = c.loop-place.invariant
    ∙ place_is_passed c.args.options.now c.args.path.now c.args.other.now c.args.bare.now c.loop-place.place c.requires _
    c.loop-place-test.true (sym c.in_ok-cuts_below.ensures ∙ c.if-branch.false)

pub returns : goal.returns
returns c = sym (c.loop-place.invariant
    ∙ none_left c.args.options.now c.args.path.now c.args.other.now c.args.bare.now c.loop-place.place c.requires
    c.loop-place-test.false)
