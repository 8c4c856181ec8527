use Rattle.survey_cli.proofs.Prelude.{sym, ◌∙◌}
use Rattle.survey_cli.proofs.MapLemmas.{looking_begins, looking_goes_on}
use Rattle.survey_cli.proofs.words.place_of_map.Goals as goal

pub loop-place-init : goal.loop-place-init
loop-place-init c = looking_begins c.args.line.now

pub loop-place-preserved : goal.loop-place-preserved
loop-place-preserved c =
    looking_goes_on c.args.line.now c.loop-place.place _ c.loop-place-test.true c.loop-place.invariant
    (sym c.eq.ensures ∙ c.if-eq.false) (sym c.eq-in-loop-place.ensures ∙ c.if-eq-2.false)
