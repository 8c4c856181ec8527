use Rattle.std.proofs.Common.{◌∙◌}
use Rattle.dump_survey.proofs.ParentLemmas.{next_adds}
use Rattle.dump_survey.proofs.advice.parents.left_above.Goals as goal

pub loop-prefix-preserved : goal.loop-prefix-preserved
loop-prefix-preserved c =
    c.loop-prefix.invariant ∙ next_adds c.args.options.now c.args.bare.now c.loop-prefix.prefix-index _
    c.loop-prefix.directories c.add_above.new.self c.loop-prefix-test.true c.in_ok-add_above.ensures
