use Rattle.dump_survey.proofs.Prelude.{ap, ◌∙◌, record_item, faults_read}
use Rattle.dump_survey.proofs.RefusedLemmas.{kept_refused, unread_refused}
use Rattle.dump_survey.proofs.findings.refused.refused_of.Goals as goal

pub returns-in-Some : goal.returns-in-Some
returns-in-Some c =
    kept_refused c.args.options.now c.args.numbers.now (record_item c.args.item.now) c.requires.node c.requires.kept
    c.args.props.now c.in-Some.props c.in-Some.is c.requires.props _
    (λ ps block. c.refused_in.ensures ps block
    ∙ ap (λ b. faults_read c.args.options.now b c.args.numbers.now.first c.args.numbers.now.present ps)
    c.misses_revision-copy.ensures)

pub returns-in-None : goal.returns-in-None
returns-in-None c =
    unread_refused c.args.options.now c.args.numbers.now (record_item c.args.item.now) c.requires.node c.requires.kept
    c.args.props.now c.in-None.is c.requires.props c.misses_revision-copy.result c.misses_revision-copy.ensures
