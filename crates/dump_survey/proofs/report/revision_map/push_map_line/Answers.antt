use Rattle.dump_survey.specs.steps.KeptNumbers.{kept_view}
use Rattle.dump_survey.proofs.LineLemmas.{map_ok}
use Rattle.dump_survey.proofs.RevisionMapLemmas.{line_pushed}
use Rattle.dump_survey.proofs.report.revision_map.push_map_line.Goals as goal

pub returns : goal.returns
returns c = map_ok c.push_numbers.result
    (line_pushed c.args.options.now (kept_view c.args.kept.now) c.args.sorted.now c.args.number
    c.written_number-written.result c.args.lines.now.items c.push_numbers.new.lines.items c.requires.same
    c.written_number-written.ensures) c.push_numbers.ensures
