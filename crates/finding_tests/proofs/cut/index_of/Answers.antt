use Rattle.std.proofs.Common.{ap, ◌∙◌}
use Rattle.std.specs.List.{list_all}
use Rattle.dump_cut.specs.steps.NamedPaths.{has_named_paths}
use Rattle.dump_cut.proofs.NamedLemmas.{listed_in_named}
use Rattle.finding_tests.proofs.cut.index_of.Goals as goal

pub returns : goal.returns
returns c =
    let reading = c.in_ok-reading.ensures in
    ap (list_all has_named_paths) c.in_ok-index.ensures
    ∙ listed_in_named reading.records c.in_ok-reading.reading.changes.items reading.listed
