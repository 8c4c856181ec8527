use Rattle.std.proofs.Common.{sym, ◌∙◌}
use Rattle.dump_survey.proofs.PlaceLemmas.{none_comes_up}
use Rattle.dump_survey.proofs.findings.places.DumpPlaces.note.Goals as goal

pub returns-then-not-is_any : goal.returns-then-not-is_any
returns-then-not-is_any c = none_comes_up c.args.self.now c.args.found.now c.args.here
    (sym c.is_any.ensures ∙ c.if-not-is_any.true)
