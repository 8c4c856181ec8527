use Rattle.std.proofs.Common.{◌≡◌}
use Rattle.dump_survey.proofs.CutLemmas.{cut_from}
use Rattle.dump_survey.proofs.findings.prefixes.first_cut.Given as goal

abbrev pub invariant-loop-place : goal.invariant-loop-place
invariant-loop-place l =
    cut_from l.options l.path l.other 0 ≡ cut_from l.options l.path l.other l.place
