use Rattle.std.proofs.Common.{length, arith, refl, ap}
use Rattle.dump_text.proofs.ScanLemmas.{first_header, no_lines, lines_left, headers_step}
use Rattle.dump_text.proofs.lines.LinesIterator.next.Goals as goal

pub returns-in_default-clause-steps : goal.returns-in_default-clause-steps
returns-in_default-clause-steps c =
    let all = c.args.self.now.lines in
    (no_lines _ _ all.spelled c.in_default.ensures, refl)

pub unreachable-requires : goal.unreachable-requires
unreachable-requires c =
    let all = c.args.self.now.lines in
    let first = first_header _ _ _ _ all.lawful all.spelled c.in-Some.ensures in
    c.in_default-name_and_value.ensures first.first first.good first.text

pub invariant_of-self : goal.invariant_of-self
invariant_of-self c =
    let all = c.args.self.now.lines in
    record { lines = lines_left _ _ _ (first_header _ _ _ _ all.lawful all.spelled c.in-Some.ensures) }

pub returns-clause-steps : goal.returns-clause-steps
returns-clause-steps c =
    let all = c.args.self.now.lines in
    (c.in-Some.ensures.cut, headers_step _ _ _ _ _ c.in-Some.ensures c.in-Some-name_and_value.ensures)

pub returns-clause-goes : goal.returns-clause-goes
returns-clause-goes c =
    let steps = headers_step _ _ _ _ _ c.in-Some.ensures c.in-Some-name_and_value.ensures in
    record { on = λ f. (tt, tt, omega (arith, ap length steps)); keeps = tt; rests = λ f. tt }
