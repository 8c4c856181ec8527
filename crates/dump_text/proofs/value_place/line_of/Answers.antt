use Rattle.dump_text.proofs.Prelude.{◌==◌, sym, ap, ◌∙◌, before_first}
use Rattle.dump_text.proofs.PlaceLemmas.{line_before, line_whole}
use Rattle.dump_text.proofs.value_place.line_of.Goals as goal

pub returns-in-Some : goal.returns-in-Some
returns-in-Some c =
    let first = c.in-Some.ensures in
    sym (ap (before_first (λ b. b == 10)) first.cut ∙ line_before _ _ first.one_line)

pub returns-in-None : goal.returns-in-None
returns-in-None c = sym (line_whole c.args.text.now c.in-None.ensures)
