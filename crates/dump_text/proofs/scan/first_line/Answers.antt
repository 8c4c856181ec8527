use Rattle.dump_text.proofs.Prelude.{◌++◌, ◌∷◌, ◌+◌, take, sym, ap, ◌∙◌, take_rest}
use Rattle.dump_text.proofs.ScanLemmas.{no_place, at_place}
use Rattle.dump_text.proofs.scan.first_line.Goals as goal

pub returns-in_default : goal.returns-in_default
returns-in_default c = no_place 10 c.args.text.now c.in_default.ensures

pub returns : goal.returns
returns c =
    let text = c.args.text.now in
    let at = at_place 10 text c.in-Some.at c.in-Some.ensures in
    record {
      cut = at.cut ∙ ap (λ t. take c.in-Some.at text ++ 10 ∷ t) (sym (take_rest text (c.in-Some.at + 1)));
      one_line = at.before;
    }
