use Rattle.dump_filter.proofs.Prelude.{ap, sym, ◌∙◌, nat_eq, option_eq}
use Rattle.dump_filter.proofs.written.StayLemmas.{same_number}
use Rattle.dump_filter.proofs.new_lines.revision_stays.Goals as goal

pub returns-else-is_none : goal.returns-else-is_none
returns-else-is_none c same n is =
    sym c.revision.ensures
    ∙ same_number _ n (ap (option_eq nat_eq c.revision.result) (sym is) ∙ sym c.eq.ensures ∙ same)
