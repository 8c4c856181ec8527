use Rattle.dump_filter.proofs.Prelude.{◌≡◌, Bool, true, false, if◌then◌else◌, Option, Some, None, sym, ◌∙◌, subst, path_name, has_header, record_item, StaysCopied}
use Rattle.dump_filter.proofs.written.StayLemmas.{same_number}
use Rattle.dump_filter.proofs.new_lines.copy_stays.Goals as goal

-- a part that is there is the whole that it is a part of
part_there : {A : Type 0} (b : Bool) (x : A) (whole : Option A) → Some x ≡ (if b then whole else None)
    → Some x ≡ whole
part_there true x whole is = is
part_there false x whole is = cc

pub returns-in-Renumbered : goal.returns-in-Renumbered
returns-in-Renumbered c same =
    let r = record_item c.args.item.now in
    let told = same_number _ c.in-Renumbered.n (sym c.eq.ensures ∙ same) in
    subst (λ copy. StaysCopied copy r.headers) (sym c.in-Renumbered.is)
    (sym (part_there (has_header path_name r.headers) c.in-Renumbered.n _ (sym told ∙ c.copy_revision.ensures)))
