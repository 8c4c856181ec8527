use Rattle.dump_records.proofs.Prelude.{◌≡◌, ℕ, Bool, true, false, if◌then◌else◌, List, Option, None, refl, ap, ◌∙◌, option_and_then, number_of, false_from_ne_true, path_name, copy_revision_name, has_header, header_value, record_item}
use Rattle.dump_records.proofs.HeaderLemmas.{copy_both}
use Rattle.dump_records.proofs.RecordLemmas.{copy_has}
use Rattle.dump_records.proofs.Unique.{keeps}
use Rattle.dump_records.proofs.record.Record.copy_revision.Goals as goal

-- the number that a part gives is a part
number_of_part : (there : Bool) (value : Option (List ℕ)) → option_and_then number_of (if there then value else None)
    ≡ (if there then option_and_then number_of value else None)
number_of_part true value = refl
number_of_part false value = refl

pub returns-in-None : goal.returns-in-None
returns-in-None c =
    let r = c.args.self.now in
    let headers = (record_item r).headers in
    ap (option_and_then number_of) (c.in-None.ensures.value ∙ copy_has r copy_revision_name
    (λ node none. copy_both headers (false_from_ne_true _ (keeps r.number headers r.stands.lawful).kind) node ∙ none))
    ∙ number_of_part (has_header path_name headers) (header_value copy_revision_name headers)
