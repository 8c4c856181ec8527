use Rattle.dump_digest.proofs.Prelude.{◌∙◌, sym, ap, is_some, record_item}
use Rattle.dump_digest.proofs.SaidLemmas.{properties_of, bytes_told}
use Rattle.dump_digest.proofs.done.Done.props.Goals as goal

pub returns-in-Some-clause-read : goal.returns-in-Some-clause-read
returns-in-Some-clause-read c asked =
    let d = c.args.self.now in
    properties_of d.options.value _ d.content _ d.judged (sym (ap is_some c.in-Some.is))
    (bytes_told (record_item d.item).props c.of_reading.result (c.of_reading.ensures ∙ c.property_bytes.ensures)) asked
