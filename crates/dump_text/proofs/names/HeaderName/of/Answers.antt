use Rattle.dump_text.proofs.Prelude.{ap, ◌∙◌, bytes_eq, find, name_text}
use Rattle.dump_text.proofs.NameLemmas.{known_by_length}
use Rattle.dump_text.proofs.names.HeaderName.of.Goals as goal

pub returns : goal.returns
returns c =
    c.find_name.ensures
    ∙ ap (find (λ name. bytes_eq c.args.bytes.now (name_text name))) c.of_length.ensures
    ∙ known_by_length c.args.bytes.now
