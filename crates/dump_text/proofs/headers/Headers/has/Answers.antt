use Rattle.dump_text.proofs.Prelude.{ap, ◌∙◌, is_some, name_text, block_headers}
use Rattle.dump_text.proofs.BlockLemmas.{has_value}
use Rattle.dump_text.proofs.ValueLemmas.{place_has}
use Rattle.dump_text.proofs.headers.Headers.has.Goals as goal

pub returns : goal.returns
returns c =
    let b = c.args.self.now.block in
    c.is_there.ensures ∙ place_has b.dump.now c.place_of.result ∙ ap is_some c.place_of.ensures
    ∙ has_value (name_text c.args.name) (block_headers b)
