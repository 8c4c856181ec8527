use Rattle.dump_text.specs.steps.Views.{block_headers}
use Rattle.dump_text.proofs.ValueLemmas.{span_of_name}
use Rattle.dump_text.proofs.headers.Headers.place_of.Goals as goal

pub returns : goal.returns
returns c =
    let h = c.args.self.now in
    (span_of_name h.block.dump.now (block_headers h.block) h.spans h.known c.args.name).stands
