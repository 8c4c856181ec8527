use Rattle.std.proofs.Common.{rules}
use Rattle.dump_text.proofs.PropertyChoice.{untruncated}
use Rattle.dump_text.proofs.WrittenLemmas.{written_is}
use Rattle.dump_text.proofs.props.Props.spelled.Goals as goal

pub returns : goal.returns
returns c =
    let props = c.args.self.now in
    written_is props.bytes.now props.spelled (search rules) (untruncated props.bytes.now props.reads) props.written
