use Rattle.std.proofs.Common.{true, None, refl}
use Rattle.dump_digest.proofs.VerdictLemmas.{other_verdict, not_asked}
use Rattle.dump_digest.proofs.SaidLemmas.{content_of_other}
use Rattle.dump_digest.proofs.content.read_nothing.Goals as goal

pub returns : goal.returns
returns c settings r none other =
    content_of_other settings r _ None other (other_verdict settings r true other (not_asked r none))
    (rw (none, other) refl) (λ p e. cc)
