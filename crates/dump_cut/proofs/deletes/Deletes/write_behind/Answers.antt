use Rattle.std.proofs.Common.{ap, ◌∙◌}
use Rattle.dump_cut.specs.steps.TrimmedCopies.{are_plain}
use Rattle.dump_cut.specs.steps.Deletes.{delete_texts_of}
use Rattle.dump_cut.proofs.FoundDeletes.{plain_shown}
use Rattle.dump_cut.proofs.deletes.Deletes.write_behind.Goals as goal

pub trimmed-requires : goal.trimmed-requires
trimmed-requires c =
    plain_shown c.as_slice.result.now
    (ap (λ deletes. are_plain (delete_texts_of deletes)) c.as_slice.ensures.value ∙ c.self.invariant)
