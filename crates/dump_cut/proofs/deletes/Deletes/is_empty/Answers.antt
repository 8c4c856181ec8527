use Rattle.std.proofs.Common.{ap, ◌∙◌}
use Rattle.dump_cut.specs.steps.TrimmedCopies.{deletes_nothing}
use Rattle.dump_cut.specs.steps.Deletes.{delete_texts_of}
use Rattle.dump_cut.proofs.FoundDeletes.{nothing_shown}
use Rattle.dump_cut.proofs.deletes.Deletes.is_empty.Goals as goal

pub returns : goal.returns
returns c =
    c.are_empty.ensures
    ∙ (nothing_shown c.deref.result.now
    ∙ (ap (λ deletes. deletes_nothing (delete_texts_of deletes)) c.deref.ensures.value ∙ ap deletes_nothing c.self.view_is))
