use Rattle.std.proofs.Common.{◌≡◌, Some, refl, slice_get, subst, sym, MatchResult}
use Rattle.dump_index.specs.steps.Listed.{listed_of}
use Rattle.dump_changes.specs.steps.MadeTexts.{SaysNone, told_of_made}
use Rattle.dump_changes.specs.steps.NodeTexts.{told_of}
use Rattle.dump_changes.proofs.PatchedLemmas.{own_or, set_by_delta}
use Rattle.dump_changes.proofs.texts.set_at.Goals as goal

pub returns : goal.returns
returns c =
    subst (λ defined. MatchResult c.edited.result (λ new. defined ≡ Some (told_of_made new)) (λ error. SaysNone error defined))
    (sym (set_by_delta c.args.table.now (slice_get c.args.index.now c.args.place) (listed_of c.in-Some.change.now)
    (told_of c.unwrap_or-own.result) (told_of_made c.args.old) c.in-Some.ensures c.in-Edits.is
    (own_or c.text.result _ c.unwrap_or-own.result _ c.text.ensures refl c.unwrap_or-own.ensures)))
    c.edited.ensures
