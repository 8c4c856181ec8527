use Rattle.std.proofs.Common.{◌≡◌, List, ℕ, Some, ap, reverse, subst, sym, ◌∙◌, MatchResult}
use Rattle.dump_changes.specs.steps.PatchedTexts.{latest_delta, told_patched}
use Rattle.dump_changes.specs.steps.MadeTexts.{IsDigestDefect, IsNoText, told_of_made}
use Rattle.dump_changes.proofs.PatchedLemmas.{digest_told}
use Rattle.dump_changes.proofs.texts.text_at.Goals as goal

pub returns-in-Some-digest_defect : goal.returns-in-Some-digest_defect
returns-in-Some-digest_defect c =
    let places = c.in_ok-places.places.items in
    let table = c.args.table.now in
    let index = c.args.index.now in (
      reverse places,
      c.in_ok-places.ensures,
      digest_told table index (reverse places) c.in-Some.place (told_of_made c.in-Ok.text) c.in-Some-digest_defect.defect
          (ap (λ (ps : List ℕ). latest_delta index (reverse ps)) (sym c.deref-2.ensures.value)
          ∙ sym c.latest_delta.ensures ∙ c.in-Some.is)
          (ap (λ (ps : List ℕ). told_patched table index (reverse ps)) (sym c.deref.ensures.value)
          ∙ subst (λ made. MatchResult made
          (λ text. told_patched table index (reverse c.deref.result.now) ≡ Some (told_of_made text))
          (IsNoText table index (reverse c.deref.result.now))) c.in-Ok.is c.in_ok-text.ensures)
          (subst (IsDigestDefect (told_of_made c.in-Ok.text)) c.in-Some-digest_defect.is c.digest_defect.ensures),
    )
