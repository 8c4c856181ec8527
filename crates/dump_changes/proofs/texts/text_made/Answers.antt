use Rattle.dump_changes.proofs.Prelude.{◌+◌, refl, ℕ, Some, None, List, ap, sym, ◌∙◌}
use Rattle.std.proofs.Common.{reverse, take, drop}
use Rattle.std.proofs.lemmas.List.{take_all}
use Rattle.dump_changes.specs.steps.PatchedTexts.{told_patched}
use Rattle.dump_changes.specs.steps.MadeTexts.{told_of_made}
use Rattle.dump_changes.proofs.PatchedLemmas.{around, none_at_last, one_more}
use Rattle.dump_changes.proofs.texts.text_made.Goals as goal

pub returns-in-Err-Broken : goal.returns-in-Err-Broken
returns-in-Err-Broken c =
    let items = c.args.places.now in
    let i = c.loop-place.place-index in
    let fails = rw c.in-Err-Broken.field-0-is at c.in-Err-Broken.ensures in
    let none = one_more c.args.table.now c.args.index.now items i _ (told_of_made c.loop-place.text) None
    c.loop-place-test.true refl c.loop-place.invariant fails in (
      none_at_last c.args.table.now c.args.index.now items (i + 1) none,
      record {
        newer = reverse (drop (i + 1) items);
        older = reverse (take i items);
        old = told_of_made c.loop-place.text;
        is_between = around items i c.loop-place-test.true;
        before = c.loop-place.invariant;
        makes_nothing = fails;
      },
    )

pub loop-place-preserved : goal.loop-place-preserved
loop-place-preserved c =
    one_more c.args.table.now c.args.index.now c.args.places.now c.loop-place.place-index _
    (told_of_made c.loop-place.text) (Some (told_of_made c.in-Ok.text)) c.loop-place-test.true refl c.loop-place.invariant
    c.in-Ok.ensures

pub returns : goal.returns
returns c =
    ap (λ (ps : List ℕ). told_patched c.args.table.now c.args.index.now (reverse ps))
    (sym (take_all c.loop-place.place-index c.args.places.now c.loop-place-test.false))
    ∙ c.loop-place.invariant
