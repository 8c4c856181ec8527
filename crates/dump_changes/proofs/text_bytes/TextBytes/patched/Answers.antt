use Rattle.std.proofs.Common.{Bor, List, [], ℕ, Some, ap, get_or, sym, ◌+◌, ◌∙◌, take}
use Rattle.std.proofs.lemmas.List.{take_more}
use Rattle.svndiff.specs.Svndiff.{patch}
use Rattle.dump_changes.specs.steps.TextBytes.{bytes_of}
use Rattle.dump_changes.proofs.PatchedLemmas.{parts_more}
use Rattle.dump_changes.proofs.text_bytes.TextBytes.patched.Goals as goal

abbrev no_delta : Bor (List ℕ)
no_delta = record { ref_ptr = (0, 0); now = [] }

pub loop-delta-preserved : goal.loop-delta-preserved
loop-delta-preserved c =
    let deltas = c.args.deltas.now in
    let i = c.loop-delta.delta-index in
    parts_more c.args.base.now (take i deltas) (take (i + 1) deltas) (get_or deltas i no_delta) (bytes_of c.loop-delta.text)
    (Some c.in_ok-apply.field-0.items) (take_more deltas i no_delta c.loop-delta-test.true) c.loop-delta.invariant
    (ap (patch (get_or deltas i no_delta).now) (sym c.as_slice.ensures) ∙ c.in_ok-apply.ensures.text)
