use Rattle.std.proofs.Common.{Some, ap, sym, ◌∙◌}
use Rattle.svndiff.specs.Svndiff.{patch}
use Rattle.dump_changes.specs.steps.TextBytes.{bytes_of}
use Rattle.dump_changes.proofs.PatchedLemmas.{parts_more}
use Rattle.dump_changes.proofs.made_text.MadeText.edited.Goals as goal

pub invariant_of-result : goal.invariant_of-result
invariant_of-result c = record {
  made = parts_more c.args.self.base.now c.args.self.deltas.items c.push.new.self.items c.args.own.text (bytes_of c.args.self.bytes)
      (Some c.in_ok-text.text.items) c.in-Ok.ensures.items c.args.self.made
      (ap (patch c.args.own.text.now) (sym c.as_slice.ensures) ∙ c.in_ok-text.ensures.text);
}
