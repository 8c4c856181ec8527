use Rattle.dump_text.proofs.Prelude.{sym, ap, ◌∙◌, ◌||◌, or-false, Bool, arith, List, [], ◌≡◌, bytes_eq-Decides, Property, block_end, has_deletes}
use Rattle.dump_text.proofs.BoolLemmas.{absurd_bool}
use Rattle.dump_text.proofs.PropertyLemmas.{scanned_parts, entry_shorter, entries_more, entries_end, entries_once, deletes_step, gone_is}
use Rattle.dump_text.proofs.WrittenLemmas.{scanned_shortest, written_step}
use Rattle.dump_text.proofs.props.read_entries.Goals as goal

pub loop-parts-preserved : goal.loop-parts-preserved
loop-parts-preserved c =
    let before = c.loop-parts.invariant in
    let small = before.small in
    let parts = scanned_parts _ _ _ c.in-Some.ensures c.rest-rest.ensures in
    let step = entries_more _ _ _ parts in
    let shorter = entry_shorter _ _ _ parts in
    let gone = gone_is c.entry-in-Some.result _ c.entry-in-Some.ensures in
    let short = scanned_shortest _ _ _ c.in-Some.ensures c.rest-rest.ensures in
    record {
      entries = (λ has. step.0 (before.entries.0 has), λ has. before.entries.1 (step.1 has));
      small = omega arith;
      written = written_step _ _ _ _ parts c.loop-parts.spelled _ small
          (λ is. short.0 (sym c.are_shortest-spelled.ensures ∙ is), λ is. c.are_shortest-spelled.ensures ∙ short.1 is)
          before.written;
      deletes = λ ps all.
          let (qs, left, is) = deletes_step ps c.loop-parts.deletes _ _ _ parts (before.deletes ps all) in
          (qs, left, is ∙ ap (λ (b : Bool). (c.loop-parts.deletes || b) || has_deletes qs) (sym gone));
    }

pub returns-then-eq : goal.returns-then-eq
returns-then-eq c =
    let end : c.loop-parts.rest.now ≡ block_end = (bytes_eq-Decides _ block_end).0 (sym c.eq.ensures ∙ c.if-eq.true) in
    let before = c.loop-parts.invariant in
    let left = (entries_end _ c.in_default.ensures).1 end in
    record {
      entries = before.entries.1 left;
      spelled = (λ so. before.written.1 (so, ([], end)), λ written. (before.written.0 written).0);
      deletes = λ ps all.
          let (qs, more, is) = before.deletes ps all in
          sym (is ∙ ap (λ (l : List Property). c.loop-parts.deletes || has_deletes l)
          (entries_once _ qs [] more end) ∙ or-false c.loop-parts.deletes);
    }

pub returns-else-eq : goal.returns-else-eq
returns-else-eq c = λ has.
    absurd_bool _ (c.eq.ensures ∙ (bytes_eq-Decides c.loop-parts.rest.now block_end).1
    ((entries_end _ c.in_default.ensures).0 (c.loop-parts.invariant.entries.0 has))) c.if-eq.false
