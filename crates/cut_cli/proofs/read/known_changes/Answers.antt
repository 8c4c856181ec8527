use Rattle.std.proofs.Common.{◌≡◌, None, Some}
use Rattle.cut_cli.proofs.FrontLemmas.{all_known, known_as_read, known_by_load, known_named, one_more_known, read_named}
use Rattle.cut_cli.proofs.read.known_changes.Goals as goal

pub returns-then-reading : goal.returns-then-reading
returns-then-reading c dump read = record {
  named = read_named dump c.args.reading read;
  whole = λ none. known_as_read dump c.args.reading read c.if-reading.true (c.stop_at-stop.ensures none);
}

pub returns-in-Err : goal.returns-in-Err
returns-in-Err c dump read = record {
  named = known_named dump c.args.reading read c.loop-change.changes.items c.loop-change.change-index c.loop-change.invariant;
  whole = λ none. absurd (let bad : Some c.in-Err.unread ≡ None = none in cc);
}

pub loop-change-preserved : goal.loop-change-preserved
loop-change-preserved c =
    one_more_known c.args.reading.changes.items c.loop-change.changes.items c.push.new.self.items
    c.deref-change-items.result.now c.loop-change.change-index _ c.in-Ok.known c.deref-change-items.ensures.value
    c.loop-change-test.true c.loop-change.invariant c.in-Ok.ensures c.in_ok-push-in-Ok.ensures.items

pub returns : goal.returns
returns c dump read = record {
  named = known_named dump c.args.reading read c.loop-change.changes.items c.loop-change.change-index c.loop-change.invariant;
  whole = λ none. known_by_load dump c.args.reading read c.if-reading.false c.loop-change.changes.items
      (all_known c.args.reading.changes.items c.loop-change.changes.items c.deref-change-items.result.now
      c.loop-change.change-index c.deref-change-items.ensures.value c.loop-change-test.false c.loop-change.invariant)
      (c.stop_at-stop.ensures none);
}
