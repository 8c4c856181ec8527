use Rattle.svndiff.proofs.Prelude.{drop, take, vec_len, ◌+◌, ◌-◌, ◌<◌, ◌≡◌}
use Rattle.svndiff.specs.Svndiff.{copied_on}
use Rattle.svndiff.proofs.targets.copy_target.Given as goal

abbrev pub invariant-loop-next : goal.invariant-loop-next
invariant-loop-next l = record {
  room : l.start + l.offset + l.next < vec_len l.text;
  before : take l.start l.text.items ≡ take l.start l.fn.text.items;
  target : copied_on (l.size - l.next) (l.offset + l.next) (drop l.start l.text.items)
      ≡ copied_on l.size l.offset (drop l.start l.fn.text.items);
}
