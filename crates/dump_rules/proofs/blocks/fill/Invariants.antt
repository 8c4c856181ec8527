use Rattle.dump_rules.proofs.Prelude.{◌≡◌, ℕ, ◌+◌, ◌≤◌, ◌&&◌, List, length, take, block_agrees, kind_agrees, range_parts}
use Rattle.dump_rules.proofs.blocks.fill.Given as goal

abbrev pub invariant-places : goal.invariant-places
invariant-places l = record {
  size : length l.block ≡ 4096;
  shorter : length l.rest + l.place ≤ length l.list;
  held : l.place ≤ 4096;
  read : (all : List (List ℕ)) → kind_agrees l.inheritable all (range_parts l.list)
      ≡ (block_agrees l.inheritable all (take l.place l.block) && kind_agrees l.inheritable all (range_parts l.rest));
}

abbrev pub decreases-places : goal.decreases-places
decreases-places l = length l.rest
