use Rattle.std.proofs.Common.{All, map}
use Rattle.dump_index.specs.steps.Listed.{listed_of}
use Rattle.dump_index.specs.steps.Keys.{AreFirstPlaces, IsKeyIn, place_of}
use Rattle.dump_index.proofs.order.keys_of.Given as goal

abbrev pub invariant-loop-place : goal.invariant-loop-place
invariant-loop-place l = record {
  places : AreFirstPlaces l.place (map place_of l.keys.items);
  paths : All (IsKeyIn (map listed_of l.changes)) l.keys.items;
}
