use Rattle.std.proofs.Common.{◌≡◌, ◌||◌, ◌-◌, List, ℕ, length, map}
use Rattle.dump_index.specs.steps.Listed.{listed_of}
use Rattle.dump_index.specs.steps.Children.{is_child_named}
use Rattle.dump_index.specs.steps.Keys.{keys_in}
use Rattle.dump_index.specs.steps.Names.{texts_of}
use Rattle.dump_index.specs.steps.Below.{AreFrom}
use Rattle.dump_index.proofs.NameLemmas.{among}
use Rattle.dump_index.proofs.index.children.push_made.Given as goal

abbrev pub invariant-loop-child : goal.invariant-loop-child
invariant-loop-child l = record {
  ahead : AreFrom (keys_in (map listed_of l.changes) l.shaping) l.top.items l.from;
  named : (name : List ℕ) → is_child_named (texts_of l.names.items) name
      ≡ (is_child_named (texts_of l.initial.names.items) name
      || among (map listed_of l.changes) l.count (keys_in (map listed_of l.changes) l.shaping) l.top.items l.from name);
}

abbrev pub decreases-loop-child : goal.decreases-loop-child
decreases-loop-child l = length (keys_in (map listed_of l.changes) l.shaping) - l.from
