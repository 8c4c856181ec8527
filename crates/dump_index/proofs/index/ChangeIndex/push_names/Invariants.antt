use Rattle.std.proofs.Common.{◌≡◌, ◌||◌, false, List, ℕ}
use Rattle.dump_trees.specs.Paths.{names_of}
use Rattle.dump_trees.specs.steps.Listing.{names_look}
use Rattle.dump_index.specs.steps.InOrder.{ends_in_slash}
use Rattle.dump_index.specs.steps.Listed.{all_placed}
use Rattle.dump_index.specs.steps.Children.{is_child_named}
use Rattle.dump_index.specs.steps.Names.{texts_of, AreNames}
use Rattle.dump_index.proofs.index.ChangeIndex.push_names.Given as goal

abbrev pub invariant-loop-at : goal.invariant-loop-at
invariant-loop-at l = record {
  bare : ends_in_slash l.at.items ≡ false;
  named : (name : List ℕ)
      → (is_child_named (texts_of l.initial.names.items) name
      || is_child_named (names_look (all_placed l.self) l.count (names_of l.path)) name)
      ≡ (is_child_named (texts_of l.names.items) name
      || is_child_named (names_look (all_placed l.self) l.before (names_of l.at.items)) name);
  names : AreNames l.initial.names.items → AreNames l.names.items;
}

abbrev pub decreases-loop-at : goal.decreases-loop-at
decreases-loop-at l = l.before
