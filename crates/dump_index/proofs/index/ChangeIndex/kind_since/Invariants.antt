use Rattle.std.proofs.Common.{◌≡◌, false}
use Rattle.dump_trees.specs.Paths.{names_of}
use Rattle.dump_index.specs.steps.InOrder.{ends_in_slash}
use Rattle.dump_index.specs.steps.Kinds.{kind_look}
use Rattle.dump_index.specs.steps.Looks.{kind_with_text}
use Rattle.dump_index.proofs.index.ChangeIndex.kind_since.Given as goal

abbrev pub invariant-loop-kind : goal.invariant-loop-kind
invariant-loop-kind l = record {
  bare : ends_in_slash l.at.items ≡ false;
  same : kind_with_text l.fn.has_text (kind_look l.self l.count (names_of l.fn.path.items))
      ≡ kind_with_text l.has_text (kind_look l.self l.before (names_of l.at.items));
}

abbrev pub decreases-loop-kind : goal.decreases-loop-kind
decreases-loop-kind l = l.before
