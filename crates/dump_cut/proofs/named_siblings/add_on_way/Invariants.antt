use Rattle.std.proofs.Common.{◌≡◌, filter, length, nat_eq, take, true}
use Rattle.std.specs.List.{slice_split}
use Rattle.dump_trees.specs.Paths.{names_of}
use Rattle.dump_trees.specs.Siblings.{is_node_name}
use Rattle.dump_trees.specs.steps.Siblings.{is_in_cut}
use Rattle.dump_cut.specs.steps.ExcludedPaths.{paths_of}
use Rattle.dump_cut.proofs.named_siblings.add_on_way.Given as goal

abbrev pub invariant-loop-name : goal.invariant-loop-name
invariant-loop-name l = record {
  names : (names_of l.path.items ≡ filter is_node_name (take (length l.yielded) (slice_split (λ c. nat_eq c 47) l.prefix)));
  inside : (is_in_cut (paths_of l.included) (names_of l.path.items) ≡ true);
  same : (l.siblings ≡ l.fn.siblings);
}
