use Rattle.std.proofs.Common.{◌≡◌, length, take, filter}
use Rattle.std.specs.List.{slice_split}
use Rattle.dump_trees.specs.Paths.{names_of}
use Rattle.dump_trees.specs.Siblings.{is_node_name}
use Rattle.dump_cut.proofs.canonical.canonical_prefix.Given as goal

abbrev pub invariant-loop-name : goal.invariant-loop-name
invariant-loop-name l = names_of l.text.items
    ≡ filter is_node_name (take (length l.yielded) (slice_split (λ c. Rattle.std.proofs.Common.nat_eq c 47) l.prefix))
