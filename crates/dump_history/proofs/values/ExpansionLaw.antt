-- The law of expanded dumps, applied to the example dump.
use Rattle.dump_history.proofs.Prelude.{◌≡◌, refl, path_of, Node, root_alone, Patching, LoadsAs}
use Rattle.std.proofs.Common.{[], Some, codes}
use Rattle.dump_history.proofs.expanded.ExpandedLaw.{expanded_dump_loads}
use Rattle.dump_history.proofs.values.WorkedDump.{settings}
use Rattle.dump_history.proofs.values.WorkedExpansion.{records, dump, whole, revisions, expanded, trees, second_tree, loads, steads, again, is_expansion}

-- the law applies: the expanded form loads to the dump's trees
loads_again : (patched : Patching) → LoadsAs patched root_alone again expanded trees
loads_again patched = (expanded_dump_loads patched settings dump records steads again revisions expanded trees whole
    (loads patched) (is_expansion patched)).0

trunk_stands : second_tree (path_of (codes "trunk")) ≡ Some (Node.Directory [])
trunk_stands = refl
