use Rattle.std.proofs.Common.{◌≡◌, take, true}
use Rattle.std.specs.List.{list_all}
use Rattle.dump_history.specs.WrittenNodes.{is_plain_path}
use Rattle.dump_cut.proofs.deletes.are_plain_paths.Given as goal

abbrev pub invariant-loop-path : goal.invariant-loop-path
invariant-loop-path l = list_all (λ path. is_plain_path path.items) (take l.path-index l.paths) ≡ true
