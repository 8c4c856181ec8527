use Rattle.std.proofs.Common.{◌≡◌, ◌++◌, drop, map}
use Rattle.dump_cut.specs.steps.TrimmedTexts.{delete_texts}
use Rattle.dump_cut.proofs.trimming.delete_nodes.Given as goal

abbrev pub invariant-loop-path : goal.invariant-loop-path
invariant-loop-path l =
    l.text.items ++ delete_texts (map (λ path. path.items) (drop l.path-index l.paths))
    ≡ delete_texts (map (λ path. path.items) l.paths)
