use Rattle.std.proofs.Common.{◌≡◌, true, List, sym, subst, map}
use Rattle.std.specs.List.{list_all}
use Rattle.std.proofs.lemmas.Result.{IfOk-weaker}
use Rattle.dump_trees.specs.steps.Looking.{end_of}
use Rattle.dump_trees.specs.Paths.{names_of}
use Rattle.dump_index.specs.steps.Listed.{Listed, all_placed}
use Rattle.dump_cut.specs.steps.CutAlike.{AreDifferences}
use Rattle.dump_cut.specs.steps.NamedPaths.{has_named_paths}
use Rattle.dump_cut.specs.steps.ExcludedPaths.{paths_of}
use Rattle.cut_cli.specs.steps.Cuts.{IsAskedBy}
use Rattle.cut_cli.specs.steps.Words.{cut_meaning}
use Rattle.cut_cli.proofs.EarlierLemmas.{first_named}
use Rattle.cut_cli.proofs.earlier.differences_before.Goals as goal

pub ask_paths-requires : goal.ask_paths-requires
ask_paths-requires c =
    subst (λ (listed : List Listed). list_all has_named_paths listed ≡ true) (sym c.in_ok-index.ensures)
    (first_named c.args.index.now (end_of (all_placed c.args.index.now) c.args.number) c.requires)

pub returns : goal.returns
returns c =
    let m = cut_meaning c.args.call.now in
    let excluded = paths_of c.args.excluded.now in
    let earlier = paths_of c.in_ok-asked.asked.excluded in
    let first = c.first_part-first.result.now in
    IfOk-weaker c.cut_differences.result _ _ (λ found are. record {
      first = first;
      earlier = earlier;
      is_first = c.first_part-first.ensures;
      asked = subst (λ (listed : List Listed). IsAskedBy m.side m first listed earlier) c.in_ok-index.ensures c.in_ok-asked.ensures;
      are = subst (λ (listed : List Listed). AreDifferences first listed excluded earlier (map (λ path. names_of path.items) found.items))
          c.in_ok-index.ensures are;
    }) c.cut_differences.ensures
