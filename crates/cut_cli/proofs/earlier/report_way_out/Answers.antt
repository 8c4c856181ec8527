use Rattle.std.proofs.Common.{◌≡◌, true, List, sym, subst}
use Rattle.std.specs.List.{list_all}
use Rattle.dump_trees.specs.steps.Looking.{end_of}
use Rattle.dump_index.specs.steps.Listed.{Listed, all_placed}
use Rattle.dump_cut.specs.steps.NamedPaths.{has_named_paths}
use Rattle.cut_cli.proofs.EarlierLemmas.{first_named}
use Rattle.cut_cli.proofs.earlier.report_way_out.Goals as goal

pub ask_paths-requires : goal.ask_paths-requires
ask_paths-requires g c =
    subst (λ (listed : List Listed). list_all has_named_paths listed ≡ true) (sym c.in_ok-earlier.ensures)
    (first_named c.args.index.now (end_of (all_placed c.args.index.now) c.args.number) c.requires)
