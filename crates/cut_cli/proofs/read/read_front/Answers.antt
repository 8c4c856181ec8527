use Rattle.std.proofs.Common.{ap, sym, subst, ◌∙◌}
use Rattle.std.specs.List.{list_all}
use Rattle.dump_cut.specs.steps.NamedPaths.{has_named_paths}
use Rattle.cut_cli.specs.steps.Cuts.{AreChangesOf}
use Rattle.cut_cli.proofs.FrontLemmas.{in_order_known}
use Rattle.cut_cli.proofs.read.read_front.Goals as goal

pub returns : goal.returns
returns c =
    let dump = c.args.dump.now in
    let known = c.in_order-known.ensures.known dump (c.in_ok-known_changes.ensures dump c.in_ok-reading.ensures) in (
      λ none. subst (AreChangesOf dump) (sym c.in_ok-index.ensures)
          (in_order_known dump c.in_order-known.result.changes.items (known.whole none) c.in_order-known.ensures.ordered),
      ap (list_all has_named_paths) c.in_ok-index.ensures ∙ known.named,
    )
