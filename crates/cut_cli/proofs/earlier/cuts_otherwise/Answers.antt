use Rattle.std.proofs.Common.{◌==◌, length, ap, sym, ◌∙◌}
use Rattle.dump_trees.specs.Paths.{names_of}
use Rattle.dump_cut.specs.steps.ExcludedPaths.{paths_of}
use Rattle.cut_cli.specs.steps.Words.{cut_meaning}
use Rattle.cut_cli.proofs.EarlierLemmas.{some_differ}
use Rattle.cut_cli.proofs.earlier.cuts_otherwise.Goals as goal

pub returns : goal.returns
returns g c =
    some_differ (cut_meaning c.args.call.now) c.args.dump.now c.args.index.now c.in-Some.number (paths_of c.args.excluded.now)
    (λ path. names_of path.items) c.in_ok-found.found.items
    (ap (λ n. n == 0) (ap length (sym c.deref.ensures.value) ∙ c.deref.ensures.len) ∙ sym c.is_empty.ensures ∙ c.if-is_empty.false)
    c.in-Some.is
    c.if-not-call.false c.in_ok-found.ensures
