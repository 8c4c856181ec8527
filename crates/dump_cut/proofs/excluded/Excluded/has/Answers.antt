use Rattle.std.proofs.Common.{ℕ, List, bytes_eq, ap, ◌∙◌}
use Rattle.std.specs.List.{list_any}
use Rattle.dump_cut.proofs.ExcludedLemmas.{any_found}
use Rattle.dump_cut.proofs.excluded.Excluded.has.Goals as goal

pub returns : goal.returns
returns c =
    c.contains.ensures
    ∙ any_found (λ path. path.items) c.args.path.now c.self.inside.paths.keys
    ∙ ap (list_any (λ (other : List ℕ). bytes_eq c.args.path.now other)) c.self.view_is
