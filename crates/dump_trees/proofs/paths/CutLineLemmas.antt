-- Lines of mergeinfo by the cut.
use Rattle.dump_trees.proofs.Prelude.{◌≡◌, sym, ap, ◌∙◌, subst, path_of}
use Rattle.std.proofs.Common.{Contains}
use Rattle.dump_trees.specs.steps.Siblings.{is_in_cut}
use Rattle.dump_trees.specs.CanonicalPaths.{canonical_path}
use Rattle.dump_trees.specs.steps.CutLines.{NamedLineStays}
use Rattle.dump_trees.proofs.paths.CanonicalLemmas.{short_are_canonical}
use Rattle.dump_trees.proofs.paths.NamedLines.{named_texts_leave_cut}

-- lines

pub named_line_stays : NamedLineStays
named_line_stays settings included named siblings line excludes cover its =
    named_texts_leave_cut settings included named siblings line.path excludes cover
    (subst (λ p. Contains named p) same its.1) its.0
    ∙ ap (is_in_cut included) (sym same)
  where
    same : canonical_path line.path ≡ path_of line.path
    same = short_are_canonical line.path its.0

-- siblings on the ways to paths
