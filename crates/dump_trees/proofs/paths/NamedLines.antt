-- Merge sources and the cut.
use Rattle.dump_trees.proofs.Prelude.{sym, ◌∙◌, path_of}
use Rattle.dump_trees.specs.steps.Siblings.{NamedTextsLeaveCut}
use Rattle.dump_trees.proofs.paths.PathNames.{keeps_text}
use Rattle.dump_trees.proofs.paths.SiblingLemmas.{short_names, named_paths_leave_cut}

-- a text is kept exactly if its path is
pub named_texts_leave_cut : NamedTextsLeaveCut
named_texts_leave_cut settings included named siblings text excludes cover among short =
    sym (keeps_text settings text)
    ∙ named_paths_leave_cut settings included named siblings (path_of text) excludes cover among (short_names text short)
