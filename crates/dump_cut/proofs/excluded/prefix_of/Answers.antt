use Rattle.std.proofs.Common.{◌++◌, ap, sym, ◌∙◌}
use Rattle.dump_trees.specs.Paths.{names_of, path_text}
use Rattle.dump_cut.proofs.RangeLemmas.{prefix_text, empty_list}
use Rattle.dump_cut.proofs.excluded.prefix_of.Goals as goal

pub returns-then-is_empty : goal.returns-then-is_empty
returns-then-is_empty c =
    c.new.ensures.items
    ∙ ap (λ path. path_text (names_of path)) (sym (empty_list c.args.path.now (sym c.is_empty.ensures ∙ c.if-is_empty.true)))

pub returns : goal.returns
returns c =
    c.in_ok-extend_from_slice.ensures.items
    ∙ (ap (λ front. front ++ c.args.path.now) c.in_ok-prefix.ensures.items
    ∙ prefix_text c.args.path.now (sym c.is_empty.ensures ∙ c.if-is_empty.false))
