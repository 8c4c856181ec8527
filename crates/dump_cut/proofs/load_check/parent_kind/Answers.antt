use Rattle.std.proofs.Common.{length, option_and_then, sym, ap, ◌∙◌}
use Rattle.dump_trees.specs.Paths.{names_of}
use Rattle.dump_trees.specs.Siblings.{has_node_names}
use Rattle.dump_index.specs.steps.Kinds.{kind_look}
use Rattle.dump_cut.proofs.ParentLemmas.{ends_named, parent_named}
use Rattle.dump_cut.proofs.RejectionLemmas.{in_ok}
use Rattle.dump_cut.proofs.load_check.parent_kind.Goals as goal

pub kind_known-requires-clause-bare : goal.kind_known-requires-clause-bare
kind_known-requires-clause-bare c =
    let below = parent_named c.args.path.now c.requires.named (sym c.is_root.ensures ∙ c.if-is_root.false) in
    ends_named c.parent_text-parent.result.now (ap (λ t. has_node_names (names_of t)) c.parent_text-parent.ensures ∙ below.1)

pub returns-in-Some : goal.returns-in-Some
returns-in-Some c =
    let below = parent_named c.args.path.now c.requires.named (sym c.is_root.ensures ∙ c.if-is_root.false) in
    let look = kind_look c.args.index.now (length c.args.known.now) in
    c.in-Some.ensures c.args.index.now (length c.args.known.now) c.requires.seen
    ∙ ap (λ t. look (names_of t)) c.parent_text-parent.ensures ∙ sym (ap (option_and_then look) below.0)

pub returns-in-None : goal.returns-in-None
returns-in-None c =
    let below = parent_named c.args.path.now c.requires.named (sym c.is_root.ensures ∙ c.if-is_root.false) in
    let look = kind_look c.args.index.now (length c.args.known.now) in
    in_ok c.kind_known.result _ _ c.kind_known.ensures
    (λ kind is. is ∙ ap (λ t. look (names_of t)) c.parent_text-parent.ensures ∙ sym (ap (option_and_then look) below.0))
