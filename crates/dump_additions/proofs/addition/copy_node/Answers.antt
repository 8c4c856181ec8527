use Rattle.std.proofs.Common.{ap, ap₂, ◌∙◌, sym, subst}
use Rattle.dump_trees.specs.steps.Looking.{end_of}
use Rattle.dump_trees.specs.Paths.{names_of}
use Rattle.dump_trees.specs.steps.WritingOut.{copy_of}
use Rattle.dump_history.specs.WrittenNodes.{Copy}
use Rattle.dump_index.specs.steps.Kinds.{kind_look}
use Rattle.dump_index.specs.steps.Listed.{all_placed}
use Rattle.dump_index.specs.declared.change.NodeKind.TheVariants.{Directory}
use Rattle.dump_index.proofs.SlashLemmas.{names_joined}
use Rattle.dump_expansion.specs.steps.NewNodes.{written_kind}
use Rattle.dump_additions.specs.steps.Additions.{SaysKind}
use Rattle.dump_additions.proofs.NodeLemmas.{joined_bare, joined_path, says_kind}
use Rattle.dump_additions.proofs.addition.copy_node.Goals as goal

pub kind_at-requires : goal.kind_at-requires
kind_at-requires c =
    joined_bare c.deref.result.now c.args.source.path.now c.args.rest.now (c.deref.ensures.value ∙ c.in_ok-there.ensures)
    c.requires.source c.requires.rest

pub returns-clause-change : goal.returns-clause-change
returns-clause-change c =
    ap₂ (λ s p. copy_of c.args.source.revision s p)
    (joined_path c.in_ok-there.there.items c.args.source.path.now c.args.rest.now c.in_ok-there.ensures c.requires.source
    c.requires.rest)
    (joined_path c.in_ok-joined.field-0.items c.args.path.now c.args.rest.now c.in_ok-joined.ensures c.requires.path c.requires.rest)

pub returns-clause-kind : goal.returns-clause-kind
returns-clause-kind c =
    subst (λ here. SaysKind here (Copy (written_kind c.unwrap_or.result) c.args.source.revision c.in_ok-there.there.items
    c.in_ok-joined.field-0.items))
    (c.in_ok-kind.ensures
    ∙ ap (λ n. kind_look c.args.index.now n (names_of c.deref.result.now)) c.end_of.ensures
    ∙ ap (kind_look c.args.index.now (end_of (all_placed c.args.index.now) c.args.source.revision))
    (ap names_of (c.deref.ensures.value ∙ c.in_ok-there.ensures) ∙ names_joined c.args.source.path.now c.args.rest.now))
    (subst (λ kind. SaysKind c.in_ok-kind.kind (Copy (written_kind kind) c.args.source.revision c.in_ok-there.there.items
    c.in_ok-joined.field-0.items)) (sym c.unwrap_or.ensures)
    (says_kind c.in_ok-kind.kind Directory c.args.source.revision c.in_ok-there.there.items c.in_ok-joined.field-0.items))
