use Rattle.std.proofs.Common.{◌-◌, ◌∷◌, ◌++◌, [], not, is_some, map, ap, ◌∙◌, sym, subst}
use Rattle.std.proofs.lemmas.Bool.{and_from, and_parts}
use Rattle.dump_trees.specs.Paths.{names_of}
use Rattle.dump_trees.specs.Siblings.{has_node_names}
use Rattle.dump_index.specs.steps.Listed.{listed_of}
use Rattle.dump_cut.proofs.ParentLemmas.{ends_named}
use Rattle.dump_expansion.specs.declared.written_node.NewNode.TheVariants.{Deletion}
use Rattle.dump_expansion.specs.steps.NewNodes.{written_of}
use Rattle.dump_additions.specs.steps.Nodes.{IsSteadFor}
use Rattle.dump_additions.proofs.NodeLemmas.{cleared_by, not_cleared}
use Rattle.dump_additions.proofs.addition.clearing_of.Goals as goal

pub kind_at-requires : goal.kind_at-requires
kind_at-requires c = ends_named c.args.change.now.path.now (and_parts (has_node_names (names_of c.args.change.now.path.now)) _ c.requires.named).0

pub returns-in-Ok : goal.returns-in-Ok
returns-in-Ok c =
    cleared_by c.args.index.now (c.args.count - 1) (listed_of c.args.change.now)
    (and_parts (has_node_names (names_of c.args.change.now.path.now)) _ c.requires.named).0
    (and_from _ _ (and_from _ _ c.requires.copies (ap not c.if-change.false))
    (ap is_some (sym c.in_ok-kind_at.ensures) ∙ (c.is_none.ensures ∙ ap not c.if-is_none.false)))
    c.in_ok-path.path.items c.in_ok-path.ensures.items (map written_of c.push.new.self.items)
    (ap (map written_of) (c.in_ok-push.ensures.items ∙ ap (λ ns. ns ++ Deletion c.in_ok-path.path ∷ []) c.new-nodes.ensures.items))
    c.in-Ok.clearing
    (subst (IsSteadFor c.args.change.now.record_number (map written_of c.push.new.self.items) _) c.in-Ok.is c.stead_for.ensures)

pub returns-in-Err : goal.returns-in-Err
returns-in-Err c =
    not_cleared c.args.index.now (c.args.count - 1) (listed_of c.args.change.now)
    (and_parts (has_node_names (names_of c.args.change.now.path.now)) _ c.requires.named).0
    (and_from _ _ (and_from _ _ c.requires.copies (ap not c.if-change.false))
    (ap is_some (sym c.in_ok-kind_at.ensures) ∙ (c.is_none.ensures ∙ ap not c.if-is_none.false)))
    c.in_ok-path.path.items c.in_ok-path.ensures.items (map written_of c.push.new.self.items)
    (ap (map written_of) (c.in_ok-push.ensures.items ∙ ap (λ ns. ns ++ Deletion c.in_ok-path.path ∷ []) c.new-nodes.ensures.items))
    c.in-Err.reason
    (subst (IsSteadFor c.args.change.now.record_number (map written_of c.push.new.self.items) _) c.in-Err.is c.stead_for.ensures)
