use Rattle.std.proofs.Common.{None, ◌∷◌, [], map, append-nil, ap, ◌∙◌, sym, subst}
use Rattle.std.specs.Prelude.{Err, Ok}
use Rattle.std.proofs.lemmas.List.{map-append, take_all}
use Rattle.dump_trees.specs.Paths.{names_of}
use Rattle.dump_expansion.specs.steps.NewNodes.{written_of}
use Rattle.dump_additions.specs.declared.parts.Part.{Part}
use Rattle.dump_additions.specs.steps.Nodes.{AddsNodes, IsNodeOrNoText}
use Rattle.dump_additions.specs.steps.Parts.{part_meant}
use Rattle.dump_additions.proofs.NodeLemmas.{no_text_there, one_node_more}
use Rattle.dump_additions.proofs.addition.push_nodes.Goals as goal

pub loop-part-init : goal.loop-part-init
loop-part-init c = λ excluded. ([], sym (append-nil (map written_of c.args.nodes.now.items)), tt)

pub returns-in-Err : goal.returns-in-Err
returns-in-Err c = λ excluded.
    no_text_there c.args.table.now c.args.texts.now c.args.index.now excluded c.args.source.revision (names_of c.args.path.now)
    (names_of c.args.source.path.now) c.args.parts.now c.loop-part.part-index _ c.loop-part-test.true c.in-Err.no_text
    (subst (λ (p : Part). IsNodeOrNoText c.args.table.now c.args.texts.now c.args.index.now excluded c.args.source.revision
    (names_of c.args.path.now) (names_of c.args.source.path.now) (part_meant p) (Err c.in-Err.no_text)) c.part-item.is
    (subst (IsNodeOrNoText c.args.table.now c.args.texts.now c.args.index.now excluded c.args.source.revision
    (names_of c.args.path.now) (names_of c.args.source.path.now) (part_meant c.part-item.result)) c.in-Err.is
    (c.in_ok-node.ensures excluded)))

pub loop-part-preserved : goal.loop-part-preserved
loop-part-preserved c = λ excluded.
    one_node_more c.args.table.now c.args.texts.now c.args.index.now excluded c.args.source.revision (names_of c.args.path.now)
    (names_of c.args.source.path.now) c.args.parts.now c.loop-part.part-index _ c.loop-part-test.true
    (map written_of c.args.nodes.now.items) (map written_of c.loop-part.nodes.items) (map written_of c.push.new.self.items)
    (written_of c.in-Ok.node)
    (ap (map written_of) c.in_ok-push-in-Ok.ensures.items ∙ map-append written_of c.loop-part.nodes.items (c.in-Ok.node ∷ []))
    (c.loop-part.invariant excluded)
    (subst (λ (p : Part). IsNodeOrNoText c.args.table.now c.args.texts.now c.args.index.now excluded c.args.source.revision
    (names_of c.args.path.now) (names_of c.args.source.path.now) (part_meant p) (Ok c.in-Ok.node)) c.part-item.is
    (subst (IsNodeOrNoText c.args.table.now c.args.texts.now c.args.index.now excluded c.args.source.revision
    (names_of c.args.path.now) (names_of c.args.source.path.now) (part_meant c.part-item.result)) c.in-Ok.is
    (c.in_ok-node.ensures excluded)))

pub returns : goal.returns
returns c = λ excluded.
    subst (λ ps. AddsNodes c.args.table.now c.args.texts.now c.args.index.now excluded c.args.source.revision
    (names_of c.args.path.now) (names_of c.args.source.path.now) (map part_meant ps) (map written_of c.args.nodes.now.items)
    (map written_of c.loop-part.nodes.items) None) (take_all c.loop-part.part-index c.args.parts.now c.loop-part-test.false)
    (c.loop-part.invariant excluded)
