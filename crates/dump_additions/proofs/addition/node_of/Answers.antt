use Rattle.std.proofs.Common.{sym, subst}
use Rattle.std.specs.Prelude.{IfOk}
use Rattle.dump_trees.specs.Paths.{names_of}
use Rattle.dump_expansion.specs.steps.NewNodes.{written_of}
use Rattle.dump_additions.specs.steps.Additions.{IsNodeOfForm}
use Rattle.dump_additions.specs.declared.parts.Form.TheVariants.{File}
use Rattle.dump_additions.specs.steps.Nodes.{IsDirectoryNode, IsNodeOrNoText}
use Rattle.dump_additions.proofs.addition.node_of.Goals as goal

pub returns-in_ok-directory_node-in-Directory : goal.returns-in_ok-directory_node-in-Directory
returns-in_ok-directory_node-in-Directory c = λ excluded.
    subst (λ f. IsNodeOfForm c.args.table.now c.args.texts.now c.args.index.now excluded c.args.source.revision
    (names_of c.args.path.now) (names_of c.args.source.path.now) f (names_of c.args.part.now.rest.items)
    (written_of c.in_ok-directory_node-in-Directory.field-0)) (sym c.in-Directory.is)
    (subst (λ t. IsDirectoryNode c.args.table.now c.args.index.now c.args.source.revision (names_of c.args.path.now)
    (names_of c.args.source.path.now) (names_of t) (written_of c.in_ok-directory_node-in-Directory.field-0))
    c.deref-in-Directory.ensures.value c.in_ok-directory_node-in-Directory.ensures)

pub returns-in-File : goal.returns-in-File
returns-in-File c = λ excluded.
    subst (λ f. IfOk c.file_node.result (IsNodeOrNoText c.args.table.now c.args.texts.now c.args.index.now excluded
    c.args.source.revision (names_of c.args.path.now) (names_of c.args.source.path.now)
    (record { form = f; rest = names_of c.args.part.now.rest.items }))) (sym c.in-File.is)
    (subst (λ t. IfOk c.file_node.result (IsNodeOrNoText c.args.table.now c.args.texts.now c.args.index.now excluded
    c.args.source.revision (names_of c.args.path.now) (names_of c.args.source.path.now)
    (record { form = File; rest = names_of t }))) c.deref-in-File.ensures.value (c.file_node.ensures excluded))
