use Rattle.std.proofs.Common.{◌-◌, ◌∷◌, ◌++◌, [], map, option_map, ap, ◌∙◌, subst}
use Rattle.dump_trees.specs.Paths.{names_of}
use Rattle.dump_index.specs.steps.Listed.{listed_made, listed_of}
use Rattle.dump_expansion.specs.steps.NewNodes.{written_of}
use Rattle.dump_additions.specs.steps.Nodes.{AddsNodes, IsRootOr}
use Rattle.dump_additions.specs.steps.Parts.{part_meant}
use Rattle.dump_additions.proofs.NodeLemmas.{all_added, inside_refused, root_refused, stead_made, stead_or}
use Rattle.dump_additions.proofs.addition.stead_of.Goals as goal

pub returns-in-Err : goal.returns-in-Err
returns-in-Err c = λ excluded are.
    root_refused c.args.table.now c.args.texts.now c.args.index.now excluded (c.args.count - 1) (listed_of c.args.change.now)
    c.args.source.revision (names_of c.args.source.path.now) (ap (option_map listed_made) c.requires.copies) c.args.form
    (map part_meant c.args.inside.now) are c.in-Err.reason
    (subst (IsRootOr c.args.table.now c.args.texts.now c.args.index.now excluded (c.args.count - 1) (listed_of c.args.change.now)
    c.args.form) c.in-Err.is (c.in_ok-root.ensures excluded))

pub returns-in-Some : goal.returns-in-Some
returns-in-Some c = λ excluded are.
    inside_refused c.args.table.now c.args.texts.now c.args.index.now excluded (c.args.count - 1) (listed_of c.args.change.now)
    c.args.source.revision (names_of c.args.source.path.now) (ap (option_map listed_made) c.requires.copies) c.args.form
    (map part_meant c.args.inside.now) are c.in-Some.no_text
    (subst (AddsNodes c.args.table.now c.args.texts.now c.args.index.now excluded c.args.source.revision
    (names_of c.args.change.now.path.now) (names_of c.args.source.path.now) (map part_meant c.args.inside.now)
    (map written_of c.push.new.self.items) (map written_of c.push_nodes.new.nodes.items)) c.in-Some.is (c.in_ok-no_text.ensures excluded))

pub returns : goal.returns
returns c = λ excluded are.
    stead_or c.args.table.now c.args.texts.now c.args.index.now excluded (c.args.count - 1) (listed_of c.args.change.now)
    c.args.source.revision (names_of c.args.source.path.now) (ap (option_map listed_made) c.requires.copies) c.args.form
    (map part_meant c.args.inside.now) are (map written_of c.push_nodes.new.nodes.items)
    (stead_made c.args.table.now c.args.texts.now c.args.index.now excluded (c.args.count - 1) (listed_of c.args.change.now)
    c.args.source.revision (names_of c.args.source.path.now) (ap (option_map listed_made) c.requires.copies) c.args.form
    (map part_meant c.args.inside.now) are
    (written_of c.in-Ok.root)
    (subst (IsRootOr c.args.table.now c.args.texts.now c.args.index.now excluded (c.args.count - 1) (listed_of c.args.change.now)
    c.args.form) c.in-Ok.is (c.in_ok-root.ensures excluded))
    (map written_of c.push.new.self.items) (map written_of c.push_nodes.new.nodes.items)
    (ap (map written_of) (c.in_ok-push-in-Ok.ensures.items ∙ ap (λ ns. ns ++ c.in-Ok.root ∷ []) c.new-nodes.ensures.items))
    (all_added c.args.table.now c.args.texts.now c.args.index.now excluded c.args.source.revision
    (names_of c.args.change.now.path.now) (names_of c.args.source.path.now) (map part_meant c.args.inside.now)
    (map written_of c.push.new.self.items) (map written_of c.push_nodes.new.nodes.items) c.in_ok-no_text.field-0
    c.in_default.not-Some (c.in_ok-no_text.ensures excluded)))
    c.stead_for.result c.stead_for.ensures
