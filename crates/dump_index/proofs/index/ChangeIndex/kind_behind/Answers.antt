use Rattle.std.proofs.Common.{◌∙◌, Bool, Option, suc, ap, ap₂}
use Rattle.dump_trees.specs.Paths.{names_of}
use Rattle.dump_index.specs.steps.Kinds.{kind_look}
use Rattle.dump_index.specs.steps.Listed.{Listed}
use Rattle.dump_index.specs.declared.change.NodeKind.{NodeKind}
use Rattle.dump_index.specs.steps.Looks.{kind_with_text}
use Rattle.dump_index.proofs.KnownLemmas.{back_in, inside_in, left_in, same_in, shorter_stays, stands_in}
use Rattle.dump_index.proofs.index.ChangeIndex.kind_behind.Goals as goal

pub returns-clause-own : goal.returns-clause-own
returns-clause-own c l at =
    let listed = c.args.self.now in
    let changes = c.self.inside.changes.items in
    let place = c.args.place in
    let change = c.index-change.result.now in
    let low = inside_in changes c.self.invariant.ordered listed c.self.view_is place c.requires.inside in
    let there = stands_in changes c.self.invariant.ordered listed c.self.view_is place change c.index-change.ensures low in
    c.with_text.ensures
    ∙ ap₂ (λ (b : Bool) (k : Option NodeKind). kind_with_text b k) c.sets.ensures c.kind_made.ensures
    ∙ left_in changes c.self.invariant.ordered listed c.self.view_is place change c.index-change.ensures low c.args.here c.args.source
    (c.requires.here _ there) (c.requires.source _ there)
    ∙ ap (λ (k : Listed). kind_look listed (suc place) (names_of k.path))
    (same_in changes c.self.invariant.ordered listed c.self.view_is place change c.index-change.ensures low l at)

pub returns-clause-shorter : goal.returns-clause-shorter
returns-clause-shorter c l path at less =
    shorter_stays c.args.self.now
    (back_in c.self.inside.changes.items c.self.invariant.ordered c.args.self.now c.self.view_is)
    c.args.place l at path less
