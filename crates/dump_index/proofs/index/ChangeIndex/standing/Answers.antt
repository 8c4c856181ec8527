use Rattle.std.proofs.Common.{ap, sym, ◌∙◌}
use Rattle.dump_trees.specs.Paths.{names_of}
use Rattle.dump_index.specs.steps.InOrder.{ends_in_slash}
use Rattle.dump_index.specs.steps.Children.{stands_in}
use Rattle.dump_index.proofs.ChildLemmas.{name_at, bare_child, child_kind, stands_more, stands_same}
use Rattle.dump_index.proofs.index.ChangeIndex.standing.Goals as goal
use Rattle.dump_index.proofs.index.ChangeIndex.standing.Goals.{then-is_some+in_ok-push, else-is_some}

pub kind_at-requires : goal.kind_at-requires
kind_at-requires c =
    ap ends_in_slash (c.deref.ensures.value ∙ c.in_ok-child.ensures)
    ∙ bare_child c.args.path.now _ c.requires.bare
    (name_at c.args.names.now c.loop-name.name-index _ c.loop-name-test.true c.requires.names)

pub loop-name-preserved : goal.loop-name-preserved
loop-name-preserved c =
    let its = name_at c.args.names.now c.loop-name.name-index _ c.loop-name-test.true c.requires.names in
    let stands = sym (child_kind c.args.self.now c.args.count c.args.path.now _ c.deref.result.now c.in_ok-child.child.items
    c.in_ok-kind.kind its c.in_ok-child.ensures c.deref.ensures.value c.in_ok-kind.ensures) ∙ sym c.is_some.ensures in
    elim c.if-is_some.branch [
      | then-is_some+in_ok-push w ↦
          rw w.kept-is
          (stands_more (stands_in c.args.self.now c.args.count (names_of c.args.path.now)) c.args.names.now
          c.loop-name.kept.items c.loop-name.name-index _ c.loop-name-test.true c.loop-name.invariant
          w.push.new.self.items w.in_ok-push.ensures.items (stands ∙ w.if-is_some.true))
      | else-is_some w ↦
          rw w.kept-is
          (stands_same (stands_in c.args.self.now c.args.count (names_of c.args.path.now)) c.args.names.now
          c.loop-name.kept.items c.loop-name.name-index _ c.loop-name-test.true c.loop-name.invariant
          (stands ∙ w.if-is_some.false))
    ]
