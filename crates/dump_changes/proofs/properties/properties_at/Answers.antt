use Rattle.std.proofs.Common.{List, [], ◌∷◌, ◌++◌, ℕ, ◌∙◌, get_or, map, subst, sym, take}
use Rattle.std.proofs.lemmas.List.{take_all, take_more}
use Rattle.dump_changes.specs.steps.ChangedProperties.{as_property}
use Rattle.dump_index.specs.steps.Listed.{listed_of}
use Rattle.dump_changes.proofs.PropertyLemmas.{AreSetAt, of_node, of_trail, set_by_change, set_by_none}
use Rattle.dump_changes.proofs.properties.properties_at.Goals as goal
use Rattle.dump_changes.proofs.properties.properties_at.Goals.{in-Some+in_ok-apply_change, in_default}

pub loop-place-preserved : goal.loop-place-preserved
loop-place-preserved c =
    let blocks = c.args.table.now in
    let listed = c.args.index.now in
    let items = c.deref-place-items.result.now in
    let place = get_or items c.loop-place.place-index 0 in
    let places = take c.loop-place.place-index items in
    let old = map as_property c.loop-place.props.items in
    subst (λ (ps : List ℕ). AreSetAt blocks listed ps (map as_property c.match-get.props.items))
    (sym (take_more items c.loop-place.place-index 0 c.loop-place-test.true))
    (elim c.match-get.branch [
      | in-Some+in_ok-apply_change w ↦ subst (λ props. AreSetAt blocks listed (places ++ place ∷ []) (map as_property props.items))
          (sym w.props-is)
          (set_by_change blocks listed places old c.loop-place.invariant place (listed_of w.in-Some.change.now)
          (map as_property w.apply_change.new.props.items) w.in-Some.ensures w.in_ok-apply_change.ensures)
      | in_default w ↦ subst (λ props. AreSetAt blocks listed (places ++ place ∷ []) (map as_property props.items))
          (sym w.props-is)
          (set_by_none blocks listed places old c.loop-place.invariant place w.in_default.ensures)
    ])

pub returns-clause-trail : goal.returns-clause-trail
returns-clause-trail c =
    of_trail c.args.table.now c.args.index.now c.args.path.now c.args.count c.in_ok-places.places.items
    (map as_property c.loop-place.props.items) c.in_ok-places.ensures
    (subst (λ (ps : List ℕ). AreSetAt c.args.table.now c.args.index.now ps (map as_property c.loop-place.props.items))
    (take_all c.loop-place.place-index c.deref-place-items.result.now c.loop-place-test.false
    ∙ c.deref-place-items.ensures.value)
    c.loop-place.invariant)

pub returns-clause-node : goal.returns-clause-node
returns-clause-node c =
    of_node c.args.table.now c.args.index.now c.args.path.now c.args.count (map as_property c.loop-place.props.items)
    (returns-clause-trail c)
