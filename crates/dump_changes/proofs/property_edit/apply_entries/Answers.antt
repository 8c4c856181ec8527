use Rattle.dump_changes.proofs.Prelude.{◌≡◌, ◌∙◌, [], ap, inr, map, refl, sym, entry_property, entry_parts, left_of, property_block_once}
use Rattle.dump_trees.specs.Changes.{edited_with}
use Rattle.dump_changes.specs.steps.ChangedProperties.{as_property}
use Rattle.dump_changes.proofs.property_edit.apply_entries.Goals as goal

pub loop-entry-init : goal.loop-entry-init
loop-entry-init c = (tt, tt, λ ps is. (ps, c.entries-entries.ensures.properties ps is, refl))

pub loop-entry-preserved : goal.loop-entry-preserved
loop-entry-preserved c =
    let p = entry_property c.in-Some.entry in
    let (text, cut, one) = c.in-Some.ensures.steps in (
      tt,
      tt,
      λ ps is.
          let (others, here, same) = c.loop-entry.invariant.2 ps is in
          let left = left_of _ p _ others (entry_parts _ text _ p cut one) here in (
            left.others,
            inr left.entries,
            ap (edited_with left.others) c.in_ok-apply_entry.ensures
                ∙ (ap (λ qs. edited_with qs (map as_property c.loop-entry.props.items)) (sym left.list) ∙ same),
          ),
    )

pub returns : goal.returns
returns c = λ ps is.
    let (others, here, same) = c.loop-entry.invariant.2 ps is in
    let none : others ≡ [] = property_block_once _ others [] here c.in_default.ensures.steps.0 in
    ap (λ qs. edited_with qs (map as_property c.loop-entry.props.items)) (sym none) ∙ same
