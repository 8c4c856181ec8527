use Rattle.dump_nodes.proofs.Prelude.{◌≡◌, [], sym, ap, ◌∙◌, inr, entry_property, entry_parts, left_of, property_block_once}
use Rattle.dump_nodes.proofs.PlainLemmas.{are_plain, plain_stops, plain_goes}
use Rattle.dump_nodes.proofs.loaded_texts.are_names_plain.Goals as goal

pub returns-then-has_zero : goal.returns-then-has_zero
returns-then-has_zero c = λ ps is.
    let p = entry_property c.in-Some.entry in
    let (qs, here, same) = c.loop-entry.invariant.2 ps is in
    let (text, cut, one) = c.in-Some.ensures.steps in
    let left = left_of _ p _ qs (entry_parts _ text _ p cut one) here in
    sym (same ∙ plain_stops qs left.others p left.list (sym c.has_zero.ensures ∙ c.if-has_zero.true))

pub loop-entry-preserved : goal.loop-entry-preserved
loop-entry-preserved c =
    let p = entry_property c.in-Some.entry in
    let (text, cut, one) = c.in-Some.ensures.steps in (
      tt,
      tt,
      λ ps is.
          let (qs, here, same) = c.loop-entry.invariant.2 ps is in
          let left = left_of _ p _ qs (entry_parts _ text _ p cut one) here in (
            left.others,
            inr left.entries,
            same ∙ plain_goes qs left.others p left.list (sym c.has_zero.ensures ∙ c.if-has_zero.false),
          ),
    )

pub returns : goal.returns
returns c = λ ps is.
    let (qs, here, same) = c.loop-entry.invariant.2 ps is in
    let none : qs ≡ [] = property_block_once _ qs [] here c.in_default.ensures.steps.0 in
    sym (same ∙ ap are_plain none)
