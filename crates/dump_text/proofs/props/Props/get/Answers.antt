use Rattle.std.proofs.lemmas.Bool.{and_from}
use Rattle.dump_text.proofs.Prelude.{◌≡◌, ◌&&◌, false, [], sym, ap, ◌∙◌, inr, is_some, bytes_eq, property_value, entry_property}
use Rattle.dump_text.proofs.PropertyLemmas.{entry_parts, left_of, value_here, value_behind, value_between, rest_between, property_block_once, value_there, no_value_there}
use Rattle.dump_text.proofs.props.Props.get.Goals as goal
use Rattle.dump_text.proofs.props.Props.get.Goals.{else-not-entry-via-then-not-entry+else-eq, else-not-entry-via-else-not-entry}

pub returns-then-eq-clause-value : goal.returns-then-eq-clause-value
returns-then-eq-clause-value c = λ ps is.
    let p = entry_property c.in-Some.entry in
    let (qs, here, same) = c.loop-entry.invariant.2 ps is in
    let (text, cut, one) = c.in-Some.ensures.steps in
    let left = left_of _ p _ qs (entry_parts _ text _ p cut one) here in
    let set = value_there c.in-Some.entry c.if-not-entry.true in
    sym (same ∙ ap (property_value c.args.name.now) left.list
    ∙ value_here c.args.name.now p left.others (and_from _ _ (sym c.eq.ensures ∙ c.if-eq.true) (ap is_some set)) ∙ set)

pub returns-then-eq-clause-lent : goal.returns-then-eq-clause-lent
returns-then-eq-clause-lent c =
    let p = entry_property c.in-Some.entry in
    let (text, cut, one) = c.in-Some.ensures.steps in
    value_between _ _ _ _ p _ _ (entry_parts _ text _ p cut one) (value_there c.in-Some.entry c.if-not-entry.true)
    c.loop-entry.invariant.3

pub loop-entry-preserved : goal.loop-entry-preserved
loop-entry-preserved c =
    let p = entry_property c.in-Some.entry in
    let (text, cut, one) = c.in-Some.ensures.steps in
    let parts = entry_parts _ text _ p cut one in
    let other : (bytes_eq p.name c.args.name.now && is_some p.value) ≡ false = elim c.else-not-entry.branch [
      | else-not-entry-via-then-not-entry+else-eq w ↦ ap (λ b. b && is_some p.value) (sym w.eq.ensures ∙ w.if-eq.false)
      | else-not-entry-via-else-not-entry w ↦ no_value_there c.in-Some.entry c.args.name.now w.if-not-entry.false
    ] in (
      tt,
      tt,
      λ ps is.
          let (qs, here, same) = c.loop-entry.invariant.2 ps is in
          let left = left_of _ p _ qs parts here in (
            left.others,
            inr left.entries,
            same ∙ ap (property_value c.args.name.now) left.list ∙ value_behind c.args.name.now p left.others other,
          ),
      rest_between _ _ _ _ p _ parts c.loop-entry.invariant.3,
    )

pub returns-clause-value : goal.returns-clause-value
returns-clause-value c = λ ps is.
    let (qs, here, same) = c.loop-entry.invariant.2 ps is in
    sym (same ∙ ap (property_value c.args.name.now) (property_block_once _ qs [] here c.in_default.ensures.steps.0))
