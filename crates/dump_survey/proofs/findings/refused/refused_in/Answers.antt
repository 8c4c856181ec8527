use Rattle.dump_survey.proofs.Prelude.{◌≡◌, List, [], subst, inr, refl, Property, entry_property, entry_parts, left_of, property_block_once, node_faults}
use Rattle.dump_survey.proofs.RefusedLemmas.{IsRefusedUpTo, refused_next, refused_at_last}
use Rattle.dump_survey.proofs.findings.refused.refused_in.Goals as goal

pub loop-entry-init : goal.loop-entry-init
loop-entry-init c = (tt, tt, λ ps is. (ps, c.entries-entries.ensures.properties ps is, refl))

pub loop-entry-preserved : goal.loop-entry-preserved
loop-entry-preserved c =
    let p = entry_property c.in-Some.entry in
    let (text, cut, one) = c.in-Some.ensures.steps in (
      tt,
      tt,
      λ ps is.
          let (qs, here, up) = c.loop-entry.invariant.2 ps is in
          let left = left_of _ p _ qs (entry_parts _ text _ p cut one) here in (
            left.others,
            inr left.entries,
            refused_next c.args.options.now c.args.copy c.args.numbers.now.first c.args.numbers.now.present ps qs
                left.others p c.loop-entry.unread c.loop-entry.missing c.loop-entry.outside
                (node_faults c.entry_refused-refused.result) left.list c.entry_refused-refused.ensures up,
          ),
    )

pub returns : goal.returns
returns c = λ ps is.
    let (qs, here, up) = c.loop-entry.invariant.2 ps is in
    let none : qs ≡ [] = property_block_once _ qs [] here c.in_default.ensures.steps.0 in
    refused_at_last c.args.options.now c.args.copy c.args.numbers.now.first c.args.numbers.now.present ps
    c.loop-entry.unread c.loop-entry.missing c.loop-entry.outside
    (subst (λ (l : List Property). IsRefusedUpTo c.args.options.now c.args.copy c.args.numbers.now.first
    c.args.numbers.now.present ps l c.loop-entry.unread c.loop-entry.missing c.loop-entry.outside) none up)
