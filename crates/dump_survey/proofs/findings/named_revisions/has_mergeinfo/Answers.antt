use Rattle.dump_survey.proofs.Prelude.{◌≡◌, [], sym, ap, ◌∙◌, inr, list_any, entry_property, entry_parts, left_of, property_block_once, is_mergeinfo}
use Rattle.dump_survey.proofs.MergeinfoLemmas.{merge_stops, merge_goes}
use Rattle.dump_survey.proofs.findings.named_revisions.has_mergeinfo.Goals as goal

pub returns-then-is_mergeinfo : goal.returns-then-is_mergeinfo
returns-then-is_mergeinfo c = λ ps is.
    let p = entry_property c.in-Some.entry in
    let (qs, here, same) = c.loop-entry.invariant.2 ps is in
    let (text, cut, one) = c.in-Some.ensures.steps in
    let left = left_of _ p _ qs (entry_parts _ text _ p cut one) here in
    sym (same ∙ merge_stops qs left.others p left.list (sym c.is_mergeinfo.ensures ∙ c.if-is_mergeinfo.true))

pub loop-entry-preserved : goal.loop-entry-preserved
loop-entry-preserved c =
    let p = entry_property c.in-Some.entry in
    let (text, cut, one) = c.in-Some.ensures.steps in (
      tt,
      tt,
      λ ps is.
          let (qs, here, same) = c.loop-entry.invariant.2 ps is in
          let left = left_of _ p _ qs (entry_parts _ text _ p cut one) here in (
            left.others,
            inr left.entries,
            same ∙ merge_goes qs left.others p left.list (sym c.is_mergeinfo.ensures ∙ c.if-is_mergeinfo.false),
          ),
    )

pub returns : goal.returns
returns c = λ ps is.
    let (qs, here, same) = c.loop-entry.invariant.2 ps is in
    let none : qs ≡ [] = property_block_once _ qs [] here c.in_default.ensures.steps.0 in
    sym (same ∙ ap (list_any is_mergeinfo) none)
