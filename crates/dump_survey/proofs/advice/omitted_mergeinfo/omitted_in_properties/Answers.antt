use Rattle.dump_survey.proofs.Prelude.{◌≡◌, ◌+◌, ◌∙◌, List, [], length, ap, arith, inr, sym, length-append, zero-add, add-zero, Property, entry_property, entries_text, entry_parts, left_of, property_block_once, properties_count}
use Rattle.dump_survey.proofs.OmittedLemmas.{entry_fits, count_next}
use Rattle.dump_survey.proofs.advice.omitted_mergeinfo.omitted_in_properties.Goals as goal

pub loop-entry-init : goal.loop-entry-init
loop-entry-init c = (
  tt,
  tt,
  let size = ap length c.entries-entries.ensures.lent in omega arith,
  λ ps is. (ps, c.entries-entries.ensures.properties ps is, sym (zero-add (properties_count c.args.options.now ps))),
)

pub overflow_add-count : goal.overflow_add-count
overflow_add-count c =
    let (text, cut, one) = c.in-Some.ensures.steps in
    let fits = entry_fits c.args.options.now text (entry_property c.in-Some.entry) one in
    let size = ap length cut ∙ length-append text (entries_text c.next.new.self) in
    let block = ap length c.bytes-size.ensures in
    let so_far = c.loop-entry.invariant.2 in
    omega arith

pub loop-entry-preserved : goal.loop-entry-preserved
loop-entry-preserved c =
    let p = entry_property c.in-Some.entry in
    let (text, cut, one) = c.in-Some.ensures.steps in
    let fits = entry_fits c.args.options.now text p one in
    let size = ap length cut ∙ length-append text (entries_text c.next.new.self) in
    let so_far = c.loop-entry.invariant.2 in
    let here = c.omitted_in_entry-count.ensures in (
      tt,
      tt,
      omega arith,
      λ ps is.
          let (qs, here, up) = c.loop-entry.invariant.3 ps is in
          let left = left_of _ p _ qs (entry_parts _ text _ p cut one) here in (
            left.others,
            inr left.entries,
            count_next c.args.options.now ps qs left.others p c.loop-entry.count c.omitted_in_entry-count.result left.list
                c.omitted_in_entry-count.ensures up,
          ),
    )

pub returns : goal.returns
returns c = λ ps is.
    let (qs, here, up) = c.loop-entry.invariant.3 ps is in
    let none : qs ≡ [] = property_block_once _ qs [] here c.in_default.ensures.steps.0 in
    sym (up ∙ ap (λ (l : List Property). c.loop-entry.count + properties_count c.args.options.now l) none
    ∙ add-zero c.loop-entry.count)
