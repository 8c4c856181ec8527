use Rattle.dump_filter.proofs.Prelude.{sym, ◌∙◌, absurd_bool, record_item, record_number}
use Rattle.dump_filter.proofs.written.StayLemmas.{stands_as_written}
use Rattle.dump_filter.proofs.new_lines.block_stays.Goals as goal
use Rattle.dump_filter.proofs.new_lines.block_stays.Goals.{then-is_written, else-is_written, then-lengths_stay, else-lengths_stay}

pub returns-then-revision_stays : goal.returns-then-revision_stays
returns-then-revision_stays c = λ copied.
    elim c.if-lengths_stay.branch [
      | then-lengths_stay l ↦ elim c.if-is_written.branch [
        | then-is_written w ↦
            let r = c.args.item.now in
            stands_as_written (record_number r) _ (record_item r) _ c.args.changes.now r.stands
            (sym c.is_written.ensures ∙ w.if-is_written.true)
            (w.lengths_stay.ensures (sym w.value-is ∙ l.if-lengths_stay.true))
            (l.revision_stays.ensures (sym l.value-is ∙ c.if-revision_stays.true))
            (c.copy_stays.ensures copied)
        | else-is_written w ↦ absurd (absurd_bool c.if-is_written.value l.if-lengths_stay.true
            (w.value-is ∙ w.if-is_written.false))
      ]
      | else-lengths_stay l ↦ absurd (absurd_bool c.if-lengths_stay.value c.if-revision_stays.true
          (l.value-is ∙ l.if-lengths_stay.false))
    ]

pub returns-else-revision_stays : goal.returns-else-revision_stays
returns-else-revision_stays c = λ is. absurd (absurd_bool c.if-lengths_stay.value is c.if-revision_stays.false)
