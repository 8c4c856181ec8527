use Rattle.dump_text.proofs.Prelude.{[], arith, refl, sym, ap, ◌≡◌, ◌∙◌, inl, inr, nil_from_length, eqb-true, has_deletes}
use Rattle.dump_text.proofs.PropertyLemmas.{entries_some}
use Rattle.dump_text.proofs.WrittenLemmas.{spelled_is, none_spelled}
use Rattle.dump_text.proofs.props.Props.read_with_deletes.Goals as goal
use Rattle.dump_text.proofs.props.Props.read_with_deletes.Goals.{then-is_empty, else-is_empty+in_ok-scan}

pub invariant_of-result : goal.invariant_of-result
invariant_of-result c = elim c.if-is_empty.branch [
  | then-is_empty w ↦
      let none : c.args.block.now ≡ [] = nil_from_length c.args.block.now (eqb-true _ 0 (sym w.if-is_empty.ensures)) in
      record {
        reads = ∣ ([], inl (none, refl)) ∣₁;
        written = λ ps is. ap (λ s. s.spelled) w.scan-is ∙ none_spelled c.args.block.now none ps;
        deleting = λ ps is. elim is [
          | inl empty ↦ ap (λ s. s.deletes) w.scan-is ∙ sym (ap has_deletes empty.1)
          | inr all ↦ absurd (entries_some _ ps all none)
        ];
      }
  | else-is_empty+in_ok-scan w ↦
      let scan = w.in_ok-scan.ensures in
      record {
        reads = ∣ (scan.entries.0, inr scan.entries.1) ∣₁;
        written = λ ps is. ap (λ s. s.spelled) w.scan-is ∙ spelled_is c.args.block.now w.in_ok-scan.scan.spelled
            (omega arith) scan.spelled.0 scan.spelled.1 ps is;
        deleting = λ ps is. elim is [
          | inl empty ↦ absurd (entries_some _ scan.entries.0 scan.entries.1 empty.0)
          | inr all ↦ ap (λ s. s.deletes) w.scan-is ∙ scan.deletes ps all
        ];
      }
]
