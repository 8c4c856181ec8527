use Rattle.dump_survey.proofs.Prelude.{[], ◌∷◌, refl, codes, shown_path}
use Rattle.dump_survey.specs.AdviceLines.{parent_line}
use Rattle.dump_survey.proofs.LineLemmas.{all_added}
use Rattle.dump_survey.proofs.report.survey_lines.push_parent_line.Goals as goal

pub returns : goal.returns
unfolding parent_line
returns c = all_added c.args.lines.now.items c.push.new.self.items
    (codes "create first: " ∷ shown_path c.args.path.now ∷ codes "\n" ∷ []) (
      c.extend_from_slice.new.self.items,
      c.in_ok-extend_from_slice.ensures.items,
      (
        c.push_path.new.line.items,
        c.in_ok-push_path.ensures,
        (c.push.new.self.items, c.in_ok-push.ensures.items, refl),
      ),
    )
