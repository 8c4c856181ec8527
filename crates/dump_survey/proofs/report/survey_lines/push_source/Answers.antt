use Rattle.dump_survey.proofs.Prelude.{[], ◌∷◌, refl, codes, decimal, shown_path, reported_view}
use Rattle.dump_survey.specs.Lines.{source_text}
use Rattle.dump_survey.proofs.LineLemmas.{all_added, map_ok}
use Rattle.dump_survey.proofs.report.survey_lines.push_source.Goals as goal

pub returns : goal.returns
unfolding source_text
returns c =
    let t = reported_view c.args.reported.now in
    map_ok c.push_number.result (λ is. all_added c.args.line.now.items c.push_number.new.line.items
    (codes ", copied from " ∷ shown_path t.copy_path ∷ codes "@" ∷ decimal t.copy_revision ∷ []) (
      c.extend_from_slice.new.self.items,
      c.in_ok-extend_from_slice.ensures.items,
      (
        c.push_path.new.line.items,
        c.in_ok-push_path.ensures,
        (
          c.push.new.self.items,
          c.in_ok-push.ensures.items,
          (c.push_number.new.line.items, is, refl),
        ),
      ),
    )) c.push_number.ensures
