use Rattle.std.proofs.Common.{◌≡◌, List, inl, map, rules, subst, ℕ}
use Rattle.cli_support.specs.Targets.{AreTextsOf}
use Rattle.cut_cli.specs.steps.Drive.{AnswersWhole}
use Rattle.cut_cli.specs.Words.{with_texts_of}
use Rattle.cut_cli.specs.steps.Words.{cut_meaning}
use Rattle.cut_cli.proofs.drive.answer_files.Goals as goal

pub returns-in-Ok-with_targets : goal.returns-in-Ok-with_targets
returns-in-Ok-with_targets g c =
    let call = c.args.call in
    let texts : List (List ℕ) = map (λ text. text.items) c.in-Ok.texts.items in
    let are : AreTextsOf (g.F.NamedFiles.text_of c.args.files.now) (cut_meaning call).targets texts = search rules in
    let same : cut_meaning c.in-Ok-with_targets.whole ≡ with_texts_of (cut_meaning call) texts = search rules in
    inl (
      texts,
      are,
      subst (λ m. AnswersWhole m (g.R.Read.remaining c.args.reader.now) (g.W.Write.contents c.args.writer.now)
          (g.W.Write.contents c.answer_whole.new.writer) (g.M.Write.contents c.args.map_file.now)
          (g.M.Write.contents c.answer_whole.new.map_file) c.answer_whole.result)
          same c.answer_whole.ensures,
    )
