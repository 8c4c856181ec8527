use Rattle.survey_cli.proofs.Prelude.{◌≡◌, ◌+◌, ◌-◌, ◌++◌, ◌∙◌, List, Bor, ap, ap₂, drop, length, map, rules, take}
use Rattle.clap.specs.Words.{Text}
use Rattle.std.proofs.lemmas.List.{take_rest}
use Rattle.survey_cli.proofs.MapLemmas.{without_words}
use Rattle.survey_cli.proofs.words.without.Goals as goal

pub returns : goal.returns
returns c =
    let line : List (Bor Text) = c.args.line.now in
    let place = c.args.place in
    let front : c.extend_from_slice.new.self.items ≡ take place line = search rules in
    let rest : c.extend_from_slice-2.new.self.items
    ≡ c.extend_from_slice.new.self.items ++ take (length line - (place + 1)) (drop (place + 1) line) = search rules in
    ap (λ words. map (λ (word : Bor Text). word.now) words)
    (rest ∙ ap₂ (λ some others. some ++ others) front (take_rest line (place + 1))) ∙ without_words place line
