use Rattle.survey_cli.proofs.Prelude.{◌≡◌, ◌∙◌, Bor, List, None, Some, TellsCall, ap, drop, false, map, refl, subst, sym, true}
use Rattle.clap.specs.Words.{Text}
use Rattle.survey_cli.proofs.MapLemmas.{IsReadAs, is_read_as}
use Rattle.survey_cli.proofs.words.call_of.Goals as goal
use Rattle.survey_cli.proofs.words.call_of.Goals.{After-read_call, After-read_call-in-Ok}

abbrev texts : List (Bor Text) → List Text
texts words = map (λ word. word.now) words

no_map : (c : After-read_call) → IsReadAs (texts c.args.words.now) false (texts c.in-Some.line.now)
no_map c =
    is_read_as (texts c.args.words.now) (texts c.in-Some.line.now) _ None
    (ap (λ (words : List (Bor Text)). drop 1 (texts words)) c.in-Some.ensures.cases.0)
    (sym c.in_default-place_of_map.is ∙ c.place_of_map.ensures.place) refl

some_map : (c : After-read_call-in-Ok) → IsReadAs (texts c.args.words.now) true (texts c.as_slice.result.now)
some_map c =
    is_read_as (texts c.args.words.now) (texts c.in-Some.line.now) _ (Some c.in-Some-place_of_map.place)
    (ap (λ (words : List (Bor Text)). drop 1 (texts words)) c.in-Some.ensures.cases.0)
    (sym c.in-Some-place_of_map.is ∙ c.place_of_map.ensures.place)
    (ap texts c.as_slice.ensures.value ∙ c.in-Ok.ensures)

pub returns-in_default-place_of_map-clause-meaning : goal.returns-in_default-place_of_map-clause-meaning
returns-in_default-place_of_map-clause-meaning c =
    let read = no_map (goal.at.returns-in_default-place_of_map-clause-meaning c).After-read_call in
    subst (λ call. TellsCall call c.read_call.result) (sym read.call) c.read_call.ensures.meaning

pub returns-in_default-place_of_map-clause-lawful : goal.returns-in_default-place_of_map-clause-lawful
returns-in_default-place_of_map-clause-lawful c lawful =
    let read = no_map (goal.at.returns-in_default-place_of_map-clause-lawful c).After-read_call in
    c.read_call.ensures.lawful (sym read.accepted ∙ lawful)

pub returns-in_default-place_of_map-clause-takes : goal.returns-in_default-place_of_map-clause-takes
returns-in_default-place_of_map-clause-takes c taken =
    let read = no_map (goal.at.returns-in_default-place_of_map-clause-takes c).After-read_call in
    c.read_call.ensures.takes (sym read.taken ∙ taken)

pub returns-in-Ok-clause-meaning : goal.returns-in-Ok-clause-meaning
returns-in-Ok-clause-meaning c =
    let read = some_map (goal.at.returns-in-Ok-clause-meaning c).After-read_call-in-Ok in
    subst (λ call. TellsCall call c.read_call-in-Ok.result) (sym read.call) c.read_call-in-Ok.ensures.meaning

pub returns-in-Ok-clause-lawful : goal.returns-in-Ok-clause-lawful
returns-in-Ok-clause-lawful c lawful =
    let read = some_map (goal.at.returns-in-Ok-clause-lawful c).After-read_call-in-Ok in
    c.read_call-in-Ok.ensures.lawful (sym read.accepted ∙ lawful)

pub returns-in-Ok-clause-takes : goal.returns-in-Ok-clause-takes
returns-in-Ok-clause-takes c taken =
    let read = some_map (goal.at.returns-in-Ok-clause-takes c).After-read_call-in-Ok in
    c.read_call-in-Ok.ensures.takes (sym read.taken ∙ taken)
