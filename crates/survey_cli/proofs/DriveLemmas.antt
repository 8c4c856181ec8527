-- A survey whose last bytes are written.
use Rattle.survey_cli.proofs.Prelude.{◌≡◌, ℕ, Bool, List, [], ◌++◌, Option, None, Some, Result, Ok, Err, IfOk, IfErr, IfSome, OnErr, MatchBool, true, false, inl, inr, refl, sym, ap, subst, ◌∙◌, append_assoc, Appends, Keeps, GrowsBy, append_known, Appends-kept, Appends-trans, from_none, handed_on, part_taken, each_dump_has_one_list, Settings, kept_revisions, LentState, lent_taken, IsPrefixOf, IsSurveyText, BreaksOffSurvey, IsRevisionMap, map_lines, AreAdviceLines, TakesSomeAdvice, SurveyFailure, IsCallText, IsMapAskedFor, IsWholeText, SurveysDump, SurveysInput, TakesPart, BrokenOff, Call, Arrives, FrontBreaksOff, MapBreaksOff, SurveyBreaksOff, answer_status}
use Rattle.std.proofs.lemmas.List.{append-nil}

-- who took the first bytes of a first part took the first of the whole
longer : (a c : Option (List ℕ)) (sent text : List ℕ) → IsPrefixOf sent text → TakesPart a c sent → TakesPart a c text
longer a c sent text begins took = (
  took.0,
  (took.1.0 ++ begins.0, begins.1 ∙ ap (λ s. s ++ begins.0) took.1.1 ∙ append_assoc took.0 took.1.0 begins.0),
  took.2,
)

-- a part that was sent, of which the last bytes may wait for a writer that failed
broke_off : (a b c : Option (List ℕ)) (waiting sent text : List ℕ) (n : ℕ) → Appends (append_known a []) b sent
    → Keeps b (append_known c waiting) → GrowsBy a c n → IsPrefixOf sent text → TakesPart a c text
broke_off a b c waiting sent text n appended kept grown begins =
    longer a c sent text begins (part_taken a c waiting sent n grown
    (Appends-kept a b (append_known c waiting) sent (from_none a b sent appended) kept))

-- what is reported of a failure holds if there is one
pub at_err : {X E A : Type 0} (r : Result X E) → A → OnErr r A
at_err (Ok x) is = tt
at_err (Err e) is = is

-- a survey that broke off
pub survey_broke_off : (settings : Settings) (dump : List ℕ) (old new : Option (List ℕ))
    → BreaksOffSurvey settings dump old new → FrontBreaksOff settings dump old new
survey_broke_off settings dump old new off = (off.text, off.found, inl off.is, (off.part, off.begins, off.appended))

module _ (settings : Settings) (dump : List ℕ) (old mid new : Option (List ℕ)) (found : Bool)
    (survey : (text : List ℕ) × IsSurveyText settings dump text found × Appends old mid text) where
  -- a survey and the lines after it
  whole_with : (lines : List ℕ) → AreAdviceLines settings dump lines
      → IsWholeText settings dump (survey.0 ++ lines) found
  whole_with lines are = record {
    survey = survey.0;
    is_survey = survey.1;
    behind = lines;
    are_behind = are;
    text_is = refl;
  }

  pub whole_written : (lines : List ℕ) × AreAdviceLines settings dump lines × Appends mid new lines
      → (text : List ℕ) × IsWholeText settings dump text found × Appends old new text
  whole_written (lines, are, appends) =
      (survey.0 ++ lines, whole_with lines are, Appends-trans old mid new survey.0 lines survey.2 appends)

  -- a survey after which the lines broke off
  pub lines_broke_off : TakesSomeAdvice settings dump mid new → FrontBreaksOff settings dump old new
  lines_broke_off (inl none) = (
    survey.0,
    found,
    inl survey.1,
    (
      survey.0 ++ [],
      ([], sym (append-nil (survey.0 ++ []) ∙ append-nil survey.0)),
      Appends-trans old mid new survey.0 [] survey.2 none,
    ),
  )
  lines_broke_off (inr (lines, are, (part, (rest, front), appends))) = (
    survey.0 ++ lines,
    found,
    inr (whole_with lines are),
    (
      survey.0 ++ part,
      (rest, ap (λ l. survey.0 ++ l) front ∙ sym (append_assoc survey.0 part rest)),
      Appends-trans old mid new survey.0 part survey.2 appends,
    ),
  )

-- a dump has a map of its revisions
a_map : (settings : Settings) (dump : List ℕ) → (text : List ℕ) × IsRevisionMap settings dump text
a_map settings dump =
    let (records, ending, has, once) = each_dump_has_one_list dump in (
      map_lines settings (kept_revisions settings records),
      record { records = records; ending = ending; has = has; text_is = refl },
    )

-- and there is one text of it that is asked for
asked_map : (call : Call) (dump : List ℕ) → (text : List ℕ) × IsMapAskedFor call dump text
asked_map call dump = by call.map
  where
    by : (b : Bool) → (text : List ℕ) × MatchBool b (IsRevisionMap call.options dump text) (text ≡ [])
    by true = a_map call.options dump
    by false = ([], refl)

module _ (call : Call) (dump : List ℕ) where
  -- the text with the map after it
  with_map : (front revisions : List ℕ) (found : Bool) → IsWholeText call.options dump front found
      → IsMapAskedFor call dump revisions → IsCallText call dump (front ++ revisions) found
  with_map front revisions found is are = record {
    front = front;
    is_front = is;
    revisions = revisions;
    is_map = are;
    all_is = refl;
  }

  -- where the text before the map broke off
  pub front_broke_off : (old new : Option (List ℕ)) → FrontBreaksOff call.options dump old new
      → SurveyBreaksOff call dump old new
  front_broke_off old new (text, found, inl is, took) = (text, found, inl is, took)
  front_broke_off old new (text, found, inr is, took) =
      let more = asked_map call dump in (
        text ++ more.0,
        found,
        inr (with_map text more.0 found is more.1),
        longer old new text (text ++ more.0) (more.0, refl) took,
      )

  module _ (old mid new : Option (List ℕ)) (found : Bool)
      (front : (text : List ℕ) × IsWholeText call.options dump text found × Appends old mid text) where
    pub text_written : (text : List ℕ) × IsMapAskedFor call dump text × Appends mid new text
        → (text : List ℕ) × IsCallText call dump text found × Appends old new text
    text_written (revisions, are, appends) = (
      front.0 ++ revisions,
      with_map front.0 revisions found front.1 are,
      Appends-trans old mid new front.0 revisions front.2 appends,
    )

    -- where the map broke off
    pub map_broke_off : MapBreaksOff call dump mid new → SurveyBreaksOff call dump old new
    map_broke_off (inl none) = front_broke_off old new (
      front.0,
      found,
      inr front.1,
      (
        front.0 ++ [],
        ([], sym (append-nil (front.0 ++ []) ∙ append-nil front.0)),
        Appends-trans old mid new front.0 [] front.2 none,
      ),
    )
    map_broke_off (inr (revisions, are, (part, (rest, begins), appends))) = (
      front.0 ++ revisions,
      found,
      inr (with_map front.0 revisions found front.1 are),
      (
        front.0 ++ part,
        (rest, ap (λ l. front.0 ++ l) begins ∙ sym (append_assoc front.0 part rest)),
        Appends-trans old mid new front.0 part front.2 appends,
      ),
    )

-- a text that was written whole, or broke off
pub written_of : (call : Call) (dump : List ℕ) (old new : Option (List ℕ)) (answer : Result Bool SurveyFailure)
    → IfOk answer (λ found. (text : List ℕ) × IsCallText call dump text found × Appends old new text)
    → OnErr answer (SurveyBreaksOff call dump old new) → Arrives call dump old new answer
written_of call dump old new (Ok found) whole part = whole
written_of call dump old new (Err failure) whole part = part

-- a text with what is reported after it
pub arrives_behind : (call : Call) (dump : List ℕ) (answer : Result Bool SurveyFailure)
    (told : Result Bool BrokenOff) (a b : Option (List ℕ)) (sink : LentState)
    → Arrives call dump (append_known a []) b answer → Keeps b (lent_taken sink) → sink.out.start ≡ a
    → IfOk told (λ found. (answer ≡ Ok found) × (sink.waiting ≡ []))
    → IfErr told (λ broken. GrowsBy sink.out.start sink.out.taken broken.written)
    → Arrives call dump a sink.out.taken told
arrives_behind call dump answer (Ok found) a b sink written kept start all broken =
    let whole : (text : List ℕ) × IsCallText call dump text found × Appends (append_known a []) b text =
    subst (Arrives call dump (append_known a []) b) all.0 written in
    (whole.0, whole.1, handed_on a b sink whole.0 whole.2 kept all.1)
arrives_behind call dump answer (Err off) a b sink written kept start all broken = go answer written
  where
    grown : GrowsBy a sink.out.taken off.written
    grown = subst (λ s. GrowsBy s sink.out.taken off.written) start broken

    go : (r : Result Bool SurveyFailure) → Arrives call dump (append_known a []) b r
        → SurveyBreaksOff call dump a sink.out.taken
    go (Ok found) all = (
      all.0,
      found,
      inr all.1,
      broke_off a b sink.out.taken sink.waiting all.0 all.0 off.written all.2 kept grown ([], sym (append-nil all.0)),
    )
    go (Err failure) (text, found, is, (part, begins, appended)) =
        (text, found, is, broke_off a b sink.out.taken sink.waiting part text off.written appended kept grown begins)

-- the status says how the text arrived
surveys_so : (call : Call) (dump : List ℕ) (old new : Option (List ℕ)) (answer : Result Bool BrokenOff)
    → Arrives call dump old new answer → SurveysDump call dump old new (answer_status answer)
surveys_so call dump old new (Ok found) (text, is, all) = (text, found, inl (is, all, refl))
surveys_so call dump old new (Err off) (text, found, is, part) = (text, found, inr (is, part, refl))

-- so it is of the whole input
pub surveys_input : (call : Call) (input : Option (List ℕ)) (dump : List ℕ) (old new : Option (List ℕ))
    (answer : Result Bool BrokenOff) (status : ℕ) → IfSome input (λ left. dump ≡ left)
    → Arrives call dump old new answer → status ≡ answer_status answer → SurveysInput call input old new status
surveys_input call None dump old new answer status whole arrives is = inl tt
surveys_input call (Some left) dump old new answer status whole arrives is =
    inl (subst (λ text. SurveysDump call text old new status) whole
    (subst (λ n. SurveysDump call dump old new n) (sym is) (surveys_so call dump old new answer arrives)))
