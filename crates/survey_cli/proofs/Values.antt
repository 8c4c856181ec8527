-- Worked values of the definitions, computed and proved by the kernel.
use Rattle.survey_cli.proofs.Prelude.{◌≡◌, refl, true, false, List, [], ◌∷◌, None, Some, Ok, Err, inl, inr, codes, Include, DropAll, TellsCall, place_of_map, without, call_of_words, Words, BothDrops}
use Rattle.std.proofs.Common.{arith}
use Rattle.cli_support.specs.declared.info.Info.TheVariants.{Version}
use Rattle.survey_cli.specs.Drive.{AnswersWords, IsMapAskedFor, SurveysDump, SurveysOrRefuses, finding_status}
use Rattle.survey_cli.specs.declared.words.Call.{Call}
use Rattle.survey_cli.specs.declared.texts.TheConstants.{VERSION}
use Rattle.survey_cli.specs.steps.LawfulLines.{is_survey_call}
use Rattle.clap.specs.Words.{Text}
use Rattle.clap.proofs.OnLiterals.{clap_on_literals}
use Rattle.dump_rules.specs.PlainSettings.{plain_settings}

-- Words

abbrev flagged : List Text → List Text
flagged words = codes "p" ∷ codes "include" ∷ words

-- a flag after a prefix is read, and one after the two minus signs is a prefix
around : call_of_words (flagged (codes "a" ∷ codes "--drop-all-empty-revs" ∷ codes "--" ∷ codes "--x" ∷ []))
    ≡ Ok (record {
      options = record (plain_settings Include (codes "a" ∷ codes "--x" ∷ [])) { empty = DropAll };
      map = false;
    })
unfolding clap_on_literals
around = refl

asks_for_the_map : call_of_words (flagged (codes "--map" ∷ codes "a" ∷ []))
    ≡ Ok (record {
      options = plain_settings Include (codes "a" ∷ []);
      map = true;
    })
unfolding clap_on_literals
asks_for_the_map = refl

-- after the two minus signs --map is a prefix
no_option : place_of_map (codes "a" ∷ codes "--" ∷ codes "--map" ∷ []) ≡ None
no_option = refl

first_of_two : without (place_of_map (codes "a" ∷ codes "--map" ∷ codes "--map" ∷ []))
    (codes "a" ∷ codes "--map" ∷ codes "--map" ∷ []) ≡ codes "a" ∷ codes "--map" ∷ []
first_of_two = refl

asked_for_twice : call_of_words (flagged (codes "--map" ∷ codes "a" ∷ codes "--map" ∷ [])) ≡ Err Words
unfolding clap_on_literals
asked_for_twice = refl

nothing : call_of_words (codes "p" ∷ []) ≡ Err Words
nothing = refl

no_prefix : call_of_words (flagged []) ≡ Err Words
unfolding clap_on_literals
no_prefix = refl

flag_before : call_of_words (codes "p" ∷ codes "--renumber-revs" ∷ codes "include" ∷ codes "a" ∷ []) ≡ Err Words
flag_before = refl

lawful : is_survey_call (flagged (codes "a" ∷ [])) ≡ true
unfolding clap_on_literals
lawful = refl

both_drops : call_of_words (flagged (codes "--drop-empty-revs" ∷ codes "--drop-all-empty-revs" ∷ codes "a" ∷ []))
    ≡ Err BothDrops
unfolding clap_on_literals
both_drops = refl

refused_for_its_words : TellsCall (Err Words) (Err Words)
refused_for_its_words = refl

refused_for_others : ¬ TellsCall (Err BothDrops) (Err Words)
refused_for_others e = cc

-- Texts

version : VERSION.now ≡ codes "svndumpsurvey, version 1.3.0-dev\n"
version = refl

version_is_printed : AnswersWords (Some Version) (Err Words) None (Some []) (Some VERSION.now) 0
version_is_printed = inl (refl, refl)

-- Drive

abbrev call : Call
call = record {
  options = plain_settings Include (codes "a" ∷ []);
  map = false;
}

nothing_found : finding_status false ≡ 0
nothing_found = refl

something_found : finding_status true ≡ 1
something_found = refl

-- what the writer held before is not lost, whatever the status is
bytes_are_lost : ¬ SurveysDump call (codes "dump") (Some (codes "a")) (Some []) 0
bytes_are_lost (text, found, inl (is, appended, status)) = cc
bytes_are_lost (text, found, inr (is, (part, begins, appended), status)) = cc

other_status : ¬ SurveysDump call (codes "dump") (Some []) (Some []) 2
other_status (text, false, inl (is, appended, status)) = omega (arith, status)
other_status (text, true, inl (is, appended, status)) = omega (arith, status)
other_status (text, found, inr (is, takes, status)) = omega (arith, status)

-- without a map there is nothing after the other lines
no_map : ¬ IsMapAskedFor call (codes "dump") (codes "r1 becomes r1\n")
no_map is = cc

-- rejected arguments write nothing, with the status 2
rejected : SurveysOrRefuses (Err Words) None (Some []) (Some []) 2
rejected = (refl, refl)

rejected_with_another_status : ¬ SurveysOrRefuses (Err Words) None (Some []) (Some []) 0
rejected_with_another_status (kept, status) = omega (arith, status)

rejected_and_written : ¬ SurveysOrRefuses (Err Words) None (Some []) (Some (codes "x")) 2
rejected_and_written (kept, status) = cc

-- both ways to drop revisions are rejected only if both are asked for
not_both_drops : ¬ TellsCall (Ok call) (Err BothDrops)
not_both_drops e = cc
