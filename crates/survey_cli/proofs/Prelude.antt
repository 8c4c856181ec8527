-- The words of std, of the definitions and of the lemmas below, for the proofs of this crate.
pub use Rattle.std.proofs.Common.{Bool, Err, IfErr, IfOk, IfSome, List, MatchBool, None, Ok, OnErr, Option, Result, Some, [], ap, ap₂, append_assoc, arith, codes, drop, false, get_or, inl, inr, is_some, length, map, refl, rules, subst, suc, sym, take, true, ℕ, ◌+◌, ◌-◌, ◌<◌, ◌≤◌, ◌++◌, ◌||◌, ◌∙◌, ◌∷◌, ◌≡◌}
pub use Rattle.std.proofs.KnownBytes.{Appends-kept, Appends-trans}
pub use Rattle.std.proofs.lemmas.Bool.{or_parts}
pub use Rattle.std.proofs.lemmas.List.{drop-map, map-append, take-map}
pub use Rattle.std.specs.Borrow.{Bor}
pub use Rattle.std.specs.List.{list_any}
pub use Rattle.std.specs.Option.{option_map}
pub use Rattle.std.specs.Str.{bytes_eq}
pub use Rattle.std.specs.Io.KnownBytes.{Appends, GrowsBy, Keeps, append_known}
pub use Rattle.dump_filter.specs.Groups.{kept_revisions}
pub use Rattle.dump_records.proofs.ListLaw.{each_dump_has_one_list}
pub use Rattle.dump_rules.specs.Settings.{Settings}
pub use Rattle.dump_survey.specs.AdviceLines.{AreAdviceLines, TakesSomeAdvice}
pub use Rattle.dump_survey.specs.RevisionMap.{IsRevisionMap, map_lines}
pub use Rattle.dump_survey.specs.SurveyText.{BreaksOffSurvey, IsSurveyText}
pub use Rattle.dump_writer.specs.SinkWords.{IsPrefixOf, TakesPart}
pub use Rattle.dump_writer.specs.steps.SinkStates.{LentState, lent_taken}
pub use Rattle.cli_support.proofs.OutputLemmas.{from_none, handed_on, part_taken}
pub use Rattle.cli_support.specs.FilterCalls.{filter_call_of}
pub use Rattle.cli_support.specs.FilterCommand.{filter_command}
pub use Rattle.cli_support.specs.steps.LineReading.{is_line_of, is_line_taken_by}
pub use Rattle.survey_cli.specs.CallLaws.{ReadsAsFilter, ReadsMapAnywhere}
pub use Rattle.survey_cli.specs.Drive.{IsCallText, IsMapAskedFor, IsWholeText, SurveysDump, SurveysInput}
pub use Rattle.survey_cli.specs.Words.{TellsCall, call_of_line, call_of_words, filter_line, place_of_map, survey_of, without}
pub use Rattle.survey_cli.specs.steps.LawfulLines.{is_survey_call, is_taken_call}
pub use Rattle.survey_cli.specs.steps.Answered.{Arrives, FrontBreaksOff, MapBreaksOff, SurveyBreaksOff, answer_status}
pub use Rattle.dump_rules.specs.declared.options.Empty.TheVariants.{DropAll, Pad}
pub use Rattle.dump_rules.specs.declared.options.Side.TheVariants.{Include}
pub use Rattle.dump_survey.specs.declared.report.survey_text.SurveyFailure.{SurveyFailure}
pub use Rattle.survey_cli.specs.declared.drive.BrokenOff.{BrokenOff}
pub use Rattle.survey_cli.specs.declared.words.Call.{Call}
pub use Rattle.cli_support.specs.declared.usage.Usage.TheVariants.{BothDrops, Words}
