-- The words of std, of the definitions and of the lemmas below, for the proofs of this crate.
pub use Rattle.std.proofs.Common.{Err, List, None, Ok, Option, Result, Some, [], ap, arith, codes, drop, false, inl, inr, length, map, refl, rules, subst, sym, true, ℕ, ◌∙◌, ◌∷◌, ◌≡◌}
pub use Rattle.std.proofs.KnownBytes.{Appends-kept}
pub use Rattle.std.specs.Borrow.{Bor}
pub use Rattle.std.specs.Io.KnownBytes.{GrowsBy, Keeps, append_known}
pub use Rattle.cli_support.proofs.OutputLemmas.{from_none, handed_on, part_taken}
pub use Rattle.dump_cli.specs.Drive.{BreaksOff, CarriesOut, Drives, Obeys, Ran, status_of}
pub use Rattle.dump_cli.specs.Words.{AnswersTo, meaning_of, shown}
pub use Rattle.dump_cli.specs.steps.DrainedRun.{FailsOnlyBehind, IsSilent, TellsBehind, is_sink_failure}
pub use Rattle.dump_filter.proofs.Values.{padding}
pub use Rattle.dump_filter.specs.Counts.{report_of}
pub use Rattle.dump_pipeline.proofs.Values.{empty_answer}
pub use Rattle.dump_pipeline.specs.RunAnswer.{RunLeaves}
pub use Rattle.dump_rules.specs.Settings.{Settings}
pub use Rattle.dump_writer.proofs.Values.{lent}
pub use Rattle.dump_writer.specs.steps.SinkStates.{LentState, lent_taken}
pub use Rattle.dump_cli.specs.declared.words.Order.{Order}
pub use Rattle.cli_support.specs.declared.filter_call.FilterCall.{FilterCall}
pub use Rattle.cli_support.specs.declared.usage.Usage.{Usage}
pub use Rattle.cli_support.specs.declared.usage.Usage.TheVariants.{BothDrops, Words}
pub use Rattle.dump_pipeline.specs.declared.answer.Answer.{Answer}
pub use Rattle.dump_pipeline.specs.declared.answer.Answer.TheVariants.{Clean, Failed, Fault}
