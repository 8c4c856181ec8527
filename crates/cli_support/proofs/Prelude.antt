-- The names of std, of the definitions and of the lemmas below, for the proofs of this crate.
pub use Rattle.std.specs.Prelude.{find, slice_get, ⊤}
pub use Rattle.std.proofs.Common.{Bool, Err, List, None, Ok, Option, Result, Some, [], ap, append_assoc, arith, codes, false, filter, inl, inr, is_some, length, lit<, lit≤, map, not, refl, subst, suc, sym, true, zero, ℕ, ◌&&◌, ◌++◌, ◌<◌, ◌∙◌, ◌∷◌, ◌≡◌, ◌≤◌, ◌⊎◌}
pub use Rattle.std.proofs.KnownBytes.{Appends-kept}
pub use Rattle.std.proofs.lemmas.Bool.{cases_lt, eqb-true, ne_eqb, not-true}
pub use Rattle.std.proofs.lemmas.List.{append_cancel_left, length-map, nil_from_length}
pub use Rattle.std.proofs.lemmas.Result.{IfOk-weaker}
pub use Rattle.std.proofs.lemmas.Slice.Eq.{bytes_eq-Decides}
pub use Rattle.std.specs.Borrow.{Bor}
pub use Rattle.std.specs.Io.KnownBytes.{Appends, GrowsBy, Keeps, append_known}
pub use Rattle.std.specs.List.{All, list_any, slice_index_or}
pub use Rattle.std.specs.Option.{option_and_then, option_map, option_map_or, unwrap_or}
pub use Rattle.std.specs.Str.{bytes_eq}
pub use Rattle.std.specs.Str.Parse.{ExplainsUnsignedError, HasUnsignedDigitsIfOk, ParsesBool, ParsesUnsigned, digits_value, without_leading_plus}
pub use Rattle.cli_support.specs.Arguments.{Answers, empty_in, empty_of, flag_number, is_set, meaning_by, meaning_in, named_side, refusal_status, settings_of, settings_with, side_in}
pub use Rattle.cli_support.specs.FilterCalls.{call_of_side, call_with, filter_call_of}
pub use Rattle.cli_support.specs.FilterCommand.{filter_command, number, prefixes, switch}
pub use Rattle.cli_support.specs.steps.FilledFlags.{AreFilled, IsNumber}
pub use Rattle.cli_support.specs.steps.LineReading.{ReadsLine, is_call_of}
pub use Rattle.dump_text.proofs.BoolLemmas.{first_true}
pub use Rattle.dump_writer.specs.SinkWords.{IsPrefixOf}
pub use Rattle.dump_writer.specs.steps.SinkStates.{LentState, lent_taken}
pub use Rattle.cli_support.specs.declared.filter_call.FilterCall.{FilterCall}
pub use Rattle.cli_support.specs.declared.usage.Usage.{Usage}
pub use Rattle.cli_support.specs.declared.usage.Usage.TheVariants.{BothDrops, Memory, Words}
pub use Rattle.dump_rules.specs.declared.options.Empty.{Empty}
pub use Rattle.dump_rules.specs.declared.options.Empty.TheVariants.{DropAll, DropEmptied, Pad}
pub use Rattle.dump_rules.specs.declared.options.Side.{Side}
pub use Rattle.dump_rules.specs.declared.options.Side.TheVariants.{Exclude, Include}
