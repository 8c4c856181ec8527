-- The words of std, of the definitions and of the lemmas below, for the proofs of this crate.
pub use Rattle.std.proofs.Common.{Bool, Bor, List, None, Option, Some, [], ap, arith, bytes_eq, codes, decimal, drop, false, filter, flat_map, get_or, if◌then◌else◌, inl, inr, is_none, is_some, length, length-append, lit<, map, nat_le, nat_lt, not, position, refl, replicate, rules, set, slice_index, slice_index_or, slice_range, slice_set, subst, suc, sym, take, true, zero, ℕ, ◌%◌, ◌&&◌, ◌*◌, ◌++◌, ◌+◌, ◌-◌, ◌/◌, ◌<◌, ◌==◌, ◌^◌, ◌||◌, ◌↔◌, ◌∙◌, ◌∷◌, ◌≡◌, ◌≢◌, ◌≤◌, ◌⊎◌}
pub use Rattle.std.proofs.Math.Bool.{and-false, or-false, or_assoc}
pub use Rattle.std.proofs.Math.ListN.{drop_of_length-le}
pub use Rattle.std.proofs.Math.Logic.{∥∥₁_elim, ∥∥₁_map}
pub use Rattle.std.proofs.Math.Nat.{pow-le-pow_right, pow-succ'}
pub use Rattle.std.proofs.lemmas.Bool.{and_parts, cases_Bool, eq-eqb, eqb-false, eqb-true, ne_eqb, not-true, or_from, or_right}
pub use Rattle.std.proofs.lemmas.Bool.Decides.{nat_tests, same_from_decides}
pub use Rattle.std.proofs.lemmas.Fmt.{decimal-digits_value, decimal_digit, decimal_is_IsNumeral, decimal_step, first_decimal, length-decimal-le}
pub use Rattle.std.proofs.lemmas.Grind.{flat_map-append}
pub use Rattle.std.proofs.lemmas.Int.Digits.{digits_value_more}
pub use Rattle.std.proofs.lemmas.List.{append-nil, drop-drop, drop-set, drop-take, drop_all, drop_at, drop_more, flat_map_more, get_or-drop, get_or-set_other, get_or-set_same, get_or-take, length-drop, length-set, length-take, length-take-le, nil_from_length, take-append-drop, take-take, take_all, take_at, take_rest}
pub use Rattle.std.proofs.lemmas.List.Elements.{All-cons, All-head, All-nil, All-tail}
pub use Rattle.std.proofs.lemmas.List.Folds.{list_all-append, list_all_more}
pub use Rattle.std.proofs.lemmas.List.Quantifiers.{position-Some}
pub use Rattle.std.proofs.lemmas.List.Splits.{slice_split_at}
pub use Rattle.std.proofs.lemmas.List.Sums.{fails_before_first, position_or_len_is, sum_by-append, sum_by-cons}
pub use Rattle.std.proofs.lemmas.Option.{none-some, same_Some}
pub use Rattle.std.proofs.lemmas.Slice.Eq.{bytes_eq-Decides}
pub use Rattle.std.proofs.lemmas.Str.Parse.{IsDigitsTest, IsNumeralModel, digit_from_value, digits_value_short, numerals_by_value}
pub use Rattle.std.specs.Char.{digit_value, is_ascii_digit}
pub use Rattle.std.specs.Coded.{Coded-set, coded_list, coded_ℕ}
pub use Rattle.std.specs.List.{All, before_first, find, list_all, list_any, position_or_len}
pub use Rattle.std.specs.Option.{IfSome, option_copied}
pub use Rattle.std.specs.Str.Parse.{AllDigits, digits_value}
pub use Rattle.dump_text.specs.FaultNames.{fault_name}
pub use Rattle.dump_text.specs.FaultTable.{IsLeastFault, NoFault, fault_code}
pub use Rattle.dump_text.specs.HeaderBlock.{BeginsWithBlock, HasBlock, block_fault, block_text, has_empty_line, is_block, lines_bytes, starts_with_lf}
pub use Rattle.dump_text.specs.HeaderLine.{Header, count_named, has_byte, has_header, header_text, header_value, is_header, is_named, with_header_value}
pub use Rattle.dump_text.specs.Names.{copy_names, deciding_names, known_names, length_names}
pub use Rattle.dump_text.specs.Number.{is_number, number_of, spelled_number}
pub use Rattle.dump_text.specs.PropertyList.{AreEntries, IsDeletion, IsEntry, IsPropertyBlock, IsSetting, Property, block_end, change_text, entry_text, has_deletes, property_block_text, sized_text}
pub use Rattle.dump_text.specs.steps.KnownValues.{AreValues, all_names, known_name, may_follow, name_place, name_text, names_of_length, noted_span}
pub use Rattle.dump_text.specs.steps.PropertyReading.{HasProperties, HasPropertyChanges, property_value}
pub use Rattle.dump_text.specs.steps.PropertyScan.{HasEntries, HasEntry, HasSized, IsEntryOf, IsLetter, IsSized, IsWritten, are_shortest, is_shortest, parts_property, parts_rest}
pub use Rattle.dump_text.specs.steps.PropertyViews.{HasEntriesLeft, entries_text, entry_property, props_bytes}
pub use Rattle.dump_text.specs.steps.ReadHeaders.{AreHeaderLines, IsBlockBetween, IsPartBetween, header_of, headers_between, headers_of}
pub use Rattle.dump_text.specs.steps.Scanning.{HasLines, IsBlockEnd, IsCutAtColon, IsFirstAt, IsFirstLine, IsLinesEnd, IsNoHeader, is_known}
pub use Rattle.dump_text.specs.steps.ValuePlaces.{IsSpanOf, is_there, no_span, value_at}
pub use Rattle.dump_text.specs.steps.Views.{block_after, block_dump, block_headers, block_place, line_header, lines_left, lines_text}
pub use Rattle.dump_text.specs.declared.fault.FaultKind.{FaultKind}
pub use Rattle.dump_text.specs.declared.names.HeaderName.{HeaderName}
pub use Rattle.dump_text.specs.declared.names.HeaderName.TheVariants.{FormatVersion}
pub use Rattle.dump_text.specs.declared.parts.Parts.{Parts}
pub use Rattle.dump_text.specs.declared.parts.Parts.TheVariants.{Deleted, Set}
pub use Rattle.dump_text.specs.declared.props.Entry.{Entry}
pub use Rattle.dump_text.specs.declared.value_place.ValuePlace.{ValuePlace}
pub use Rattle.dump_text.specs.declared.value_place.ValueSpan.{ValueSpan}
