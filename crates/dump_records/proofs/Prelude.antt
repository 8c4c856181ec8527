-- The names of std, of the definitions and of the lemmas below, for the proofs of this crate.
pub use Rattle.std.proofs.Common.{Bool, Bor, Err, List, None, Ok, Option, Result, Some, [], ap, append_assoc, ap₂, arith, codes, count_by, drop, false, get_or, if◌then◌else◌, inl, inr, is_none, is_some, length, length-append, lit<, nat_lt, not, option_and_then, refl, slice_range, subst, suc, sym, take, true, unwrap_or, zero, ℕ, ◌&&◌, ◌++◌, ◌+◌, ◌-◌, ◌<◌, ◌==◌, ◌^◌, ◌||◌, ◌∙◌, ◌∷◌, ◌≡◌, ◌≢◌, ◌≤◌, ◌⊎◌}
pub use Rattle.std.proofs.Math.Logic.{∥∥₁_elim, ∥∥₁_map}
pub use Rattle.std.proofs.Math.Bool.{and-false}
pub use Rattle.std.proofs.lemmas.Bool.{and_parts, eqb-false, eqb-true, false_from_ne_true, ne_eqb, true_from_ne_false}
pub use Rattle.std.proofs.lemmas.Bool.Decides.{Decides-eqb, eqb_tells, nat_tests}
pub use Rattle.std.proofs.lemmas.List.{append-nil, drop-drop, drop-take, drop_all, drop_at, drop_more, length-drop, length-replicate, length-take, length-take-le, nil_from_length, replicate-append-replicate, take-append-drop, take-take, take_all, take_rest}
pub use Rattle.std.proofs.lemmas.Option.{none-some}
pub use Rattle.std.proofs.lemmas.Slice.Eq.{slice_eq-Decides}
pub use Rattle.std.specs.Coded.{Coded, Coded-set, coded_list, coded_ℕ}
pub use Rattle.std.specs.List.{list_all, list_any, starts_with}
pub use Rattle.std.specs.Option.{IfSome, option_copied}
pub use Rattle.std.specs.Result.{IfErr, IsErrAnd}
pub use Rattle.dump_records.specs.DumpText.{BeginsWithRecords, Ending, HasEnding, HasRecords, HaveVersions, IsCutInto, line_feeds}
pub use Rattle.dump_records.specs.HeaderRules.{has_bad_kind, has_bad_lengths, has_bad_number, has_bad_version, header_length, header_number, is_one_alone, is_read_version, property_length, says_true, text_length, version_from}
pub use Rattle.dump_records.specs.RecordLaws.{EachDumpHasOneList, NoRecordBeginsAnother}
pub use Rattle.dump_records.specs.RecordText.{BeginsWithRecord, DumpRecord, HasBlockWith, HoldsOfText, IsCutFault, has_prop_delta, has_text_delta, is_delta, is_lawful, record_text}
pub use Rattle.dump_records.specs.steps.CutRecords.{EndsAfter, IsRecordOf}
pub use Rattle.dump_records.specs.steps.CutterState.{CutterState, IsCutUpTo, last_version}
pub use Rattle.dump_records.specs.steps.HeaderReading.{IsHeaderOf, dump_of, lines_of}
pub use Rattle.dump_records.specs.steps.KindReading.{IsKindOf, is_copied_node, is_revision, is_uuid, is_version, path_in, revision_in, version_in}
pub use Rattle.dump_records.specs.steps.Lawful.{IsUnlawful, LengthsOf, header_fault}
pub use Rattle.dump_records.specs.steps.RecordKinds.{kind_of}
pub use Rattle.dump_records.specs.steps.RecordPlaces.{place_after, record_between}
pub use Rattle.dump_records.specs.steps.RecordViews.{IsInBlock, part_of_node, record_dump, record_item}
pub use Rattle.dump_records.specs.steps.Standing.{FollowsRecords, IsGap, StandsAt}
pub use Rattle.dump_text.proofs.BlockLemmas.{block_size, has_value, no_block-lines}
pub use Rattle.dump_text.proofs.BoolLemmas.{absurd_bool, false_true, first_false, neither_below, second_false}
pub use Rattle.dump_text.proofs.PropertyChoice.{first_of}
pub use Rattle.dump_text.proofs.ScanLemmas.{clash, header_text-is, is_line, lines_behind, no_line_here}
pub use Rattle.dump_text.proofs.Splits.{Split, split}
pub use Rattle.dump_text.proofs.Splits.Split.{Cut, Lacks}
pub use Rattle.dump_text.proofs.Unique.{blank_once, block_front, block_once, block_some, header-eq, lawful, lawful_lines, lines_once, regroup, split_by_length, split_once}
pub use Rattle.dump_text.proofs.ValueLemmas.{if_copied, place_has, value_lent}
pub use Rattle.dump_text.specs.FaultTable.{IsLeastFault, fault_code}
pub use Rattle.dump_text.specs.HeaderBlock.{BeginsWithBlock, HasBlock, block_fault, block_text, has_empty_line, is_block, lines_bytes, starts_with_lf}
pub use Rattle.dump_text.specs.HeaderLine.{Header, has_byte, has_header, header_text, header_value, is_header}
pub use Rattle.dump_text.specs.Names.{content_length_name, copy_path_name, copy_revision_name, deciding_names, length_names, md5_name, path_name, revision_name, sha1_name, uuid_name, version_name}
pub use Rattle.dump_text.specs.Number.{number_of}
pub use Rattle.dump_text.specs.steps.ReadHeaders.{IsBlockBetween, IsPartBetween, headers_between}
pub use Rattle.dump_text.specs.steps.Scanning.{HasLines, IsCutAtColon, IsFirstLine, IsNoHeader}
pub use Rattle.dump_text.specs.steps.ValuePlaces.{is_there, value_at}
pub use Rattle.dump_text.specs.steps.Views.{block_after, block_dump, block_headers, block_place}
pub use Rattle.dump_records.specs.declared.kind.KindParts.{KindParts}
pub use Rattle.dump_records.specs.declared.kind.KindParts.TheVariants.{Copy, Node, Version}
pub use Rattle.dump_records.specs.declared.header.Lengths.{Lengths}
pub use Rattle.dump_records.specs.declared.header.RecordHeader.{RecordHeader}
pub use Rattle.dump_records.specs.declared.record.Record.{Record}
pub use Rattle.dump_text.specs.declared.block.Block.{Block}
pub use Rattle.dump_text.specs.declared.fault.FaultKind.{FaultKind}
pub use Rattle.dump_text.specs.declared.value_place.ValuePlace.{ValuePlace}
