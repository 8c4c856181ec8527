-- The words of std, of the definitions and of the lemmas below, for the proofs of this crate.
pub use Rattle.std.proofs.Common.{All, Bool, Contains, Err, IsFalse, IsTrue, List, MatchBool, MatchOption, None, Ok, Option, Result, Some, [], ap, append_assoc, ap₂, arith, bytes_eq, codes, cond, count_by, false, filter, find, flat_map, if◌then◌else◌, inl, inr, is_none, is_some, length, length-append, lit<, lit≤, map, nat_eq, nat_le, nat_lt, not, option_and_then, option_map, refl, rules, subst, suc, sym, take, take_while, true, unwrap_or, zero, ℕ, ◌&&◌, ◌++◌, ◌+◌, ◌<◌, ◌==◌, ◌^◌, ◌||◌, ◌↔◌, ◌∙◌, ◌∷◌, ◌≡◌, ◌≤◌, ◌⊎◌}
pub use Rattle.std.proofs.Math.Bool.{and-false, and-true, or-false}
pub use Rattle.std.proofs.Math.Logic.{∥∥₁_elim}
pub use Rattle.std.proofs.Math.Path.{transport}
pub use Rattle.std.proofs.lemmas.Bool.{and_from, eqb-true, false_from_ne_true, lt-ltb, not-false, not-true, not_from_false, or_left, or_right}
pub use Rattle.std.proofs.lemmas.Bool.Decides.{leb_tells, nat_tests}
pub use Rattle.std.proofs.lemmas.Grind.{flat_map-append}
pub use Rattle.std.proofs.lemmas.List.{length-map, map-append, map-id, nil_from_length}
pub use Rattle.std.proofs.lemmas.List.Elements.{All-append, All-cons, All-contains, All-filter, All-head, All-nil, All-tail, filter-append}
pub use Rattle.std.proofs.lemmas.List.Filters.{sum_by-filter_both}
pub use Rattle.std.proofs.lemmas.List.Folds.{find-append, fold-map, list_all-append, list_all-map, list_any-append}
pub use Rattle.std.proofs.lemmas.List.Sums.{AllPass-from_list_all, count_by-le-length, length-filter, list_all-from_AllPass, sum_by-append, sum_by-le-sum_by, sum_by_push, take_while-cons}
pub use Rattle.std.proofs.lemmas.Map.Views.{any-filter_same}
pub use Rattle.std.proofs.lemmas.Option.{same_Some}
pub use Rattle.std.proofs.lemmas.Simd.{map-map}
pub use Rattle.std.proofs.lemmas.Slice.Eq.{bytes_eq-Decides}
pub use Rattle.std.specs.Bool.{⊤}
pub use Rattle.std.specs.Global.{Vec}
pub use Rattle.std.specs.List.{last_or, list_all, list_any, prefix_len}
pub use Rattle.std.specs.Option.{option_eq, option_or}
pub use Rattle.dump_digest.proofs.PropertyBlocks.{block_or_not, block_stable, property_list_once}
pub use Rattle.dump_digest.proofs.SaidLemmas.{entry_value}
pub use Rattle.dump_digest.proofs.VerdictChoice.{bad_choice, verdict_exists}
pub use Rattle.dump_digest.specs.ContentFaults.{DiffersFromDigest, HasBadMd5, HasBadMergeinfo, HasBadProperties, HasBadSha1, IsMergeinfoValueOf}
pub use Rattle.dump_digest.specs.RecordParts.{HasPropertyBlock, HasPropertyList, has_lost_source, has_whole_text, is_checked_text, is_copy, is_kept_node, is_mergeinfo, is_node, is_revision_record, mergeinfo_name, node_path, takes_deletes, value_of}
pub use Rattle.dump_digest.specs.steps.ContentViews.{is_asked}
pub use Rattle.dump_digest.specs.steps.DoneViews.{done_record, done_settings, done_verdict}
pub use Rattle.dump_digest.specs.steps.MergeFaults.{HasGoodMergeinfo, is_foreign, merge_fault, misses}
pub use Rattle.dump_digest.specs.steps.VerdictMeaning.{IsVerdict}
pub use Rattle.dump_filter.specs.Counts.{report_of}
pub use Rattle.dump_filter.specs.FilterLaws.{KeepsItsOwnText, LengthsFit, WrittenOnlyGrows, keep_all}
pub use Rattle.dump_filter.specs.Groups.{Group, first_number, group_number, group_of, groups, has_kept_node, is_bare, is_emptied, is_pad, is_padded, keeps_empty, keeps_group, kept_revisions, present_revision, revision_number, revision_numbers}
pub use Rattle.dump_filter.specs.NewContent.{AreNewProperties, IsNewProperty, is_date, new_block, padding_log, padding_properties, revision_properties}
pub use Rattle.dump_filter.specs.NewHeaders.{IsNewCopy, IsWrittenCopyNumber, becomes_plain, is_whole_file, stays_copy, with_length, with_lengths, without_copy_headers, written_number}
pub use Rattle.dump_filter.specs.RecordFaults.{AreFaultFree, HasBadCopyRevision, HoldsOfRecord, IsOutOfOrder, IsRecordFault, ends_in_group, present_number}
pub use Rattle.dump_filter.specs.RecordOutput.{IsNodeOutput, IsOutput, IsRevisionOutput, IsWrittenBlock, revision_text, whole_text}
pub use Rattle.dump_filter.specs.WholeText.{IsCleanText}
pub use Rattle.dump_filter.specs.Written.{AreOutputs, IsWrittenText, is_open, is_written}
pub use Rattle.dump_filter.specs.steps.Advance.{IsEndText, IsFrontText, IsOwnNode, IsOwnRevision, IsPiece, begun, emptied, end_kept, end_report, ended, fate_state, front_kept, front_report, next_number, next_state, opened, pads, started, stays, text_count, with_dropped_revision, with_kept, with_kept_revision}
pub use Rattle.dump_filter.specs.steps.Decision.{AreAsked, HasNoSource, copy_change, decided, fate_of, imaged, is_in_order, is_orphan, kept_unless, node_fate, rises, source_change, takes_node, with_fault}
pub use Rattle.dump_filter.specs.steps.FilterState.{Accepts, AreAccepted, FilterState, Finishes, IsOfSameDump, Refuses, Seen, count_up_to}
pub use Rattle.dump_filter.specs.steps.Knowledge.{AreKept, AreRising, AreUpTo, GoesOn, HasCounts, KnowsAccepted, MayBecome, Shape, Stands, dropped_groups, in_group, is_plain, kept_numbers, open_from}
pub use Rattle.dump_filter.specs.steps.Knowledge.Shape.{Fresh, Idle, Passed, Waits}
pub use Rattle.dump_filter.specs.steps.MadeBytes.{made_or}
pub use Rattle.dump_filter.specs.steps.NewLines.{AreLengths, StaysCopied, added, copy_number, is_copy_line, lines_that_stay, new_headers, new_record, numbered, put_all, renewed, renewed_lines, with_number}
pub use Rattle.dump_filter.specs.steps.NewProperties.{IsReadNode, dated_padding, property_of}
pub use Rattle.dump_filter.specs.steps.OwnText.{copied_headers, node_own, revision_own}
pub use Rattle.dump_filter.specs.steps.State.{CanCountMore, PendingRevision, PresentGroup, State, new_state, no_revisions, node_revision, pending_count, revision_count, view_group, view_pending, view_state}
pub use Rattle.dump_filter.specs.steps.State.PresentGroup.{NoGroup, Pending, Written}
pub use Rattle.dump_records.proofs.CutLemmas.{strip}
pub use Rattle.dump_records.proofs.HeaderLemmas.{OneKind, copy_both, copy_there, deciding, no_number}
pub use Rattle.dump_records.proofs.Prefixes.{begins_once, one_more}
pub use Rattle.dump_records.proofs.Unique.{Keeps, code_once, keeps, least_once}
pub use Rattle.dump_records.specs.DumpText.{BeginsWithRecords, Ending, HasRecords, HaveVersions, IsCutInto, line_feeds}
pub use Rattle.dump_records.specs.HeaderRules.{has_bad_kind, has_bad_lengths, has_bad_number, has_bad_version, header_length, header_number, is_one_alone, property_length, text_length, version_from}
pub use Rattle.dump_records.specs.RecordText.{BeginsWithRecord, DumpRecord, is_lawful, record_text}
pub use Rattle.dump_records.specs.steps.CutRecords.{IsRecordOf}
pub use Rattle.dump_records.specs.steps.HeaderReading.{are_spelled, are_written, is_spelled}
pub use Rattle.dump_records.specs.steps.RecordKinds.{kind_of}
pub use Rattle.dump_records.specs.steps.RecordViews.{part_of_node, record_dump, record_item, record_number}
pub use Rattle.dump_rules.proofs.ReachLemmas.{below, below-cons, image_at_pushed, image_fits, image_pushed, last_or_pushed, length_fits, new_number_above, new_number_fits, new_number_pushed, rise_pushed}
pub use Rattle.dump_rules.proofs.faults.FaultLemmas.{finds, foreign_back, foreign_there, found, has_lines, missing_back, missing_there}
pub use Rattle.dump_rules.proofs.new_values.LaterRevisions.{later_revisions}
pub use Rattle.dump_rules.proofs.new_values.OneNewValue.{one_new_value}
pub use Rattle.dump_rules.proofs.new_values.OwnValue.{own_value}
pub use Rattle.dump_rules.proofs.new_values.RunsLaw.{number_small}
pub use Rattle.dump_rules.proofs.new_values.ValueLemmas.{new_value}
pub use Rattle.dump_rules.specs.Mergeinfo.{HasMergeLines}
pub use Rattle.dump_rules.specs.Renumbering.{KeptRevisions, image, new_number}
pub use Rattle.dump_rules.specs.Rewriting.{HasForeignNumber, HasMissingSource, IsNewMergeinfo}
pub use Rattle.dump_rules.specs.Settings.{Settings, keeps_path}
pub use Rattle.dump_rules.specs.steps.RewrittenLines.{value_foreign, value_misses}
pub use Rattle.dump_rules.specs.steps.RisingNumbers.{RiseFrom}
pub use Rattle.dump_text.proofs.BlockLemmas.{count_cons, has_value}
pub use Rattle.dump_text.proofs.BoolLemmas.{absurd_bool, equals_itself, false_true, first_false, first_true, second_false, second_true}
pub use Rattle.dump_text.proofs.PartLemmas.{number_of-spelled, spelled_spells}
pub use Rattle.dump_text.proofs.PropertyChoice.{untruncated}
pub use Rattle.dump_text.proofs.PropertyLemmas.{entry_parts, left_of, property-eq, property_block_once}
pub use Rattle.dump_text.proofs.ScanLemmas.{all_more}
pub use Rattle.dump_text.proofs.Unique.{lawful, lawful_lines, tail-eq}
pub use Rattle.dump_text.proofs.WrittenLemmas.{short_block, written_list}
pub use Rattle.dump_text.specs.FaultTable.{NoFault, fault_code}
pub use Rattle.dump_text.specs.HeaderBlock.{block_text, is_block, lines_bytes}
pub use Rattle.dump_text.specs.HeaderLine.{Header, count_named, has_byte, has_header, header_text, header_value, is_header, is_named, with_header_value}
pub use Rattle.dump_text.specs.Names.{content_length_name, copy_path_name, copy_revision_name, known_names, md5_name, path_name, property_length_name, revision_name, sha1_name, text_delta_name, text_length_name, uuid_name, version_name}
pub use Rattle.dump_text.specs.Number.{number_of, spelled_number}
pub use Rattle.dump_text.specs.PropertyList.{IsEntry, IsPropertyBlock, Property, block_end, entry_text, has_deletes, property_block_text}
pub use Rattle.dump_text.specs.steps.PropertyReading.{HasPropertyChanges, property_value}
pub use Rattle.dump_text.specs.steps.PropertyScan.{IsWritten}
pub use Rattle.dump_text.specs.steps.PropertyViews.{entries_text, entry_property, props_bytes}
pub use Rattle.dump_text.specs.steps.Views.{lines_left}
pub use Rattle.dump_writer.specs.SinkWords.{IsPrefixOf}
pub use Rattle.dump_digest.specs.declared.done.Done.{Done}
pub use Rattle.dump_digest.specs.declared.verdict.Verdict.{Verdict}
pub use Rattle.dump_filter.specs.declared.copies.CopyChange.{CopyChange}
pub use Rattle.dump_filter.specs.declared.copies.CopyChange.TheVariants.{Dropped, Renumbered, Same}
pub use Rattle.dump_filter.specs.declared.decide.Fate.{Fate}
pub use Rattle.dump_filter.specs.declared.filter.Filter.TheInside.{Inside}
pub use Rattle.dump_filter.specs.declared.new_lines.Changes.{Changes}
pub use Rattle.dump_filter.specs.declared.state.Report.{Report}
pub use Rattle.dump_filter.specs.declared.revisions.Revisions.{Revisions}
pub use Rattle.dump_records.specs.declared.kind.RecordKind.{RecordKind}
pub use Rattle.dump_records.specs.declared.record.Record.{Record}
pub use Rattle.dump_rules.specs.declared.options.Empty.{Empty}
pub use Rattle.dump_rules.specs.declared.options.Empty.TheVariants.{DropAll, DropEmptied, Pad}
pub use Rattle.dump_rules.specs.declared.options.Side.TheVariants.{Include}
pub use Rattle.dump_text.specs.declared.fault.FaultKind.{FaultKind}
pub use Rattle.dump_text.specs.declared.props.Props.{Props}
