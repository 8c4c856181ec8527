-- The names of std, of the definitions and of the lemmas below, for the proofs of this crate.
pub use Rattle.std.specs.Prelude.{drop, slice_get, take}
pub use Rattle.std.proofs.Common.{Bool, Contains, IsSome, IsTrue, MatchBool, None, Option, ap, append-nil, append_assoc, ap₂, arith, bytes_eq, cond, count_by, if◌then◌else◌, inl, inr, is_some, length, lit<, lit≤, map, not, option_and_then, option_map, refl, subst, suc, sym, take_while, true, unwrap_or, zero, ◌&&◌, ◌++◌, ◌+◌, ◌-◌, ◌<◌, ◌==◌, ◌^◌, ◌||◌, ◌↔◌, ◌∙◌, ◌≡◌, ◌≤◌, ◌⊎◌}
pub use Rattle.std.proofs.Math.Bool.{or-true}
pub use Rattle.std.proofs.lemmas.Bool.{MatchBool-at_false, and_cases, and_from, and_parts, both_ways, eqb-true, false_from_ne_true, lt-ltb, not-false, not-true, not_from_false, or_cases, or_from, or_left, or_parts, or_right, true_from_ne_false}
pub use Rattle.std.proofs.lemmas.List.{length-map, nil_from_length}
pub use Rattle.std.proofs.lemmas.List.Elements.{Contains-append_right, Contains-push, Contains-push_cases}
pub use Rattle.std.proofs.lemmas.List.Folds.{list_all-append, list_any-append}
pub use Rattle.std.proofs.lemmas.List.Sums.{sum_by-cons, take_while-cons}
pub use Rattle.std.proofs.lemmas.Slice.Eq.{bytes_eq-Decides}
pub use Rattle.std.specs.Char.{is_ascii_digit}
pub use Rattle.std.specs.List.{AllZip, last_or, list_all, list_any}
pub use Rattle.std.specs.Str.Parse.{digits_value}
pub use Rattle.dump_digest.proofs.PropertyBlocks.{block_or_not, property_list_once}
pub use Rattle.dump_digest.specs.ContentFaults.{HasBadMergeinfo, IsMergeinfoValueOf}
pub use Rattle.dump_digest.specs.RecordParts.{HasPropertyBlock, HasPropertyList, has_lost_source, has_text, is_copy, is_kept_node, is_mergeinfo, is_node, is_revision_record, mergeinfo_name, node_path, value_of}
pub use Rattle.dump_filter.proofs.again.Headers.{is_length_name, lengths_change, props_stay, text_stays}
pub use Rattle.dump_filter.proofs.again.LineChanges.{go_change, gone, put_change, put_has, put_own, spelled_line}
pub use Rattle.dump_filter.proofs.again.Output.{number_there}
pub use Rattle.dump_filter.proofs.again.OwnTextLaw.{reads_again}
pub use Rattle.dump_filter.proofs.again.ReadAgain.{AreReadAgain, AtEach, IsNodeAgain, IsReadAgain}
pub use Rattle.dump_filter.proofs.groups.KindLemmas.{alone}
pub use Rattle.dump_filter.proofs.knowing.Answered.{AllLawful, all_lawful}
pub use Rattle.dump_filter.specs.FilterLaws.{LengthsFit}
pub use Rattle.dump_filter.specs.Groups.{Group, first_number, group_number, group_of, groups, has_kept_node, is_bare, is_padded, keeps_empty, keeps_group, kept_revisions, present_revision, revision_number, revision_numbers}
pub use Rattle.dump_filter.specs.NewContent.{AreNewProperties, IsNewProperty, new_block, padding_log, revision_properties}
pub use Rattle.dump_filter.specs.NewHeaders.{IsNewCopy, IsWrittenCopyNumber, becomes_plain, is_whole_file, stays_copy, with_length, with_lengths, without_copy_headers, written_number}
pub use Rattle.dump_filter.specs.RecordFaults.{AreFaultFree, HasBadCopyRevision, HoldsOfRecord, IsOutOfOrder, ends_in_group, present_number}
pub use Rattle.dump_filter.specs.RecordOutput.{IsWrittenBlock}
pub use Rattle.dump_filter.specs.WholeText.{IsCleanText}
pub use Rattle.dump_filter.specs.Written.{IsWrittenText, is_written}
pub use Rattle.dump_filter.specs.steps.NewLines.{is_copy_line}
pub use Rattle.dump_history.specs.DumpChanges.{HaveRevisionProperties, LoadsAs, MakeChanges, MakeRevisions, counts_from, has_ordered_nodes}
pub use Rattle.dump_history.specs.DumpLaws.{DumpLoadsOnce, FilteredDumpFrontRestricts, FilteredDumpRestricts, FilteredDumpRestrictsAfterDirectories, FrontLoadsRestricted, HasNoGapIfKept, KeepsProperties, LoadsAfterDirectories, LoadsRestricted, NoGapIsNeeded, QuietDumpFrontRestricts, QuietDumpRestricts, QuietDumpRestrictsAfterDirectories, RevisionsKeepProperties, TreesRestrict, keeps_numbering}
pub use Rattle.dump_history.specs.Findings.{AreDumpFindingsOf, AreFindingsOf, AreNodeFaultsOf, DumpFacts, HasUnreadRevision, IsReadBlock, IsUnreadRevision, NodeFaults, begins_at, copies_from_before, dump_findings, every_dump_finding, every_finding, findings_of, first_has_node, has_kept_path, has_kept_source, has_source_before, is_above_prefix, is_alarm, is_found, is_found_in_dump, is_obstacle, rise}
pub use Rattle.dump_history.specs.NumberGaps.{HasNamingNode, HasNamingNodeBehind, KeepsNamedNumbers, LoadsWithGapsAs, MakeRevisionsWithGaps, NamesRevision, NamesRevisionBehind, SetsMergeinfo, count_to_gap, go_up, name_no_revision, names_revision, sets_mergeinfo}
pub use Rattle.dump_history.specs.PartLaws.{FilteredPartRestricts, IsLoadedBehindOne, IsLoadedProperty, MakePartRevisions, MakePartRevisionsWithGaps, NoGapIsNeededInPart, PartLoadsAs, PartLoadsBehind, QuietPartRestricts, kept_as_loaded}
pub use Rattle.dump_history.specs.RaisedMergeinfo.{AreRaisedLines, HasMergedNumber, IsRaised, IsRaisedValue}
pub use Rattle.dump_history.specs.RecordChanges.{MakesChange, Patching, change_of, copied_from, copy_path, copy_revision, deletes, has_known_action, has_undefined_delta, loads_as_written, is_plain_line, made_by_kind, made_of, makes, property_change_of, says, text_change_of}
pub use Rattle.dump_history.specs.SurveyLaws.{AlarmsAreExact, AreFindingsBehind, DumpFindingsAreOnce, FindingsAreOnce, HaveFindings, HaveFindingsBehind, ObstaclesAreExact, RestrictsFrom, SurveyedDumpFrontRestricts, SurveyedDumpRestricts, none_is}
pub use Rattle.dump_history.specs.steps.NamingTests.{TellsNaming, groups_name, groups_name_behind, nodes_name}
pub use Rattle.dump_history.specs.steps.NodeReading.{copy_faults, copy_refused, faults_read, has_up_to, is_missing_number, is_unread_value, names_missing_source, names_outside, no_node_faults}
pub use Rattle.dump_records.proofs.Unique.{records_once}
pub use Rattle.dump_records.specs.DumpText.{Ending, HasRecords, IsCutInto}
pub use Rattle.dump_records.specs.HeaderRules.{header_number, property_length, text_length}
pub use Rattle.dump_records.specs.RecordText.{BeginsWithRecord, DumpRecord, has_prop_delta, has_text_delta, is_lawful, record_text}
pub use Rattle.dump_rules.proofs.faults.FaultLemmas.{finds, foreign_back, foreign_there, found, missing_back, missing_there}
pub use Rattle.dump_rules.proofs.new_values.OneNewValue.{one_reading}
pub use Rattle.dump_rules.proofs.reading.MergeinfoLemmas.{reads_exactly}
pub use Rattle.dump_rules.specs.Mergeinfo.{HasMergeLines, IsMergeinfo, MergeLine}
pub use Rattle.dump_rules.specs.Prefix.{bare_path}
pub use Rattle.dump_rules.specs.RangeList.{HasNumber, star}
pub use Rattle.dump_rules.specs.Renumbering.{KeptRevisions, image, last_kept, new_number}
pub use Rattle.dump_rules.specs.Rewriting.{HasForeignNumber, HasMissingSource, IsNewMergeinfo}
pub use Rattle.dump_rules.specs.Settings.{Settings, keeps_path}
pub use Rattle.dump_rules.specs.steps.ReadMergeinfo.{value_reads}
pub use Rattle.dump_text.proofs.BlockLemmas.{has_value}
pub use Rattle.dump_text.proofs.BoolLemmas.{absurd_bool, equals_itself, first_false, first_true, second_false, second_true}
pub use Rattle.dump_text.proofs.PartLemmas.{number_of-spelled}
pub use Rattle.dump_text.specs.FaultTable.{NoFault}
pub use Rattle.dump_text.specs.HeaderBlock.{is_block}
pub use Rattle.dump_text.specs.HeaderLine.{Header, has_byte, has_header, header_value, is_named, with_header_value}
pub use Rattle.dump_text.specs.Names.{action_name, content_length_name, copy_path_name, copy_revision_name, md5_name, node_kind_name, path_name, prop_delta_name, property_length_name, sha1_name, text_delta_name, text_length_name}
pub use Rattle.dump_text.specs.Number.{is_number, number_of, spelled_number}
pub use Rattle.dump_text.specs.PropertyList.{Property, property_block_text}
pub use Rattle.dump_trees.proofs.histories.AlikeLemmas.{both_restrict, given_alike, loads_alike}
pub use Rattle.dump_trees.proofs.histories.FrontLemmas.{front_history}
pub use Rattle.dump_trees.proofs.histories.HistoryLemmas.{history}
pub use Rattle.dump_trees.proofs.histories.KeptNumbers.{AreAbove, AreBelow, all_counted, below_next, below_pushed, kept_above, length_push}
pub use Rattle.dump_trees.proofs.histories.NamingLemmas.{fewer_names_none, front_names_none}
pub use Rattle.dump_trees.proofs.paths.GivenDirectories.{given_directories}
pub use Rattle.dump_trees.proofs.paths.PathNames.{keeps_text}
pub use Rattle.dump_trees.proofs.quiet.QuietLemmas.{all_quiet}
pub use Rattle.dump_trees.specs.Changes.{Change, Made, PropertyChange, TextChange, is_copied}
pub use Rattle.dump_trees.specs.HistoryLaws.{ImagesRestrict}
pub use Rattle.dump_trees.specs.MovedLaws.{change_behind, made_behind, revisions_behind}
pub use Rattle.dump_trees.specs.Paths.{NodePath, is_short, keeps, path_of}
pub use Rattle.dump_trees.specs.Quiet.{are_quiet, cuts_alike, is_quiet, is_quiet_dropped, is_quiet_kept, nowhere_is_over}
pub use Rattle.dump_trees.specs.Restriction.{AreNewProps, IsNewNode, NewNumber, NewProperty, given, is_above_some}
pub use Rattle.dump_trees.specs.steps.Restriction.{IsNewChange, IsNewMade, KeepsEntries, edits_props, sets_whole, sets_whole_text}
pub use Rattle.dump_trees.specs.Revisions.{IsWrittenNumber, loaded_over}
pub use Rattle.dump_trees.specs.steps.Revisions.{AreNewChanges, AreNewRevisions, EmptyRule, keeps_revision, kept_from, kept_of, names_kept, names_none, names_none_behind, stays_numbered}
pub use Rattle.dump_trees.specs.Trees.{Node, Tree, grafted, put, root_alone}
pub use Rattle.dump_rules.specs.declared.options.Empty.TheVariants.{DropAll, DropEmptied, Pad}
pub use Rattle.dump_rules.specs.declared.options.Side.{Side}
pub use Rattle.dump_rules.specs.declared.options.Side.TheVariants.{Exclude, Include}
pub use Rattle.dump_text.specs.declared.fault.FaultKind.TheVariants.{CopyRevision, MergeRange, MergeSource, Order}
pub use Rattle.dump_history.specs.declared.findings.Finding.{Finding}
