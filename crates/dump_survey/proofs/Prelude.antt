-- The names of std, of the definitions and of the lemmas below, for the proofs of this crate.
pub use Rattle.std.specs.Prelude.{nat_le}
pub use Rattle.std.proofs.Common.{Bool, Bor, Contains, Err, Global, IsFalse, IsSome, IsTrue, List, MatchBool, MatchOption, None, Ok, Option, Result, Some, Vec, [], add-zero, ap, append-nil, append_assoc, ap₂, arith, bytes_eq, codes, cond, count_by, decimal, drop, false, filter, flat_map, get_or, if◌then◌else◌, inl, inr, is_none, is_some, length, length-append, map, nat_eq, not, option_copied, option_map, refl, reverse, rules, subst, suc, sum, sum_by, sym, take, take_while, tests, true, vec_len, zero-add, ℕ, ◌&&◌, ◌++◌, ◌+◌, ◌-◌, ◌<◌, ◌==◌, ◌^◌, ◌||◌, ◌↔◌, ◌∙◌, ◌∷◌, ◌≡◌, ◌≢◌, ◌≤◌, ◌⊎◌}
pub use Rattle.std.proofs.KnownBytes.{Appends-nil, Appends-trans}
pub use Rattle.std.proofs.Math.Bool.{and-false, and-true, and_assoc, or-false, or-true, or_assoc}
pub use Rattle.std.proofs.Math.Seq.{take-length}
pub use Rattle.std.proofs.lemmas.Bool.{and_from, and_parts, both_ways, eqb-true, false_from_ne_true, ne_eqb, not-true, not_from_false, or_cases, or_from, or_left, or_parts, or_right}
pub use Rattle.std.proofs.lemmas.Bool.Decides.{nat_tests}
pub use Rattle.std.proofs.lemmas.Fn.{filter_same}
pub use Rattle.std.proofs.lemmas.Grind.{flat_map-append}
pub use Rattle.std.proofs.lemmas.Iterator.Consumers.{YieldsList-at, YieldsList-from_filter, count_from_yields_List}
pub use Rattle.std.proofs.lemmas.Iterator.Splits.{YieldsList-from_slice_split}
pub use Rattle.std.proofs.lemmas.List.{drop_all, drop_more, get_or-take, length-take, map-append, reverse-append, reverse-reverse, take_more}
pub use Rattle.std.proofs.lemmas.List.Elements.{Contains-append_left, Contains-append_right, Contains-push, Contains-push_cases, filter_map-append}
pub use Rattle.std.proofs.lemmas.List.Folds.{list_any-append, list_any_at}
pub use Rattle.std.proofs.lemmas.List.Sorted.{IsPartitionPoint-from_clause, IsPartitionedBy-ltb, list_any-IsPermutation, sum_by-IsPermutation}
pub use Rattle.std.proofs.lemmas.List.Splits.{length-slice_split}
pub use Rattle.std.proofs.lemmas.List.Sums.{count_by-le-length, length-filter, sum-map, sum_by-cons, sum_by_push, take_while-cons}
pub use Rattle.std.proofs.lemmas.Map.Text.{is_eq-slice_cmp}
pub use Rattle.std.proofs.lemmas.Option.{get_or_from_slice_get, none-some, slice_get-get_or, slice_get_within}
pub use Rattle.std.proofs.lemmas.Slice.Eq.{bytes_eq-Decides}
pub use Rattle.std.specs.BTreeMap.{is_at}
pub use Rattle.std.specs.BTreeSet.{insert_key}
pub use Rattle.std.specs.Cmp.Lexicographic.{slice_cmp}
pub use Rattle.std.specs.Io.KnownBytes.{Appends}
pub use Rattle.std.specs.List.{AllZip, concat, cons_option, filter_map, last_or, list_all, list_any, slice_split, starts_with}
pub use Rattle.std.specs.List.Sorted.{IsPermutation}
pub use Rattle.std.specs.Ordering.{is_eq, match_ordering, nat_cmp}
pub use Rattle.std.specs.Result.{OnErr, OnOk}
pub use Rattle.std.specs.Set.{remove_key}
pub use Rattle.std.specs.declared.cmp.Ordering.{Ordering}
pub use Rattle.std.specs.declared.cmp.Ordering.TheVariants.{Equal, Greater, Less}
pub use Rattle.dump_digest.proofs.MergeLemmas.{read_is}
pub use Rattle.dump_digest.proofs.PropertyBlocks.{block_or_not, property_list_once}
pub use Rattle.dump_digest.proofs.SaidLemmas.{entry_value, reads_value, unread_value}
pub use Rattle.dump_digest.specs.RecordParts.{HasPropertyBlock, HasPropertyList, has_lost_source, is_copy, is_kept_node, is_mergeinfo, is_node, is_revision_record, node_path, value_of}
pub use Rattle.dump_digest.specs.steps.ContentViews.{ArePropertiesOf}
pub use Rattle.dump_filter.proofs.again.Output.{header_small}
pub use Rattle.dump_filter.proofs.groups.KindLemmas.{alone}
pub use Rattle.dump_filter.specs.FilterLaws.{LengthsFit}
pub use Rattle.dump_filter.specs.Groups.{Group, first_number, group_number, group_of, groups, keeps_empty, keeps_group, kept_revisions, revision_number, revision_numbers}
pub use Rattle.dump_filter.specs.NewHeaders.{is_whole_file, stays_copy, written_number}
pub use Rattle.dump_filter.specs.RecordFaults.{HoldsOfRecord, ends_in_group, present_number}
pub use Rattle.dump_filter.specs.WholeText.{IsCleanText}
pub use Rattle.dump_history.proofs.survey.FindingLemmas.{faults_of_kept, faults_of_unread, findings_once, none_passes, same_truth}
pub use Rattle.dump_history.proofs.survey.NamingTest.{behind_told, dump_findings_once, names_test, test_tells}
pub use Rattle.dump_history.proofs.survey.SurveyLemmas.{all_read, nodes_stand, numbers_rise, surveyed_dump}
pub use Rattle.dump_history.proofs.values.WorkedDump.{line, one, other, record_at, records, three, trunk, two, version}
pub use Rattle.dump_history.specs.DumpChanges.{counts_from, has_ordered_nodes}
pub use Rattle.dump_history.specs.Findings.{AreDumpFindingsOf, AreFindingsOf, AreNodeFaultsOf, HasUnreadRevision, IsReadBlock, IsUnreadRevision, NodeFaults, begins_at, copies_from_before, cuts, every_dump_finding, every_finding, finding_place, first_has_node, has_kept_path, has_kept_source, has_source_before, is_alarm, is_found, is_found_in_dump, is_obstacle, makes_copy, rise}
pub use Rattle.dump_history.specs.NumberGaps.{NamesRevision, SetsMergeinfo, go_up}
pub use Rattle.dump_history.specs.RecordChanges.{Patching, copy_path}
pub use Rattle.dump_history.specs.SurveyLaws.{AreFindingsBehind, DumpRestricts, HaveFindingsBehind, none_is}
pub use Rattle.dump_history.specs.steps.NamingTests.{TellsNaming, groups_name, groups_name_behind, nodes_name}
pub use Rattle.dump_history.specs.steps.NodeReading.{copy_faults, copy_refused, faults_read, has_up_to, is_missing_number, is_unread_value, names_missing_source, names_outside, property_faults}
pub use Rattle.dump_records.proofs.CutLemmas.{count_fits}
pub use Rattle.dump_records.proofs.ListLaw.{each_dump_has_one_list}
pub use Rattle.dump_records.proofs.Prefixes.{begins_once, begins_prefix, is_front, one_more, whole_list}
pub use Rattle.dump_records.proofs.Unique.{records_once}
pub use Rattle.dump_records.specs.DumpText.{BeginsWithRecords, Ending, HasRecords, IsCutInto, line_feeds}
pub use Rattle.dump_records.specs.HeaderRules.{header_number}
pub use Rattle.dump_records.specs.RecordText.{DumpRecord, is_lawful, record_text}
pub use Rattle.dump_records.specs.steps.CutRecords.{EndsAfter, IsRecordOf}
pub use Rattle.dump_records.specs.steps.CutterState.{CutterState}
pub use Rattle.dump_records.specs.steps.RecordViews.{CutStep, record_dump, record_item, record_number}
pub use Rattle.dump_rules.proofs.BarePrefixLemmas.{cut_begins, empty_begins, none_begins, whole_begins, within_wider}
pub use Rattle.dump_rules.proofs.PrefixLemmas.{any_mapped}
pub use Rattle.dump_rules.proofs.ReachLemmas.{count_at_point}
pub use Rattle.dump_rules.proofs.faults.FaultLemmas.{finds, found}
pub use Rattle.dump_rules.proofs.faults.MergedMeaning.{none_outside}
pub use Rattle.dump_rules.proofs.new_values.ValueLemmas.{line_parts, texts_are}
pub use Rattle.dump_rules.proofs.reading.MergeinfoLemmas.{reads_exactly}
pub use Rattle.dump_rules.specs.Mergeinfo.{HasMergeLines, IsMergeLine, IsMergeinfo, MergeLine}
pub use Rattle.dump_rules.specs.Prefix.{bare_path, bare_prefix, begins_path, matches_path, without_leading_slashes, without_trailing_slashes}
pub use Rattle.dump_rules.specs.Renumbering.{KeptRevisions}
pub use Rattle.dump_rules.specs.Settings.{Settings, keeps_path, side_keeps}
pub use Rattle.dump_rules.specs.steps.Merged.{is_outside}
pub use Rattle.dump_rules.specs.steps.PrefixSearch.{AreWithin}
pub use Rattle.dump_rules.specs.steps.ReadMergeinfo.{value_reads, without_lf}
pub use Rattle.dump_rules.specs.steps.RewrittenLines.{line_misses, text_lines, value_foreign, value_misses}
pub use Rattle.dump_survey.specs.AddedPrefixLines.{AreAddedPrefixLines, added_prefix_lines}
pub use Rattle.dump_survey.specs.CuttingPrefix.{cutting_prefix, first_cut}
pub use Rattle.dump_survey.specs.DumpFindings.{has_dump_finding, listed_findings}
pub use Rattle.dump_survey.specs.DumpReport.{AreDumpReports, ArePlaces, CameUp, ComesUpAt, DumpReport, IsDumpFinding, IsDumpReport, IsNeverFound, comes_up, place_in, reported_at_end}
pub use Rattle.dump_survey.specs.ParentsToCreate.{AreParentsToCreate, each_once, fronts, left_above, paths_above, with_new}
pub use Rattle.dump_survey.specs.PrefixesToAdd.{ArePrefixesToAdd, ArePrefixesToAddIn, AreWanted, are_apart, covers, is_wanted, matches_itself, stops_at, stops_somewhere, uncovered, wanted_path, with_prefixes}
pub use Rattle.dump_survey.specs.Kinds.{ending_kind_line, kind_line, kind_lines, prefix_kind, times_in_prefixes, times_reported}
pub use Rattle.dump_survey.specs.OmittedMergeinfo.{AddUpTo, AreOmittedIn, AreOmittedFrom, AreOmittedFromProperties, AreOmittedFromRecords, AreOmittedFromValue, leaving_lines, mergeinfo_values}
pub use Rattle.dump_survey.specs.FindingRows.{finding_row}
pub use Rattle.dump_survey.specs.Lines.{dump_line, shown_path}
pub use Rattle.dump_survey.specs.AdviceLines.{parent_lines}
pub use Rattle.dump_survey.specs.PrefixFindings.{PrefixReport, is_short_prefix, prefix_finding, prefix_view, reported_of_prefix, reported_prefixes}
pub use Rattle.dump_survey.specs.PrefixLines.{prefix_lines}
pub use Rattle.dump_survey.specs.RevisionMap.{map_lines}
pub use Rattle.dump_survey.specs.SurveyEnds.{survey_ending}
pub use Rattle.dump_survey.specs.SurveyText.{BreaksOffSurvey, FindsNothing, IsSurveyText, survey_lines}
pub use Rattle.dump_survey.specs.SurveyTies.{EachCutNamesPrefix, SilentSurveyRestricts, SilentTextLeavesDigests, SilentTextRestricts, ReportsAreFindings, ReportedOnce, all_findings, is_digest_fault, none_reported, tells_cut}
pub use Rattle.dump_survey.specs.Reported.{AreReported, IsReportedOf, IsReportedOfNode, NodeReport, present_after, reported_in, report_with_prefix, reported_view}
pub use Rattle.dump_survey.specs.steps.Counts.{AreWithNode, count_in}
pub use Rattle.dump_survey.specs.steps.SameTexts.{BeginSame, HaveSame}
pub use Rattle.dump_survey.specs.steps.Found.{AreFaultsBy, IsFoundIn, has_found, listed, node_faults}
pub use Rattle.dump_survey.specs.steps.IdlePrefixes.{AreIdle, AreWithout, is_among, is_begun_by, is_below_copy, is_touched_by, prefixes_by, reported_by}
pub use Rattle.dump_survey.specs.steps.KeptNumbers.{AreKeptIn, HasKept, ended_numbers, kept_by, kept_view, numbers_before}
pub use Rattle.dump_survey.specs.steps.Visits.{IsVisitedAfter}
pub use Rattle.dump_survey.specs.steps.OmittedCounts.{HasCounted, properties_count, property_count, text_lines_count, value_count}
pub use Rattle.dump_survey.specs.steps.NamedRevisions.{LeaveNumber, is_behind_dropped, leave_number, leaves_number}
pub use Rattle.dump_survey.specs.steps.CopyNeeds.{AreNeeded, Grown, HasCollected, IsPass, PathNeed, needs_source, copy_need, each_matches_itself, grown_prefixes, is_matched, is_unmet, need_of, need_view, needs_of, unmatched}
pub use Rattle.dump_survey.specs.steps.Places.{AreNextPlaces, first_place, no_places}
pub use Rattle.dump_survey.specs.steps.Prefixes.{IsRestBelow, behind_slash, cuts_below, is_below}
pub use Rattle.dump_survey.specs.steps.RevisionNumbers.{AreNumbersBehind, is_missing, is_up_to, misses_revision}
pub use Rattle.dump_survey.specs.steps.Steps.{ArePrefixesReported, ComesNext, IsStepOf, SurveyStep, ReportsEnd, open_behind}
pub use Rattle.dump_survey.specs.steps.Surveyed.{reported_of_finding, reported_of_node}
pub use Rattle.dump_survey.specs.steps.Surveying.{Surveying, Surveys}
pub use Rattle.dump_filter.specs.steps.Decision.{rises}
pub use Rattle.dump_survey.specs.steps.Tally.{first_with, is_tallied, keeps_open, keeps_present, least_behind, lesser, next_tally, no_tally, node_tally, numbers_of, other_tally, revision_tally, tally_behind, tally_findings}
pub use Rattle.dump_text.proofs.BoolLemmas.{false_true, first_false, first_true, second_false, second_true}
pub use Rattle.dump_text.proofs.PropertyLemmas.{entry_parts, left_of, property_block_once}
pub use Rattle.dump_text.proofs.ValueLemmas.{some_copied}
pub use Rattle.dump_text.specs.HeaderBlock.{block_text}
pub use Rattle.dump_text.specs.Names.{copy_revision_name, revision_name}
pub use Rattle.dump_text.specs.PropertyList.{AreEntries, IsEntry, IsPropertyBlock, Property, sized_text}
pub use Rattle.dump_text.specs.steps.PropertyViews.{HasEntriesLeft, entries_text, entry_property, props_bytes}
pub use Rattle.dump_trees.proofs.paths.KeptPaths.{reaches_more}
pub use Rattle.dump_trees.proofs.paths.PathNames.{split_text}
pub use Rattle.dump_trees.specs.Paths.{NodePath, names_of, path_of, path_text}
pub use Rattle.dump_trees.specs.Quiet.{cuts_alike}
pub use Rattle.dump_trees.specs.Restriction.{is_above_some, is_root}
pub use Rattle.dump_writer.specs.SinkWords.{HasFailedSince, IsPrefixOf, TakesPart}
pub use Rattle.dump_records.specs.declared.cutter.Cut.{Cut}
pub use Rattle.dump_records.specs.declared.record.Record.{Record}
pub use Rattle.dump_rules.specs.declared.memory.Memory.{Memory}
pub use Rattle.dump_rules.specs.declared.merged.Merged.{Merged}
pub use Rattle.dump_rules.specs.declared.options.Empty.TheVariants.{DropAll, DropEmptied, Pad}
pub use Rattle.dump_rules.specs.declared.options.Side.{Side}
pub use Rattle.dump_rules.specs.declared.options.Side.TheVariants.{Exclude, Include}
pub use Rattle.dump_survey.specs.declared.report.counts.Counts.{Counts}
pub use Rattle.dump_survey.specs.declared.findings.node.Found.{Found}
pub use Rattle.dump_survey.specs.declared.report.revision_map.NumberCollector.{NumberCollector}
pub use Rattle.dump_survey.specs.declared.advice.copy_needs.NeedCollector.{NeedCollector}
pub use Rattle.dump_survey.specs.declared.advice.omitted_mergeinfo.LineCounter.{LineCounter}
pub use Rattle.dump_survey.specs.declared.advice.copy_needs.CopyNeed.{CopyNeed}
pub use Rattle.dump_survey.specs.declared.findings.places.DumpPlaces.{DumpPlaces}
pub use Rattle.dump_survey.specs.declared.findings.places.Place.{Place}
pub use Rattle.dump_survey.specs.declared.findings.prefix_findings.PrefixFinding.{PrefixFinding}
pub use Rattle.dump_survey.specs.declared.findings.prefix_findings.PrefixFinding.TheVariants.{Idle, NotCanonical}
pub use Rattle.dump_survey.specs.declared.findings.revision_numbers.Numbers.{Numbers}
pub use Rattle.dump_survey.specs.declared.findings.surveyor.End.{End}
pub use Rattle.dump_survey.specs.declared.findings.surveyor.Known.{Known}
pub use Rattle.dump_survey.specs.declared.findings.surveyor.Step.{Step}
pub use Rattle.dump_survey.specs.declared.findings.surveyor.Step.TheVariants.{Finished, Node}
pub use Rattle.dump_survey.specs.declared.findings.surveyor.SurveyEnd.{SurveyEnd}
pub use Rattle.dump_survey.specs.declared.findings.tally.DumpFindings.{DumpFindings}
pub use Rattle.dump_survey.specs.declared.findings.tally.Present.{Present}
pub use Rattle.dump_survey.specs.declared.findings.tally.Tally.{Tally}
pub use Rattle.dump_survey.specs.declared.findings.reported.SurveyedNode.{SurveyedNode}
pub use Rattle.dump_text.specs.declared.fault.FaultKind.{FaultKind}
pub use Rattle.dump_text.specs.declared.fault.FaultKind.TheVariants.{CopySource}
pub use Rattle.dump_text.specs.declared.props.Entry.{Entry}
pub use Rattle.dump_text.specs.declared.props.Props.{Props}
pub use Rattle.dump_history.specs.declared.findings.DumpFinding.{DumpFinding}
pub use Rattle.dump_history.specs.declared.findings.Finding.{Finding}
