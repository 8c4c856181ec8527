-- The words of std, of the definitions and of the lemmas below, for the proofs of this crate.
pub use Rattle.std.proofs.Common.{Bool, Bor, Contains, Err, IfSome, IsTrue, List, MatchBool, None, Ok, OnOk, Option, Result, Some, [], ap, append-nil, append_assoc, arith, bytes_eq, codes, cond, count_by, drop, false, filter, get_or, if◌then◌else◌, inl, inr, is_some, length, length-append, lit<, lit≤, map, max, min, nat_eq, nat_le, nat_lt, not, option_and_then, option_copied, option_map, position, refl, reverse, rules, subst, suc, sym, take, tests, true, zero, ℕ, ◌&&◌, ◌++◌, ◌+◌, ◌-◌, ◌<◌, ◌==◌, ◌^◌, ◌||◌, ◌↔◌, ◌∙◌, ◌∷◌, ◌≡◌, ◌≢◌, ◌≤◌, ◌⊎◌}
pub use Rattle.std.proofs.Math.Bool.{and-false, and-or_distrib_left, and-true, and_assoc, not-not, or-false, or_assoc}
pub use Rattle.std.proofs.Math.Seq.{drop-append-add, get_or-append_seam, take-length}
pub use Rattle.std.proofs.lemmas.Bool.{and_from, and_left, and_parts, and_right, both_ways, cases_Bool, cases_lt, eqb-true, false_from_ne_true, le-leb, le-ltb, leb-false, leb-true, lt-ltb, ltb-true, not-false, not-true, not_from_false, or_cases, or_from, or_left, or_parts, or_right}
pub use Rattle.std.proofs.lemmas.Bool.Decides.{leb_tells, nat_tests}
pub use Rattle.std.proofs.lemmas.Iterator.Search.{all_from_yields_List, any_from_yields_List}
pub use Rattle.std.proofs.lemmas.Iterator.Splits.{YieldsList-from_slice_split}
pub use Rattle.std.proofs.lemmas.List.{drop_at, drop_more, get_or-append-add, get_or_default, get_or-reverse, get_or-take, length-drop, length-map, length-reverse, length-take, length-take-le, map-append, take-append-drop, take_at, take_more}
pub use Rattle.std.proofs.lemmas.List.Elements.{All-cons, All-contains, All-contains_itself, All-filter, All-head, All-tail, Contains-append_cases, Contains-append_left, Contains-get_or, filter-append, filter_passes}
pub use Rattle.std.proofs.lemmas.List.Folds.{Any-from_list_any, list_any-from_Any, list_any_at, list_any_none}
pub use Rattle.std.proofs.lemmas.List.Sorted.{All-permutation, Contains-permutation, IsNonDecreasingBy-from_sort_by_key, IsPartitionPoint-from_clause, IsPartitionedBy-leb, IsPartitionedBy-ltb, IsPermutation-map, IsPermutation-sym, list_any-IsPermutation}
pub use Rattle.std.proofs.lemmas.List.Splits.{join_with_byte-slice_split, slice_split_at, slice_split_none}
pub use Rattle.std.proofs.lemmas.List.Sums.{prefix_len_stops, suffix_len-le-length, suffix_len_is, sum_by-append, sum_by-cons, sum_by_push}
pub use Rattle.std.proofs.lemmas.Map.Text.{is_eq-slice_cmp}
pub use Rattle.std.proofs.lemmas.Option.{cond_some, option_and_then_some}
pub use Rattle.std.proofs.lemmas.Result.{IfOk-weaker, on_ok_weaker}
pub use Rattle.std.proofs.lemmas.Slice.Eq.{bytes_eq-Decides}
pub use Rattle.std.proofs.lemmas.Str.Parse.{IsNumeralModel, digits_value_short, numerals_by_value}
pub use Rattle.std.specs.Char.{is_ascii_digit}
pub use Rattle.std.specs.Cmp.Lexicographic.{slice_cmp}
pub use Rattle.std.specs.List.{AllZip, join_with_byte, last_or, list_all, list_any, onto_first, slice_split, starts_with, suffix_len}
pub use Rattle.std.specs.List.Sorted.{IsNonDecreasing, IsNonDecreasingBy, IsPartitionPoint, IsPartitionedBy, IsPermutation}
pub use Rattle.std.specs.Ordering.{is_eq, nat_cmp}
pub use Rattle.std.specs.Result.{IsErrAnd}
pub use Rattle.std.specs.Str.Parse.{digits_value}
pub use Rattle.std.specs.declared.cmp.Ordering.{Ordering}
pub use Rattle.std.specs.declared.cmp.Ordering.TheVariants.{Equal, Greater, Less}
pub use Rattle.dump_rules.specs.Mergeinfo.{HasMergeLines, IsMergeLine, IsMergeinfo, MergeLine, merge_line_text, mergeinfo_text}
pub use Rattle.dump_rules.specs.Prefix.{bare_path, bare_prefix, begins_path, matches_path, without_leading_slashes, without_trailing_slashes}
pub use Rattle.dump_rules.specs.RangeLaws.{EachMapHasOneSpelling}
pub use Rattle.dump_rules.specs.RangeList.{AreRuns, HasNumber, IsConsistent, IsRangeList, IsRangeText, IsSingle, IsSpan, Range, run_text, runs_text, star}
pub use Rattle.dump_rules.specs.Renumbering.{KeptRevisions, image, last_kept, new_number}
pub use Rattle.dump_rules.specs.Rewriting.{HasForeignNumber, HasMissingSource, IsNewLine, IsNewMergeinfo, IsRenumberedMap, IsSameMap, nonempty_lines, staying_lines}
pub use Rattle.dump_rules.specs.Settings.{Settings, keeps_path, side_keeps}
pub use Rattle.dump_rules.specs.steps.Blocks.{block_agrees, block_contradicts, ends_range, kind_agrees, kind_part_agrees, left_size, meets, parts_agree, parts_left, raised_ends}
pub use Rattle.dump_rules.specs.steps.Merged.{is_outside, line_merged, line_said, lines_merged, list_bounds, no_bounds, nothing_merged, parts_bounds, text_merged, widened, widened_by}
pub use Rattle.dump_rules.specs.steps.NewRanges.{kept_range, list_new, new_range, new_ranges, part_range, parts_ranges}
pub use Rattle.dump_rules.specs.steps.PrefixSearch.{AreWithin, IsIndexed, bare_at, has_slash_first, is_before}
pub use Rattle.dump_rules.specs.steps.ReadMergeinfo.{colon_end, line_reads, lines_read, value_reads, without_lf}
pub use Rattle.dump_rules.specs.steps.ReadRanges.{both, contradicts, ends_at, ends_in_star, ends_of, highest_numbers, is_other, list_reads, part_agrees, part_contradicts, raised, raised_by, range_between, range_of, range_parts, span_range, without_star}
pub use Rattle.dump_rules.specs.steps.RewrittenLines.{line_foreign, line_list, line_misses, line_path, list_foreign, part_foreign, range_foreign, text_foreign, text_lines, text_misses, value_foreign, value_misses, with_break, with_new_line, with_new_lines, with_runs}
pub use Rattle.dump_rules.specs.steps.RisingNumbers.{RiseFrom}
pub use Rattle.dump_rules.specs.steps.Runs.{HaveNumbers, joined, joined_from, list_ranges, ordered, ordered_into, ranges_of, reaching, runs_of, touches, with_range}
pub use Rattle.dump_text.proofs.BoolLemmas.{first_false, neither_below, second_false}
pub use Rattle.dump_text.proofs.PartLemmas.{number_of-spelled, number_spells}
pub use Rattle.dump_text.proofs.ScanLemmas.{at_place, back_lacks, front_lacks, has_at, no_place, none_all, nowhere, position_at}
pub use Rattle.dump_text.proofs.Unique.{has_byte-append}
pub use Rattle.dump_text.specs.HeaderLine.{has_byte}
pub use Rattle.dump_text.specs.Number.{is_number, number_of, spelled_number}
pub use Rattle.dump_rules.specs.declared.blocks.Ends.{Ends}
pub use Rattle.dump_rules.specs.declared.merged.Bounds.{Bounds}
pub use Rattle.dump_rules.specs.declared.merged.Merged.{Merged}
pub use Rattle.dump_rules.specs.declared.options.Empty.TheVariants.{Pad}
pub use Rattle.dump_rules.specs.declared.options.Side.TheVariants.{Exclude, Include}
pub use Rattle.dump_rules.specs.declared.ranges.HighestNumbers.{HighestNumbers}
pub use Rattle.dump_rules.specs.declared.ranges.Span.{Span}
pub use Rattle.dump_rules.specs.declared.rewriting.RewriteFault.{RewriteFault}
