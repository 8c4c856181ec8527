-- The names of std, of the definitions and of the lemmas below, for the proofs of this crate.
pub use Rattle.std.specs.Prelude.{slice_get}
pub use Rattle.std.proofs.Common.{IsFalse, IsTrue, MatchBool, ap, append-nil, append_assoc, ap₂, arith, bytes_eq, codes, cond, count_by, drop, filter, if◌then◌else◌, inl, inr, map, nat_eq, nat_le, nat_lt, not, option_map, refl, subst, subst₂, suc, sym, unwrap_or, zero, ◌+◌, ◌<◌, ◌==◌, ◌||◌, ◌∙◌, ◌≡◌, ◌≤◌, ◌⊎◌}
pub use Rattle.std.proofs.lemmas.Bool.{MatchBool-at_false, MatchBool-at_true, and_cases, and_from, and_parts, both_ways, cond-false, cond-true, eqb-true, le-leb, le-ltb, leb-true, lt-leb, lt-ltb, ltb-true, not-false, not-true, not_from_false, not_from_true, or_cases, or_from, or_left, or_parts, or_right}
pub use Rattle.std.proofs.lemmas.List.{nil_from_length}
pub use Rattle.std.proofs.lemmas.List.Folds.{list_all-append}
pub use Rattle.std.proofs.lemmas.List.Sums.{sum_by-cons}
pub use Rattle.std.proofs.lemmas.Slice.Eq.{bytes_eq-Decides}
pub use Rattle.std.specs.List.{AllZip, last_or, list_all, list_any, onto_first, slice_split, starts_with}
pub use Rattle.std.specs.Option.{IfSome}
pub use Rattle.dump_rules.specs.Prefix.{bare_path, bare_prefix, begins_path, matches_path}
pub use Rattle.dump_rules.specs.Renumbering.{KeptRevisions, image, new_number}
pub use Rattle.dump_rules.specs.Settings.{Settings, keeps_path, side_keeps}
pub use Rattle.dump_text.specs.PropertyList.{Property}
pub use Rattle.dump_trees.specs.Changes.{Change, History, Made, PropertyChange, TextChange, copied, deleted, edited_with, has_directory, is_copied, is_directory_at, made_in, new_props, new_text, node_put, props_put, props_set, step, steps, text_set, with_entry, with_props, with_text}
pub use Rattle.dump_trees.specs.steps.FrontLaws.{BegunTreesStay, EachFrontRestricts, FrontLoads, FrontRestricts}
pub use Rattle.dump_trees.specs.HistoryLaws.{ImagesRestrict}
pub use Rattle.dump_trees.specs.steps.HistoryLaws.{EachHistoryRestricts, EachRevisionRestricts, HistoryRestricts}
pub use Rattle.dump_trees.specs.MovedLaws.{AreRevisionsBehind, IsChangeBehind, change_behind, made_behind, revisions_behind}
pub use Rattle.dump_trees.specs.steps.MovedLaws.{AllAreAlike, AreAlike, EachLoadsAlike, LoadsAlike}
pub use Rattle.dump_trees.specs.steps.PathLaws.{KeepsAsTextDoes, TextsAreRead}
pub use Rattle.dump_trees.specs.Paths.{NodePath, below, is_name, is_short, keeps, names_of, parent_of, path_of, path_text}
pub use Rattle.dump_trees.specs.Quiet.{are_quiet, cuts_alike, cuts_one, holds_of_some, is_over, is_quiet, is_quiet_dropped, is_quiet_kept, none_is_over, nowhere_is_over, rest_of_prefix}
pub use Rattle.dump_trees.specs.steps.Quiet.{AllQuietSeparate, QuietSeparates}
pub use Rattle.dump_trees.specs.Restriction.{AreNewProps, IsNewNode, IsRestricted, NewNumber, NewProperty, given, is_above, is_above_some, is_given, is_lost, is_root}
pub use Rattle.dump_trees.specs.steps.Restriction.{IsNewChange, IsNewMade, KeepsEntries, edits_props, filtered_made, filtered_props, sets_whole, sets_whole_text}
pub use Rattle.dump_trees.specs.Revisions.{AllRevisionsSeparate, AllSeparate, IsWrittenNumber, loaded, loaded_over}
pub use Rattle.dump_trees.specs.steps.Revisions.{AreFiltered, AreNewChanges, AreNewRevisions, EmptyRule, keeps_revision, kept_from, kept_of, names_kept, names_none, names_none_behind, stays_numbered}
pub use Rattle.dump_trees.specs.Separation.{CopySeparates, LeavesKept, PlainSeparates, Separates, has_no_props}
pub use Rattle.dump_trees.specs.steps.StepLaws.{AllHaveDirectories, AreRestricted, DroppedStepRestricts, EachStepRestricts, FilteredIsNew, IsMade, IsRenumbered, KeptStepRestricts}
pub use Rattle.dump_trees.specs.steps.TreeLaws.{GivesNothingBelowKept, KeepsNothingBelowLeft, KeepsOrGivesAbove}
pub use Rattle.dump_trees.specs.Trees.{Node, Tree, at_or_below, at_top, empty_tree, grafted, is_directory_node, put, root_alone}
pub use Rattle.dump_trees.specs.steps.Trees.{HasDirectories}
pub use Rattle.dump_rules.specs.declared.options.Empty.TheVariants.{DropEmptied, Pad}
pub use Rattle.dump_rules.specs.declared.options.Side.{Side}
pub use Rattle.dump_rules.specs.declared.options.Side.TheVariants.{Exclude, Include}
