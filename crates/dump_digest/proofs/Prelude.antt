-- The words of std, of the definitions and of the lemmas below, for the proofs of this crate.
pub use Rattle.std.proofs.Common.{Bool, Bor, Contains, Err, IfSome, IsFalse, IsNone, IsSome, IsTrue, List, MatchOption, None, Ok, OnOk, Option, Result, Some, [], ap, arith, bytes_eq, codes, false, if◌then◌else◌, inl, inr, is_some, length, lit<, not, refl, subst, suc, sym, true, unwrap_or, zero, ℕ, ◌&&◌, ◌++◌, ◌<◌, ◌^◌, ◌||◌, ◌↔◌, ◌∙◌, ◌∷◌, ◌≡◌, ◌≢◌, ◌⊎◌}
pub use Rattle.std.proofs.Math.Bool.{Bool-set, or-false, or-true, or_assoc}
pub use Rattle.std.proofs.Math.Facts.{Fits-lt-pow}
pub use Rattle.std.proofs.Math.Logic.{∥∥₁_elim}
pub use Rattle.std.proofs.lemmas.Bool.{and_from, and_parts, cases_Bool, false_from_ne_true, false≢true, or_right, true_from_ne_false}
pub use Rattle.std.proofs.lemmas.Bool.Decides.{same_from_decides}
pub use Rattle.std.proofs.lemmas.Option.{same_Some}
pub use Rattle.std.proofs.lemmas.Slice.Eq.{bytes_eq-Decides}
pub use Rattle.std.specs.List.{list_any}
pub use Rattle.std.specs.Option.{ForSome}
pub use Rattle.dump_digest.specs.ContentFaults.{DiffersFromDigest, HasBadMd5, HasBadMergeinfo, HasBadProperties, HasBadSha1, IsMergeinfoValueOf}
pub use Rattle.dump_digest.specs.RecordParts.{HasPropertyBlock, HasPropertyList, has_lost_source, has_text, has_whole_text, is_checked_text, is_copy, is_kept_node, is_mergeinfo, is_node, is_revision_record, node_path, takes_deletes, value_of}
pub use Rattle.dump_digest.specs.steps.Checks.{HasOtherDigest, TellsOther, is_told_text, properties_read, property_reads}
pub use Rattle.dump_digest.specs.steps.ContentViews.{ArePropertiesOf, IsContent, IsSaidBy, is_asked}
pub use Rattle.dump_digest.specs.steps.MergeFaults.{is_foreign, misses}
pub use Rattle.dump_digest.specs.steps.VerdictMeaning.{IsVerdict}
pub use Rattle.dump_records.proofs.HeaderLemmas.{revision_there}
pub use Rattle.dump_records.proofs.Unique.{keeps}
pub use Rattle.dump_records.specs.HeaderRules.{has_bad_number, header_number}
pub use Rattle.dump_records.specs.RecordText.{DumpRecord, is_lawful}
pub use Rattle.dump_records.specs.steps.RecordViews.{record_item}
pub use Rattle.dump_rules.proofs.faults.MergedMeaning.{none_outside}
pub use Rattle.dump_rules.proofs.reading.MergeinfoLemmas.{reads_exactly}
pub use Rattle.dump_rules.specs.Mergeinfo.{HasMergeLines}
pub use Rattle.dump_rules.specs.Settings.{Settings, keeps_path}
pub use Rattle.dump_rules.specs.steps.Merged.{is_outside, no_bounds, nothing_merged}
pub use Rattle.dump_rules.specs.steps.ReadMergeinfo.{value_reads}
pub use Rattle.dump_rules.specs.steps.RewrittenLines.{value_foreign, value_misses}
pub use Rattle.dump_text.proofs.BlockLemmas.{has_value}
pub use Rattle.dump_text.proofs.BoolLemmas.{absurd_bool, false_true, first_true, second_true}
pub use Rattle.dump_text.proofs.PropertyChoice.{changes_or_not}
pub use Rattle.dump_text.proofs.PropertyLemmas.{entry_parts, left_of, property_block_once}
pub use Rattle.dump_text.proofs.ValueLemmas.{some_copied}
pub use Rattle.dump_text.proofs.Values.{no_changes}
pub use Rattle.dump_text.specs.HeaderLine.{Header, has_header, header_value}
pub use Rattle.dump_text.specs.Names.{copy_path_name, md5_name, path_name, revision_name, sha1_name}
pub use Rattle.dump_text.specs.PropertyList.{IsEntry, IsPropertyBlock, Property, has_deletes}
pub use Rattle.dump_text.specs.steps.PropertyViews.{HasEntriesLeft, IsReadingOf, entry_property, props_bytes}
pub use Rattle.dump_digest.specs.declared.content.Content.{Content}
pub use Rattle.dump_digest.specs.declared.node_mergeinfo.Mergeinfo.{Mergeinfo}
pub use Rattle.dump_digest.specs.declared.verdict.Verdict.{Verdict}
pub use Rattle.dump_rules.specs.declared.merged.Bounds.{Bounds}
pub use Rattle.dump_rules.specs.declared.merged.Merged.{Merged}
pub use Rattle.dump_rules.specs.declared.options.Empty.TheVariants.{Pad}
pub use Rattle.dump_rules.specs.declared.options.Side.TheVariants.{Include}
pub use Rattle.dump_text.specs.declared.props.Entry.{Entry}
pub use Rattle.dump_text.specs.declared.props.Props.{Props}
pub use Rattle.dump_text.specs.declared.props.PropsReading.{PropsReading}
