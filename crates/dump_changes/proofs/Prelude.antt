-- The names of std, of the definitions and of the lemmas below, for the proofs of this crate.
pub use Rattle.std.proofs.Common.{Bool, List, None, Option, Some, [], ap, append-nil, append_assoc, arith, bytes_eq, codes, cond, false, if◌then◌else◌, inl, inr, is_some, length, map, not, option_map, refl, subst, suc, sym, true, zero, ℕ, ◌&&◌, ◌++◌, ◌+◌, ◌-◌, ◌<◌, ◌∙◌, ◌∷◌, ◌≡◌, ◌≤◌}
pub use Rattle.std.proofs.lemmas.Bool.{and_from, and_parts}
pub use Rattle.std.specs.List.{AllZip}
pub use Rattle.dump_digest.specs.RecordParts.{HasPropertyBlock, HasPropertyList, is_node, is_revision_record, node_path}
pub use Rattle.dump_records.specs.DumpText.{Ending, HasRecords}
pub use Rattle.dump_records.specs.RecordText.{DumpRecord}
pub use Rattle.dump_records.specs.steps.CutRecords.{EndsAfter}
pub use Rattle.dump_records.specs.steps.CutterState.{CutterState}
pub use Rattle.dump_records.specs.steps.RecordViews.{CutStep, record_item, record_number}
pub use Rattle.dump_rules.specs.Prefix.{bare_path}
pub use Rattle.dump_history.specs.Findings.{IsReadBlock}
pub use Rattle.dump_history.specs.RecordChanges.{Patching, MakesChange}
pub use Rattle.dump_text.proofs.PropertyLemmas.{entry_parts, left_of, property_block_once}
pub use Rattle.dump_text.specs.PropertyList.{IsPropertyBlock, Property}
pub use Rattle.dump_text.specs.steps.PropertyViews.{entry_property}
pub use Rattle.dump_trees.specs.Paths.{names_of, path_of}
pub use Rattle.dump_records.specs.declared.record.Record.{Record}
pub use Rattle.dump_text.specs.declared.props.Entry.{Entry}
pub use Rattle.dump_text.specs.declared.props.Props.{Props}
