-- The words of std, of the definitions and of the lemmas below, for the proofs of this crate.
pub use Rattle.std.proofs.Common.{Bool, Bor, List, None, Option, [], ap, arith, bytes_eq, codes, cond, false, if◌then◌else◌, inr, is_some, length, not, option_copied, refl, suc, sym, true, ℕ, ◌&&◌, ◌++◌, ◌==◌, ◌||◌, ◌∙◌, ◌∷◌, ◌≡◌}
pub use Rattle.std.proofs.Math.Bool.{or-false}
pub use Rattle.std.proofs.lemmas.List.Folds.{list_any-append}
pub use Rattle.std.proofs.lemmas.Slice.Eq.{bytes_eq-Decides}
pub use Rattle.std.specs.List.{list_all, onto_first}
pub use Rattle.dump_digest.specs.RecordParts.{is_copy, is_node}
pub use Rattle.dump_records.specs.RecordText.{DumpRecord}
pub use Rattle.dump_records.specs.steps.RecordViews.{part_of_node, record_item}
pub use Rattle.dump_rules.specs.Prefix.{bare_path}
pub use Rattle.dump_history.specs.RecordChanges.{is_plain_line}
pub use Rattle.dump_text.proofs.BlockLemmas.{has_value}
pub use Rattle.dump_text.proofs.PropertyLemmas.{entry_parts, left_of, property_block_once}
pub use Rattle.dump_text.proofs.ValueLemmas.{some_copied}
pub use Rattle.dump_text.specs.HeaderBlock.{block_text, lines_bytes}
pub use Rattle.dump_text.specs.HeaderLine.{Header, has_byte, header_text, header_value}
pub use Rattle.dump_text.specs.Names.{action_name, copy_path_name}
pub use Rattle.dump_text.specs.PropertyList.{IsPropertyBlock, Property}
pub use Rattle.dump_text.specs.steps.PropertyViews.{HasEntriesLeft, entry_property, props_bytes}
pub use Rattle.dump_trees.proofs.paths.PathNames.{split, split_text}
pub use Rattle.dump_trees.specs.Paths.{is_short, names_of, path_text}
pub use Rattle.dump_nodes.specs.steps.Actions.{action_named, is_deleting, is_known_action, is_making}
pub use Rattle.dump_nodes.specs.steps.Names.{are_short_from, is_whole, name_with}
pub use Rattle.dump_nodes.specs.declared.action.Action.{Action}
pub use Rattle.dump_nodes.specs.declared.action.Action.TheVariants.{Add, Change, Delete, Replace, Unknown}
pub use Rattle.dump_nodes.specs.declared.canonical_path.Name.{Name}
pub use Rattle.dump_nodes.specs.declared.canonical_path.Name.TheVariants.{Dot}
