use Rattle.dump_changes.proofs.Prelude.{◌∙◌, List, ap, map, subst, sym, IsPropertyBlock}
use Rattle.std.proofs.lemmas.Result.{on_ok_weaker}
use Rattle.dump_trees.specs.Changes.{edited_with}
use Rattle.dump_history.specs.RecordChanges.{property_change_of}
use Rattle.dump_index.specs.steps.IndexLaws.{HasProps}
use Rattle.dump_index.specs.declared.change.Setting.{Setting}
use Rattle.dump_changes.specs.steps.ChangedProperties.{as_property}
use Rattle.dump_changes.proofs.EditLemmas.{replaced}
use Rattle.dump_changes.proofs.property_edit.apply_block.Goals as goal

pub returns-in-Replaces : goal.returns-in-Replaces
returns-in-Replaces c =
    on_ok_weaker c.apply_entries.result (λ edited r ps same block has.
    replaced r ps _ _
    (subst (λ (s : Setting). HasProps s (property_change_of r ps)) c.in-Replaces.is has)
    (edited ps (subst (λ (b : List _). IsPropertyBlock b ps) (same ∙ sym (c.in-Some.ensures.bytes)) block)
    ∙ ap (λ items. edited_with ps (map as_property items)) c.clear.ensures.items))
    c.apply_entries.ensures
