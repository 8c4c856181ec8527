use Rattle.std.proofs.Common.{◌≡◌, ℕ, List, ◌++◌, map, OnOk, option_copied, sym, ap, ◌∙◌, subst}
use Rattle.dump_text.specs.PropertyList.{property_block_text}
use Rattle.dump_history.specs.WrittenNodes.{WrittenNode}
use Rattle.dump_history.specs.steps.WrittenNodes.{node_bytes}
use Rattle.dump_changes.specs.steps.ChangedProperties.{as_property}
use Rattle.dump_changes.specs.steps.MadeTexts.{told_of_file}
use Rattle.dump_expansion.specs.steps.NewNodes.{written_of}
use Rattle.dump_expansion.specs.declared.written_node.NewNode.{NewNode}
use Rattle.dump_expansion.proofs.written_node.NewNode.write.Goals as goal

pub returns-in_ok-block-in-Directory : goal.returns-in_ok-block-in-Directory
returns-in_ok-block-in-Directory c =
    let text = c.args.out.now.items in
    let more = c.push_directory.new.out.items in
    let entries = map as_property c.in-Directory.entries.items in
    subst (λ (node : NewNode). OnOk c.push_directory.result (more ≡ text ++ node_bytes (written_of node)))
    (sym c.in-Directory.is)
    (subst (λ (path : List ℕ). OnOk c.push_directory.result
    (more ≡ text ++ node_bytes (WrittenNode.Directory c.in-Directory.replaces path entries)))
    c.deref-in-Directory-2.ensures.value
    (c.push_directory.ensures entries
    (c.deref-in-Directory-3.ensures.value ∙ c.in_ok-block-in-Directory.ensures
    ∙ ap (λ es. property_block_text (map as_property es)) c.deref-in-Directory.ensures.value)))

pub returns-in_ok-block-in-File : goal.returns-in_ok-block-in-File
returns-in_ok-block-in-File c =
    let text = c.args.out.now.items in
    let more = c.push_file.new.out.items in
    let its = told_of_file c.in-File.text in
    let entries = map as_property c.in-File.entries.items in
    subst (λ (node : NewNode). OnOk c.push_file.result (more ≡ text ++ node_bytes (written_of node)))
    (sym c.in-File.is)
    (subst (λ (path : List ℕ). OnOk c.push_file.result
    (more ≡ text ++ node_bytes (WrittenNode.File c.in-File.replaces path entries its.text its.md5 its.sha1)))
    c.deref-in-File-2.ensures.value
    (c.push_file.ensures entries
    (c.deref-in-File-3.ensures.value ∙ c.in_ok-block-in-File.ensures
    ∙ ap (λ es. property_block_text (map as_property es)) c.deref-in-File.ensures.value)))
