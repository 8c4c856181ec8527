-- The texts of records, as values of the specs.
use Rattle.std.specs.Prelude.{option_copied}
use Rattle.dump_changes.specs.steps.FileTexts.{ToldText}
use Rattle.dump_changes.specs.declared.node_text.NodeText.{NodeText}

-- the text and its digests, as such a value
abbrev pub told_of : NodeText → ToldText
told_of t = record { text = t.text.now; md5 = option_copied t.md5; sha1 = option_copied t.sha1 }
