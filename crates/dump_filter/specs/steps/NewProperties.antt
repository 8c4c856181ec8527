-- The properties that are written for a record.
use Rattle.std.specs.Prelude.{ℕ, List, [], ◌∷◌, Option, Some, None, codes, IsTrue}
use Rattle.dump_text.specs.PropertyList.{Property}
use Rattle.dump_records.specs.steps.RecordViews.{record_item}
use Rattle.dump_digest.specs.declared.done.Done.{Done}
use Rattle.dump_digest.specs.steps.DoneViews.{done_record, done_settings, done_verdict}
use Rattle.dump_digest.specs.RecordParts.{is_kept_node}
use Rattle.dump_filter.specs.NewContent.{padding_log}

-- the property with this name and value
abbrev pub property_of : List ℕ → List ℕ → Property
property_of name value = record { name = name; value = Some value }

-- the properties of a padded revision, with this date if there is one
abbrev pub dated_padding : Option (List ℕ) → List Property
dated_padding None = padding_log ∷ []
dated_padding (Some date) = property_of (codes "svn:date") date ∷ padding_log ∷ []

-- the record is a kept node, and its properties and all its mergeinfo can be read
abbrev pub IsReadNode : Done → Type 0
IsReadNode d = IsTrue (is_kept_node (done_settings d) (record_item (done_record d)))
    × IsTrue (done_verdict d).props_ok × IsTrue (done_verdict d).merge_ok
