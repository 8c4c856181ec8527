-- What a check reads from a record in addition to its verdict.
use Rattle.std.specs.Prelude.{◌≡◌, ◌↔◌, ◌<◌, ◌^◌, ℕ, Bool, true, ◌&&◌, ◌||◌, List, Option, is_some, IsSome, IsTrue}
use Rattle.std.specs.List.{list_any}
use Rattle.std.specs.Option.{ForSome}
use Rattle.dump_text.specs.declared.props.Props.{Props}
use Rattle.dump_text.specs.PropertyList.{Property}
use Rattle.dump_text.specs.steps.PropertyViews.{props_bytes, IsReadingOf}
use Rattle.dump_records.specs.RecordText.{DumpRecord}
use Rattle.dump_rules.specs.Settings.{Settings}
use Rattle.dump_rules.specs.steps.Merged.{is_outside}
use Rattle.dump_digest.specs.declared.content.Content.{Content}
use Rattle.dump_digest.specs.declared.node_mergeinfo.Mergeinfo.{Mergeinfo}
use Rattle.dump_digest.specs.steps.Checks.{properties_read}
use Rattle.dump_digest.specs.steps.MergeFaults.{misses, is_foreign}
use Rattle.dump_digest.specs.RecordParts.{is_revision_record, is_kept_node, HasPropertyList, HasPropertyBlock, is_mergeinfo, has_lost_source}
use Rattle.dump_digest.specs.steps.VerdictMeaning.{IsVerdict}

-- this is the mergeinfo in the properties, each value of which can be read
pub record IsSaidBy (settings : Settings) (ps : List Property) (m : Mergeinfo) : Type 0 where
  pub read : properties_read ps ≡ true
  pub found : m.found ≡ list_any is_mergeinfo ps
  pub sources : m.said.misses ≡ list_any (misses settings) ps
  pub numbers : (first present : ℕ) → first < 2 ^ 64 →
      is_outside settings first present m.said.numbers ≡ list_any (is_foreign settings first present) ps

-- whether the properties of the record are read: those of a revision and of a kept node
abbrev pub is_asked : Settings → DumpRecord → Bool
is_asked settings r = is_revision_record r || is_kept_node settings r

-- these are the record's properties, if they can be read
pub record ArePropertiesOf (r : DumpRecord) (found : Option Props) : Type 0 where
  pub bytes : ForSome found (λ props. props_bytes props ≡ r.props)
  pub there : IsSome found ↔ HasPropertyBlock r

-- the mergeinfo that was read, whose fields are next to the others
abbrev pub mergeinfo_in : Content → Mergeinfo
mergeinfo_in c = record { found = c.has_mergeinfo; said = record { misses = c.misses_source; numbers = c.numbers } }

-- what was read is the record's: its verdict, whether it is kept, its properties, its mergeinfo and its copy source
pub record IsContent (settings : Settings) (r : DumpRecord) (c : Content) : Type 0 where
  pub verdict_is : IsVerdict settings r c.verdict
  pub kept_is : c.kept ≡ is_kept_node settings r
  pub asked : is_some c.props ≡ (is_asked settings r && c.verdict.props_ok)
  pub reading : ForSome c.props (λ reading. IsReadingOf reading r.props)
  pub said : IsTrue (is_kept_node settings r) → IsTrue c.verdict.merge_ok → (ps : List Property) → HasPropertyList r ps
      → IsSaidBy settings ps (mergeinfo_in c)
  pub lost : IsTrue (is_kept_node settings r) → c.lost_source ≡ has_lost_source settings r
