-- The fate of the next record, or its fault.
use Rattle.std.specs.Prelude.{◌≡◌, ◌⊎◌, ℕ, ◌<◌, Bool, true, false, not, ◌&&◌, List, Option, Some, None, nat_lt, Result, Ok, Err, if◌then◌else◌, IsTrue}
use Rattle.dump_text.specs.declared.fault.FaultKind.{FaultKind}
use Rattle.dump_text.specs.declared.fault.FaultKind.TheVariants.{Order, Props, Md5, Sha1, CopySource, CopyRevision}
use Rattle.dump_text.specs.Names.{copy_revision_name}
use Rattle.dump_text.specs.PropertyList.{Property}
use Rattle.dump_records.specs.HeaderRules.{header_number}
use Rattle.dump_records.specs.RecordText.{DumpRecord}
use Rattle.dump_records.specs.steps.RecordViews.{part_of_node}
use Rattle.dump_rules.specs.Settings.{Settings}
use Rattle.dump_rules.specs.Renumbering.{KeptRevisions, image}
use Rattle.dump_digest.specs.RecordParts.{is_revision_record, is_node, is_kept_node, HasPropertyList}
use Rattle.dump_digest.specs.declared.verdict.Verdict.{Verdict}
use Rattle.dump_filter.specs.Groups.{revision_number}
use Rattle.dump_filter.specs.NewHeaders.{is_whole_file, stays_copy}
use Rattle.dump_digest.specs.RecordParts.{has_lost_source}
use Rattle.dump_digest.specs.steps.MergeFaults.{merge_fault}
use Rattle.dump_filter.specs.declared.copies.CopyChange.{CopyChange}
use Rattle.dump_filter.specs.declared.copies.CopyChange.TheVariants.{Same, Renumbered, Dropped}
use Rattle.dump_filter.specs.declared.decide.Fate.{Fate}
use Rattle.dump_filter.specs.declared.decide.Fate.TheVariants as fates
use Rattle.dump_filter.specs.steps.State.{PresentGroup, State, node_revision}
use Rattle.dump_filter.specs.steps.State.PresentGroup.{NoGroup}
use Rattle.dump_filter.specs.steps.Advance.{front_kept}

-- whether the next record may be a node
abbrev pub takes_node : PresentGroup → Bool
takes_node NoGroup = false
takes_node _ = true

-- whether a revision of this number may follow the present one
abbrev pub rises : Option ℕ → ℕ → Bool
rises None number = true
rises (Some present) number = nat_lt present number

-- whether the record may come next
abbrev pub is_in_order : State → DumpRecord → Bool
is_in_order s r =
    if is_node r then takes_node s.group
    else if is_revision_record r then rises s.revisions.present (revision_number r) else true

-- whether a node is copied from a path that isn't kept, and needs its source
abbrev pub is_orphan : Settings → DumpRecord → Bool
is_orphan settings r = has_lost_source settings r && not (is_whole_file r)

-- the revision of a copy has no image, or is above the present one
abbrev pub HasNoSource : Settings → KeptRevisions → ℕ → DumpRecord → Type 0
HasNoSource settings kept present r = IsTrue (settings.renumber && stays_copy settings r)
    × (number : ℕ) × (header_number copy_revision_name r.headers ≡ Some number)
    × ((image kept number ≡ None) ⊎ (present < number))

-- a copy of the revision with this image, if there is one
abbrev pub imaged : Option ℕ → Result CopyChange FaultKind
imaged None = Err CopyRevision
imaged (Some n) = Ok (Renumbered n)

-- what the filter does with the source of a kept node that remains a copy of this revision, if there is one
abbrev pub source_change : Settings → KeptRevisions → ℕ → Option ℕ → Result CopyChange FaultKind
source_change settings kept present None = Ok Same
source_change settings kept present (Some number) =
    if settings.renumber then (if nat_lt present number then Err CopyRevision else imaged (image kept number))
    else Ok (Renumbered number)

-- what the filter does with the copy source of a kept node, or its fault
abbrev pub copy_change : Settings → KeptRevisions → ℕ → DumpRecord → Result CopyChange FaultKind
copy_change settings kept present r =
    if has_lost_source settings r then (if is_whole_file r then Ok Dropped else Err CopySource)
    else source_change settings kept present (part_of_node r (header_number copy_revision_name r.headers))

-- the node is kept with this copy source, if it has no other fault
abbrev pub kept_unless : Option FaultKind → CopyChange → Result Fate FaultKind
kept_unless None copy = Ok (fates.Keep copy)
kept_unless (Some fault) copy = Err fault

-- the fault of a node's copy source comes before its other fault
abbrev pub with_fault : Result CopyChange FaultKind → Option FaultKind → Result Fate FaultKind
with_fault (Ok copy) fault = kept_unless fault copy
with_fault (Err fault) other = Err fault

-- the fate of a node that the options keep, or the fault of its copy source or of its mergeinfo
abbrev pub node_fate : Settings → State → DumpRecord → Bool → List Property → Result Fate FaultKind
node_fate settings s r merge_ok ps =
    let present = node_revision s.revisions in
    with_fault (copy_change settings (front_kept s.revisions.kept s.group) present r)
    (merge_fault settings s.revisions.kept.first present merge_ok ps)

-- the fate of a record that is in order and can be read, or its fault
abbrev pub fate_of : Settings → State → DumpRecord → Bool → List Property → Result Fate FaultKind
fate_of settings s r merge_ok ps =
    if is_node r then (if is_kept_node settings r then node_fate settings s r merge_ok ps else Ok fates.Drop)
    else if is_revision_record r then Ok fates.Hold else Ok fates.Pass

-- the fate of the next record, with this verdict and these properties, or its fault
abbrev pub decided : Settings → State → DumpRecord → Verdict → List Property → Result Fate FaultKind
decided settings s r v ps =
    if is_in_order s r then
    (if v.props_ok then
    (if v.md5_ok then
    (if v.sha1_ok then fate_of settings s r v.merge_ok ps
    else Err Sha1)
    else Err Md5)
    else Err Props)
    else Err Order

-- the properties are those of the record, if it is a kept node and they can be read
abbrev pub AreAsked : Settings → DumpRecord → Verdict → List Property → Type 0
AreAsked settings r v ps = is_kept_node settings r ≡ true → v.props_ok ≡ true → HasPropertyList r ps
