-- How the fate of a record changes a filter: what is written, what the filter stores after the record, and what it
-- counts.
use Rattle.std.specs.Prelude.{◌≡◌, ℕ, ◌+◌, ◌==◌, Bool, true, false, not, ◌&&◌, ◌||◌, List, [], ◌∷◌, ◌++◌, length, Option, Some, None, if◌then◌else◌, MatchBool}
use Rattle.dump_text.specs.HeaderBlock.{block_text}
use Rattle.dump_text.specs.PropertyList.{Property}
use Rattle.dump_records.specs.RecordText.{DumpRecord}
use Rattle.dump_rules.specs.Settings.{Settings}
use Rattle.dump_rules.specs.Renumbering.{KeptRevisions}
use Rattle.dump_filter.specs.Groups.{keeps_empty, is_pad, revision_number}
use Rattle.dump_filter.specs.NewContent.{AreNewProperties}
use Rattle.dump_filter.specs.steps.OwnText.{revision_own, node_own}
use Rattle.dump_filter.specs.steps.State.{PendingRevision, PresentGroup, State}
use Rattle.dump_filter.specs.steps.State.PresentGroup.{NoGroup, Pending, Written}
use Rattle.dump_filter.specs.declared.copies.CopyChange.{CopyChange}
use Rattle.dump_filter.specs.declared.decide.Fate.{Fate}
use Rattle.dump_filter.specs.declared.decide.Fate.TheVariants as fates
use Rattle.dump_filter.specs.declared.state.Report.{Report}
use Rattle.dump_digest.specs.RecordParts.{HasPropertyList}

-- whether the options keep a pending revision if its group ends now
abbrev pub stays : Settings → PendingRevision → Bool
stays settings w = revision_number w.revision == 0 || keeps_empty settings.empty w.bare

-- whether a pending revision is padded if its group ends now
abbrev pub pads : Settings → PendingRevision → Bool
pads settings w = not w.bare && is_pad settings.empty && not settings.preserve

-- the number with which a revision above all kept ones is written
abbrev pub next_number : Settings → KeptRevisions → DumpRecord → ℕ
next_number settings kept r = if settings.renumber then kept.first + length kept.numbers else revision_number r

-- the text is what is written for a revision, whichever properties it has
abbrev pub IsOwnRevision : Settings → KeptRevisions → DumpRecord → Bool → List ℕ → Type 0
IsOwnRevision settings kept r padded text = (ps : List Property) → HasPropertyList r ps
    → text ≡ revision_own r (next_number settings kept r) padded ps

-- the text is what is written for a node with new values of mergeinfo, whichever properties it has
abbrev pub IsOwnNode : Settings → KeptRevisions → DumpRecord → CopyChange → List ℕ → Type 0
IsOwnNode settings kept r copy text = (ps : List Property) → HasPropertyList r ps
    → (new : List Property) × AreNewProperties settings kept ps new × (text ≡ node_own r copy new)

-- the text is what is written when the present group ends
abbrev pub IsEndText : Settings → KeptRevisions → PresentGroup → List ℕ → Type 0
IsEndText settings kept (Pending w) text =
    MatchBool (stays settings w) (IsOwnRevision settings kept w.revision (pads settings w) text) (text ≡ [])
IsEndText settings kept _ text = text ≡ []

-- the text is what is written of a pending revision before its first kept node
abbrev pub IsFrontText : Settings → KeptRevisions → PresentGroup → List ℕ → Type 0
IsFrontText settings kept (Pending w) text = IsOwnRevision settings kept w.revision false text
IsFrontText settings kept _ text = text ≡ []

-- the kept revisions with one more
abbrev pub with_kept : KeptRevisions → DumpRecord → KeptRevisions
with_kept kept r = record kept { numbers = kept.numbers ++ revision_number r ∷ [] }

-- the kept revisions if a pending one is kept for its node
abbrev pub front_kept : KeptRevisions → PresentGroup → KeptRevisions
front_kept kept (Pending w) = with_kept kept w.revision
front_kept kept _ = kept

-- the kept revisions after the present group has ended
abbrev pub end_kept : Settings → KeptRevisions → PresentGroup → KeptRevisions
end_kept settings kept (Pending w) = if stays settings w then with_kept kept w.revision else kept
end_kept settings kept _ = kept

-- the counts with one more kept revision
abbrev pub with_kept_revision : Report → Report
with_kept_revision report = record report { revisions_kept = report.revisions_kept + 1 }

-- the counts with one more dropped revision
abbrev pub with_dropped_revision : Report → Report
with_dropped_revision report = record report { revisions_dropped = report.revisions_dropped + 1 }

-- the counts if a pending revision is kept for its node
abbrev pub front_report : PresentGroup → Report → Report
front_report (Pending w) report = with_kept_revision report
front_report _ report = report

-- the counts after the present group has ended
abbrev pub end_report : Settings → PresentGroup → Report → Report
end_report settings (Pending w) report =
    if stays settings w then with_kept_revision report else with_dropped_revision report
end_report settings _ report = report

-- the state after the present group has a kept node
abbrev pub opened : State → State
opened s = record {
  group = Written;
  revisions = record s.revisions { kept = front_kept s.revisions.kept s.group };
  report = front_report s.group s.report;
}

-- the state after the present group has ended
abbrev pub ended : Settings → State → State
ended settings s = record {
  group = NoGroup;
  revisions = record s.revisions { kept = end_kept settings s.revisions.kept s.group };
  report = end_report settings s.group s.report;
}

-- the group after a node of it was dropped
abbrev pub emptied : PresentGroup → PresentGroup
emptied (Pending w) = Pending (record { revision = w.revision; bare = false })
emptied group = group

-- the kept revisions after the dump's first revision, or after a later one
abbrev pub started : Option ℕ → DumpRecord → KeptRevisions → KeptRevisions
started None r kept = record { first = revision_number r; numbers = [] }
started (Some present) r kept = kept

-- the state after this revision begins a group
abbrev pub begun : State → DumpRecord → State
begun s r = record {
  group = Pending (record { revision = r; bare = true });
  revisions = record {
    kept = started s.revisions.present r s.revisions.kept;
    present = Some (revision_number r);
  };
  report = s.report;
}

-- the state after a record with this fate, without the count of checked texts
abbrev pub fate_state : Settings → State → DumpRecord → Fate → State
fate_state settings s r (fates.Keep copy) =
    let t = opened s in record t { report = record t.report { nodes_kept = t.report.nodes_kept + 1 } }
fate_state settings s r fates.Drop = record s {
  group = emptied s.group;
  report = record s.report { nodes_dropped = s.report.nodes_dropped + 1 };
}
fate_state settings s r fates.Hold = begun (ended settings s) r
fate_state settings s r fates.Pass = ended settings s

-- the count of checked texts, with one more if the text was checked
abbrev pub text_count : Bool → Report → ℕ
text_count checked report = if checked then report.texts_checked + 1 else report.texts_checked

-- the state after a record with this fate, whose text was checked or not
abbrev pub next_state : Settings → State → DumpRecord → Fate → Bool → State
next_state settings s r fate checked =
    let t = fate_state settings s r fate in record t {
      report = record t.report { texts_checked = text_count checked s.report };
    }

-- the text is what is written for the next record, if it has this fate
abbrev pub IsPiece : Settings → State → DumpRecord → Fate → List ℕ → Type 0
IsPiece settings s r (fates.Keep copy) text = (front own : List ℕ) × (text ≡ front ++ own)
    × IsFrontText settings s.revisions.kept s.group front
    × IsOwnNode settings (front_kept s.revisions.kept s.group) r copy own
IsPiece settings s r fates.Drop text = text ≡ []
IsPiece settings s r fates.Hold text = IsEndText settings s.revisions.kept s.group text
IsPiece settings s r fates.Pass text = (front : List ℕ) × (text ≡ front ++ block_text r.headers)
    × IsEndText settings s.revisions.kept s.group front
