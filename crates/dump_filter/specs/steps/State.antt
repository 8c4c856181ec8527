-- What a filter stores about the records that it has accepted.
use Rattle.std.specs.Prelude.{ℕ, ◌+◌, ◌<◌, ◌^◌, Bool, [], None, unwrap_or}
use Rattle.dump_records.specs.RecordText.{DumpRecord}
use Rattle.dump_records.specs.steps.RecordViews.{record_item}
use Rattle.dump_digest.specs.steps.DoneViews.{done_record}
use Rattle.dump_filter.specs.declared.state.Report.{Report}
use Rattle.dump_filter.specs.declared.pending.Pending.{Pending as PendingFields}
use Rattle.dump_filter.specs.declared.state.PresentGroup.{PresentGroup as GroupFields}
use Rattle.dump_filter.specs.declared.state.PresentGroup.TheVariants as groups
use Rattle.dump_filter.specs.declared.revisions.Revisions.{Revisions}
use Rattle.dump_filter.specs.declared.state.State.{State as StateFields}

-- a revision whose group has no kept node so far, and whether it has no node at all
pub record PendingRevision : Type 0 where
  pub revision : DumpRecord
  pub bare : Bool

-- the group to which the next node belongs: there is none, or its revision isn't written yet, or is written
pub data PresentGroup : Type 0 where
  NoGroup : PresentGroup
  Pending : PendingRevision → PresentGroup
  Written : PresentGroup

-- the present group, the kept revisions with the present one, and the counts
pub record State : Type 0 where
  pub group : PresentGroup
  pub revisions : Revisions
  pub report : Report

abbrev pub view_pending : PendingFields → PendingRevision
view_pending p = record { revision = record_item (done_record p.revision); bare = p.bare }

abbrev pub view_group : GroupFields → PresentGroup
view_group groups.None = PresentGroup.NoGroup
view_group (groups.Pending p) = PresentGroup.Pending (view_pending p)
view_group groups.Written = PresentGroup.Written

abbrev pub view_state : StateFields → State
view_state s = record { group = view_group s.group; revisions = s.revisions; report = s.report }

-- no revision so far
abbrev pub no_revisions : Revisions
no_revisions = record { kept = record { first = 0; numbers = [] }; present = None }

-- the state before the first record
abbrev pub new_state : State
new_state = record {
  group = PresentGroup.NoGroup;
  revisions = no_revisions;
  report = record { revisions_kept = 0; revisions_dropped = 0; nodes_kept = 0; nodes_dropped = 0; texts_checked = 0 };
}

-- the number of the revision to which the next node belongs; 0 if there is none, because then a node may not come next
abbrev pub node_revision : Revisions → ℕ
node_revision revisions = unwrap_or revisions.present 0

-- 1 if a revision is pending
abbrev pub pending_count : PresentGroup → ℕ
pending_count (PresentGroup.Pending w) = 1
pending_count _ = 0

-- the revisions that are counted, with the pending one
abbrev pub revision_count : State → ℕ
revision_count s = s.report.revisions_kept + s.report.revisions_dropped + pending_count s.group

-- each count has room for one more record; a pending revision is counted when its group ends
pub record CanCountMore (s : State) : Type 0 where
  pub revisions : revision_count s < 2 ^ 64
  pub nodes_kept : s.report.nodes_kept + 1 < 2 ^ 64
  pub nodes_dropped : s.report.nodes_dropped + 1 < 2 ^ 64
  pub texts : s.report.texts_checked + 1 < 2 ^ 64
