-- The new copy source of a kept node, and the image of a number after a pending revision.
use Rattle.dump_filter.proofs.Prelude.{◌≡◌, ℕ, ◌+◌, ◌<◌, ◌≤◌, length, true, refl, sym, ap, subst, Option, Some, None, is_some, MatchOption, Bool, List, MatchBool, spelled_number, copy_revision_name, Header, with_header_value, header_number, Settings, KeptRevisions, image, image_pushed, image_at_pushed, length_fits, revision_number, IsWrittenCopyNumber, Revisions, PendingRevision, PresentGroup, no_revisions, NoGroup, Pending, absurd_bool, front_kept, takes_node, AreRising, AreKept}
use Rattle.dump_filter.proofs.groups.KeptLemmas.{below_pending}

-- the lines of a copy with the new number of its source, and the unchanged lines of a node that is no copy
abbrev pub AreCopyLines : Settings → KeptRevisions → List Header → Bool → List Header → Type 0
AreCopyLines settings kept old copies new =
    MatchBool copies
    ((n m : ℕ) × (header_number copy_revision_name old ≡ Some n) × IsWrittenCopyNumber settings kept n m
    × (new ≡ with_header_value copy_revision_name (spelled_number m) old))
    (new ≡ old)

-- a pending revision is that of a group
no_pending : (w : PendingRevision) → Pending w ≡ NoGroup → ⊥
no_pending w e = cc

-- if a revision is pending, it is the present one
pub pending_rising : (revisions : Revisions) (w : PendingRevision) → AreKept revisions (Pending w)
    → AreRising revisions.kept (revision_number w.revision) (Pending w)
pending_rising revisions w = by_present revisions.present
  where
    by_present : (p : Option ℕ) → AreKept (record revisions { present = p }) (Pending w)
        → AreRising revisions.kept (revision_number w.revision) (Pending w)
    by_present None (none, group) = absurd (no_pending w group)
    by_present (Some p) up = subst (λ n. AreRising revisions.kept n (Pending w)) (sym up.waits) up

-- the number that a pending revision gets is at most its own
pub next_fits : (revisions : Revisions) (w : PendingRevision) → AreKept revisions (Pending w)
    → revisions.kept.first + length revisions.kept.numbers ≤ revision_number w.revision
next_fits revisions w kept =
    let up = pending_rising revisions w kept in
    length_fits revisions.kept (revision_number w.revision) up.rise
    (below_pending revisions.kept w (revision_number w.revision) up) up.low

-- the image of a number from the pending revision on
pub image_at_pending : (revisions : Revisions) (w : PendingRevision) (n : ℕ) → AreKept revisions (Pending w)
    → revision_number w.revision ≤ n
    → image (front_kept revisions.kept (Pending w)) n ≡ Some (revisions.kept.first + length revisions.kept.numbers)
image_at_pending revisions w n kept low =
    image_at_pushed revisions.kept (revision_number w.revision) n
    (below_pending revisions.kept w (revision_number w.revision) (pending_rising revisions w kept)) low

-- the image of a number below it
pub image_before_pending : (kept : KeptRevisions) (w : PendingRevision) (n : ℕ) → n < revision_number w.revision
    → image (front_kept kept (Pending w)) n ≡ image kept n
image_before_pending kept w n low = image_pushed kept (revision_number w.revision) n low

-- if the next record may be a node, there is a present revision
pub present_there : (revisions : Revisions) (group : PresentGroup) → AreKept revisions group → takes_node group ≡ true
    → is_some revisions.present ≡ true
present_there revisions group kept taken = cases revisions.present kept
  where
    cases : (present : Option ℕ) → MatchOption present ((revisions.kept ≡ no_revisions.kept) × (group ≡ NoGroup))
        (λ p. AreRising revisions.kept p group) → is_some present ≡ true
    cases (Some p) up = refl
    cases None none = absurd (absurd_bool (takes_node group) taken (ap takes_node none.1))
