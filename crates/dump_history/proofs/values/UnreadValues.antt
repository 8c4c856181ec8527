-- Examples of revisions whose properties can't be read.
use Rattle.dump_history.proofs.Prelude.{◌↔◌, Bool, true, ◌≡◌, ◌&&◌, IsTrue, refl, ap, arith, list_any, and_from, both_ways, DumpRecord, finds, is_revision_record, groups, NamesRevisionBehind, HasUnreadRevision, AreDumpFindingsOf, groups_name_behind}
use Rattle.std.proofs.Common.{ℕ, false, List, [], ◌∷◌, codes}
use Rattle.dump_history.proofs.survey.NamingTest.{names_test, test_tells, behind_told}
use Rattle.dump_history.proofs.values.WorkedDump.{version, zero, one, two, trunk, settings, none_of}
use Rattle.dump_history.proofs.values.DumpValues.{with_props, unreadable}
use Rattle.dump_history.specs.declared.findings.DumpFinding.TheVariants as dump_wide

abbrev pub has_bytes : List ℕ → Bool
has_bytes [] = false
has_bytes (b ∷ bytes) = true

-- the record is a revision with property bytes
abbrev pub may_be_unread : DumpRecord → Bool
may_be_unread r = is_revision_record r && has_bytes r.props

-- if no revision has property bytes, the properties of each can be read
pub none_unread : (rs : List DumpRecord) → list_any may_be_unread rs ≡ false → ¬ HasUnreadRevision rs
none_unread rs none (r, there, (is, unread)) = by r.props refl
  where
    by : (props : List ℕ) → r.props ≡ props → ⊥
    by [] empty = unread ([], none_of r empty)
    by (b ∷ bytes) some = both_ways (list_any may_be_unread rs) none
        (finds may_be_unread rs r there (and_from (is_revision_record r) (has_bytes r.props) is (ap has_bytes some)))

-- and this is found
pub told_read : (rs : List DumpRecord) → list_any may_be_unread rs ≡ false → IsTrue false ↔ HasUnreadRevision rs
told_read rs none = (λ bad. cc, λ has. absurd (none_unread rs none has))

abbrev unread_one : DumpRecord
unread_one = with_props one (codes "x")

-- whether a kept node names a revision, which doesn't matter if revisions are renumbered
abbrev named : List DumpRecord → Bool
named rs = groups_name_behind settings names_test (groups rs)

named_told : (rs : List DumpRecord) → IsTrue (named rs) ↔ NamesRevisionBehind settings rs
named_told rs = behind_told settings names_test test_tells (groups rs)

-- a revision whose properties can't be read, before another one and after one
abbrev with_unread : List DumpRecord
with_unread = version ∷ zero ∷ unread_one ∷ two ∷ []

unread_found : AreDumpFindingsOf settings with_unread (dump_wide.UnreadRevision ∷ [])
unread_found = (
  record { named = named with_unread; unread = true },
  record {
    named = named_told with_unread;
    unread = (λ so. (unread_one, (2, omega arith, refl), (refl, unreadable one)), λ has. refl);
  },
  refl,
)

-- one whose number is that of the revision before it
abbrev unread_again : List DumpRecord
unread_again = version ∷ zero ∷ one ∷ unread_one ∷ []

both_found : AreDumpFindingsOf settings unread_again
    (dump_wide.OtherNumbers ∷ dump_wide.NumberFalls ∷ dump_wide.UnreadRevision ∷ [])
both_found = (
  record { named = named unread_again; unread = true },
  record {
    named = named_told unread_again;
    unread = (λ so. (unread_one, (3, omega arith, refl), (refl, unreadable one)), λ has. refl);
  },
  refl,
)

-- a node whose properties can't be read is none
abbrev unread_node : List DumpRecord
unread_node = version ∷ zero ∷ one ∷ with_props trunk (codes "x") ∷ []

none_found : AreDumpFindingsOf settings unread_node []
none_found = (
  record { named = named unread_node; unread = false },
  record { named = named_told unread_node; unread = told_read unread_node refl },
  refl,
)
