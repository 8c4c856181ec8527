-- Examples of the map of revisions; the checker computes and proves them.
use Rattle.dump_survey.proofs.Prelude.{◌≡◌, Bool, true, false, List, [], ◌∷◌, refl, codes, DumpRecord, Include, Pad, DropEmptied, DropAll, Settings, kept_revisions, written_number, version, one, trunk, two, other, three}
use Rattle.std.specs.Fmt.{digits}
use Rattle.dump_rules.specs.declared.options.Empty.{Empty}
use Rattle.dump_history.proofs.values.WorkedDump.{zero}
use Rattle.dump_survey.specs.RevisionMap.{map_line}
use Rattle.dump_rules.specs.PlainSettings.{plain_settings}

-- revision 0 has no node, 1 has a kept node, 2 has a dropped one, and 3 has none
abbrev worked : List DumpRecord
worked = version ∷ zero ∷ one ∷ trunk ∷ two ∷ other ∷ three ∷ []

abbrev trunk_alone : Empty → Bool → Settings
trunk_alone empty renumber = record (plain_settings Include (codes "trunk" ∷ [])) { empty = empty; renumber = renumber }

-- padded revisions are kept
padded_kept : (kept_revisions (trunk_alone Pad true) worked).numbers ≡ 0 ∷ 1 ∷ 2 ∷ 3 ∷ []
padded_kept = refl

emptied_dropped : (kept_revisions (trunk_alone DropEmptied true) worked).numbers ≡ 0 ∷ 1 ∷ 3 ∷ []
emptied_dropped = refl

all_empty_dropped : (kept_revisions (trunk_alone DropAll true) worked).numbers ≡ 0 ∷ 1 ∷ []
all_empty_dropped = refl

renumbered : written_number (trunk_alone DropEmptied true) (kept_revisions (trunk_alone DropEmptied true) worked) 3 ≡ 2
renumbered = refl

number_stays : written_number (trunk_alone DropEmptied false) (kept_revisions (trunk_alone DropEmptied false) worked) 3 ≡ 3
number_stays = refl

-- the line of a revision
lowered : map_line (trunk_alone DropEmptied true) (record { first = 0; numbers = 0 ∷ 1 ∷ 3 ∷ [] }) 3
    ≡ codes "r3 becomes r2\n"
unfolding map_line digits
lowered = refl

-- a partial dump counts from its first revision, which may be dropped
from_the_first : map_line (trunk_alone DropAll true) (record { first = 7; numbers = 9 ∷ 12 ∷ [] }) 12
    ≡ codes "r12 becomes r8\n"
unfolding map_line digits
from_the_first = refl
