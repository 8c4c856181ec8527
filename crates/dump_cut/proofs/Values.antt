-- Examples for the definitions; the checker computes them.
use Rattle.std.proofs.Common.{◌≡◌, ℕ, List, [], ◌∷◌, codes, refl}
use Rattle.dump_text.specs.Names.{revision_name, version_name}
use Rattle.dump_records.specs.RecordText.{DumpRecord}
use Rattle.dump_digest.specs.RecordParts.{is_revision_record}
use Rattle.dump_cut.specs.LaterParts.{is_later_revision, place_of_first, version_before_first}

-- laterParts

-- a record with one line
abbrev one_line : ℕ → List ℕ → List ℕ → DumpRecord
one_line place name value =
    record { place = place; version = 2; headers = record { name = name; value = value } ∷ []; props = []; text = [] }

-- revisions 0, 1 and 2
abbrev three : List DumpRecord
three = one_line 0 version_name (codes "2") ∷ one_line 32 revision_name (codes "0") ∷ one_line 52 revision_name (codes "1")
    ∷ one_line 72 revision_name (codes "2") ∷ []

first_place : place_of_first is_revision_record 92 three ≡ 32
first_place = refl

after_one : place_of_first (is_later_revision 1) 92 three ≡ 72
after_one = refl

after_the_last : place_of_first (is_later_revision 2) 92 three ≡ 92
after_the_last = refl

version_in_force : version_before_first (is_later_revision 1) 0 three ≡ 2
version_in_force = refl

no_version_yet : version_before_first is_revision_record 0 (one_line 0 revision_name (codes "0") ∷ []) ≡ 0
no_version_yet = refl
