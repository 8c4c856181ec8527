-- The first record that causes each finding in a dump as a whole, record by record.
use Rattle.std.specs.Prelude.{◌≡◌, Bool, Option, Some, None, IsTrue, if◌then◌else◌}
use Rattle.dump_survey.specs.declared.findings.places.DumpPlaces.{DumpPlaces}
use Rattle.dump_survey.specs.declared.findings.places.Place.{Place}
use Rattle.dump_survey.specs.declared.findings.tally.DumpFindings.{DumpFindings}
use Rattle.dump_survey.specs.DumpFindings.{has_dump_finding}
use Rattle.dump_survey.specs.DumpReport.{place_in, comes_up}
use Rattle.dump_history.specs.declared.findings.DumpFinding.{DumpFinding}

-- the places before the first record: there are none
abbrev pub no_places : DumpPlaces
no_places = record {
  other_numbers = None;
  number_falls = None;
  unread_revision = None;
  node_in_first = None;
  source_before = None;
  node_outside = None;
  numbers_left = None;
}

-- the place of a finding after the record here: its earlier place if it had one, else this place if the finding is
-- found now
abbrev pub first_place : Option Place → Bool → Place → Option Place
first_place (Some p) found here = Some p
first_place None found here = if found then Some here else None

-- the new places are the old ones after one more record, which is here
abbrev pub AreNextPlaces : DumpPlaces → DumpFindings → Place → DumpPlaces → Type 0
AreNextPlaces old found here new = (f : DumpFinding) → IsTrue (comes_up f)
    → place_in new f ≡ first_place (place_in old f) (has_dump_finding found f) here
