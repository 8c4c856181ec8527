use Rattle.dump_text.proofs.Prelude.{◌≡◌, ◌↔◌, ◌<◌, ◌^◌, ◌||◌, true, List, length, Property, AreEntries, has_deletes, HasEntries, IsWritten}
use Rattle.dump_text.proofs.props.read_entries.Given as goal

abbrev pub invariant-loop-parts : goal.invariant-loop-parts
invariant-loop-parts l = record {
  entries : HasEntries l.text ↔ HasEntries l.rest;
  small : length l.rest < 2 ^ 64;
  written : IsWritten l.text ↔ ((l.spelled ≡ true) × IsWritten l.rest);
  deletes : (ps : List Property) → AreEntries l.text ps
      → (qs : List Property) × AreEntries l.rest qs × (has_deletes ps ≡ (l.deletes || has_deletes qs));
}

abbrev pub decreases-loop-parts : goal.decreases-loop-parts
decreases-loop-parts l = length l.rest
