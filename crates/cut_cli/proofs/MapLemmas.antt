-- The map of revisions, line by line.
use Rattle.std.proofs.Common.{◌≡◌, ℕ, ◌≤◌, List, [], ◌++◌, drop, Option, None, refl, arith, unwrap_or}
use Rattle.dump_cut.specs.declared.fates.RevisionFate.{RevisionFate}
use Rattle.cut_cli.specs.RevisionMap.{fate_lines}

-- what is known after some of the lines: the others come after them, and the last number is at most that of the lines
pub record LinesSoFar (after : Option ℕ) (fates : List RevisionFate) (place : ℕ) (last : Option ℕ) (text : List ℕ) : Type 0
  where
    pub lines : fate_lines after None fates ≡ text ++ fate_lines after last (drop place fates)
    pub few : unwrap_or last 0 ≤ place

pub no_lines : (after : Option ℕ) (fates : List RevisionFate) (last : Option ℕ) (text : List ℕ)
    → last ≡ None → text ≡ [] → LinesSoFar after fates 0 last text
no_lines after fates last text none empty = record {
  lines = rw none (rw empty refl);
  few = rw none (omega arith);
}
