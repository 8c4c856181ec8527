-- How many of the first revisions of a dump the filter keeps.
use Rattle.dump_history.proofs.Prelude.{◌≡◌, suc, ◌+◌, Bool, true, ◌++◌, length, refl, ap, ◌∙◌, if◌then◌else◌, take, Settings, Group, group_number, keeps_group, Change, keeps_revision, kept_from, kept_of, Patching}
use Rattle.std.proofs.Common.{ℕ, false, List, [], ◌∷◌}
use Rattle.std.specs.Prelude.{filter}
use Rattle.dump_history.proofs.again.GroupChanges.{GroupsMake, empty_rule, AllHaveNodes, AreNumberedFrom, later_number, kept_group}
use Rattle.dump_history.proofs.again.DumpAgain.{first_kept}

-- the number of kept first revisions is the number of kept first groups
pub front_count : (patched : Patching) (settings : Settings) (n : ℕ) (gs : List Group) (front rest : List (List Change))
    → AllHaveNodes gs → AreNumberedFrom (suc n) gs → GroupsMake patched gs (front ++ rest)
    → length (kept_from settings (empty_rule settings) (suc n) front)
    ≡ length (filter (keeps_group settings) (take (length front) gs))
front_count patched settings n [] [] rest are numbered make = refl
front_count patched settings n (g ∷ gs) [] rest are numbered make = refl
front_count patched settings n [] (changes ∷ front) rest are numbered make = absurd make
front_count patched settings n (g ∷ gs) (changes ∷ front) rest are numbered (first, make) =
    let same = kept_group patched settings g changes (later_number (group_number g) n numbered.0) are.0 first in
    let more = front_count patched settings (suc n) gs front rest are.1 numbered.1 make in
    rw same (cases (keeps_revision settings (empty_rule settings) changes)
    (kept_from settings (empty_rule settings) (suc (suc n)) front)
    (filter (keeps_group settings) (take (length front) gs)) more)
  where
    cases : (b : Bool) (xs : List ℕ) (ys : List Group) → length xs ≡ length ys
        → length (if b then suc n ∷ xs else xs) ≡ length (if b then g ∷ ys else ys)
    cases true xs ys more = ap suc more
    cases false xs ys more = more

-- the same for the dump's first revisions, of which the first one has no node
pub kept_count : (patched : Patching) (settings : Settings) (gs : List Group) (front rest : List (List Change))
    → AllHaveNodes gs → AreNumberedFrom 0 gs → GroupsMake patched gs ([] ∷ front ++ rest)
    → length (kept_of settings (empty_rule settings) front).numbers
    ≡ length (filter (keeps_group settings) (take (suc (length front)) gs))
kept_count patched settings [] front rest are numbered make = absurd make
kept_count patched settings (g ∷ gs) front rest are numbered make =
    rw (first_kept patched settings g numbered.0)
    (ap suc (front_count patched settings 0 gs front rest are.1 numbered.1 make.1))
