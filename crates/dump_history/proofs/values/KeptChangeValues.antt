-- The law of kept changes, applied to the example dump; and a text that comes of none.
use Rattle.dump_history.proofs.Prelude.{◌≡◌, true, refl, ap, ◌∙◌, inl, inr, bytes_eq, zero, suc, arith, path_of, Patching, TextChange, Change}
use Rattle.std.proofs.Common.{false, [], Some, codes}
use Rattle.dump_trees.specs.steps.WritingOut.{file_of}
use Rattle.dump_trees.specs.steps.Trimming.{IsSameNumber}
use Rattle.dump_trees.specs.ComingBack.{SomeKeptDoes}
use Rattle.dump_history.specs.KeptChanges.{IsKeptText, ComesOfKept, ChangesComeOfKept}
use Rattle.dump_history.proofs.cuts.WrittenChanges.{IsSameProperty}
use Rattle.dump_history.proofs.cuts.KeptChanges.{filtered_changes_are_kept}
use Rattle.dump_history.proofs.values.WorkedDump.{records, dump, settings, revisions, loads}
use Rattle.dump_history.proofs.values.WorkedFilter.{text, clean, lengths}

-- what the filter writes of the example dump comes of its kept changes
worked_kept : (patched : Patching) → ChangesComeOfKept patched settings records revisions text
worked_kept patched =
    filtered_changes_are_kept patched settings dump text records revisions clean lengths (loads patched).makes refl

-- no change has a text that no kept change has made
not_secret : ComesOfKept settings [] IsSameProperty IsSameNumber (file_of (path_of (codes "trunk/k")) [] (codes "SECRET"))
    → ⊥
not_secret comes = cases (comes.text (TextChange.Replaced (codes "SECRET")) refl)
  where
    none : (Does : Change → Type 0) → SomeKeptDoes settings [] Does → ⊥
    none Does some = let (k, low, at) = some.among in omega (arith, low)

    cases : IsKeptText settings [] (TextChange.Replaced (codes "SECRET")) → ⊥
    cases (inl does) = none (λ c. c.text ≡ Some (TextChange.Replaced (codes "SECRET"))) does
    cases (inr (text, whole, (zero, is))) =
        let same : codes "SECRET" ≡ text = cc in
        let bad : false ≡ true = ap (λ t. bytes_eq t []) (same ∙ is) in cc
    cases (inr (text, whole, (suc count, does))) = let (k, low, at) = does.among in omega (arith, low)
