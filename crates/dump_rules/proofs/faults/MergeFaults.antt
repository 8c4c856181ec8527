-- What the two tests of a value say, where the value is mergeinfo.
use Rattle.dump_rules.proofs.Prelude.{◌≡◌, ◌↔◌, ◌||◌, ◌<◌, ◌^◌, sym, ap, ◌∙◌, both_ways, ℕ, ◌≤◌, Bool, true, false, List, inl, inr, Merged, is_outside, nothing_merged, Contains, leb_tells, Settings, KeptRevisions, HasNumber, MergeLine, IsMergeinfo, HasMergeLines, staying_lines, HasMissingSource, HasForeignNumber, value_misses, value_foreign}
use Rattle.dump_rules.proofs.faults.FaultLemmas.{missing_there, missing_back, foreign_there, foreign_back, has_lines}
use Rattle.dump_rules.proofs.faults.MergedMeaning.{none_outside}

-- what is said of the sources of the first value says whether one is missing
pub first_misses : (s : Settings) (said : Merged) (last : Bool) (value : List ℕ) (told : Bool) → said ≡ nothing_merged
    → last ≡ (said.misses || value_misses s value) → told ≡ last → ¬ ¬ HasMergeLines value
    → (told ≡ true) ↔ HasMissingSource s value
first_misses s said last value told none is tells some =
    let same = tells ∙ is ∙ ap (λ (m : Merged). m.misses || value_misses s value) none in
    (λ e. missing_there s value (has_lines value some) (sym same ∙ e), λ h. same ∙ missing_back s value h)

-- if no source of the first value is missing, what is said of its numbers says whether one is foreign
pub first_foreign : (s : Settings) (kept : KeptRevisions) (first now : ℕ) (said last : Merged) (value : List ℕ)
    (misses told : Bool) → first < 2 ^ 64 → first ≡ kept.first → said ≡ nothing_merged
    → last.misses ≡ (said.misses || value_misses s value)
    → ((first now : ℕ) → is_outside s first now last.numbers
    ≡ (is_outside s first now said.numbers || value_foreign s first now value))
    → misses ≡ last.misses → misses ≡ false → told ≡ is_outside s first now last.numbers → ¬ ¬ HasMergeLines value
    → ¬ HasMissingSource s value × (told ≡ true → HasForeignNumber s kept now value)
    × (told ≡ false → ¬ HasForeignNumber s kept now value)
first_foreign s kept first now said last value misses told fits first_is none sources numbers says missed tells some =
    let same = tells ∙ numbers first now
    ∙ ap (λ (m : Merged). is_outside s first now m.numbers || value_foreign s first now value) none
    ∙ ap (λ b. b || value_foreign s first now value) (none_outside s first now fits)
    ∙ ap (λ n. value_foreign s n now value) first_is in (
      λ h. both_ways misses missed ((first_misses s said last.misses value misses none sources says some).1 h),
      λ e. foreign_there s kept now value (has_lines value some) (sym same ∙ e),
      λ e h. both_ways told e (same ∙ foreign_back s kept now value h),
    )

-- if no number is foreign, the lines whose paths are kept have none above the present revision
pub foreign_below : (settings : Settings) (kept : KeptRevisions) (now : ℕ) (value : List ℕ)
    → ¬ HasForeignNumber settings kept now value
    → settings.renumber ≡ true → (lines : List MergeLine) → IsMergeinfo value lines → (line : MergeLine)
    → Contains (staying_lines settings lines) line
    → (kind : Bool) (number : ℕ) → HasNumber line.ranges kind number → number ≤ now
foreign_below settings kept now value none renumber lines is line stays kind number has = elim (leb_tells number now) [
  | inl within ↦ within.1
  | inr over ↦ absurd (none (renumber, lines, is, line, stays, kind, number, has, inl over.1))
]
