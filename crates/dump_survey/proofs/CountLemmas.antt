-- The counts of the findings, one finding after the other.
use Rattle.dump_survey.proofs.Prelude.{◌≡◌, ◌<◌, ℕ, ◌+◌, ◌==◌, Bool, true, false, not, ◌&&◌, ◌||◌, List, [], ◌∷◌, length, cond, refl, sym, ap, subst, ◌∙◌, list_any, and_parts, not-true, inl, inr, Finding, every_finding, Counts, Found, finding_place, AreWithNode, count_in, has_found}
use Rattle.std.proofs.Common.{lit<, ◌≤◌, drop, slice_index_or, slice_set}
use denote.Enum.Declared.{tag_of}
use Rattle.dump_history.specs.contracts.findings.Finding as in_node
use Rattle.std.proofs.lemmas.Bool.{cases_Bool, eqb-false}
use Rattle.std.proofs.lemmas.List.{drop_all, drop_more, get_or-set_same, get_or-set_other, length-set}
use Rattle.dump_survey.proofs.KindLemmas.{same_place}
use Rattle.dump_history.specs.declared.findings.Finding.TheVariants as findings
use Rattle.dump_text.proofs.BoolLemmas.{equals_itself}

-- whether the finding is among these
abbrev pub is_among : List Finding → Finding → Bool
is_among left f = list_any (λ g. finding_place g == finding_place f) left

-- whether each of these occurs once
abbrev pub is_each_once : List Finding → Bool
is_each_once [] = true
is_each_once (f ∷ left) = not (is_among left f) && is_each_once left

-- the new counts are the old ones after one more node, for all findings but these, whose counts are the old ones
abbrev pub AreCounted : Counts → Found → List Finding → List ℕ → Type 0
AreCounted old found left times = (f : Finding) → count_in (record { times = times }) f
    ≡ cond (has_found found f && not (is_among left f)) (count_in old f + 1) (count_in old f)

module _ (old : Counts) (found : Found) (g : Finding) (left : List Finding) (times : List ℕ)
    (once : is_each_once (g ∷ left) ≡ true) (are : AreCounted old found (g ∷ left) times) where
  -- the count of the first one is the old one so far
  first_as_before : count_in (record { times = times }) g ≡ count_in old g
  first_as_before = are g
      ∙ by (has_found found g) (list_any (λ h. finding_place h == finding_place g) left) (finding_place g == finding_place g)
      (equals_itself (finding_place g))
    where
      by : (b among same : Bool) → same ≡ true
          → cond (b && not (same || among)) (count_in old g + 1) (count_in old g) ≡ count_in old g
      by true among true is = refl
      by false among true is = refl
      by b among false is = absurd (let bad : false ≡ true = is in cc)

  -- the counts of the others, whether the first one is counted or not
  others_as_before : (f : Finding) → (finding_place g == finding_place f) ≡ false
      → count_in (record { times = times }) f
      ≡ cond (has_found found f && not (is_among left f)) (count_in old f + 1) (count_in old f)
  others_as_before f other = are f
      ∙ ap (λ b. cond (has_found found f && not (b || is_among left f)) (count_in old f + 1) (count_in old f)) other

  not_again : is_among left g ≡ false
  not_again = not-true (is_among left g) (and_parts (not (is_among left g)) (is_each_once left) once).0

  pub once_left : is_each_once left ≡ true
  once_left = (and_parts (not (is_among left g)) (is_each_once left) once).1

  pub counted_first : has_found found g ≡ true → finding_place g < length times
      → AreCounted old found left (slice_set times (finding_place g) (count_in (record { times = times }) g + 1))
  counted_first has room f = elim (cases_Bool (finding_place g == finding_place f)) [
    | inl is ↦
        let same : g ≡ f = same_place f g is in
        subst (λ h. count_in (record { times = slice_set times (finding_place g) (count_in (record { times = times }) g + 1) }) h
        ≡ cond (has_found found h && not (is_among left h)) (count_in old h + 1) (count_in old h)) same
        (get_or-set_same times (finding_place g) _ 0 room
        ∙ (ap (λ n. n + 1) first_as_before
        ∙ sym (ap (λ b. cond (b && not (is_among left g)) (count_in old g + 1) (count_in old g)) has
        ∙ ap (λ b. cond (true && not b) (count_in old g + 1) (count_in old g)) not_again)))
    | inr other ↦
        get_or-set_other times (finding_place g) (finding_place f) _ 0 (λ same. eqb-false (finding_place g) (finding_place f) other (sym same))
        ∙ others_as_before f other
  ]

  pub passed_first : has_found found g ≡ false → AreCounted old found left times
  passed_first has f = elim (cases_Bool (finding_place g == finding_place f)) [
    | inl is ↦
        let same : g ≡ f = same_place f g is in
        subst (λ h. count_in (record { times = times }) h
        ≡ cond (has_found found h && not (is_among left h)) (count_in old h + 1) (count_in old h)) same
        (first_as_before
        ∙ sym (ap (λ b. cond (b && not (is_among left g)) (count_in old g + 1) (count_in old g)) has))
    | inr other ↦ others_as_before f other
  ]

-- a finding's number in the enum is its place
place_of_tag : (f : Finding) → tag_of in_node.the_type f ≡ finding_place f
place_of_tag findings.UnreadBlock = refl
place_of_tag f = refl

-- the state of the count: these findings are left
pub record IsCounting (old : Counts) (found : Found) (left : List Finding) (times : List ℕ) : Type 0 where
  pub once : is_each_once left ≡ true
  pub size : length times ≡ length every_finding
  pub counted : AreCounted old found left times

in_table : (f : Finding) → tag_of in_node.the_type f < length every_finding
in_table findings.UnreadBlock = lit< tt
in_table f = lit< tt

counted_next : (old : Counts) (found : Found) (g : Finding) (left : List Finding) (times : List ℕ)
    → IsCounting old found (g ∷ left) times → has_found found g ≡ true
    → IsCounting old found left (slice_set times (tag_of in_node.the_type g)
    (slice_index_or times (tag_of in_node.the_type g) 0 + 1))
counted_next old found g left times so_far has = record {
  once = once_left old found g left times so_far.once so_far.counted;
  size = length-set times (tag_of in_node.the_type g) _ ∙ so_far.size;
  counted =
      subst (λ i. AreCounted old found left (slice_set times i (slice_index_or times i 0 + 1))) (sym (place_of_tag g))
      (counted_first old found g left times so_far.once so_far.counted has
      (subst (λ i. i < length times) (place_of_tag g)
      (subst (λ n. tag_of in_node.the_type g < n) (sym so_far.size) (in_table g))));
}

passed_next : (old : Counts) (found : Found) (g : Finding) (left : List Finding) (times : List ℕ)
    → IsCounting old found (g ∷ left) times → has_found found g ≡ false → IsCounting old found left times
passed_next old found g left times so_far has = record {
  once = once_left old found g left times so_far.once so_far.counted;
  size = so_far.size;
  counted = passed_first old found g left times so_far.once so_far.counted has;
}

-- the finding at this place, of a list of all findings
module _ (old : Counts) (found : Found) (place : ℕ) (d : Finding) (times : List ℕ) (all : List Finding)
    (are : all ≡ every_finding) (low : place < length all)
    (so_far : IsCounting old found (drop place every_finding) times) where
  first_left : IsCounting old found (slice_index_or all place d ∷ drop (place + 1) every_finding) times
  first_left =
      subst (λ left. IsCounting old found left times)
      (ap (drop place) (sym are) ∙ (drop_more all place d low
      ∙ ap (λ left. slice_index_or all place d ∷ drop (place + 1) left) are)) so_far

  pub counting_found : has_found found (slice_index_or all place d) ≡ true
      → IsCounting old found (drop (place + 1) every_finding)
      (slice_set times (tag_of in_node.the_type (slice_index_or all place d))
      (slice_index_or times (tag_of in_node.the_type (slice_index_or all place d)) 0 + 1))
  counting_found has = counted_next old found (slice_index_or all place d) (drop (place + 1) every_finding) times first_left has

  pub counting_passed : has_found found (slice_index_or all place d) ≡ false
      → IsCounting old found (drop (place + 1) every_finding) times
  counting_passed has = passed_next old found (slice_index_or all place d) (drop (place + 1) every_finding) times first_left has

-- after the last one
pub counting_ends : (old new : Counts) (found : Found) (place : ℕ) → length every_finding ≤ place
    → IsCounting old found (drop place every_finding) new.times → AreWithNode old found new
counting_ends old new found place high all =
    λ f. (subst (λ left. IsCounting old found left new.times) (drop_all place every_finding high) all).counted f
    ∙ by f (has_found found f)
  where
    by : (f : Finding) (b : Bool)
        → cond (b && true) (count_in old f + 1) (count_in old f) ≡ cond b (count_in old f + 1) (count_in old f)
    by f true = refl
    by f false = refl
