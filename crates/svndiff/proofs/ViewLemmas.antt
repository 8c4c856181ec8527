-- The source view is part of the old text.
use Rattle.svndiff.proofs.Prelude.{Bool, List, None, Some, and_parts, ap, append_assoc, arith, drop, drop-append-le, drop-drop, false, if◌then◌else◌, length, length-append, length-take-le, nat_le, nat_tests, none-some, refl, same_Some, sym, take, take-append-drop, take-append-le, true, ℕ, ◌&&◌, ◌++◌, ◌+◌, ◌-◌, ◌==◌, ◌||◌, ◌∙◌, ◌≡◌, ◌≤◌}
use Rattle.svndiff.specs.Svndiff.{Source}
use Rattle.svndiff.specs.DeltaLaws.{IsAligned, ViewsAreOfOldText}
use Rattle.svndiff.proofs.SourceLemmas.{slid_to}

-- what a value under a test is, and that the test holds
under_test : (b : Bool) (x y : Source) → (if b then Some x else None) ≡ Some y → (b ≡ true) × (x ≡ y)
under_test true x y is = (refl, same_Some x y is)
under_test false x y is = absurd (none-some y is)

-- what was held and isn't dropped, and the unread bytes
kept_aligned : (old held unread : List ℕ) (from offset : ℕ) → held ++ unread ≡ drop from old → from ≤ offset
    → offset ≤ from + length held → drop (offset - from) held ++ unread ≡ drop offset old
kept_aligned old held unread from offset aligned ahead near =
    let few : offset - from ≤ length held = omega arith in
    let whole : from + (offset - from) ≡ offset = omega arith in
    sym (drop-append-le (offset - from) held unread few) ∙ ap (drop (offset - from)) aligned
    ∙ drop-drop (offset - from) from old ∙ ap (λ n. drop n old) whole

-- the same after a slide that reads what it lacks
seen_aligned : (old kept unread : List ℕ) (offset size lacks : ℕ) → kept ++ unread ≡ drop offset old
    → lacks ≡ size - length kept → lacks ≤ length unread
    → IsAligned old (slid_to offset kept lacks unread) × (take size (kept ++ take lacks unread) ≡ take size (drop offset old))
seen_aligned old kept unread offset size lacks aligned is enough =
    let whole : (kept ++ take lacks unread) ++ drop lacks unread ≡ drop offset old =
    append_assoc kept (take lacks unread) (drop lacks unread)
    ∙ ap (λ (xs : List ℕ). kept ++ xs) (take-append-drop lacks unread) ∙ aligned in
    let all : size ≤ length (kept ++ take lacks unread) =
    omega (arith, length-append kept (take lacks unread), length-take-le lacks unread enough) in (
      whole,
      sym (take-append-le size (kept ++ take lacks unread) (drop lacks unread) all) ∙ ap (take size) whole,
    )

pub views_are : ViewsAreOfOldText
views_are old s seen offset size aligned near is =
    let kept : List ℕ = drop (offset - s.offset) s.held in
    let lacks : ℕ = size - length kept in
    let one : Bool = nat_le s.offset offset in
    let two : Bool = (size == 0) || nat_le (length kept) size in
    let three : Bool = nat_le lacks (length s.unread) in
    let (can, same) = under_test (one && two && three) (slid_to offset kept lacks s.unread) seen is in
    let (first, read) = and_parts (one && two) three can in
    let (forward, fits) = and_parts one two first in
    let ahead : s.offset ≤ offset = grind (arith, nat_tests, forward) in
    let enough : lacks ≤ length s.unread = grind (arith, nat_tests, read) in
    rw (← same) (seen_aligned old kept s.unread offset size lacks (kept_aligned old s.held s.unread s.offset offset aligned ahead near)
    refl enough)
