-- Changes in the order of their revisions: copies look back, and a binary search finds the ends of the revisions.
use Rattle.std.proofs.Common.{◌≡◌, ℕ, zero, suc, ◌+◌, ◌<◌, ◌≤◌, true, false, not, ◌&&◌, cond, List, [], ◌∷◌, length, map, take, get_or, Option, Some, None, option_map, nat_lt, nat_le, refl, sym, ap, ap₂, ◌∙◌, arith}
use Rattle.std.specs.Prelude.{slice_get}
use Rattle.std.proofs.lemmas.Bool.{and_parts, and_from, le-leb, leb-true, not-true}
use Rattle.std.proofs.lemmas.List.Sums.{sum_by-cons}
use Rattle.std.specs.List.{list_all}
use Rattle.std.specs.List.Sorted.{IsPartitionedBy, IsPartitionPoint}
use Rattle.dump_trees.specs.steps.Looking.{Placed, end_of}
use Rattle.dump_trees.specs.steps.LookingBack.{is_of_before, copies_back}
use Rattle.dump_trees.proofs.expansions.BackLemmas.{AreFrom, Rise, from_more, LooksBack, looks_back}
use Rattle.dump_index.specs.steps.Listed.{Listed, listed_of, listed_made, placed_of, all_placed}
use Rattle.dump_index.specs.steps.InOrder.{comes_in_order, is_from_before, are_in_order, ends_in_slash}
use Rattle.dump_index.specs.declared.change.NodeChange.{NodeChange}
use Rattle.dump_index.specs.declared.change.NodeMade.{NodeMade}
use Rattle.dump_index.specs.declared.change.NodeMade.TheVariants.{Directory, File, CopyOf}

abbrev pub placed : List NodeChange → List Placed
placed changes = all_placed (map listed_of changes)

ordered_parts : (least : ℕ) (c : NodeChange) (changes : List NodeChange) → are_in_order least (c ∷ changes) ≡ true
    → (nat_le least c.revision ≡ true) × (is_from_before c.revision c.made ≡ true) × (are_in_order c.revision changes ≡ true)
ordered_parts least c changes is =
    let parts = and_parts ((nat_le least c.revision && is_from_before c.revision c.made) && not (ends_in_slash c.path.now))
    (are_in_order c.revision changes) is in
    let both = and_parts (nat_le least c.revision && is_from_before c.revision c.made) (not (ends_in_slash c.path.now)) parts.0 in
    let first = and_parts (nat_le least c.revision) (is_from_before c.revision c.made) both.0 in
    (first.0, first.1, parts.1)

bare_first : (least : ℕ) (c : NodeChange) (changes : List NodeChange) → are_in_order least (c ∷ changes) ≡ true
    → ends_in_slash c.path.now ≡ false
bare_first least c changes is =
    let parts = and_parts ((nat_le least c.revision && is_from_before c.revision c.made) && not (ends_in_slash c.path.now))
    (are_in_order c.revision changes) is in
    let both = and_parts (nat_le least c.revision && is_from_before c.revision c.made) (not (ends_in_slash c.path.now)) parts.0 in
    not-true (ends_in_slash c.path.now) both.1

-- no path ends in a slash
pub bare_at : (least : ℕ) (changes : List NodeChange) → are_in_order least changes ≡ true → (place : ℕ) (l : Listed)
    → slice_get (map listed_of changes) place ≡ Some l → ends_in_slash l.path ≡ false
bare_at least [] is place l at = absurd (let bad : None ≡ Some l = at in cc)
bare_at least (c ∷ changes) is zero l at =
    let same : listed_of c ≡ l = (let both : Some (listed_of c) ≡ Some l = at in cc) in
    ap (λ (k : Listed). ends_in_slash k.path) (sym same) ∙ bare_first least c changes is
bare_at least (c ∷ changes) is (suc place) l at =
    bare_at c.revision changes (ordered_parts least c changes is).2 place l at

all_rise : (least : ℕ) (changes : List NodeChange) → are_in_order least changes ≡ true
    → AreFrom least (placed changes) × Rise (placed changes)
all_rise least [] is = (refl, tt)
all_rise least (c ∷ changes) is =
    let parts = ordered_parts least c changes is in
    let behind = all_rise c.revision changes parts.2 in (
      and_from (nat_le least c.revision) (list_all (λ (p : Placed). nat_le least p.revision) (placed changes)) parts.0
          (from_more least c.revision (leb-true least c.revision parts.0) (placed changes) behind.0),
      (behind.0, behind.1),
    )

of_before : (revision : ℕ) (made : Option NodeMade) → is_from_before revision made ≡ true
    → is_of_before revision (option_map listed_made made) ≡ true
of_before revision None is = refl
of_before revision (Some Directory) is = refl
of_before revision (Some File) is = refl
of_before revision (Some (CopyOf source)) is =
    (and_parts (nat_lt source.revision revision) (not (ends_in_slash source.path.now)) is).0

all_back : (least : ℕ) (changes : List NodeChange) → are_in_order least changes ≡ true
    → copies_back (placed changes) ≡ true
all_back least [] is = refl
all_back least (c ∷ changes) is =
    let parts = ordered_parts least c changes is in
    and_from (is_of_before c.revision (option_map listed_made c.made)) (copies_back (placed changes))
    (of_before c.revision c.made parts.1) (all_back c.revision changes parts.2)

pub all_look_back : (changes : List NodeChange) → are_in_order 0 changes ≡ true → LooksBack (placed changes)
all_look_back changes is = looks_back (placed changes) (all_rise 0 changes is).1 (all_back 0 changes is)

-- the source of a copy
pub from_before_at : (least : ℕ) (changes : List NodeChange) (place : ℕ) (d : NodeChange) → place < length changes
    → are_in_order least changes ≡ true
    → is_from_before (get_or changes place d).revision (get_or changes place d).made ≡ true
from_before_at least [] place d low is = absurd (omega arith)
from_before_at least (c ∷ changes) zero d low is = (ordered_parts least c changes is).1
from_before_at least (c ∷ changes) (suc place) d low is =
    from_before_at c.revision changes place d (omega arith) (ordered_parts least c changes is).2

-- the revisions rise
at_least : (least : ℕ) (changes : List NodeChange) (place : ℕ) (d : NodeChange) → place < length changes
    → are_in_order least changes ≡ true → least ≤ (get_or changes place d).revision
at_least least [] place d low is = absurd (omega arith)
at_least least (c ∷ changes) zero d low is = leb-true least c.revision (ordered_parts least c changes is).0
at_least least (c ∷ changes) (suc place) d low is =
    let parts = ordered_parts least c changes is in
    let first = leb-true least c.revision parts.0 in
    let behind = at_least c.revision changes place d (omega arith) parts.2 in
    omega arith

rise_to : (least : ℕ) (changes : List NodeChange) (i j : ℕ) (d : NodeChange) → i ≤ j → j < length changes
    → are_in_order least changes ≡ true → (get_or changes i d).revision ≤ (get_or changes j d).revision
rise_to least [] i j d up low is = absurd (omega arith)
rise_to least (c ∷ changes) zero zero d up low is = omega arith
rise_to least (c ∷ changes) zero (suc j) d up low is =
    at_least c.revision changes j d (omega arith) (ordered_parts least c changes is).2
rise_to least (c ∷ changes) (suc i) zero d up low is = absurd (omega arith)
rise_to least (c ∷ changes) (suc i) (suc j) d up low is =
    rise_to c.revision changes i j d (omega arith) (omega arith) (ordered_parts least c changes is).2

pub changes_parted : (changes : List NodeChange) (number : ℕ) → are_in_order 0 changes ≡ true
    → IsPartitionedBy (λ (c : NodeChange). nat_le c.revision number) changes
changes_parted changes number is i j d up low within =
    let rise = rise_to 0 changes i j d up low is in
    let high = leb-true (get_or changes j d).revision number within in
    le-leb (get_or changes i d).revision number (omega arith)

-- how many changes are in revisions up to a number
abbrev IsEnd : List NodeChange → ℕ → ℕ → Type 0
IsEnd changes number end =
    ((k : ℕ) (d : NodeChange) → k < end → nat_le (get_or changes k d).revision number ≡ true)
    × ((k : ℕ) (d : NodeChange) → end ≤ k → k < length changes → nat_le (get_or changes k d).revision number ≡ false)

end_counts : (changes : List NodeChange) (number end : ℕ) → end ≤ length changes → IsEnd changes number end
    → end_of (placed changes) number ≡ end
end_counts [] number end low is = omega arith
end_counts (c ∷ changes) number zero low is =
    let here = is.1 0 c (omega arith) (omega arith) in
    let behind = end_counts changes number 0 (omega arith)
    ((λ k d less. absurd (omega arith)), (λ k d high less. is.1 (suc k) d (omega arith) (omega arith))) in
    sum_by-cons (λ (p : Placed). cond (nat_le p.revision number) 1 0) (placed_of (listed_of c)) (placed changes)
    ∙ ap₂ (λ b n. cond b 1 0 + n) here behind
end_counts (c ∷ changes) number (suc end) low is =
    let here = is.0 0 c (omega arith) in
    let behind = end_counts changes number end (omega arith)
    ((λ k d less. is.0 (suc k) d (omega arith)), (λ k d high less. is.1 (suc k) d (omega arith) (omega arith))) in
    sum_by-cons (λ (p : Placed). cond (nat_le p.revision number) 1 0) (placed_of (listed_of c)) (placed changes)
    ∙ ap₂ (λ b n. cond b 1 0 + n) here behind ∙ omega arith

pub point_is_end : (changes : List NodeChange) (number end : ℕ) → end ≤ length changes
    → IsPartitionPoint (λ (c : NodeChange). nat_le c.revision number ≡ true) (λ (c : NodeChange). nat_le c.revision number ≡ false) changes end
    → end ≡ end_of (placed changes) number
point_is_end changes number end low is =
    sym (end_counts changes number end low ((λ k d less. is.0 k d (omega arith) less), is.1))

-- the first changes are in order
pub first_ordered : (least : ℕ) (changes : List NodeChange) (count : ℕ) → are_in_order least changes ≡ true
    → are_in_order least (take count changes) ≡ true
first_ordered least [] zero is = refl
first_ordered least [] (suc count) is = refl
first_ordered least (c ∷ changes) zero is = refl
first_ordered least (c ∷ changes) (suc count) is =
    let parts = and_parts (comes_in_order least c) (are_in_order c.revision changes) is in
    and_from (comes_in_order least c) (are_in_order c.revision (take count changes)) parts.0
    (first_ordered c.revision changes count parts.1)
