-- The changes of an index one by one, and why a load rejects each.
use Rattle.std.proofs.Common.{◌≡◌, ℕ, zero, suc, ◌<◌, true, List, [], ◌∷◌, length, map, get_or, Option, Some, None, refl, sym, ap, ◌∙◌, subst, arith}
use Rattle.std.proofs.lemmas.Bool.{and_parts}
use Rattle.std.specs.List.{AllZip, list_all, slice_get}
use Rattle.dump_trees.specs.steps.LoadCheck.{ToldKinds, kinds_told}
use Rattle.dump_trees.specs.steps.Looking.{Placed}
use Rattle.dump_index.specs.steps.IndexLaws.{IsListed}
use Rattle.dump_index.specs.steps.Listed.{Listed, listed_of}
use Rattle.dump_index.specs.declared.change.NodeChange.{NodeChange}
use Rattle.dump_index.proofs.KeyLemmas.{listed_at}
use Rattle.dump_index.proofs.LawLemmas.{Both, both_at}
use Rattle.dump_cut.specs.steps.LoadChecks.{reason_there}
use Rattle.dump_cut.specs.steps.NamedPaths.{has_named_paths}
use Rattle.dump_cut.specs.steps.Rejections.{rejected_for}
use Rattle.dump_cut.specs.steps.KindViews.{kinds_meant}
use Rattle.dump_cut.specs.declared.kinds.Kinds.{Kinds}
use Rattle.dump_cut.specs.declared.rejection.Rejection.{Rejection}

pub named_at : (changes : List NodeChange) (place : ℕ) (d : NodeChange) → list_all has_named_paths (map listed_of changes) ≡ true
    → place < length changes → has_named_paths (listed_of (get_or changes place d)) ≡ true
named_at [] place d named low = let bad : ⊥ = omega (arith, low) in absurd bad
named_at (change ∷ changes) zero d named low = (and_parts (has_named_paths (listed_of change)) (list_all has_named_paths (map listed_of changes)) named).0
named_at (change ∷ changes) (suc place) d named low =
    named_at changes place d (and_parts (has_named_paths (listed_of change)) (list_all has_named_paths (map listed_of changes)) named).1
    (omega (arith, low))

-- the change of the repository that the change at a place represents
pub record Stands (changes : List NodeChange) (placed : List Placed) (place : ℕ) (d : NodeChange) : Type 0 where
  pub p : Placed
  pub there : slice_get placed place ≡ Some p
  pub listed : IsListed (listed_of (get_or changes place d)) p

pub stands_at : (changes : List NodeChange) (placed : List Placed) → AllZip IsListed (map listed_of changes) placed
    → (place : ℕ) (d : NodeChange) → place < length changes → Stands changes placed place d
stands_at changes placed all place d low = cases (both_at (map listed_of changes) placed all place)
  where
    cases : Both (map listed_of changes) placed place → Stands changes placed place d
    cases (Both.Neither none other) =
        absurd (let bad : None ≡ Some (listed_of (get_or changes place d)) = sym none ∙ listed_at changes place d low in cc)
    cases (Both.One l p one there is) =
        let both : Some l ≡ Some (listed_of (get_or changes place d)) = sym one ∙ listed_at changes place d low in
        let same : l ≡ listed_of (get_or changes place d) = cc in
        record {
          p = p;
          there = there;
          listed = subst (λ (m : Listed). IsListed m p) same is;
        }

pub same_length : (listed : List Listed) (placed : List Placed) → AllZip IsListed listed placed
    → length placed ≡ length listed
same_length [] [] all = refl
same_length [] (p ∷ placed) all = absurd all
same_length (l ∷ listed) [] all = absurd all
same_length (l ∷ listed) (p ∷ placed) all = ap suc (same_length listed placed all.1)

pub reason_is : (told : ToldKinds) (placed : List Placed) (place : ℕ) (p : Placed) (kinds : Kinds) (result : Option Rejection)
    → slice_get placed place ≡ Some p → kinds_meant kinds ≡ kinds_told told placed place p
    → result ≡ rejected_for p.change (kinds_meant kinds) → reason_there told placed place (slice_get placed place) ≡ result
reason_is told placed place p kinds result there are is =
    ap (reason_there told placed place) there ∙ sym (ap (rejected_for p.change) are) ∙ sym is
