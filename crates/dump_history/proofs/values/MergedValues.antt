-- Examples of mergeinfo in restricted trees: its numbers change by the kept revisions of the dump itself.
use Rattle.dump_history.proofs.Prelude.{◌≡◌, not, ◌&&◌, cond, DropEmptied, Exclude, Settings, keeps, IsNewNode, refl, sym, ap, ◌∙◌, inl, inr, None, arith, lit<, lit≤, bytes_eq, kept_revisions, new_number, IsNewProperty, NodePath, Node, Tree, root_alone, put}
use Rattle.std.proofs.Common.{ℕ, true, false, List, [], ◌∷◌, Some, codes}
use Rattle.std.specs.Prelude.{IsTrue, IsFalse}
use Rattle.std.specs.Fmt.{digits}
use Rattle.dump_rules.specs.Rewriting.{IsRenumberedMap, IsNewMergeinfo}
use Rattle.dump_rules.proofs.new_values.OneNewValue.{one_new_value}
use Rattle.dump_trees.specs.Restriction.{given}
use Rattle.dump_history.specs.steps.CutDumps.{TreeRestricts}
use Rattle.dump_history.proofs.values.RaisedValues.{merge, line, reads}
use Rattle.dump_history.proofs.values.WorkedCut.{records}

-- files are excluded, and revisions that are emptied are dropped
abbrev settings : Settings
settings = record {
  side = Exclude;
  prefixes = codes "/trunk/app" ∷ codes "/branch/app" ∷ codes "/branch/old" ∷ [];
  empty = DropEmptied;
  renumber = true;
  preserve = true;
  skip_missing = true;
}

-- revision 3 is the second that is kept, so it has the number 2
becomes_two : IsRenumberedMap (kept_revisions settings records) (line (codes "t") 3 true).ranges
    (line (codes "t") 2 true).ranges
becomes_two kind number = (
  λ has. elim has [
    | inl (same, low, high) ↦
        let two : 2 ≡ number = omega (arith, low, high) in
        (3, (2, lit< tt, refl), two, inl (same, lit≤ tt, lit≤ tt))
    | inr none ↦ absurd none
  ],
  λ found.
      let (k, within, is, has) = found in
      elim has [
        | inl (same, low, high) ↦
            let three : 3 ≡ k = omega (arith, low, high) in
            let two : 2 ≡ number = ap (new_number (kept_revisions settings records)) three ∙ is in
            inl (same, omega (arith, two), omega (arith, two))
        | inr none ↦ absurd none
      ],
)

new_value : IsNewMergeinfo settings (kept_revisions settings records) (codes "t:3") (codes "t:2")
unfolding digits
new_value = (
  line (codes "t") 3 true ∷ [],
  line (codes "t") 2 true ∷ [],
  reads (codes "t") (codes "3") 3 true (lit< tt) refl (lit≤ tt) refl,
  (record { path = refl; runs = lit≤ tt; numbers = becomes_two }, tt),
  refl,
)

-- the root has this mergeinfo, and nothing else exists
abbrev merged : List ℕ → Tree
merged value = put [] (Node.Directory (merge value ∷ [])) root_alone

at_kept : (path : NodePath) → IsTrue (keeps settings path)
    → IsNewNode (IsNewProperty settings (kept_revisions settings records)) (merged (codes "t:3") path)
    (merged (codes "t:2") path)
at_kept [] kept = ((refl, (codes "t:2", refl, new_value)), tt)
at_kept (name ∷ path) kept = tt

at_left : (path : NodePath) → IsFalse (keeps settings path) → merged (codes "t:2") path ≡ given settings path
at_left [] none = absurd (let bad : true ≡ false = none in cc)
at_left (name ∷ path) none = sym (ap (λ b. cond (not b && false) (Some (Node.Directory [])) None) none)

restricts : TreeRestricts settings records (merged (codes "t:3")) (merged (codes "t:2"))
restricts = record { kept = at_kept; left = at_left }

-- the number doesn't stay
not_as_it_was : IsNewNode (IsNewProperty settings (kept_revisions settings records)) (merged (codes "t:3") [])
    (merged (codes "t:3") []) → ⊥
not_as_it_was ((name, (value, is, new)), none) =
    let same : codes "t:3" ≡ value = (let both : Some (codes "t:3") ≡ Some value = is in cc) in
    let two : codes "t:3" ≡ codes "t:2" = same
    ∙ one_new_value settings (kept_revisions settings records) (codes "t:3") value (codes "t:2") new new_value in
    let bad : false ≡ true = ap (bytes_eq (codes "t:2")) two in cc

number_stays : TreeRestricts settings records (merged (codes "t:3")) (merged (codes "t:3")) → ⊥
number_stays r = not_as_it_was (r.kept [] refl)
