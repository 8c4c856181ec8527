-- Whether a record's properties can be read, and that they are only one list.
use Rattle.dump_digest.proofs.Prelude.{◌≡◌, ◌⊎◌, Bool, true, false, List, refl, sym, ap, ◌∙◌, inl, inr, Property, IsPropertyBlock, has_deletes, absurd_bool, property_block_once, changes_or_not, DumpRecord, takes_deletes, HasPropertyList, HasPropertyBlock}

-- a record's properties are one list
pub property_list_once : (r : DumpRecord) (ps qs : List Property) → HasPropertyList r ps → HasPropertyList r qs
    → ps ≡ qs
property_list_once r ps qs list other = property_block_once r.props ps qs list.0 other.0

-- a record's properties can be read, or can't
pub block_or_not : (r : DumpRecord) → HasPropertyBlock r ⊎ (¬ HasPropertyBlock r)
block_or_not r = elim (changes_or_not r.props) [
  | inl (ps, block) ↦ by_deletes ps block (has_deletes ps) refl (takes_deletes r) refl
  | inr none ↦ inr (λ (ps, list). none (ps, list.0))
]
  where
    by_deletes : (ps : List Property) → IsPropertyBlock r.props ps → (b : Bool) → has_deletes ps ≡ b → (c : Bool)
        → takes_deletes r ≡ c → HasPropertyBlock r ⊎ (¬ HasPropertyBlock r)
    by_deletes ps block true deletes true takes = inl (ps, (block, λ e. takes))
    by_deletes ps block true deletes false takes = inr (λ (qs, list).
        let same = property_block_once r.props ps qs block list.0 in
        absurd_bool (takes_deletes r) (list.1 (sym (ap has_deletes same) ∙ deletes)) takes)
    by_deletes ps block false kept c takes = inl (ps, (block, λ e. absurd (absurd_bool (has_deletes ps) e kept)))

-- if it is false that there is no property block, there is one
pub block_stable : (r : DumpRecord) → ¬ ¬ HasPropertyBlock r → HasPropertyBlock r
block_stable r possible = elim (block_or_not r) [
  | inl has ↦ has
  | inr none ↦ absurd (possible none)
]
