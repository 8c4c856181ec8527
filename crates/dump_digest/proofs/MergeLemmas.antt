-- Mergeinfo is bad if a property of its name has a value that isn't mergeinfo.
use Rattle.dump_digest.proofs.Prelude.{◌≡◌, ◌↔◌, ℕ, zero, suc, Bool, true, false, List, [], ◌∷◌, refl, sym, ap, subst, ◌∙◌, arith, Contains, IsTrue, IsFalse, inl, inr, absurd_bool, false_from_ne_true, cases_Bool, same_from_decides, Bool-set, ∥∥₁_elim, and_parts, Property, property_block_once, DumpRecord, Settings, HasMergeLines, value_reads, reads_exactly, is_kept_node, is_mergeinfo, value_of, HasPropertyList, HasPropertyBlock, HasBadMergeinfo, property_reads, properties_read}

-- one property

-- a value was read exactly if it is lines of mergeinfo
pub read_is : (value : List ℕ) (reads : Bool) → (IsTrue reads ↔ HasMergeLines value) → reads ≡ value_reads value
read_is value reads means =
    same_from_decides {P = HasMergeLines value} reads (value_reads value) means (reads_exactly value)

pub record BadEntry (p : Property) : Type 0 where
  pub named : IsTrue (is_mergeinfo p)
  pub none : ¬ HasMergeLines (value_of p)

bad_entry : (p : Property) → property_reads p ≡ false → BadEntry p
bad_entry p bad = elim (cases_Bool (is_mergeinfo p)) [
  | inl e ↦ record {
    named = e;
    none = λ has. absurd_bool _ ((reads_exactly (value_of p)).1 has)
        (let unread : value_reads (value_of p) ≡ property_reads p = rw e refl in unread ∙ bad);
  }
  | inr e ↦ let read : true ≡ property_reads p = rw e refl in absurd (absurd_bool _ (sym read) bad)
]

entry_bad : (p : Property) → BadEntry p → property_reads p ≡ false
entry_bad p bad =
    let unread = false_from_ne_true (value_reads (value_of p)) (λ e. bad.none ((reads_exactly (value_of p)).0 e)) in
    let named = bad.named in
    rw (named, unread) refl

-- all properties

abbrev pub HasBadEntry : List Property → Type 0
HasBadEntry ps = (p : Property) × Contains ps p × BadEntry p

-- properties that can't all be read have one that is bad
pub bad_of : (ps : List Property) → properties_read ps ≡ false → HasBadEntry ps
bad_of [] bad = cc
bad_of (p ∷ ps) bad = elim (cases_Bool (property_reads p)) [
  | inl e ↦
      let found = bad_of ps (rw e at bad) in
      let within = found.1.1 in
      (found.0, (suc found.1.0, omega arith, found.1.2), found.2)
  | inr e ↦ (p, (0, omega arith, refl), bad_entry p e)
]

read_none : (ps : List Property) (p : Property) → properties_read ps ≡ true → Contains ps p → property_reads p ≡ true
read_none [] p read (i, within, is) = absurd (omega arith)
read_none (q ∷ ps) p read (zero, within, is) =
    ap property_reads (sym is) ∙ (and_parts (property_reads q) (properties_read ps) read).0
read_none (q ∷ ps) p read (suc i, within, is) =
    read_none ps p (and_parts (property_reads q) (properties_read ps) read).1 (i, omega arith, is)

-- a kept node

-- mergeinfo of a kept node can't be read exactly if it is bad
pub merge_means : (settings : Settings) (r : DumpRecord) (ok : Bool) (ps : List Property)
    → IsTrue (is_kept_node settings r) → HasPropertyList r ps
    → ok ≡ properties_read ps → IsFalse ok ↔ ∥ HasBadMergeinfo settings r ∥₁
merge_means settings r ok ps kept block is = (
  λ e.
      let (p, within, bad) = bad_of ps (sym is ∙ e) in
      ∣ (value_of p, (kept, ps, block, p, within, bad.named, refl), bad.none) ∣₁,
  λ bad. ∥∥₁_elim bad (Bool-set ok false) found,
)
  where
    found : HasBadMergeinfo settings r → IsFalse ok
    found (value, (k, qs, other, p, within, named, same), none) = false_from_ne_true ok (λ e.
        let lists = property_block_once r.props qs ps other.0 block.0 in
        let here = subst (λ (l : List Property). Contains l p) lists within in
        let read = read_none ps p (sym is ∙ e) here in
        let entry : BadEntry p = record { named = named; none = λ has. none (subst HasMergeLines same has) } in
        absurd_bool _ read (entry_bad p entry))

-- a record whose property block can't be read has no bad mergeinfo
pub merge_unread : (settings : Settings) (r : DumpRecord) → ¬ HasPropertyBlock r → IsFalse true
    ↔ ∥ HasBadMergeinfo settings r ∥₁
merge_unread settings r none = (
  λ e. cc,
  λ bad. ∥∥₁_elim bad (Bool-set true false) (λ (value, mine, lines). absurd (none (mine.1, mine.2))),
)

-- a record that is no kept node has no bad mergeinfo
pub merge_other : (settings : Settings) (r : DumpRecord) → IsFalse (is_kept_node settings r) → IsFalse true
    ↔ ∥ HasBadMergeinfo settings r ∥₁
merge_other settings r other = (
  λ e. cc,
  λ bad. ∥∥₁_elim bad (Bool-set true false) (λ (value, mine, lines). absurd (absurd_bool _ mine.0 other)),
)
