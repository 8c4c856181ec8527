-- What the filter rejects in a kept node: the revision of its copy source, and its mergeinfo, property by property.
use Rattle.dump_survey.proofs.Prelude.{◌≡◌, ℕ, Bool, true, false, not, ◌&&◌, ◌||◌, List, [], ◌∷◌, ◌++◌, Option, Some, None, refl, sym, ap, ap₂, ◌∙◌, subst, or-false, or_assoc, list_any, copy_revision_name, Property, IsPropertyBlock, Props, Entry, entry_property, props_bytes, and_from, header_number, DumpRecord, Settings, value_reads, value_misses, value_foreign, is_mergeinfo, is_node, is_kept_node, HasPropertyBlock, ArePropertiesOf, entry_value, kept_revisions, stays_copy, present_number, NodeFaults, AreNodeFaultsOf, has_kept_path, is_unread_value, names_missing_source, names_outside, is_missing_number, copy_refused, property_faults, faults_read, copy_faults, faults_of_kept, faults_of_unread, Numbers, AreFaultsBy, is_missing, misses_revision, AreNumbersBehind}
use Rattle.std.specs.Prelude.{nat_lt}

abbrev made : Bool → Bool → Bool → Bool → NodeFaults
made copy unread missing outside =
    record { copy_revision = copy; unread = unread; missing = missing; outside = outside }

-- What it rejects in one property. The dump begins with the first number, and the second number is that of the present
-- revision.

module _ (s : Settings) (first present : ℕ) (e : Entry) where
  pub refused_of_unread : is_mergeinfo (entry_property e) ≡ true → value_reads e.value.now ≡ false
      → made false true false false ≡ property_faults s first present (entry_property e)
  refused_of_unread named unread = rw (named, entry_value e, unread) refl

  pub refused_of_value : is_mergeinfo (entry_property e) ≡ true → value_reads e.value.now ≡ true
      → (missing outside : Bool) → missing ≡ value_misses s e.value.now
      → outside ≡ value_foreign s first present e.value.now
      → made false false missing outside ≡ property_faults s first present (entry_property e)
  refused_of_value named reads missing outside misses foreign =
      rw (named, entry_value e, reads, misses, foreign) refl

-- what it rejects in all properties: these remain, and the earlier ones have these faults

module _ (s : Settings) (copy : Bool) (first present : ℕ) where
  abbrev pub unread_in : List Property → Bool
  unread_in ps = list_any is_unread_value ps

  abbrev pub missing_in : List Property → Bool
  missing_in ps = list_any (names_missing_source s) ps

  abbrev pub outside_in : List Property → Bool
  outside_in ps = list_any (names_outside s first present) ps

  abbrev pub IsRefusedUpTo : List Property → List Property → Bool → Bool → Bool → Type 0
  IsRefusedUpTo ps qs unread missing outside = faults_read s copy first present ps
      ≡ made copy (unread || unread_in qs) (missing || missing_in qs) (outside || outside_in qs)

  same_made : {u v m n o p : Bool} → u ≡ v → m ≡ n → o ≡ p → made copy u m o ≡ made copy v n p
  same_made unread missing outside = rw (unread, missing, outside) refl

  pub refused_next : (ps qs others : List Property) (p : Property) (unread missing outside : Bool)
      (m : NodeFaults) → qs ≡ p ∷ others → m ≡ property_faults s first present p
      → IsRefusedUpTo ps qs unread missing outside
      → IsRefusedUpTo ps others (unread || m.unread) (missing || m.missing) (outside || m.outside)
  refused_next ps qs others p unread missing outside m is found up =
      up
      ∙ (ap (λ l. made copy (unread || unread_in l) (missing || missing_in l) (outside || outside_in l)) is
      ∙ same_made
      (sym (or_assoc unread (is_unread_value p) (unread_in others))
      ∙ ap (λ (n : NodeFaults). (unread || n.unread) || unread_in others) (sym found))
      (sym (or_assoc missing (names_missing_source s p) (missing_in others))
      ∙ ap (λ (n : NodeFaults). (missing || n.missing) || missing_in others) (sym found))
      (sym (or_assoc outside (names_outside s first present p) (outside_in others))
      ∙ ap (λ (n : NodeFaults). (outside || n.outside) || outside_in others) (sym found)))

  pub refused_at_last : (ps : List Property) (unread missing outside : Bool)
      → IsRefusedUpTo ps [] unread missing outside
      → made copy unread missing outside ≡ faults_read s copy first present ps
  refused_at_last ps unread missing outside up =
      sym (up ∙ same_made (or-false unread) (or-false missing) (or-false outside))

-- what it rejects in a kept node, by the numbers before the node

module _ (s : Settings) (numbers : Numbers) (r : DumpRecord) (node : is_node r ≡ true)
    (kept : has_kept_path s r ≡ true) where
  is_kept : is_kept_node s r ≡ true
  is_kept = and_from (is_node r) (has_kept_path s r) node kept

  -- with these numbers the copy source is rejected exactly if it is with the records before the node
  copy_by : (before : List DumpRecord) → AreNumbersBehind s before r numbers
      → misses_revision s numbers r ≡ copy_refused s before r
  copy_by before behind =
      ap (λ b. (s.renumber && is_kept_node s r && stays_copy s r) && b)
      (by (header_number copy_revision_name r.headers))
    where
      by : (o : Option ℕ) → is_missing numbers o
          ≡ is_missing_number o (kept_revisions s (before ++ r ∷ [])).numbers (present_number before)
      by None = refl
      by (Some number) = ap₂ (λ reached present. not reached || nat_lt present number)
          (sym (behind.kept is_kept number)) behind.present

  pub kept_refused : (found : Option Props) (props : Props) → found ≡ Some props → ArePropertiesOf r found
      → (m : NodeFaults)
      → ((ps : List Property) → IsPropertyBlock (props_bytes props) ps
      → m ≡ faults_read s (misses_revision s numbers r) numbers.first numbers.present ps)
      → AreFaultsBy s numbers r m
  kept_refused found props is of m read = λ before behind.
      let same : ArePropertiesOf r (Some props) = subst (ArePropertiesOf r) is of in
      let (ps, list) : HasPropertyBlock r = same.there.0 refl in
      let reads = read ps (subst (λ (bytes : List ℕ). IsPropertyBlock bytes ps) (sym (same.bytes props refl)) list.0) in
      subst (AreNodeFaultsOf s before r)
      (sym (reads ∙ (ap (λ c. faults_read s c numbers.first numbers.present ps) (copy_by before behind)
      ∙ ap₂ (λ f p. faults_read s (copy_refused s before r) f p ps) behind.first behind.present)))
      (faults_of_kept s before r is_kept ps list)

  pub unread_refused : (found : Option Props) → found ≡ None → ArePropertiesOf r found → (copy : Bool)
      → copy ≡ misses_revision s numbers r → AreFaultsBy s numbers r (copy_faults copy)
  unread_refused found is of copy copy_is = λ before behind.
      let same : ArePropertiesOf r None = subst (ArePropertiesOf r) is of in
      subst (λ b. AreNodeFaultsOf s before r (copy_faults b)) (sym (copy_is ∙ copy_by before behind))
      (faults_of_unread s before r (λ has. let bad : false ≡ true = same.there.1 has in cc))
