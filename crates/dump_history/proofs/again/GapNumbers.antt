-- The numbers of the groups that are read again, if some groups were dropped and the others have their own numbers.
use Rattle.dump_history.proofs.Prelude.{◌≡◌, suc, ◌<◌, ◌==◌, Bool, true, map, cond, refl, sym, ap, ◌∙◌, subst, arith, MatchBool, and_from, or_left, or_right, lt-ltb, equals_itself, Settings, KeptRevisions, Group, group_number, keeps_group, Change, NewProperty, KeepsEntries, NewNumber, AreNewChanges, keeps_revision, AreNewRevisions, names_none, names_none_behind, Patching, names_revision, name_no_revision, go_up, count_to_gap}
use Rattle.std.proofs.Common.{ℕ, false, List, [], ◌∷◌, nat_lt}
use Rattle.dump_history.proofs.again.GroupsAgain.{IsGroupAgain, AreGroupsAgain}
use Rattle.dump_history.proofs.again.GroupChanges.{GroupsMake, empty_rule, AllHaveNodes, AreNumberedFrom, kept_group, later_number}
use Rattle.dump_history.proofs.again.GroupNumbers.{AllRevisions, own_number}
use Rattle.dump_history.proofs.again.PlainAgain.{revisions_plain}

-- numbers of groups

-- groups that are numbered one by one have no gap
pub no_gap : (patched : Patching) (n : ℕ) (gs : List Group) (revisions : List (List Change))
    → AreNumberedFrom n gs → GroupsMake patched gs revisions
    → count_to_gap n (map group_number gs) revisions ≡ true
no_gap patched n [] revisions numbered make = refl
no_gap patched n (g ∷ gs) [] numbered make = absurd make
no_gap patched n (g ∷ gs) (changes ∷ revisions) numbered make =
    or_left _ _ (and_from (group_number g == n) _ (ap (λ m. m == n) numbered.0 ∙ equals_itself n)
    (no_gap patched (suc n) gs revisions numbered.1 make.1))

-- groups whose numbers rise, and which name no revision, may follow a gap
plain_gap : (patched : Patching) (n : ℕ) (gs : List Group) (revisions : List (List Change))
    → go_up n (map group_number gs) ≡ true → name_no_revision revisions ≡ true → GroupsMake patched gs revisions
    → count_to_gap n (map group_number gs) revisions ≡ true
plain_gap patched n [] revisions up plain make = refl
plain_gap patched n (g ∷ gs) [] up plain make = absurd make
plain_gap patched n (g ∷ gs) (changes ∷ revisions) up plain make =
    or_right _ _ (and_from _ (name_no_revision (changes ∷ revisions)) up plain)

module _ (settings : Settings) (kept : KeptRevisions) (stays : settings.renumber ≡ false) where
  -- the numbers of kept groups rise
  up_again : (m n : ℕ) → m < n → (gs again : List Group) → AllRevisions gs → AreNumberedFrom n gs
      → AreGroupsAgain settings kept gs again → go_up m (map group_number again) ≡ true
  up_again m n below [] again revs numbered none = ap (λ (l : List Group). go_up m (map group_number l)) none
  up_again m n below (g ∷ gs) again revs numbered this =
      by_kept (keeps_group settings g) this
      (λ k rest low reads. up_again k (suc n) low gs rest revs.1 numbered.1 reads)
    where
      by_kept : (b : Bool)
          → MatchBool b
          ((h : Group) × (rest : List Group) × (again ≡ h ∷ rest) × IsGroupAgain settings kept g h
          × AreGroupsAgain settings kept gs rest)
          (AreGroupsAgain settings kept gs again)
          → ((k : ℕ) (rest : List Group) → k < suc n → AreGroupsAgain settings kept gs rest
          → go_up k (map group_number rest) ≡ true)
          → go_up m (map group_number again) ≡ true
      by_kept true (h, rest, same, read, reads) later =
          let own : group_number h ≡ n = own_number settings kept stays g h revs.0 read ∙ numbered.0 in
          ap (λ (l : List Group). go_up m (map group_number l)) same
          ∙ and_from (nat_lt m (group_number h)) (go_up (group_number h) (map group_number rest))
          (ap (nat_lt m) own ∙ lt-ltb m n below)
          (later (group_number h) rest (omega (arith, own)) reads)
      by_kept false reads later = later m again (omega arith) reads

  module _ (patched : Patching) (IsNew : NewProperty) (entries : KeepsEntries IsNew) (IsNumber : NewNumber) where
    -- if no revision after the first dropped group is named, the numbers go up to a gap
    pub gap_again : (n : ℕ) (gs again : List Group) (revisions written : List (List Change)) → AllRevisions gs
        → AllHaveNodes gs → AreNumberedFrom (suc n) gs → GroupsMake patched gs revisions
        → AreGroupsAgain settings kept gs again → GroupsMake patched again written
        → AreNewRevisions settings IsNew IsNumber (empty_rule settings) revisions written
        → names_none_behind settings (empty_rule settings) names_revision revisions ≡ true
        → count_to_gap (suc n) (map group_number again) written ≡ true
    gap_again n [] again [] written revs are numbered make none more new plain =
        ap (λ (l : List Group). count_to_gap (suc n) (map group_number l) written) none
    gap_again n [] again (changes ∷ revisions) written revs are numbered make none more new plain = absurd make
    gap_again n (g ∷ gs) again [] written revs are numbered make none more new plain = absurd make
    gap_again n (g ∷ gs) again (changes ∷ revisions) written revs are numbered make this more new plain =
        by_kept (keeps_group settings g) refl this
        (λ rest others reads made new_rest none. gap_again (suc n) gs rest revisions others revs.1 are.1 numbered.1
        make.1 reads made new_rest none)
      where
        same_test : keeps_group settings g ≡ keeps_revision settings (empty_rule settings) changes
        same_test =
            kept_group patched settings g changes (later_number (group_number g) n numbered.0) are.0 make.0

        Written : Bool → Type 0
        Written b = MatchBool b
            ((first : List Change) × (rest : List (List Change)) × (written ≡ first ∷ rest)
            × AreNewChanges settings IsNew IsNumber changes first
            × AreNewRevisions settings IsNew IsNumber (empty_rule settings) revisions rest)
            (AreNewRevisions settings IsNew IsNumber (empty_rule settings) revisions written)

        plain_if : (b : Bool) → keeps_group settings g ≡ b
            → cond b (names_none_behind settings (empty_rule settings) names_revision revisions)
            (names_none settings names_revision revisions) ≡ true
        plain_if b is = ap (λ c. cond c (names_none_behind settings (empty_rule settings) names_revision revisions)
            (names_none settings names_revision revisions)) (sym is ∙ same_test) ∙ plain

        by_kept : (b : Bool) → keeps_group settings g ≡ b
            → MatchBool b
            ((h : Group) × (rest : List Group) × (again ≡ h ∷ rest) × IsGroupAgain settings kept g h
            × AreGroupsAgain settings kept gs rest)
            (AreGroupsAgain settings kept gs again)
            → ((rest : List Group) (others : List (List Change)) → AreGroupsAgain settings kept gs rest
            → GroupsMake patched rest others
            → AreNewRevisions settings IsNew IsNumber (empty_rule settings) revisions others
            → names_none_behind settings (empty_rule settings) names_revision revisions ≡ true
            → count_to_gap (suc (suc n)) (map group_number rest) others ≡ true)
            → count_to_gap (suc n) (map group_number again) written ≡ true
        by_kept true keep (h, rest, same, read, reads) later =
            let (first, others, is, changes_new, new_rest) = subst Written (sym same_test ∙ keep) new in
            let made : GroupsMake patched (h ∷ rest) (first ∷ others) =
            subst (λ (w : List (List Change)). GroupsMake patched (h ∷ rest) w) is
            (subst (λ (l : List Group). GroupsMake patched l written) same more) in
            let own : group_number h ≡ suc n = own_number settings kept stays g h revs.0 read ∙ numbered.0 in
            ap (λ (l : List Group). count_to_gap (suc n) (map group_number l) written) same
            ∙ ap (count_to_gap (suc n) (map group_number (h ∷ rest))) is
            ∙ or_left _ _ (and_from (group_number h == suc n) _ (ap (λ m. m == suc n) own ∙ equals_itself (suc n))
            (later rest others reads made.1 new_rest (plain_if true keep)))
        by_kept false drop reads later =
            plain_gap patched (suc n) again written
            (up_again (suc n) (suc (suc n)) (omega arith) gs again revs.1 numbered.1 reads)
            (revisions_plain settings IsNew entries IsNumber (empty_rule settings) revisions written
            (subst Written (sym same_test ∙ drop) new) (plain_if false drop)) more
