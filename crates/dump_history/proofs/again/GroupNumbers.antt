-- The numbers of the groups that are read again are 0, 1, 2 and so on, as those of the dump are.
use Rattle.dump_history.proofs.Prelude.{◌≡◌, suc, ◌+◌, ◌<◌, Bool, true, ◌++◌, length, map, count_by, refl, sym, ap, ap₂, ◌∙◌, subst, arith, append_assoc, if◌then◌else◌, MatchBool, AllZip, list_all, and_from, lt-ltb, first_true, second_true, Property, Settings, KeptRevisions, new_number, is_revision_record, HasPropertyList, Group, group_number, is_padded, keeps_group, revision_properties, written_number, Change, kept_from, length_push, AreBelow, AreAbove, below_next, below_pushed, all_counted, KeepsProperties, Patching}
use Rattle.std.proofs.Common.{ℕ, false, List, [], ◌∷◌, filter, nat_lt}
use Rattle.dump_history.proofs.again.GroupsAgain.{IsGroupAgain, AreGroupsAgain}
use Rattle.dump_history.proofs.again.GroupChanges.{GroupsMake, empty_rule, AllHaveNodes, AreNumberedFrom, kept_group, later_number}

-- the revision record of each group is a revision record
abbrev pub AllRevisions : List Group → Type 0
AllRevisions [] = Unit {0}
AllRevisions (g ∷ gs) = (is_revision_record g.revision ≡ true) × AllRevisions gs

module _ (settings : Settings) where
  -- the numbers of the kept groups
  abbrev pub kept_numbers : List Group → List ℕ
  kept_numbers gs = map group_number (filter (keeps_group settings) gs)

  kept_first : (g : Group) (gs : List Group) (b : Bool) → keeps_group settings g ≡ b
      → kept_numbers (g ∷ gs) ≡ (if b then group_number g ∷ kept_numbers gs else kept_numbers gs)
  kept_first g gs true is = rw is refl
  kept_first g gs false is = rw is refl

  -- the kept numbers of groups with numbers above 0 are those of their revisions
  pub kept_numbers_are : (patched : Patching) (n : ℕ) (gs : List Group) (revisions : List (List Change))
      → AllHaveNodes gs
      → AreNumberedFrom (suc n) gs → GroupsMake patched gs revisions
      → kept_numbers gs ≡ kept_from settings (empty_rule settings) (suc n) revisions
  kept_numbers_are patched n [] [] are numbered make = refl
  kept_numbers_are patched n [] (changes ∷ revisions) are numbered make = absurd make
  kept_numbers_are patched n (g ∷ gs) [] are numbered make = absurd make
  kept_numbers_are patched n (g ∷ gs) (changes ∷ revisions) are numbered (first, make) =
      let more = kept_numbers_are patched (suc n) gs revisions are.1 numbered.1 make in
      let same = kept_group patched settings g changes (later_number (group_number g) n numbered.0) are.0 first in
      kept_first g gs (keeps_group settings g) refl
      ∙ (λ i. if same i then numbered.0 i ∷ more i else more i)

  -- the kept numbers of groups that are numbered from a higher number on are above a number
  above_kept : (a n : ℕ) (gs : List Group) → AreNumberedFrom n gs → a < n → AreAbove a (kept_numbers gs)
  above_kept a n [] numbered low = refl
  above_kept a n (g ∷ gs) numbered low =
      by_kept (keeps_group settings g) refl (above_kept a (suc n) gs numbered.1 (omega (arith, low)))
    where
      high : nat_lt a (group_number g) ≡ true
      high = ap (nat_lt a) numbered.0 ∙ lt-ltb a n low

      by_kept : (b : Bool) → keeps_group settings g ≡ b → AreAbove a (kept_numbers gs)
          → AreAbove a (kept_numbers (g ∷ gs))
      by_kept true keep more = ap (list_all (λ k. nat_lt a k)) (kept_first g gs true keep)
          ∙ and_from (nat_lt a (group_number g)) (list_all (λ k. nat_lt a k) (kept_numbers gs)) high more
      by_kept false drop more = ap (list_all (λ k. nat_lt a k)) (kept_first g gs false drop) ∙ more

  module _ (kept : KeptRevisions) where
    number_again : (g h : Group) → is_revision_record g.revision ≡ true → IsGroupAgain settings kept g h
        → group_number h ≡ written_number settings kept (group_number g)
    number_again g h rev read = read.revision.number rev

    -- without renumbering a group has its own number
    pub own_number : settings.renumber ≡ false → (g h : Group) → is_revision_record g.revision ≡ true
        → IsGroupAgain settings kept g h → group_number h ≡ group_number g
    own_number stays g h rev read = number_again g h rev read
        ∙ ap (λ b. if b then new_number kept (group_number g) else group_number g) stays

    -- with renumbering, the first group that is read again has the dump's first number plus the number of groups kept
    -- before it, and the others follow one by one
    pub renumbered_again : settings.renumber ≡ true → (first : ℕ) → kept.first ≡ first → (n : ℕ) (earlier : List ℕ)
        (gs again : List Group)
        → kept.numbers ≡ earlier ++ kept_numbers gs → AreBelow n earlier → AllRevisions gs → AreNumberedFrom n gs
        → AreGroupsAgain settings kept gs again → AreNumberedFrom (first + length earlier) again
    renumbered_again renumber first first_is n earlier [] again at below revs numbered none =
        subst (AreNumberedFrom (first + length earlier)) (sym none) tt
    renumbered_again renumber first first_is n earlier (g ∷ gs) again at below revs numbered this =
        by_kept (keeps_group settings g) refl this
        (λ more now later reads. renumbered_again renumber first first_is (suc n) more gs later now.0 now.1 revs.1
        numbered.1 reads)
      where
        counted : (h : Group) → keeps_group settings g ≡ true → IsGroupAgain settings kept g h
            → group_number h ≡ first + length earlier
        counted h keep read =
            let list : kept.numbers ≡ earlier ++ n ∷ kept_numbers gs =
            at ∙ ap (λ ks. earlier ++ ks) (kept_first g gs true keep
            ∙ ap (λ k. k ∷ kept_numbers gs) numbered.0) in
            let high = above_kept n (suc n) gs numbered.1 (omega arith) in
            number_again g h revs.0 read
            ∙ ap (λ b. if b then new_number kept (group_number g) else group_number g) renumber
            ∙ ap (new_number kept) numbered.0
            ∙ ap₂ (λ f ks. f + count_by (λ k. nat_lt k n) ks) first_is list
            ∙ ap (λ c. first + c) (all_counted n earlier (kept_numbers gs) below high)

        one_more : first + length (earlier ++ n ∷ []) ≡ suc (first + length earlier)
        one_more = ap (λ l. first + l) (length_push earlier n) ∙ omega arith

        by_kept : (b : Bool) → keeps_group settings g ≡ b
            → MatchBool b
            ((h : Group) × (rest : List Group) × (again ≡ h ∷ rest) × IsGroupAgain settings kept g h
            × AreGroupsAgain settings kept gs rest)
            (AreGroupsAgain settings kept gs again)
            → ((more : List ℕ) → (kept.numbers ≡ more ++ kept_numbers gs) × AreBelow (suc n) more
            → (later : List Group) → AreGroupsAgain settings kept gs later
            → AreNumberedFrom (first + length more) later)
            → AreNumberedFrom (first + length earlier) again
        by_kept true keep (h, rest, same, read, reads) later =
            let list = at ∙ ap (λ ks. earlier ++ ks) (kept_first g gs true keep
            ∙ ap (λ k. k ∷ kept_numbers gs) numbered.0) ∙ sym (append_assoc earlier (n ∷ []) (kept_numbers gs)) in
            let more = later (earlier ++ n ∷ []) (list, below_pushed n earlier below) rest reads in
            subst (AreNumberedFrom (first + length earlier)) (sym same)
            (counted h keep read, subst (λ (m : ℕ). AreNumberedFrom m rest) one_more more)
        by_kept false drop reads later =
            later earlier (at ∙ ap (λ ks. earlier ++ ks) (kept_first g gs false drop), below_next n earlier below)
            again reads

    -- without renumbering: if no group is dropped, the groups have their own numbers
    pub same_again : settings.renumber ≡ false → (n : ℕ) (gs again : List Group)
        → list_all (keeps_group settings) gs ≡ true → AllRevisions gs → AreNumberedFrom n gs
        → AreGroupsAgain settings kept gs again → AreNumberedFrom n again
    same_again stays n [] again all revs numbered none = subst (AreNumberedFrom n) (sym none) tt
    same_again stays n (g ∷ gs) again all revs numbered this =
        let keep = first_true (keeps_group settings g) (list_all (keeps_group settings) gs) all in
        let (h, rest, same, read, reads) = rw keep at this in
        subst (AreNumberedFrom n) (sym same) (
          own_number stays g h revs.0 read ∙ numbered.0,
          same_again stays (suc n) gs rest
              (second_true (keeps_group settings g) (list_all (keeps_group settings) gs) all) revs.1 numbered.1 reads,
        )

    -- the revisions that are read again have the properties of the kept ones, or those of an empty revision
    pub properties_again : (gs again : List Group) → AllRevisions gs → AreGroupsAgain settings kept gs again
        → AllZip (KeepsProperties settings) (filter (keeps_group settings) gs) again
    properties_again [] again revs none = subst (AllZip (KeepsProperties settings) []) (sym none) tt
    properties_again (g ∷ gs) again revs this =
        by_kept (keeps_group settings g) refl this (λ rest reads. properties_again gs rest revs.1 reads)
      where
        own : (h : Group) → IsGroupAgain settings kept g h → KeepsProperties settings g h
        own h read = subst (λ (one : Group). (ps : List Property) × HasPropertyList g.revision ps
            × HasPropertyList h.revision (revision_properties (is_padded settings one) ps)) read.whole
            (read.revision.revision_again revs.0)

        by_kept : (b : Bool) → keeps_group settings g ≡ b
            → MatchBool b
            ((h : Group) × (rest : List Group) × (again ≡ h ∷ rest) × IsGroupAgain settings kept g h
            × AreGroupsAgain settings kept gs rest)
            (AreGroupsAgain settings kept gs again)
            → ((rest : List Group) → AreGroupsAgain settings kept gs rest
            → AllZip (KeepsProperties settings) (filter (keeps_group settings) gs) rest)
            → AllZip (KeepsProperties settings) (filter (keeps_group settings) (g ∷ gs)) again
        by_kept true keep (h, rest, same, read, reads) later =
            rw (keep, same) (own h read, later rest reads)
        by_kept false drop reads later = rw drop (later again reads)
