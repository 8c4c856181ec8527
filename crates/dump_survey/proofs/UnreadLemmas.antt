-- Whether a revision has properties that can't be read, record by record.
use Rattle.dump_survey.proofs.Prelude.{◌≡◌, ◌⊎◌, ◌↔◌, Bool, true, false, List, [], ◌∷◌, ◌++◌, IsTrue, sym, subst, ◌∙◌, inl, inr, arith, Contains-append_left, Contains-push, Contains-push_cases, DumpRecord, IsUnreadRevision, HasUnreadRevision}

-- before the first record there is no such revision
pub none_unread : IsTrue false ↔ HasUnreadRevision []
none_unread = (λ bad. let worse : false ≡ true = bad in cc, λ (r, (i, within, is), unread). absurd (omega arith))

-- one of these records, or the one after them, is such a revision
pub unread_more : (before : List DumpRecord) (r : DumpRecord) (unread still : Bool)
    → IsTrue unread ↔ HasUnreadRevision before → IsTrue still ↔ (IsTrue unread ⊎ IsUnreadRevision r)
    → IsTrue still ↔ HasUnreadRevision (before ++ r ∷ [])
unread_more before r unread still reported either = (
  λ so. elim (either.0 so) [
    | inl earlier ↦ (let (s, there, is) = reported.0 earlier in (s, Contains-append_left before (r ∷ []) s there, is))
    | inr now ↦ (r, Contains-push before r, now)
  ],
  λ (s, there, is). elim (Contains-push_cases before r s there) [
    | inl earlier ↦ either.1 (inl (reported.1 (s, earlier, is)))
    | inr same ↦ either.1 (inr (subst IsUnreadRevision (sym same) is))
  ],
)

-- if an earlier record is such a revision, the program doesn't check the next record
pub still_unread : (r : DumpRecord) (unread still : Bool) → still ≡ unread → unread ≡ true
    → IsTrue still ↔ (IsTrue unread ⊎ IsUnreadRevision r)
still_unread r unread still same so = (λ e. inl so, λ e. same ∙ so)

-- if no earlier record is such a revision, only the next record counts
pub now_unread : (r : DumpRecord) (unread still now : Bool) → still ≡ now → unread ≡ false
    → IsTrue now ↔ IsUnreadRevision r → IsTrue still ↔ (IsTrue unread ⊎ IsUnreadRevision r)
now_unread r unread still now same none reported = (
  λ so. inr (reported.0 (sym same ∙ so)),
  λ either. elim either [
    | inl so ↦ (let bad : false ≡ true = sym none ∙ so in cc)
    | inr is ↦ same ∙ reported.1 is
  ],
)
