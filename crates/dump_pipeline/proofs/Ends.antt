-- Truncated proofs of which record has a number, and of how the list of records ends, give the facts, since a dump has
-- only one list.
use Rattle.dump_pipeline.proofs.Prelude.{◌≡◌, ℕ, List, length, sym, ap, ◌∙◌, subst, Result, Ok, Err, ◌++◌, ◌∷◌, [], take, arith, ForErr, ∥∥₁_elim, props, Coded-set, coded_ℕ, DumpRecord, length-take-le, Ending, HasRecords, BeginsWithRecords, EndsAfter, IsRecordOf, whole_front, one_more, within, each_dump_has_one_list}
use Rattle.std.proofs.lemmas.List.{length-append}

same_count : (m n : ℕ) → IsProp (m ≡ n)
same_count m n = Coded-set coded_ℕ m n

same_ending : (a b : Ending) → IsProp (a ≡ b)
same_ending a b = hlevel props

-- a truncated proof that a list of records ends in this way gives the proof
pub ends_once : (dump : List ℕ) (count : ℕ) (ending : Ending) → ∥ EndsAfter dump count ending ∥₁
    → EndsAfter dump count ending
ends_once dump count ending t =
    let (all, end, has, once) = each_dump_has_one_list dump in
    let is : end ≡ ending = ∥∥₁_elim t (same_ending end ending) (λ c. sym (once c.0 ending c.1).1) in
    let long : length all ≡ count = ∥∥₁_elim t (same_count (length all) count)
    (λ c. ap (λ (l : List DumpRecord). length l) (sym (once c.0 ending c.1).0) ∙ c.2) in
    (all, subst (HasRecords dump all) is has, long)

from_err : {T E : Type 0} → E → Result T E → E
from_err d (Ok x) = d
from_err d (Err e) = e

-- what holds of the error
pub for_err : {T E : Type 0} (P : E → Type 0) (e : E) → P e → ForErr {T = T} (Err e) P
unfolding from_err
for_err {T} {E} P e p x is = subst P (ap (from_err {T = T} e) is) p

-- a truncated proof of which record has a number gives the proof
pub record_once : (dump : List ℕ) (number : ℕ) (r : DumpRecord) → ∥ IsRecordOf dump number r ∥₁
    → IsRecordOf dump number r
record_once dump number r t =
    let (all, end, has, once) = each_dump_has_one_list dump in
    let front : List DumpRecord = take number all in
    let begins : BeginsWithRecords dump front = whole_front dump all end has number in
    let long : length front ≡ number =
    ∥∥₁_elim t (same_count (length front) number) (λ (c : IsRecordOf dump number r).
    let most = within dump all end has (c.0 ++ r ∷ []) c.1 in
    let size = length-append c.0 (r ∷ []) in
    let count = c.2 in
    length-take-le number all (omega arith)) in
    (front, one_more dump front r begins (subst (λ (n : ℕ). ∥ IsRecordOf dump n r ∥₁) (sym long) t), long)
