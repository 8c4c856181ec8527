-- Properties after other revisions: what raised mergeinfo keeps.
use Rattle.dump_history.proofs.Prelude.{◌≡◌, Bool, true, is_some, MatchBool, sym, ap, ◌∙◌, Property, is_mergeinfo, KeepsEntries, IsRaisedValue, IsRaised}
use Rattle.std.proofs.Common.{ℕ, false, List, Some}

-- what is true of a property's value: this depends on whether it is mergeinfo
abbrev SaysOfValue : ℕ → Property → Property → Bool → Type 0
SaysOfValue count old new b = MatchBool b
    ((value raised : List ℕ) × (old.value ≡ Some value) × (new.value ≡ Some raised) × IsRaisedValue count value raised)
    (new.value ≡ old.value)

-- a raised property has its name, and a value if it had one
pub raised_entries : (count : ℕ) → KeepsEntries (IsRaised count)
raised_entries count old new r = (r.name, cases (is_mergeinfo old) r.value)
  where
    cases : (b : Bool) → SaysOfValue count old new b → is_some new.value ≡ is_some old.value
    cases true (value, raised, is, new_is, more) = ap (λ o. is_some o) new_is ∙ sym (ap (λ o. is_some o) is)
    cases false same = ap (λ o. is_some o) same
