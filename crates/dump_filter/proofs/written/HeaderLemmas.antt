-- If no header line has a name, its length is 0.
use Rattle.dump_filter.proofs.Prelude.{◌≡◌, ℕ, false, List, sym, ap, unwrap_or, Header, has_header, header_length, no_number}

-- a header that isn't there gives no length
pub no_length : (name : List ℕ) (headers : List Header) → has_header name headers ≡ false
    → header_length name headers ≡ 0
no_length name headers none = ap (λ o. unwrap_or o 0) (sym (no_number name headers none))
