-- A record's bytes from one of its parts on, as a part of the dump.
use Rattle.dump_records.proofs.Prelude.{◌≡◌, ℕ, ◌+◌, ◌-◌, ◌≤◌, List, ◌++◌, take, drop, slice_range, sym, ap, ap₂, ◌∙◌, arith, take-append-drop, take-take, drop-take, drop-drop}

-- a part of a list is the part up to a place, and the part after it
pub slice_join : (d : List ℕ) (a b c : ℕ) → a ≤ b → b ≤ c → slice_range d a c ≡ slice_range d a b ++ slice_range d b c
slice_join d a b c low high =
    let n = b - a in
    let m = c - b in
    let xs = drop a d in
    let total : c - a ≡ n + m = omega arith in
    let behind : drop n xs ≡ drop b d = drop-drop n a d ∙ ap (λ k. drop k d) (omega arith) in
    ap (λ k. take k xs) total
    ∙ sym (take-append-drop n (take (n + m) xs))
    ∙ ap₂ (λ front back. front ++ back) (take-take n (n + m) xs (omega arith))
    (drop-take n m xs ∙ ap (λ t. take m t) behind)
