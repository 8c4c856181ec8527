use Rattle.dump_digest.proofs.Prelude.{◌≡◌, ℕ, List, length, true, refl, sym, ap, ◌∙◌, Result, Ok, Err, OnOk, Fits-lt-pow, bytes_eq-Decides}
use Rattle.std.specs.Result.{is_ok}
use Rattle.hex.proofs.HexLemmas.{decode_sized-encode_lower}
use Rattle.hex.specs.Hex.{decode_sized}
use Rattle.dump_digest.proofs.digests.is_lower.Goals as goal

-- what is true of a value, if there is one
where_ok : {T E P : Type 0} (r : Result T E) → is_ok r ≡ true → OnOk r P → P
where_ok (Ok x) is p = p
where_ok (Err e) is p = cc

pub returns-then-is_ok : goal.returns-then-is_ok
returns-then-is_ok c = λ same.
    let written = where_ok c.encode_to_slice.result
    (sym c.is_ok.ensures.value ∙ c.if-is_ok.true) c.encode_to_slice.ensures.written in
    let digits = (bytes_eq-Decides c.args.digits.now c.encode_to_slice.new.output).0 (sym c.eq.ensures ∙ same) in
    ap (λ (t : List ℕ). decode_sized t (length c.args.digest.now)) (digits ∙ written)
    ∙ decode_sized-encode_lower c.args.digest.now (length c.args.digest.now) refl
    (λ i. Fits-lt-pow (c.type_inv.digest i))
