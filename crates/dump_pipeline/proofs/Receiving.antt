-- What the sink received of the pieces so far, if it fails within one.
use Rattle.dump_pipeline.proofs.Prelude.{◌≡◌, ◌∙◌, ℕ, Bool, true, false, List, ◌++◌, take, drop, Option, sym, ap, subst, arith, append_assoc, MatchBool, take-append-drop, length-take, Appends-trans, IsPrefixOf, HasReceived, StopsShort}
use Rattle.std.proofs.Common.{length-append}

-- it took only the first bytes of the piece
pub part_received : (failed : Bool) (text piece : List ℕ) (first old new : Option (List ℕ)) (count more : ℕ)
    → failed ≡ false
    → HasReceived failed text first old count → StopsShort old new piece count more
    → HasReceived true (text ++ piece) first new more
part_received failed text piece first old new count more fine h short = record {
  received = h.received ++ take short.part piece;
  appended = Appends-trans first old new h.received (take short.part piece) h.appended short.appended;
  part = (
    drop short.part piece,
    ap (λ (t : List ℕ). text ++ t) (sym (take-append-drop short.part piece))
        ∙ (sym (append_assoc text (take short.part piece) (drop short.part piece))
        ∙ ap (λ (t : List ℕ). (t ++ take short.part piece) ++ drop short.part piece) (sym same)),
  );
  sized =
      let size = length-append h.received (take short.part piece) in
      let taken = length-take short.part piece in
      let sized = h.sized in
      let less = short.short in
      let sum = short.count_is in
      omega arith;
}
  where
    same : h.received ≡ text
    same = subst (λ (b : Bool). MatchBool b (IsPrefixOf h.received text) (h.received ≡ text)) fine h.part
