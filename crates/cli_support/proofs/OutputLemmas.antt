-- What a writer took of an output whose last bytes are in the buffer or were written.
use Rattle.cli_support.proofs.Prelude.{◌≡◌, ℕ, List, [], ◌++◌, Option, None, Some, refl, sym, ap, subst, ◌∙◌, append_assoc, append_cancel_left, Appends, Appends-kept, Keeps, GrowsBy, append_known, LentState, lent_taken, IsPrefixOf}
use Rattle.dump_writer.specs.steps.SinkCalls.{TakesOnlyFirst}
use Rattle.std.proofs.Common.{Err, IfErr, Ok, OnOk, Result, drop, take}
use Rattle.std.proofs.lemmas.List.{append-nil, take-append-drop}
use Rattle.dump_writer.specs.SinkWords.{TakesPart}

-- if nothing waits, the known bytes are those of the writer
pub from_none : (a b : Option (List ℕ)) (bytes : List ℕ) → Appends (append_known a []) b bytes → Appends a b bytes
from_none None b bytes more = tt
from_none (Some xs) None bytes more = absurd more
from_none (Some xs) (Some ys) bytes more = more ∙ ap (λ t. t ++ bytes) (append-nil xs)

to_none : (a c : Option (List ℕ)) (bytes : List ℕ) → Appends a (append_known c []) bytes → Appends a c bytes
to_none None c bytes more = tt
to_none (Some xs) None bytes more = more
to_none (Some xs) (Some ys) bytes more = sym (append-nil ys) ∙ more

-- the writer took those of the sent bytes that don't wait
pub part_taken : (a c : Option (List ℕ)) (waiting sent : List ℕ) (n : ℕ) → GrowsBy a c n
    → Appends a (append_known c waiting) sent
    → (part : List ℕ) × IsPrefixOf part sent × Appends a c part
part_taken None c waiting sent n grown all = ([], (sent, refl), tt)
part_taken (Some xs) None waiting sent n grown all = absurd all
part_taken (Some xs) (Some ys) waiting sent n grown all = (
  grown.0,
  (
    waiting,
    append_cancel_left xs sent (grown.0 ++ waiting)
        (sym all ∙ ap (λ t. t ++ waiting) grown.1 ∙ append_assoc xs grown.0 waiting),
  ),
  grown.1,
)

-- a whole text, after which nothing waits
pub handed_on : (a b : Option (List ℕ)) (sink : LentState) (text : List ℕ) → Appends (append_known a []) b text
    → Keeps b (lent_taken sink) → sink.waiting ≡ [] → Appends a sink.out.taken text
handed_on a b sink text appended kept none = from_none a sink.out.taken text
    (to_none (append_known a []) sink.out.taken text
    (Appends-kept (append_known a []) b (append_known sink.out.taken []) text appended
    (subst (λ w. Keeps b (append_known sink.out.taken w)) none kept)))

-- a sink that took only the first of the bytes took a first part of them
pub some_of : (old new : Option (List ℕ)) (text line : List ℕ) (n : ℕ) → TakesOnlyFirst old new text n → line ≡ text
    → TakesPart old new line
some_of old new text line n (count, low, more, is) same =
    (take count text, (drop count text, same ∙ sym (take-append-drop count text)), more)

-- if a sink took a first part of a text, the writer took a first part
pub some_sent : (a b : Option (List ℕ)) (sink : LentState) (text : List ℕ) (n : ℕ)
    → TakesPart (append_known a []) b text → Keeps b (lent_taken sink) → GrowsBy a sink.out.taken n
    → TakesPart a sink.out.taken text
some_sent a b sink text n (part, (rest, is), more) kept grown =
    let (taken, (behind, parts), appended) = part_taken a sink.out.taken sink.waiting part n grown
    (Appends-kept a b (lent_taken sink) part (from_none a b part more) kept) in (
      taken,
      (behind ++ rest, is ∙ ap (λ l. l ++ rest) parts ∙ append_assoc taken behind rest),
      appended,
    )

-- if a writer took nothing, it took a first part of any text
pub none_taken : (old : Option (List ℕ)) (text : List ℕ) → TakesPart old old text
none_taken None text = ([], (text, refl), tt)
none_taken (Some xs) text = ([], (text, refl), sym (append-nil xs))

-- what a sink took of a text, all of it or only the first bytes
pub sent_some : {A E : Type 0} (old new : Option (List ℕ)) (text line : List ℕ) (count : E → ℕ) (r : Result A E)
    → OnOk r (Appends old new text) → IfErr r (λ e. TakesOnlyFirst old new text (count e)) → line ≡ text
    → TakesPart old new line
sent_some old new text line count (Ok x) whole cut same =
    (text, ([], same ∙ sym (append-nil text)), whole)
sent_some old new text line count (Err e) whole cut same = some_of old new text line (count e) cut same
