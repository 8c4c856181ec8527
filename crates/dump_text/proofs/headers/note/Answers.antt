use Rattle.dump_text.proofs.Prelude.{ℕ, ◌<◌, ◌++◌, ◌∷◌, [], ap, sym, ◌∙◌, not, length, subst, slice_index_or, slice_set, name_place, AreValues, is_there, no_span}
use Rattle.dump_text.proofs.NameLemmas.{tag_place, place_inside}
use Rattle.dump_text.proofs.ValueLemmas.{unknown_follows, unknown_noted, known_follows, known_noted, line_of}
use Rattle.dump_text.proofs.headers.note.Goals as goal

pub returns-in_default-clause-follows : goal.returns-in_default-clause-follows
returns-in_default-clause-follows c = λ dump headers are.
    unknown_follows dump headers c.args.spans.now are c.args.name.now (sym c.of.ensures ∙ c.in_default.is)

pub returns-in_default-clause-noted : goal.returns-in_default-clause-noted
returns-in_default-clause-noted c = λ dump headers value are stands so.
    unknown_noted dump headers c.args.spans.now are c.args.name.now (sym c.of.ensures ∙ c.in_default.is) value

pub returns-then-is_there-clause-follows : goal.returns-then-is_there-clause-follows
returns-then-is_there-clause-follows c = λ dump headers are.
    let slot = λ (i : ℕ). is_there (slice_index_or c.args.spans.now i no_span).place in
    sym (known_follows dump headers c.args.spans.now are c.args.name.now c.in-Some.known (sym c.of.ensures ∙ c.in-Some.is)
    ∙ ap not (ap slot (sym (tag_place c.in-Some.known)) ∙ sym c.is_there.ensures ∙ c.if-is_there.true))

pub returns-clause-follows : goal.returns-clause-follows
returns-clause-follows c = λ dump headers are.
    let slot = λ (i : ℕ). is_there (slice_index_or c.args.spans.now i no_span).place in
    sym (known_follows dump headers c.args.spans.now are c.args.name.now c.in-Some.known (sym c.of.ensures ∙ c.in-Some.is)
    ∙ ap not (ap slot (sym (tag_place c.in-Some.known)) ∙ sym c.is_there.ensures ∙ c.if-is_there.false))

pub returns-clause-noted : goal.returns-clause-noted
returns-clause-noted c = λ dump headers value are stands so.
    let spans = c.args.spans.now in
    let slot = λ (i : ℕ). is_there (slice_index_or spans i no_span).place in
    let inside = place_inside c.in-Some.known in
    let room : name_place c.in-Some.known < length spans = subst (λ n. name_place c.in-Some.known < n)
    (sym c.told-spans) inside in
    subst (λ i. AreValues dump (headers ++ line_of c.args.name.now value ∷ [])
    (slice_set spans i c.args.value)) (sym (tag_place c.in-Some.known))
    (known_noted dump headers spans are c.args.name.now c.in-Some.known (sym c.of.ensures ∙ c.in-Some.is) room
    (ap slot (sym (tag_place c.in-Some.known)) ∙ sym c.is_there.ensures ∙ c.if-is_there.false) c.args.value value stands)
