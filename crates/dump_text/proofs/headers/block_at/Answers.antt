use Rattle.std.proofs.lemmas.Bool.{and_from}
use Rattle.dump_text.proofs.Prelude.{◌≡◌, [], ◌∷◌, ◌++◌, ◌&&◌, length, true, refl, sym, ap, ◌∙◌, subst, eqb-true, known_names, name_text, all_names, noted_span, may_follow, IsSpanOf, header_value, lines_bytes}
use Rattle.dump_text.proofs.ScanLemmas.{lines_behind, lines_more, all_more, is_line, lines_end, clash, no_line_here}
use Rattle.dump_text.proofs.BlockLemmas.{counts_once, once_more, block_end, no_block-lines, no_block-once, no_block-empty}
use Rattle.dump_text.proofs.ValueLemmas.{none_noted, line_of}
use Rattle.dump_text.proofs.PlaceLemmas.{value_behind_front, value_lacks}
use Rattle.dump_text.proofs.headers.block_at.Goals as goal

pub loop-whole-init : goal.loop-whole-init
loop-whole-init c = ([], refl, refl, refl, none_noted c.args.dump.now (length all_names))

pub returns-then-size-gt0 : goal.returns-then-size-gt0
returns-then-size-gt0 c =
    let (hs, is, all, once, are) = c.loop-whole.invariant in
    let empty = eqb-true _ 0 (sym c.is_empty.ensures ∙ c.if-is_empty.true) in
    let (end, read) = lines_end c.args.text.now _ c.loop-whole.rest.now _ hs is all c.in-Some.ensures empty in
    let (block, whole) = block_end c.args.text.now _ end c.if-size-gt0.true
    (ap (counts_once known_names) read ∙ once) in (
      block,
      λ name. subst (λ headers. IsSpanOf c.args.dump.now (noted_span c.loop-whole.spans name)
          (header_value (name_text name) headers)) (sym (whole ∙ read)) (are name),
    )

pub returns-else-size-gt0 : goal.returns-else-size-gt0
returns-else-size-gt0 c =
    let (hs, is, all, once, are) = c.loop-whole.invariant in
    let empty = eqb-true _ 0 (sym c.is_empty.ensures ∙ c.if-is_empty.true) in
    let (end, read) = lines_end c.args.text.now _ c.loop-whole.rest.now _ hs is all c.in-Some.ensures empty in
    no_block-empty c.args.text.now _ end c.if-size-gt0.false

pub returns-in_default-name_and_value : goal.returns-in_default-name_and_value
returns-in_default-name_and_value c = no_block-lines c.args.text.now (λ (ks, rest, all', spelled).
    let (hs, is, all, once, are) = c.loop-whole.invariant in
    let left = lines_behind hs ks _ rest all all' (sym is ∙ spelled) in
    no_line_here left.0 _ _ _ _ left.1 c.in-Some.ensures left.2
    (sym c.is_empty.ensures ∙ c.if-is_empty.false) c.in_default-name_and_value.ensures)

pub returns-then-not-note : goal.returns-then-not-note
returns-then-not-note c =
    let (hs, is, all, once, are) = c.loop-whole.invariant in
    let cut = c.in-Some-name_and_value.ensures in
    let h = line_of c.in-Some-name_and_value.name.now c.in-Some-name_and_value.value.now in
    let stays = all_more hs h all (is_line _ _ _ c.in-Some.ensures.one_line cut) in
    no_block-once c.args.text.now c.in-Some.others.now (hs ++ h ∷ []) stays
    (lines_more _ _ _ _ hs h is c.in-Some.ensures cut)
    (once_more hs h ∙ ap (λ b. b && counts_once known_names hs)
    (sym (c.note.ensures.follows c.args.dump.now hs are) ∙ c.if-not-note.true))

pub loop-whole-preserved : goal.loop-whole-preserved
loop-whole-preserved c =
    let (hs, is, all, once, are) = c.loop-whole.invariant in
    let cut = c.in-Some-name_and_value.ensures in
    let h = line_of c.in-Some-name_and_value.name.now c.in-Some-name_and_value.value.now in
    let follows : may_follow hs h.name ≡ true = sym (c.note.ensures.follows c.args.dump.now hs are) ∙ c.if-not-note.false in (
      hs ++ h ∷ [],
      lines_more _ _ _ _ hs h is c.in-Some.ensures cut,
      all_more hs h all (is_line _ _ _ c.in-Some.ensures.one_line cut),
      once_more hs h ∙ and_from _ _ follows once,
      c.note.ensures.noted c.args.dump.now hs c.in-Some-name_and_value.value.now are c.before-in-Some.ensures c.if-not-note.false,
    )

pub returns : goal.returns
returns c = no_block-lines c.args.text.now (λ (ks, rest, all', spelled).
    let (hs, is, all, once, are) = c.loop-whole.invariant in
    let left = lines_behind hs ks _ rest all all' (sym is ∙ spelled) in
    clash 10 _ _ _ c.in_default.ensures left.2)

pub before-requires-clause-line : goal.before-requires-clause-line
before-requires-clause-line c =
    let cut = c.in-Some-name_and_value.ensures in
    value_lacks _ _ _ c.in-Some.ensures.one_line cut

pub before-requires-clause-stands : goal.before-requires-clause-stands
before-requires-clause-stands c =
    let (hs, is, all, once, are) = c.loop-whole.invariant in
    value_behind_front c.args.dump.now c.args.text.now _ _ _ _ _ c.requires.0 (lines_bytes hs) c.requires.1 is
    c.in-Some.ensures c.in-Some-name_and_value.ensures
