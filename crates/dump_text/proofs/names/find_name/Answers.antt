use Rattle.dump_text.proofs.Prelude.{sym, ap, ◌∙◌, bytes_eq, find, drop_more, drop_all, HeaderName, FormatVersion, name_text}
use Rattle.dump_text.proofs.NameLemmas.{find_behind, find_here}
use Rattle.dump_text.proofs.names.find_name.Goals as goal

pub loop-name-preserved : goal.loop-name-preserved
loop-name-preserved c =
    let p = λ (name : HeaderName). bytes_eq c.args.bytes.now (name_text name) in
    c.loop-name.invariant
    ∙ ap (find p) (drop_more c.args.names.now c.loop-name.name-index FormatVersion c.loop-name-test.true)
    ∙ find_behind p _ _ (sym (c.eq.ensures ∙ ap (bytes_eq c.args.bytes.now) c.bytes.ensures) ∙ c.if-eq.false)

pub returns-then-eq : goal.returns-then-eq
returns-then-eq c =
    let p = λ (name : HeaderName). bytes_eq c.args.bytes.now (name_text name) in
    sym (c.loop-name.invariant ∙ ap (find p)
    (drop_more c.args.names.now c.loop-name.name-index FormatVersion c.loop-name-test.true)
    ∙ find_here p _ _ (sym (c.eq.ensures ∙ ap (bytes_eq c.args.bytes.now) c.bytes.ensures) ∙ c.if-eq.true))

pub returns : goal.returns
returns c =
    let p = λ (name : HeaderName). bytes_eq c.args.bytes.now (name_text name) in
    sym (c.loop-name.invariant ∙ ap (find p) (drop_all c.loop-name.name-index c.args.names.now c.loop-name-test.false))
