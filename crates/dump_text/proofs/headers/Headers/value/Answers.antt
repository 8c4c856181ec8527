use Rattle.dump_text.proofs.Prelude.{sym, ◌∙◌, name_text, IsPartBetween, block_headers}
use Rattle.dump_text.proofs.ValueLemmas.{if_copied, span_of_name, value_lent}
use Rattle.dump_text.proofs.headers.Headers.value.Goals as goal

pub value_in-requires : goal.value_in-requires
value_in-requires c =
    let h = c.args.self.now in
    let span = span_of_name h.block.dump.now (block_headers h.block) h.spans h.known c.args.name in
    record { inside = (span.rises, span.inside) }

pub returns-clause-value : goal.returns-clause-value
returns-clause-value c =
    let h = c.args.self.now in
    c.value_in.ensures ∙ (span_of_name h.block.dump.now (block_headers h.block) h.spans h.known c.args.name).ends

pub returns-clause-lent : goal.returns-clause-lent
returns-clause-lent c =
    let h = c.args.self.now in
    let b = h.block in
    if_copied _ (IsPartBetween b.dump.now b.place b.after) (λ value is.
    value_lent b.dump.now b.place b.after b.stands (name_text c.args.name) value
    (sym (c.value_in.ensures ∙ (span_of_name b.dump.now (block_headers b) h.spans h.known c.args.name).ends) ∙ is))
