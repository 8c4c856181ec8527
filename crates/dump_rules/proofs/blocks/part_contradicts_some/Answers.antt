use Rattle.dump_rules.proofs.Prelude.{◌≡◌, ◌&&◌, sym, ap, ◌∙◌, Bool, None, option_map, list_any, and_left, block_contradicts, meets, range_of, span_range}
use Rattle.dump_rules.proofs.reading.BlockLemmas.{differ, none_contradicts, meets_contradicts}
use Rattle.dump_rules.proofs.blocks.part_contradicts_some.Goals as goal

pub returns-in-None : goal.returns-in-None
returns-in-None c =
    let none : range_of c.args.part.now ≡ None = sym c.range.ensures ∙ ap (option_map span_range) c.in-None.is in
    sym (ap (block_contradicts c.args.inheritable c.args.block.now) none
    ∙ none_contradicts c.args.inheritable c.args.block.now)

pub returns-then-inheritable-other : goal.returns-then-inheritable-other
returns-then-inheritable-other c =
    let other = c.in-Some.other in
    c.some_meets.ensures
    ∙ ap (λ (b : Bool). b && list_any (meets other.from other.to) c.args.block.now)
    (sym c.if-inheritable-other.true ∙ differ c.args.inheritable other.inheritable)
    ∙ sym (meets_contradicts c.args.inheritable c.args.block.now (span_range other))
    ∙ ap (block_contradicts c.args.inheritable c.args.block.now) c.in-Some.ensures

pub returns-else-inheritable-other : goal.returns-else-inheritable-other
returns-else-inheritable-other c =
    let other = c.in-Some.other in
    c.if-inheritable-other.false
    ∙ sym (and_left _ _ (sym (differ c.args.inheritable other.inheritable) ∙ c.if-inheritable-other.false))
    ∙ sym (meets_contradicts c.args.inheritable c.args.block.now (span_range other))
    ∙ ap (block_contradicts c.args.inheritable c.args.block.now) c.in-Some.ensures
