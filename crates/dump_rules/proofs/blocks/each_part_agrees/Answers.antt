use Rattle.dump_rules.proofs.Prelude.{◌&&◌, ◌∙◌, sym, ap, not, take, Bool, Option, Bor, List, ℕ, option_copied, kind_agrees, parts_left, range_parts}
use Rattle.dump_rules.proofs.reading.BlockLemmas.{agrees_unless, one_kind_suffices}
use Rattle.dump_rules.proofs.blocks.each_part_agrees.Goals as goal

pub loop-rest-init : goal.loop-rest-init
loop-rest-init c = sym (one_kind_suffices c.lacks_few_stars-inheritable.result (range_parts c.args.list.now))

pub returns-then-arranged_contradicts_some : goal.returns-then-arranged_contradicts_some
returns-then-arranged_contradicts_some c =
    let all = range_parts c.args.list.now in
    let kind = c.lacks_few_stars-inheritable.result in
    let behind = kind_agrees kind all (parts_left (option_copied c.in-Some-fill.behind)) in
    sym (c.loop-rest.invariant
    ∙ ap (λ (o : Option (Bor (List ℕ))). kind_agrees kind all (parts_left (option_copied o))) c.in-Some.is
    ∙ c.in-Some-fill.ensures.filled.2 all
    ∙ ap (λ (b : Bool). b && behind)
    (agrees_unless kind all (take c.in-Some-fill.count c.fill.new.block)
    ∙ ap not (sym c.arranged_contradicts_some.ensures ∙ c.if-arranged_contradicts_some.true)))

pub loop-rest-preserved : goal.loop-rest-preserved
loop-rest-preserved c =
    let all = range_parts c.args.list.now in
    let kind = c.lacks_few_stars-inheritable.result in
    let behind = kind_agrees kind all (parts_left (option_copied c.in-Some-fill.behind)) in
    c.loop-rest.invariant
    ∙ ap (λ (o : Option (Bor (List ℕ))). kind_agrees kind all (parts_left (option_copied o))) c.in-Some.is
    ∙ c.in-Some-fill.ensures.filled.2 all
    ∙ ap (λ (b : Bool). b && behind)
    (agrees_unless kind all (take c.in-Some-fill.count c.fill.new.block)
    ∙ ap not (sym c.arranged_contradicts_some.ensures ∙ c.if-arranged_contradicts_some.false))
