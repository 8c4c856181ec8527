use Rattle.dump_rules.proofs.Prelude.{List, sym, ap, ◌∙◌, subst, rules, list_any, IsNonDecreasingBy, IsNonDecreasingBy-from_sort_by_key, list_any-IsPermutation, Ends, meets}
use Rattle.dump_rules.proofs.reading.BlockLemmas.{from_rises, to_rises, raised_meets}
use Rattle.dump_rules.proofs.blocks.arrange.Goals as goal

pub returns-clause-from_rises : goal.returns-clause-from_rises
returns-clause-from_rises c =
    let sorted = c.sort_unstable_by_key.new.self in
    let up = IsNonDecreasingBy-from_sort_by_key (λ (e : Ends). e.from) sorted c.sort_unstable_by_key.ensures.sorted
    (λ a r q k. search rules) in
    subst (λ (block : List Ends). IsNonDecreasingBy (λ (e : Ends). e.from) block) (sym c.raise.ensures)
    (from_rises 0 sorted up)

pub returns-clause-to_rises : goal.returns-clause-to_rises
returns-clause-to_rises c =
    subst (λ (block : List Ends). IsNonDecreasingBy (λ (e : Ends). e.to) block) (sym c.raise.ensures)
    (to_rises 0 c.sort_unstable_by_key.new.self)

pub returns-clause-same : goal.returns-clause-same
returns-clause-same c from to =
    let sorted = c.sort_unstable_by_key.new.self in
    let up = IsNonDecreasingBy-from_sort_by_key (λ (e : Ends). e.from) sorted c.sort_unstable_by_key.ensures.sorted
    (λ a r q k. search rules) in
    ap (list_any (meets from to)) c.raise.ensures
    ∙ raised_meets from to sorted up
    ∙ sym (list_any-IsPermutation (meets from to) c.args.block.now sorted c.sort_unstable_by_key.ensures.permutation)
