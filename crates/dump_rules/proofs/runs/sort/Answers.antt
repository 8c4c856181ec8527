use Rattle.dump_rules.proofs.Prelude.{rules, IsNonDecreasingBy-from_sort_by_key}
use Rattle.dump_rules.proofs.new_values.RunsLemmas.{sorted_runs}
use Rattle.dump_rules.proofs.runs.sort.Goals as goal

pub returns : goal.returns
returns c =
    sorted_runs c.args.spans.now.items c.sort_unstable_by_key.new.self.items c.requires.numbers c.requires.consistent c.sort_unstable_by_key.ensures.permutation
    (IsNonDecreasingBy-from_sort_by_key
    (λ s. s.from) c.sort_unstable_by_key.new.self.items c.sort_unstable_by_key.ensures.sorted
    (λ a r q k. search rules))
