use Rattle.dump_rules.proofs.Prelude.{◌≡◌, option_copied, kind_agrees, left_size, parts_agree, parts_left, range_parts}
use Rattle.dump_rules.proofs.blocks.each_part_agrees.Given as goal

abbrev pub invariant-loop-rest : goal.invariant-loop-rest
invariant-loop-rest l =
    parts_agree (range_parts l.list) (range_parts l.list) ≡ kind_agrees l.inheritable (range_parts l.list)
    (parts_left (option_copied l.rest))

abbrev pub decreases-loop-rest : goal.decreases-loop-rest
decreases-loop-rest l = left_size (option_copied l.rest)
