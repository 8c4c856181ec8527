-- Copies of earlier revisions: if a dump has no others, each step that looks back goes to fewer changes.
use Rattle.std.specs.Prelude.{ℕ, Bool, true, List, Option, Some, None, nat_lt}
use Rattle.std.specs.List.{list_all}
use Rattle.dump_trees.specs.Changes.{Made}
use Rattle.dump_trees.specs.steps.Looking.{Placed}

-- whether something that is copied is of a revision before this one
abbrev pub is_of_before : ℕ → Option Made → Bool
is_of_before revision None = true
is_of_before revision (Some Made.NewDirectory) = true
is_of_before revision (Some Made.NewFile) = true
is_of_before revision (Some (Made.Copied number source)) = nat_lt number revision

-- whether each copy names a revision before its own
abbrev pub copies_back : List Placed → Bool
copies_back placed = list_all (λ (p : Placed). is_of_before p.revision p.change.made) placed
