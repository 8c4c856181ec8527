-- Names as texts.
use Rattle.std.specs.Prelude.{ℕ, Bool, not, ◌==◌, List}
use Rattle.std.specs.List.{list_all}

-- whether the text has no slash
abbrev pub has_no_slash : List ℕ → Bool
has_no_slash text = list_all (λ b. not (b == 47)) text
