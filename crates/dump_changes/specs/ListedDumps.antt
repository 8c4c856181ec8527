-- The changes of a dump's revisions, as an index lists them.
use Rattle.std.specs.Prelude.{◌&&◌, ℕ, suc, nat_le, Bool, true, List, [], ◌∷◌}

-- whether numbers rise, and none is below this one
abbrev pub rise_from : ℕ → List ℕ → Bool
rise_from least [] = true
rise_from least (n ∷ numbers) = nat_le least n && rise_from (suc n) numbers
