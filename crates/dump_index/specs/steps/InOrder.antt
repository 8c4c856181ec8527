-- Changes that can be indexed. They are in the order of their revisions, and each is at a path that doesn't end in a
-- slash. Each copy is of an earlier revision, and of a path that doesn't end in a slash.
use Rattle.std.specs.Prelude.{ℕ, Bool, true, false, not, ◌&&◌, ◌==◌, List, [], ◌∷◌, Option, Some, None, nat_lt, nat_le}
use Rattle.dump_index.specs.declared.change.NodeChange.{NodeChange}
use Rattle.dump_index.specs.declared.change.NodeMade.{NodeMade}
use Rattle.dump_index.specs.declared.change.NodeMade.TheVariants.{Directory, File, CopyOf}

-- whether the last byte is a slash
abbrev pub ends_in_slash : List ℕ → Bool
ends_in_slash [] = false
ends_in_slash (b ∷ []) = b == 47
ends_in_slash (b ∷ c ∷ text) = ends_in_slash (c ∷ text)

-- whether a change is no copy, or a copy of an earlier revision and of a path that doesn't end in a slash
abbrev pub is_from_before : ℕ → Option NodeMade → Bool
is_from_before revision None = true
is_from_before revision (Some Directory) = true
is_from_before revision (Some File) = true
is_from_before revision (Some (CopyOf source)) = nat_lt source.revision revision && not (ends_in_slash source.path.now)

-- whether the change's revision isn't below this one and its path doesn't end in a slash; and whether a copy is of an
-- earlier revision and of a path that doesn't end in a slash
abbrev pub comes_in_order : ℕ → NodeChange → Bool
comes_in_order least c = (nat_le least c.revision && is_from_before c.revision c.made) && not (ends_in_slash c.path.now)

-- whether each change comes in order: the first one after this revision, and each other one after the revision of the
-- change before it
abbrev pub are_in_order : ℕ → List NodeChange → Bool
are_in_order least [] = true
are_in_order least (c ∷ changes) = comes_in_order least c && are_in_order c.revision changes
