-- What copies bring that is excluded on one side only, as the program finds it.
use Rattle.std.specs.Prelude.{ℕ, List, map}
use Rattle.dump_trees.specs.Following as Following
use Rattle.dump_trees.specs.steps.FollowedRests as FollowedRests
use Rattle.dump_trees.specs.Paths.{NodePath, names_of}
use Rattle.dump_cut.specs.declared.returns.PlacedRest.{PlacedRest}
use Rattle.dump_cut.specs.declared.returns.Way.{Way}
use Rattle.dump_cut.specs.declared.returns.Way.TheVariants.{ToCopies, ToSources}

-- the same direction, as the laws of following name it
abbrev pub way_meant : Way → Following.Way
way_meant ToCopies = Following.Way.ToCopies
way_meant ToSources = Following.Way.ToSources

-- the same rest, as these laws name it
abbrev pub rest_meant : PlacedRest → FollowedRests.PlacedRest
rest_meant found = record { place = found.place; rest = names_of found.rest.now }

-- the rests of the copy at a place
abbrev pub placed_rests : ℕ → List NodePath → List FollowedRests.PlacedRest
placed_rests place rests = map (λ rest. record { place = place; rest = rest }) rests
