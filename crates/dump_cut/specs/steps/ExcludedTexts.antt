-- Excluded paths as texts.
use Rattle.std.specs.Prelude.{ℕ, Bool, ◌&&◌, not, List, map, filter, bytes_eq, IsTrue}
use Rattle.std.specs.List.{list_all}
use Rattle.dump_trees.specs.steps.Returns.{lie_apart}
use Rattle.dump_trees.specs.Siblings.{has_node_names}
use Rattle.dump_index.specs.steps.Effects.{stands_over}
use Rattle.dump_index.specs.steps.Touching.{rest_text}
use Rattle.dump_cut.specs.steps.ExcludedPaths.{paths_of}

-- they have names of nodes, and none of them is at or below another one
abbrev pub AreExcluded : List (List ℕ) → Type 0
AreExcluded texts = IsTrue (list_all has_node_names (paths_of texts)) × IsTrue (lie_apart (paths_of texts))

-- whether a text is below `top`, and isn't `top`
abbrev pub is_text_below : List ℕ → List ℕ → Bool
is_text_below top text = stands_over text top && not (bytes_eq top text)

-- for each of the texts that is below the top, its rest after the top
abbrev pub texts_below : List ℕ → List (List ℕ) → List (List ℕ)
texts_below top texts = map (rest_text top) (filter (is_text_below top) texts)
