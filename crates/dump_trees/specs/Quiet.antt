-- Quiet changes: their header lines, their properties and the prefixes alone show that they are separated, without any
-- tree. One thing isn't shown so: whether a copy of a path that isn't kept is made over something.
use Rattle.std.specs.Prelude.{ℕ, Bool, true, not, ◌&&◌, ◌||◌, List, [], ◌∷◌, ◌++◌, drop, length, Option, Some, None, is_some, slice_get, if◌then◌else◌}
use Rattle.std.specs.List.{list_all}
use Rattle.dump_rules.specs.declared.options.Side.{Side}
use Rattle.dump_rules.specs.declared.options.Side.TheVariants.{Include, Exclude}
use Rattle.dump_rules.specs.Prefix.{bare_prefix}
use Rattle.dump_rules.specs.Settings.{Settings, keeps_path}
use Rattle.dump_trees.specs.Paths.{NodePath, path_text, keeps}
use Rattle.dump_trees.specs.Trees.{Tree}
use Rattle.dump_trees.specs.Changes.{Made, is_copied, PropertyChange, Change, History, step, steps}
use Rattle.dump_trees.specs.Restriction.{is_above, is_above_some, is_lost}

-- the text of a prefix that is below the path, without the path
abbrev pub rest_of_prefix : NodePath → List ℕ → List ℕ
rest_of_prefix path prefix = drop (length (path_text path)) (47 ∷ bare_prefix prefix)

-- whether a prefix is below the one path, and the same rest below the other one is kept
abbrev pub cuts_one : Settings → NodePath → NodePath → List ℕ → Bool
cuts_one settings path other prefix =
    is_above path prefix && keeps_path settings (path_text other ++ rest_of_prefix path prefix)

-- whether no prefix excludes below the one path what is kept below the other; included prefixes exclude nothing there
abbrev pub cuts_alike : Side → Settings → NodePath → NodePath → Bool
cuts_alike Include settings path other = true
cuts_alike Exclude settings path other =
    list_all (λ prefix. not (cuts_one settings path other prefix)) settings.prefixes

-- whether a kept change is quiet. If it copies a kept path, no prefix excludes at the copy what is kept at the source,
-- nor at the source what is kept at the copy. If it copies a path that isn't kept, it sets properties itself
abbrev pub is_quiet_kept : Settings → NodePath → Option PropertyChange → Option Made → Bool
is_quiet_kept settings path props None = true
is_quiet_kept settings path props (Some Made.NewDirectory) = true
is_quiet_kept settings path props (Some Made.NewFile) = true
is_quiet_kept settings path props (Some (Made.Copied number source)) =
    if keeps settings source then
    cuts_alike settings.side settings source path && cuts_alike settings.side settings path source
    else is_some props

-- whether a dropped change is quiet: it doesn't delete or copy at a path above an included prefix
abbrev pub is_quiet_dropped : Settings → Change → Bool
is_quiet_dropped settings c =
    not ((c.deletes || is_copied c.made) && is_above_some settings.side settings.prefixes c.path)

-- whether a change is quiet
abbrev pub is_quiet : Settings → Change → Bool
is_quiet settings c =
    if keeps settings c.path then is_quiet_kept settings c.path c.props c.made else is_quiet_dropped settings c

-- whether each change of these revisions is quiet
abbrev pub are_quiet : Settings → List (List Change) → Bool
are_quiet settings revisions = list_all (λ changes. list_all (is_quiet settings) changes) revisions

-- whether a kept change copies a path that isn't kept over what exists at its path, and doesn't delete that first
abbrev pub is_over : Settings → Tree → Change → Bool
is_over settings before c =
    keeps settings c.path && is_lost settings c.made && not c.deletes && is_some (before c.path)

-- whether the test holds of the tree, if there is one
abbrev pub holds_of_some : (Tree → Bool) → Option Tree → Bool
holds_of_some test None = true
holds_of_some test (Some tree) = test tree

-- whether none of the changes of a revision does so
abbrev pub none_is_over : Settings → History → Tree → List Change → Bool
none_is_over settings history before [] = true
none_is_over settings history before (c ∷ changes) =
    not (is_over settings before c)
    && holds_of_some (λ after. none_is_over settings history after changes) (step history before c)

-- whether none of the changes of any revision does so: no lost copy is made over something
abbrev pub nowhere_is_over : Settings → List Tree → Tree → List (List Change) → Bool
nowhere_is_over settings trees youngest [] = true
nowhere_is_over settings trees youngest (changes ∷ revisions) =
    none_is_over settings (slice_get trees) youngest changes
    && holds_of_some (λ tree. nowhere_is_over settings (trees ++ tree ∷ []) tree revisions)
    (steps (slice_get trees) youngest changes)
