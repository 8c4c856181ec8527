-- Copies to directories of which a part is excluded at the copy alone: the filter takes each as it is, and deletes of that part
-- follow it.
use Rattle.std.specs.Prelude.{◌≡◌, ◌==◌, ℕ, Bool, not, List, [], ◌++◌, filter, length, map, IsTrue, slice_get, Some, IsFalse}
use Rattle.std.specs.List.{list_all}
use Rattle.dump_records.specs.DumpText.{Ending, HasRecords}
use Rattle.dump_records.specs.RecordText.{DumpRecord}
use Rattle.dump_rules.specs.Settings.{Settings}
use Rattle.dump_filter.specs.FilterLaws.{LengthsFit}
use Rattle.dump_filter.specs.WholeText.{IsCleanText}
use Rattle.dump_trees.specs.Changes.{Change}
use Rattle.dump_trees.specs.steps.FollowedRests.{all_rests, rests_made}
use Rattle.dump_trees.specs.Following.{Way}
use Rattle.dump_trees.specs.steps.LoadCheck.{ToldKinds}
use Rattle.dump_trees.specs.steps.Looking.{Placed, placed_from}
use Rattle.dump_trees.specs.Paths.{NodePath, path_of}
use Rattle.dump_trees.specs.Returns.{is_covered}
use Rattle.dump_trees.specs.steps.Returns.{lie_apart}
use Rattle.dump_trees.specs.Siblings.{has_node_names}
use Rattle.dump_trees.specs.steps.Siblings.{ExcludesPaths}
use Rattle.dump_trees.specs.Trees.{Tree, root_alone}
use Rattle.dump_history.specs.DumpChanges.{LoadsAs}
use Rattle.dump_history.specs.RecordChanges.{Patching}
use Rattle.dump_history.specs.steps.CutDumps.{leaves_no_gap}
use Rattle.dump_history.specs.steps.TrimmedDumps.{FiltersTrimmed}
use Rattle.dump_history.specs.WrittenNodes.{is_plain_path}
use Rattle.dump_index.specs.steps.IndexLaws.{AreListed}
use Rattle.dump_index.specs.steps.Listed.{listed_of}
use Rattle.dump_index.specs.steps.ToldKinds.{kinds_told_by}
use Rattle.dump_index.specs.declared.change.NodeChange.{NodeChange}
use Rattle.dump_cut.specs.steps.NamedPaths.{has_named_paths}
use Rattle.dump_cut.specs.TrimmedCopies.{IsTrimmedBy}

-- what a copy takes to excluded paths, though it isn't excluded at the source: the topmost such paths. Another change takes
-- nothing
abbrev pub lost_paths : List NodePath → ToldKinds → List Placed → Placed → List NodePath
lost_paths excluded told placed p =
    map (λ rest. p.change.path ++ rest)
    (rests_made Way.ToSources excluded told placed p.change.path p.change.made)

-- the changes at paths that aren't excluded
abbrev pub kept_changes : List NodePath → List Placed → List Placed
kept_changes excluded placed = filter (λ (p : Placed). not (is_covered excluded p.change.path)) placed

-- whether a load reads all these texts unchanged, as paths of nodes
abbrev pub are_plain : List (List (List ℕ)) → Bool
are_plain deletes = list_all (λ texts. list_all is_plain_path texts) deletes

-- whether nothing is deleted
abbrev pub deletes_nothing : List (List (List ℕ)) → Bool
deletes_nothing deletes = list_all (λ texts. length texts == 0) deletes

-- these are the paths to delete after each kept change of a dump, as such texts
pub record AreDeletes (excluded : List NodePath) (told : ToldKinds) (placed : List Placed) (deletes : List (List (List ℕ)))
    : Type 0 where
  pub paths : map (λ texts. map path_of texts) deletes ≡ map (lost_paths excluded told placed) (kept_changes excluded placed)
  pub plain : IsTrue (are_plain deletes)

-- if nothing excluded comes back, what the filter writes is trimmed with these deletes. It drops no revision, or renumbers
pub record TrimsDump (patched : Patching) (settings : Settings) (excluded : List NodePath) (dump filtered text : List ℕ)
    (records : List DumpRecord) (changes : List NodeChange) (revisions : List (List Change)) (trees : List Tree)
    (deletes : List (List (List ℕ))) : Type 0 where
  pub has : HasRecords dump records Ending.Whole
  pub loads : LoadsAs patched root_alone records revisions trees
  pub listed : AreListed changes (placed_from 1 revisions)
  pub named : IsTrue (list_all has_named_paths (map listed_of changes))
  pub excludes : ExcludesPaths settings excluded
  pub are_named : IsTrue (list_all has_node_names excluded)
  pub apart : IsTrue (lie_apart excluded)
  pub nothing_back : all_rests Way.ToCopies excluded (kinds_told_by (map listed_of changes)) (placed_from 1 revisions)
      (length (placed_from 1 revisions)) ≡ []
  pub are_deletes : AreDeletes excluded (kinds_told_by (map listed_of changes)) (placed_from 1 revisions) deletes
  pub clean : IsCleanText settings dump records filtered
  pub fit : LengthsFit settings records
  pub trimmed : IsTrimmedBy deletes filtered text

abbrev pub TrimmedCopiesLoad : Type 0
TrimmedCopiesLoad = (patched : Patching) (settings : Settings) (excluded : List NodePath) (dump filtered text : List ℕ)
    (records : List DumpRecord) (changes : List NodeChange) (revisions : List (List Change)) (trees : List Tree)
    (deletes : List (List (List ℕ))) →
    TrimsDump patched settings excluded dump filtered text records changes revisions trees deletes
    → IsTrue (leaves_no_gap settings) → FiltersTrimmed patched settings dump records revisions trees text

-- the change at this place is kept, and takes something to a path that a load doesn't read unchanged
pub record HasOddDelete (excluded : List NodePath) (told : ToldKinds) (placed : List Placed) (place : ℕ) : Type 0 where
  pub at : Placed
  pub there : slice_get placed place ≡ Some at
  pub kept : IsFalse (is_covered excluded at.change.path)
  pub texts : List (List ℕ)
  pub paths : map path_of texts ≡ lost_paths excluded told placed at
  pub odd : IsFalse (list_all is_plain_path texts)
