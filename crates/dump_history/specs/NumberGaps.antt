-- Gaps in the numbers of a dump's revisions. A load numbers revisions itself, without gaps, and goes by the numbers in
-- the dump only to find the revisions that copies and mergeinfo name (svnadmin load of Subversion 1.14,
-- load-fs-vtable.c). So if none is named after a gap, a dump makes the revisions that it would make without it.
use Rattle.std.specs.Prelude.{◌≡◌, ◌⊎◌, ℕ, suc, Bool, true, false, not, ◌&&◌, ◌||◌, ◌==◌, List, [], ◌∷◌, nat_lt, Some, Contains, IsTrue, MatchBool, ⊤}
use Rattle.std.specs.List.{AllZip, list_all, list_any}
use Rattle.dump_text.specs.PropertyList.{Property}
use Rattle.dump_records.specs.RecordText.{DumpRecord}
use Rattle.dump_rules.specs.Settings.{Settings}
use Rattle.dump_digest.specs.RecordParts.{is_copy, is_kept_node, is_mergeinfo, HasPropertyList}
use Rattle.dump_filter.specs.Groups.{Group, groups, keeps_group, revision_numbers}
use Rattle.dump_trees.specs.Trees.{Tree}
use Rattle.dump_trees.specs.Changes.{is_copied, Change}
use Rattle.dump_trees.specs.ComingBack.{entries_in}
use Rattle.dump_trees.specs.Revisions.{loaded_over}
use Rattle.dump_history.specs.RecordChanges.{Patching, makes}
use Rattle.dump_history.specs.DumpChanges.{has_ordered_nodes, MakeChanges}

-- changes that name a revision

-- whether the change sets mergeinfo
abbrev pub sets_mergeinfo : Change → Bool
sets_mergeinfo c = list_any is_mergeinfo (entries_in c.props)

-- whether the change names a revision by its number: it copies something, or sets mergeinfo
abbrev pub names_revision : Change → Bool
names_revision c = is_copied c.made || sets_mergeinfo c

-- whether no change of these revisions names one
abbrev pub name_no_revision : List (List Change) → Bool
name_no_revision revisions = list_all (λ changes. not (list_any names_revision changes)) revisions

-- dumps with gaps

-- whether the numbers go up, from above this one
abbrev pub go_up : ℕ → List ℕ → Bool
go_up number [] = true
go_up number (n ∷ numbers) = nat_lt number n && go_up n numbers

-- whether these are the numbers of these revisions: this one, the next one and so on, or so up to a gap, after which
-- they go up, and no change names a revision
abbrev pub count_to_gap : ℕ → List ℕ → List (List Change) → Bool
count_to_gap number [] revisions = true
count_to_gap number (n ∷ numbers) [] = false
count_to_gap number (n ∷ numbers) (changes ∷ revisions) =
    ((n == number) && count_to_gap (suc number) numbers revisions)
    || (go_up number (n ∷ numbers) && name_no_revision (changes ∷ revisions))

-- the dump's first revision is revision 0, and the later ones are numbered 1, 2 and so on up to a gap, if there is one,
-- after which no change names a revision. All else is as in a dump without gaps
pub record MakeRevisionsWithGaps (patched : Patching) (records : List DumpRecord) (revisions : List (List Change))
    : Type 0 where
  pub later : List ℕ
  pub begins : revision_numbers records ≡ 0 ∷ later
  pub numbered : IsTrue (count_to_gap 1 later revisions)
  pub ordered : IsTrue (has_ordered_nodes Bool.false records)
  pub changes : AllZip (MakeChanges patched) (groups records) ([] ∷ revisions)

-- the dump is loaded into a repository whose revision 0 has the first tree: it makes these revisions, and then these
-- are the repository's trees
pub record LoadsWithGapsAs (patched : Patching) (first : Tree) (records : List DumpRecord)
    (revisions : List (List Change)) (trees : List Tree) : Type 0 where
  pub makes : MakeRevisionsWithGaps patched records revisions
  pub loads : loaded_over first revisions ≡ Some trees

-- nodes that name a revision after a dropped one

-- the node sets mergeinfo
abbrev pub SetsMergeinfo : DumpRecord → Type 0
SetsMergeinfo r = (ps : List Property) × HasPropertyList r ps × IsTrue (list_any is_mergeinfo ps)

-- the node names a revision by its number: it makes a copy, or sets mergeinfo
abbrev pub NamesRevision : DumpRecord → Type 0
NamesRevision r = IsTrue (makes r && is_copy r) ⊎ SetsMergeinfo r

-- a kept node of these groups does
abbrev pub HasNamingNode : Settings → List Group → Type 0
HasNamingNode settings gs = (g : Group) × (r : DumpRecord) × Contains gs g × Contains g.nodes r
    × IsTrue (is_kept_node settings r) × NamesRevision r

-- a kept node after the first dropped one of these groups does
abbrev pub HasNamingNodeBehind : Settings → List Group → Type 0
HasNamingNodeBehind settings [] = ⊥
HasNamingNodeBehind settings (g ∷ gs) =
    MatchBool (keeps_group settings g) (HasNamingNodeBehind settings gs) (HasNamingNode settings gs)

-- a kept node after the first dropped revision names a revision
abbrev pub NamesRevisionBehind : Settings → List DumpRecord → Type 0
NamesRevisionBehind settings records = HasNamingNodeBehind settings (groups records)

-- whether what is written names revisions by the numbers that a load gives them, if the whole dump has no gap: they are
-- renumbered, or no kept node after the first dropped one names one
abbrev pub KeepsNamedNumbers : Settings → List DumpRecord → Type 0
KeepsNamedNumbers settings records = MatchBool settings.renumber ⊤ (¬ NamesRevisionBehind settings records)
