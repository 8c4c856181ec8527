-- What is written of a dump comes from its kept changes, if no record is replaced.
use Rattle.std.specs.Prelude.{◌≡◌, ℕ, List, ◌++◌, Some, IsTrue, ◌⊎◌}
use Rattle.std.specs.List.{All}
use Rattle.dump_text.specs.PropertyList.{Property}
use Rattle.dump_records.specs.DumpText.{Ending, HasRecords}
use Rattle.dump_records.specs.RecordText.{DumpRecord}
use Rattle.dump_rules.specs.declared.options.Side.TheVariants.{Exclude}
use Rattle.dump_rules.specs.Settings.{Settings}
use Rattle.dump_filter.specs.Groups.{kept_revisions}
use Rattle.dump_filter.specs.NewContent.{IsNewProperty}
use Rattle.dump_trees.specs.Paths.{NodePath}
use Rattle.dump_trees.specs.Changes.{Made, TextChange, Change}
use Rattle.dump_trees.specs.Restriction.{NewProperty, NewNumber}
use Rattle.dump_trees.specs.Revisions.{IsWrittenNumber}
use Rattle.dump_trees.specs.ComingBack.{entries_in, SetsProperty, SomeKeptDoes, IsMadeByKept}
use Rattle.dump_history.specs.RecordChanges.{Patching}
use Rattle.dump_history.specs.DumpChanges.{MakeRevisions}
use Rattle.dump_history.specs.CopiesOver.{some_copies_over}

-- a kept change sets the text so, or kept changes by themselves have made it
abbrev pub IsKeptText : Settings → List (List Change) → TextChange → Type 0
IsKeptText settings revisions change = SomeKeptDoes settings revisions (λ c. c.text ≡ Some change)
    ⊎ ((text : List ℕ) × (change ≡ TextChange.Replaced text) × IsMadeByKept settings revisions text)

-- the change copies from the revision of this number, and a part of the copy, or all of it, is that of the source to
-- the path
abbrev pub CopiesPart : NodePath → ℕ → NodePath → Change → Type 0
CopiesPart path number source c = (top : NodePath) × (rest : NodePath) × (c.made ≡ Some (Made.Copied number top))
    × (path ≡ c.path ++ rest) × (source ≡ top ++ rest)

-- all that the change does with content comes of kept changes of these revisions: they have set each property that it
-- sets, as it was before it was written out, and have made its text; and its copy is one of theirs, or a part of one
pub record ComesOfKept (settings : Settings) (revisions : List (List Change)) (IsNew : NewProperty)
    (IsNumber : NewNumber) (d : Change) : Type 0 where
  pub props : All (λ new. (old : Property) × IsNew old new × SomeKeptDoes settings revisions (SetsProperty old))
      (entries_in d.props)
  pub text : (change : TextChange) → d.text ≡ Some change → IsKeptText settings revisions change
  pub copies : (number : ℕ) (source : NodePath) → d.made ≡ Some (Made.Copied number source)
      → (old : ℕ) × IsNumber old number × SomeKeptDoes settings revisions (CopiesPart d.path old source)

-- The text is a dump, and all that its changes do with content comes from kept changes of these revisions. The kept
-- changes have set each property, except mergeinfo as the filter writes it. They have set or made each text, and they
-- have made each copy, except its number. So nothing of an excluded change is in the text, even if no revision shows
-- it. If prefixes are excluded, a copy in the text is over what its own revision changed only if these revisions have
-- such a copy.
abbrev pub ChangesComeOfKept : Patching → Settings → List DumpRecord → List (List Change) → List ℕ → Type 0
ChangesComeOfKept patched settings records revisions text =
    (parts : List DumpRecord) × (written : List (List Change))
    × HasRecords text parts Ending.Whole × MakeRevisions patched parts written
    × All (All (ComesOfKept settings revisions (IsNewProperty settings (kept_revisions settings records))
    (IsWrittenNumber settings (kept_revisions settings records)))) written
    × (settings.side ≡ Exclude → (path : NodePath) → IsTrue (some_copies_over path written)
    → IsTrue (some_copies_over path revisions))
