-- An example dump that the filter rejects, since a kept directory is a copy of an excluded one, and its expanded form.
use Rattle.dump_history.proofs.Prelude.{◌≡◌, true, ◌++◌, None, refl, subst, inr, lit<, Ending, HasRecords, DumpRecord, record_text, BeginsWithRecord, HoldsOfRecord, path_of, Node, Tree, root_alone, put, grafted, Made, Change, Patching, MakeRevisions, LoadsAs, slice_get}
use Rattle.std.proofs.Common.{ℕ, false, List, [], ◌∷◌, Some, codes}
use Rattle.std.specs.Fmt.{digits}
use Rattle.dump_text.specs.declared.fault.FaultKind.TheVariants as faults
use Rattle.dump_trees.specs.steps.Branches.{Branch, Branches, HasBranch}
use Rattle.dump_trees.specs.steps.WritingOut.{directory_of}
use Rattle.dump_trees.specs.steps.Expansions.{Expands, AllRevisionsExpand}
use Rattle.dump_trees.proofs.histories.HistoryLemmas.{root_directories}
use Rattle.dump_trees.proofs.changes.DirectoryLemmas.{step_keeps}
use Rattle.dump_trees.proofs.expansions.CaseLemmas.{separated_expands, kept_copy}
use Rattle.dump_trees.proofs.quiet.QuietLemmas.{quiet_separates}
use Rattle.dump_history.specs.WrittenNodes.{WrittenNode, node_record, can_be_written}
use Rattle.dump_history.specs.steps.WrittenNodes.{node_bytes}
use Rattle.dump_history.specs.steps.ExpandedDumps.{OwnForm, Stead, IsExpandedDump}
use Rattle.dump_history.specs.steps.ExpandedText.{IsExpandedText, made_in_stead}
use Rattle.dump_history.proofs.expanded.NodeLemmas.{written_nodes_are_records, written_nodes_make_changes}
use Rattle.dump_history.proofs.expanded.TextLemmas.{moved_same}
use Rattle.dump_trees.specs.steps.Trees.{HasDirectories}
use Rattle.dump_history.proofs.values.WorkedDump.{line, record_at, version, zero, one, joined, settings, directory, none_of, stands_here}

-- the dump

-- an excluded directory
abbrev pub other : DumpRecord
other = record_at 71 (line (codes "Node-path") (codes "other")
    ∷ line (codes "Node-kind") (codes "dir")
    ∷ line (codes "Node-action") (codes "add") ∷ [])

-- revision 2
abbrev pub two : DumpRecord
two = record_at 121 (line (codes "Revision-number") (codes "2") ∷ [])

-- a copy of it to a kept path
abbrev pub copy : DumpRecord
copy = record_at 141 (line (codes "Node-path") (codes "trunk")
    ∷ line (codes "Node-kind") (codes "dir")
    ∷ line (codes "Node-action") (codes "add")
    ∷ line (codes "Node-copyfrom-rev") (codes "1")
    ∷ line (codes "Node-copyfrom-path") (codes "other") ∷ [])

-- its records
abbrev pub records : List DumpRecord
records = version ∷ zero ∷ one ∷ other ∷ two ∷ copy ∷ []

abbrev pub dump : List ℕ
dump = joined records

-- the filter rejects the copy
refused : HoldsOfRecord settings (version ∷ zero ∷ one ∷ other ∷ two ∷ []) copy faults.CopySource
refused = refl

-- the dump is these records to its end
pub whole : HasRecords dump records Ending.Whole
whole = (
  [],
  (
    0,
    joined records,
    joined (zero ∷ one ∷ other ∷ two ∷ copy ∷ []),
    refl,
    refl,
    stands_here 0 version (zero ∷ one ∷ other ∷ two ∷ copy ∷ []) refl refl refl refl refl refl,
    (
      0,
      joined (zero ∷ one ∷ other ∷ two ∷ copy ∷ []),
      joined (one ∷ other ∷ two ∷ copy ∷ []),
      refl,
      refl,
      stands_here 1 zero (one ∷ other ∷ two ∷ copy ∷ []) refl refl refl refl refl refl,
      (
        0,
        joined (one ∷ other ∷ two ∷ copy ∷ []),
        joined (other ∷ two ∷ copy ∷ []),
        refl,
        refl,
        stands_here 2 one (other ∷ two ∷ copy ∷ []) refl refl refl refl refl refl,
        (
          0,
          joined (other ∷ two ∷ copy ∷ []),
          joined (two ∷ copy ∷ []),
          refl,
          refl,
          stands_here 3 other (two ∷ copy ∷ []) refl refl refl refl refl refl,
          (
            0,
            joined (two ∷ copy ∷ []),
            joined (copy ∷ []),
            refl,
            refl,
            stands_here 4 two (copy ∷ []) refl refl refl refl refl refl,
            (
              0,
              joined (copy ∷ []),
              [],
              refl,
              refl,
              stands_here 5 copy [] refl refl refl refl refl refl,
              (0, refl, refl),
            ),
          ),
        ),
      ),
    ),
  ),
  (refl, (refl, (refl, (refl, (refl, (refl, tt)))))),
  (refl, lit< tt),
)

-- its changes and its trees

abbrev pub adds_other : Change
adds_other = directory (codes "other") (Some Made.NewDirectory)

abbrev pub copies_other : Change
copies_other = directory (codes "trunk") (Some (Made.Copied 1 (path_of (codes "other"))))

abbrev pub revisions : List (List Change)
revisions = (adds_other ∷ []) ∷ (copies_other ∷ []) ∷ []

abbrev pub first_tree : Tree
first_tree = put (path_of (codes "other")) (Node.Directory []) root_alone

abbrev pub second_tree : Tree
second_tree = grafted (path_of (codes "trunk")) (λ rest. first_tree (path_of (codes "other") ++ rest)) first_tree

abbrev pub trees : List Tree
trees = root_alone ∷ first_tree ∷ second_tree ∷ []

pub makes : (patched : Patching) → MakeRevisions patched records revisions
makes patched = record {
  numbered = refl;
  ordered = refl;
  changes = (tt, ((([], none_of other refl, refl, refl), tt), ((([], none_of copy refl, refl, refl), tt), tt)));
}

pub loads : (patched : Patching) → LoadsAs patched root_alone records revisions trees
loads patched = record { makes = makes patched; loads = refl }

-- its expanded form: a directory is in place of the copy

abbrev pub trunk : WrittenNode
trunk = WrittenNode.Directory false (codes "trunk") []

-- the record as it is, and nothing before it
abbrev pub stays : Stead
stays = record { nodes = []; own = OwnForm.AsItIs }

abbrev pub steads : List Stead
steads = stays ∷ stays ∷ stays ∷ stays ∷ stays ∷ record { nodes = trunk ∷ []; own = OwnForm.LeftOut } ∷ []

abbrev pub expansion : List ℕ
expansion = joined (version ∷ zero ∷ one ∷ other ∷ two ∷ []) ++ node_bytes trunk ++ codes "\n\n"

-- what follows some of its records
abbrev behind : List DumpRecord → List ℕ
behind rest = joined rest ++ node_bytes trunk ++ codes "\n\n"

its_text : expansion ≡ codes "SVN-fs-dump-format-version: 2\n\nRevision-number: 0\n\nRevision-number: 1\n\n"
    ++ codes "Node-path: other\nNode-kind: dir\nNode-action: add\n\nRevision-number: 2\n\n"
    ++ codes "Node-path: trunk\nNode-kind: dir\nNode-action: add\nProp-content-length: 10\nContent-length: 10\n\n"
    ++ codes "PROPS-END\n\n\n"
unfolding digits
its_text = refl

can : can_be_written trunk ≡ true
unfolding digits
can = refl

-- the text has, in place of each record, what may replace it
pub is_expanded : IsExpandedText records steads expansion
unfolding digits
is_expanded = record {
  may = (refl, (refl, (refl, (refl, (refl, (refl, tt))))));
  lfs = 0;
  front = expansion;
  spelled = refl;
  texts = (
    0,
    behind (zero ∷ one ∷ other ∷ two ∷ []),
    refl,
    (
      0,
      behind (one ∷ other ∷ two ∷ []),
      refl,
      (
        0,
        behind (other ∷ two ∷ []),
        refl,
        (
          0,
          behind (two ∷ []),
          refl,
          (
            0,
            behind [],
            refl,
            (2, [], refl, refl),
          ),
        ),
      ),
    ),
  );
}

-- what it makes

abbrev pub expanded : List (List Change)
expanded = (adds_other ∷ []) ∷ (directory_of (path_of (codes "trunk")) [] ∷ []) ∷ []

makes_these : made_in_stead records steads revisions ≡ expanded
makes_these = refl

-- the branch at the copy's source has only a directory
source_branch : HasBranch first_tree (path_of (codes "other")) (Branch.Directory [] Branches.NoMore)
source_branch [] = refl
source_branch (name ∷ rest) = refl

-- its tree has only directories above its nodes
first_directories : HasDirectories first_tree
first_directories = step_keeps (λ number. None) (λ number tree bad. absurd (let none : None ≡ Some tree = bad in cc))
    root_alone adds_other root_directories

first_expands : Expands settings (slice_get (root_alone ∷ [])) root_alone adds_other (adds_other ∷ [])
first_expands = separated_expands settings (slice_get (root_alone ∷ [])) root_alone adds_other
    (λ after is. quiet_separates settings (slice_get (root_alone ∷ [])) root_alone after adds_other refl refl is)

second_expands : Expands settings (slice_get (root_alone ∷ first_tree ∷ [])) first_tree copies_other
    (directory_of (path_of (codes "trunk")) [] ∷ [])
second_expands = kept_copy settings (slice_get (root_alone ∷ first_tree ∷ [])) first_tree first_tree copies_other 1
    (path_of (codes "other")) (Branch.Directory [] Branches.NoMore) (Branch.Directory [] Branches.NoMore)
    (directory_of (path_of (codes "trunk")) [] ∷ []) first_directories refl refl refl source_branch refl refl (inr ([], [], refl, refl, refl))

-- each change is replaced by an expansion of it
pub expands : AllRevisionsExpand settings (root_alone ∷ []) root_alone revisions expanded
expands = (
  adds_other ∷ [],
  (directory_of (path_of (codes "trunk")) [] ∷ []) ∷ [],
  refl,
  (adds_other ∷ [], [], refl, first_expands, λ after is. refl),
  λ tree is. subst (λ (t : Tree). AllRevisionsExpand settings (root_alone ∷ t ∷ []) t ((copies_other ∷ []) ∷ [])
      ((directory_of (path_of (codes "trunk")) [] ∷ []) ∷ []))
      (let same : Some first_tree ≡ Some tree = is in let one : first_tree ≡ tree = cc in one) (
        directory_of (path_of (codes "trunk")) [] ∷ [],
        [],
        refl,
        (directory_of (path_of (codes "trunk")) [] ∷ [], [], refl, second_expands, λ after at. refl),
        λ after at. refl,
      ),
)

-- the records of the expanded form

abbrev pub directory_there : DumpRecord
directory_there = node_record 141 2 trunk

abbrev pub again : List DumpRecord
again = version ∷ zero ∷ one ∷ other ∷ two ∷ directory_there ∷ []

stands_before : (number : ℕ) (r : DumpRecord) (rest : List ℕ) → BeginsWithRecord number (record_text r) r []
    → BeginsWithRecord number (record_text r ++ rest) r rest
stands_before number r rest b = record {
  block = b.block;
  lawful = b.lawful;
  props_fit = b.props_fit;
  text_fits = b.text_fits;
  spelled = refl;
}

-- the text is these records to its end
pub whole_again : HasRecords expansion again Ending.Whole
unfolding digits
whole_again = (
  [],
  (
    0,
    expansion,
    behind (zero ∷ one ∷ other ∷ two ∷ []),
    refl,
    refl,
    stands_before 0 version (behind (zero ∷ one ∷ other ∷ two ∷ []))
        (stands_here 0 version [] refl refl refl refl refl refl),
    (
      0,
      behind (zero ∷ one ∷ other ∷ two ∷ []),
      behind (one ∷ other ∷ two ∷ []),
      refl,
      refl,
      stands_before 1 zero (behind (one ∷ other ∷ two ∷ []))
          (stands_here 1 zero [] refl refl refl refl refl refl),
      (
        0,
        behind (one ∷ other ∷ two ∷ []),
        behind (other ∷ two ∷ []),
        refl,
        refl,
        stands_before 2 one (behind (other ∷ two ∷ [])) (stands_here 2 one [] refl refl refl refl refl refl),
        (
          0,
          behind (other ∷ two ∷ []),
          behind (two ∷ []),
          refl,
          refl,
          stands_before 3 other (behind (two ∷ [])) (stands_here 3 other [] refl refl refl refl refl refl),
          (
            0,
            behind (two ∷ []),
            behind [],
            refl,
            refl,
            stands_before 4 two (behind []) (stands_here 4 two [] refl refl refl refl refl refl),
            (
              0,
              behind [],
              codes "\n\n",
              refl,
              refl,
              written_nodes_are_records trunk 5 141 2 (codes "\n\n") can (lit< tt),
              (2, refl, refl),
            ),
          ),
        ),
      ),
    ),
  ),
  (refl, (refl, (refl, (refl, (refl, (refl, tt)))))),
  (refl, lit< tt),
)

-- they are an expanded form of the dump's
pub is_expansion : (patched : Patching) → IsExpandedDump patched settings records steads again revisions expanded
is_expansion patched = record {
  may = is_expanded.may;
  stand = (
    moved_same 0 version,
    (
      moved_same 31 zero,
      (
        moved_same 51 one,
        (
          moved_same 71 other,
          (
            moved_same 121 two,
            (moved_same 141 directory_there, tt),
          ),
        ),
      ),
    ),
  );
  changes = (tt, ((([], none_of other refl, refl, refl), tt), ((written_nodes_make_changes patched trunk 141 2 can, tt), tt)));
  expands = expands;
}
