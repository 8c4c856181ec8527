-- An example dump of which a part is taken. An included file is a copy of an excluded file next to it, and its
-- directory is copied to a branch, in which the file is included too. The first copy is replaced by the file. The
-- second copy stays, since the file next to it is excluded in both directories.
use Rattle.dump_history.proofs.Prelude.{◌≡◌, true, ◌++◌, length, None, refl, sym, ◌∙◌, subst, inr, ◌+◌, arith, lit<, Exclude, Settings, Ending, HasRecords, IsCutInto, property_length, text_length, DumpRecord, record_text, is_lawful, BeginsWithRecord, is_block, HoldsOfRecord, path_of, Node, Tree, root_alone, put, grafted, Made, TextChange, Change, Patching, MakesChange, MakeRevisions, LoadsAs, slice_get}
use Rattle.std.proofs.Common.{ℕ, false, List, [], ◌∷◌, Some, codes}
use Rattle.std.specs.Fmt.{digits}
use Rattle.dump_records.specs.DumpText.{line_feeds}
use Rattle.dump_trees.specs.Changes.{History, step, steps}
use Rattle.dump_trees.specs.steps.Branches.{Branch, HasBranch}
use Rattle.dump_trees.specs.steps.WritingOut.{file_of}
use Rattle.dump_trees.specs.steps.Expansions.{Expands, AllExpand, AllRevisionsExpand}
use Rattle.dump_trees.proofs.histories.StandingNames.{loaded_directories}
use Rattle.dump_trees.proofs.quiet.QuietLemmas.{quiet_separates}
use Rattle.dump_trees.proofs.expansions.CaseLemmas.{separated_expands, kept_copy}
use Rattle.dump_history.specs.WrittenNodes.{WrittenNode, node_record, can_be_written}
use Rattle.dump_history.specs.steps.WrittenNodes.{node_bytes}
use Rattle.dump_history.specs.steps.ExpandedDumps.{OwnForm, Stead}
use Rattle.dump_history.specs.ExpandedText.{AreRecordTexts}
use Rattle.dump_history.specs.steps.ExpandedText.{IsExpandedText, made_in_stead}
use Rattle.dump_history.proofs.expanded.NodeLemmas.{written_nodes_are_records}
use Rattle.dump_history.proofs.values.WorkedExpansion.{stays}
use Rattle.dump_history.proofs.values.WorkedDump.{line, record_at, version, zero as revision_0, one, trunk, joined, directory, none_of, makes_trunk}
use Rattle.dump_text.specs.declared.fault.FaultKind.TheVariants as faults
use Rattle.dump_rules.specs.PlainSettings.{plain_settings}

-- the dump; its first records are those of the other example dump: a version, revision 0, and the directory in revision 1

-- a file that isn't included
abbrev pub old : DumpRecord
old = record {
  place = 121;
  version = 2;
  headers = line (codes "Node-path") (codes "trunk/old")
      ∷ line (codes "Node-kind") (codes "file")
      ∷ line (codes "Node-action") (codes "add")
      ∷ line (codes "Text-content-length") (codes "4")
      ∷ line (codes "Content-length") (codes "4") ∷ [];
  props = [];
  text = codes "text";
}

-- revision 2, after two line feeds
abbrev pub two : DumpRecord
two = record_at 223 (line (codes "Revision-number") (codes "2") ∷ [])

-- a copy of it to an included path
abbrev pub app : DumpRecord
app = record_at 243 (line (codes "Node-path") (codes "trunk/app")
    ∷ line (codes "Node-kind") (codes "file")
    ∷ line (codes "Node-action") (codes "add")
    ∷ line (codes "Node-copyfrom-rev") (codes "1")
    ∷ line (codes "Node-copyfrom-path") (codes "trunk/old") ∷ [])

-- revision 3
abbrev pub three : DumpRecord
three = record_at 349 (line (codes "Revision-number") (codes "3") ∷ [])

-- a copy of the directory
abbrev pub branch : DumpRecord
branch = record_at 369 (line (codes "Node-path") (codes "branch")
    ∷ line (codes "Node-kind") (codes "dir")
    ∷ line (codes "Node-action") (codes "add")
    ∷ line (codes "Node-copyfrom-rev") (codes "2")
    ∷ line (codes "Node-copyfrom-path") (codes "trunk") ∷ [])

-- its records
abbrev pub records : List DumpRecord
records = version ∷ revision_0 ∷ one ∷ trunk ∷ old ∷ two ∷ app ∷ three ∷ branch ∷ []

-- its records up to revision 2, and what follows them
abbrev pub begun : List ℕ → List ℕ
begun rest = record_text version ++ (record_text revision_0 ++ (record_text one ++ (record_text trunk
    ++ (record_text old ++ (codes "\n\n" ++ (record_text two ++ rest))))))

abbrev pub dump : List ℕ
dump = begun (joined (app ∷ three ∷ branch ∷ []))

its_text : dump ≡ codes "SVN-fs-dump-format-version: 2\n\nRevision-number: 0\n\nRevision-number: 1\n\n"
    ++ codes "Node-path: trunk\nNode-kind: dir\nNode-action: add\n\n"
    ++ codes "Node-path: trunk/old\nNode-kind: file\nNode-action: add\nText-content-length: 4\nContent-length: 4\n\n"
    ++ codes "text\n\nRevision-number: 2\n\n"
    ++ codes "Node-path: trunk/app\nNode-kind: file\nNode-action: add\nNode-copyfrom-rev: 1\n"
    ++ codes "Node-copyfrom-path: trunk/old\n\nRevision-number: 3\n\n"
    ++ codes "Node-path: branch\nNode-kind: dir\nNode-action: add\nNode-copyfrom-rev: 2\n"
    ++ codes "Node-copyfrom-path: trunk\n\n"
its_text = refl

-- a record before a rest
pub begins_there : (number : ℕ) (r : DumpRecord) (rest : List ℕ) → is_block r.headers ≡ true
    → is_lawful number r.headers ≡ true → length r.props ≡ property_length r.headers
    → length r.text ≡ text_length r.headers → BeginsWithRecord number (record_text r ++ rest) r rest
begins_there number r rest block lawful props text =
    record { block = block; lawful = lawful; props_fit = props; text_fits = text; spelled = refl }

-- the first records before each rest
begun_cut : (rest : List ℕ) (behind : List DumpRecord) → IsCutInto 6 243 rest behind []
    → IsCutInto 0 0 (begun rest) (version ∷ revision_0 ∷ one ∷ trunk ∷ old ∷ two ∷ behind) []
begun_cut rest behind cut = (
  0,
  begun rest,
  behind_version,
  refl,
  refl,
  begins_there 0 version behind_version refl refl refl refl,
  (
    0,
    behind_version,
    behind_zero,
    refl,
    refl,
    begins_there 1 revision_0 behind_zero refl refl refl refl,
    (
      0,
      behind_zero,
      behind_one,
      refl,
      refl,
      begins_there 2 one behind_one refl refl refl refl,
      (
        0,
        behind_one,
        behind_trunk,
        refl,
        refl,
        begins_there 3 trunk behind_trunk refl refl refl refl,
        (
          0,
          behind_trunk,
          codes "\n\n" ++ (record_text two ++ rest),
          refl,
          refl,
          begins_there 4 old (codes "\n\n" ++ (record_text two ++ rest)) refl refl refl refl,
          (2, record_text two ++ rest, rest, refl, refl, begins_there 5 two rest refl refl refl refl, cut),
        ),
      ),
    ),
  ),
)
  where
    behind_trunk : List ℕ
    behind_trunk = record_text old ++ (codes "\n\n" ++ (record_text two ++ rest))

    behind_one : List ℕ
    behind_one = record_text trunk ++ behind_trunk

    behind_zero : List ℕ
    behind_zero = record_text one ++ behind_one

    behind_version : List ℕ
    behind_version = record_text revision_0 ++ behind_zero

-- the last two records after some line feeds
ended_cut : (place lfs : ℕ) → IsCutInto 7 place (line_feeds lfs ++ joined (three ∷ branch ∷ []))
    (record three { place = place + lfs } ∷ record branch { place = place + lfs + 20 } ∷ []) []
ended_cut place lfs = (
  lfs,
  joined (three ∷ branch ∷ []),
  joined (branch ∷ []),
  refl,
  refl,
  begins_there 7 (record three { place = place + lfs }) (joined (branch ∷ [])) refl refl refl refl,
  (
    0,
    joined (branch ∷ []),
    [],
    refl,
    (let same : place + lfs + 20 ≡ place + lfs + 20 + 0 = omega arith in same),
    begins_there 8 (record branch { place = place + lfs + 20 }) [] refl refl refl refl,
    (0, refl, refl),
  ),
)

-- the dump is these records to its end
pub whole : HasRecords dump records Ending.Whole
whole = (
  [],
  begun_cut (joined (app ∷ three ∷ branch ∷ [])) (app ∷ three ∷ branch ∷ []) (
    0,
    joined (app ∷ three ∷ branch ∷ []),
    joined (three ∷ branch ∷ []),
    refl,
    refl,
    begins_there 6 app (joined (three ∷ branch ∷ [])) refl refl refl refl,
    ended_cut 349 0,
  ),
  (refl, (refl, (refl, (refl, (refl, (refl, (refl, (refl, (refl, tt))))))))),
  (refl, lit< tt),
)

-- Both files next to the included ones are excluded. Each revision stays, with its number and its properties, and
-- missing merge sources are omitted.
abbrev pub settings : Settings
settings = record (plain_settings Exclude (codes "branch/old" ∷ codes "trunk/old" ∷ [])) { preserve = true; skip_missing = true }

-- the filter rejects the dump itself
refused : HoldsOfRecord settings (version ∷ revision_0 ∷ one ∷ trunk ∷ old ∷ two ∷ []) app faults.CopySource
refused = refl

-- its changes and its trees

abbrev pub adds_trunk : Change
adds_trunk = directory (codes "trunk") (Some Made.NewDirectory)

abbrev pub adds_old : Change
adds_old = record (directory (codes "trunk/old") (Some Made.NewFile)) { text = Some (TextChange.Replaced (codes "text")) }

abbrev pub copies_old : Change
copies_old = directory (codes "trunk/app") (Some (Made.Copied 1 (path_of (codes "trunk/old"))))

abbrev pub copies_trunk : Change
copies_trunk = directory (codes "branch") (Some (Made.Copied 2 (path_of (codes "trunk"))))

abbrev pub revisions : List (List Change)
revisions = (adds_trunk ∷ adds_old ∷ []) ∷ (copies_old ∷ []) ∷ (copies_trunk ∷ []) ∷ []

-- the tree in the midst of revision 1
abbrev pub begun_tree : Tree
begun_tree = put (path_of (codes "trunk")) (Node.Directory []) root_alone

abbrev pub first_tree : Tree
first_tree = put (path_of (codes "trunk/old")) (Node.File [] (codes "text"))
    (put (path_of (codes "trunk/old")) (Node.File [] []) begun_tree)

abbrev pub second_tree : Tree
second_tree = grafted (path_of (codes "trunk/app")) (λ rest. first_tree (path_of (codes "trunk/old") ++ rest)) first_tree

abbrev pub third_tree : Tree
third_tree = grafted (path_of (codes "branch")) (λ rest. second_tree (path_of (codes "trunk") ++ rest)) second_tree

abbrev pub trees : List Tree
trees = root_alone ∷ first_tree ∷ second_tree ∷ third_tree ∷ []

makes_old : (patched : Patching) → MakesChange patched old adds_old
makes_old patched = ([], none_of old refl, refl, refl)

makes : (patched : Patching) → MakeRevisions patched records revisions
makes patched = record {
  numbered = refl;
  ordered = refl;
  changes = (
    tt,
    (
      (makes_trunk patched, (makes_old patched, tt)),
      ((([], none_of app refl, refl, refl), tt), ((([], none_of branch refl, refl, refl), tt), tt)),
    ),
  );
}

pub loads : (patched : Patching) → LoadsAs patched root_alone records revisions trees
loads patched = record { makes = makes patched; loads = refl }

-- its expanded form: a node with the text is in place of the copied file

abbrev pub file : WrittenNode
file = WrittenNode.File false (codes "trunk/app") [] (codes "text") None None

abbrev pub steads : List Stead
steads = stays ∷ stays ∷ stays ∷ stays ∷ stays ∷ stays
    ∷ record { nodes = file ∷ []; own = OwnForm.LeftOut } ∷ stays ∷ stays ∷ []

abbrev pub expansion : List ℕ
expansion = begun (node_bytes file ++ (codes "\n\n" ++ joined (three ∷ branch ∷ [])))

its_expansion : expansion ≡ codes "SVN-fs-dump-format-version: 2\n\nRevision-number: 0\n\nRevision-number: 1\n\n"
    ++ codes "Node-path: trunk\nNode-kind: dir\nNode-action: add\n\n"
    ++ codes "Node-path: trunk/old\nNode-kind: file\nNode-action: add\nText-content-length: 4\nContent-length: 4\n\n"
    ++ codes "text\n\nRevision-number: 2\n\n"
    ++ codes "Node-path: trunk/app\nNode-kind: file\nNode-action: add\nProp-content-length: 10\n"
    ++ codes "Text-content-length: 4\nContent-length: 14\n\nPROPS-END\ntext\n\nRevision-number: 3\n\n"
    ++ codes "Node-path: branch\nNode-kind: dir\nNode-action: add\nNode-copyfrom-rev: 2\n"
    ++ codes "Node-copyfrom-path: trunk\n\n"
unfolding digits
its_expansion = refl

pub can : can_be_written file ≡ true
unfolding digits
can = refl

-- the texts of the first records before each rest
begun_texts : (rest : List ℕ) (behind : List DumpRecord) → AreRecordTexts behind rest
    → AreRecordTexts (version ∷ revision_0 ∷ one ∷ trunk ∷ old ∷ two ∷ behind) (begun rest)
begun_texts rest behind texts = (
  0,
  behind_version,
  refl,
  (
    0,
    behind_zero,
    refl,
    (
      0,
      behind_one,
      refl,
      (0, behind_trunk, refl, (2, record_text two ++ rest, refl, (0, rest, refl, texts))),
    ),
  ),
)
  where
    behind_trunk : List ℕ
    behind_trunk = record_text old ++ (codes "\n\n" ++ (record_text two ++ rest))

    behind_one : List ℕ
    behind_one = record_text trunk ++ behind_trunk

    behind_zero : List ℕ
    behind_zero = record_text one ++ behind_one

    behind_version : List ℕ
    behind_version = record_text revision_0 ++ behind_zero

-- the text has, in place of each record, what may replace it
pub is_expanded : IsExpandedText records steads expansion
unfolding digits
is_expanded = record {
  may = (refl, (refl, (refl, (refl, (refl, (refl, (refl, (refl, (refl, tt)))))))));
  lfs = 0;
  front = expansion;
  spelled = refl;
  texts = begun_texts (node_bytes file ++ (codes "\n\n" ++ joined (three ∷ branch ∷ [])))
      (node_record 243 2 file ∷ three ∷ branch ∷ [])
      (2, joined (three ∷ branch ∷ []), refl, (0, joined (branch ∷ []), refl, (0, [], refl, refl)));
}

-- what it makes

abbrev pub adds_app : Change
adds_app = file_of (path_of (codes "trunk/app")) [] (codes "text")

abbrev pub expanded : List (List Change)
expanded = (adds_trunk ∷ adds_old ∷ []) ∷ (adds_app ∷ []) ∷ (copies_trunk ∷ []) ∷ []

makes_these : made_in_stead records steads revisions ≡ expanded
makes_these = refl

-- the branch at the first copy's source is the file alone
pub source_branch : HasBranch first_tree (path_of (codes "trunk/old")) (Branch.File [] (codes "text"))
source_branch [] = refl
source_branch (name ∷ rest) = refl

-- one change of a revision is expanded, and so are those after it
expand_first : (options : Settings) (history : History) (before after : Tree) (c : Change) (changes front rest : List Change)
    → step history before c ≡ Some after → Expands options history before c front
    → AllExpand options history after changes rest → AllExpand options history before (c ∷ changes) (front ++ rest)
expand_first options history before after c changes front rest at expands more = (
  front,
  rest,
  refl,
  expands,
  λ tree is.
      let same : after ≡ tree = (let both : Some after ≡ Some tree = sym at ∙ is in cc) in
      subst (λ t. AllExpand options history t changes rest) same more,
)

-- one revision is expanded, and so are those after it
expand_revision : (options : Settings) (older : List Tree) (youngest tree : Tree) (changes front : List Change)
    (more rest : List (List Change)) → steps (slice_get older) youngest changes ≡ Some tree
    → AllExpand options (slice_get older) youngest changes front
    → AllRevisionsExpand options (older ++ tree ∷ []) tree more rest
    → AllRevisionsExpand options older youngest (changes ∷ more) (front ∷ rest)
expand_revision options older youngest tree changes front more rest at all further = (
  front,
  rest,
  refl,
  all,
  λ other is.
      let same : tree ≡ other = (let both : Some tree ≡ Some other = sym at ∙ is in cc) in
      subst (λ t. AllRevisionsExpand options (older ++ t ∷ []) t more rest) same further,
)

-- the expansions of the first revision's changes: both stay
first_expands : AllExpand settings (slice_get (root_alone ∷ [])) root_alone (adds_trunk ∷ adds_old ∷ [])
    (adds_trunk ∷ adds_old ∷ [])
first_expands =
    expand_first settings history root_alone begun_tree adds_trunk (adds_old ∷ []) (adds_trunk ∷ []) (adds_old ∷ []) refl
    (separated_expands settings history root_alone adds_trunk
    (λ after is. quiet_separates settings history root_alone after adds_trunk refl refl is))
    (expand_first settings history begun_tree first_tree adds_old [] (adds_old ∷ []) [] refl
    (separated_expands settings history begun_tree adds_old
    (λ after is. quiet_separates settings history begun_tree after adds_old refl refl is)) refl)
  where
    history : History
    history = slice_get (root_alone ∷ [])

-- that of the copied file: it is written
second_expands : Expands settings (slice_get (root_alone ∷ first_tree ∷ [])) first_tree copies_old (adds_app ∷ [])
second_expands = kept_copy settings (slice_get (root_alone ∷ first_tree ∷ [])) first_tree first_tree copies_old 1
    (path_of (codes "trunk/old")) (Branch.File [] (codes "text")) (Branch.File [] (codes "text")) (adds_app ∷ [])
    (loaded_directories revisions trees 1 first_tree refl refl) refl refl refl source_branch refl refl
    (inr ([], refl, refl))

-- that of the copied directory: it stays
third_expands : Expands settings (slice_get (root_alone ∷ first_tree ∷ second_tree ∷ [])) second_tree copies_trunk
    (copies_trunk ∷ [])
third_expands = separated_expands settings (slice_get (root_alone ∷ first_tree ∷ second_tree ∷ [])) second_tree
    copies_trunk (λ after is. quiet_separates settings (slice_get (root_alone ∷ first_tree ∷ second_tree ∷ []))
    second_tree after copies_trunk refl refl is)

-- each change is replaced by an expansion of it
pub expands : AllRevisionsExpand settings (root_alone ∷ []) root_alone revisions expanded
expands =
    expand_revision settings (root_alone ∷ []) root_alone first_tree (adds_trunk ∷ adds_old ∷ []) (adds_trunk ∷ adds_old ∷ [])
    ((copies_old ∷ []) ∷ (copies_trunk ∷ []) ∷ []) ((adds_app ∷ []) ∷ (copies_trunk ∷ []) ∷ []) refl first_expands
    (expand_revision settings (root_alone ∷ first_tree ∷ []) first_tree second_tree (copies_old ∷ []) (adds_app ∷ [])
    ((copies_trunk ∷ []) ∷ []) ((copies_trunk ∷ []) ∷ []) refl
    (expand_first settings (slice_get (root_alone ∷ first_tree ∷ [])) first_tree second_tree copies_old [] (adds_app ∷ []) []
    refl second_expands refl)
    (expand_revision settings (root_alone ∷ first_tree ∷ second_tree ∷ []) second_tree third_tree (copies_trunk ∷ [])
    (copies_trunk ∷ []) [] [] refl
    (expand_first settings (slice_get (root_alone ∷ first_tree ∷ second_tree ∷ [])) second_tree third_tree copies_trunk []
    (copies_trunk ∷ []) [] refl third_expands refl)
    refl))

-- the records of the expanded form

abbrev pub file_there : DumpRecord
file_there = node_record 243 2 file

abbrev pub three_there : DumpRecord
three_there = record three { place = 380 }

abbrev pub branch_there : DumpRecord
branch_there = record branch { place = 400 }

abbrev pub again : List DumpRecord
again = version ∷ revision_0 ∷ one ∷ trunk ∷ old ∷ two ∷ file_there ∷ three_there ∷ branch_there ∷ []

-- the text is these records to its end
pub whole_again : HasRecords expansion again Ending.Whole
unfolding digits
whole_again = (
  [],
  begun_cut (node_bytes file ++ behind_file) (file_there ∷ three_there ∷ branch_there ∷ []) (
    0,
    node_bytes file ++ behind_file,
    behind_file,
    refl,
    refl,
    written_nodes_are_records file 6 243 2 behind_file can (lit< tt),
    ended_cut 378 2,
  ),
  (refl, (refl, (refl, (refl, (refl, (refl, (refl, (refl, (refl, tt))))))))),
  (refl, lit< tt),
)
  where
    behind_file : List ℕ
    behind_file = codes "\n\n" ++ joined (three ∷ branch ∷ [])
