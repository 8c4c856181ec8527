-- Examples of what a dump makes, and of what is true of the filtered one. Each of them shows that a definition differs
-- from a weaker one or from another one.
use Rattle.dump_history.proofs.Prelude.{◌≡◌, true, ◌++◌, length, Option, None, refl, ap, ◌∙◌, inl, inr, slice_get, Header, Property, first_true, second_true, DumpRecord, Pad, DropAll, Settings, HasPropertyList, HasPropertyBlock, Group, padding_log, path_of, is_short, Node, Tree, root_alone, put, PropertyChange, TextChange, Change, given, loaded_over, Patching, copy_path, change_of, MakesChange, counts_from, has_ordered_nodes, MakeRevisions, HaveRevisionProperties, LoadsAs, keeps_numbering, TreesRestrict, KeepsProperties, RevisionsKeepProperties, LoadsRestricted, FrontLoadsRestricted, sets_mergeinfo, AreFindingsOf, no_node_faults}
use Rattle.std.proofs.Common.{ℕ, false, List, [], ◌∷◌, Some, codes}
use Rattle.dump_history.proofs.survey.FindingLemmas.{faults_of_unread}
use Rattle.dump_history.proofs.values.WorkedDump.{line, record_at, version, zero, one, two, three, trunk, other, copy, records, settings, directory, none_of, third_tree}
use Rattle.dump_history.specs.declared.findings.Finding.TheVariants as findings

-- a property
abbrev date : Property
date = record { name = codes "svn:date"; value = Some (codes "d") }

-- numbers

counts : counts_from 0 (0 ∷ 1 ∷ 2 ∷ []) ≡ true
counts = refl

counts_none : counts_from 3 [] ≡ true
counts_none = refl

counts_on : counts_from 3 (3 ∷ 4 ∷ []) ≡ true
counts_on = refl

counts_later : counts_from 0 (1 ∷ 2 ∷ []) ≡ false
counts_later = refl

counts_gap : counts_from 0 (0 ∷ 2 ∷ []) ≡ false
counts_gap = refl

counts_again : counts_from 0 (0 ∷ 0 ∷ []) ≡ false
counts_again = refl

-- nodes are in revisions

ordered : has_ordered_nodes false (version ∷ zero ∷ one ∷ trunk ∷ other ∷ []) ≡ true
ordered = refl

behind_open : has_ordered_nodes true (trunk ∷ []) ≡ true
behind_open = refl

first_a_node : has_ordered_nodes false (trunk ∷ zero ∷ []) ≡ false
first_a_node = refl

behind_version : has_ordered_nodes false (zero ∷ version ∷ trunk ∷ []) ≡ false
behind_version = refl

-- dumps that make no revisions

-- every delta is rejected
abbrev refused : Patching
refused delta old = None

with_gap : (rs : List (List Change)) → ¬ MakeRevisions refused (version ∷ zero ∷ two ∷ []) rs
with_gap rs makes = let bad : false ≡ true = makes.numbered in cc

from_one : (rs : List (List Change)) → ¬ MakeRevisions refused (version ∷ one ∷ []) rs
from_one rs makes = let bad : false ≡ true = makes.numbered in cc

unordered : (rs : List (List Change)) → ¬ MakeRevisions refused (version ∷ trunk ∷ zero ∷ one ∷ []) rs
unordered rs makes = let bad : false ≡ true = makes.ordered in cc

first_unordered : (rs : List (List Change)) → ¬ MakeRevisions refused (trunk ∷ zero ∷ []) rs
first_unordered rs makes = let bad : false ≡ true = makes.ordered in cc

node_in_first : (rs : List (List Change)) → ¬ MakeRevisions refused (version ∷ zero ∷ trunk ∷ []) rs
node_in_first rs makes = makes.changes.0

no_revision : (rs : List (List Change)) → ¬ MakeRevisions refused (version ∷ []) rs
no_revision rs makes = makes.changes

-- revisions that a dump doesn't make: one more, or one fewer

one_more : ¬ MakeRevisions refused (version ∷ zero ∷ []) ([] ∷ [])
one_more makes = makes.changes.1

one_less : ¬ MakeRevisions refused (version ∷ zero ∷ one ∷ []) []
one_less makes = makes.changes.1

-- a bare revision makes a revision without changes
bare : MakeRevisions refused (version ∷ zero ∷ one ∷ []) ([] ∷ [])
bare = record { numbered = refl; ordered = refl; changes = (tt, (tt, tt)) }

-- the first tree is that of the repository into which the dump is loaded
abbrev begun : Tree
begun = put (path_of (codes "a")) (Node.Directory []) root_alone

over_begun : LoadsAs refused begun (version ∷ zero ∷ one ∷ []) ([] ∷ []) (begun ∷ begun ∷ [])
over_begun = record { makes = bare; loads = refl }

-- nodes that make no change

-- a record of these property bytes
abbrev pub with_props : DumpRecord → List ℕ → DumpRecord
with_props r bytes = record r { props = bytes }

-- a byte that begins no entry can't be read
pub unreadable : (r : DumpRecord) → ¬ HasPropertyBlock (with_props r (codes "x"))
unreadable r (ps, (inl (empty, none), deletes)) = let bad : codes "x" ≡ [] = empty in cc
unreadable r ([], (inr same, deletes)) = let bad : codes "x" ≡ codes "PROPS-END\n" = same in cc
unreadable r (p ∷ ps, (inr (entry, rest, split, inl (value, is, (names, values, n, v, text)), more), deletes)) =
    let bad : codes "x" ≡ _ = split ∙ ap (λ e. e ++ rest) text in cc
unreadable r (p ∷ ps, (inr (entry, rest, split, inr (none, (digits, n, text)), more), deletes)) =
    let bad : codes "x" ≡ _ = split ∙ ap (λ e. e ++ rest) text in cc

makes_none_unread : (c : Change) → ¬ MakesChange refused (with_props trunk (codes "x")) c
makes_none_unread c (ps, list, plain, is) = unreadable trunk (ps, list)

-- it is found, and nothing else is
unread_found : AreFindingsOf settings [] (with_props trunk (codes "x")) (findings.UnreadBlock ∷ [])
unread_found = (
  None,
  no_node_faults,
  unreadable trunk,
  faults_of_unread settings [] (with_props trunk (codes "x")) (unreadable trunk),
  refl,
)

-- a directory whose path isn't canonical
abbrev long : DumpRecord
long = record_at 0 (line (codes "Node-path") (codes "trunk//a") ∷ line (codes "Node-action") (codes "change") ∷ [])

makes_none_long : (c : Change) → ¬ MakesChange refused long c
makes_none_long c (ps, list, plain, is) =
    let bad : false ≡ true = second_true _ (is_short (codes "trunk//a"))
    (first_true _ (is_short (copy_path long)) plain) in cc

-- what deltas make under version 3: they edit the old properties, and patch the old text with their own bytes

-- a delta that puts its bytes before the old text
abbrev put_before : Patching
put_before delta old = Some (delta ++ old)

-- a node under version 3 with more lines, and these bytes as its text
abbrev third : List Header → DumpRecord
third more = record {
  place = 0;
  version = 3;
  headers = line (codes "Node-path") (codes "trunk")
      ∷ line (codes "Node-action") (codes "change") ∷ line (codes "Prop-content-length") (codes "1")
      ∷ line (codes "Text-content-length") (codes "2") ∷ more;
  props = codes "x";
  text = codes "hi";
}

-- the change of the path trunk that makes this of properties and text
abbrev made_of_both : PropertyChange → TextChange → Option Change
made_of_both props text = Some (record (directory (codes "trunk") None) { props = Some props; text = Some text })

no_deltas : change_of put_before (third []) (date ∷ [])
    ≡ made_of_both (PropertyChange.Replaced (date ∷ [])) (TextChange.Replaced (codes "hi"))
no_deltas = refl

property_delta : change_of put_before (third (line (codes "Prop-delta") (codes "true") ∷ [])) (date ∷ [])
    ≡ made_of_both (PropertyChange.Edited (date ∷ [])) (TextChange.Replaced (codes "hi"))
property_delta = refl

text_delta : change_of put_before (third (line (codes "Text-delta") (codes "true") ∷ [])) (date ∷ [])
    ≡ made_of_both (PropertyChange.Replaced (date ∷ [])) (TextChange.Patched (λ old. Some (codes "hi" ++ old)))
text_delta = refl

-- properties of revisions

abbrev dated : DumpRecord → DumpRecord
dated r = with_props r (codes "K 8\nsvn:date\nV 1\nd\nPROPS-END\n")

reads_date : (r : DumpRecord) → HasPropertyList (dated r) (date ∷ [])
reads_date r = (
  inr (
    codes "K 8\nsvn:date\nV 1\nd\n",
    codes "PROPS-END\n",
    refl,
    inl (codes "d", refl, (codes "8", codes "1", refl, refl, refl)),
    refl,
  ),
  λ deletes. cc,
)

have_date : HaveRevisionProperties (version ∷ zero ∷ dated one ∷ trunk ∷ []) ([] ∷ (date ∷ []) ∷ [])
have_date = (none_of zero refl, (reads_date one, tt))

-- a record without property bytes has no other list
only_none : ¬ HasPropertyList zero (date ∷ [])
only_none (inl (empty, none), deletes) = let bad : date ∷ [] ≡ [] = none in cc
only_none (inr (entry, rest, split, inl (value, is, (name_digits, value_digits, n, v, text)), more), deletes) =
    let bad : [] ≡ _ = split ∙ ap (λ e. e ++ rest) text in cc
only_none (inr (entry, rest, split, inr (none, (digits, n, text)), more), deletes) =
    let bad : [] ≡ _ = split ∙ ap (λ e. e ++ rest) text in cc

have_other : ¬ HaveRevisionProperties (version ∷ zero ∷ []) ((date ∷ []) ∷ [])
have_other (list, rest) = only_none list

-- what is written of a revision has its properties; a padded empty revision has its date and a log message

abbrev padding : Settings
padding = record settings { empty = Pad; renumber = false }

abbrev group : DumpRecord → List DumpRecord → Group
group revision nodes = record { revision = revision; nodes = nodes }

abbrev log_text : List ℕ
log_text = codes "K 7\nsvn:log\nV 38\nThis is an empty revision for padding.\n"

abbrev padded : DumpRecord → DumpRecord
padded r = with_props r (log_text ++ codes "PROPS-END\n")

reads_log : (r : DumpRecord) → HasPropertyList (padded r) (padding_log ∷ [])
reads_log r = (
  inr (
    log_text,
    codes "PROPS-END\n",
    refl,
    inl (codes "This is an empty revision for padding.", refl, (codes "7", codes "38", refl, refl, refl)),
    refl,
  ),
  λ deletes. cc,
)

pads : KeepsProperties padding (group two (other ∷ [])) (group (padded two) [])
pads = ([], none_of two refl, reads_log two)

keeps_own : KeepsProperties padding (group (dated one) (trunk ∷ [])) (group (dated one) (trunk ∷ []))
keeps_own = (date ∷ [], reads_date one, reads_date one)

-- a revision without nodes isn't padded, and neither is one whose properties are preserved

keeps_bare : KeepsProperties padding (group (dated one) []) (group (dated one) [])
keeps_bare = (date ∷ [], reads_date one, reads_date one)

preserves : KeepsProperties (record padding { preserve = true }) (group (dated two) (other ∷ [])) (group (dated two) [])
preserves = (date ∷ [], reads_date two, reads_date two)

-- the properties of the example dump's kept revisions, without those of the dropped one
kept_keep : RevisionsKeepProperties settings records (version ∷ zero ∷ one ∷ trunk ∷ three ∷ copy ∷ [])
kept_keep = (
  ([], none_of zero refl, none_of zero refl),
  (
    ([], none_of one refl, none_of one refl),
    (([], none_of three refl, none_of three refl), tt),
  ),
)

dropped_keeps_none : ¬ RevisionsKeepProperties settings records records
dropped_keeps_none keep = keep.1.1.1

-- numbering

renumbered : keeps_numbering settings records ≡ true
renumbered = refl

dropped_unnumbered : keeps_numbering (record settings { renumber = false }) records ≡ false
dropped_unnumbered = refl

padded_unnumbered : keeps_numbering padding records ≡ true
padded_unnumbered = refl

-- revision 0 is never dropped
first_unnumbered : keeps_numbering (record padding { empty = DropAll }) (version ∷ zero ∷ []) ≡ true
first_unnumbered = refl

-- what is said of a filtered dump

-- the tree at the image of revision 3 is in revision 2, if revision 2 is dropped
at_image : (others : List Tree)
    → TreesRestrict settings records (root_alone ∷ root_alone ∷ root_alone ∷ third_tree ∷ []) others
    → (tree : Tree) × (slice_get others 2 ≡ Some tree)
at_image others images =
    let (new, tree, image_is, stands, restricted) = images 3 third_tree refl in
    let at : 2 ≡ new = (let both : Some 2 ≡ Some new = image_is in cc) in
    (tree, ap (slice_get others) at ∙ stands)

-- it is loaded over the parent directories, and has as many revisions as are kept
loads_given : (trees : List Tree) (text : List ℕ) → LoadsRestricted refused settings records trees text
    → (written : List (List Change)) × (others : List Tree) × (loaded_over (given settings) written ≡ Some others)
    × (length others ≡ 3)
loads_given trees text (again, written, others, has, loads, no_gap, size, images, keep) = (written, others, loads.loads, size)

front_given : (trees : List Tree) (text : List ℕ) → FrontLoadsRestricted refused settings records trees text
    → (first : List (List Change)) × (others : List Tree) × (loaded_over (given settings) first ≡ Some others)
front_given trees text (again, first, more, others, has, makes, no_gap, loads, size, images, keep) = (first, others, loads)

-- a change sets mergeinfo, with other properties or by an edit; removing mergeinfo doesn't set it

abbrev sets : Option PropertyChange → Change
sets props = record (directory (codes "trunk") None) { props = props }

abbrev merge : Option (List ℕ) → Property
merge value = record { name = codes "svn:mergeinfo"; value = value }

nothing_set : sets_mergeinfo (sets None) ≡ false
nothing_set = refl

other_set : sets_mergeinfo (sets (Some (PropertyChange.Replaced (date ∷ [])))) ≡ false
other_set = refl

merge_set : sets_mergeinfo (sets (Some (PropertyChange.Replaced (date ∷ merge (Some []) ∷ [])))) ≡ true
merge_set = refl

merge_edited : sets_mergeinfo (sets (Some (PropertyChange.Edited (merge (Some []) ∷ [])))) ≡ true
merge_edited = refl

merge_taken : sets_mergeinfo (sets (Some (PropertyChange.Edited (merge None ∷ [])))) ≡ false
merge_taken = refl
