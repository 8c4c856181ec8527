-- Examples of findings in prefixes; the checker computes and proves them.
use Rattle.dump_survey.proofs.Prelude.{◌≡◌, ℕ, List, [], ◌∷◌, Some, None, refl, codes, DumpRecord, NotCanonical, Idle, prefix_finding, reported_prefixes, line, record_at, records, version, one}
use Rattle.dump_history.proofs.values.WorkedDump.{zero}

-- a dump with one node: a directory with this path and action that is a copy of a path that no node has
abbrev copied_to : (path action : List ℕ) → List DumpRecord
copied_to path action = version ∷ zero ∷ one ∷ record_at 71 (line (codes "Node-path") path
    ∷ line (codes "Node-kind") (codes "dir")
    ∷ line (codes "Node-action") action
    ∷ line (codes "Node-copyfrom-rev") (codes "0")
    ∷ line (codes "Node-copyfrom-path") (codes "old") ∷ []) ∷ []

abbrev copied : List DumpRecord
copied = copied_to (codes "tag") (codes "add")

-- a path, and the paths below it

own_path : prefix_finding records (codes "trunk") ≡ None
own_path = refl

path_below : prefix_finding (copied_to (codes "tags/one") (codes "add")) (codes "tags") ≡ None
path_below = refl

path_above : prefix_finding records (codes "trunk/c") ≡ Some Idle
path_above = refl

-- whole names are matched
part_of_a_name : prefix_finding records (codes "trun") ≡ Some Idle
part_of_a_name = refl

another_name : prefix_finding records (codes "Trunk") ≡ Some Idle
another_name = refl

-- a copy source counts

copy_source : prefix_finding copied (codes "old") ≡ None
copy_source = refl

below_the_source : prefix_finding copied (codes "old/x") ≡ Some Idle
below_the_source = refl

-- what may come with a copy counts, if the node is a copy

below_a_copy : prefix_finding copied (codes "tag/x/y") ≡ None
below_a_copy = refl

below_a_later_copy : prefix_finding records (codes "trunk/b/c") ≡ None
below_a_later_copy = refl

below_a_replacing_copy : prefix_finding (copied_to (codes "tag") (codes "replace")) (codes "tag/x") ≡ None
below_a_replacing_copy = refl

below_a_deletion : prefix_finding (copied_to (codes "tag") (codes "delete")) (codes "tag/x") ≡ Some Idle
below_a_deletion = refl

below_a_change : prefix_finding (copied_to (codes "tag") (codes "change")) (codes "tag/x") ≡ Some Idle
below_a_change = refl

beside_a_copy : prefix_finding (copied_to (codes "tags/one") (codes "add")) (codes "tags/two") ≡ Some Idle
beside_a_copy = refl

part_of_its_name : prefix_finding copied (codes "ta") ≡ Some Idle
part_of_its_name = refl

its_name_and_more : prefix_finding copied (codes "tagged/x") ≡ Some Idle
its_name_and_more = refl

copy_with_a_slash : prefix_finding (copied_to (codes "/tag") (codes "add")) (codes "/tag/x/") ≡ None
copy_with_a_slash = refl

copy_of_the_root_path : prefix_finding (copied_to [] (codes "add")) (codes "x") ≡ None
copy_of_the_root_path = refl

copy_of_a_slash : prefix_finding (copied_to (codes "/") (codes "add")) (codes "x") ≡ None
copy_of_a_slash = refl

in_no_short_form : prefix_finding copied (codes "tag//x") ≡ Some NotCanonical
in_no_short_form = refl

-- slashes at the ends don't matter, and the root is above each node

with_slashes : prefix_finding records (codes "/trunk/") ≡ None
with_slashes = refl

root : prefix_finding records (codes "/") ≡ None
root = refl

root_of_no_node : prefix_finding (version ∷ zero ∷ []) (codes "/") ≡ Some Idle
root_of_no_node = refl

-- only the form is reported

two_slashes : prefix_finding records (codes "trunk//b") ≡ Some NotCanonical
two_slashes = refl

dot_first : prefix_finding records (codes "./trunk") ≡ Some NotCanonical
dot_first = refl

two_dots : prefix_finding records (codes "trunk/../other") ≡ Some Idle
two_dots = refl

-- each prefix has its own report, in order
in_order : reported_prefixes records (codes "b" ∷ codes "trunk" ∷ codes "./a" ∷ codes "c" ∷ [])
    ≡ record { prefix = codes "b"; finding = Idle } ∷ record { prefix = codes "./a"; finding = NotCanonical }
    ∷ record { prefix = codes "c"; finding = Idle } ∷ []
in_order = refl
