-- Examples of property deltas and text deltas, as svnadmin load takes them.
use Rattle.dump_trees.proofs.Prelude.{◌≡◌, codes, refl, Property, Node, Change}
use Rattle.std.proofs.Common.{ℕ, true, List, [], ◌∷◌, ◌++◌, Option, Some, None}
use Rattle.dump_trees.proofs.values.ValueParts.{change, directory, file, copy, deletion, replacing, setting, editing, writing, patching, property, removal, stands, is_rejected}

abbrev p : Property
p = property (codes "p") (codes "1")

abbrev q : Property
q = property (codes "q") (codes "2")

-- a directory, and a file with two properties
abbrev begun : List (List Change)
begun = (directory (codes "a") ∷ setting (p ∷ q ∷ []) (file (codes "f") (codes "old")) ∷ []) ∷ []

-- what exists at the path after one more change is loaded
abbrev then : Change → List ℕ → Option Node
then c path = stands (begun ++ (c ∷ []) ∷ []) path

-- the file f with its text and these properties
abbrev with : List Property → Option Node
with props = Some (Node.File props (codes "old"))

-- what an edit of f leaves
abbrev edited : List Property → Option Node
edited entries = then (editing entries (change (codes "f"))) (codes "f")

-- edits

sets_new : edited (property (codes "z") (codes "3") ∷ []) ≡ with (p ∷ q ∷ property (codes "z") (codes "3") ∷ [])
sets_new = refl

sets_again : edited (property (codes "p") (codes "9") ∷ []) ≡ with (q ∷ property (codes "p") (codes "9") ∷ [])
sets_again = refl

takes_away : edited (removal (codes "q") ∷ []) ≡ with (p ∷ [])
takes_away = refl

-- a property that doesn't exist can be removed
takes_nothing : edited (removal (codes "n") ∷ []) ≡ with (p ∷ q ∷ [])
takes_nothing = refl

later_counts : edited (property (codes "p") (codes "7") ∷ property (codes "p") (codes "8") ∷ [])
    ≡ with (q ∷ property (codes "p") (codes "8") ∷ [])
later_counts = refl

set_and_taken : edited (property (codes "p") (codes "7") ∷ removal (codes "p") ∷ []) ≡ with (q ∷ [])
set_and_taken = refl

taken_and_set : edited (removal (codes "p") ∷ property (codes "p") (codes "7") ∷ [])
    ≡ with (q ∷ property (codes "p") (codes "7") ∷ [])
taken_and_set = refl

edits_none : edited [] ≡ with (p ∷ q ∷ [])
edits_none = refl

edits_directory : then (editing (p ∷ []) (change (codes "a"))) (codes "a") ≡ Some (Node.Directory (p ∷ []))
edits_directory = refl

-- the copy has the properties of its source, edited
edits_copy : then (editing (removal (codes "p") ∷ []) (copy 1 (codes "f") (codes "g"))) (codes "g") ≡ with (q ∷ [])
edits_copy = refl

-- a node that is replaced begins without properties
edits_replaced : then (editing (q ∷ []) (replacing (file (codes "f") (codes "old")))) (codes "f") ≡ with (q ∷ [])
edits_replaced = refl

-- edits are rejected if nothing exists at the path, but an empty list of edits is taken

edits_nothing : is_rejected begun (editing (p ∷ []) (change (codes "n"))) ≡ true
edits_nothing = refl

takes_from_nothing : is_rejected begun (editing (removal (codes "p") ∷ []) (change (codes "n"))) ≡ true
takes_from_nothing = refl

none_of_nothing : then (editing [] (change (codes "n"))) (codes "f") ≡ with (p ∷ q ∷ [])
none_of_nothing = refl

none_of_deleted : then (editing [] (deletion (codes "f"))) (codes "f") ≡ None
none_of_deleted = refl

-- entries that replace the old ones

abbrev replaced : List Property → Option Node
replaced entries = then (setting entries (change (codes "f"))) (codes "f")

-- an entry without a value leaves nothing
whole_without : replaced (p ∷ removal (codes "q") ∷ []) ≡ with (p ∷ [])
whole_without = refl

whole_taken : replaced (p ∷ removal (codes "p") ∷ []) ≡ with []
whole_taken = refl

whole_later : replaced (p ∷ property (codes "p") (codes "2") ∷ []) ≡ with (property (codes "p") (codes "2") ∷ [])
whole_later = refl

-- text deltas

-- a delta that appends a text to the old one, and a delta that the load rejects
abbrev behind : List ℕ → Option (List ℕ)
behind old = Some (old ++ codes "new")

abbrev rejected : List ℕ → Option (List ℕ)
rejected old = None

patched : then (patching behind (change (codes "f"))) (codes "f")
    ≡ Some (Node.File (p ∷ q ∷ []) (codes "oldnew"))
patched = refl

-- a new file's old text is empty, and a copy's is that of its source
patched_new : then (patching behind (writing [] (file (codes "n") []))) (codes "n") ≡ Some (Node.File [] (codes "new"))
patched_new = refl

patched_copy : then (patching behind (copy 1 (codes "f") (codes "g"))) (codes "g")
    ≡ Some (Node.File (p ∷ q ∷ []) (codes "oldnew"))
patched_copy = refl

patch_rejected : is_rejected begun (patching rejected (change (codes "f"))) ≡ true
patch_rejected = refl

patched_directory : is_rejected begun (patching behind (change (codes "a"))) ≡ true
patched_directory = refl

patched_nothing : is_rejected begun (patching behind (change (codes "n"))) ≡ true
patched_nothing = refl
