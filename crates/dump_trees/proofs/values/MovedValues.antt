-- Examples of a load after other revisions.
use Rattle.dump_trees.proofs.Prelude.{◌≡◌, ◌==◌, not, option_map, unwrap_or, bytes_eq, codes, refl, ap, ◌∙◌, Property, path_of, path_text, Node, Tree, put, root_alone, Made, Change, given, KeepsEntries, IsMade, loaded, loaded_over, change_behind, revisions_behind, IsChangeBehind, AreRevisionsBehind, AreAlike, AllAreAlike}
use Rattle.std.proofs.Common.{ℕ, Bool, true, false, List, [], ◌∷◌, ◌++◌, length, Option, Some, None, is_some, is_none}
use Rattle.dump_trees.proofs.paths.GivenDirectories.{given_directories}
use Rattle.dump_trees.proofs.histories.AlikeLemmas.{loads_alike, given_alike}
use Rattle.dump_trees.proofs.values.ValueParts.{including, as_it_was, change, directory, file, copy, deletion, setting, property, node_at}

-- a dump after other revisions: an administrator makes the directory `a` in a revision of its own, so the number of
-- the copy source is higher by one

number_behind : change_behind 1 (copy 2 (codes "a/f") (codes "a/g")) ≡ copy 3 (codes "a/f") (codes "a/g")
number_behind = refl

abbrev copying : List (List Change)
copying =
    (directory (codes "a/b") ∷ []) ∷ (file (codes "a/b/f") (codes "1") ∷ []) ∷
    (copy 2 (codes "a/b/f") (codes "a/b/g") ∷ []) ∷ []

abbrev made : Tree
made = given (including (codes "a/b"))

copied_behind : node_at (loaded (root_alone ∷ made ∷ []) made (revisions_behind 1 copying)) 4 (codes "a/b/g")
    ≡ Some (Node.File [] (codes "1"))
copied_behind = refl

not_raised : is_none (loaded (root_alone ∷ made ∷ []) made copying) ≡ true
not_raised = refl

-- a load that also sets new properties: it appends a mark to each value

abbrev one : Property
one = property (codes "p") (codes "1")

abbrev marked : Property → Property
marked p = record p { value = option_map (λ v. v ++ codes "+") p.value }

entries : KeepsEntries (IsMade marked)
entries old new same =
    (ap (λ (p : Property). p.name) same, ap (λ (p : Property). is_some p.value) same ∙ kept old.value)
  where
    kept : (o : Option (List ℕ)) → is_some (option_map (λ v. v ++ codes "+") o) ≡ is_some o
    kept None = refl
    kept (Some v) = refl

abbrev with_property : List (List Change)
with_property = (setting (one ∷ []) (directory (codes "a/b")) ∷ []) ∷ (copy 1 (codes "a/b") (codes "a/b/c") ∷ []) ∷ []

abbrev behind_one : List (List Change)
behind_one =
    (setting (marked one ∷ []) (directory (codes "a/b")) ∷ []) ∷ (copy 2 (codes "a/b") (codes "a/b/c") ∷ []) ∷ []

is_behind : AreRevisionsBehind (IsMade marked) 1 with_property behind_one
is_behind = (
  (record { path = refl; deletes = refl; made = refl; props = (refl, tt); text = refl }, tt),
  ((record { path = refl; deletes = refl; made = refl; props = tt; text = refl }, tt), tt),
)

-- so the law says this of both loads
the_law : (trees : List Tree) → loaded_over made with_property ≡ Some trees
    → (others : List Tree) × (loaded (root_alone ∷ made ∷ []) made behind_one ≡ Some (root_alone ∷ others))
    × (length others ≡ length trees) × AllAreAlike (IsMade marked) trees others
the_law trees at = loads_alike (IsMade marked) entries (root_alone ∷ []) made with_property behind_one trees
    (given_directories (including (codes "a/b"))) (given_alike (including (codes "a/b")) (IsMade marked)) is_behind at

their_copy : node_at (loaded (root_alone ∷ made ∷ []) made behind_one) 3 (codes "a/b/c")
    ≡ Some (Node.Directory (marked one ∷ []))
their_copy = refl

-- what isn't a change after one revision

number_stays : ¬ IsChangeBehind as_it_was 1 (copy 2 (codes "a/f") (codes "a/g")) (copy 2 (codes "a/f") (codes "a/g"))
number_stays b = let bad : true ≡ false = ap (λ o. is_other o) b.made in cc
  where
    is_other : Option Made → Bool
    is_other None = false
    is_other (Some Made.NewDirectory) = false
    is_other (Some Made.NewFile) = false
    is_other (Some (Made.Copied number source)) = not (number == 3)

property_stays : ¬ IsChangeBehind (IsMade marked) 1 (setting (one ∷ []) (change (codes "a")))
    (setting (one ∷ []) (change (codes "a")))
property_stays b =
    let bad : true ≡ false = ap (λ (p : Property). bytes_eq (unwrap_or p.value []) (codes "1")) b.props.0 in cc

property_goes : ¬ IsChangeBehind (IsMade marked) 1 (setting (one ∷ []) (change (codes "a"))) (change (codes "a"))
property_goes b = b.props

path_differs : ¬ IsChangeBehind as_it_was 1 (change (codes "a")) (change (codes "b"))
path_differs b = let bad : true ≡ false = ap (λ p. bytes_eq (path_text p) (codes "/b")) b.path in cc

deletion_goes : ¬ IsChangeBehind as_it_was 1 (deletion (codes "a")) (change (codes "a"))
deletion_goes b = let bad : false ≡ true = b.deletes in cc

text_goes : ¬ IsChangeBehind as_it_was 1 (file (codes "a") (codes "1"))
    (record (file (codes "a") (codes "1")) { text = None })
text_goes b = let bad : false ≡ true = ap (λ o. is_some o) b.text in cc

revision_goes : ¬ AreRevisionsBehind as_it_was 1 ([] ∷ []) []
revision_goes b = b

-- trees that differ in more than new properties

other_text : ¬ AreAlike as_it_was (put (path_of (codes "f")) (Node.File [] (codes "1")) root_alone)
    (put (path_of (codes "f")) (Node.File [] (codes "2")) root_alone)
other_text alike =
    let bad : true ≡ false = ap (λ t. bytes_eq t (codes "2")) (alike (path_of (codes "f"))).1 in cc

one_tree_more : ¬ AllAreAlike as_it_was (root_alone ∷ []) []
one_tree_more all = let (other, there, alike) = all 0 root_alone refl in let bad : None ≡ Some other = there in cc
