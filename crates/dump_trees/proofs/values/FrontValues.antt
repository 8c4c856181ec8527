-- Examples of numbers and of first revisions: a dump with an alarm in its third revision, and one that is rejected
-- there. The law is true of the revisions before it.
use Rattle.dump_trees.proofs.Prelude.{◌≡◌, codes, refl, Settings, KeptRevisions, image, path_of, keeps, Node, Tree, root_alone, Change, given, IsNewChange, loaded_over, EmptyRule, stays_numbered, AreNewRevisions, kept_of, IsWrittenNumber, are_quiet, FrontLoads}
use Rattle.std.proofs.Common.{ℕ, true, false, List, [], ◌∷◌, ◌++◌, Some, None, is_none}
use Rattle.std.specs.Prelude.{◌&&◌, is_some}
use Rattle.dump_trees.proofs.histories.FrontLemmas.{front_history}
use Rattle.dump_trees.proofs.quiet.QuietLemmas.{all_quiet}
use Rattle.dump_trees.proofs.values.ValueParts.{including, excluding, none_more, as_it_was, entries_stay, change, directory, file, copy, writing, same_directory, same_file, same_copy, node_at}

-- numbers: of six revisions the first, the third and the fourth have no kept change

abbrev six : List (List Change)
six = (directory (codes "c") ∷ []) ∷ (directory (codes "a") ∷ []) ∷ [] ∷ (change (codes "c") ∷ []) ∷ (change (codes "a") ∷ [])
    ∷ (change (codes "c") ∷ change (codes "a/b") ∷ []) ∷ []

abbrev kept : KeptRevisions
kept = kept_of (including (codes "a")) none_more six

-- revisions without changes are kept
abbrev bare_ones : EmptyRule
bare_ones [] = true
bare_ones (c ∷ changes) = false

kept_numbers : kept.numbers ≡ 0 ∷ 2 ∷ 5 ∷ 6 ∷ []
kept_numbers = refl

kept_bare : (kept_of (including (codes "a")) bare_ones six).numbers ≡ 0 ∷ 2 ∷ 3 ∷ 5 ∷ 6 ∷ []
kept_bare = refl

kept_all : (kept_of (including (codes "a")) (λ changes. true) six).numbers ≡ 0 ∷ 1 ∷ 2 ∷ 3 ∷ 4 ∷ 5 ∷ 6 ∷ []
kept_all = refl

-- Each kept copy finds its revision by its number if revisions are renumbered, or none is dropped. If one is dropped,
-- it does while no kept change after it is a copy.

-- the options without renumbering
abbrev left_numbers : Settings
left_numbers = record (including (codes "a")) { renumber = false }

-- one more revision with this change
abbrev with_change : Change → List (List Change)
with_change c = six ++ (c ∷ []) ∷ []

numbers_renumbered : stays_numbered (including (codes "a")) none_more (with_change (copy 2 (codes "a") (codes "a/c"))) ≡ true
numbers_renumbered = refl

numbers_kept : stays_numbered left_numbers (λ changes. true) (with_change (copy 2 (codes "a") (codes "a/c"))) ≡ true
numbers_kept = refl

numbers_not_named : stays_numbered left_numbers none_more six ≡ true
numbers_not_named = refl

numbers_named : stays_numbered left_numbers none_more (with_change (copy 2 (codes "a") (codes "a/c"))) ≡ false
numbers_named = refl

-- an excluded copy names nothing in what is written
numbers_left_out : stays_numbered left_numbers none_more (with_change (copy 2 (codes "a") (codes "c/a"))) ≡ true
numbers_left_out = refl

-- a copy before the first dropped revision finds its own
numbers_before : stays_numbered left_numbers none_more
    ((directory (codes "a") ∷ []) ∷ (copy 1 (codes "a") (codes "a/c") ∷ []) ∷ six) ≡ true
numbers_before = refl

-- a copy after it counts, even if there are more kept revisions between
numbers_behind : stays_numbered left_numbers none_more
    ((directory (codes "a") ∷ []) ∷ [] ∷ (change (codes "a") ∷ []) ∷ (change (codes "a") ∷ copy 1 (codes "a") (codes "a/c") ∷ []) ∷ [])
    ≡ false
numbers_behind = refl

image_of_zero : image kept 0 ≡ Some 0
image_of_zero = refl

image_before_the_first : image kept 1 ≡ Some 0
image_before_the_first = refl

image_of_kept : image kept 2 ≡ Some 1
image_of_kept = refl

image_of_dropped : image kept 4 ≡ Some 1
image_of_dropped = refl

image_behind_dropped : image kept 5 ≡ Some 2
image_behind_dropped = refl

image_of_last : image kept 6 ≡ Some 3
image_of_last = refl

number_renumbered : IsWrittenNumber (including (codes "a")) kept 4 1
number_renumbered = refl

number_left : IsWrittenNumber (record (including (codes "a")) { renumber = false }) kept 4 4
number_left = refl

number_wrong : IsWrittenNumber (including (codes "a")) kept 4 4 → ⊥
number_wrong same = absurd (let bad : Some 1 ≡ Some 4 = same in cc)

number_moved : IsWrittenNumber (record (including (codes "a")) { renumber = false }) kept 4 1 → ⊥
number_moved same = absurd (let bad : 1 ≡ 4 = same in cc)

-- an alarm in the third revision

abbrev settings : Settings
settings = excluding (codes "trunk/big")

abbrev front : List (List Change)
front = (directory (codes "trunk") ∷ file (codes "trunk/f") (codes "1") ∷ file (codes "trunk/big") (codes "b") ∷ [])
    ∷ (writing (codes "2") (change (codes "trunk/f")) ∷ [])
    ∷ []

abbrev rest : List (List Change)
rest = (copy 1 (codes "trunk") (codes "branch") ∷ []) ∷ (file (codes "branch/g") (codes "3") ∷ []) ∷ []

abbrev first : List (List Change)
first = (directory (codes "trunk") ∷ file (codes "trunk/f") (codes "1") ∷ [])
    ∷ (writing (codes "2") (change (codes "trunk/f")) ∷ [])
    ∷ []

front_is_quiet : are_quiet settings front ≡ true
front_is_quiet = refl

whole_is_not : are_quiet settings (front ++ rest) ≡ false
whole_is_not = refl

-- in the third revision the law of the whole dump is false: only one of the loads has a file at a kept path
whole_has_it : node_at (loaded_over root_alone (front ++ rest)) 3 (codes "branch/big") ≡ Some (Node.File [] (codes "b"))
whole_has_it = refl

it_is_kept : keeps settings (path_of (codes "branch/big")) ≡ true
it_is_kept = refl

filtered_lacks_it : node_at (loaded_over (given settings) (first ++ rest)) 3 (codes "branch/big") ≡ None
filtered_lacks_it = refl

-- one change that isn't quiet is enough, even with quiet ones
one_of_two_is_not : are_quiet settings
    ((file (codes "trunk/g") (codes "1") ∷ copy 1 (codes "trunk") (codes "branch") ∷ []) ∷ []) ≡ false
one_of_two_is_not = refl

-- the law is true of the second one
front_text : node_at (loaded_over root_alone (front ++ rest)) 2 (codes "trunk/f") ≡ Some (Node.File [] (codes "2"))
front_text = refl

first_text : node_at (loaded_over (given settings) (first ++ rest)) 2 (codes "trunk/f") ≡ Some
    (Node.File [] (codes "2"))
first_text = refl

-- a new text is written as it is
same_text : (number : ℕ → ℕ → Type 0) (path text : List ℕ)
    → IsNewChange settings as_it_was number (writing text (change path)) (writing text (change path))
same_text number path text = record { path = refl; deletes = refl; made = tt; props = tt; text = refl }

-- the first part is what is written of the front
first_is_written : (number : ℕ → ℕ → Type 0) (behind more : List (List Change))
    → AreNewRevisions settings as_it_was number none_more behind more
    → AreNewRevisions settings as_it_was number none_more (front ++ behind) (first ++ more)
first_is_written number behind more new = (
  directory (codes "trunk") ∷ file (codes "trunk/f") (codes "1") ∷ [],
  _,
  refl,
  (
    directory (codes "trunk"),
    _,
    refl,
    same_directory _ number (codes "trunk"),
    (file (codes "trunk/f") (codes "1"), [], refl, same_file _ number (codes "trunk/f") (codes "1"), refl),
  ),
  (
    writing (codes "2") (change (codes "trunk/f")) ∷ [],
    more,
    refl,
    (writing (codes "2") (change (codes "trunk/f")), [], refl, same_text number (codes "trunk/f") (codes "2"), refl),
    new,
  ),
)

-- of the rest each change is written as it is
rest_is_written : AreNewRevisions settings as_it_was
    (IsWrittenNumber settings (kept_of settings none_more (front ++ rest))) none_more
    rest rest
rest_is_written = (
  copy 1 (codes "trunk") (codes "branch") ∷ [],
  _,
  refl,
  (
    copy 1 (codes "trunk") (codes "branch"),
    [],
    refl,
    same_copy settings _ 1 1 (codes "trunk") (codes "branch") refl refl,
    refl,
  ),
  (
    file (codes "branch/g") (codes "3") ∷ [],
    [],
    refl,
    (file (codes "branch/g") (codes "3"), [], refl, same_file _ _ (codes "branch/g") (codes "3"), refl),
    refl,
  ),
)

-- so the law says this of the first two revisions
the_law : (trees : List Tree) → loaded_over root_alone front ≡ Some trees
    → FrontLoads settings as_it_was none_more (kept_of settings none_more (front ++ rest)) front (first ++ rest) trees
the_law trees at =
    front_history settings as_it_was entries_stay none_more front rest (first ++ rest) trees refl at
    (all_quiet settings (root_alone ∷ []) root_alone front refl refl) (first_is_written _ rest rest rest_is_written)

-- and both load as a whole
both_load :
    (is_some (loaded_over root_alone (front ++ rest)) && is_some (loaded_over (given settings) (first ++ rest))) ≡ true
both_load = refl

-- a third revision that is rejected, since the file exists there already

abbrev rejected : List (List Change)
rejected = (file (codes "trunk/f") (codes "3") ∷ []) ∷ []

whole_is_rejected : is_none (loaded_over root_alone (front ++ rejected)) ≡ true
whole_is_rejected = refl

its_law : (trees : List Tree) → loaded_over root_alone front ≡ Some trees
    → FrontLoads settings as_it_was none_more (kept_of settings none_more (front ++ rejected)) front
    (first ++ rejected) trees
its_law trees at =
    front_history settings as_it_was entries_stay none_more front rejected (first ++ rejected) trees refl at
    (all_quiet settings (root_alone ∷ []) root_alone front refl refl)
    (first_is_written _ rejected rejected (
      file (codes "trunk/f") (codes "3") ∷ [],
      [],
      refl,
      (file (codes "trunk/f") (codes "3"), [], refl, same_file _ _ (codes "trunk/f") (codes "3"), refl),
      refl,
    ))
