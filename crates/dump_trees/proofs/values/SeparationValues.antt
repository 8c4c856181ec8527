-- Examples of separation: a change by which something is lost, let in or brought along isn't separated, and a harmless
-- one is.
use Rattle.dump_trees.proofs.Prelude.{◌≡◌, codes, refl, sym, ap, subst, ◌∙◌, slice_get, both_ways, Property, Settings, image, NodePath, path_of, keeps, Node, Tree, put, root_alone, Made, Change, History, steps, given, is_lost, has_no_props, CopySeparates, PlainSeparates, LeavesKept, Separates, loaded_over, kept_of, AreFiltered, AllRevisionsSeparate, ImagesRestrict, is_quiet, is_over, nowhere_is_over}
use Rattle.std.proofs.Common.{ℕ, true, false, List, [], ◌∷◌, length, Option, Some, None, option_and_then, is_some, is_none}
use Rattle.dump_trees.proofs.histories.HistoryLemmas.{history}
use Rattle.dump_trees.proofs.quiet.QuietLemmas.{quiet_changes}
use Rattle.dump_trees.proofs.values.ValueParts.{including, excluding, none_more, as_it_was, entries_stay, directory, file, copy, replacing, setting, writing, property, same_directory, same_file}

abbrev one : Property
one = property (codes "p") (codes "1")

-- the history in which each revision has this node at a path
abbrev always : List ℕ → Node → History
always path node number = Some (put (path_of path) node root_alone)

-- nodes without properties

nothing_has_none : has_no_props None ≡ true
nothing_has_none = refl

directory_has_none : has_no_props (Some (Node.Directory [])) ≡ true
directory_has_none = refl

directory_has_one : has_no_props (Some (Node.Directory (one ∷ []))) ≡ false
directory_has_one = refl

file_has_none : has_no_props (Some (Node.File [] (codes "1"))) ≡ true
file_has_none = refl

file_has_one : has_no_props (Some (Node.File (one ∷ []) (codes "1"))) ≡ false
file_has_one = refl

-- a copy that loses its source

abbrev lost_copy : Change
lost_copy = writing (codes "2") (copy 1 (codes "c") (codes "a"))

its_source_is_lost : is_lost (including (codes "a")) lost_copy.made ≡ true
its_source_is_lost = refl

kept_source : is_lost (including (codes "a")) (copy 1 (codes "a/b") (codes "a/f")).made ≡ false
kept_source = refl

loses_properties : PlainSeparates (including (codes "a"))
    (always (codes "c") (Node.File (one ∷ []) (codes "1"))) root_alone lost_copy
    → ⊥
loses_properties apart =
    absurd (let bad : false ≡ true = (apart 1 (path_of (codes "c")) refl refl).0
    (put (path_of (codes "c")) (Node.File (one ∷ []) (codes "1")) root_alone) refl in cc)

over_something : PlainSeparates (including (codes "a")) (always (codes "c") (Node.File [] (codes "1")))
    (put (path_of (codes "a")) (Node.Directory []) root_alone) (setting [] lost_copy) → ⊥
over_something apart = absurd (let bad : false ≡ true = (apart 1 (path_of (codes "c")) refl refl).1 in cc)

sets_properties : PlainSeparates (including (codes "a"))
    (always (codes "c") (Node.File (one ∷ []) (codes "1"))) root_alone
    (setting [] lost_copy)
sets_properties number source made left = (λ old named. refl, refl)

replaces : PlainSeparates (including (codes "a")) (always (codes "c") (Node.File [] (codes "1")))
    (put (path_of (codes "a")) (Node.Directory []) root_alone) (replacing (setting [] lost_copy))
replaces number source made left = (λ old named. refl, refl)

-- copies of kept paths

abbrev in_trunk : History
in_trunk = always (codes "trunk/x") (Node.File [] (codes "1"))

loses : CopySeparates (excluding (codes "trunk/x")) in_trunk (copy 1 (codes "trunk") (codes "branch")) → ⊥
loses apart =
    absurd (let bad : true ≡ false = apart 1 (path_of (codes "trunk")) refl refl
    (put (path_of (codes "trunk/x")) (Node.File [] (codes "1")) root_alone) refl (path_of (codes "x"))
    (Node.File [] (codes "1")) refl
    in cc)

lets_in : CopySeparates (excluding (codes "branch/x")) in_trunk (copy 1 (codes "trunk") (codes "branch")) → ⊥
lets_in apart =
    absurd (let bad : false ≡ true = apart 1 (path_of (codes "trunk")) refl refl
    (put (path_of (codes "trunk/x")) (Node.File [] (codes "1")) root_alone) refl (path_of (codes "x"))
    (Node.File [] (codes "1")) refl
    in cc)

-- dropped changes

takes_a_kept_file : LeavesKept (including (codes "a/f"))
    (put (path_of (codes "a/f")) (Node.File [] []) root_alone) root_alone → ⊥
takes_a_kept_file leaves =
    absurd (let bad : false ≡ true = ap (λ o. is_some o) (leaves (path_of (codes "a/f")) refl) in cc)

brings_a_kept_file : LeavesKept (including (codes "a/f")) root_alone
    (put (path_of (codes "a/f")) (Node.File [] []) root_alone) → ⊥
brings_a_kept_file leaves =
    absurd (let bad : true ≡ false = ap (λ o. is_some o) (leaves (path_of (codes "a/f")) refl) in cc)

-- what is made over something

abbrev with_a : Tree
with_a = put (path_of (codes "a")) (Node.Directory []) root_alone

lost_over : is_over (including (codes "a")) with_a lost_copy ≡ true
lost_over = refl

lost_over_nothing : is_over (including (codes "a")) root_alone lost_copy ≡ false
lost_over_nothing = refl

lost_replaces : is_over (including (codes "a")) with_a (replacing lost_copy) ≡ false
lost_replaces = refl

kept_over : is_over (including (codes "a")) with_a (copy 1 (codes "a/b") (codes "a")) ≡ false
kept_over = refl

new_over : is_over (including (codes "a")) with_a (directory (codes "a")) ≡ false
new_over = refl

dropped_over : is_over (including (codes "b")) with_a (copy 1 (codes "c") (codes "a")) ≡ false
dropped_over = refl

abbrev begun : List Change
begun = directory (codes "a") ∷ file (codes "a/f") (codes "1") ∷ directory (codes "c") ∷ file (codes "c/f") (codes "1") ∷ []

somewhere_over : nowhere_is_over (including (codes "a")) (root_alone ∷ []) root_alone
    (begun ∷ (directory (codes "d") ∷ writing (codes "2") (copy 1 (codes "c/f") (codes "a/f")) ∷ []) ∷ []) ≡ false
somewhere_over = refl

nowhere_over : nowhere_is_over (including (codes "a")) (root_alone ∷ []) root_alone
    (begun ∷ (copy 1 (codes "c/f") (codes "c") ∷ copy 1 (codes "a/f") (codes "a") ∷ []) ∷ []) ≡ true
nowhere_over = refl

-- A history that isn't quiet, since a copy that loses its source has no property block. It is separated, since the
-- source has no properties. So the law is true of it.

abbrev settings : Settings
settings = including (codes "a")

abbrev edited_copy : Change
edited_copy = writing (codes "2") (copy 1 (codes "c/f") (codes "a/g"))

abbrev whole : List (List Change)
whole = begun ∷ (edited_copy ∷ []) ∷ []

abbrev part : List (List Change)
part = (directory (codes "a") ∷ file (codes "a/f") (codes "1") ∷ []) ∷ (file (codes "a/g") (codes "2") ∷ []) ∷ []

not_quiet : is_quiet settings edited_copy ≡ false
not_quiet = refl

module _ (tree : Tree) (at : steps (slice_get (root_alone ∷ [])) root_alone begun ≡ Some tree) where
  source_at : tree (path_of (codes "c/f")) ≡ Some (Node.File [] (codes "1"))
  source_at = ap (λ o. option_and_then (λ t. t (path_of (codes "c/f"))) o) (sym at)

  free_at : tree (path_of (codes "a/g")) ≡ None
  free_at = ap (λ o. option_and_then (λ t. t (path_of (codes "a/g"))) o) (sym at)

  copied_apart : (after : Tree) → Separates settings (slice_get (root_alone ∷ tree ∷ [])) tree edited_copy after
  copied_apart after = record {
    copy = λ is number source made kept. absurd (both_ways _ (left number source made) kept);
    plain = λ is number source made gone. (bare number source made, ap (λ o. is_none o) free_at);
    dropped = λ left. absurd (both_ways _ left refl);
  }
    where
      left : (number : ℕ) (source : NodePath) → edited_copy.made ≡ Some (Made.Copied number source)
          → keeps settings source ≡ false
      left number source made =
          subst (λ o. source_of o) made refl
        where
          source_of : Option Made → Type 0
          source_of None = ⊥
          source_of (Some Made.NewDirectory) = ⊥
          source_of (Some Made.NewFile) = ⊥
          source_of (Some (Made.Copied m q)) = keeps settings q ≡ false

      bare : (number : ℕ) (source : NodePath) → edited_copy.made ≡ Some (Made.Copied number source) → (old : Tree)
          → slice_get (root_alone ∷ tree ∷ []) number ≡ Some old → has_no_props (old source) ≡ true
      bare number source made old named = subst (λ o. bare_of o) made here old named
        where
          bare_of : Option Made → Type 0
          bare_of None = ⊥
          bare_of (Some Made.NewDirectory) = ⊥
          bare_of (Some Made.NewFile) = ⊥
          bare_of (Some (Made.Copied m q)) = (old : Tree) → slice_get (root_alone ∷ tree ∷ []) m ≡ Some old
              → has_no_props (old q) ≡ true

          here : (old : Tree) → Some tree ≡ Some old → has_no_props (old (path_of (codes "c/f"))) ≡ true
          here old same =
              ap (λ o. has_no_props (option_and_then (λ t. t (path_of (codes "c/f"))) o)) (sym same)
              ∙ ap (λ o. has_no_props o) source_at

all_apart : AllRevisionsSeparate settings (root_alone ∷ []) root_alone whole
all_apart = (
  quiet_changes settings (slice_get (root_alone ∷ [])) begun root_alone refl refl,
  λ tree at. (λ after there. (copied_apart tree at after, tt), λ next there. tt),
)

is_part : AreFiltered settings as_it_was none_more whole part
is_part = (
  directory (codes "a") ∷ file (codes "a/f") (codes "1") ∷ [],
  _,
  refl,
  (
    directory (codes "a"),
    _,
    refl,
    same_directory _ _ (codes "a"),
    (file (codes "a/f") (codes "1"), [], refl, same_file _ _ (codes "a/f") (codes "1"), refl),
  ),
  (
    file (codes "a/g") (codes "2") ∷ [],
    [],
    refl,
    (
      file (codes "a/g") (codes "2"),
      [],
      refl,
      record { path = refl; deletes = refl; made = (refl, refl); props = tt; text = refl },
      refl,
    ),
    refl,
  ),
)

the_law : (trees : List Tree) → loaded_over root_alone whole ≡ Some trees
    → (others : List Tree) × (loaded_over (given settings) part ≡ Some others) × (length others ≡ 3)
    × ImagesRestrict settings as_it_was (image (kept_of settings none_more whole)) trees others
the_law trees at = history settings as_it_was entries_stay none_more whole part trees refl at all_apart is_part
