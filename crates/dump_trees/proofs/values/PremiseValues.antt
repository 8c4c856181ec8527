-- Examples of the premises of the law of quiet histories: for each premise, a dump in which only this premise is
-- false, and the law with it.
use Rattle.dump_trees.proofs.Prelude.{◌≡◌, codes, refl, sym, ap, subst, ◌∙◌, slice_get, Property, Settings, image, path_of, Node, Tree, root_alone, Change, given, IsRestricted, loaded_over, stays_numbered, kept_of, AreFiltered, ImagesRestrict, are_quiet, nowhere_is_over}
use Rattle.std.proofs.Common.{ℕ, Bool, true, false, List, [], ◌∷◌, length, Option, Some, None, option_and_then, is_some}
use Rattle.dump_trees.proofs.histories.HistoryLemmas.{history}
use Rattle.dump_trees.proofs.quiet.QuietLemmas.{all_quiet}
use Rattle.dump_trees.proofs.values.ValueParts.{including, excluding, none_more, as_it_was, entries_stay, directory, file, copy, deletion, setting, writing, property, same_directory, same_file, same_copy}

-- the premises of a dump: its revisions stay numbered, it loads, no change gives an alarm, and no copy that loses its
-- source is made over something
abbrev premises : Settings → List (List Change) → List Bool
premises settings whole = stays_numbered settings none_more whole
    ∷ is_some (loaded_over root_alone whole)
    ∷ are_quiet settings whole
    ∷ nowhere_is_over settings (root_alone ∷ []) root_alone whole ∷ []

-- what the law says of a dump and of what is written of it
abbrev HasLaw : Settings → List (List Change) → List (List Change) → Type 0
HasLaw settings whole part = (trees : List Tree) → loaded_over root_alone whole ≡ Some trees
    → (others : List Tree) × (loaded_over (given settings) part ≡ Some others)
    × (length others ≡ length (kept_of settings none_more whole).numbers)
    × ImagesRestrict settings as_it_was (image (kept_of settings none_more whole)) trees others

-- the tree of a revision
abbrev tree_in : Option (List Tree) → ℕ → Option Tree
tree_in trees number = option_and_then (λ ts. slice_get ts number) trees

-- both trees are there, and the one is the other, restricted
abbrev AreThere : Settings → Option Tree → Option Tree → Type 0
AreThere settings (Some old) (Some new) = IsRestricted settings as_it_was old new
AreThere settings _ _ = ⊥

-- if the law is true, the tree at a number's image is the restricted one
at_image : (settings : Settings) (whole part : List (List Change)) (number new : ℕ)
    → image (kept_of settings none_more whole) number ≡ Some new
    → is_some (tree_in (loaded_over root_alone whole) number) ≡ true → HasLaw settings whole part
    → AreThere settings (tree_in (loaded_over root_alone whole) number)
    (tree_in (loaded_over (given settings) part) new)
at_image settings whole part number new at_new there law = by_load (loaded_over root_alone whole) refl there
  where
    by_tree : (trees : List Tree) → loaded_over root_alone whole ≡ Some trees → (o : Option Tree)
        → slice_get trees number ≡ o → is_some o ≡ true
        → AreThere settings o (tree_in (loaded_over (given settings) part) new)
    by_tree trees loads None is some = cc
    by_tree trees loads (Some tree) is some =
        let (others, other_loads, size, images) = law trees loads in
        let (found, other, image_is, stands, restricted) = images number tree is in
        let same : new ≡ found = (let both : Some new ≡ Some found = sym at_new ∙ image_is in cc) in
        subst (λ o. AreThere settings (Some tree) o)
        (sym (ap (λ o. tree_in o new) other_loads ∙ (ap (slice_get others) same ∙ stands))) restricted

    by_load : (o : Option (List Tree)) → loaded_over root_alone whole ≡ o → is_some (tree_in o number) ≡ true
        → AreThere settings (tree_in o number) (tree_in (loaded_over (given settings) part) new)
    by_load None loads some = cc
    by_load (Some trees) loads some = by_tree trees loads (slice_get trees number) refl some

-- if the law is true and the dump loads, what is written of it loads
both_load : (settings : Settings) (whole part : List (List Change)) → is_some (loaded_over root_alone whole) ≡ true
    → HasLaw settings whole part → is_some (loaded_over (given settings) part) ≡ true
both_load settings whole part there law = by_load (loaded_over root_alone whole) refl there
  where
    by_load : (o : Option (List Tree)) → loaded_over root_alone whole ≡ o → is_some o ≡ true
        → is_some (loaded_over (given settings) part) ≡ true
    by_load None loads some = cc
    by_load (Some trees) loads some =
        let (others, other_loads, size, images) = law trees loads in ap (λ o. is_some o) other_loads

-- the whole dump is rejected, since its directory is in none; so is what is written of it

abbrev misses : List (List Change)
misses = (directory (codes "a/b") ∷ []) ∷ []

misses_is_part : AreFiltered (including (codes "a")) as_it_was none_more misses misses
misses_is_part = (
  directory (codes "a/b") ∷ [],
  [],
  refl,
  (directory (codes "a/b"), [], refl, same_directory _ _ (codes "a/b"), refl),
  refl,
)

only_misses_fails : premises (including (codes "a")) misses ≡ true ∷ false ∷ true ∷ true ∷ []
only_misses_fails = refl

misses_is_rejected : is_some (loaded_over (given (including (codes "a"))) misses) ≡ false
misses_is_rejected = refl

-- a revision is dropped, and the others aren't renumbered: the copy names a number that the filtered dump doesn't have

abbrev left_numbers : Settings
left_numbers = record (including (codes "a")) { renumber = false }

abbrev behind_dropped : List (List Change)
behind_dropped = (directory (codes "a") ∷ file (codes "a/f") (codes "1") ∷ [])
    ∷ (directory (codes "c") ∷ [])
    ∷ (file (codes "a/g") (codes "2") ∷ [])
    ∷ (copy 3 (codes "a/g") (codes "a/h") ∷ [])
    ∷ []

abbrev behind_dropped_part : List (List Change)
behind_dropped_part = (directory (codes "a") ∷ file (codes "a/f") (codes "1") ∷ [])
    ∷ (file (codes "a/g") (codes "2") ∷ [])
    ∷ (copy 3 (codes "a/g") (codes "a/h") ∷ [])
    ∷ []

behind_dropped_is_part : AreFiltered left_numbers as_it_was none_more behind_dropped behind_dropped_part
behind_dropped_is_part = (
  directory (codes "a") ∷ file (codes "a/f") (codes "1") ∷ [],
  _,
  refl,
  (
    directory (codes "a"),
    _,
    refl,
    same_directory _ _ (codes "a"),
    (file (codes "a/f") (codes "1"), [], refl, same_file _ _ (codes "a/f") (codes "1"), refl),
  ),
  (
    file (codes "a/g") (codes "2") ∷ [],
    _,
    refl,
    (file (codes "a/g") (codes "2"), [], refl, same_file _ _ (codes "a/g") (codes "2"), refl),
    (
      copy 3 (codes "a/g") (codes "a/h") ∷ [],
      [],
      refl,
      (
        copy 3 (codes "a/g") (codes "a/h"),
        [],
        refl,
        same_copy left_numbers _ 3 3 (codes "a/g") (codes "a/h") refl refl,
        refl,
      ),
      refl,
    ),
  ),
)

only_numbers_fail : premises left_numbers behind_dropped ≡ false ∷ true ∷ true ∷ true ∷ []
only_numbers_fail = refl

numbers_are_needed : ¬ HasLaw left_numbers behind_dropped behind_dropped_part
numbers_are_needed law =
    let bad : false ≡ true = both_load left_numbers behind_dropped behind_dropped_part refl law in cc

-- if the only copy after the dropped revision is excluded, the law is true without new numbers

abbrev plain_behind : List (List Change)
plain_behind = (directory (codes "a") ∷ file (codes "a/f") (codes "1") ∷ [])
    ∷ (directory (codes "c") ∷ [])
    ∷ (file (codes "a/g") (codes "2") ∷ [])
    ∷ (copy 3 (codes "a/g") (codes "c/g") ∷ [])
    ∷ []

abbrev plain_behind_part : List (List Change)
plain_behind_part = (directory (codes "a") ∷ file (codes "a/f") (codes "1") ∷ [])
    ∷ (file (codes "a/g") (codes "2") ∷ [])
    ∷ []

plain_behind_is_part : AreFiltered left_numbers as_it_was none_more plain_behind plain_behind_part
plain_behind_is_part = (
  directory (codes "a") ∷ file (codes "a/f") (codes "1") ∷ [],
  _,
  refl,
  (
    directory (codes "a"),
    _,
    refl,
    same_directory _ _ (codes "a"),
    (file (codes "a/f") (codes "1"), [], refl, same_file _ _ (codes "a/f") (codes "1"), refl),
  ),
  (
    file (codes "a/g") (codes "2") ∷ [],
    [],
    refl,
    (file (codes "a/g") (codes "2"), [], refl, same_file _ _ (codes "a/g") (codes "2"), refl),
    refl,
  ),
)

gap_has_law : HasLaw left_numbers plain_behind plain_behind_part
gap_has_law trees at = history left_numbers as_it_was entries_stay none_more plain_behind plain_behind_part trees refl at
    (all_quiet left_numbers (root_alone ∷ []) root_alone plain_behind refl refl) plain_behind_is_part

-- a copy of trunk, below which something is excluded: branch lacks it, though it is kept there

abbrev loses : List (List Change)
loses = (directory (codes "trunk") ∷ file (codes "trunk/big") (codes "1") ∷ [])
    ∷ (copy 1 (codes "trunk") (codes "branch") ∷ [])
    ∷ []

abbrev loses_part : List (List Change)
loses_part = (directory (codes "trunk") ∷ []) ∷ (copy 1 (codes "trunk") (codes "branch") ∷ []) ∷ []

loses_is_part : AreFiltered (excluding (codes "trunk/big")) as_it_was none_more loses loses_part
loses_is_part = (
  directory (codes "trunk") ∷ [],
  _,
  refl,
  (directory (codes "trunk"), [], refl, same_directory _ _ (codes "trunk"), refl),
  (
    copy 1 (codes "trunk") (codes "branch") ∷ [],
    [],
    refl,
    (
      copy 1 (codes "trunk") (codes "branch"),
      [],
      refl,
      same_copy (excluding (codes "trunk/big")) _ 1 1 (codes "trunk") (codes "branch") refl refl,
      refl,
    ),
    refl,
  ),
)

only_loses_fails : premises (excluding (codes "trunk/big")) loses ≡ true ∷ true ∷ false ∷ true ∷ []
only_loses_fails = refl

copy_loses : ¬ HasLaw (excluding (codes "trunk/big")) loses loses_part
copy_loses law = (at_image (excluding (codes "trunk/big")) loses loses_part 2 2 refl refl law).kept
    (path_of (codes "branch/big")) refl

-- a copy to tag, below which something is excluded: it comes in there

abbrev lets_in : List (List Change)
lets_in = (directory (codes "trunk") ∷ file (codes "trunk/secret") (codes "s") ∷ [])
    ∷ (copy 1 (codes "trunk") (codes "tag") ∷ [])
    ∷ []

lets_in_is_part : AreFiltered (excluding (codes "tag/secret")) as_it_was none_more lets_in lets_in
lets_in_is_part = (
  directory (codes "trunk") ∷ file (codes "trunk/secret") (codes "s") ∷ [],
  _,
  refl,
  (
    directory (codes "trunk"),
    _,
    refl,
    same_directory _ _ (codes "trunk"),
    (file (codes "trunk/secret") (codes "s"), [], refl, same_file _ _ (codes "trunk/secret") (codes "s"), refl),
  ),
  (
    copy 1 (codes "trunk") (codes "tag") ∷ [],
    [],
    refl,
    (
      copy 1 (codes "trunk") (codes "tag"),
      [],
      refl,
      same_copy (excluding (codes "tag/secret")) _ 1 1 (codes "trunk") (codes "tag") refl refl,
      refl,
    ),
    refl,
  ),
)

only_lets_in_fails : premises (excluding (codes "tag/secret")) lets_in ≡ true ∷ true ∷ false ∷ true ∷ []
only_lets_in_fails = refl

copy_lets_in : ¬ HasLaw (excluding (codes "tag/secret")) lets_in lets_in
copy_lets_in law =
    let there : Some (Node.File [] (codes "s")) ≡ None =
    (at_image (excluding (codes "tag/secret")) lets_in lets_in 2 2 refl refl law).left
    (path_of (codes "tag/secret")) refl in cc

-- a copy of an excluded file sets a text and no properties: those of its source are lost

abbrev mode : Property
mode = property (codes "svn:executable") (codes "*")

abbrev bare_copy : List (List Change)
bare_copy = (directory (codes "other") ∷ setting (mode ∷ []) (file (codes "other/f") (codes "1"))
    ∷ directory (codes "trunk") ∷ [])
    ∷ (writing (codes "2") (copy 1 (codes "other/f") (codes "trunk/f")) ∷ [])
    ∷ []

abbrev bare_copy_part : List (List Change)
bare_copy_part = (directory (codes "trunk") ∷ []) ∷ (file (codes "trunk/f") (codes "2") ∷ []) ∷ []

bare_copy_is_part : AreFiltered (including (codes "trunk")) as_it_was none_more bare_copy bare_copy_part
bare_copy_is_part = (
  directory (codes "trunk") ∷ [],
  _,
  refl,
  (directory (codes "trunk"), [], refl, same_directory _ _ (codes "trunk"), refl),
  (
    file (codes "trunk/f") (codes "2") ∷ [],
    [],
    refl,
    (
      file (codes "trunk/f") (codes "2"),
      [],
      refl,
      record { path = refl; deletes = refl; made = (refl, refl); props = tt; text = refl },
      refl,
    ),
    refl,
  ),
)

only_bare_copy_fails : premises (including (codes "trunk")) bare_copy ≡ true ∷ true ∷ false ∷ true ∷ []
only_bare_copy_fails = refl

properties_are_lost : ¬ HasLaw (including (codes "trunk")) bare_copy bare_copy_part
properties_are_lost law = ((at_image (including (codes "trunk")) bare_copy bare_copy_part 2 2 refl refl law).kept
    (path_of (codes "trunk/f")) refl).0

-- a copy of an excluded file is made over an existing file: a new file is rejected there

abbrev copy_over : List (List Change)
copy_over = (directory (codes "other") ∷ file (codes "other/f") (codes "1") ∷ directory (codes "trunk")
    ∷ file (codes "trunk/f") (codes "0") ∷ [])
    ∷ (setting [] (writing (codes "2") (copy 1 (codes "other/f") (codes "trunk/f"))) ∷ [])
    ∷ []

abbrev copy_over_part : List (List Change)
copy_over_part = (directory (codes "trunk") ∷ file (codes "trunk/f") (codes "0") ∷ [])
    ∷ (setting [] (file (codes "trunk/f") (codes "2")) ∷ [])
    ∷ []

copy_over_is_part : AreFiltered (including (codes "trunk")) as_it_was none_more copy_over copy_over_part
copy_over_is_part = (
  directory (codes "trunk") ∷ file (codes "trunk/f") (codes "0") ∷ [],
  _,
  refl,
  (
    directory (codes "trunk"),
    _,
    refl,
    same_directory _ _ (codes "trunk"),
    (file (codes "trunk/f") (codes "0"), [], refl, same_file _ _ (codes "trunk/f") (codes "0"), refl),
  ),
  (
    setting [] (file (codes "trunk/f") (codes "2")) ∷ [],
    [],
    refl,
    (
      setting [] (file (codes "trunk/f") (codes "2")),
      [],
      refl,
      record { path = refl; deletes = refl; made = (refl, refl); props = tt; text = refl },
      refl,
    ),
    refl,
  ),
)

only_copy_over_fails : premises (including (codes "trunk")) copy_over ≡ true ∷ true ∷ true ∷ false ∷ []
only_copy_over_fails = refl

new_file_is_rejected : ¬ HasLaw (including (codes "trunk")) copy_over copy_over_part
new_file_is_rejected law =
    let bad : false ≡ true = both_load (including (codes "trunk")) copy_over copy_over_part refl law in cc

-- an excluded directory above a prefix is deleted: what is kept below it stays

abbrev takes : List (List Change)
takes = (directory (codes "a") ∷ directory (codes "a/b") ∷ []) ∷ (deletion (codes "a") ∷ []) ∷ []

abbrev takes_part : List (List Change)
takes_part = (directory (codes "a/b") ∷ []) ∷ []

takes_is_part : AreFiltered (including (codes "a/b")) as_it_was none_more takes takes_part
takes_is_part = (
  directory (codes "a/b") ∷ [],
  [],
  refl,
  (directory (codes "a/b"), [], refl, same_directory _ _ (codes "a/b"), refl),
  refl,
)

only_takes_fails : premises (including (codes "a/b")) takes ≡ true ∷ true ∷ false ∷ true ∷ []
only_takes_fails = refl

directory_stays : ¬ HasLaw (including (codes "a/b")) takes takes_part
directory_stays law = (at_image (including (codes "a/b")) takes takes_part 2 1 refl refl law).kept
    (path_of (codes "a/b")) refl

-- an excluded directory above a prefix is a copy: what it brings isn't there

abbrev brings : List (List Change)
brings = (directory (codes "y") ∷ directory (codes "y/b") ∷ []) ∷ (copy 1 (codes "y") (codes "a") ∷ []) ∷ []

brings_is_part : AreFiltered (including (codes "a/b")) as_it_was none_more brings []
brings_is_part = refl

only_brings_fails : premises (including (codes "a/b")) brings ≡ true ∷ true ∷ false ∷ true ∷ []
only_brings_fails = refl

directory_is_missing : ¬ HasLaw (including (codes "a/b")) brings []
directory_is_missing law = (at_image (including (codes "a/b")) brings [] 2 0 refl refl law).kept
    (path_of (codes "a/b")) refl
