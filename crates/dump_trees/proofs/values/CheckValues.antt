-- Examples of the load check: what kinds allow, and where a load rejects a dump first.
use Rattle.dump_trees.proofs.Prelude.{◌≡◌, not, AllZip, codes, refl, ap, option_map, slice_get, path_of, Tree, root_alone, Change, History, step, loaded_over}
use Rattle.std.proofs.Common.{ℕ, true, false, List, [], ◌∷◌, length, Option, Some, None, is_some}
use Rattle.dump_trees.specs.steps.Looking.{Placed, placed_from, look}
use Rattle.dump_trees.specs.steps.LoadCheck.{patches_text, HasSameKinds, IsRejectedAt, Kind, kind_of_node, Kinds, kinds_allow, kinds_before, node_set, delta_applies, ToldKinds, TellsKinds, allowed_there, all_allowed, all_apply}
use Rattle.dump_trees.proofs.cuts.CheckedLoads.{first_rejection_is_there}
use Rattle.dump_trees.proofs.cuts.PlainLooks.{plain_looks_tell_kinds}
use Rattle.dump_trees.proofs.values.ValueParts.{change, directory, file, copy, deletion, replacing, setting, editing, writing, patching, property}

-- one change

-- what exists at its path, at its parent and at its copy's source
abbrev where_is : Option Kind → Option Kind → Option Kind → Kinds
where_is here parent source = record { here = here; parent = parent; source = source }

abbrev dir : Option Kind
dir = Some Kind.Directory

abbrev reg : Option Kind
reg = Some Kind.File

new_over_nothing : kinds_allow (directory (codes "a")) (where_is None dir None) ≡ true
new_over_nothing = refl

not_over_something : kinds_allow (directory (codes "a")) (where_is dir dir None) ≡ false
not_over_something = refl

over_what_it_deletes : kinds_allow (replacing (directory (codes "a"))) (where_is reg dir None) ≡ true
over_what_it_deletes = refl

not_in_a_file : kinds_allow (file (codes "a/f") (codes "1")) (where_is None reg None) ≡ false
not_in_a_file = refl

not_in_nothing : kinds_allow (file (codes "a/f") (codes "1")) (where_is None None None) ≡ false
not_in_nothing = refl

no_new_root : kinds_allow (directory []) (where_is None None None) ≡ false
no_new_root = refl

deletes_what_exists : kinds_allow (deletion (codes "a")) (where_is reg dir None) ≡ true
deletes_what_exists = refl

not_what_doesnt : kinds_allow (deletion (codes "a")) (where_is None dir None) ≡ false
not_what_doesnt = refl

not_the_root : kinds_allow (deletion []) (where_is dir None None) ≡ false
not_the_root = refl

-- a copy may be over something, and so a load takes it
copies_over : kinds_allow (copy 1 (codes "a") (codes "b")) (where_is dir dir reg) ≡ true
copies_over = refl

not_from_nothing : kinds_allow (copy 1 (codes "a") (codes "b")) (where_is None dir None) ≡ false
not_from_nothing = refl

not_into_a_file : kinds_allow (copy 1 (codes "a") (codes "b/c")) (where_is None reg reg) ≡ false
not_into_a_file = refl

-- the text of a copy depends on what is copied, and not on what was there
text_of_the_source : kinds_allow (writing (codes "1") (copy 1 (codes "a") (codes "b"))) (where_is dir dir reg) ≡ true
text_of_the_source = refl

not_of_a_directory : kinds_allow (writing (codes "1") (copy 1 (codes "a") (codes "b"))) (where_is reg dir dir) ≡ false
not_of_a_directory = refl

not_what_is_deleted : kinds_allow (writing (codes "1") (deletion (codes "a"))) (where_is reg dir None) ≡ false
not_what_is_deleted = refl

sets_on_the_root : kinds_allow (setting (property (codes "p") (codes "v") ∷ []) (change [])) (where_is dir None None) ≡ true
sets_on_the_root = refl

sets_on_nothing : kinds_allow (setting [] (change (codes "a"))) (where_is None dir None) ≡ false
sets_on_nothing = refl

-- an edit without entries, and a change that does nothing, are taken anywhere
edits_nothing : kinds_allow (editing [] (change (codes "a"))) (where_is None None None) ≡ true
edits_nothing = refl

edits_something : kinds_allow (editing (property (codes "p") (codes "v") ∷ []) (change (codes "a"))) (where_is None dir None)
    ≡ false
edits_something = refl

does_nothing : kinds_allow (change (codes "a/b")) (where_is None None None) ≡ true
does_nothing = refl

-- kinds don't determine whether the load rejects a delta

abbrev no_history : History
no_history number = None

abbrev with_file : Tree
with_file path = look root_alone (placed_from 1 ((file (codes "f") (codes "1") ∷ []) ∷ [])) 1 path

abbrev rejected_delta : Change
rejected_delta = patching (λ old. None) (change (codes "f"))

kinds_allow_it : kinds_allow rejected_delta (kinds_before no_history with_file rejected_delta) ≡ true
kinds_allow_it = refl

does_not_apply : delta_applies rejected_delta.text (node_set no_history with_file rejected_delta) ≡ false
does_not_apply = refl

so_it_is_rejected : is_some (step no_history with_file rejected_delta) ≡ false
so_it_is_rejected = refl

-- a dump of it: its kinds are allowed, and its delta doesn't apply
abbrev with_delta : List Placed
with_delta = placed_from 1 ((file (codes "f") (codes "1") ∷ []) ∷ (rejected_delta ∷ []) ∷ [])

all_kinds_allow : all_allowed (λ count path. option_map kind_of_node (look root_alone with_delta count path)) with_delta 2 ≡ true
all_kinds_allow = refl

not_all_apply : all_apply root_alone with_delta 2 ≡ false
not_all_apply = refl

the_first_applies : all_apply root_alone with_delta 1 ≡ true
the_first_applies = refl

-- a dump

-- a directory is deleted, and then copied from a revision that still has it; then a copy of it from one that doesn't
abbrev whole : List (List Change)
whole =
    (directory (codes "a") ∷ file (codes "a/f") (codes "1") ∷ [])
    ∷ (deletion (codes "a") ∷ [])
    ∷ (copy 1 (codes "a") (codes "b") ∷ writing (codes "2") (change (codes "b/f")) ∷ copy 2 (codes "a") (codes "c") ∷ [])
    ∷ (deletion (codes "b") ∷ [])
    ∷ []

abbrev placed : List Placed
placed = placed_from 1 whole

abbrev told : ToldKinds
told count path = option_map kind_of_node (look root_alone placed count path)

first_five : all_allowed told placed 5 ≡ true
first_five = refl

not_the_sixth : all_allowed told placed 6 ≡ false
not_the_sixth = refl

nor_all : all_allowed told placed (length placed) ≡ false
nor_all = refl

as_it_loads : is_some (loaded_over root_alone whole) ≡ false
as_it_loads = refl

-- each source is looked up at the end of its revision, and not before the copy
where_it_was : allowed_there told placed 3 (slice_get placed 3) ≡ true
where_it_was = refl

-- a copy of its own revision is rejected
own_revision : all_allowed
    (λ count path. option_map kind_of_node (look root_alone
    (placed_from 1 ((directory (codes "a") ∷ copy 1 (codes "a") (codes "b") ∷ []) ∷ [])) count path))
    (placed_from 1 ((directory (codes "a") ∷ copy 1 (codes "a") (codes "b") ∷ []) ∷ [])) 2 ≡ false
own_revision = refl

-- a function that finds a directory at each path doesn't find what exists
everywhere_is_wrong : TellsKinds (λ count path. dir) root_alone placed → ⊥
everywhere_is_wrong tells =
    absurd (let bad : true ≡ false
    = ap (λ o. is_some o)
    (tells [] placed (root_alone ∷ []) root_alone (path_of (codes "x")) refl refl refl refl) in cc)

-- plain changes

-- the same changes, with no properties and with other texts
abbrev plain : List Placed
plain = placed_from 1
    ((directory (codes "a") ∷ file (codes "a/f") [] ∷ [])
    ∷ (deletion (codes "a") ∷ [])
    ∷ (copy 1 (codes "a") (codes "b") ∷ writing [] (change (codes "b/f")) ∷ copy 2 (codes "a") (codes "c") ∷ [])
    ∷ (deletion (codes "b") ∷ [])
    ∷ [])

same : (number : ℕ) (c d : Change) → d.path ≡ c.path → d.deletes ≡ c.deletes → d.made ≡ c.made
    → is_some d.props ≡ is_some c.props → is_some d.text ≡ is_some c.text → not (patches_text d.text) ≡ true
    → HasSameKinds record { revision = number; change = c } record { revision = number; change = d }
same number c d path deletes made props text is_whole = record {
  revision = refl;
  path = path;
  deletes = deletes;
  made = made;
  props = props;
  text = text;
  whole = is_whole;
}

are_plain : AllZip HasSameKinds placed plain
are_plain = (
  same 1 (directory (codes "a")) (directory (codes "a")) refl refl refl refl refl refl,
  (
    same 1 (file (codes "a/f") (codes "1")) (file (codes "a/f") []) refl refl refl refl refl refl,
    (
      same 2 (deletion (codes "a")) (deletion (codes "a")) refl refl refl refl refl refl,
      (
        same 3 (copy 1 (codes "a") (codes "b")) (copy 1 (codes "a") (codes "b")) refl refl refl refl refl refl,
        (
          same 3 (writing (codes "2") (change (codes "b/f"))) (writing [] (change (codes "b/f"))) refl refl refl refl
              refl refl,
          (
            same 3 (copy 2 (codes "a") (codes "c")) (copy 2 (codes "a") (codes "c")) refl refl refl refl refl
                refl,
            (same 4 (deletion (codes "b")) (deletion (codes "b")) refl refl refl refl refl refl, tt),
          ),
        ),
      ),
    ),
  ),
)

plain_tells : TellsKinds (λ count path. option_map kind_of_node (look root_alone plain count path)) root_alone placed
plain_tells = plain_looks_tell_kinds root_alone placed plain are_plain

-- a change that makes a directory has another effect than one that makes a file
another_kind : HasSameKinds record { revision = 1; change = directory (codes "a") }
    record { revision = 1; change = writing [] (directory (codes "a")) } → ⊥
another_kind s = absurd (let bad : true ≡ false = s.text in cc)

-- and a delta may be rejected
a_delta : HasSameKinds record { revision = 1; change = rejected_delta } record { revision = 1; change = rejected_delta } → ⊥
a_delta s = absurd (let bad : false ≡ true = s.whole in cc)

-- the sixth change of the dump is rejected, and so is the dump
sixth_rejected : IsRejectedAt root_alone whole 5 (copy 2 (codes "a") (codes "c"))
sixth_rejected =
    first_rejection_is_there (λ count path. option_map kind_of_node (look root_alone plain count path)) root_alone whole placed
    5 (record { revision = 3; change = copy 2 (codes "a") (codes "c") }) refl refl plain_tells refl refl refl

-- no change of a dump that loads is rejected
none_is_rejected : IsRejectedAt root_alone ((directory (codes "a") ∷ []) ∷ []) 0 (directory (codes "a")) → ⊥
none_is_rejected r = absurd (let bad : true ≡ false = ap (λ o. is_some o) r.none in cc)
