-- The law of quiet dumps, applied to the example dump.
use Rattle.dump_history.proofs.Prelude.{◌≡◌, None, refl, ap, ◌∙◌, image, kept_revisions, path_of, Node, Tree, Patching, LoadsRestricted, slice_get, given, IsNewNode, IsNewProperty}
use Rattle.std.proofs.Common.{List, [], Some, codes}
use Rattle.dump_history.proofs.restricted.FilteredLaw.{quiet_dump_restricts}
use Rattle.dump_history.proofs.values.WorkedDump.{records, dump, settings, revisions, trees, loads, third_tree}
use Rattle.dump_history.proofs.values.WorkedFilter.{text, clean, lengths}

-- the law applies: what is written loads over the root, and has the restricted trees
restricts : (patched : Patching) → LoadsRestricted patched settings records trees text
restricts patched =
    quiet_dump_restricts patched settings dump text records revisions trees clean lengths tt (loads patched) refl refl

-- revision 3 of the dump is at 2, and dropped revision 2 is at 1
image_of_copy : image (kept_revisions settings records) 3 ≡ Some 2
image_of_copy = refl

image_of_dropped : image (kept_revisions settings records) 2 ≡ Some 1
image_of_dropped = refl

-- the copy exists in the whole dump's last tree, and so in the one that is loaded again
copy_stands : third_tree (path_of (codes "trunk/b")) ≡ Some (Node.Directory [])
copy_stands = refl

other_stands : third_tree (path_of (codes "other")) ≡ Some (Node.Directory [])
other_stands = refl

-- no parent directory is at the path of the excluded directory
other_left : given settings (path_of (codes "other")) ≡ None
other_left = refl

-- every delta is rejected
abbrev refused : Patching
refused delta old = None

-- so in revision 2 of the repository that it is loaded into, the copy exists, and the excluded directory doesn't
in_revision_2 : (others : List Tree) × (tree : Tree) × (slice_get others 2 ≡ Some tree)
    × IsNewNode (IsNewProperty settings (kept_revisions settings records)) (Some (Node.Directory []))
    (tree (path_of (codes "trunk/b")))
    × (tree (path_of (codes "other")) ≡ None)
in_revision_2 =
    let (again, written, others, has, loads_again, no_gap, size, images, keep) = restricts refused in
    let (new, tree, image_is, stands, restricted) = images 3 third_tree refl in
    let at : 2 ≡ new = (let both : Some 2 ≡ Some new = image_is in cc) in (
      others,
      tree,
      ap (slice_get others) at ∙ stands,
      restricted.kept (path_of (codes "trunk/b")) refl,
      restricted.left (path_of (codes "other")) refl,
    )
