-- Examples of what the filter leaves. Each shows that a definition of a restricted tree, or of what the filter writes,
-- differs from a weaker or a stronger one.
use Rattle.dump_trees.proofs.Prelude.{◌≡◌, bytes_eq, codes, refl, ap, Property, Exclude, Settings, path_of, path_text, is_short, Node, Tree, put, root_alone, Made, TextChange, Change, given, IsNewNode, IsRestricted, IsNewChange, AreNewChanges, AreNewRevisions}
use Rattle.std.proofs.Common.{ℕ, true, false, List, [], ◌∷◌, Some, None, is_some}
use Rattle.dump_trees.proofs.values.ValueParts.{including_all, including, excluding, none_more, as_it_was, change, directory, file, copy, deletion, setting, editing, writing, patching, property}

-- two texts differ, and so do two lists of properties
differs : codes "1" ≡ codes "2" → ⊥
differs same = absurd (let bad : true ≡ false = ap (λ t. bytes_eq t (codes "1")) same in cc)

abbrev one : Property
one = property (codes "p") (codes "1")

some_none : (ps : List Property) (p : Property) → p ∷ ps ≡ [] → ⊥
some_none ps p same = absurd (let bad : p ∷ ps ≡ [] = same in cc)

none_some : (ps : List Property) (p : Property) → [] ≡ p ∷ ps → ⊥
none_some ps p same = absurd (let bad : [] ≡ p ∷ ps = same in cc)

-- canonical forms

short : is_short (codes "/trunk/a.b") ≡ true
short = refl

short_root : is_short [] ≡ true
short_root = refl

twice_a_slash : is_short (codes "trunk//a") ≡ false
twice_a_slash = refl

slash_at_the_end : is_short (codes "trunk/") ≡ false
slash_at_the_end = refl

dot : is_short (codes "trunk/./a") ≡ false
dot = refl

-- the parent directories

given_root : given (including (codes "a/b/c")) [] ≡ Some (Node.Directory [])
given_root = refl

given_far : given (including (codes "a/b/c")) (path_of (codes "a")) ≡ Some (Node.Directory [])
given_far = refl

given_near : given (including (codes "a/b/c")) (path_of (codes "a/b")) ≡ Some (Node.Directory [])
given_near = refl

not_given_prefix : given (including (codes "a/b/c")) (path_of (codes "a/b/c")) ≡ None
not_given_prefix = refl

not_given_below : given (including (codes "a/b/c")) (path_of (codes "a/b/c/d")) ≡ None
not_given_below = refl

not_given_beside : given (including (codes "a/b/c")) (path_of (codes "a/x")) ≡ None
not_given_beside = refl

not_given_longer : given (including (codes "a/bb")) (path_of (codes "a/b")) ≡ None
not_given_longer = refl

not_given_kept : given (including_all (codes "a" ∷ codes "a/b" ∷ [])) (path_of (codes "a")) ≡ None
not_given_kept = refl

given_exclude_root : given (excluding (codes "a/b")) [] ≡ Some (Node.Directory [])
given_exclude_root = refl

not_given_exclude : given (excluding (codes "a/b/c")) (path_of (codes "a/b")) ≡ None
not_given_exclude = refl

not_given_above_excluded : given (record (including_all (codes "a" ∷ codes "a/b" ∷ [])) { side = Exclude })
    (path_of (codes "a")) ≡ None
not_given_above_excluded = refl

not_given_excluded : given (excluding (codes "a/b")) (path_of (codes "a/b")) ≡ None
not_given_excluded = refl

-- nodes of the two trees

other_kind : IsNewNode as_it_was (Some (Node.Directory [])) (Some (Node.File [] [])) → ⊥
other_kind new = new

kind_of_file : IsNewNode as_it_was (Some (Node.File [] [])) (Some (Node.Directory [])) → ⊥
kind_of_file new = new

other_text : IsNewNode as_it_was (Some (Node.File [] (codes "2"))) (Some (Node.File [] (codes "1"))) → ⊥
other_text new = differs new.1

file_properties : IsNewNode as_it_was (Some (Node.File [] (codes "1"))) (Some (Node.File (one ∷ []) (codes "1"))) → ⊥
file_properties new = new.0

file_without : IsNewNode as_it_was (Some (Node.File (one ∷ []) (codes "1"))) (Some (Node.File [] (codes "1"))) → ⊥
file_without new = new.0

directory_properties : IsNewNode as_it_was (Some (Node.Directory [])) (Some (Node.Directory (one ∷ []))) → ⊥
directory_properties new = new

directory_without : IsNewNode as_it_was (Some (Node.Directory (one ∷ []))) (Some (Node.Directory [])) → ⊥
directory_without new = new

something_new : IsNewNode as_it_was None (Some (Node.Directory [])) → ⊥
something_new new = new

nothing_left : IsNewNode as_it_was (Some (Node.File [] [])) None → ⊥
nothing_left new = new

same_node : IsNewNode as_it_was (Some (Node.File (one ∷ []) (codes "1"))) (Some (Node.File (one ∷ []) (codes "1")))
same_node = ((refl, tt), refl)

-- restricted trees

-- a tree with this text in the one file
abbrev tree_with : List ℕ → Tree
tree_with text = put (path_of (codes "f")) (Node.File [] text) root_alone

not_the_text : IsRestricted (including (codes "f")) as_it_was (tree_with (codes "2")) (tree_with (codes "1")) → ⊥
not_the_text r = differs (r.kept (path_of (codes "f")) refl).1

left_there : IsRestricted (excluding (codes "f")) as_it_was (tree_with (codes "1")) (tree_with (codes "1")) → ⊥
left_there r = absurd (let bad : true ≡ false = ap (λ o. is_some o) (r.left (path_of (codes "f")) refl) in cc)

not_taken : IsRestricted (including (codes "f")) as_it_was (tree_with (codes "1")) root_alone → ⊥
not_taken r = r.kept (path_of (codes "f")) refl

not_given : IsRestricted (including (codes "a/f")) as_it_was root_alone root_alone → ⊥
not_given r = absurd (let bad : false ≡ true = ap (λ o. is_some o) (r.left (path_of (codes "a")) refl) in cc)

given_with_properties : IsRestricted (including (codes "f")) as_it_was (put [] (Node.Directory (one ∷ [])) root_alone)
    (put [] (Node.Directory (one ∷ [])) root_alone) → ⊥
given_with_properties r =
    some_none [] one (let same : Some (Node.Directory (one ∷ [])) ≡ Some (Node.Directory []) = r.left [] refl in
    let props : one ∷ [] ≡ [] = cc in props)

-- what the filter writes of a change

-- any number
abbrev any_number : ℕ → ℕ → Type 0
any_number old new = Rattle.std.specs.Prelude.⊤

abbrev IsNew : Settings → Change → Change → Type 0
IsNew settings old new = IsNewChange settings as_it_was any_number old new

other_path : IsNew (including (codes "a")) (deletion (codes "a/f")) (deletion (codes "a")) → ⊥
other_path new = absurd (let bad : false ≡ true = ap (λ p. bytes_eq (path_text p) (codes "/a/f")) new.path in cc)

not_deleting : IsNew (including (codes "a")) (deletion (codes "a/f")) (change (codes "a/f")) → ⊥
not_deleting new = absurd (let bad : false ≡ true = new.deletes in cc)

text_dropped : IsNew (including (codes "a")) (file (codes "a/f") (codes "1"))
    (record (file (codes "a/f") (codes "1")) { text = None }) → ⊥
text_dropped new = absurd (let bad : None ≡ Some (TextChange.Replaced (codes "1")) = new.text in cc)

properties_dropped : IsNew (including (codes "a")) (setting (one ∷ []) (change (codes "a"))) (change (codes "a")) → ⊥
properties_dropped new = new.props

properties_added : IsNew (including (codes "a")) (change (codes "a")) (setting [] (change (codes "a"))) → ⊥
properties_added new = new.props

other_properties : IsNew (including (codes "a")) (setting (one ∷ []) (change (codes "a")))
    (setting [] (change (codes "a"))) → ⊥
other_properties new = new.props

edits_become_whole : IsNew (including (codes "a")) (editing (one ∷ []) (change (codes "a")))
    (setting (one ∷ []) (change (codes "a"))) → ⊥
edits_become_whole new = new.props

whole_becomes_edits : IsNew (including (codes "a")) (setting (one ∷ []) (change (codes "a")))
    (editing (one ∷ []) (change (codes "a"))) → ⊥
whole_becomes_edits new = new.props

other_edits : IsNew (including (codes "a")) (editing (one ∷ []) (change (codes "a")))
    (editing [] (change (codes "a"))) → ⊥
other_edits new = new.props

directory_of_file : IsNew (including (codes "a")) (record (change (codes "a")) { made = Some Made.NewFile })
    (directory (codes "a")) → ⊥
directory_of_file new = new.made

nothing_made : IsNew (including (codes "a")) (directory (codes "a")) (change (codes "a")) → ⊥
nothing_made new = new.made

-- copies of what isn't kept, and of what is

stays_a_copy : IsNew (including (codes "a")) (writing (codes "1") (copy 1 (codes "c/f") (codes "a/f")))
    (writing (codes "1") (copy 1 (codes "c/f") (codes "a/f"))) → ⊥
stays_a_copy new = absurd (let bad : false ≡ true = new.made.0 in cc)

without_text : IsNew (including (codes "a")) (copy 1 (codes "c/f") (codes "a/f"))
    (record (change (codes "a/f")) { made = Some Made.NewFile }) → ⊥
without_text new = absurd (let bad : false ≡ true = new.made.1 in cc)

-- a copy that loses its source may keep neither edits of its properties nor a text delta

lost_edits : IsNew (including (codes "a")) (editing [] (writing (codes "1") (copy 1 (codes "c/f") (codes "a/f"))))
    (editing [] (file (codes "a/f") (codes "1"))) → ⊥
lost_edits new = absurd (let bad : false ≡ true = new.made.1 in cc)

lost_patch : IsNew (including (codes "a"))
    (setting [] (patching (λ old. Some old) (copy 1 (codes "c/f") (codes "a/f"))))
    (setting [] (patching (λ old. Some old) (record (change (codes "a/f")) { made = Some Made.NewFile }))) → ⊥
lost_patch new = absurd (let bad : false ≡ true = new.made.1 in cc)

plain_of_kept : IsNew (including (codes "a")) (writing (codes "1") (copy 1 (codes "a/g") (codes "a/f")))
    (file (codes "a/f") (codes "1"))
    → ⊥
plain_of_kept new = absurd (let bad : true ≡ false = new.made.0 in cc)

directory_of_lost : IsNew (including (codes "a")) (writing (codes "1") (copy 1 (codes "c/f") (codes "a/f")))
    (writing (codes "1") (directory (codes "a/f"))) → ⊥
directory_of_lost new = new.made

other_source : IsNew (including (codes "a")) (copy 1 (codes "a/g") (codes "a/f")) (copy 1 (codes "a/h") (codes "a/f"))
    → ⊥
other_source new = absurd (let bad : false ≡ true = ap (λ p. bytes_eq (path_text p) (codes "/a/g")) new.made.2 in cc)

other_number : IsNewChange (including (codes "a")) as_it_was (λ old new. new ≡ old) (copy 2 (codes "a/g") (codes "a/f"))
    (copy 1 (codes "a/g") (codes "a/f")) → ⊥
other_number new = absurd (let bad : 1 ≡ 2 = new.made.1 in cc)

plain_of_lost : IsNew (including (codes "a")) (writing (codes "1") (copy 1 (codes "c/f") (codes "a/f")))
    (file (codes "a/f") (codes "1"))
plain_of_lost = record { path = refl; deletes = refl; made = (refl, refl); props = tt; text = refl }

-- what is written of the changes of a revision, and of revisions

dropped_is_written : AreNewChanges (including (codes "a")) as_it_was any_number (directory (codes "c") ∷ [])
    (directory (codes "c") ∷ []) → ⊥
dropped_is_written new = absurd (let bad : directory (codes "c") ∷ [] ≡ [] = new in cc)

kept_is_left_out : AreNewChanges (including (codes "a")) as_it_was any_number (directory (codes "a") ∷ []) [] → ⊥
kept_is_left_out new = absurd (let bad : [] ≡ new.0 ∷ new.1 = new.2 in cc)

more_is_written : AreNewChanges (including (codes "a")) as_it_was any_number [] (directory (codes "a") ∷ []) → ⊥
more_is_written new = absurd (let bad : directory (codes "a") ∷ [] ≡ [] = new in cc)

empty_is_written : AreNewRevisions (including (codes "a")) as_it_was any_number none_more
    ((directory (codes "c") ∷ []) ∷ []) ([] ∷ []) → ⊥
empty_is_written new = absurd (let bad : [] ∷ [] ≡ [] = new in cc)

empty_is_kept : AreNewRevisions (including (codes "a")) as_it_was any_number (λ changes. true)
    ((directory (codes "c") ∷ []) ∷ []) [] → ⊥
empty_is_kept new = absurd (let bad : [] ≡ new.0 ∷ new.1 = new.2 in cc)
