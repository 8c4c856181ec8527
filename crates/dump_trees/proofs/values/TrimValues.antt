-- Examples of copies that stay, with deletions after them.
use Rattle.dump_trees.proofs.Prelude.{◌≡◌, codes, refl, sym, ap, ◌∙◌, subst, at_top, inl, inr, bytes_eq, cond, AllZip, slice_get, path_of, NodePath, keeps, Node, Tree, put, grafted, root_alone, Made, Change, History, steps, list_any, below, loaded_over, IsRestricted, is_quiet, is_over}
use Rattle.std.proofs.Common.{ℕ, Bool, true, false, ◌||◌, List, [], ◌∷◌, ◌++◌, Option, Some, None, option_and_then, is_some, is_none}
use Rattle.dump_trees.specs.steps.Expansions.{Expands}
use Rattle.dump_trees.specs.steps.ComingBack.{ComesBack}
use Rattle.dump_trees.specs.steps.Trimming.{CoverTaken, IsTrimmed, IsSameNumber, AreTrimmedRevisions}
use Rattle.dump_trees.proofs.quiet.QuietLemmas.{quiet_separates}
use Rattle.dump_trees.proofs.expansions.TrimmedHistories.{trimmed_history}
use Rattle.dump_trees.proofs.values.ValueParts.{as_it_was, entries_stay, directory, file, copy, deletion, excluding, same_directory, same_file, same_copy, node_at}

-- a directory with a file
abbrev old : Tree
old = put (path_of (codes "a/s")) (Node.File [] (codes "1")) (put (path_of (codes "a")) (Node.Directory []) root_alone)

abbrev history : History
history number = Some old

-- a copy that the cut doesn't take whole is no expansion of itself, since it isn't separated
not_itself : Expands (excluding (codes "b/s")) history (put (path_of (codes "a")) (Node.Directory []) root_alone)
    (copy 1 (codes "a") (codes "b")) (copy 1 (codes "a") (codes "b") ∷ []) → ⊥
not_itself expands =
    let leads = expands (grafted (path_of (codes "b")) (λ rest. old (path_of (codes "a") ++ rest))
    (put (path_of (codes "a")) (Node.Directory []) root_alone)) refl in
    let apart = (leads.apart (grafted (path_of (codes "b")) (λ rest. old (path_of (codes "a") ++ rest))
    (put (path_of (codes "a")) (Node.Directory []) root_alone)) refl).0 in
    absurd (let bad : false ≡ true = apart.copy refl 1 (path_of (codes "a")) refl refl old refl (path_of (codes "s"))
    (Node.File [] (codes "1")) refl in cc)

-- copies that are trimmed

-- a load that adds the file with a text puts it there twice
abbrev first_tree : Tree
first_tree = put (path_of (codes "a/s")) (Node.File [] (codes "1"))
    (put (path_of (codes "a/s")) (Node.File [] []) (put (path_of (codes "a")) (Node.Directory []) root_alone))

-- the file is deleted
goes : CoverTaken (excluding (codes "b/s")) first_tree (path_of (codes "b")) (path_of (codes "a")) (path_of (codes "s") ∷ [])
goes = record { kept = refl; left = refl; stand = refl; apart = refl; all = all }
  where
    named : (name : List ℕ) (rest : NodePath) (b : Bool) → bytes_eq (codes "s") name ≡ b
        → is_some (first_tree (path_of (codes "a") ++ name ∷ rest)) ≡ true
        → list_any (λ other. is_some (below other (name ∷ rest))) (path_of (codes "s") ∷ []) ≡ true
    named name rest true same some = subst (λ b. (is_some (cond b (Some rest) None) || false) ≡ true) (sym same) refl
    named name rest false apart some =
        absurd (let bad : false ≡ true
        = subst (λ b. is_some (at_top (cond b (below [] rest) None) (Node.File [] (codes "1"))
        (at_top (cond b (below [] rest) None) (Node.File [] []) None)) ≡ true) apart some in cc)

    all : (rest : NodePath) → is_some (first_tree (path_of (codes "a") ++ rest)) ≡ true
        → keeps (excluding (codes "b/s")) (path_of (codes "a") ++ rest) ≡ true
        → keeps (excluding (codes "b/s")) (path_of (codes "b") ++ rest) ≡ false
        → list_any (λ other. is_some (below other rest)) (path_of (codes "s") ∷ []) ≡ true
    all [] some kept left = absurd (let bad : true ≡ false = left in cc)
    all (name ∷ rest) some kept left = named name rest (bytes_eq (codes "s") name) refl some

-- it has to be deleted
left_there : CoverTaken (excluding (codes "b/s")) old (path_of (codes "b")) (path_of (codes "a")) [] → ⊥
left_there cover = absurd (let bad : false ≡ true = cover.all (path_of (codes "s")) refl refl refl in cc)

-- and nothing else is
kept_goes : CoverTaken (excluding (codes "b/t")) old (path_of (codes "b")) (path_of (codes "a"))
    (path_of (codes "s") ∷ []) → ⊥
kept_goes cover = absurd (let bad : false ≡ true = cover.left in cc)

nothing_goes : CoverTaken (excluding (codes "b/t")) old (path_of (codes "b")) (path_of (codes "a"))
    (path_of (codes "t") ∷ []) → ⊥
nothing_goes cover = absurd (let bad : false ≡ true = cover.stand in cc)

-- each path is deleted once
not_twice : CoverTaken (excluding (codes "b/s")) old (path_of (codes "b")) (path_of (codes "a"))
    (path_of (codes "s") ∷ path_of (codes "s") ∷ []) → ⊥
not_twice cover = absurd (let bad : false ≡ true = cover.apart in cc)

-- what is excluded at the source too isn't copied in what is filtered, so nothing of it is deleted
not_taken : CoverTaken (record (excluding (codes "b/s")) { prefixes = codes "a/s" ∷ codes "b/s" ∷ [] }) old
    (path_of (codes "b")) (path_of (codes "a")) (path_of (codes "s") ∷ []) → ⊥
not_taken cover = absurd (let bad : false ≡ true = cover.kept in cc)

-- the copy, and the deletion after it
abbrev trimmed : List ℕ → Option Node
trimmed path = option_and_then (λ tree. tree (path_of path))
    (steps history old (copy 1 (codes "a") (codes "b") ∷ deletion (codes "b/s") ∷ []))

directory_stays : trimmed (codes "b") ≡ Some (Node.Directory [])
directory_stays = refl

file_goes : trimmed (codes "b/s") ≡ None
file_goes = refl

source_stays : trimmed (codes "a/s") ≡ Some (Node.File [] (codes "1"))
source_stays = refl

-- before the copy it can't be deleted
not_before : is_none (steps history old (deletion (codes "b/s") ∷ copy 1 (codes "a") (codes "b") ∷ [])) ≡ true
not_before = refl

-- a whole history

-- a directory with a file, and a copy of it, in which the file is excluded
abbrev whole : List (List Change)
whole = (directory (codes "a") ∷ file (codes "a/s") (codes "1") ∷ []) ∷ (copy 1 (codes "a") (codes "b") ∷ []) ∷ []

-- the copy stays, and the file is deleted after it
abbrev written : List (List Change)
written = (directory (codes "a") ∷ file (codes "a/s") (codes "1") ∷ [])
    ∷ (copy 1 (codes "a") (codes "b") ∷ deletion (codes "b/s") ∷ []) ∷ []

abbrev second_tree : Tree
second_tree = grafted (path_of (codes "b")) (λ rest. first_tree (path_of (codes "a") ++ rest)) first_tree

nothing_back : ComesBack (excluding (codes "b/s")) (slice_get (root_alone ∷ first_tree ∷ []))
    (copy 1 (codes "a") (codes "b")) → ⊥
nothing_back b =
    let source : path_of (codes "a") ≡ b.source =
    (let both : Some (Made.Copied 1 (path_of (codes "a"))) ≡ Some (Made.Copied b.number b.source) = b.copies in cc) in
    absurd (let bad : true ≡ false
    = subst (λ p. keeps (excluding (codes "b/s")) (p ++ b.rest) ≡ false) (sym source) b.left in cc)

-- a change that stays, and has nothing after it
stays_alone : (history : History) (before : Tree) (c : Change) → is_quiet (excluding (codes "b/s")) c ≡ true
    → is_over (excluding (codes "b/s")) before c ≡ false → IsTrimmed (excluding (codes "b/s")) history before c []
stays_alone history before c quiet over =
    inl (refl, λ after at. quiet_separates (excluding (codes "b/s")) history before after c quiet over at)

are_trimmed : AreTrimmedRevisions (excluding (codes "b/s")) as_it_was (root_alone ∷ []) root_alone whole written
are_trimmed = (
  directory (codes "a") ∷ file (codes "a/s") (codes "1") ∷ [],
  (copy 1 (codes "a") (codes "b") ∷ deletion (codes "b/s") ∷ []) ∷ [],
  refl,
  (
    directory (codes "a"),
    [],
    file (codes "a/s") (codes "1") ∷ [],
    refl,
    same_directory _ _ (codes "a"),
    stays_alone (slice_get (root_alone ∷ [])) root_alone (directory (codes "a")) refl refl,
    λ after at. (
      file (codes "a/s") (codes "1"),
      [],
      [],
      refl,
      same_file _ _ (codes "a/s") (codes "1"),
      stays_alone (slice_get (root_alone ∷ [])) after (file (codes "a/s") (codes "1")) refl refl,
      λ last is. refl,
    ),
  ),
  λ tree at. subst (λ t. AreTrimmedRevisions (excluding (codes "b/s")) as_it_was (root_alone ∷ t ∷ []) t
      ((copy 1 (codes "a") (codes "b") ∷ []) ∷ []) ((copy 1 (codes "a") (codes "b") ∷ deletion (codes "b/s") ∷ []) ∷ []))
      (let both : Some first_tree ≡ Some tree = at in let same : first_tree ≡ tree = cc in same) (
        copy 1 (codes "a") (codes "b") ∷ deletion (codes "b/s") ∷ [],
        [],
        refl,
        (
          copy 1 (codes "a") (codes "b"),
          path_of (codes "s") ∷ [],
          [],
          refl,
          same_copy (excluding (codes "b/s")) _ 1 1 (codes "a") (codes "b") refl refl,
          inr (
            1,
            path_of (codes "a"),
            first_tree,
            refl,
            refl,
            nothing_back,
            goes,
          ),
          λ after is. refl,
        ),
        λ last is. refl,
      ),
)

-- the law applies: what is written loads, and has the restricted trees
has_law : (others : List Tree) × (loaded_over root_alone written ≡ Some others)
    × AllZip (IsRestricted (excluding (codes "b/s")) as_it_was) (root_alone ∷ first_tree ∷ second_tree ∷ []) others
has_law = trimmed_history (excluding (codes "b/s")) as_it_was entries_stay whole written
    (root_alone ∷ first_tree ∷ second_tree ∷ []) refl refl are_trimmed

file_is_gone : node_at (loaded_over root_alone written) 2 (codes "b/s") ≡ None
file_is_gone = refl

directory_is_there : node_at (loaded_over root_alone written) 2 (codes "b") ≡ Some (Node.Directory [])
directory_is_there = refl

-- a copy names its own revision again
no_other_number : IsSameNumber 1 2 → ⊥
no_other_number is = let bad : 2 ≡ 1 = is in cc

-- without the deletion it isn't trimmed: what the copy takes has to go
not_without : IsTrimmed (excluding (codes "b/s")) (slice_get (root_alone ∷ first_tree ∷ [])) first_tree
    (copy 1 (codes "a") (codes "b")) [] → ⊥
not_without (inl (none, apart)) =
    let bad : false ≡ true = (apart second_tree refl).copy refl 1 (path_of (codes "a")) refl refl first_tree refl
    (path_of (codes "s")) (Node.File [] (codes "1")) refl in
    absurd (let worse : false ≡ true = bad in cc)
not_without (inr (number, source, old, is, there, back, cover)) =
    let sources : path_of (codes "a") ≡ source =
    (let both : Some (Made.Copied 1 (path_of (codes "a"))) ≡ Some (Made.Copied number source) = is in cc) in
    let numbers : 1 ≡ number =
    (let both : Some (Made.Copied 1 (path_of (codes "a"))) ≡ Some (Made.Copied number source) = is in cc) in
    let trees : first_tree ≡ old =
    (let both : Some first_tree ≡ Some old = ap (slice_get (root_alone ∷ first_tree ∷ [])) numbers ∙ there in cc) in
    absurd (let bad : false ≡ true = cover.all (path_of (codes "s"))
    (sym (λ i. is_some (trees i (sources i ++ path_of (codes "s")))))
    (sym (λ i. keeps (excluding (codes "b/s")) (sources i ++ path_of (codes "s")))) refl in cc)
