-- Examples of what comes back, and of texts that kept changes make; wrong definitions don't satisfy them.
use Rattle.dump_trees.proofs.Prelude.{◌≡◌, codes, refl, sym, ap, ap₂, ◌∙◌, subst, both_ways, bytes_eq, arith, zero, suc, unwrap_or, Settings, NodePath, path_of, keeps, Node, Tree, put, root_alone, Made, TextChange, Change, History, new_text, slice_get}
use Rattle.std.proofs.Common.{true, false, List, [], ◌∷◌, ◌++◌, Some, None, is_some, Contains}
use Rattle.std.proofs.lemmas.List.Elements.{All-head, All-tail}
use Rattle.dump_trees.specs.ComingBack.{MakesText, IsMadeByKept, SetsProperty}
use Rattle.dump_trees.specs.steps.ComingBack.{ComesBack, NoneComesBack, NothingComesBack}
use Rattle.dump_trees.proofs.values.ValueParts.{change, directory, file, copy, excluding, property, setting, patching}

-- when something comes back

-- a directory with an excluded file, and later without it
abbrev with_it : Tree
with_it = put (path_of (codes "a/s")) (Node.File [] (codes "1")) (put (path_of (codes "a")) (Node.Directory []) root_alone)

abbrev without_it : Tree
without_it = put (path_of (codes "a")) (Node.Directory []) root_alone

abbrev history : History
history zero = Some root_alone
history (suc zero) = Some with_it
history (suc (suc n)) = Some without_it

-- a copy of the directory as it was brings the file back, though it no longer exists when the copy is made
of_the_past : ComesBack (excluding (codes "a/s")) history (copy 1 (codes "a") (codes "b"))
of_the_past = record {
  number = 1;
  source = path_of (codes "a");
  old = with_it;
  rest = path_of (codes "s");
  copies = refl;
  there = refl;
  stands = refl;
  kept = refl;
  left = refl;
}

-- a copy of it as it is later brings nothing back, though the file's path isn't kept
not_of_later : ComesBack (excluding (codes "a/s")) history (copy 2 (codes "a") (codes "b")) → ⊥
not_of_later b = cases b.rest (ap₂ (λ (t : Tree) s. is_some (t (s ++ b.rest))) tree source ∙ b.stands)
    (subst (λ s. keeps (excluding (codes "a/s")) (s ++ b.rest) ≡ false) (sym source) b.left)
  where
    source : path_of (codes "a") ≡ b.source
    source = (let both : Some (Made.Copied 2 (path_of (codes "a"))) ≡ Some (Made.Copied b.number b.source) = b.copies in cc)

    number : 2 ≡ b.number
    number = (let both : Some (Made.Copied 2 (path_of (codes "a"))) ≡ Some (Made.Copied b.number b.source) = b.copies in cc)

    tree : without_it ≡ b.old
    tree = (let both : Some without_it ≡ Some b.old = ap history number ∙ b.there in cc)

    cases : (rest : NodePath) → is_some (without_it (path_of (codes "a") ++ rest)) ≡ true
        → keeps (excluding (codes "a/s")) (path_of (codes "a") ++ rest) ≡ false → ⊥
    cases [] some left = absurd (let bad : true ≡ false = left in cc)
    cases (name ∷ rest) some left = absurd (let bad : false ≡ true = some in cc)

-- a change that copies nothing brings nothing back, not even at a path that isn't kept
not_by_adding : ComesBack (excluding (codes "a/s")) history (file (codes "a/s") (codes "1")) → ⊥
not_by_adding b = let bad : Some Made.NewFile ≡ Some (Made.Copied b.number b.source) = b.copies in cc

-- each change of a revision counts, and so does each revision

second_change : NoneComesBack (excluding (codes "a/s")) history (directory (codes "c") ∷ copy 1 (codes "a") (codes "b") ∷ [])
    → ⊥
second_change none =
    All-head Never (copy 1 (codes "a") (codes "b")) []
    (All-tail Never (directory (codes "c")) (copy 1 (codes "a") (codes "b") ∷ []) none) of_the_past
  where
    Never : Change → Type 0
    Never c = ComesBack (excluding (codes "a/s")) history c → ⊥

second_revision : NothingComesBack (excluding (codes "a/s")) (root_alone ∷ with_it ∷ [])
    ((directory (codes "c") ∷ []) ∷ (copy 1 (codes "a") (codes "b") ∷ []) ∷ []) → ⊥
second_revision none =
    All-head Never (copy 1 (codes "a") (codes "b")) []
    (All-head Nothing (copy 1 (codes "a") (codes "b") ∷ []) []
    (All-tail Nothing (directory (codes "c") ∷ []) ((copy 1 (codes "a") (codes "b") ∷ []) ∷ []) none))
    (record {
      number = 1;
      source = path_of (codes "a");
      old = with_it;
      rest = path_of (codes "s");
      copies = refl;
      there = refl;
      stands = refl;
      kept = refl;
      left = refl;
    })
  where
    Never : Change → Type 0
    Never c = ComesBack (excluding (codes "a/s")) (slice_get (root_alone ∷ with_it ∷ [])) c → ⊥

    Nothing : List Change → Type 0
    Nothing changes = NoneComesBack (excluding (codes "a/s")) (slice_get (root_alone ∷ with_it ∷ [])) changes

-- texts that kept changes make

abbrev leaving : Settings
leaving = excluding (codes "s")

-- an excluded text, a kept one, and one that is made from the kept one
abbrev told : List (List Change)
told = (file (codes "s") (codes "secret") ∷ file (codes "a") (codes "1") ∷ [])
    ∷ (patching (λ old. Some (old ++ codes "2")) (change (codes "a")) ∷ [])
    ∷ []

one_made : IsMadeByKept leaving told (codes "1")
one_made = (
  1,
  record {
    changes = file (codes "s") (codes "secret") ∷ file (codes "a") (codes "1") ∷ [];
    change = file (codes "a") (codes "1");
    among = (0, omega arith, refl);
    there = (1, omega arith, refl);
    kept = refl;
    does = ([], (TextChange.Replaced (codes "1"), refl, refl), refl);
  },
)

-- a text that two changes make
two_make : IsMadeByKept leaving told (codes "12")
unfolding one_made
two_make = (
  2,
  record {
    changes = patching (λ old. Some (old ++ codes "2")) (change (codes "a")) ∷ [];
    change = patching (λ old. Some (old ++ codes "2")) (change (codes "a"));
    among = (1, omega arith, refl);
    there = (0, omega arith, refl);
    kept = refl;
    does = (codes "1", (TextChange.Patched (λ old. Some (old ++ codes "2")), refl, refl), one_made.1);
  },
)

-- no kept change makes the text of an empty file
none_makes : IsMadeByKept leaving told []
none_makes = (0, refl)

-- no kept change makes the excluded text
secret_left : IsMadeByKept leaving ((file (codes "s") (codes "secret") ∷ []) ∷ []) (codes "secret") → ⊥
secret_left (zero, is) = absurd (let bad : false ≡ true = ap (λ t. bytes_eq t []) is in cc)
secret_left (suc count, does) = revision does.among does.there
  where
    revision : Contains ((file (codes "s") (codes "secret") ∷ []) ∷ []) does.changes → Contains does.changes does.change
        → ⊥
    revision (suc k, low, is) there = absurd (omega (arith, low))
    revision (zero, low, is) there =
        only (subst (λ cs. Contains cs does.change) (sym is) there)
      where
        only : Contains (file (codes "s") (codes "secret") ∷ []) does.change → ⊥
        only (suc k, less, at) = absurd (omega (arith, less))
        only (zero, less, at) =
            both_ways (keeps leaving does.change.path)
            (ap (λ (c : Change). keeps leaving c.path) (sym at)) does.kept

-- a change that sets no text makes none
makes_no_text : MakesText [] (codes "1") (directory (codes "a")) → ⊥
makes_no_text (text, is, makes) = let bad : None ≡ Some text = is in cc

-- a change makes no other text than it sets
makes_no_other : MakesText [] (codes "2") (file (codes "a") (codes "1")) → ⊥
makes_no_other (text, is, makes) =
    let set : TextChange.Replaced (codes "1") ≡ text =
    (let both : Some (TextChange.Replaced (codes "1")) ≡ Some text = is in cc) in
    let same : Some (codes "1") ≡ Some (codes "2") =
    ap (λ t. new_text t []) set ∙ makes in
    absurd (let bad : true ≡ false = ap (λ o. bytes_eq (unwrap_or o []) (codes "1")) same in cc)

-- the entries of a change, and no others, are set
sets_one : SetsProperty (property (codes "p") (codes "1"))
    (setting (property (codes "p") (codes "1") ∷ []) (change (codes "a")))
sets_one = (0, omega arith, refl)

sets_no_other : SetsProperty (property (codes "p") (codes "1")) (change (codes "a")) → ⊥
sets_no_other (k, low, is) = absurd (omega (arith, low))
