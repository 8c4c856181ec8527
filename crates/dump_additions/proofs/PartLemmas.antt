-- Parts of what a copy takes, and the rests that remain.
use Rattle.std.proofs.Common.{◌≡◌, ℕ, true, false, List, [], ◌∷◌, ◌++◌, map, reverse, Option, Some, None, Bor, bytes_eq, length, ◌==◌, ◌<◌, ◌↔◌, arith, refl, sym, ap, ap₂, ◌∙◌, subst, append_assoc, append-nil}
use Rattle.std.specs.Global.{Vec}
use Rattle.std.specs.Prelude.{IsSome, OnOk, Result, Ok, Err, option_to_list}
use Rattle.std.specs.List.{AllZip, list_all}
use Rattle.std.proofs.lemmas.Bool.{and_from, and_parts, eqb-true, or_left, or_right}
use Rattle.std.proofs.lemmas.List.{map-append, reverse-append}
use Rattle.std.proofs.lemmas.List.Folds.{list_all-append}
use Rattle.std.proofs.lemmas.Slice.Eq.{bytes_eq-Decides}
use Rattle.dump_trees.specs.Following.{Way}
use Rattle.dump_trees.specs.steps.Following.{followed_told}
use Rattle.dump_trees.specs.steps.Looking.{Placed, end_of}
use Rattle.dump_trees.specs.Paths.{NodePath, is_name, names_of}
use Rattle.dump_trees.specs.Siblings.{has_node_names, is_node_name}
use Rattle.dump_trees.proofs.paths.SiblingLemmas.{both_names}
use Rattle.dump_index.specs.steps.Children.{AreChildren, is_child_named, stands_in}
use Rattle.dump_index.specs.steps.IndexLaws.{IsListed}
use Rattle.dump_index.specs.steps.Kinds.{kind_look}
use Rattle.dump_index.specs.steps.Listed.{Listed, all_placed}
use Rattle.dump_index.specs.steps.ToldKinds.{kinds_told_by}
use Rattle.dump_index.specs.declared.change.NodeKind.{NodeKind}
use Rattle.dump_index.specs.declared.change.NodeKind.TheVariants as kinds
use Rattle.dump_index.specs.steps.Names.{texts_of}
use Rattle.dump_index.proofs.NameLemmas.{names_of_name}
use Rattle.dump_cut.specs.steps.NamedPaths.{has_named_paths}
use Rattle.dump_cut.proofs.NodeNames.{look_named}
use Rattle.dump_additions.specs.declared.parts.Form.{Form}
use Rattle.dump_additions.specs.declared.parts.Form.TheVariants.{Copy, Directory, File}
use Rattle.dump_additions.specs.steps.Parts.{AddsInside, AreAllParts, children_of, form_of, pending, Copied, NoName, NoPart, Named, Opened, WrittenFile, ArePartsIn, ArePartsOf, IsFormAt, PartMeant, TakesSomeBack, kind_in}

-- the remaining rests, with one more
pub pending_pushed : (left : List (Vec ℕ)) (rest : Vec ℕ) → pending (left ++ rest ∷ []) ≡ names_of rest.items ∷ pending left
pending_pushed left rest = ap (map (λ (r : Vec ℕ). names_of r.items)) (reverse-append left (rest ∷ []))

-- names as paths
pub named_paths : (names : List (Bor (List ℕ))) → list_all is_node_name (texts_of names) ≡ true
    → map (λ (name : Bor (List ℕ)). names_of name.now) names ≡ map (λ name. name ∷ []) (texts_of names)
named_paths [] all = refl
named_paths (name ∷ names) all =
    let parts = and_parts (is_node_name name.now) (list_all is_node_name (texts_of names)) all in
    ap₂ (λ (p : NodePath) (ps : List NodePath). p ∷ ps)
    (names_of_name name.now (and_parts (is_name name.now) _ parts.0).0) (named_paths names parts.1)

-- children of a rest with names of nodes have such names
pub children_named : (rest : NodePath) (names : List (List ℕ)) → has_node_names rest ≡ true → list_all is_node_name names ≡ true
    → list_all has_node_names (children_of rest (map (λ name. name ∷ []) names)) ≡ true
children_named rest [] named all = refl
children_named rest (name ∷ names) named all =
    let parts = and_parts (is_node_name name) (list_all is_node_name names) all in
    and_from _ _ (both_names rest (name ∷ []) named (and_from _ _ parts.0 refl)) (children_named rest names named parts.1)

-- the names in a directory are names of nodes
pub listed_names : (listed : List Listed) → list_all has_named_paths listed ≡ true → (count : ℕ) (path : NodePath)
    (names : List (List ℕ)) → AreChildren listed count path names → list_all is_node_name names ≡ true
listed_names listed named count path names are = each names (λ name is. is)
  where
    each : (some : List (List ℕ))
        → ((name : List ℕ) → is_child_named some name ≡ true → is_child_named names name ≡ true)
        → list_all is_node_name some ≡ true
    each [] within = refl
    each (name ∷ some) within =
        and_from _ _
        (look_named listed named count path name
        (and_parts _ (stands_in listed count path name)
        (sym (are.all name) ∙ within name (or_left (bytes_eq name name) _ ((bytes_eq-Decides name name).1 refl)))).0)
        (each some (λ other is. within other (or_right (bytes_eq name other) _ is)))

module _ (listed : List Listed) (excluded : List NodePath) (number : ℕ) (path source : NodePath) where
  abbrev Parts : NodePath → List PartMeant → Type 0
  Parts = ArePartsOf listed excluded number path source

  abbrev AllParts : List NodePath → List PartMeant → Type 0
  AllParts = AreAllParts listed excluded number path source

  -- the parts of what is in a directory come first, and then those of the other rests
  inside_first : (rest : NodePath) (names : List (List ℕ)) (rests : List NodePath) (parts : List PartMeant)
      → AllParts (children_of rest (map (λ name. name ∷ []) names) ++ rests) parts
      → (first : List PartMeant) × (others : List PartMeant) × (parts ≡ first ++ others)
      × ArePartsIn listed excluded number path source rest names first × AllParts rests others
  inside_first rest [] rests parts all = ([], parts, refl, NoName rest, all)
  inside_first rest (name ∷ names) rests parts (first, others, is, one, all) =
      let (inside, behind, same, are, left) = inside_first rest names rests others all in (
        first ++ inside,
        behind,
        is ∙ (ap (λ (ps : List PartMeant). first ++ ps) same ∙ sym (append_assoc first inside behind)),
        Named rest name names first inside one are,
        left,
      )

  module _ (rest : NodePath) (rests : List NodePath) (done : List PartMeant)
      (goes : (others : List PartMeant) → AllParts (rest ∷ rests) others → Parts [] (done ++ others)) where
    -- the next part is done, with nothing in it
    pub part_done : (part : List PartMeant) → Parts rest part → (others : List PartMeant) → AllParts rests others
        → Parts [] ((done ++ part) ++ others)
    part_done part one others all =
        subst (Parts []) (sym (append_assoc done part others)) (goes (part ++ others) (part, others, refl, one, all))

    -- a directory is done, and what is in it comes next
    pub directory_done : IsFormAt listed excluded number path source rest (Some Directory) → (new : List NodePath)
        → AddsInside listed number source rest rests new → (others : List PartMeant) → AllParts new others
        → Parts [] ((done ++ record { form = Directory; rest = rest } ∷ []) ++ others)
    directory_done form new (names, are, named, is) others all =
        let own : PartMeant = record { form = Directory; rest = rest } in
        let (first, more, same, inside, left) = inside_first rest names rests others (subst (λ rs. AllParts rs others) is all) in
        subst (Parts []) (sym (append_assoc done (own ∷ []) others))
        (subst (λ (ps : List PartMeant). Parts [] (done ++ own ∷ ps)) (sym same)
        (goes (own ∷ first ++ more) (own ∷ first, more, refl, Opened rest names first form are inside, left)))

-- no rest remains
pub none_left : (listed : List Listed) (excluded : List NodePath) (number : ℕ) (path source : NodePath)
    (done : List PartMeant)
    → ((others : List PartMeant) → AreAllParts listed excluded number path source [] others
    → ArePartsOf listed excluded number path source [] (done ++ others))
    → ArePartsOf listed excluded number path source [] done
none_left listed excluded number path source done goes =
    subst (ArePartsOf listed excluded number path source []) (append-nil done) (goes [] refl)

-- whether something comes back with the copy of a rest

module _ (listed : List Listed) (excluded : List NodePath) (number : ℕ) (path source rest : NodePath) (brought : List NodePath)
    (at there : List ℕ) (at_is : names_of at ≡ path ++ rest) (there_is : names_of there ≡ source ++ rest)
    (found : (placed : List Placed) → AllZip IsListed listed placed
    → brought ≡ followed_told Way.ToCopies excluded (kinds_told_by listed) placed number (names_of at) (names_of there)) where
  at_rest : (placed : List Placed) → AllZip IsListed listed placed
      → brought ≡ followed_told Way.ToCopies excluded (kinds_told_by listed) placed number (path ++ rest) (source ++ rest)
  at_rest placed all =
      found placed all
      ∙ ap₂ (λ p s. followed_told Way.ToCopies excluded (kinds_told_by listed) placed number p s) at_is there_is

  pub none_back : brought ≡ [] → IsFormAt listed excluded number path source rest (Some Copy)
  none_back none placed all = sym (at_rest placed all) ∙ none

  pub some_back : (brought ≡ [] → ⊥) → (kind : Option NodeKind)
      → kind ≡ kind_look listed (end_of (all_placed listed) number) (names_of there)
      → IsFormAt listed excluded number path source rest (form_of kind)
  some_back some kind kind_is =
      formed kind (sym (kind_is ∙ ap (kind_look listed (end_of (all_placed listed) number)) there_is))
    where
      back : TakesSomeBack listed excluded number path source rest
      back placed all none = some (at_rest placed all ∙ none)

      formed : (k : Option NodeKind) → kind_in listed number (source ++ rest) ≡ k
          → IsFormAt listed excluded number path source rest (form_of k)
      formed None is = (back, is)
      formed (Some kinds.Directory) is = (back, is)
      formed (Some kinds.File) is = (back, is)

-- whether a list is empty
pub shown_none : {A B : Type 0} (f : A → B) (xs : List A) → (length xs == 0) ≡ true → map f xs ≡ []
shown_none f [] is = refl
shown_none f (x ∷ xs) is = let none : length (x ∷ xs) ≡ 0 = eqb-true (length (x ∷ xs)) 0 is in absurd (omega arith)

pub shown_some : {A B : Type 0} (f : A → B) (xs : List A) → (length xs == 0) ≡ false → map f xs ≡ [] → ⊥
shown_some f [] is none = let bad : true ≡ false = is in cc
shown_some f (x ∷ xs) is none = let bad : f x ∷ map f xs ≡ [] = none in cc

-- what is in a directory comes next
pub inside_added : (listed : List Listed) → list_all has_named_paths listed ≡ true → (number : ℕ) (source rest : NodePath)
    (names : List (Bor (List ℕ))) (old new : List NodePath) {A E : Type 0} (result : Result A E)
    → AreChildren listed (end_of (all_placed listed) number) (source ++ rest) (texts_of names)
    → OnOk result (new ≡ children_of rest (map (λ (name : Bor (List ℕ)). names_of name.now) names) ++ old)
    → OnOk result (AddsInside listed number source rest old new)
inside_added listed named number source rest names old new (Ok _) are is =
    let all = listed_names listed named (end_of (all_placed listed) number) (source ++ rest) (texts_of names) are in (
      texts_of names,
      are,
      all,
      is ∙ ap (λ ps. children_of rest ps ++ old) (named_paths names all),
    )
inside_added listed named number source rest names old new (Err _) are is = tt

-- one more name
pub child_pushed : (rest : NodePath) (left new : List (Vec ℕ)) (child : Vec ℕ) (yielded : List (Bor (Bor (List ℕ))))
    (name : Bor (Bor (List ℕ))) (old : List NodePath) → new ≡ left ++ child ∷ []
    → names_of child.items ≡ rest ++ names_of name.now.now
    → pending left ≡ children_of rest (map (λ (n : Bor (List ℕ)). names_of n.now)
    (reverse (map (λ (n : Bor (Bor (List ℕ))). n.now) yielded))) ++ old
    → pending new ≡ children_of rest (map (λ (n : Bor (List ℕ)). names_of n.now)
    (reverse (map (λ (n : Bor (Bor (List ℕ))). n.now) (yielded ++ name ∷ [])))) ++ old
child_pushed rest left new child yielded name old new_is child_is known =
    ap pending new_is
    ∙ (pending_pushed left child
    ∙ (ap₂ (λ (p : NodePath) (ps : List NodePath). p ∷ ps) child_is known
    ∙ sym (ap (λ ns. children_of rest (map (λ (n : Bor (List ℕ)). names_of n.now) ns) ++ old)
    (ap reverse (map-append (λ (n : Bor (Bor (List ℕ))). n.now) yielded (name ∷ []))
    ∙ reverse-append (map (λ (n : Bor (Bor (List ℕ))). n.now) yielded) (name.now ∷ [])))))

-- the next rest is taken
pub popped : (old new : List (Vec ℕ)) (taken : Option (Vec ℕ)) (rest : Vec ℕ) → old ≡ new ++ option_to_list taken
    → taken ≡ Some rest → pending old ≡ names_of rest.items ∷ pending new
popped old new taken rest is some =
    ap pending (is ∙ ap (λ o. new ++ option_to_list o) some) ∙ pending_pushed new rest

pub none_popped : (old : List (Vec ℕ)) (taken : Option (Vec ℕ)) → (IsSome taken ↔ (0 < length old))
    → ((rest : Vec ℕ) → taken ≡ Some rest → ⊥) → pending old ≡ []
none_popped [] taken means none = refl
none_popped (x ∷ old) (Some rest) means none = absurd (none rest refl)
none_popped (x ∷ old) None means none = absurd (let bad : false ≡ true = means.1 (omega arith) in cc)

pub next_named : (rest : NodePath) (rests left : List NodePath) → left ≡ rest ∷ rests → list_all has_node_names left ≡ true
    → (has_node_names rest ≡ true) × (list_all has_node_names rests ≡ true)
next_named rest rests left is all =
    and_parts (has_node_names rest) (list_all has_node_names rests) (sym (ap (list_all has_node_names) is) ∙ all)

pub inside_named : (listed : List Listed) (number : ℕ) (source rest : NodePath) (old new : List NodePath)
    → AddsInside listed number source rest old new → has_node_names rest ≡ true → list_all has_node_names old ≡ true
    → list_all has_node_names new ≡ true
inside_named listed number source rest old new (names, are, named, is) own all =
    ap (list_all has_node_names) is
    ∙ (list_all-append has_node_names (children_of rest (map (λ name. name ∷ []) names)) old
    ∙ and_from _ _ (children_named rest names own named) all)

module _ (listed : List Listed) (excluded : List NodePath) (number : ℕ) (path source : NodePath) where
  -- the state of the loop
  pub record IsGoing (left : List NodePath) (done : List PartMeant) : Type 0 where
    pub named : list_all has_node_names left ≡ true
    pub done_named : list_all (λ (part : PartMeant). has_node_names part.rest) done ≡ true
    pub goes_on : (others : List PartMeant) → AreAllParts listed excluded number path source left others
        → ArePartsOf listed excluded number path source [] (done ++ others)

  module _ (rest : NodePath) (rests left : List NodePath) (done : List PartMeant) (left_is : left ≡ rest ∷ rests)
      (going : IsGoing left done) where
    abbrev names : (has_node_names rest ≡ true) × (list_all has_node_names rests ≡ true)
    names = next_named rest rests left left_is going.named

    abbrev goes : (others : List PartMeant) → AreAllParts listed excluded number path source (rest ∷ rests) others
        → ArePartsOf listed excluded number path source [] (done ++ others)
    goes others all =
        going.goes_on others (subst (λ rs. AreAllParts listed excluded number path source rs others) (sym left_is) all)

    one_more_named : (part : PartMeant) → has_node_names part.rest ≡ true
        → list_all (λ (p : PartMeant). has_node_names p.rest) (done ++ part ∷ []) ≡ true
    one_more_named part own =
        list_all-append (λ (p : PartMeant). has_node_names p.rest) done (part ∷ [])
        ∙ and_from _ _ going.done_named (and_from _ _ own refl)

    pub nothing_next : (form : Option Form) → IsFormAt listed excluded number path source rest form
        → ((f : Form) → form ≡ Some f → ⊥) → IsGoing rests done
    nothing_next (Some f) is none = absurd (none f refl)
    nothing_next None is none = record {
      named = names.1;
      done_named = going.done_named;
      goes_on = λ others all.
          subst (λ d. ArePartsOf listed excluded number path source [] (d ++ others)) (append-nil done)
          (part_done listed excluded number path source rest rests done goes [] (NoPart rest is) others all);
    }

    pub part_next : (form : Form) → IsFormAt listed excluded number path source rest (Some form)
        → (form ≡ Directory → ⊥) → IsGoing rests (done ++ record { form = form; rest = rest } ∷ [])
    part_next Directory is other = absurd (other refl)
    part_next Copy is other = record {
      named = names.1;
      done_named = one_more_named (record { form = Copy; rest = rest }) names.0;
      goes_on = part_done listed excluded number path source rest rests done goes _ (Copied rest is);
    }
    part_next File is other = record {
      named = names.1;
      done_named = one_more_named (record { form = File; rest = rest }) names.0;
      goes_on = part_done listed excluded number path source rest rests done goes _ (WrittenFile rest is);
    }

    pub directory_next : IsFormAt listed excluded number path source rest (Some Directory) → (new : List NodePath)
        → AddsInside listed number source rest rests new → IsGoing new (done ++ record { form = Directory; rest = rest } ∷ [])
    directory_next is new adds = record {
      named = inside_named listed number source rest rests new adds names.0 names.1;
      done_named = one_more_named (record { form = Directory; rest = rest }) names.0;
      goes_on = directory_done listed excluded number path source rest rests done goes is new adds;
    }
