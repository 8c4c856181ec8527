-- Parts that are written out make exactly what exists at the source.
use Rattle.std.proofs.Common.{◌≡◌, ℕ, Bool, true, false, not, ◌||◌, cond, List, [], ◌∷◌, ◌++◌, Option, Some, None, option_map, is_some, bytes_eq, refl, sym, ap, ap₂, ◌∙◌, subst, append_assoc, append-nil, inl, inr}
use Rattle.std.specs.Prelude.{⊤}
use Rattle.std.specs.List.{AllByRecursion}
use Rattle.std.specs.List.Sorted.{IsStrictlySortedBy}
use Rattle.std.specs.Cmp.Lexicographic.{slice_cmp, texts_ties}
use Rattle.std.specs.Ordering.{is_eq, nat_cmp}
use Rattle.std.specs.declared.cmp.Ordering.TheVariants.{Less}
use Rattle.std.proofs.lemmas.Bool.{and_from, or_left, or_right}
use Rattle.std.proofs.lemmas.Slice.Eq.{bytes_eq-Decides}
use Rattle.dump_text.specs.PropertyList.{Property}
use Rattle.dump_filter.specs.FilterLaws.{keep_all}
use Rattle.dump_trees.specs.steps.Branches.{Branch, Branches, HasBranch, are_distinct, found, has_name, tree_of}
use Rattle.dump_trees.specs.Changes.{Change, History}
use Rattle.dump_trees.specs.steps.Looking.{end_of}
use Rattle.dump_trees.specs.Paths.{NodePath}
use Rattle.dump_trees.specs.Trees.{Node, Tree}
use Rattle.dump_trees.specs.steps.Trees.{HasDirectories}
use Rattle.dump_trees.specs.steps.WritingOut.{IsCopied, WritesInside, WritesOut, copy_of, file_of, directory_of}
use Rattle.dump_trees.proofs.expansions.BranchLemmas.{not_found}
use Rattle.dump_trees.proofs.expansions.FiniteLemmas.{Stands}
use Rattle.dump_trees.proofs.expansions.FiniteSteps.{IsFinite, finite_directories, finite_stands}
use Rattle.dump_history.proofs.cuts.TrimmedLaw.{each_branch_is_cut_alike}
use Rattle.dump_index.specs.steps.Children.{AreChildren, is_child_named}
use Rattle.dump_index.specs.steps.Kinds.{kind_look, node_kind}
use Rattle.dump_index.specs.steps.Listed.{Listed, all_placed}
use Rattle.dump_index.specs.declared.change.NodeKind.TheVariants as kinds
use Rattle.dump_additions.specs.declared.parts.Form.{Form}
use Rattle.dump_additions.specs.declared.parts.Form.TheVariants.{Copy, Directory, File}
use Rattle.dump_additions.specs.steps.Parts.{Copied, NoName, NoPart, Named, Opened, WrittenFile, ArePartsIn, ArePartsOf, PartMeant}
use Rattle.dump_additions.specs.steps.WrittenParts.{AreChangesFor, AreEntriesAt, IsDirectoryWritten, IsPartWritten}
use Rattle.dump_trees.proofs.changes.TreeLemmas.{none_of}

-- branches in a directory

-- each branch is what exists below its name
abbrev AreAt : Tree → NodePath → Branches → Type 0
AreAt tree top Branches.NoMore = ⊤
AreAt tree top (Branches.Named name branch others) = HasBranch tree (top ++ name ∷ []) branch × AreAt tree top others

found_at : (tree : Tree) (top : NodePath) (inside : Branches) → AreAt tree top inside → (name : List ℕ) (rest : NodePath)
    → has_name name inside ≡ true → tree (top ++ name ∷ rest) ≡ found inside name rest None
found_at tree top Branches.NoMore at name rest some = absurd (let bad : false ≡ true = some in cc)
found_at tree top (Branches.Named first branch others) (here, more) name rest some =
    either (found_at tree top others more name rest) (bytes_eq first name) refl some
  where
    either : (has_name name others ≡ true → tree (top ++ name ∷ rest) ≡ found others name rest None)
        → (b : Bool) → bytes_eq first name ≡ b → (b || has_name name others) ≡ true
        → tree (top ++ name ∷ rest) ≡ cond b (tree_of branch rest) (found others name rest None)
    either further true same some =
        ap (λ n. tree (top ++ n ∷ rest)) (sym ((bytes_eq-Decides first name).0 same))
        ∙ (ap tree (sym (append_assoc top (first ∷ []) rest)) ∙ here rest)
    either further false apart some = further some

-- if something doesn't exist, nothing exists below it
none_below : (tree : Tree) → HasDirectories tree → (top : NodePath) (name : List ℕ) (rest : NodePath)
    → tree (top ++ name ∷ []) ≡ None → tree (top ++ name ∷ rest) ≡ None
none_below tree directories top name [] none = none
none_below tree directories top name (next ∷ rest) none = cases (tree (top ++ name ∷ next ∷ rest)) refl
  where
    cases : (o : Option Node) → tree (top ++ name ∷ next ∷ rest) ≡ o → o ≡ None
    cases None at = refl
    cases (Some node) at =
        absurd (let bad : false ≡ true = sym (ap Rattle.dump_trees.specs.Trees.is_directory_node none)
        ∙ directories (top ++ name ∷ []) next rest node (ap tree (append_assoc top (name ∷ []) (next ∷ rest)) ∙ at) in cc)

-- so a directory is a branch with all that exists in it
directory_at : (tree : Tree) → HasDirectories tree → (top : NodePath) (props : List Property) (inside : Branches)
    → tree top ≡ Some (Node.Directory props) → AreAt tree top inside
    → ((name : List ℕ) → is_some (tree (top ++ name ∷ [])) ≡ has_name name inside)
    → HasBranch tree top (Branch.Directory props inside)
directory_at tree directories top props inside at are all [] = ap tree (append-nil top) ∙ at
directory_at tree directories top props inside at are all (name ∷ rest) = by_name (has_name name inside) refl
  where
    by_name : (b : Bool) → has_name name inside ≡ b → tree (top ++ name ∷ rest) ≡ found inside name rest None
    by_name true some = found_at tree top inside are name rest some
    by_name false none =
        none_below tree directories top name rest (none_of _ (all name ∙ none)) ∙ sym (not_found inside name rest None none)

-- a name occurs once
once : (name : List ℕ) (names : List (List ℕ)) → AllByRecursion (λ other. slice_cmp nat_cmp name other ≡ Less) names
    → is_child_named names name ≡ false
once name [] all = refl
once name (other ∷ names) (less, all) =
    ap₂ (λ a b. a || b) (apart (bytes_eq other name) refl) (once name names all)
  where
    apart : (b : Bool) → bytes_eq other name ≡ b → b ≡ false
    apart false is = refl
    apart true is =
        let same : other ≡ name = (bytes_eq-Decides other name).0 is in
        absurd (let bad : true ≡ false = sym ((bytes_eq-Decides name name).1 refl)
        ∙ (texts_ties name name ∙ ap is_eq (ap (λ n. slice_cmp nat_cmp name n) (sym same) ∙ less)) in cc)

pub head_once : (name : List ℕ) (names : List (List ℕ)) → IsStrictlySortedBy (slice_cmp nat_cmp) (name ∷ names)
    → is_child_named names name ≡ false
unfolding IsStrictlySortedBy
head_once name names ordered = once name names ordered.0

pub tail_ordered : (name : List ℕ) (names : List (List ℕ)) → IsStrictlySortedBy (slice_cmp nat_cmp) (name ∷ names)
    → IsStrictlySortedBy (slice_cmp nat_cmp) names
unfolding IsStrictlySortedBy
tail_ordered name names ordered = ordered.1

-- whether the first part is a directory
abbrev pub is_directory_form : Form → Bool
is_directory_form Copy = false
is_directory_form Directory = true
is_directory_form File = false

abbrev pub is_directory : List PartMeant → Bool
is_directory [] = false
is_directory (part ∷ parts) = is_directory_form part.form

-- changes for two lists of parts
record AreSplit (old : Tree) (number : ℕ) (path source : NodePath) (first others : List PartMeant) (changes : List Change)
    : Type 0 where
  pub front : List Change
  pub back : List Change
  pub joined : changes ≡ front ++ back
  pub of_first : AreChangesFor old number path source first front
  pub of_others : AreChangesFor old number path source others back

are_split : (old : Tree) (number : ℕ) (path source : NodePath) (first others : List PartMeant) (changes : List Change)
    → AreChangesFor old number path source (first ++ others) changes
    → AreSplit old number path source first others changes
are_split old number path source [] others changes are =
    record { front = []; back = changes; joined = refl; of_first = tt; of_others = are }
are_split old number path source (part ∷ first) others [] are = absurd are
are_split old number path source (part ∷ first) others (c ∷ changes) (is, are) =
    let more = are_split old number path source first others changes are in
    record {
      front = c ∷ more.front;
      back = more.back;
      joined = ap (λ cs. c ∷ cs) more.joined;
      of_first = (is, more.of_first);
      of_others = more.of_others;
    }

-- what is written

module _ (listed : List Listed) (excluded : List NodePath) (number : ℕ) (path source : NodePath) (history : History)
    (old : Tree) (there : history number ≡ Some old) (finite : IsFinite old)
    (kinds_are : (p : NodePath) → kind_look listed (end_of (all_placed listed) number) p ≡ option_map node_kind (old p))
    (names_are : (p : NodePath) (names : List (List ℕ)) → AreChildren listed (end_of (all_placed listed) number) p names
    → (name : List ℕ) → is_child_named names name ≡ is_some (old (p ++ name ∷ []))) where
  abbrev Changes : List PartMeant → List Change → Type 0
  Changes = AreChangesFor old number path source

  abbrev Writes : NodePath → List Change → Type 0
  Writes rest changes = IsPartWritten history old (path ++ rest) (source ++ rest) changes

  exists_at : (rest : NodePath) → is_some (old (source ++ rest)) ≡ true → Stands old (source ++ rest)
  exists_at rest some = cases (old (source ++ rest)) refl some
    where
      cases : (o : Option Node) → old (source ++ rest) ≡ o → is_some o ≡ true → Stands old (source ++ rest)
      cases None at none = absurd (let bad : false ≡ true = none in cc)
      cases (Some node) at some = finite_stands old finite (source ++ rest) node at

  -- a copy
  copy_written : (rest : NodePath) (changes : List Change) → Stands old (source ++ rest)
      → Changes (record { form = Copy; rest = rest } ∷ []) changes → Writes rest changes
  copy_written rest [] s are = absurd are
  copy_written rest (c ∷ d ∷ more) s (is, are) = absurd are
  copy_written rest (c ∷ []) s (is, none) =
      subst (λ x. Writes rest (x ∷ [])) (sym is)
      (record { branch = s.branch; exists = s.has; distinct = s.whole.apart; out = out s.branch s.has })
    where
      copied : (branch : Branch) → HasBranch old (source ++ rest) branch
          → IsCopied keep_all history (path ++ rest) branch (copy_of number (source ++ rest) (path ++ rest) ∷ [])
      copied branch has = record {
        number = number;
        source = source ++ rest;
        old = old;
        one = refl;
        there = there;
        stands = has;
        apart = inl (each_branch_is_cut_alike (path ++ rest) (source ++ rest) branch);
      }

      out : (branch : Branch) → HasBranch old (source ++ rest) branch
          → WritesOut keep_all history (path ++ rest) branch (copy_of number (source ++ rest) (path ++ rest) ∷ [])
      out (Branch.Directory props inside) has = inl (copied (Branch.Directory props inside) has)
      out (Branch.File props text) has = inl (copied (Branch.File props text) has)

  root_is : (rest : NodePath) (branch : Branch) → HasBranch old (source ++ rest) branch
      → old (source ++ rest) ≡ tree_of branch []
  root_is rest branch has = ap old (sym (append-nil (source ++ rest))) ∙ has []

  -- a file
  file_written : (rest : NodePath) (changes : List Change) → Stands old (source ++ rest)
      → kind_look listed (end_of (all_placed listed) number) (source ++ rest) ≡ Some kinds.File
      → Changes (record { form = File; rest = rest } ∷ []) changes → Writes rest changes
  file_written rest [] s kind are = absurd are
  file_written rest (c ∷ d ∷ more) s kind (is, are) = absurd are
  file_written rest (c ∷ []) s kind ((entries, text, is, made, same), none) =
      subst (λ x. Writes rest (x ∷ [])) (sym is) (cases s.branch s.has)
    where
      cases : (branch : Branch) → HasBranch old (source ++ rest) branch
          → Writes rest (file_of (path ++ rest) entries text ∷ [])
      cases (Branch.Directory props inside) has =
          absurd (let bad : Some kinds.Directory ≡ Some kinds.File =
          sym (kinds_are (source ++ rest) ∙ ap (option_map node_kind) (root_is rest (Branch.Directory props inside) has)) ∙ kind in cc)
      cases (Branch.File props its) has =
          let at = root_is rest (Branch.File props its) has in
          record {
            branch = Branch.File props its;
            exists = has;
            distinct = refl;
            out = inr (
              entries,
              ap (λ t. file_of (path ++ rest) entries t ∷ []) (sym (same props its at)),
              made (Node.File props its) at,
            );
          }

  -- the branches in a directory
  record Inside (rest : NodePath) (names : List (List ℕ)) (changes : List Change) : Type 0 where
    pub inside : Branches
    pub at : AreAt old (source ++ rest) inside
    pub distinct : are_distinct inside ≡ true
    pub named : (name : List ℕ) → has_name name inside ≡ is_child_named names name
    pub out : WritesInside keep_all history (path ++ rest) inside changes

  no_inside : (rest : NodePath) (changes : List Change) → Changes [] changes → Inside rest [] changes
  no_inside rest [] are =
      record { inside = Branches.NoMore; at = tt; distinct = refl; named = λ name. refl; out = refl }
  no_inside rest (c ∷ changes) are = absurd are

  more_inside : (rest : NodePath) (name : List ℕ) (names : List (List ℕ)) (changes front back : List Change)
      → changes ≡ front ++ back → Writes (rest ++ name ∷ []) front → is_child_named names name ≡ false
      → Inside rest names back → Inside rest (name ∷ names) changes
  more_inside rest name names changes front back joined one new more = record {
    inside = Branches.Named name one.branch more.inside;
    at = (
      subst (λ p. HasBranch old p one.branch) (sym (append_assoc source rest (name ∷ []))) one.exists,
      more.at,
    );
    distinct =
        and_from _ _ (and_from _ _ (ap not (more.named name ∙ new)) one.distinct) more.distinct;
    named = λ other. ap (λ b. bytes_eq name other || b) (more.named other);
    out = (
      front,
      back,
      joined,
      subst (λ p. WritesOut keep_all history p one.branch front) (sym (append_assoc path rest (name ∷ []))) one.out,
      more.out,
    );
  }

  -- a directory, whose own entries may differ
  directory_written : (rest : NodePath) (names : List (List ℕ)) (own : List Property) (changes : List Change)
      → Stands old (source ++ rest)
      → kind_look listed (end_of (all_placed listed) number) (source ++ rest) ≡ Some kinds.Directory
      → AreChildren listed (end_of (all_placed listed) number) (source ++ rest) names → Inside rest names changes
      → IsDirectoryWritten history old (path ++ rest) (source ++ rest) own changes
  directory_written rest names own changes s kind are i = cases s.branch s.has
    where
      cases : (branch : Branch) → HasBranch old (source ++ rest) branch
          → IsDirectoryWritten history old (path ++ rest) (source ++ rest) own changes
      cases (Branch.File props text) has =
          absurd (let bad : Some kinds.File ≡ Some kinds.Directory =
          sym (kinds_are (source ++ rest) ∙ ap (option_map node_kind) (root_is rest (Branch.File props text) has)) ∙ kind in cc)
      cases (Branch.Directory props inside) has = record {
        props = props;
        inside = i.inside;
        exists = directory_at old (finite_directories old finite) (source ++ rest) props i.inside
            (root_is rest (Branch.Directory props inside) has) i.at
            (λ name. sym (names_are (source ++ rest) names are name) ∙ sym (i.named name));
        distinct = i.distinct;
        out = λ new made. inr (own, changes, refl, made, i.out);
      }

  -- a directory with the properties that it has at the source
  as_it_is : (rest : NodePath) (own : List Property) (changes : List Change)
      → AreEntriesAt old number path source rest own
      → IsDirectoryWritten history old (path ++ rest) (source ++ rest) own changes
      → Writes rest (directory_of (path ++ rest) own ∷ changes)
  as_it_is rest own changes made w = record {
    branch = Branch.Directory w.props w.inside;
    exists = w.exists;
    distinct = w.distinct;
    out = w.out w.props (made (Node.Directory w.props) (root_is rest (Branch.Directory w.props w.inside) w.exists));
  }

  mutual
    -- what exists at the rest
    pub parts_written : (rest : NodePath) (parts : List PartMeant) (changes : List Change)
        → ArePartsOf listed excluded number path source rest parts
        → is_some (old (source ++ rest)) ≡ true → Changes parts changes → Writes rest changes
    parts_written rest _ changes (NoPart _ form) some are =
        absurd (let bad : false ≡ true = sym (ap is_some form.1)
        ∙ (ap is_some (kinds_are (source ++ rest)) ∙ (kept (old (source ++ rest)) ∙ some)) in cc)
      where
        kept : (o : Option Node) → is_some (option_map node_kind o) ≡ is_some o
        kept None = refl
        kept (Some node) = refl
    parts_written rest _ changes (Copied _ form) some are = copy_written rest changes (exists_at rest some) are
    parts_written rest _ changes (WrittenFile _ form) some are = file_written rest changes (exists_at rest some) form.1 are
    parts_written rest _ [] (Opened _ names parts form children inside) some are = absurd are
    parts_written rest _ (c ∷ changes) (Opened _ names parts form children inside) some ((entries, is, made), are) =
        subst (λ x. Writes rest (x ∷ changes)) (sym is)
        (as_it_is rest entries changes made
        (directory_written rest names entries changes (exists_at rest some) form.1 children
        (inside_written rest names parts changes inside children.ordered
        (λ name here. sym (names_are (source ++ rest) names children name) ∙ here) are)))

    -- what is in a directory
    inside_written : (rest : NodePath) (names : List (List ℕ)) (parts : List PartMeant) (changes : List Change)
        → ArePartsIn listed excluded number path source rest names parts
        → IsStrictlySortedBy (slice_cmp nat_cmp) names
        → ((name : List ℕ) → is_child_named names name ≡ true → is_some (old ((source ++ rest) ++ name ∷ [])) ≡ true)
        → Changes parts changes → Inside rest names changes
    inside_written rest _ _ changes (NoName _) ordered exist are = no_inside rest changes are
    inside_written rest _ _ changes (Named _ name names first others one more) ordered exist are =
        let its = are_split old number path source first others changes are in
        more_inside rest name names changes its.front its.back its.joined
        (parts_written (rest ++ name ∷ []) first its.front one
        (ap (λ p. is_some (old p)) (sym (append_assoc source rest (name ∷ [])))
        ∙ exist name (or_left (bytes_eq name name) _ ((bytes_eq-Decides name name).1 refl))) its.of_first)
        (head_once name names ordered)
        (inside_written rest names others its.back more (tail_ordered name names ordered)
        (λ other is. exist other (or_right (bytes_eq name other) _ is)) its.of_others)

  -- all that is copied, if it is a directory; its own entries may differ
  pub top_written : (parts : List PartMeant) (own : List Property) (changes : List Change)
      → ArePartsOf listed excluded number path source [] (record { form = Directory; rest = [] } ∷ parts)
      → is_some (old source) ≡ true → Changes parts changes
      → IsDirectoryWritten history old path source own changes
  top_written parts own changes are some writes =
      subst (λ p. IsDirectoryWritten history old p source own changes) (append-nil path)
      (subst (λ s. IsDirectoryWritten history old (path ++ []) s own changes) (append-nil source) (opened are refl))
    where
      opened : {all : List PartMeant} → ArePartsOf listed excluded number path source [] all
          → all ≡ record { form = Directory; rest = [] } ∷ parts
          → IsDirectoryWritten history old (path ++ []) (source ++ []) own changes
      opened (NoPart _ form) same = absurd (let bad : false ≡ true = ap is_directory same in cc)
      opened (Copied _ form) same = absurd (let bad : false ≡ true = ap is_directory same in cc)
      opened (WrittenFile _ form) same = absurd (let bad : false ≡ true = ap is_directory same in cc)
      opened (Opened _ names inner form children inside) same =
          let is : inner ≡ parts = cc in
          directory_written [] names own changes (exists_at [] (ap (λ p. is_some (old p)) (append-nil source) ∙ some)) form.1
          children
          (inside_written [] names inner changes inside children.ordered
          (λ name here. sym (names_are (source ++ []) names children name) ∙ here)
          (subst (λ ps. Changes ps changes) (sym is) writes))
