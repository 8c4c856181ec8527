-- Trees that are branches remain branches if something is put in or removed.
use Rattle.dump_trees.proofs.Prelude.{◌≡◌, not, cond, bytes_eq, refl, sym, ap, ◌∙◌, subst, option_map, both_ways, and_parts, and_from, or_parts, or_from, not-true, not_from_false, bytes_eq-Decides, Property, NodePath, below, parent_of, Node, Tree, is_directory_node, at_or_below, grafted, empty_tree, is_directory_at, has_directory, edited_with}
use Rattle.std.proofs.Common.{ℕ, Bool, true, false, ◌&&◌, List, [], ◌∷◌, ◌++◌, Option, Some, None, is_some}
use Rattle.dump_trees.specs.steps.Branches.{Branch, Branches, tree_of, found, has_name, is_distinct, are_distinct, HasBranch}
use Rattle.dump_trees.proofs.expansions.BranchLemmas.{not_found}

-- the properties of each node of a branch are made by some entries
abbrev mutual
  pub HasEntries : Branch → Type 0
  HasEntries (Branch.Directory props inside) =
      ((entries : List Property) × (edited_with entries [] ≡ props)) × HaveEntries inside
  HasEntries (Branch.File props text) = (entries : List Property) × (edited_with entries [] ≡ props)

  pub HaveEntries : Branches → Type 0
  HaveEntries Branches.NoMore = Rattle.std.specs.Prelude.⊤
  HaveEntries (Branches.Named name branch others) = HasEntries branch × HaveEntries others

-- a branch whose names differ, and whose properties are made by entries
pub record IsWhole (branch : Branch) : Type 0 where
  pub apart : is_distinct branch ≡ true
  pub entries : HasEntries branch

-- the branch, if there is one, is whole
abbrev pub IsWholeIf : Option Branch → Type 0
IsWholeIf None = Rattle.std.specs.Prelude.⊤
IsWholeIf (Some branch) = IsWhole branch

-- the tree of a branch, or the tree in which nothing exists
abbrev pub tree_if : Option Branch → Tree
tree_if None = empty_tree
tree_if (Some branch) = tree_of branch

-- a claim about the node that a test selects, from the claims about both nodes
directory_either : (b : Bool) (here there also_here also_there : Option Node) (node : Node)
    → (here ≡ Some node → is_directory_node also_here ≡ true) → (there ≡ Some node → is_directory_node also_there ≡ true)
    → cond b here there ≡ Some node → is_directory_node (cond b also_here also_there) ≡ true
directory_either true here there also_here also_there node one two at = one at
directory_either false here there also_here also_there node one two at = two at

-- each node of a branch is in directories only
mutual
  pub branch_directories : (branch : Branch) (top : NodePath) (name : List ℕ) (rest : NodePath) (node : Node)
      → tree_of branch (top ++ name ∷ rest) ≡ Some node → is_directory_node (tree_of branch top) ≡ true
  branch_directories (Branch.Directory props inside) [] name rest node at = refl
  branch_directories (Branch.Directory props inside) (first ∷ top) name rest node at =
      inside_directories inside first top name rest node at
  branch_directories (Branch.File props text) [] name rest node at = absurd (let bad : None ≡ Some node = at in cc)
  branch_directories (Branch.File props text) (first ∷ top) name rest node at =
      absurd (let bad : None ≡ Some node = at in cc)

  pub inside_directories : (branches : Branches) (first : List ℕ) (top : NodePath) (name : List ℕ) (rest : NodePath)
      (node : Node) → found branches first (top ++ name ∷ rest) None ≡ Some node
      → is_directory_node (found branches first top None) ≡ true
  inside_directories Branches.NoMore first top name rest node at = absurd (let bad : None ≡ Some node = at in cc)
  inside_directories (Branches.Named other branch others) first top name rest node at =
      directory_either (bytes_eq other first) (tree_of branch (top ++ name ∷ rest))
      (found others first (top ++ name ∷ rest) None) (tree_of branch top) (found others first top None) node
      (λ here. branch_directories branch top name rest node here)
      (λ there. inside_directories others first top name rest node there) at

-- a branch that is at a path of a tree
pub record Stands (tree : Tree) (path : NodePath) : Type 0 where
  pub branch : Branch
  pub has : HasBranch tree path branch
  pub whole : IsWhole branch

-- below a name in a directory
stands_found : (tree : Tree) (path : NodePath) (other : Tree) (rest : NodePath)
    → ((more : NodePath) → tree (path ++ more) ≡ other (rest ++ more)) → Stands other rest → Stands tree path
stands_found tree path other rest same s =
    record { branch = s.branch; has = λ more. same more ∙ s.has more; whole = s.whole }

-- whether the first branch has the name
either_stands : (first : List ℕ) (branch : Branch) (others : Branches) (name : List ℕ) (rest : NodePath) (node : Node)
    (tree : Tree)
    → ((more : NodePath) → tree (name ∷ more) ≡ found (Branches.Named first branch others) name more None)
    → (tree_of branch rest ≡ Some node → Stands (tree_of branch) rest)
    → ((t : Tree) → found others name rest None ≡ Some node
    → ((more : NodePath) → t (name ∷ more) ≡ found others name more None) → Stands t (name ∷ rest))
    → (b : Bool) → bytes_eq first name ≡ b → cond b (tree_of branch rest) (found others name rest None) ≡ Some node
    → Stands tree (name ∷ rest)
either_stands first branch others name rest node tree same here there true is at =
    stands_found tree (name ∷ rest) (tree_of branch) rest
    (λ more. same (rest ++ more)
    ∙ ap (λ b. cond b (tree_of branch (rest ++ more)) (found others name (rest ++ more) None)) is) (here at)
either_stands first branch others name rest node tree same here there false is at =
    there tree at
    (λ more. same more ∙ ap (λ b. cond b (tree_of branch more) (found others name more None)) is)

-- at each path of a branch at which something exists, a branch exists
mutual
  pub branch_stands : (branch : Branch) (path : NodePath) (node : Node) → is_distinct branch ≡ true
      → HasEntries branch → tree_of branch path ≡ Some node → Stands (tree_of branch) path
  branch_stands branch [] node apart entries at =
      record { branch = branch; has = λ rest. refl; whole = record { apart = apart; entries = entries } }
  branch_stands (Branch.Directory props inside) (name ∷ rest) node apart entries at =
      inside_stands inside name rest node apart entries.1 at (tree_of (Branch.Directory props inside)) (λ more. refl)
  branch_stands (Branch.File props text) (name ∷ rest) node apart entries at =
      absurd (let bad : None ≡ Some node = at in cc)

  pub inside_stands : (branches : Branches) (name : List ℕ) (rest : NodePath) (node : Node)
      → are_distinct branches ≡ true → HaveEntries branches → found branches name rest None ≡ Some node
      → (tree : Tree) → ((more : NodePath) → tree (name ∷ more) ≡ found branches name more None)
      → Stands tree (name ∷ rest)
  inside_stands Branches.NoMore name rest node apart entries at tree same =
      absurd (let bad : None ≡ Some node = at in cc)
  inside_stands (Branches.Named first branch others) name rest node apart entries at tree same =
      let parts = and_parts (not (has_name first others) && is_distinct branch) (are_distinct others) apart in
      let more = and_parts (not (has_name first others)) (is_distinct branch) parts.0 in
      either_stands first branch others name rest node tree same
      (λ here. branch_stands branch rest node more.1 entries.0 here)
      (λ t there is. inside_stands others name rest node parts.1 entries.1 there t is) (bytes_eq first name) refl at

-- a branch, with another one in place of what is below a name, or with nothing there

abbrev pub with_first : List ℕ → Option Branch → Branches → Branches
with_first name None others = others
with_first name (Some branch) others = Branches.Named name branch others

abbrev pub added : List ℕ → NodePath → Option Branch → Branches
added name [] new = with_first name new Branches.NoMore
added name (next ∷ rest) new = Branches.NoMore

abbrev mutual
  pub replaced : List ℕ → NodePath → Option Branch → Branch → Branch
  replaced name rest new (Branch.Directory props inside) = Branch.Directory props (replaced_inside name rest new inside)
  replaced name rest new (Branch.File props text) = Branch.File props text

  pub replaced_inside : List ℕ → NodePath → Option Branch → Branches → Branches
  replaced_inside name rest new Branches.NoMore = added name rest new
  replaced_inside name [] new (Branches.Named first branch others) =
      cond (bytes_eq first name) (with_first first new others)
      (Branches.Named first branch (replaced_inside name [] new others))
  replaced_inside name (next ∷ rest) new (Branches.Named first branch others) =
      cond (bytes_eq first name) (Branches.Named first (replaced next rest new branch) others)
      (Branches.Named first branch (replaced_inside name (next ∷ rest) new others))

-- what is put in must be in a directory
abbrev pub Holds : Option Branch → Tree → NodePath → Type 0
Holds new tree path = is_some new ≡ true → has_directory tree path ≡ true

holds_not : (new : Option Branch) → (is_some new ≡ true → ⊥) → (o : Option NodePath)
    → None ≡ at_or_below o (tree_if new) None
holds_not None bad None = refl
holds_not None bad (Some rest) = refl
holds_not (Some branch) bad o = absurd (bad refl)

-- nothing is below a file
file_holds : (props : List Property) (text : List ℕ) (name : List ℕ) (rest : NodePath)
    → has_directory (tree_of (Branch.File props text)) (name ∷ rest) ≡ true → ⊥
file_holds props text name [] is = let bad : false ≡ true = is in cc
file_holds props text name (next ∷ rest) is = cases (parent_of (next ∷ rest)) is
  where
    cases : (o : Option NodePath)
        → is_directory_at (tree_of (Branch.File props text)) (option_map (λ p. name ∷ p) o) ≡ true → ⊥
    cases None is = let bad : false ≡ true = is in cc
    cases (Some parent) is = let bad : false ≡ true = is in cc

-- a directory doesn't have it at a missing name either
none_holds : (props : List Property) (name next : List ℕ) (rest : NodePath)
    → has_directory (tree_of (Branch.Directory props Branches.NoMore)) (name ∷ next ∷ rest) ≡ true → ⊥
none_holds props name next rest is = cases (parent_of (next ∷ rest)) is
  where
    cases : (o : Option NodePath)
        → is_directory_at (tree_of (Branch.Directory props Branches.NoMore)) (option_map (λ p. name ∷ p) o) ≡ true → ⊥
    cases None is = let bad : false ≡ true = is in cc
    cases (Some parent) is = let bad : false ≡ true = is in cc

module _ (props : List Property) (first : List ℕ) (branch : Branch) (others : Branches) (name : List ℕ) where
  abbrev both : Tree
  both = tree_of (Branch.Directory props (Branches.Named first branch others))

  hold_others : (rest : NodePath) → bytes_eq first name ≡ false → has_directory both (name ∷ rest) ≡ true
      → has_directory (tree_of (Branch.Directory props others)) (name ∷ rest) ≡ true
  hold_others [] apart is = refl
  hold_others (next ∷ rest) apart is = cases (parent_of (next ∷ rest)) is
    where
      cases : (o : Option NodePath) → is_directory_at both (option_map (λ p. name ∷ p) o) ≡ true
          → is_directory_at (tree_of (Branch.Directory props others)) (option_map (λ p. name ∷ p) o) ≡ true
      cases None is = is
      cases (Some parent) is =
          ap (λ b. is_directory_node (cond b (tree_of branch parent) (found others name parent None))) (sym apart) ∙ is

  hold_branch : (next : List ℕ) (rest : NodePath) → bytes_eq first name ≡ true
      → has_directory both (name ∷ next ∷ rest) ≡ true → has_directory (tree_of branch) (next ∷ rest) ≡ true
  hold_branch next rest same is = cases (parent_of (next ∷ rest)) is
    where
      cases : (o : Option NodePath) → is_directory_at both (option_map (λ p. name ∷ p) o) ≡ true
          → is_directory_at (tree_of branch) o ≡ true
      cases None is = is
      cases (Some parent) is =
          ap (λ b. is_directory_node (cond b (tree_of branch parent) (found others name parent None))) (sym same) ∙ is

-- a branch with another name doesn't change
apart_case : (first name : List ℕ) → bytes_eq first name ≡ false → (q : List ℕ) (here left right : Option Node)
    (o : Option NodePath) (new : Tree) → left ≡ at_or_below (cond (bytes_eq name q) o None) new right → (b : Bool)
    → bytes_eq first q ≡ b
    → cond b here left ≡ at_or_below (cond (bytes_eq name q) o None) new (cond b here right)
apart_case first name apart q here left right o new same false other = same
apart_case first name apart q here left right o new same true is = cases (bytes_eq name q) refl
  where
    cases : (b : Bool) → bytes_eq name q ≡ b → here ≡ at_or_below (cond b o None) new here
    cases false away = refl
    cases true same =
        absurd (both_ways (bytes_eq first name) apart
        ((bytes_eq-Decides first name).1
        ((bytes_eq-Decides first q).0 is ∙ sym ((bytes_eq-Decides name q).0 same))))

-- the branch with the name is replaced as a whole
first_case : (first : List ℕ) (new : Option Branch) (branch : Branch) (others : Branches)
    → has_name first others ≡ false → (q : List ℕ) (r : NodePath) (b : Bool) → bytes_eq first q ≡ b
    → found (with_first first new others) q r None
    ≡ at_or_below (cond b (Some r) None) (tree_if new) (cond b (tree_of branch r) (found others q r None))
first_case first None branch others none q r true same =
    not_found others q r None (subst (λ n. has_name n others ≡ false) ((bytes_eq-Decides first q).0 same) none)
first_case first None branch others none q r false apart = refl
first_case first (Some new) branch others none q r true same =
    ap (λ b. cond b (tree_of new r) (found others q r None)) same
first_case first (Some new) branch others none q r false apart =
    ap (λ b. cond b (tree_of new r) (found others q r None)) apart

-- a branch below it is replaced within it
within_case : (here before there : Option Node) (o : Option NodePath) (new : Tree)
    → here ≡ at_or_below o new before → (b : Bool)
    → cond b here there ≡ at_or_below (cond b o None) new (cond b before there)
within_case here before there o new same true = same
within_case here before there o new same false = refl

module _ (new : Option Branch) where
  mutual
    pub replaced_tree : (branch : Branch) (name : List ℕ) (rest : NodePath) → is_distinct branch ≡ true
        → Holds new (tree_of branch) (name ∷ rest) → (path : NodePath)
        → tree_of (replaced name rest new branch) path ≡ grafted (name ∷ rest) (tree_if new) (tree_of branch) path
    replaced_tree (Branch.Directory props inside) name rest apart holds [] = refl
    replaced_tree (Branch.Directory props inside) name rest apart holds (q ∷ r) =
        inside_tree inside name rest props apart holds q r
    replaced_tree (Branch.File props text) name rest apart holds [] = refl
    replaced_tree (Branch.File props text) name rest apart holds (q ∷ r) =
        holds_not new (λ some. file_holds props text name rest (holds some)) (below (name ∷ rest) (q ∷ r))

    pub inside_tree : (branches : Branches) (name : List ℕ) (rest : NodePath) (props : List Property)
        → are_distinct branches ≡ true
        → Holds new (tree_of (Branch.Directory props branches)) (name ∷ rest) → (q : List ℕ) (r : NodePath)
        → found (replaced_inside name rest new branches) q r None
        ≡ at_or_below (cond (bytes_eq name q) (below rest r) None) (tree_if new) (found branches q r None)
    inside_tree Branches.NoMore name [] props apart holds q r =
        first_case name new (Branch.File [] []) Branches.NoMore refl q r (bytes_eq name q) refl
        ∙ alone (bytes_eq name q) new
      where
        alone : (b : Bool) (o : Option Branch)
            → at_or_below (cond b (Some r) None) (tree_if o) (cond b (tree_of (Branch.File [] []) r) None)
            ≡ at_or_below (cond b (Some r) None) (tree_if o) None
        alone true o = refl
        alone false o = refl
    inside_tree Branches.NoMore name (next ∷ rest) props apart holds q r =
        holds_not new (λ some. none_holds props name next rest (holds some))
        (cond (bytes_eq name q) (below (next ∷ rest) r) None)
    inside_tree (Branches.Named first branch others) name [] props apart holds q r =
        let parts = and_parts (not (has_name first others) && is_distinct branch) (are_distinct others) apart in
        let more = and_parts (not (has_name first others)) (is_distinct branch) parts.0 in
        cases more.0 (λ away. inside_tree others name [] props parts.1
        (λ some. hold_others props first branch others name [] away (holds some)) q r) (bytes_eq first name) refl
      where
        cases : not (has_name first others) ≡ true
            → (bytes_eq first name ≡ false
            → found (replaced_inside name [] new others) q r None
            ≡ at_or_below (cond (bytes_eq name q) (Some r) None) (tree_if new) (found others q r None))
            → (b : Bool) → bytes_eq first name ≡ b
            → found (cond b (with_first first new others)
            (Branches.Named first branch (replaced_inside name [] new others))) q r None
            ≡ at_or_below (cond (bytes_eq name q) (Some r) None) (tree_if new)
            (cond (bytes_eq first q) (tree_of branch r) (found others q r None))
        cases none further true same =
            first_case first new branch others (not-true _ none) q r (bytes_eq first q) refl
            ∙ ap (λ n. at_or_below (cond (bytes_eq n q) (Some r) None) (tree_if new)
            (cond (bytes_eq first q) (tree_of branch r) (found others q r None)))
            ((bytes_eq-Decides first name).0 same)
        cases none further false away =
            apart_case first name away q (tree_of branch r) (found (replaced_inside name [] new others) q r None)
            (found others q r None) (Some r) (tree_if new) (further away) (bytes_eq first q) refl
    inside_tree (Branches.Named first branch others) name (next ∷ rest) props apart holds q r =
        let parts = and_parts (not (has_name first others) && is_distinct branch) (are_distinct others) apart in
        let more = and_parts (not (has_name first others)) (is_distinct branch) parts.0 in
        cases
        (λ same. replaced_tree branch next rest more.1
        (λ some. hold_branch props first branch others name next rest same (holds some)) r)
        (λ away. inside_tree others name (next ∷ rest) props parts.1
        (λ some. hold_others props first branch others name (next ∷ rest) away (holds some)) q r)
        (bytes_eq first name) refl
      where
        cases : (bytes_eq first name ≡ true
            → tree_of (replaced next rest new branch) r
            ≡ grafted (next ∷ rest) (tree_if new) (tree_of branch) r)
            → (bytes_eq first name ≡ false
            → found (replaced_inside name (next ∷ rest) new others) q r None
            ≡ at_or_below (cond (bytes_eq name q) (below (next ∷ rest) r) None) (tree_if new) (found others q r None))
            → (b : Bool) → bytes_eq first name ≡ b
            → found (cond b (Branches.Named first (replaced next rest new branch) others)
            (Branches.Named first branch (replaced_inside name (next ∷ rest) new others))) q r None
            ≡ at_or_below (cond (bytes_eq name q) (below (next ∷ rest) r) None) (tree_if new)
            (cond (bytes_eq first q) (tree_of branch r) (found others q r None))
        cases within further true same =
            within_case (tree_of (replaced next rest new branch) r) (tree_of branch r) (found others q r None)
            (below (next ∷ rest) r) (tree_if new) (within same) (bytes_eq first q)
            ∙ ap (λ n. at_or_below (cond (bytes_eq n q) (below (next ∷ rest) r) None) (tree_if new)
            (cond (bytes_eq first q) (tree_of branch r) (found others q r None)))
            ((bytes_eq-Decides first name).0 same)
        cases within further false away =
            apart_case first name away q (tree_of branch r)
            (found (replaced_inside name (next ∷ rest) new others) q r None)
            (found others q r None) (below (next ∷ rest) r) (tree_if new) (further away) (bytes_eq first q) refl

  -- there are no other names
  no_name : (branches : Branches) (name : List ℕ) (rest : NodePath) (other : List ℕ)
      → has_name other branches ≡ false → bytes_eq name other ≡ false
      → has_name other (replaced_inside name rest new branches) ≡ false
  no_name Branches.NoMore name [] other none apart = cases new
    where
      cases : (o : Option Branch) → has_name other (with_first name o Branches.NoMore) ≡ false
      cases None = refl
      cases (Some branch) = or_from (bytes_eq name other) false apart refl
  no_name Branches.NoMore name (next ∷ rest) other none apart = refl
  no_name (Branches.Named first branch others) name [] other none apart =
      let parts = or_parts (bytes_eq first other) (has_name other others) none in
      cases parts.0 parts.1 (no_name others name [] other parts.1 apart) (bytes_eq first name) new
    where
      cases : bytes_eq first other ≡ false → has_name other others ≡ false
          → has_name other (replaced_inside name [] new others) ≡ false → (b : Bool) (o : Option Branch)
          → has_name other (cond b (with_first first o others)
          (Branches.Named first branch (replaced_inside name [] new others))) ≡ false
      cases away none further true None = none
      cases away none further true (Some s) = or_from (bytes_eq first other) (has_name other others) away none
      cases away none further false o =
          or_from (bytes_eq first other) (has_name other (replaced_inside name [] new others)) away further
  no_name (Branches.Named first branch others) name (next ∷ rest) other none apart =
      let parts = or_parts (bytes_eq first other) (has_name other others) none in
      cases parts.0 parts.1 (no_name others name (next ∷ rest) other parts.1 apart) (bytes_eq first name)
    where
      cases : bytes_eq first other ≡ false → has_name other others ≡ false
          → has_name other (replaced_inside name (next ∷ rest) new others) ≡ false → (b : Bool)
          → has_name other (cond b (Branches.Named first (replaced next rest new branch) others)
          (Branches.Named first branch (replaced_inside name (next ∷ rest) new others))) ≡ false
      cases away none further true = or_from (bytes_eq first other) (has_name other others) away none
      cases away none further false =
          or_from (bytes_eq first other) (has_name other (replaced_inside name (next ∷ rest) new others)) away further

-- the same for another name, the other way round
pub other_side : (first name : List ℕ) → bytes_eq first name ≡ false → bytes_eq name first ≡ false
other_side first name apart = cases (bytes_eq name first) refl
  where
    cases : (b : Bool) → bytes_eq name first ≡ b → b ≡ false
    cases false away = refl
    cases true same =
        absurd (both_ways (bytes_eq first name) apart
        ((bytes_eq-Decides first name).1 (sym ((bytes_eq-Decides name first).0 same))))

named_apart : (name : List ℕ) (branch : Branch) (others : Branches) → has_name name others ≡ false
    → is_distinct branch ≡ true → are_distinct others ≡ true
    → are_distinct (Branches.Named name branch others) ≡ true
named_apart name branch others none one two =
    and_from (not (has_name name others) && is_distinct branch) (are_distinct others)
    (and_from (not (has_name name others)) (is_distinct branch) (not_from_false _ none) one) two

module _ (new : Option Branch) (is : IsWholeIf new) where
  -- the new branch in front of the others
  first_whole : (first : List ℕ) (o : Option Branch) → IsWholeIf o → (others : Branches)
      → has_name first others ≡ false → are_distinct others ≡ true → HaveEntries others
      → (are_distinct (with_first first o others) ≡ true) × HaveEntries (with_first first o others)
  first_whole first None w others none apart entries = (apart, entries)
  first_whole first (Some branch) w others none apart entries =
      (named_apart first branch others none w.apart apart, (w.entries, entries))

  mutual
    pub replaced_whole : (branch : Branch) (name : List ℕ) (rest : NodePath) → is_distinct branch ≡ true
        → HasEntries branch
        → (is_distinct (replaced name rest new branch) ≡ true) × HasEntries (replaced name rest new branch)
    replaced_whole (Branch.Directory props inside) name rest apart entries =
        let more = inside_whole inside name rest apart entries.1 in (more.0, (entries.0, more.1))
    replaced_whole (Branch.File props text) name rest apart entries = (apart, entries)

    pub inside_whole : (branches : Branches) (name : List ℕ) (rest : NodePath) → are_distinct branches ≡ true
        → HaveEntries branches
        → (are_distinct (replaced_inside name rest new branches) ≡ true)
        × HaveEntries (replaced_inside name rest new branches)
    inside_whole Branches.NoMore name [] apart entries = first_whole name new is Branches.NoMore refl refl tt
    inside_whole Branches.NoMore name (next ∷ rest) apart entries = (refl, tt)
    inside_whole (Branches.Named first branch others) name [] apart entries =
        let parts = and_parts (not (has_name first others) && is_distinct branch) (are_distinct others) apart in
        let more = and_parts (not (has_name first others)) (is_distinct branch) parts.0 in
        cases (first_whole first new is others (not-true _ more.0) parts.1 entries.1)
        (inside_whole others name [] parts.1 entries.1) (not-true _ more.0) more.1 (bytes_eq first name) refl
      where
        cases : (are_distinct (with_first first new others) ≡ true) × HaveEntries (with_first first new others)
            → (are_distinct (replaced_inside name [] new others) ≡ true)
            × HaveEntries (replaced_inside name [] new others)
            → has_name first others ≡ false → is_distinct branch ≡ true
            → (b : Bool) → bytes_eq first name ≡ b
            → (are_distinct (cond b (with_first first new others)
            (Branches.Named first branch (replaced_inside name [] new others))) ≡ true)
            × HaveEntries (cond b (with_first first new others)
            (Branches.Named first branch (replaced_inside name [] new others)))
        cases one two none here true same = one
        cases one two none here false away = (
          named_apart first branch (replaced_inside name [] new others)
              (no_name new others name [] first none (other_side first name away)) here two.0,
          (entries.0, two.1),
        )
    inside_whole (Branches.Named first branch others) name (next ∷ rest) apart entries =
        let parts = and_parts (not (has_name first others) && is_distinct branch) (are_distinct others) apart in
        let more = and_parts (not (has_name first others)) (is_distinct branch) parts.0 in
        cases (replaced_whole branch next rest more.1 entries.0)
        (inside_whole others name (next ∷ rest) parts.1 entries.1) (not-true _ more.0) more.1 parts.1
        (bytes_eq first name) refl
      where
        cases : (is_distinct (replaced next rest new branch) ≡ true) × HasEntries (replaced next rest new branch)
            → (are_distinct (replaced_inside name (next ∷ rest) new others) ≡ true)
            × HaveEntries (replaced_inside name (next ∷ rest) new others)
            → has_name first others ≡ false → is_distinct branch ≡ true → are_distinct others ≡ true
            → (b : Bool) → bytes_eq first name ≡ b
            → (are_distinct (cond b (Branches.Named first (replaced next rest new branch) others)
            (Branches.Named first branch (replaced_inside name (next ∷ rest) new others))) ≡ true)
            × HaveEntries (cond b (Branches.Named first (replaced next rest new branch) others)
            (Branches.Named first branch (replaced_inside name (next ∷ rest) new others)))
        cases one two none here behind true same =
            (named_apart first (replaced next rest new branch) others none one.0 behind, (one.1, entries.1))
        cases one two none here behind false away = (
          named_apart first branch (replaced_inside name (next ∷ rest) new others)
              (no_name new others name (next ∷ rest) first none (other_side first name away)) here two.0,
          (entries.0, two.1),
        )
