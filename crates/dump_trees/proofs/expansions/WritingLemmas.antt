-- Changes that write a branch out make it, and the cut separates them.
use Rattle.dump_trees.proofs.Prelude.{◌≡◌, not, cond, bytes_eq, refl, sym, ap, ◌∙◌, subst, inl, inr, ◌⊎◌, append-nil, append_assoc, option_map, both_ways, and_parts, and_from, or_left, or_right, not-true, bytes_eq-Decides, Property, Settings, NodePath, keeps, below, Node, Tree, is_directory_node, at_or_below, grafted, at_top, put, Made, PropertyChange, TextChange, Change, History, has_directory, edited_with, with_props, with_text, text_set, props_set, copied, step, Separates, LeavesKept}
use Rattle.std.proofs.Common.{ℕ, Bool, true, false, ◌&&◌, List, [], ◌∷◌, ◌++◌, Option, Some, None, option_and_then, is_some, is_none}
use Rattle.dump_trees.specs.steps.Branches.{Branch, Branches, tree_of, has_name, is_distinct, are_distinct, HasBranch}
use Rattle.dump_trees.specs.steps.WritingOut.{copy_of, directory_of, file_of, IsCutAlike, IsLeftOut, IsCopied, WritesOut, WritesInside}
use Rattle.dump_trees.specs.steps.Leading.{Leads}
use Rattle.dump_trees.proofs.changes.TreeLemmas.{below_rest, below_found}
use Rattle.dump_trees.proofs.expansions.LeadLemmas.{leads_nowhere, leads_first, leads_one, leads_then}
use Rattle.dump_trees.proofs.expansions.BranchLemmas.{graft_outside, put_twice, child_directory, child_apart, below_joined, IsClear, root_stands, laid, laid_none, laid_first, laid_directory, file_grafted}
use Rattle.dump_trees.proofs.changes.PlainLemmas.{put_at}

-- single changes

-- if nothing exists at the path and the parent is a directory, something may be put there
free_there : (tree : Tree) (path : NodePath) → tree path ≡ None → has_directory tree path ≡ true
    → (is_none (tree path) && has_directory tree path) ≡ true
free_there tree path none some = and_from (is_none (tree path)) (has_directory tree path) (ap is_none none) some

-- a new directory with its properties
directory_step : (history : History) (path : NodePath) (entries : List Property) (tree : Tree) → tree path ≡ None
    → has_directory tree path ≡ true
    → step history tree (directory_of path entries)
    ≡ Some (put path (Node.Directory (edited_with entries [])) tree)
directory_step history path entries tree none some =
    ap (λ b. option_and_then (λ t. text_set None path t)
    (option_and_then (λ t. props_set (Some (PropertyChange.Replaced entries)) path t)
    (cond b (Some (put path (Node.Directory []) tree)) None)))
    (free_there tree path none some)
    ∙ (ap (λ o. option_and_then (λ t. text_set None path t)
    (option_map (λ node. put path (with_props (PropertyChange.Replaced entries) node) (put path (Node.Directory []) tree))
    o)) (put_at path (Node.Directory []) tree)
    ∙ ap Some (put_twice path (Node.Directory (edited_with entries [])) (Node.Directory []) tree))

-- a new file with its properties and its text
file_step : (history : History) (path : NodePath) (entries : List Property) (text : List ℕ) (tree : Tree)
    → tree path ≡ None → has_directory tree path ≡ true
    → step history tree (file_of path entries text)
    ≡ Some (put path (Node.File (edited_with entries []) text) tree)
file_step history path entries text tree none some =
    ap (λ b. option_and_then (λ t. text_set (Some (TextChange.Replaced text)) path t)
    (option_and_then (λ t. props_set (Some (PropertyChange.Replaced entries)) path t)
    (cond b (Some one) None)))
    (free_there tree path none some)
    ∙ (ap (λ o. option_and_then (λ t. text_set (Some (TextChange.Replaced text)) path t)
    (option_map (λ node. put path (with_props (PropertyChange.Replaced entries) node) one) o))
    (put_at path (Node.File [] []) tree)
    ∙ (ap (λ o. option_map (λ node. put path node two)
    (option_and_then (λ node. with_text (TextChange.Replaced text) node) o))
    (put_at path (Node.File (edited_with entries []) []) one)
    ∙ ap Some
    (put_twice path (Node.File (edited_with entries []) text) (Node.File (edited_with entries []) []) one
    ∙ put_twice path (Node.File (edited_with entries []) text) (Node.File [] []) tree)))
  where
    one : Tree
    one = put path (Node.File [] []) tree

    two : Tree
    two = put path (Node.File (edited_with entries []) []) one

module _ (settings : Settings) (history : History) where
  -- a node that is put where no path is kept doesn't change the kept ones
  pub put_leaves : (path : NodePath) (node : Node) (tree : Tree) → keeps settings path ≡ false
      → LeavesKept settings tree (put path node tree)
  put_leaves path node tree left p kept = cases (below path p) refl
    where
      cases : (o : Option NodePath) → below path p ≡ o → at_top o node (tree p) ≡ tree p
      cases None at = refl
      cases (Some (name ∷ rest)) at = refl
      cases (Some []) at =
          absurd (both_ways (keeps settings p)
          (ap (λ q. keeps settings q) (below_rest path p [] at ∙ append-nil path) ∙ left) kept)

  directory_apart : (path : NodePath) (entries : List Property) (node : Node) (tree : Tree)
      → Separates settings history tree (directory_of path entries) (put path node tree)
  directory_apart path entries node tree = record {
    copy =
        λ kept number source is. absurd (let bad : Some Made.NewDirectory ≡ Some (Made.Copied number source) = is in cc);
    plain =
        λ kept number source is. absurd (let bad : Some Made.NewDirectory ≡ Some (Made.Copied number source) = is in cc);
    dropped = put_leaves path node tree;
  }

  file_apart : (path : NodePath) (entries : List Property) (text : List ℕ) (node : Node) (tree : Tree)
      → Separates settings history tree (file_of path entries text) (put path node tree)
  file_apart path entries text node tree = record {
    copy =
        λ kept number source is. absurd (let bad : Some Made.NewFile ≡ Some (Made.Copied number source) = is in cc);
    plain =
        λ kept number source is. absurd (let bad : Some Made.NewFile ≡ Some (Made.Copied number source) = is in cc);
    dropped = put_leaves path node tree;
  }

  -- a copy of a place with the branch
  module _ (path : NodePath) (branch : Branch) (number : ℕ) (source : NodePath) (old : Tree)
      (there : history number ≡ Some old) (stands : HasBranch old source branch) (tree : Tree) where
    copy_step : has_directory tree path ≡ true
        → step history tree (copy_of number source path) ≡ Some (grafted path (tree_of branch) tree)
    copy_step some =
        ap (λ o. option_and_then (λ t. text_set None path t)
        (option_and_then (λ t. props_set None path t) (option_and_then (λ from. copied source path tree from) o))) there
        ∙ (ap (λ b. option_and_then (λ t. text_set None path t)
        (option_and_then (λ t. props_set None path t)
        (cond b (Some (grafted path (λ rest. old (source ++ rest)) tree)) None)))
        (and_from (is_some (old source)) (has_directory tree path)
        (ap is_some (sym (ap old (append-nil source)) ∙ (stands [] ∙ (root_stands branch).1))) some)
        ∙ λ i. Some (grafted path (λ rest. stands rest i) tree))

    copy_apart : IsClear tree path → IsCutAlike settings path source branch ⊎ IsLeftOut settings path branch
        → Separates settings history tree (copy_of number source path) (grafted path (tree_of branch) tree)
    copy_apart clear (inl (kept, kept_source, alike)) = record {
      copy = λ is other from made is_from o at rest node stands_there.
          let one : number ≡ other = (let same : Some (Made.Copied number source) ≡ Some (Made.Copied other from)
          = made in cc) in
          let two : source ≡ from = (let same : Some (Made.Copied number source) ≡ Some (Made.Copied other from)
          = made in cc) in
          let three : old ≡ o = (let both : Some old ≡ Some o = sym there ∙ (ap history one ∙ at) in cc) in
          alike rest node (sym (stands rest)
          ∙ ((λ i. three i (two i ++ rest)) ∙ stands_there))
          ∙ ap (λ p. keeps settings (p ++ rest)) two;
      plain = λ is other from made left.
          let two : source ≡ from = (let same : Some (Made.Copied number source) ≡ Some (Made.Copied other from)
          = made in cc) in
          absurd (both_ways (keeps settings source) (ap (λ p. keeps settings p) two ∙ left) kept_source);
      dropped = λ left. absurd (both_ways (keeps settings path) left kept);
    }
    copy_apart clear (inr left) = record {
      copy = λ kept. absurd (both_ways (keeps settings path) path_left kept);
      plain = λ kept. absurd (both_ways (keeps settings path) path_left kept);
      dropped = λ is p kept. cases p kept (below path p) refl;
    }
      where
        path_left : keeps settings path ≡ false
        path_left =
            ap (λ p. keeps settings p) (sym (append-nil path)) ∙ left [] (root_stands branch).0 (root_stands branch).1

        node_there : (p rest : NodePath) → keeps settings p ≡ true → p ≡ path ++ rest → (o : Option Node)
            → tree_of branch rest ≡ o → o ≡ tree p
        node_there p rest kept is None at = sym (ap tree is ∙ clear rest)
        node_there p rest kept is (Some node) at =
            absurd (both_ways (keeps settings p) (ap (λ q. keeps settings q) is ∙ left rest node at) kept)

        cases : (p : NodePath) → keeps settings p ≡ true → (o : Option NodePath) → below path p ≡ o
            → at_or_below o (tree_of branch) (tree p) ≡ tree p
        cases p kept None at = refl
        cases p kept (Some rest) at = node_there p rest kept (below_rest path p rest at) (tree_of branch rest) refl

  copied_leads : (path : NodePath) (branch : Branch) (changes : List Change) (tree : Tree) → IsClear tree path
      → has_directory tree path ≡ true → IsCopied settings history path branch changes
      → Leads settings history tree changes (grafted path (tree_of branch) tree)
  copied_leads path branch changes tree clear some is =
      subst (λ cs. Leads settings history tree cs (grafted path (tree_of branch) tree)) (sym is.one)
      (leads_one settings history tree (grafted path (tree_of branch) tree) (copy_of is.number is.source path)
      (copy_step path branch is.number is.source is.old is.there is.stands tree some)
      (copy_apart path branch is.number is.source is.old is.there is.stands tree clear is.apart))

  -- the root of a directory is made, and after that what is in it
  directory_leads : (path : NodePath) (props : List Property) (inside : Branches) (entries : List Property)
      (rest : List Change) (tree : Tree) → IsClear tree path → has_directory tree path ≡ true
      → edited_with entries [] ≡ props
      → ((t : Tree) → is_directory_node (t path) ≡ true
      → ((name : List ℕ) → has_name name inside ≡ true → IsClear t (path ++ name ∷ []))
      → Leads settings history t rest (laid path inside t))
      → Leads settings history tree (directory_of path entries ∷ rest)
      (grafted path (tree_of (Branch.Directory props inside)) tree)
  directory_leads path props inside entries rest tree clear some makes further =
      subst (λ t. Leads settings history tree (directory_of path entries ∷ rest) t)
      (laid_directory path props inside tree clear)
      (leads_first settings history tree made (laid path inside made) (directory_of path entries) rest
      (directory_step history path entries tree (ap tree (sym (append-nil path)) ∙ clear []) some
      ∙ ap (λ ps. Some (put path (Node.Directory ps) tree)) makes)
      (directory_apart path entries (Node.Directory props) tree)
      (further made (ap is_directory_node (put_at path (Node.Directory props) tree)) free))
    where
      made : Tree
      made = put path (Node.Directory props) tree

      free : (name : List ℕ) → has_name name inside ≡ true → IsClear made (path ++ name ∷ [])
      free name is more =
          ap made (append_assoc path (name ∷ []) more)
          ∙ (ap (λ o. at_top o (Node.Directory props) (tree (path ++ name ∷ more))) (below_found path (name ∷ more))
          ∙ clear (name ∷ more))

  -- other names stay free when a branch is made
  stays_free : (path : NodePath) (name : List ℕ) (branch : Branch) (others : Branches) (tree : Tree)
      → has_name name others ≡ false
      → ((other : List ℕ) → has_name other others ≡ true → IsClear tree (path ++ other ∷ []))
      → (other : List ℕ) → has_name other others ≡ true
      → IsClear (grafted (path ++ name ∷ []) (tree_of branch) tree) (path ++ other ∷ [])
  stays_free path name branch others tree none free other is more =
      graft_outside (path ++ name ∷ []) (tree_of branch) tree ((path ++ other ∷ []) ++ more)
      (ap (λ p. below (path ++ name ∷ []) p) (append_assoc path (other ∷ []) more)
      ∙ (below_joined path (name ∷ []) (path ++ other ∷ more)
      ∙ (ap (option_and_then (λ rest. below (name ∷ []) rest)) (below_found path (other ∷ more))
      ∙ cases (bytes_eq name other) refl)))
      ∙ free other is more
    where
      cases : (b : Bool) → bytes_eq name other ≡ b → cond b (Some more) None ≡ None
      cases false apart = refl
      cases true same =
          absurd (both_ways (has_name other others)
          (subst (λ n. has_name n others ≡ false) ((bytes_eq-Decides name other).0 same) none) is)

  mutual
    pub branch_leads : (branch : Branch) (path : NodePath) (changes : List Change) (tree : Tree)
        → is_distinct branch ≡ true → IsClear tree path → has_directory tree path ≡ true
        → WritesOut settings history path branch changes
        → Leads settings history tree changes (grafted path (tree_of branch) tree)
    branch_leads (Branch.Directory props inside) path changes tree apart clear some (inl is) =
        copied_leads path (Branch.Directory props inside) changes tree clear some is
    branch_leads (Branch.Directory props inside) path changes tree apart clear some (inr (entries, rest, same, makes, more)) =
        subst (λ cs. Leads settings history tree cs (grafted path (tree_of (Branch.Directory props inside)) tree)) (sym same)
        (directory_leads path props inside entries rest tree clear some makes
        (λ t is free. inside_leads inside path rest t apart is free more))
    branch_leads (Branch.File props text) path changes tree apart clear some (inl is) =
        copied_leads path (Branch.File props text) changes tree clear some is
    branch_leads (Branch.File props text) path changes tree apart clear some (inr (entries, same, makes)) =
        subst (λ cs. Leads settings history tree cs (grafted path (tree_of (Branch.File props text)) tree)) (sym same)
        (subst (λ t. Leads settings history tree (file_of path entries text ∷ []) t)
        (file_grafted path props text tree clear)
        (leads_one settings history tree (put path (Node.File props text) tree) (file_of path entries text)
        (file_step history path entries text tree (ap tree (sym (append-nil path)) ∙ clear []) some
        ∙ ap (λ ps. Some (put path (Node.File ps text) tree)) makes)
        (file_apart path entries text (Node.File props text) tree)))

    inside_leads : (branches : Branches) (path : NodePath) (changes : List Change) (tree : Tree)
        → are_distinct branches ≡ true → is_directory_node (tree path) ≡ true
        → ((name : List ℕ) → has_name name branches ≡ true → IsClear tree (path ++ name ∷ []))
        → WritesInside settings history path branches changes
        → Leads settings history tree changes (laid path branches tree)
    inside_leads Branches.NoMore path changes tree apart is free none =
        subst (λ cs. Leads settings history tree cs (laid path Branches.NoMore tree)) (sym none)
        (subst (λ t. Leads settings history tree [] t) (sym (laid_none path tree)) (leads_nowhere settings history tree))
    inside_leads (Branches.Named name branch others) path changes tree apart is free (first, rest, same, here, there) =
        let parts = and_parts (not (has_name name others) && is_distinct branch) (are_distinct others) apart in
        let more = and_parts (not (has_name name others)) (is_distinct branch) parts.0 in
        let none : has_name name others ≡ false = not-true _ more.0 in
        let between : Tree = grafted (path ++ name ∷ []) (tree_of branch) tree in
        subst (λ cs. Leads settings history tree cs (laid path (Branches.Named name branch others) tree)) (sym same)
        (subst (λ t. Leads settings history tree (first ++ rest) t) (laid_first path name branch others tree none)
        (leads_then settings history first rest tree between (laid path others between)
        (branch_leads branch (path ++ name ∷ []) first tree more.1
        (free name (or_left (bytes_eq name name) (has_name name others) ((bytes_eq-Decides name name).1 refl)))
        (child_directory tree path name is) here)
        (inside_leads others path rest between parts.1
        (ap is_directory_node (graft_outside (path ++ name ∷ []) (tree_of branch) tree path (child_apart path name)) ∙ is)
        (stays_free path name branch others tree none
        (λ other named. free other (or_right (bytes_eq name other) (has_name other others) named)))
        there)))
