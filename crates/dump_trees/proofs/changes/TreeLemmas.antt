-- Trees: what exists at a path and below it, and which of it the restricted tree has.
use Rattle.dump_trees.proofs.Prelude.{◌≡◌, option_map, cond, bytes_eq, IsTrue, IsFalse, refl, sym, ap, ◌∙◌, subst, append-nil, both_ways, bytes_eq-Decides, Settings, NodePath, keeps, below, parent_of, Node, Tree, is_directory_node, at_or_below, grafted, at_top, put, is_directory_at, has_directory, given, NewProperty, IsNewNode, IsRestricted}
use Rattle.std.proofs.Common.{ℕ, Bool, true, false, List, [], ◌∷◌, ◌++◌, Option, Some, None, is_some}
use Rattle.dump_trees.proofs.paths.KeptPaths.{gives_nothing, gives_above}

-- what is missing is none
pub none_of : {A : Type 0} (o : Option A) → is_some o ≡ false → o ≡ None
none_of None is = refl
none_of (Some x) is = absurd (let bad : true ≡ false = is in cc)

-- paths

-- the rest of a path is what follows the top
pub below_rest : (top path rest : NodePath) → below top path ≡ Some rest → path ≡ top ++ rest
below_rest [] path rest is = let same : Some path ≡ Some rest = is in cc
below_rest (name ∷ top) [] rest is = absurd (let bad : None ≡ Some rest = is in cc)
below_rest (name ∷ top) (other ∷ path) rest is = cases (below_rest top path rest) (bytes_eq name other) refl is
  where
    cases : (below top path ≡ Some rest → path ≡ top ++ rest) → (b : Bool) → bytes_eq name other ≡ b
        → cond b (below top path) None ≡ Some rest
        → other ∷ path ≡ name ∷ (top ++ rest)
    cases behind false apart bad = absurd (let worse : None ≡ Some rest = bad in cc)
    cases behind true same found =
        let one : name ≡ other = (bytes_eq-Decides name other).0 same in
        let two : path ≡ top ++ rest = behind found in
        cc

-- a path below the top is found
pub below_found : (top rest : NodePath) → below top (top ++ rest) ≡ Some rest
below_found [] rest = refl
below_found (name ∷ top) rest =
    ap (λ b. cond b (below top (top ++ rest)) None) ((bytes_eq-Decides name name).1 refl) ∙ below_found top rest

-- the top is found
pub below_top : (top : NodePath) → below top top ≡ Some []
below_top top = subst (λ path. below top path ≡ Some []) (append-nil top) (below_found top [])

-- a path is its parent and a name
pub parent_rest : (path parent : NodePath) → parent_of path ≡ Some parent → (name : List ℕ)
    × (path ≡ parent ++ name ∷ [])
parent_rest [] parent is = absurd (let bad : None ≡ Some parent = is in cc)
parent_rest (name ∷ []) parent is =
    let same : [] ≡ parent = (let both : Some [] ≡ Some parent = is in cc) in
    (name, ap (λ p. p ++ name ∷ []) same)
parent_rest (name ∷ other ∷ path) parent is =
    cases (λ p found. parent_rest (other ∷ path) p found) (parent_of (other ∷ path)) refl is
  where
    cases : ((p : NodePath) → parent_of (other ∷ path) ≡ Some p → (last : List ℕ) × (other ∷ path ≡ p ++ last ∷ []))
        → (o : Option NodePath) → parent_of (other ∷ path) ≡ o → option_map (λ p. name ∷ p) o ≡ Some parent
        → (last : List ℕ) × (name ∷ other ∷ path ≡ parent ++ last ∷ [])
    cases at None nothing bad = absurd (let worse : None ≡ Some parent = bad in cc)
    cases at (Some p) found is =
        let same : name ∷ p ≡ parent = (let both : Some (name ∷ p) ≡ Some parent = is in cc) in
        let behind = at p found in
        (behind.0, ap (λ q. name ∷ q) behind.1 ∙ ap (λ q. q ++ behind.0 ∷ []) same)

-- nodes of the two trees

-- one exists exactly if the other does
pub same_presence : (IsNew : NewProperty) (a b : Option Node) → IsNewNode IsNew a b → is_some a ≡ is_some b
same_presence IsNew None None new = refl
same_presence IsNew None (Some b) new = absurd new
same_presence IsNew (Some (Node.Directory props)) None new = absurd new
same_presence IsNew (Some (Node.File props text)) None new = absurd new
same_presence IsNew (Some a) (Some b) new = refl

-- one is a directory exactly if the other is
pub same_kind : (IsNew : NewProperty) (a b : Option Node) → IsNewNode IsNew a b → is_directory_node a ≡ is_directory_node b
same_kind IsNew None None new = refl
same_kind IsNew None (Some b) new = absurd new
same_kind IsNew (Some (Node.Directory props)) None new = absurd new
same_kind IsNew (Some (Node.File props text)) None new = absurd new
same_kind IsNew (Some (Node.Directory props)) (Some (Node.Directory others)) new = refl
same_kind IsNew (Some (Node.Directory props)) (Some (Node.File others text)) new = absurd new
same_kind IsNew (Some (Node.File props text)) (Some (Node.Directory others)) new = absurd new
same_kind IsNew (Some (Node.File props text)) (Some (Node.File others same)) new = refl

nothing_new : (IsNew : NewProperty) (a b : Option Node) → IsNewNode IsNew a b → a ≡ None → b ≡ None
nothing_new IsNew None None new is = refl
nothing_new IsNew None (Some b) new is = absurd new
nothing_new IsNew (Some a) b new is = absurd (let bad : Some a ≡ None = is in cc)

-- restricted trees

module _ (settings : Settings) (IsNew : NewProperty) where
  -- what exists at a path of the two trees
  abbrev pub RestrictedAt : NodePath → Option Node → Option Node → Type 0
  RestrictedAt path old new =
      (IsTrue (keeps settings path) → IsNewNode IsNew old new)
      × (IsFalse (keeps settings path) → new ≡ given settings path)

  -- if nothing exists at or below a kept path, nothing does in the restricted tree
  pub nothing_restricted : (old new : Tree) → IsRestricted settings IsNew old new → (top rest : NodePath)
      → IsTrue (keeps settings top) → old (top ++ rest) ≡ None → new (top ++ rest) ≡ None
  nothing_restricted old new r top rest is none = cases (keeps settings (top ++ rest)) refl
    where
      cases : (b : Bool) → keeps settings (top ++ rest) ≡ b → new (top ++ rest) ≡ None
      cases true kept = nothing_new IsNew (old (top ++ rest)) (new (top ++ rest)) (r.kept (top ++ rest) kept) none
      cases false left = r.left (top ++ rest) left ∙ gives_nothing settings top rest is left

  -- a graft in both trees keeps the restriction, if what is grafted has it
  pub graft_restricts : (top : NodePath) (more others old new : Tree) → IsRestricted settings IsNew old new
      → ((rest : NodePath) → RestrictedAt (top ++ rest) (more rest) (others rest))
      → IsRestricted settings IsNew (grafted top more old) (grafted top others new)
  graft_restricts top more others old new r each = record {
    kept = λ path is. (cases path (below top path) refl).0 is;
    left = λ path is. (cases path (below top path) refl).1 is;
  }
    where
      cases : (path : NodePath) (o : Option NodePath) → below top path ≡ o
          → RestrictedAt path (at_or_below o more (old path)) (at_or_below o others (new path))
      cases path None is = (r.kept path, r.left path)
      cases path (Some rest) is =
          subst (λ p. RestrictedAt p (more rest) (others rest)) (sym (below_rest top path rest is)) (each rest)

  -- nodes put at a kept path keep the restriction
  pub put_restricts : (top : NodePath) (n m : Node) (old new : Tree) → IsTrue (keeps settings top)
      → IsNewNode IsNew (Some n) (Some m) → IsRestricted settings IsNew old new
      → IsRestricted settings IsNew (put top n old) (put top m new)
  put_restricts top n m old new is node r = record {
    kept = λ path is. (cases path (below top path) refl).0 is;
    left = λ path is. (cases path (below top path) refl).1 is;
  }
    where
      cases : (path : NodePath) (o : Option NodePath) → below top path ≡ o
          → RestrictedAt path (at_top o n (old path)) (at_top o m (new path))
      cases path None at = (r.kept path, r.left path)
      cases path (Some (name ∷ rest)) at = (r.kept path, r.left path)
      cases path (Some []) at =
          subst (λ p. RestrictedAt p (Some n) (Some m)) (sym (below_rest top path [] at ∙ append-nil top))
          (λ kept. node, λ left. absurd (both_ways _ left is))

  -- a kept path that is in a directory is in one in the restricted tree too
  pub directory_restricted : (old new : Tree) → IsRestricted settings IsNew old new → (top : NodePath)
      → IsTrue (keeps settings top) → has_directory old top ≡ true → has_directory new top ≡ true
  directory_restricted old new r top is = cases (parent_of top) refl
    where
      given_directory : (parent : NodePath) (name : List ℕ) → top ≡ parent ++ name ∷ [] → keeps settings parent ≡ false
          → is_directory_node (new parent) ≡ true
      given_directory parent name at left =
          ap is_directory_node (r.left parent left)
          ∙ gives_above settings parent (name ∷ []) (subst (λ p. IsTrue (keeps settings p)) at is) left

      sides : (parent : NodePath) → parent_of top ≡ Some parent → (b : Bool) → keeps settings parent ≡ b
          → is_directory_node (old parent) ≡ true → is_directory_node (new parent) ≡ true
      sides parent at true kept some = sym (same_kind IsNew _ _ (r.kept parent kept)) ∙ some
      sides parent at false left some =
          let rest = parent_rest top parent at in given_directory parent rest.0 rest.1 left

      cases : (o : Option NodePath) → parent_of top ≡ o → is_directory_at old o ≡ true → is_directory_at new o ≡ true
      cases None at some = some
      cases (Some parent) at some = sides parent at (keeps settings parent) refl some
