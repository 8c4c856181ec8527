-- Trees that are cut as a call asks.
use Rattle.std.proofs.Common.{◌≡◌, ◌⊎◌, ◌<◌, ℕ, zero, suc, Bool, true, false, not, ◌&&◌, List, [], ◌∷◌, ◌++◌, length, length-append, Contains, Option, Some, None, is_some, MatchBool, refl, sym, ap, ap₂, ◌∙◌, subst, inl, inr, append-nil, append_assoc, arith}
use Rattle.std.proofs.lemmas.Bool.{and_from, and_parts, or_cases, or_left, or_right}
use Rattle.std.proofs.lemmas.Option.{slice_get_within}
use Rattle.std.specs.List.{AllZip, list_all, list_any, slice_get}
use Rattle.std.specs.Str.{bytes_eq}
use Rattle.dump_text.specs.PropertyList.{Property}
use Rattle.dump_text.proofs.PropertyLemmas.{property-eq}
use Rattle.dump_rules.proofs.reading.RangeListLemmas.{zip_map}
use Rattle.dump_rules.specs.Settings.{Settings}
use Rattle.dump_rules.specs.Renumbering.{KeptRevisions}
use Rattle.dump_rules.specs.Rewriting.{IsNewMergeinfo}
use Rattle.dump_rules.specs.declared.options.Side.TheVariants.{Exclude}
use Rattle.dump_digest.specs.RecordParts.{is_mergeinfo, mergeinfo_name, value_of}
use Rattle.dump_filter.specs.NewContent.{IsNewProperty}
use Rattle.dump_trees.specs.CanonicalPaths.{canonical_paths}
use Rattle.dump_trees.specs.Changes.{Change}
use Rattle.dump_trees.specs.Following.{Way, Covers, IsInClosure, from_of}
use Rattle.dump_trees.specs.steps.Following.{ExistsOnce}
use Rattle.dump_trees.specs.Paths.{NodePath, below, keeps}
use Rattle.dump_trees.specs.Restriction.{IsNewNode, IsRestricted, NewProperty, is_root}
use Rattle.dump_trees.specs.Returns.{is_covered}
use Rattle.dump_trees.specs.Revisions.{loaded_over}
use Rattle.dump_trees.specs.Siblings.{has_node_names}
use Rattle.dump_trees.specs.steps.Siblings.{ExcludesPaths, HasNames, has_name_behind, is_above_included, is_in_cut}
use Rattle.dump_trees.specs.Trees.{Node, Tree, root_alone}
use Rattle.dump_trees.proofs.changes.CutLemmas.{gives_root}
use Rattle.dump_trees.proofs.cuts.CheckedLoads.{get_front, loaded_size, split_at}
use Rattle.dump_trees.proofs.cuts.CoveredPaths.{contains_cases, contains_first, contains_later, contains_none, covered_by, covered_from, covered_itself}
use Rattle.dump_trees.proofs.histories.FrontLemmas.{begun_trees}
use Rattle.dump_trees.proofs.paths.SiblingLemmas.{excluded_match, higher_found, higher_rest, one_in_other, root_inside}
use Rattle.cut_cli.specs.steps.Cuts.{AreNamed, IsClosureOf}
use Rattle.cut_cli.specs.Headline.{IsCutTree, IsNamed, IsSameNode, IsSameProperty}
use Rattle.cut_cli.specs.Words.{CutMeaning}

-- properties

-- what the filter writes of a property is the same, or both are mergeinfo
same_property : (settings : Settings) (kept : KeptRevisions) (old new : Property) → IsNewProperty settings kept old new
    → IsSameProperty old new
same_property settings kept old new (name, value) = cases (is_mergeinfo old) refl value
  where
    is_too : (v : List ℕ) → new.value ≡ Some v → is_mergeinfo old ≡ true → is_mergeinfo new ≡ true
    is_too v is was =
        ap₂ (λ n (o : Option (List ℕ)). bytes_eq n mergeinfo_name && is_some o) name is
        ∙ and_from (bytes_eq old.name mergeinfo_name) true (and_parts (bytes_eq old.name mergeinfo_name) (is_some old.value) was).0
        refl

    cases : (b : Bool) → is_mergeinfo old ≡ b
        → MatchBool b ((v : List ℕ) × (new.value ≡ Some v) × IsNewMergeinfo settings kept (value_of old) v)
        (new.value ≡ old.value) → IsSameProperty old new
    cases true was (v, is, more) = inr (was, is_too v is was)
    cases false was same = inl (property-eq new old name same)

module _ (settings : Settings) (kept : KeptRevisions) where
  same_node : (old new : Option Node) → IsNewNode (IsNewProperty settings kept) old new → IsSameNode old new
  same_node None None is = tt
  same_node (Some (Node.Directory old)) (Some (Node.Directory new)) is =
      zip_map (IsNewProperty settings kept) IsSameProperty (same_property settings kept) old new is
  same_node (Some (Node.File old text)) (Some (Node.File new same)) is =
      (zip_map (IsNewProperty settings kept) IsSameProperty (same_property settings kept) old new is.0, is.1)
  same_node None (Some node) is = absurd is
  same_node (Some (Node.Directory old)) None is = absurd is
  same_node (Some (Node.Directory old)) (Some (Node.File new text)) is = absurd is
  same_node (Some (Node.File old text)) None is = absurd is
  same_node (Some (Node.File old text)) (Some (Node.Directory new)) is = absurd is

-- one tree

-- the root of a new repository is the same as itself
root_same : (path : NodePath) → IsSameNode (root_alone path) (root_alone path)
root_same [] = tt
root_same (name ∷ path) = tt

-- nothing else is written of it
root_stays : (IsNew : NewProperty) (path : NodePath) (new : Option Node) → IsNewNode IsNew (root_alone path) new
    → new ≡ root_alone path
root_stays IsNew [] None is = absurd is
root_stays IsNew [] (Some (Node.Directory [])) is = refl
root_stays IsNew [] (Some (Node.Directory (p ∷ props))) is = absurd is
root_stays IsNew [] (Some (Node.File props text)) is = absurd is
root_stays IsNew (name ∷ path) None is = refl
root_stays IsNew (name ∷ path) (Some node) is = absurd is

-- at the path the tree is that of a new repository; or the filter keeps the path exactly if the call does
abbrev pub Agrees : (NodePath → Type 0) → Settings → Tree → NodePath → Type 0
Agrees Keeps settings old path = (old path ≡ root_alone path)
    ⊎ (((keeps settings path ≡ true) × Keeps path) ⊎ ((keeps settings path ≡ false) × (Keeps path → ⊥)))

module _ (settings : Settings) (kept : KeptRevisions) (side : settings.side ≡ Exclude) (Keeps : NodePath → Type 0)
    (old new : Tree) (restricts : IsRestricted settings (IsNewProperty settings kept) old new)
    (agree : (path : NodePath) → Agrees Keeps settings old path) where
  -- what the filter doesn't keep is the root alone
  left_root : (path : NodePath) → keeps settings path ≡ false → new path ≡ root_alone path
  left_root path left = restricts.left path left ∙ (λ i. gives_root settings side i path)

  -- the root of a new repository stays it, whether it is kept or not
  alone : (path : NodePath) → old path ≡ root_alone path → new path ≡ root_alone path
  alone path is = cases (keeps settings path) refl
    where
      cases : (b : Bool) → keeps settings path ≡ b → new path ≡ root_alone path
      cases true there = root_stays (IsNewProperty settings kept) path (new path)
          (subst (λ node. IsNewNode (IsNewProperty settings kept) node (new path)) is (restricts.kept path there))
      cases false left = left_root path left

  pub cut_tree : IsCutTree Keeps old new
  cut_tree = record {
    kept = λ path keep. elim (agree path) [
      | inl is ↦ subst (λ node. IsSameNode (old path) node) (sym (alone path is))
          (subst (λ node. IsSameNode node (root_alone path)) (sym is) (root_same path))
      | inr (inl both) ↦ same_node settings kept (old path) (new path) (restricts.kept path both.0)
      | inr (inr both) ↦ absurd (both.1 keep)
    ];
    gone = λ path none. elim (agree path) [
      | inl is ↦ alone path is
      | inr (inl both) ↦ absurd (none both.1)
      | inr (inr both) ↦ left_root path both.0
    ];
  }

-- what is named

-- the least set that has paths is that which has others, if these cover them
same_closure : (way : Way) (trees : List Tree) (revisions : List (List Change)) (tops others : List NodePath)
    → ((path : NodePath) → is_covered tops path ≡ true → is_covered others path ≡ true) → (path : NodePath)
    → IsInClosure way trees revisions tops path → IsInClosure way trees revisions others path
same_closure way trees revisions tops others more path (IsInClosure.Given top there) =
    let (other, rest, among, same) = covered_by others top (more top (covered_itself tops top there)) in
    subst (IsInClosure way trees revisions others) (sym same)
    (IsInClosure.Inside other rest (IsInClosure.Given other among))
same_closure way trees revisions tops others more path (IsInClosure.Inside top rest is) =
    IsInClosure.Inside top rest (same_closure way trees revisions tops others more top is)
same_closure way trees revisions tops others more path (IsInClosure.Followed to source rest old copy exists is) =
    IsInClosure.Followed to source rest old copy exists
    (same_closure way trees revisions tops others more (from_of way to source ++ rest) is)

module _ (m : CutMeaning) (way : Way) (trees : List Tree) (revisions : List (List Change)) (first paths : List NodePath)
    (named : AreNamed m.prefixes first) (unfollowed : m.follow ≡ false → paths ≡ first)
    (followed : m.follow ≡ true → IsClosureOf way trees revisions first paths) where
  abbrev asked : List NodePath
  asked = canonical_paths m.prefixes

  -- these paths cover what the call names
  pub named_covered : (path : NodePath) → IsNamed way m trees revisions path → is_covered paths path ≡ true
  named_covered path = cases m.follow refl
    where
      cases : (b : Bool) → m.follow ≡ b
          → MatchBool b (IsInClosure way trees revisions asked path) (Covers asked path) → is_covered paths path ≡ true
      cases true is named_so = (followed is).least path
          (same_closure way trees revisions asked first (λ p covered. named p ∙ covered) path named_so)
      cases false is covered = ap (λ ps. is_covered ps path) (unfollowed is) ∙ named path ∙ covered

  -- and nothing else
  pub covered_named : (path : NodePath) → is_covered paths path ≡ true → IsNamed way m trees revisions path
  covered_named path covered = cases m.follow refl
    where
      cases : (b : Bool) → m.follow ≡ b
          → MatchBool b (IsInClosure way trees revisions asked path) (Covers asked path)
      cases true is =
          same_closure way trees revisions first asked (λ p there. sym (named p) ∙ there) path
          ((followed is).reached path covered)
      cases false is = sym (ap (λ ps. is_covered ps path) (unfollowed is) ∙ named path) ∙ covered

-- paths at which nothing exists

no_names_root : (path : NodePath) → has_node_names path ≡ false → root_alone path ≡ None
no_names_root [] odd = absurd (let bad : true ≡ false = odd in cc)
no_names_root (name ∷ path) odd = refl

no_names : (tree : Tree) (path : NodePath) → HasNames tree → has_node_names path ≡ false → tree path ≡ root_alone path
no_names tree path names odd = cases (tree path) (names path) ∙ sym (no_names_root path odd)
  where
    cases : (o : Option Node) → (is_some o ≡ true → has_node_names path ≡ true) → o ≡ None
    cases None has = refl
    cases (Some node) has = absurd (let bad : true ≡ false = sym (has refl) ∙ odd in cc)

-- under exclude
module _ (settings : Settings) (excluded : List NodePath) (excludes : ExcludesPaths settings excluded)
    (have_names : list_all has_node_names excluded ≡ true) (Names : NodePath → Type 0)
    (covered : (path : NodePath) → Names path → is_covered excluded path ≡ true)
    (all : (path : NodePath) → is_covered excluded path ≡ true → Names path) where
  pub exclude_agrees : (tree : Tree) → HasNames tree → (path : NodePath) → Agrees (λ p. ¬ Names p) settings tree path
  exclude_agrees tree names path = cases (has_node_names path) refl
    where
      by_cover : (b : Bool) → is_covered excluded path ≡ b → keeps settings path ≡ not (is_covered excluded path)
          → Agrees (λ p. ¬ Names p) settings tree path
      by_cover true is same = inr (inr (same ∙ ap not is, λ keep. keep (all path is)))
      by_cover false is same = inr (inl (
        same ∙ ap not is,
        λ has. let bad : true ≡ false = sym (covered path has) ∙ is in cc,
      ))

      cases : (b : Bool) → has_node_names path ≡ b → Agrees (λ p. ¬ Names p) settings tree path
      cases true are = by_cover (is_covered excluded path) refl (excluded_match settings excluded path excludes have_names are)
      cases false odd = inl (no_names tree path names odd)

-- under include

module _ (included : List NodePath) (Names : NodePath → Type 0)
    (covered : (path : NodePath) → Names path → is_covered included path ≡ true)
    (all : (path : NodePath) → is_covered included path ≡ true → Names path) where
  abbrev Stays : NodePath → Type 0
  Stays path = (path ≡ []) ⊎ ((rest : NodePath) × Names (path ++ rest))

  cut_stays : (path : NodePath) → is_in_cut included path ≡ true → Stays path
  cut_stays path is = elim (or_cases (is_covered included path) (is_above_included included path) is) [
    | inl within ↦ inr ([], subst Names (sym (append-nil path)) (all path within))
    | inr above ↦ elim (or_cases (is_root path) (list_any (λ top. has_name_behind (below path top)) included) above) [
      | inl root ↦ inl (is_root_path path root)
      | inr higher ↦
          let (top, there, behind) = any_there (λ top. has_name_behind (below path top)) included higher in
          let (name, rest, same) = higher_rest path top behind in
          inr (name ∷ rest, subst Names same (all top (covered_itself included top there)))
    ]
  ]
    where
      is_root_path : (p : NodePath) → is_root p ≡ true → p ≡ []
      is_root_path [] root = refl
      is_root_path (name ∷ p) root = absurd (let bad : false ≡ true = root in cc)

      any_there : (f : NodePath → Bool) (tops : List NodePath) → list_any f tops ≡ true
          → (top : NodePath) × Contains tops top × (f top ≡ true)
      any_there f [] none = absurd (let bad : false ≡ true = none in cc)
      any_there f (top ∷ tops) some = elim (or_cases (f top) (list_any f tops) some) [
        | inl here ↦ (top, contains_first top tops, here)
        | inr more ↦ let (other, among, is) = any_there f tops more in (other, contains_later top tops other among, is)
      ]

  stays_cut : (path : NodePath) → Stays path → is_in_cut included path ≡ true
  stays_cut path (inl root) = subst (λ p. is_in_cut included p ≡ true) (sym root) (root_inside included)
  stays_cut path (inr (rest, has)) =
      let (top, more, there, same) = covered_by included (path ++ rest) (covered (path ++ rest) has) in
      elim (one_in_other path top rest more same) [
        | inl (below_top, is) ↦
            or_left _ (is_above_included included path)
            (subst (λ p. is_covered included p ≡ true) (sym is) (covered_from included top below_top there))
        | inr (name, behind, is) ↦
            or_right (is_covered included path) _
            (or_right (is_root path) _
            (any_from (λ t. has_name_behind (below path t)) included top there
            (subst (λ t. has_name_behind (below path t) ≡ true) (sym is) (higher_found path name behind))))
      ]
    where
      any_from : (f : NodePath → Bool) (tops : List NodePath) (t : NodePath) → Contains tops t → f t ≡ true
          → list_any f tops ≡ true
      any_from f [] t there is = absurd (contains_none t there)
      any_from f (other ∷ tops) t there is = elim (contains_cases other tops t there) [
        | inl same ↦ or_left _ (list_any f tops) (subst (λ x. f x ≡ true) (sym same) is)
        | inr later ↦ or_right (f other) _ (any_from f tops t later is)
      ]

-- what exists in a tree after the first exists once
module _ (trees : List Tree) (revisions : List (List Change)) (is : loaded_over root_alone revisions ≡ Some trees) where
  exists_once : (number : ℕ) (tree : Tree) (path : NodePath) → slice_get trees (suc number) ≡ Some tree
      → is_some (tree path) ≡ true → ExistsOnce revisions path
  exists_once number tree path there some =
      let within = slice_get_within trees (suc number) tree there in
      let size = loaded_size root_alone revisions trees is in
      let (front, behind, parts, count) = split_at number revisions (omega arith) in
      let whole = ap length parts ∙ length-append front behind in
      cases front behind parts count (let room : 0 < length behind = omega arith in room)
    where
      cases : (front behind : List (List Change)) → revisions ≡ front ++ behind → length front ≡ number
          → 0 < length behind → ExistsOnce revisions path
      cases front [] parts count room = absurd (let none : 0 < 0 = room in omega (arith, none))
      cases front (changes ∷ behind) parts count room =
          let upto = front ++ changes ∷ [] in
          let moved : revisions ≡ upto ++ behind = parts ∙ sym (append_assoc front (changes ∷ []) behind) in
          let (earlier, later, loads, joined) =
          begun_trees root_alone upto behind trees (ap (λ r. loaded_over root_alone r) (sym moved) ∙ is) in
          let size = loaded_size root_alone upto earlier loads in
          let grown = length-append front (changes ∷ []) in
          let at : length upto ≡ suc number = omega arith in
          record {
            front = front;
            changes = changes;
            more = [];
            rest = behind;
            trees = earlier;
            tree = tree;
            parted = parts ∙ ap (λ cs. front ++ cs ∷ behind) (sym (append-nil changes));
            loads = loads;
            last = get_front earlier later (length upto) tree (omega arith)
                (ap (λ ts. slice_get ts (length upto)) (sym joined) ∙ (ap (slice_get trees) at ∙ there));
            exists = some;
          }

  -- the root does, if there is a revision
  root_once : (number : ℕ) (tree : Tree) → slice_get trees (suc number) ≡ Some tree → ExistsOnce revisions []
  root_once number tree there =
      let within = slice_get_within trees (suc number) tree there in
      let size = loaded_size root_alone revisions trees is in
      cases revisions (let room : 0 < length revisions = omega arith in room)
    where
      cases : (rs : List (List Change)) → 0 < length rs → ExistsOnce rs []
      cases [] room = absurd (let none : 0 < 0 = room in omega (arith, none))
      cases (changes ∷ rest) room = record {
        front = [];
        changes = [];
        more = changes;
        rest = rest;
        trees = root_alone ∷ root_alone ∷ [];
        tree = root_alone;
        parted = refl;
        loads = refl;
        last = refl;
        exists = refl;
      }

  -- the first tree is that of a new repository
  first_tree : (tree : Tree) → slice_get trees 0 ≡ Some tree → tree ≡ root_alone
  first_tree tree there =
      let (earlier, later, loads, joined) = begun_trees root_alone [] revisions trees is in
      let begin : root_alone ∷ [] ≡ earlier = (let both : Some (root_alone ∷ []) ≡ Some earlier = loads in cc) in
      let same : Some tree ≡ Some root_alone =
      sym there ∙ ap (λ ts. slice_get ts 0) (joined ∙ ap (λ ts. ts ++ later) (sym begin)) in
      cc

  module _ (settings : Settings) (included : List NodePath)
      (kept : (path : NodePath) → ExistsOnce revisions path → keeps settings path ≡ is_in_cut included path)
      (Names : NodePath → Type 0) (covered : (path : NodePath) → Names path → is_covered included path ≡ true)
      (all : (path : NodePath) → is_covered included path ≡ true → Names path) where
    once_agrees : (tree : Tree) (path : NodePath) → ExistsOnce revisions path
        → Agrees (Stays included Names covered all) settings tree path
    once_agrees tree path once = cases (is_in_cut included path) refl
      where
        cases : (b : Bool) → is_in_cut included path ≡ b → Agrees (Stays included Names covered all) settings tree path
        cases true inside = inr (inl (kept path once ∙ inside, cut_stays included Names covered all path inside))
        cases false outside = inr (inr (
          kept path once ∙ outside,
          λ stays. let bad : true ≡ false = sym (stays_cut included Names covered all path stays) ∙ outside in cc,
        ))

    pub include_agrees : (number : ℕ) (tree : Tree) → slice_get trees number ≡ Some tree → (path : NodePath)
        → Agrees (Stays included Names covered all) settings tree path
    include_agrees zero tree there path = inl (λ i. first_tree tree there i path)
    include_agrees (suc number) tree there [] = once_agrees tree [] (root_once number tree there)
    include_agrees (suc number) tree there (name ∷ path) = cases (tree (name ∷ path)) refl
      where
        cases : (o : Option Node) → tree (name ∷ path) ≡ o
            → Agrees (Stays included Names covered all) settings tree (name ∷ path)
        cases None at = inl at
        cases (Some node) at =
            once_agrees tree (name ∷ path) (exists_once number tree (name ∷ path) there (ap is_some at))

-- lists

pub zip_where : {A B : Type 0} (R Q : A → B → Type 0) (xs : List A) (ys : List B) → AllZip R xs ys
    → ((n : ℕ) (x : A) (y : B) → slice_get xs n ≡ Some x → R x y → Q x y) → AllZip Q xs ys
zip_where R Q [] [] all each = tt
zip_where R Q [] (y ∷ ys) all each = absurd all
zip_where R Q (x ∷ xs) [] all each = absurd all
zip_where R Q (x ∷ xs) (y ∷ ys) all each =
    (each 0 x y refl all.0, zip_where R Q xs ys all.1 (λ n a b at. each (suc n) a b at))
