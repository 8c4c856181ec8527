-- Siblings, as they are found among the names that can be in the directories above included paths.
use Rattle.std.proofs.Common.{◌≡◌, ℕ, zero, suc, true, false, not, ◌&&◌, ◌||◌, ◌==◌, List, [], ◌∷◌, ◌++◌, length, map, take, get_or, ◌+◌, ◌<◌, Option, Some, None, Bor, bytes_eq, refl, sym, ap, ap₂, ◌∙◌, subst, inl, inr, arith, append-nil, ◌≤◌, Bool}
use Rattle.std.specs.Prelude.{Contains}
use Rattle.std.specs.List.{filter, list_all, list_any}
use Rattle.std.proofs.lemmas.Bool.{and_parts, and_from, eqb-true, false_from_ne_true, or_cases, or_left, or_right, not-true}
use Rattle.std.proofs.lemmas.List.Folds.{list_all-append}
use Rattle.std.proofs.lemmas.List.{length-map, take_more}
use Rattle.std.proofs.lemmas.Slice.Eq.{bytes_eq-Decides}
use Rattle.std.proofs.lemmas.Slice.Zip.{AllZip-long}
use Rattle.dump_rules.specs.Prefix.{bare_path}
use Rattle.dump_trees.specs.steps.Listing.{names_look}
use Rattle.dump_trees.specs.steps.Looking.{placed_from}
use Rattle.dump_trees.specs.Paths.{NodePath, below, is_name, names_of, parent_of, path_text}
use Rattle.dump_trees.specs.Restriction.{is_root}
use Rattle.dump_trees.specs.Returns.{is_covered}
use Rattle.dump_trees.specs.steps.Returns.{named_rest, rests_below}
use Rattle.dump_trees.specs.Siblings.{has_node_names, is_node_name, is_within}
use Rattle.dump_trees.specs.steps.Siblings.{has_name_behind, is_above_included, is_in_cut, is_parent_above, is_sibling}
use Rattle.dump_trees.proofs.changes.TreeLemmas.{parent_rest}
use Rattle.dump_trees.proofs.cuts.CoveredPaths.{covered_by, filter_there, list_all_of, all_has, within_itself}
use Rattle.dump_trees.proofs.cuts.EverSiblings.{ever_siblings_are_found}
use Rattle.dump_trees.proofs.paths.PathNames.{text_read}
use Rattle.dump_trees.proofs.paths.SiblingLemmas.{are_names, both_names, cut_above, front_names, higher_rest}
use Rattle.dump_index.specs.steps.Children.{is_child_named}
use Rattle.dump_index.specs.steps.NamesEver.{AreNamesEver}
use Rattle.dump_index.specs.steps.Names.{texts_of}
use Rattle.dump_index.specs.steps.Touching.{joined_text}
use Rattle.dump_index.proofs.ChildLemmas.{pushed_named}
use Rattle.dump_index.proofs.NameLemmas.{names_of_name}
use Rattle.dump_index.proofs.SlashLemmas.{names_joined}
use Rattle.dump_index.specs.steps.IndexLaws.{IsListed}
use Rattle.dump_index.specs.steps.Listed.{Listed, listed_of, all_placed}
use Rattle.dump_index.proofs.RestLemmas.{split_some}
use Rattle.dump_index.proofs.SameNames.{names_same}
use Rattle.dump_cut.specs.steps.FoundSiblings.{FoundSiblingsAreAll}
use Rattle.dump_cut.specs.steps.NamedPaths.{has_named_paths}
use Rattle.dump_cut.proofs.GrowingLemmas.{added_covers}
use Rattle.dump_cut.proofs.NodeNames.{look_named}
use Rattle.dump_cut.specs.steps.ExcludedPaths.{IsGrownIf, paths_of}
use Rattle.dump_cut.specs.steps.ExcludedTexts.{texts_below}
use Rattle.dump_cut.proofs.RangeLemmas.{below_named}
use Rattle.dump_trees.proofs.expansions.BranchLemmas.{parent_child}

-- whether a path is in the cut

pub root_text : (path : List ℕ) → (length path == 0) ≡ false → is_root (names_of path) ≡ false
root_text [] some = absurd (let bad : true ≡ false = some in cc)
root_text (b ∷ path) some = ap is_root (split_some (b ∷ path)).2

-- an included path is below this one, if it has a rest
any_below : (path : NodePath) (paths : List NodePath)
    → list_any (λ top. has_name_behind (below path top)) paths ≡ not (length (rests_below path paths) == 0)
any_below path [] = refl
any_below path (top ∷ paths) = cases (below path top) (any_below path paths)
  where
    rests : Option NodePath → List NodePath
    rests o = named_rest o ++ rests_below path paths

    cases : (o : Option NodePath) → list_any (λ other. has_name_behind (below path other)) paths ≡ not (length (rests_below path paths) == 0)
        → (has_name_behind o || list_any (λ other. has_name_behind (below path other)) paths) ≡ not (length (rests o) == 0)
    cases None further = further
    cases (Some []) further = further
    cases (Some (name ∷ rest)) further = sym (ap not (false_from_ne_true (length (rests (Some (name ∷ rest))) == 0) (λ is.
        let none : length (rests (Some (name ∷ rest))) ≡ 0 = eqb-true (length (rests (Some (name ∷ rest)))) 0 is in absurd (omega arith))))

pub cut_below : (texts : List (List ℕ)) (path : List ℕ) (rests : List (Bor (List ℕ)))
    → list_all has_node_names (paths_of texts) ≡ true → (length path == 0) ≡ false
    → is_covered (paths_of texts) (names_of path) ≡ false → map (λ rest. rest.now) rests ≡ texts_below path texts
    → not (length rests == 0) ≡ is_in_cut (paths_of texts) (names_of path)
cut_below texts path rests named some outside are =
    ap (λ n. not (n == 0)) (sym (length-map rests (λ rest. rest.now)) ∙ ap length are
    ∙ sym (length-map (texts_below path texts) names_of) ∙ ap length (below_named path texts named))
    ∙ sym (any_below (names_of path) (paths_of texts))
    ∙ sym (ap₂ (λ a b. a || (b || list_any (λ top. has_name_behind (below (names_of path) top)) (paths_of texts))) outside
    (root_text path some))

-- what is true of all paths after one is added

pub grown_all : (test : NodePath → Bool) (old new : List NodePath) (added : NodePath)
    (is_new : Bool) → IsGrownIf old added new is_new
    → test added ≡ true → list_all test old ≡ true → list_all test new ≡ true
grown_all test old new added false same own all = ap (list_all test) same ∙ all
grown_all test old new added true grown own all =
    let parts = and_parts (list_all test grown.front) (list_all test grown.behind)
    (sym (list_all-append test grown.front grown.behind) ∙ ap (list_all test) grown.others
    ∙ list_all_of test (filter (λ top. not (is_within added top)) old) (λ path there.
    all_has test old path all (filter_there (λ top. not (is_within added top)) old path there))) in
    ap (list_all test) grown.joined
    ∙ (list_all-append test grown.front (added ∷ grown.behind)
    ∙ and_from _ _ parts.0 (and_from _ _ own parts.1))

-- a sibling in a directory above included paths

pub sibling_in : (included : List NodePath) (path : NodePath) (name : List ℕ) → has_node_names (path ++ name ∷ []) ≡ true
    → is_above_included included path ≡ true → is_in_cut included (path ++ name ∷ []) ≡ false
    → is_sibling included (path ++ name ∷ []) ≡ true
sibling_in included path name named above outside =
    and_from _ _ (and_from _ _ named (ap (is_parent_above included) (parent_child path name) ∙ above)) (ap not outside)

pub sibling_outside : (included : List NodePath) (path : NodePath) → is_sibling included path ≡ true → is_in_cut included path ≡ false
sibling_outside included path is =
    not-true _ (and_parts (has_node_names path && is_parent_above included (parent_of path)) (not (is_in_cut included path)) is).1

-- a path above included ones has their names
pub above_named : (included : List NodePath) (path : NodePath) → list_all has_node_names included ≡ true
    → is_above_included included path ≡ true → has_node_names path ≡ true
above_named included [] all above = refl
above_named included (name ∷ path) all above = found included all above
  where
    found : (paths : List NodePath) → list_all has_node_names paths ≡ true
        → list_any (λ top. has_name_behind (below (name ∷ path) top)) paths ≡ true → has_node_names (name ∷ path) ≡ true
    found [] all some = absurd (let bad : false ≡ true = some in cc)
    found (top ∷ paths) all some =
        let parts = and_parts (has_node_names top) (list_all has_node_names paths) all in
        elim (or_cases (has_name_behind (below (name ∷ path) top)) (list_any (λ other. has_name_behind (below (name ∷ path) other)) paths) some) [
          | inl here ↦
              let (first, rest, same) = higher_rest (name ∷ path) top here in
              front_names (name ∷ path) (first ∷ rest) (ap has_node_names (sym same) ∙ parts.0)
          | inr there ↦ found paths parts.1 there
        ]

-- a sibling that siblings cover is one of them: above it is the directory that it is in, and that is in the cut
pub sibling_covered : (included siblings : List NodePath) (path : NodePath) → list_all (is_sibling included) siblings ≡ true
    → is_sibling included path ≡ true → is_covered siblings path ≡ true → Contains siblings path
sibling_covered included siblings path all is covered =
    let (top, rest, there, at) = covered_by siblings path covered in
    cases top rest there at (parent_of path) refl
    (and_parts (has_node_names path) (is_parent_above included (parent_of path))
    (and_parts (has_node_names path && is_parent_above included (parent_of path)) (not (is_in_cut included path)) is).0).1
  where
    cases : (top rest : NodePath) → Contains siblings top → path ≡ top ++ rest → (o : Option NodePath) → parent_of path ≡ o
        → is_parent_above included o ≡ true → Contains siblings path
    cases top [] there at o parent above = subst (Contains siblings) (sym (append-nil top) ∙ sym at) there
    cases top (next ∷ rest) there at None parent above = absurd (let bad : false ≡ true = above in cc)
    cases top (next ∷ rest) there at (Some directory) parent above =
        let (name, same) = parent_rest path directory parent in
        absurd (let outside = sibling_outside included top (all_has (is_sibling included) siblings top all there) in
        let inside = top_inside top next rest directory name (sym at ∙ same) above in
        let bad : true ≡ false = sym inside ∙ outside in cc)
      where
        top_inside : (top : NodePath) (next : List ℕ) (rest directory : NodePath) (name : List ℕ)
            → top ++ next ∷ rest ≡ directory ++ name ∷ [] → is_above_included included directory ≡ true
            → is_in_cut included top ≡ true
        top_inside top next rest directory name same above =
            let (more, is) = shorter top next rest directory name same in
            cut_above included top more (ap (is_in_cut included) (sym is) ∙ or_right _ (is_above_included included directory) above)
          where
            shorter : (top : NodePath) (next : List ℕ) (rest directory : NodePath) (name : List ℕ)
                → top ++ next ∷ rest ≡ directory ++ name ∷ [] → (more : NodePath) × (directory ≡ top ++ more)
            shorter [] next rest directory name same = (directory, refl)
            shorter (first ∷ top) next rest [] name same = absurd (none top same)
              where
                none : (top : NodePath) → first ∷ top ++ next ∷ rest ≡ name ∷ [] → ⊥
                none [] same = cc
                none (second ∷ top) same = cc
            shorter (first ∷ top) next rest (other ∷ directory) name same =
                let heads : first ≡ other = (let both : first ∷ top ++ next ∷ rest ≡ other ∷ directory ++ name ∷ [] = same in cc) in
                let tails : top ++ next ∷ rest ≡ directory ++ name ∷ [] = (let both : first ∷ top ++ next ∷ rest ≡ other ∷ directory ++ name ∷ [] = same in cc) in
                let (more, is) = shorter top next rest directory name tails in
                (more, ap₂ (λ (n : List ℕ) (p : NodePath). n ∷ p) (sym heads) is)

-- one more child

abbrev pub child : List ℕ → List ℕ → NodePath
child directory name = names_of directory ++ name ∷ []

pub child_names : (directory name : List ℕ) → is_node_name name ≡ true → names_of (joined_text directory name) ≡ child directory name
child_names directory name named =
    names_joined directory name
    ∙ ap (λ (p : NodePath). names_of directory ++ p) (names_of_name name (and_parts (is_name name) _ named).0)

pub child_named : (directory name : List ℕ) → has_node_names (names_of directory) ≡ true → is_node_name name ≡ true
    → has_node_names (child directory name) ≡ true
child_named directory name above named = both_names (names_of directory) (name ∷ []) above (and_from _ _ named refl)

at_texts : (names : List (Bor (List ℕ))) (k : ℕ) (d : Bor (List ℕ)) → k < length names
    → is_child_named (texts_of names) (get_or names k d).now ≡ true
at_texts [] k d low = absurd (omega (arith, low))
at_texts (n ∷ names) zero d low = or_left _ (is_child_named (texts_of names) n.now) ((bytes_eq-Decides n.now n.now).1 refl)
at_texts (n ∷ names) (suc k) d low =
    or_right (bytes_eq n.now (get_or names k d).now) _ (at_texts names k d (omega (arith, low)))

-- each of the names that can be in a directory is the name of a node
pub ever_named : (listed : List Listed) → list_all has_named_paths listed ≡ true → (path : NodePath) (names : List (Bor (List ℕ)))
    → AreNamesEver listed path (texts_of names) → (k : ℕ) (d : Bor (List ℕ)) → k < length names
    → is_node_name (get_or names k d).now ≡ true
ever_named listed named path names ever k d low =
    let can = ever.each (get_or names k d).now (at_texts names k d low) in
    look_named listed named can.0 path (get_or names k d).now can.2

pub record AddsChild (included old new : List NodePath) (path : NodePath) : Type 0 where
  pub each : list_all (is_sibling included) old ≡ true → list_all (is_sibling included) new ≡ true
  pub kept : (other : NodePath) → is_covered old other ≡ true → is_covered new other ≡ true
  pub own : is_sibling included path ≡ true → is_covered new path ≡ true

pub adds_sibling : (included old new : List NodePath) (directory name : List ℕ) (path : NodePath) (is_new : Bool)
    → path ≡ child directory name → has_node_names path ≡ true → is_above_included included (names_of directory) ≡ true
    → is_in_cut included path ≡ false → is_new ≡ not (is_covered old path) → IsGrownIf old path new is_new
    → AddsChild included old new path
adds_sibling included old new directory name path is_new same named above outside new_is grown = record {
  each = grown_all (is_sibling included) old new path is_new grown
      (subst (λ p. is_sibling included p ≡ true) (sym same)
      (sibling_in included (names_of directory) name (ap has_node_names (sym same) ∙ named) above (ap (is_in_cut included) (sym same) ∙ outside)));
  kept = λ other is. added_covers old new path is_new new_is grown other ∙ or_left (is_covered old other) (is_within path other) is;
  own = λ is. added_covers old new path is_new new_is grown path ∙ or_right (is_covered old path) (is_within path path) (within_itself path);
}

pub adds_none : (included old new : List NodePath) (path : NodePath) → new ≡ old → is_in_cut included path ≡ true
    → AddsChild included old new path
adds_none included old new path same inside = record {
  each = λ all. ap (list_all (is_sibling included)) same ∙ all;
  kept = λ other is. ap (λ tops. is_covered tops other) same ∙ is;
  own = λ is. absurd (let bad : true ≡ false = sym inside ∙ sibling_outside included path is in cc);
}

-- what is true of the first names is true of one more name
pub one_more : (P : List ℕ → Type 0) (names : List (Bor (List ℕ))) (k : ℕ) (d : Bor (List ℕ)) → k < length names
    → ((name : List ℕ) → is_child_named (texts_of (take k names)) name ≡ true → P name) → P (get_or names k d).now
    → (name : List ℕ) → is_child_named (texts_of (take (k + 1) names)) name ≡ true → P name
one_more P names k d low before own name is =
    elim (or_cases (is_child_named (texts_of (take k names)) name) (bytes_eq (get_or names k d).now name)
    (sym (ap (λ (ns : List (Bor (List ℕ))). is_child_named (texts_of ns) name) (take_more names k d low)
    ∙ pushed_named (take k names) (get_or names k d) name) ∙ is)) [
      | inl old ↦ before name old
      | inr same ↦ subst P ((bytes_eq-Decides (get_or names k d).now name).0 same) own
    ]

-- the directory at a place is above included paths
pub above_at : (texts : List (List ℕ)) (directories : List (Bor (List ℕ)))
    → ((directory : List ℕ) → is_child_named (texts_of directories) directory ≡ is_above_included (paths_of texts) (names_of directory))
    → (k : ℕ) (d : Bor (List ℕ)) → k < length directories
    → is_above_included (paths_of texts) (names_of (get_or directories k d).now) ≡ true
above_at texts directories above k d low = sym (above (get_or directories k d).now) ∙ at_texts directories k d low

-- the text of a path
pub spelled : (path : NodePath) → has_node_names path ≡ true → names_of (bare_path (path_text path)) ≡ path
spelled path named = text_read path (are_names path named)

-- the law

pub found_siblings_are_all : FoundSiblingsAreAll
found_siblings_are_all changes included siblings revisions all found =
    ever_siblings_are_found included siblings revisions found.each (λ count path name low above exists sibling.
    found.all path name above (count, can_low count low, named count path name exists.0) sibling)
  where
    listed : List Listed
    listed = map listed_of changes

    can_low : (count : ℕ) → count ≤ length (placed_from 1 revisions) → count ≤ length listed
    can_low count low =
        let size = AllZip-long IsListed listed (placed_from 1 revisions) all in omega (arith, low, size)

    named : (count : ℕ) (path : NodePath) (name : List ℕ) → is_child_named (names_look (placed_from 1 revisions) count path) name ≡ true
        → is_child_named (names_look (all_placed listed) count path) name ≡ true
    named count path name is =
        ap (λ names. is_child_named names name) (sym (names_same listed (placed_from 1 revisions) all count path)) ∙ is
