-- Siblings that are found in a dump and in its first part.
use Rattle.std.proofs.Common.{◌≡◌, ℕ, zero, suc, ◌+◌, ◌≤◌, Bool, true, false, cond, nat_le, List, [], ◌∷◌, ◌++◌, length, map, take, drop, refl, sym, ap, ap₂, ◌∙◌, subst, inl, inr, arith, append_assoc}
use Rattle.std.specs.Prelude.{Contains}
use Rattle.std.specs.List.{AllZip, list_all}
use Rattle.std.proofs.lemmas.Bool.{or_cases}
use Rattle.std.proofs.lemmas.List.{length-append, take-append-drop, take-map}
use Rattle.std.proofs.lemmas.List.Elements.{Contains-append_left}
use Rattle.std.proofs.lemmas.List.Sums.{sum_by-append}
use Rattle.std.proofs.Math.Seq.{take-append_seam}
use Rattle.dump_records.specs.DumpText.{Ending}
use Rattle.dump_records.specs.RecordText.{DumpRecord}
use Rattle.dump_trees.specs.CanonicalPaths.{canonical_path}
use Rattle.dump_trees.specs.Changes.{Change}
use Rattle.dump_trees.specs.steps.EverSiblings.{AreEverSiblings}
use Rattle.dump_trees.specs.steps.Following.{ExistsOnce}
use Rattle.dump_trees.specs.steps.Looking.{Placed, end_of, placed_from}
use Rattle.dump_trees.specs.Paths.{NodePath}
use Rattle.dump_trees.specs.Returns.{is_covered}
use Rattle.dump_trees.specs.steps.Siblings.{is_in_cut, is_sibling}
use Rattle.dump_trees.specs.Trees.{root_alone}
use Rattle.dump_trees.proofs.cuts.CheckedLoads.{AreFrom, all_from, of_one, placed_append, one_up_to}
use Rattle.dump_trees.proofs.cuts.CoveredPaths.{all_has, covered_by, covered_from}
use Rattle.dump_trees.proofs.expansions.LookLemmas.{count_whole}
use Rattle.dump_trees.proofs.expansions.BackLemmas.{none_up_to}
use Rattle.dump_trees.proofs.paths.SiblingLemmas.{cut_above, sibling_names}
use Rattle.dump_trees.proofs.quiet.QuietLemmas.{same_answer}
use Rattle.dump_history.specs.DumpChanges.{LoadsAs}
use Rattle.dump_history.proofs.restricted.LoadsOnce.{whole_records_once}
use Rattle.dump_index.specs.steps.IndexLaws.{AreListed, IsListed}
use Rattle.dump_index.specs.steps.Listed.{Listed, listed_of}
use Rattle.dump_index.specs.declared.change.NodeChange.{NodeChange}
use Rattle.dump_cut.specs.steps.FilteredAlike.{FirstSiblingsCoverTheSame, FirstSiblingsFilterAlike}
use Rattle.dump_cut.specs.steps.FoundSiblings.{AreFoundSiblings}
use Rattle.dump_cut.specs.LaterParts.{is_later_revision}
use Rattle.dump_cut.specs.steps.NamedLines.{is_left_by}
use Rattle.dump_cut.proofs.AlikeCuts.{covers_filter_alike, once_above}
use Rattle.dump_cut.proofs.FoundSiblings.{found_siblings_are_all, sibling_outside}
use Rattle.dump_cut.proofs.LaterLaw.{loads_first}
use Rattle.dump_cut.proofs.LaterRecords.{before_first, both_parts, first_is_dump, from_first}

-- the changes of the first revisions

-- the revisions up to the number of the last of some first revisions have as many changes as these
end_is : (n start bound : ℕ) (revisions : List (List Change)) → start + n ≡ suc bound
    → end_of (placed_from start revisions) bound ≡ length (placed_from start (take n revisions))
end_is zero start bound revisions same =
    none_up_to bound (suc bound) (placed_from start revisions) (omega arith)
    (subst (λ m. AreFrom m (placed_from start revisions)) (let here : start ≡ suc bound = omega (arith, same) in here)
    (all_from start revisions))
end_is (suc n) start bound [] same = refl
end_is (suc n) start bound (changes ∷ revisions) same =
    sum_by-append (λ (p : Placed). cond (nat_le p.revision bound) 1 0) (of_one start changes) (placed_from (suc start) revisions)
    ∙ (ap₂ (λ a b. a + b)
    (count_whole (λ (p : Placed). nat_le p.revision bound) (of_one start changes)
    (one_up_to bound start changes (omega (arith, same))))
    (end_is n (suc start) bound revisions (omega (arith, same)))
    ∙ sym (length-append (of_one start changes) (placed_from (suc start) (take n revisions))))

-- so this many first changes are those of the first revisions
placed_taken : (number : ℕ) (revisions : List (List Change))
    → take (end_of (placed_from 1 revisions) number) (placed_from 1 revisions) ≡ placed_from 1 (take number revisions)
placed_taken number revisions =
    let front = placed_from 1 (take number revisions) in
    let behind = placed_from (1 + length (take number revisions)) (drop number revisions) in
    let parted : placed_from 1 revisions ≡ front ++ behind =
    ap (placed_from 1) (sym (take-append-drop number revisions))
    ∙ placed_append 1 (take number revisions) (drop number revisions) in
    ap₂ (λ (n : ℕ) (ps : List Placed). take n ps) (end_is number 1 number revisions (omega arith)) parted
    ∙ take-append_seam front behind

-- the first items of lists that are zipped are zipped
zip_take : {A B : Type 0} (R : A → B → Type 0) (n : ℕ) (xs : List A) (ys : List B) → AllZip R xs ys
    → AllZip R (take n xs) (take n ys)
zip_take R zero xs ys all = tt
zip_take R (suc n) [] [] all = tt
zip_take R (suc n) [] (y ∷ ys) all = absurd all
zip_take R (suc n) (x ∷ xs) [] all = absurd all
zip_take R (suc n) (x ∷ xs) (y ∷ ys) (one, all) = (one, zip_take R n xs ys all)

-- siblings that are found in the first changes are all siblings that exist in the first revisions
first_are_all : (changes : List NodeChange) (revisions : List (List Change)) (number : ℕ) (included siblings : List NodePath)
    → AreListed changes (placed_from 1 revisions)
    → AreFoundSiblings (take (end_of (placed_from 1 revisions) number) (map listed_of changes)) included siblings
    → AreEverSiblings included (take number revisions) siblings
first_are_all changes revisions number included siblings listed found =
    let n = end_of (placed_from 1 revisions) number in
    let same : take n (map listed_of changes) ≡ map listed_of (take n changes) = take-map listed_of n changes in
    found_siblings_are_all (take n changes) included siblings (take number revisions)
    (subst (λ (ls : List Listed). AllZip IsListed ls (placed_from 1 (take number revisions))) same
    (subst (λ (ps : List Placed). AllZip IsListed (take n (map listed_of changes)) ps) (placed_taken number revisions)
    (zip_take IsListed n (map listed_of changes) (placed_from 1 revisions) listed)))
    (subst (λ (ls : List Listed). AreFoundSiblings ls included siblings) same found)

-- what exists

-- what exists once in the first revisions exists once in all
once_in_all : (number : ℕ) (revisions : List (List Change)) (path : NodePath) → ExistsOnce (take number revisions) path
    → ExistsOnce revisions path
once_in_all number revisions path once = record {
  front = once.front;
  changes = once.changes;
  more = once.more;
  rest = once.rest ++ drop number revisions;
  trees = once.trees;
  tree = once.tree;
  parted = sym (take-append-drop number revisions)
      ∙ ap (λ (rs : List (List Change)). rs ++ drop number revisions) once.parted
      ∙ append_assoc once.front ((once.changes ++ once.more) ∷ once.rest) (drop number revisions);
  loads = once.loads;
  last = once.last;
  exists = once.exists;
}

-- if siblings cover what exists once, so do the siblings that are found there: the sibling above exists too
covered_in : (included : List NodePath) (revisions : List (List Change)) (siblings others : List NodePath)
    → list_all (is_sibling included) siblings ≡ true → AreEverSiblings included revisions others → (path : NodePath)
    → ExistsOnce revisions path → is_covered siblings path ≡ true → is_covered others path ≡ true
covered_in included revisions siblings others each all path once is =
    let (top, rest, among, same) = covered_by siblings path is in
    let above = once_above revisions top rest (subst (ExistsOnce revisions) same once) in
    let are = all above.front above.changes above.more above.rest above.trees above.parted above.loads in
    subst (λ p. is_covered others p ≡ true) (sym same)
    (covered_from others top rest
    (are.all (length (above.front ++ above.changes ∷ [])) above.tree top above.last above.exists
    (all_has (is_sibling included) siblings top each among)))

-- siblings that are found in the whole dump and in its first part cover the same of that part
pub first_siblings_cover_the_same : FirstSiblingsCoverTheSame
first_siblings_cover_the_same changes revisions number included siblings first_siblings listed found first_found path once =
    same_answer (is_covered siblings path) (is_covered first_siblings path)
    (covered_in included (take number revisions) siblings first_siblings found.each
    (first_are_all changes revisions number included first_siblings listed first_found) path once)
    (covered_in included revisions first_siblings siblings first_found.each
    (found_siblings_are_all changes included siblings revisions listed found) path (once_in_all number revisions path once))

-- filters that exclude them

-- what siblings cover isn't in the cut, since neither they nor paths below them are
covered_outside : (included siblings : List NodePath) (path : NodePath) → list_all (is_sibling included) siblings ≡ true
    → is_covered siblings path ≡ true → is_in_cut included path ≡ false
covered_outside included siblings path each is =
    let (top, rest, among, same) = covered_by siblings path is in
    let outside = sibling_outside included top (all_has (is_sibling included) siblings top each among) in
    cases top rest (is_in_cut included path) refl same outside
  where
    cases : (top rest : NodePath) (b : Bool) → is_in_cut included path ≡ b → path ≡ top ++ rest
        → is_in_cut included top ≡ false → b ≡ false
    cases top rest false is same outside = refl
    cases top rest true is same outside =
        absurd (let inside = cut_above included top rest (ap (is_in_cut included) (sym same) ∙ is) in
        let bad : true ≡ false = sym inside ∙ outside in cc)

-- so siblings cover the same of what both leave
left_alike : (included siblings others : List NodePath) (path : NodePath) → list_all (is_sibling included) siblings ≡ true
    → is_left_by included others path ≡ true → is_covered siblings path ≡ true → is_covered others path ≡ true
left_alike included siblings others path each left is =
    elim (or_cases (is_in_cut included path) (is_covered others path) left) [
      | inl inside ↦
          absurd (let bad : true ≡ false = sym inside ∙ covered_outside included siblings path each is in cc)
      | inr covered ↦ covered
    ]

-- filters that exclude such siblings keep the same of the first part
pub first_siblings_filter_alike : FirstSiblingsFilterAlike
first_siblings_filter_alike patched settings others number dump first records firsts changes revisions trees included siblings
    first_siblings has loads low is_first has_firsts listed all_do short made found cover first_found first_cover excludes
    exclude_too empty renumber preserve skip_missing =
    covers_filter_alike patched settings others firsts (take number revisions) (take (suc number) trees) siblings first_siblings
    (subst (λ (rs : List DumpRecord). LoadsAs patched root_alone rs (take number revisions) (take (suc number) trees)) same
    (loads_first patched number dump records revisions trees has loads low))
    all_do short made excludes (sibling_names included siblings found.each) exclude_too
    (sibling_names included first_siblings first_found.each) empty renumber preserve skip_missing
    (first_siblings_cover_the_same changes revisions number included siblings first_siblings listed found first_found)
    (λ r ps p lines line there properties within merges reads in_lines.
    let left = cover records Ending.Whole r has (among r there) ps properties p within merges lines line reads in_lines in
    let first_left =
    first_cover firsts Ending.Whole r has_firsts there ps properties p within merges lines line reads in_lines in
    let path = canonical_path line.path in
    same_answer (is_covered siblings path) (is_covered first_siblings path)
    (left_alike included siblings first_siblings path found.each first_left)
    (left_alike included first_siblings siblings path first_found.each left))
  where
    same : before_first (is_later_revision number) records ≡ firsts
    same =
        whole_records_once first (before_first (is_later_revision number) records) firsts
        (first_is_dump number dump first records has (is_first records has)) has_firsts

    among : (r : DumpRecord) → Contains firsts r → Contains records r
    among r there =
        subst (λ (rs : List DumpRecord). Contains rs r) (both_parts (is_later_revision number) records)
        (Contains-append_left (before_first (is_later_revision number) records) (from_first (is_later_revision number) records) r
        (subst (λ (rs : List DumpRecord). Contains rs r) (sym same) there))
