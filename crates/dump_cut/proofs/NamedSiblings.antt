-- Siblings that mergeinfo names.
use Rattle.std.proofs.Common.{◌≡◌, ◌⊎◌, ℕ, ◌+◌, ◌<◌, Bool, true, false, not, cond, List, [], ◌∷◌, ◌++◌, length, take, drop, get_or, filter, refl, sym, ap, ◌∙◌, subst, inl, inr, nat_eq, arith, count_by}
use Rattle.std.specs.Prelude.{Contains}
use Rattle.std.specs.List.{AllZip, join_with_byte, list_all, onto_first, slice_split}
use Rattle.std.proofs.lemmas.Bool.{and_from, or_cases, or_left, or_right}
use Rattle.std.proofs.lemmas.List.{take-append-drop}
use Rattle.std.proofs.lemmas.List.Splits.{length-slice_split}
use Rattle.std.proofs.lemmas.List.Elements.{Contains-append_left, filter-append}
use Rattle.dump_text.specs.HeaderLine.{has_byte}
use Rattle.dump_rules.specs.Mergeinfo.{IsMergeinfo, IsMergeLine, MergeLine}
use Rattle.dump_rules.proofs.reading.MergeinfoLemmas.{all_read}
use Rattle.dump_rules.proofs.reading.RangeListLemmas.{list_lacks, split_joined}
use Rattle.dump_digest.specs.RecordParts.{value_of, HasPropertyList, is_mergeinfo}
use Rattle.dump_trees.specs.CanonicalPaths.{canonical_path}
use Rattle.dump_trees.specs.Paths.{NodePath, names_of}
use Rattle.dump_trees.specs.Returns.{is_covered}
use Rattle.dump_trees.specs.Siblings.{has_node_names, is_node_name}
use Rattle.dump_trees.specs.steps.Siblings.{is_in_cut, is_sibling}
use Rattle.dump_trees.proofs.cuts.CoveredPaths.{contains_cases, contains_none, contains_first, contains_later, covered_itself, covered_more}
use Rattle.dump_trees.proofs.paths.SiblingLemmas.{both_names, above_there}
use Rattle.dump_index.specs.steps.Listed.{Listed}
use Rattle.dump_cut.specs.steps.FoundSiblings.{AreFoundSiblings}
use Rattle.dump_cut.specs.steps.NamedLines.{AreMergePaths, CoverMergeinfo, is_left_by, NamesPath}
use Rattle.dump_cut.specs.steps.ExcludedPaths.{IsGrownIf}
use Rattle.dump_cut.specs.steps.MoreSiblings.{AreMore}
use Rattle.dump_cut.proofs.FoundSiblings.{adds_sibling, sibling_covered, sibling_in}
use Rattle.dump_cut.proofs.NameTextLemmas.{filter_more}
use Rattle.dump_trees.proofs.paths.CanonicalLemmas.{filtered_pass}
use Rattle.dump_records.specs.DumpText.{Ending, HasRecords}
use Rattle.dump_records.specs.RecordText.{DumpRecord}
use Rattle.dump_text.specs.PropertyList.{Property}

-- more siblings

pub same_more : (included old new : List NodePath) → new ≡ old → AreMore included old new
same_more included old new same = record {
  each = λ all. ap (list_all (is_sibling included)) same ∙ all;
  kept = λ path is. ap (λ tops. is_covered tops path) same ∙ is;
}

pub more_then : (included one two three : List NodePath) → AreMore included one two → AreMore included two three
    → AreMore included one three
more_then included one two three first second = record {
  each = λ all. second.each (first.each all);
  kept = λ path is. second.kept path (first.kept path is);
}

pub left_more : (included old new : List NodePath) → AreMore included old new → (path : NodePath)
    → is_left_by included old path ≡ true → is_left_by included new path ≡ true
left_more included old new more path is =
    elim (or_cases (is_in_cut included path) (is_covered old path) is) [
      | inl inside ↦ or_left (is_in_cut included path) (is_covered new path) inside
      | inr covered ↦ or_right (is_in_cut included path) (is_covered new path) (more.kept path covered)
    ]

-- the siblings that are found are among more siblings
pub found_more : (listed : List Listed) (included old new : List NodePath) → AreFoundSiblings listed included old
    → AreMore included old new → AreFoundSiblings listed included new
found_more listed included old new found more = record {
  each = more.each found.each;
  all = λ path name above can sibling.
      sibling_covered included new (path ++ name ∷ []) (more.each found.each) sibling
      (more.kept (path ++ name ∷ []) (covered_itself old (path ++ name ∷ []) (found.all path name above can sibling)));
}

-- the paths on the way to a path

pub pushed_named_path : (prefix : List ℕ) (k : ℕ) (top : NodePath) (name : List ℕ)
    → top ≡ filter is_node_name (take k (slice_split (λ c. nat_eq c 47) prefix)) → is_node_name name ≡ true
    → has_node_names (top ++ name ∷ []) ≡ true
pushed_named_path prefix k top name are named =
    both_names top (name ∷ [])
    (ap has_node_names are ∙ filtered_pass (take k (slice_split (λ c. nat_eq c 47) prefix))) (and_from _ _ named refl)

pub next_names : (prefix : List ℕ) (k : ℕ) (top : NodePath) (name : List ℕ)
    → top ≡ filter is_node_name (take k (slice_split (λ c. nat_eq c 47) prefix))
    → k < length (slice_split (λ c. nat_eq c 47) prefix) → name ≡ get_or (slice_split (λ c. nat_eq c 47) prefix) k name
    → is_node_name name ≡ true
    → top ++ name ∷ [] ≡ filter is_node_name (take (k + 1) (slice_split (λ c. nat_eq c 47) prefix))
next_names prefix k top name are low is named =
    ap (λ names. names ++ name ∷ []) are ∙ sym (filter_more is_node_name (slice_split (λ c. nat_eq c 47) prefix) k name true low is named)

-- a canonical path begins with the first names
canonical_front : (prefix : List ℕ) (k : ℕ) → (rest : NodePath)
    × (canonical_path prefix ≡ filter is_node_name (take k (slice_split (λ c. nat_eq c 47) prefix)) ++ rest)
canonical_front prefix k =
    let names = slice_split (λ c. nat_eq c 47) prefix in (
      filter is_node_name (drop k names),
      ap (filter is_node_name) (sym (take-append-drop k names)) ∙ filter-append is_node_name (take k names) (drop k names),
    )

-- a first path that isn't in the cut is added, and covers the whole path
pub added_on_way : (included old new : List NodePath) (prefix top name : List ℕ) (k : ℕ) (is_new : Bool)
    → names_of top ++ name ∷ [] ≡ filter is_node_name (take k (slice_split (λ c. nat_eq c 47) prefix))
    → has_node_names (names_of top ++ name ∷ []) ≡ true → is_in_cut included (names_of top) ≡ true
    → is_in_cut included (names_of top ++ name ∷ []) ≡ false → is_new ≡ not (is_covered old (names_of top ++ name ∷ []))
    → IsGrownIf old (names_of top ++ name ∷ []) new is_new
    → AreMore included old new × (is_left_by included new (canonical_path prefix) ≡ true)
added_on_way included old new prefix top name k is_new names named inside outside new_is grown =
    let above = above_there included (names_of top) name inside outside in
    let adds = adds_sibling included old new top name (names_of top ++ name ∷ []) is_new refl named above outside new_is grown in
    let own = adds.own (sibling_in included (names_of top) name named above outside) in
    let (rest, is) = canonical_front prefix k in (
      record { each = adds.each; kept = adds.kept },
      or_right (is_in_cut included (canonical_path prefix)) (is_covered new (canonical_path prefix))
          (ap (is_covered new) (is ∙ ap (λ (p : NodePath). p ++ rest) (sym names))
          ∙ covered_more new (names_of top ++ name ∷ []) rest own),
    )

-- the lines of a value

-- a text of the value is the line: its path, a colon, and ranges without a colon
pub record TextOfLine (value : List ℕ) (line : MergeLine) : Type 0 where
  pub text : List ℕ
  pub ranges : List ℕ
  pub in_value : Contains (slice_split (λ c. nat_eq c 10) value) text
  pub parted : text ≡ (line.path ++ 58 ∷ []) ++ ranges
  pub last : has_byte 58 ranges ≡ false

zip_there : (texts : List (List ℕ)) (lines : List MergeLine) → AllZip IsMergeLine texts lines → (line : MergeLine)
    → Contains lines line → (text : List ℕ) × Contains texts text × IsMergeLine text line
zip_there [] [] all line there = absurd (contains_none line there)
zip_there [] (l ∷ lines) all line there = absurd all
zip_there (text ∷ texts) [] all line there = absurd all
zip_there (text ∷ texts) (l ∷ lines) all line there =
    elim (contains_cases l lines line there) [
      | inl same ↦ (text, contains_first text texts, subst (IsMergeLine text) same all.0)
      | inr more ↦
          let (found, among, is) = zip_there texts lines all.1 line more in
          (found, contains_later text texts found among, is)
    ]

-- an LF at the end adds one more text
split_ended : (front : List ℕ)
    → slice_split (λ c. nat_eq c 10) (front ++ 10 ∷ []) ≡ slice_split (λ c. nat_eq c 10) front ++ [] ∷ []
split_ended [] = refl
split_ended (c ∷ front) = cases (nat_eq c 10) (split_ended front)
  where
    parts : List ℕ → List (List ℕ)
    parts text = slice_split (λ b. nat_eq b 10) text

    onto : (ps : List (List ℕ)) → parts front ≡ ps → onto_first c (ps ++ [] ∷ []) ≡ onto_first c ps ++ [] ∷ []
    onto [] is =
        let bad : 0 ≡ count_by (λ b. nat_eq b 10) front + 1 = sym (ap length is) ∙ length-slice_split (λ b. nat_eq b 10) front in
        absurd (omega (arith, bad))
    onto (part ∷ ps) is = refl

    cases : (b : Bool) → parts (front ++ 10 ∷ []) ≡ parts front ++ [] ∷ []
        → cond b ([] ∷ parts (front ++ 10 ∷ [])) (onto_first c (parts (front ++ 10 ∷ [])))
        ≡ cond b ([] ∷ parts front) (onto_first c (parts front)) ++ [] ∷ []
    cases true later = ap (λ (l : List (List ℕ)). [] ∷ l) later
    cases false later = ap (onto_first c) later ∙ onto (parts front) refl

-- the texts of the lines are among the texts between the value's LFs
texts_there : (texts : List (List ℕ)) (lines : List MergeLine) → AllZip IsMergeLine texts lines → (value text : List ℕ)
    → (value ≡ join_with_byte 10 texts) ⊎ (value ≡ join_with_byte 10 texts ++ 10 ∷ []) → Contains texts text
    → Contains (slice_split (λ c. nat_eq c 10) value) text
texts_there [] lines all value text is there = absurd (contains_none text there)
texts_there (first ∷ texts) lines all value text is there =
    let cut = split_joined 10 first texts (all_read (first ∷ texts) lines all).1 in
    elim is [
      | inl bare ↦ subst (λ ts. Contains ts text) (sym (ap (slice_split (λ c. nat_eq c 10)) bare ∙ cut)) there
      | inr ended ↦
          subst (λ ts. Contains ts text)
          (sym (ap (slice_split (λ c. nat_eq c 10)) ended
          ∙ (split_ended (join_with_byte 10 (first ∷ texts)) ∙ ap (λ (ts : List (List ℕ)). ts ++ [] ∷ []) cut)))
          (Contains-append_left (first ∷ texts) ([] ∷ []) text there)
    ]

-- each line of a valid value is such a text
pub text_of_line : (value : List ℕ) (lines : List MergeLine) (line : MergeLine) → IsMergeinfo value lines
    → Contains lines line → TextOfLine value line
text_of_line value lines line (texts, all, is) there =
    let (text, among, its) = zip_there texts lines all line there in
    record {
      text = text;
      ranges = its.spelled.0;
      in_value = texts_there texts lines all value text is among;
      parted = its.spelled.2;
      last = list_lacks 58 its.spelled.0 line.ranges refl refl refl its.spelled.1;
    }

-- the path of a line of mergeinfo is named
pub line_named : (dump : List ℕ) (records : List DumpRecord) (ending : Ending) (r : DumpRecord) (ps : List Property) (p : Property)
    (lines : List MergeLine) (line : MergeLine) → HasRecords dump records ending → Contains records r
    → HasPropertyList r ps → Contains ps p → is_mergeinfo p ≡ true → IsMergeinfo (value_of p) lines → Contains lines line
    → NamesPath dump (canonical_path line.path)
line_named dump records ending r ps p lines line has among properties there merges reads within =
    let found = text_of_line (value_of p) lines line reads within in
    record {
      records = records;
      ending = ending;
      r = r;
      ps = ps;
      p = p;
      line = found.text;
      text = line.path;
      ranges = found.ranges;
      has = has;
      among = among;
      properties = properties;
      there = there;
      merges = merges;
      in_value = found.in_value;
      parted = found.parted;
      last = found.last;
      names = refl;
    }

-- the siblings cover the mergeinfo of the dump, if they leave each path that it names
pub mergeinfo_covered : (included siblings : List NodePath) (dump : List ℕ) (paths : List NodePath) → AreMergePaths dump paths
    → ((path : NodePath) → Contains paths path → is_left_by included siblings path ≡ true)
    → CoverMergeinfo included siblings dump
mergeinfo_covered included siblings dump paths are each records ending r has among ps properties p there merges lines line reads within =
    each (canonical_path line.path) (are.all (canonical_path line.path)
    (line_named dump records ending r ps p lines line has among properties there merges reads within))
