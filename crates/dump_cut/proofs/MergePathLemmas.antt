-- The paths that mergeinfo names, in the order in which they are collected.
use Rattle.std.proofs.Common.{◌≡◌, ℕ, ◌+◌, ◌<◌, ◌⊎◌, Bool, true, false, cond, List, [], ◌∷◌, ◌++◌, length, map, take, get_or, refl, sym, ap, ◌∙◌, subst, inl, inr, append_assoc}
use Rattle.std.proofs.lemmas.List.{take_more}
use Rattle.std.proofs.lemmas.List.Elements.{Contains-push, Contains-push_cases, Contains-append_left}
use Rattle.std.proofs.lemmas.Map.Text.{is_eq-slice_cmp}
use Rattle.std.proofs.lemmas.Slice.Eq.{bytes_eq-Decides}
use Rattle.std.specs.Prelude.{Contains, IsSome, ◌↔◌, Option, Some, None, is_some, unwrap_or}
use Rattle.std.specs.BTreeSet.{insert_key}
use Rattle.std.specs.Cmp.Lexicographic.{slice_cmp}
use Rattle.std.specs.List.{list_all}
use Rattle.std.specs.Ordering.{is_eq, match_ordering, nat_cmp}
use Rattle.std.specs.declared.cmp.Ordering.{Ordering}
use Rattle.std.specs.declared.cmp.Ordering.TheVariants.{Less, Equal, Greater}
use Rattle.dump_text.specs.HeaderLine.{has_byte}
use Rattle.dump_text.specs.PropertyList.{IsPropertyBlock, Property}
use Rattle.dump_text.specs.declared.props.Props.{Props}
use Rattle.dump_text.specs.steps.PropertyViews.{props_bytes}
use Rattle.dump_text.proofs.ScanLemmas.{clash}
use Rattle.dump_records.specs.DumpText.{Ending, HasRecords}
use Rattle.dump_records.specs.RecordText.{DumpRecord}
use Rattle.dump_records.specs.declared.cutter.Cut.{Cut}
use Rattle.dump_records.specs.declared.cutter.Cut.TheVariants as cuts
use Rattle.dump_records.specs.declared.record.Record.{Record}
use Rattle.dump_records.specs.steps.CutterState.{CutterState}
use Rattle.dump_records.specs.steps.RecordViews.{CutStep}
use Rattle.dump_records.proofs.ListLaw.{each_dump_has_one_list}
use Rattle.dump_rules.specs.steps.RewrittenLines.{line_path}
use Rattle.dump_digest.specs.RecordParts.{HasPropertyBlock, is_mergeinfo, value_of}
use Rattle.dump_trees.specs.CanonicalPaths.{canonical_path}
use Rattle.dump_trees.specs.Paths.{NodePath, names_of}
use Rattle.dump_trees.specs.Siblings.{has_node_names}
use Rattle.dump_trees.proofs.cuts.CoveredPaths.{contains_cases, contains_none, contains_first, contains_later, list_all_of}
use Rattle.dump_cut.specs.steps.NamedLines.{AreMergePaths}
use Rattle.dump_cut.specs.steps.MergePaths.{AddsPaths, IsInLine, IsInLines, IsInProperties, IsInRecord, IsInValue}
use Rattle.dump_cut.proofs.ColonLemmas.{last_colon, path_of_parted}
use Rattle.dump_records.proofs.CutterLemmas.{ReadSoFar, read_ends}
use Rattle.dump_cut.proofs.GrowingLemmas.{canonical_named}
use Rattle.dump_trees.proofs.paths.CanonicalLemmas.{passing_stay}

-- paths that are added

pub none_added : (paths : List NodePath) (Added : NodePath → Type 0) → ((path : NodePath) → Added path → ⊥)
    → AddsPaths paths paths Added
none_added paths Added none = record {
  kept = λ path there. there;
  all = λ path is. absurd (none path is);
  each = λ path there. inl there;
}

pub added_then : (one two three : List NodePath) (First Second Both : NodePath → Type 0)
    → AddsPaths one two First → AddsPaths two three Second
    → ((path : NodePath) → Both path → First path ⊎ Second path)
    → ((path : NodePath) → First path → Both path) → ((path : NodePath) → Second path → Both path)
    → AddsPaths one three Both
added_then one two three First Second Both before more parts first second = record {
  kept = λ path there. more.kept path (before.kept path there);
  all = λ path is. elim (parts path is) [
    | inl early ↦ more.kept path (before.all path early)
    | inr own ↦ more.all path own
  ];
  each = λ path there. elim (more.each path there) [
    | inl old ↦ elim (before.each path old) [
      | inl oldest ↦ inl oldest
      | inr early ↦ inr (first path early)
    ]
    | inr own ↦ inr (second path own)
  ];
}

pub added_same : (old new : List NodePath) (These Those : NodePath → Type 0) → AddsPaths old new These
    → ((path : NodePath) → Those path → These path) → ((path : NodePath) → These path → Those path) → AddsPaths old new Those
added_same old new These Those adds back forth = record {
  kept = adds.kept;
  all = λ path is. adds.all path (back path is);
  each = λ path there. elim (adds.each path there) [
    | inl old ↦ inl old
    | inr own ↦ inr (forth path own)
  ];
}

-- a key that is added to others; if a key with the same text exists, that one stays
pub key_added : {V : Type 0} (items : V → List ℕ) (k : V) (keys : List V)
    → AddsPaths (map (λ key. names_of (items key)) keys)
    (map (λ key. names_of (items key)) (insert_key (λ a b. slice_cmp nat_cmp (items a) (items b)) keys k))
    (λ path. path ≡ names_of (items k))
key_added items k [] = record {
  kept = λ path there. absurd (contains_none path there);
  all = λ path is. subst (Contains (names_of (items k) ∷ [])) (sym is) (contains_first (names_of (items k)) []);
  each = λ path there. elim (contains_cases (names_of (items k)) [] path there) [
    | inl same ↦ inr (sym same)
    | inr none ↦ absurd (contains_none path none)
  ];
}
key_added {V} items k (x ∷ keys) = cases (key_added items k keys) (slice_cmp nat_cmp (items k) (items x)) refl
  where
    paths : List V → List NodePath
    paths vs = map (λ key. names_of (items key)) vs

    inserted : List V
    inserted = insert_key (λ a b. slice_cmp nat_cmp (items a) (items b)) keys k

    same_text : slice_cmp nat_cmp (items k) (items x) ≡ Equal → items k ≡ items x
    same_text is = (bytes_eq-Decides (items k) (items x)).0 (sym (is_eq-slice_cmp (items k) (items x)) ∙ ap is_eq is)

    cases : AddsPaths (paths keys) (paths inserted) (λ path. path ≡ names_of (items k))
        → (o : Ordering) → slice_cmp nat_cmp (items k) (items x) ≡ o
        → AddsPaths (paths (x ∷ keys)) (paths (match_ordering o (k ∷ x ∷ keys) (x ∷ keys) (x ∷ inserted)))
        (λ path. path ≡ names_of (items k))
    cases further Less is = record {
      kept = λ path there. contains_later (names_of (items k)) (paths (x ∷ keys)) path there;
      all = λ path own. subst (Contains (paths (k ∷ x ∷ keys))) (sym own) (contains_first (names_of (items k)) (paths (x ∷ keys)));
      each = λ path there. elim (contains_cases (names_of (items k)) (paths (x ∷ keys)) path there) [
        | inl same ↦ inr (sym same)
        | inr old ↦ inl old
      ];
    }
    cases further Equal is = record {
      kept = λ path there. there;
      all = λ path own.
          subst (Contains (paths (x ∷ keys))) (sym (own ∙ ap names_of (same_text is))) (contains_first (names_of (items x)) (paths keys));
      each = λ path there. inl there;
    }
    cases further Greater is = record {
      kept = λ path there. elim (contains_cases (names_of (items x)) (paths keys) path there) [
        | inl same ↦ subst (Contains (paths (x ∷ inserted))) same (contains_first (names_of (items x)) (paths inserted))
        | inr old ↦ contains_later (names_of (items x)) (paths inserted) path (further.kept path old)
      ];
      all = λ path own. contains_later (names_of (items x)) (paths inserted) path (further.all path own);
      each = λ path there. elim (contains_cases (names_of (items x)) (paths inserted) path there) [
        | inl same ↦ inl (subst (Contains (paths (x ∷ keys))) same (contains_first (names_of (items x)) (paths keys)))
        | inr later ↦ elim (further.each path later) [
          | inl old ↦ inl (contains_later (names_of (items x)) (paths keys) path old)
          | inr own ↦ inr own
        ]
      ];
    }

-- lines

pub no_lines : (path : NodePath) → IsInLines [] path → ⊥
no_lines path (line, there, is) = contains_none line there

-- one more line
pub line_added : (one two three : List NodePath) (lines : List (List ℕ)) (k : ℕ) (line : List ℕ) → k < length lines
    → line ≡ get_or lines k line → AddsPaths one two (IsInLines (take k lines))
    → AddsPaths two three (IsInLine line) → AddsPaths one three (IsInLines (take (k + 1) lines))
line_added one two three lines k line low at before own =
    subst (λ (ls : List (List ℕ)). AddsPaths one three (IsInLines ls))
    (sym (take_more lines k line low ∙ ap (λ l. take k lines ++ l ∷ []) (sym at)))
    (added_then one two three (IsInLines (take k lines)) (IsInLine line) (IsInLines (take k lines ++ line ∷ [])) before own
    (λ path is. parts path is)
    (λ path is. (is.0, Contains-append_left (take k lines) (line ∷ []) is.0 is.1, is.2))
    (λ path is. (line, Contains-push (take k lines) line, is)))
  where
    parts : (path : NodePath) → IsInLines (take k lines ++ line ∷ []) path → IsInLines (take k lines) path ⊎ IsInLine line path
    parts path (other, there, is) =
        elim (Contains-push_cases (take k lines) line other there) [
          | inl early ↦ inl (other, early, is)
          | inr same ↦ inr (subst (λ (l : List ℕ). IsInLine l path) (sym same) is)
        ]

-- a line with a colon names the path before the last one
pub colon_line_adds : (old new : List NodePath) (line : List ℕ) → has_byte 58 line ≡ true
    → AddsPaths old new (λ path. path ≡ canonical_path (line_path line)) → AddsPaths old new (IsInLine line)
colon_line_adds old new line some adds =
    let (text, ranges, parted, last) = last_colon line some in
    added_same old new (λ path. path ≡ canonical_path (line_path line)) (IsInLine line) adds
    (λ path (front, list, is, none, names). names ∙ ap canonical_path (sym (path_of_parted line front list is none)))
    (λ path names. (text, ranges, parted, last, names ∙ ap canonical_path (path_of_parted line text ranges parted last)))

-- a line without a colon names no path
pub bare_line_adds : (paths : List NodePath) (line : List ℕ) → has_byte 58 line ≡ false → AddsPaths paths paths (IsInLine line)
bare_line_adds paths line none =
    none_added paths (IsInLine line) (λ path (text, ranges, parted, last, names).
    clash 58 text ranges line none (parted ∙ append_assoc text (58 ∷ []) ranges))

-- properties

pub no_properties : (path : NodePath) → IsInProperties [] path → ⊥
no_properties path (p, there, merges, in_value) = contains_none p there

-- one more property, whose value is read if it is mergeinfo
pub property_added : (one two three : List NodePath) (done : List Property) (p : Property)
    → AddsPaths one two (IsInProperties done)
    → AddsPaths two three (λ path. (is_mergeinfo p ≡ true) × IsInValue (value_of p) path)
    → AddsPaths one three (IsInProperties (done ++ p ∷ []))
property_added one two three done p before own =
    added_then one two three (IsInProperties done) (λ path. (is_mergeinfo p ≡ true) × IsInValue (value_of p) path)
    (IsInProperties (done ++ p ∷ [])) before own
    (λ path is. parts path is)
    (λ path is. (is.0, Contains-append_left done (p ∷ []) is.0 is.1, is.2, is.3))
    (λ path is. (p, Contains-push done p, is.0, is.1))
  where
    parts : (path : NodePath) → IsInProperties (done ++ p ∷ []) path
        → IsInProperties done path ⊎ ((is_mergeinfo p ≡ true) × IsInValue (value_of p) path)
    parts path (q, there, merges, in_value) =
        elim (Contains-push_cases done p q there) [
          | inl early ↦ inl (q, early, merges, in_value)
          | inr same ↦
              inr (subst (λ (x : Property). (is_mergeinfo x ≡ true) × IsInValue (value_of x) path) (sym same) (merges, in_value))
        ]

-- the value of an entry that sets one
pub entry_value : (gone : Bool) (value : List ℕ) → is_some (cond gone None (Some value)) ≡ true
    → value ≡ unwrap_or (cond gone None (Some value)) []
entry_value true value some = absurd (let bad : false ≡ true = some in cc)
entry_value false value some = refl

-- a record

pub unread_adds : (paths : List NodePath) (r : DumpRecord) (found : Option Props) → (IsSome found ↔ HasPropertyBlock r)
    → found ≡ None → AddsPaths paths paths (IsInRecord r)
unread_adds paths r found means none =
    none_added paths (IsInRecord r) (λ path is.
    absurd (let bad : false ≡ true = sym (ap is_some none) ∙ means.1 (is.0, is.1) in cc))

pub read_adds : (old new : List NodePath) (r : DumpRecord) (props : Props) (found : Option Props)
    → (IsSome found ↔ HasPropertyBlock r) → found ≡ Some props → props_bytes props ≡ r.props
    → ((ps : List Property) → IsPropertyBlock (props_bytes props) ps → AddsPaths old new (IsInProperties ps))
    → AddsPaths old new (IsInRecord r)
read_adds old new r props found means some bytes each =
    let (ps, has) = means.0 (ap is_some some) in
    let own = each ps (subst (λ text. IsPropertyBlock text ps) (sym bytes) has.0) in
    record {
      kept = own.kept;
      all = λ path is. (each is.0 (subst (λ text. IsPropertyBlock text is.0) (sym bytes) is.1.0)).all path is.2;
      each = λ path there. elim (own.each path there) [
        | inl old ↦ inl old
        | inr in_it ↦ inr (ps, has, in_it)
      ];
    }

-- records

-- one of the records names the path
abbrev pub IsInRecords : List DumpRecord → NodePath → Type 0
IsInRecords records path = (r : DumpRecord) × Contains records r × IsInRecord r path

pub no_records : (path : NodePath) → IsInRecords [] path → ⊥
no_records path (r, there, is) = contains_none r there

pub record_added : (one two three : List NodePath) (before : List DumpRecord) (r : DumpRecord)
    → AddsPaths one two (IsInRecords before) → AddsPaths two three (IsInRecord r)
    → AddsPaths one three (IsInRecords (before ++ r ∷ []))
record_added one two three before r early own =
    added_then one two three (IsInRecords before) (IsInRecord r) (IsInRecords (before ++ r ∷ [])) early own
    (λ path is. parts path is)
    (λ path is. (is.0, Contains-append_left before (r ∷ []) is.0 is.1, is.2))
    (λ path is. (r, Contains-push before r, is))
  where
    parts : (path : NodePath) → IsInRecords (before ++ r ∷ []) path → IsInRecords before path ⊎ IsInRecord r path
    parts path (other, there, is) =
        elim (Contains-push_cases before r other there) [
          | inl old ↦ inl (other, old, is)
          | inr same ↦ inr (subst (λ (x : DumpRecord). IsInRecord x path) (sym same) is)
        ]

-- the collected paths of all records are the paths that the dump names
pub all_collected : (dump : List ℕ) (before : List DumpRecord) (ending : Ending) (paths : List NodePath)
    → HasRecords dump before ending → AddsPaths [] paths (IsInRecords before) → AreMergePaths dump paths
all_collected dump before ending paths has adds = record {
  all = λ path named.
      let (all, last, its, once) = each_dump_has_one_list dump in
      let same = (once named.records named.ending named.has).0 ∙ sym (once before ending has).0 in
      adds.all path (
        named.r,
        subst (λ (rs : List DumpRecord). Contains rs named.r) same named.among,
        (
          named.ps,
          named.properties,
          (
            named.p,
            named.there,
            named.merges,
            (named.line, named.in_value, (named.text, named.ranges, named.parted, named.last, named.names)),
          ),
        ),
      );
  each = λ path there. elim (adds.each path there) [
    | inl none ↦ absurd (contains_none path none)
    | inr in_it ↦
        let (r, among, (ps, properties, (p, is_there, merges, (line, in_value, (text, ranges, parted, last, names))))) = in_it in
        record {
          records = before;
          ending = ending;
          r = r;
          ps = ps;
          p = p;
          line = line;
          text = text;
          ranges = ranges;
          has = has;
          among = among;
          properties = properties;
          there = is_there;
          merges = merges;
          in_value = in_value;
          parted = parted;
          last = last;
          names = names;
        }
  ];
}

-- what is read when the records end
pub all_read : (dump : List ℕ) (cutter after : CutterState) (paths : List NodePath) (read : ReadSoFar dump cutter)
    → AddsPaths [] paths (IsInRecords read.before) → (found : Cut) → CutStep cutter found after
    → ((item : Record) → found ≡ cuts.Item item → ⊥) → AreMergePaths dump paths
all_read dump cutter after paths read adds (cuts.Item item) step other = absurd (other item refl)
all_read dump cutter after paths read adds cuts.Finished step other =
    all_collected dump read.before Ending.Whole paths (read_ends dump cutter after read Ending.Whole step.0) adds
all_read dump cutter after paths read adds (cuts.Fault kind place) step other =
    all_collected dump read.before (Ending.Broken kind place) paths (read_ends dump cutter after read (Ending.Broken kind place) step.0) adds

-- the collected paths have names of nodes
pub merge_paths_named : (dump : List ℕ) (paths : List NodePath) → AreMergePaths dump paths → list_all has_node_names paths ≡ true
merge_paths_named dump paths are =
    list_all_of has_node_names paths (λ path there.
    let named = are.each path there in
    ap has_node_names named.names ∙ canonical_named named.text)

-- the text of such a path is canonical
pub named_canonical : (text : List ℕ) → has_node_names (names_of text) ≡ true → canonical_path text ≡ names_of text
named_canonical [] named = refl
named_canonical (b ∷ text) named = passing_stay (names_of (b ∷ text)) named
