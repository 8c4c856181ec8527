-- The new value of a value: its new lines.
use Rattle.dump_rules.proofs.Prelude.{◌≡◌, ◌⊎◌, ℕ, ◌-◌, Bool, true, false, ◌==◌, List, [], ◌∷◌, ◌++◌, length, take, map, nat_lt, refl, sym, ap, ◌∙◌, arith, codes, append_assoc, append-nil, inl, inr, cases_Bool, if◌then◌else◌, slice_split, join_with_byte, AllZip, nat_tests, take_at, Settings, keeps_path, KeptRevisions, RiseFrom, Range, runs_text, MergeLine, IsMergeLine, IsMergeinfo, merge_line_text, colon_end, without_lf, IsNewLine, IsNewMergeinfo, staying_lines, nonempty_lines, runs_of, list_ranges, new_ranges, list_new, line_path, line_list, text_lines, with_break, with_runs, with_new_line, with_new_lines}
use Rattle.dump_rules.proofs.reading.RangeListLemmas.{HasFirst, split_joined, joined_some}
use Rattle.dump_rules.proofs.reading.MergeinfoLemmas.{line_cut, bare, all_read}
use Rattle.dump_rules.proofs.new_values.JoinLemmas.{runs_are}
use Rattle.dump_rules.proofs.new_values.RunsLaw.{have_numbers, list_is}
use Rattle.dump_rules.proofs.new_values.NewRangeLemmas.{renumbered, unchanged, list_new_is}
use Rattle.dump_rules.proofs.new_values.NewLineLemmas.{AreFit, new_ranges_fit}

-- one line

pub record LineParts (text : List ℕ) (line : MergeLine) : Type 0 where
  pub path : line_path text ≡ line.path
  pub ranges : list_ranges (line_list text) ≡ line.ranges

-- a line of mergeinfo is read as its path and its ranges
pub line_parts : (text : List ℕ) (line : MergeLine) → IsMergeLine text line → LineParts text line
line_parts text line is =
    let cut = line_cut text line is in
    let before : colon_end text - 1 ≡ length line.path = omega (arith, cut.0) in
    record {
      path = ap (λ n. take n text) before
          ∙ ap (take (length line.path)) (is.spelled.2 ∙ append_assoc line.path (58 ∷ []) is.spelled.0)
          ∙ take_at line.path (58 ∷ is.spelled.0) (length line.path) refl;
      ranges = ap list_ranges cut.1 ∙ sym (list_is is.spelled.0 line.ranges is.spelled.1);
    }

abbrev pub new_line : Settings → KeptRevisions → MergeLine → MergeLine
new_line settings kept line = record {
  path = line.path;
  ranges = runs_of
      (new_ranges settings.renumber kept line.ranges);
}

ranges_of_line_fit : (text : List ℕ) (line : MergeLine) → IsMergeLine text line → AreFit line.ranges
ranges_of_line_fit text line is = record {
  numbers = have_numbers is.spelled.1.0 line.ranges is.spelled.1.1;
  consistent = is.consistent;
}

new_runs : (renumber : Bool) (settings : Settings) (kept : KeptRevisions) → RiseFrom kept.first kept.numbers
    → (line : MergeLine) → AreFit line.ranges → settings.renumber ≡ renumber
    → IsNewLine settings kept line (new_line settings kept line)
new_runs true settings kept up line fit e =
    let mid = new_ranges_fit true kept up line.ranges fit in
    let are = runs_are (new_ranges true kept line.ranges) mid.numbers mid.consistent in
    let old = renumbered kept up line.ranges in
    record {
      path = refl;
      runs = rw e are.0;
      numbers = rw e (λ kind n. (λ h. (old kind n).0 ((are.1 kind n).0 h), λ h. (are.1 kind n).1 ((old kind n).1 h)));
    }
new_runs false settings kept up line fit e =
    let are = runs_are line.ranges fit.numbers fit.consistent in
    let same = unchanged kept line.ranges in
    record {
      path = refl;
      runs = rw e (rw same are.0);
      numbers = rw e (rw same are.1);
    }

pub all_new : (settings : Settings) (kept : KeptRevisions) → RiseFrom kept.first kept.numbers
    → (texts : List (List ℕ)) (lines : List MergeLine) → AllZip IsMergeLine texts lines
    → AllZip (IsNewLine settings kept) (staying_lines settings lines)
    (map (new_line settings kept) (staying_lines settings lines))
all_new settings kept up [] [] all = tt
all_new settings kept up (text ∷ texts) (line ∷ lines) all =
    let later = all_new settings kept up texts lines all.1 in
    elim (cases_Bool (keeps_path settings line.path)) [
      | inl e ↦ rw e (new_runs settings.renumber settings kept up line (ranges_of_line_fit text line all.0) refl, later)
      | inr e ↦ rw e later
    ]
all_new settings kept up texts lines all = absurd all

-- lines joined

abbrev AllSome : List (List ℕ) → Type 0
AllSome [] = Unit {0}
AllSome (text ∷ texts) = HasFirst text × AllSome texts

all_some_push : (texts : List (List ℕ)) (text : List ℕ) → AllSome texts → HasFirst text → AllSome (texts ++ text ∷ [])
all_some_push [] text all some = (some, tt)
all_some_push (first ∷ texts) text all some = (all.0, all_some_push texts text all.1 some)

joined_push : (first : List ℕ) (texts : List (List ℕ)) (text : List ℕ)
    → join_with_byte 10 (first ∷ texts) ++ 10 ∷ text ≡ join_with_byte 10 ((first ∷ texts) ++ text ∷ [])
joined_push first [] text = refl
joined_push first (next ∷ texts) text =
    append_assoc first (10 ∷ join_with_byte 10 (next ∷ texts)) (10 ∷ text) ∙ ap (λ (t : List ℕ). first ++ 10 ∷ t)
    (joined_push next texts text)

break_some : (out : List ℕ) → HasFirst out → with_break out ≡ out ++ 10 ∷ []
break_some [] some = let bad : [] ≡ some.0 ∷ some.1 = some.2 in cc
break_some (b ∷ out) some = refl

with_line : (done : List (List ℕ)) (text : List ℕ) → AllSome done
    → with_break (join_with_byte 10 done) ++ text ≡ join_with_byte 10 (done ++ text ∷ [])
with_line [] text all = refl
with_line (first ∷ texts) text all =
    ap (λ (t : List ℕ). t ++ text) (break_some (join_with_byte 10 (first ∷ texts)) (joined_some 10 first texts all.0))
    ∙ append_assoc (join_with_byte 10 (first ∷ texts)) (10 ∷ []) text
    ∙ joined_push first texts text

line_some : (path list : List ℕ) → HasFirst (path ++ codes ":" ++ list)
line_some [] list = (58, list, refl)
line_some (b ∷ path) list = (b, path ++ codes ":" ++ list, refl)

-- the texts of the new lines that have numbers

abbrev new_texts : Settings → KeptRevisions → List MergeLine → List (List ℕ)
new_texts settings kept lines = map merge_line_text
    (nonempty_lines (map (new_line settings kept) (staying_lines settings lines)))

-- what a line adds

abbrev line_added : Settings → KeptRevisions → List ℕ → MergeLine → List ℕ
line_added settings kept out line = if keeps_path settings line.path then with_runs out line.path
    (new_line settings kept line).ranges else out

added_is : (settings : Settings) (kept : KeptRevisions) (out text : List ℕ) (line : MergeLine) → IsMergeLine text line
    → with_new_line settings kept out text ≡ line_added settings kept out line
added_is settings kept out text line is =
    let parts = line_parts text line is in
    ap (λ (p : List ℕ). if keeps_path settings p then with_runs out p
    (runs_of (list_new settings.renumber kept (line_list text))) else out) parts.path
    ∙ ap (λ (l : List Range). if keeps_path settings line.path then with_runs out line.path (runs_of l) else out)
    (list_new_is settings.renumber kept (line_list text) ∙ ap (new_ranges settings.renumber kept) parts.ranges)

-- the lines after those that are already written
written : (settings : Settings) (kept : KeptRevisions) (texts : List (List ℕ)) (lines : List MergeLine)
    → AllZip IsMergeLine texts lines → (done : List (List ℕ)) → AllSome done
    → with_new_lines settings kept (join_with_byte 10 done) texts ≡ join_with_byte 10
    (done ++ new_texts settings kept lines)
written settings kept [] [] all done some = sym (ap (join_with_byte 10) (append-nil done))
written settings kept (text ∷ texts) (line ∷ lines) all done some =
    ap (λ (out : List ℕ). with_new_lines settings kept out texts)
    (added_is settings kept (join_with_byte 10 done) text line all.0)
    ∙ go (keeps_path settings line.path) refl (new_line settings kept line).ranges refl
    (λ more so. written settings kept texts lines all.1 more so)
  where
    go : (t : Bool) → keeps_path settings line.path ≡ t → (runs : List Range)
        → (new_line settings kept line).ranges ≡ runs
        → ((more : List (List ℕ)) → AllSome more → with_new_lines settings kept
        (join_with_byte 10 more) texts ≡ join_with_byte 10 (more ++ new_texts settings kept lines))
        → with_new_lines settings kept (line_added settings kept
        (join_with_byte 10 done) line) texts ≡ join_with_byte 10 (done ++ new_texts settings kept (line ∷ lines))
    go false e runs is later = rw e (later done some)
    go true e [] is later = rw (e, is) (later done some)
    go true e (r ∷ runs) is later =
        let text : List ℕ = line.path ++ codes ":" ++ runs_text (r ∷ runs) in
        let front = with_break (join_with_byte 10 done) in
        let numbered : nat_lt 0 (length (r ∷ runs)) ≡ true = grind (arith, nat_tests) in
        let put : with_runs (join_with_byte 10 done) line.path (r ∷ runs) ≡ join_with_byte 10 (done ++ text ∷ []) =
        ap (λ (t : List ℕ). t ++ runs_text (r ∷ runs)) (append_assoc front line.path (codes ":"))
        ∙ append_assoc front (line.path ++ codes ":") (runs_text (r ∷ runs)) ∙ with_line done text some in
        rw (e, is, numbered) (ap (λ (out : List ℕ). with_new_lines settings kept out texts) put
        ∙ later (done ++ text ∷ []) (all_some_push done text some (line_some line.path (runs_text (r ∷ runs))))
        ∙ ap (join_with_byte 10) (append_assoc done (text ∷ []) (new_texts settings kept lines)))
written settings kept texts lines all done some = absurd all

-- values

-- the lines of a value are those that it is cut into
pub texts_are : (texts : List (List ℕ)) (lines : List MergeLine) → AllZip IsMergeLine texts lines → (value : List ℕ)
    → (value ≡ join_with_byte 10 texts) ⊎ (value ≡ join_with_byte 10 texts ++ 10 ∷ [])
    → text_lines (without_lf value) ≡ texts
texts_are texts lines all value is = ap text_lines (bare texts lines all value is) ∙ cut texts lines all
  where
    cut_some : (text : List ℕ) (parts : List (List ℕ)) → HasFirst text → slice_split (λ c. c == 10) text ≡ parts
        → text_lines text ≡ parts
    cut_some [] parts some e = let bad : [] ≡ some.0 ∷ some.1 = some.2 in cc
    cut_some (b ∷ text) parts some e = e

    text_some : (text : List ℕ) (line : MergeLine) → IsMergeLine text line → HasFirst text
    text_some text line is =
        let some = line_some line.path is.spelled.0 in
        (some.0, some.1, is.spelled.2 ∙ some.2)

    cut : (texts : List (List ℕ)) (lines : List MergeLine) → AllZip IsMergeLine texts lines
        → text_lines (join_with_byte 10 texts) ≡ texts
    cut [] lines all = refl
    cut (text ∷ texts) [] all = absurd all
    cut (text ∷ texts) (line ∷ lines) all =
        cut_some (join_with_byte 10 (text ∷ texts)) (text ∷ texts)
        (joined_some 10 text texts (text_some text line all.0))
        (split_joined 10 text texts (all_read (text ∷ texts) (line ∷ lines) all).1)

-- the lines of mergeinfo, rewritten one by one, are its new value
pub new_value : (settings : Settings) (kept : KeptRevisions) → RiseFrom kept.first kept.numbers
    → (value : List ℕ) (lines : List MergeLine) → IsMergeinfo value lines
    → IsNewMergeinfo settings kept value (with_new_lines settings kept [] (text_lines (without_lf value)))
new_value settings kept up value lines is = (
  lines,
  map (new_line settings kept) (staying_lines settings lines),
  is,
  all_new settings kept up is.0 lines is.1,
  ap (with_new_lines settings kept []) (texts_are is.0 lines is.1 value is.2)
      ∙ written settings kept is.0 lines is.1 [] tt,
)
