-- Examples of mergeinfo after other revisions: what is raised, and what isn't.
use Rattle.dump_history.proofs.Prelude.{◌≡◌, ◌<◌, ◌≤◌, true, Bool, ◌++◌, length, None, unwrap_or, bytes_eq, refl, sym, ap, subst, ◌∙◌, inl, inr, arith, lit<, lit≤, both_ways, Contains-push, Contains-push_cases, has_byte, number_of, Property, bare_path, HasNumber, star, MergeLine, IsMergeinfo, one_reading, HasMergedNumber, AreRaisedLines, IsRaised}
use Rattle.std.proofs.Common.{ℕ, false, List, [], ◌∷◌, Some, codes}

-- properties that aren't mergeinfo stay

-- a date
abbrev date : List ℕ → Property
date value = record { name = codes "svn:date"; value = Some value }

date_stays : IsRaised 1 (date (codes "1")) (date (codes "1"))
date_stays = record { name = refl; value = refl }

date_changes : ¬ IsRaised 1 (date (codes "1")) (date (codes "2"))
date_changes r = let bad : true ≡ false = ap (λ o. bytes_eq (unwrap_or o []) (codes "2")) r.value in cc

-- so does mergeinfo that is taken away

abbrev taken : Property
taken = record { name = codes "svn:mergeinfo"; value = None }

taken_stays : IsRaised 1 taken taken
taken_stays = record { name = refl; value = refl }

-- mergeinfo of this value
abbrev pub merge : List ℕ → Property
merge value = record { name = codes "svn:mergeinfo"; value = Some value }

other_name : ¬ IsRaised 1 (merge (codes "t:1")) (record { name = codes "mergeinfo"; value = Some (codes "/t:2") })
other_name r = let bad : true ≡ false = ap (bytes_eq (codes "mergeinfo")) r.name in cc

-- values of one line with one number

-- the line
abbrev pub line : List ℕ → ℕ → Bool → MergeLine
line path number kind =
    record { path = path; ranges = record { from = number; to = number; inheritable = kind } ∷ [] }

pub reads : (path digits : List ℕ) (number : ℕ) (kind : Bool) → 0 < length path → has_byte 10 path ≡ false → 1 ≤ number
    → number_of digits ≡ Some number
    → IsMergeinfo (path ++ codes ":" ++ (digits ++ star kind)) (line path number kind ∷ [])
reads path digits number kind some one_line low is = (
  (path ++ codes ":" ++ (digits ++ star kind)) ∷ [],
  (
    record {
      path = some;
      one_line = one_line;
      consistent = λ n t f. elim t [
        | inl for_all ↦ elim f [ inl for_one ↦ both_ways kind for_one.0 for_all.0 | inr none ↦ none ]
        | inr none ↦ none
      ];
      spelled = (
        digits ++ star kind,
        (
          (digits ++ star kind) ∷ [],
          (
            record {
              low = low;
              order = omega arith;
              spelled = inl (digits, is, refl, refl);
            },
            tt,
          ),
          refl,
        ),
        refl,
      );
    },
    tt,
  ),
  inl refl,
)

-- what its one line has
in_line : (one : List ℕ) (number : ℕ) (kind : Bool) (path : List ℕ) (other_kind : Bool) (n : ℕ)
    → HasMergedNumber (line one number kind ∷ []) path other_kind n
    → (bare_path one ≡ bare_path path) × (kind ≡ other_kind) × (n ≡ number)
in_line one number kind path other_kind n (found, within, same, has) =
    elim (Contains-push_cases [] (line one number kind) found within) [
      | inl (place, low, none) ↦ absurd (omega (arith, low))
      | inr is ↦ elim (subst (λ (l : MergeLine). HasNumber l.ranges other_kind n) (sym is) has) [
        | inl (same_kind, low, high) ↦
            (ap (λ (l : MergeLine). bare_path l.path) is ∙ same, same_kind, omega (arith, low, high))
        | inr none ↦ absurd none
      ]
    ]

of_line : (one : List ℕ) (number : ℕ) (kind : Bool) (path : List ℕ) → bare_path one ≡ bare_path path
    → HasMergedNumber (line one number kind ∷ []) path kind number
of_line one number kind path same =
    (line one number kind, Contains-push [] (line one number kind), same, inl (refl, omega arith, omega arith))

-- the number is raised by one, and the load spells a leading slash

raised_line : AreRaisedLines 1 (line (codes "t") 1 true ∷ []) (line (codes "/t") 2 true ∷ [])
raised_line path kind number = (
  λ has. let (same, same_kind, is) = in_line (codes "/t") 2 true path kind number has in (
    1,
    is,
    subst (λ k. HasMergedNumber (line (codes "t") 1 true ∷ []) path k 1) same_kind
        (of_line (codes "t") 1 true path same),
  ),
  λ has. let (before, higher, old) = has in
      let (same, same_kind, is) = in_line (codes "t") 1 true path kind before old in
      let two : 2 ≡ number = omega (arith, higher, is) in
      subst (λ n. HasMergedNumber (line (codes "/t") 2 true ∷ []) path kind n) two
      (subst (λ k. HasMergedNumber (line (codes "/t") 2 true ∷ []) path k 2) same_kind
      (of_line (codes "/t") 2 true path same)),
)

reads_first : IsMergeinfo (codes "t:1") (line (codes "t") 1 true ∷ [])
reads_first = reads (codes "t") (codes "1") 1 true (lit< tt) refl (lit≤ tt) refl

reads_second : IsMergeinfo (codes "/t:2") (line (codes "/t") 2 true ∷ [])
reads_second = reads (codes "/t") (codes "2") 2 true (lit< tt) refl (lit≤ tt) refl

raised : IsRaised 1 (merge (codes "t:1")) (merge (codes "/t:2"))
raised = record {
  name = refl;
  value = (codes "t:1", codes "/t:2", refl, refl, (_, _, reads_first, reads_second, raised_line));
}

-- a value has one list of lines, so raised values have raised lines
raised_lines : (old new : List ℕ) (a b : MergeLine) → IsMergeinfo old (a ∷ []) → IsMergeinfo new (b ∷ [])
    → IsRaised 1 (merge old) (merge new) → AreRaisedLines 1 (a ∷ []) (b ∷ [])
raised_lines old new a b reads_old reads_new r =
    let (value, found, is, new_is, (lines, others, reads_value, reads_found, are)) = r.value in
    let same : old ≡ value = (let both : Some old ≡ Some value = is in cc) in
    let new_same : new ≡ found = (let both : Some new ≡ Some found = new_is in cc) in
    subst (λ ls. AreRaisedLines 1 ls (b ∷ []))
    (one_reading value lines (a ∷ []) reads_value (subst (λ v. IsMergeinfo v (a ∷ [])) same reads_old))
    (subst (λ ls. AreRaisedLines 1 lines ls)
    (one_reading found others (b ∷ []) reads_found (subst (λ v. IsMergeinfo v (b ∷ [])) new_same reads_new)) are)

-- what isn't raised by one: a number that stays, one that is higher by two, another kind, another path

stays : ¬ IsRaised 1 (merge (codes "/t:2")) (merge (codes "/t:2"))
stays r =
    let are = raised_lines (codes "/t:2") (codes "/t:2") _ _ reads_second reads_second r in
    let (before, higher, old) = (are (codes "t") true 2).0 (of_line (codes "/t") 2 true (codes "t") refl) in
    let (same, kind, is) = in_line (codes "/t") 2 true (codes "t") true before old in
    omega (arith, higher, is)

by_two : ¬ IsRaised 1 (merge (codes "t:1")) (merge (codes "/t:3"))
by_two r =
    let are = raised_lines (codes "t:1") (codes "/t:3") _ _ reads_first
    (reads (codes "/t") (codes "3") 3 true (lit< tt) refl (lit≤ tt) refl) r in
    let (before, higher, old) = (are (codes "t") true 3).0 (of_line (codes "/t") 3 true (codes "t") refl) in
    let (same, kind, is) = in_line (codes "t") 1 true (codes "t") true before old in
    omega (arith, higher, is)

other_kind : ¬ IsRaised 1 (merge (codes "t:1")) (merge (codes "/t:2*"))
other_kind r =
    let are = raised_lines (codes "t:1") (codes "/t:2*") _ _ reads_first
    (reads (codes "/t") (codes "2") 2 false (lit< tt) refl (lit≤ tt) refl) r in
    let (before, higher, old) = (are (codes "t") false 2).0 (of_line (codes "/t") 2 false (codes "t") refl) in
    let (same, kind, is) = in_line (codes "t") 1 true (codes "t") false before old in
    absurd (let bad : true ≡ false = kind in cc)

other_path : ¬ IsRaised 1 (merge (codes "t:1")) (merge (codes "/s:2"))
other_path r =
    let are = raised_lines (codes "t:1") (codes "/s:2") _ _ reads_first
    (reads (codes "/s") (codes "2") 2 true (lit< tt) refl (lit≤ tt) refl) r in
    let (before, higher, old) = (are (codes "s") true 2).0 (of_line (codes "/s") 2 true (codes "s") refl) in
    let (same, kind, is) = in_line (codes "t") 1 true (codes "s") true before old in
    absurd (let bad : true ≡ false = ap (bytes_eq (codes "t")) same in cc)

-- a line that goes isn't raised: its number is missing
emptied : ¬ IsRaised 1 (merge (codes "t:1")) taken
emptied r = let (value, found, is, new_is, more) = r.value in let bad : None ≡ Some found = new_is in cc
