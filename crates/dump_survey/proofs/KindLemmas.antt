-- How often each kind is reported of nodes, node by node.
use Rattle.dump_survey.proofs.Prelude.{◌≡◌, ◌≤◌, ℕ, ◌+◌, ◌==◌, Bool, true, false, List, [], ◌∷◌, ◌++◌, length, get_or, map, flat_map, filter, cond, refl, sym, ap, ap₂, ◌∙◌, arith, list_any, eqb-true, or_parts, Finding, every_finding, Counts, Found, SurveyedNode, finding_place, times_reported, NodeReport, AreWithNode, count_in, has_found, listed, reported_of_node}
use Rattle.dump_history.specs.declared.findings.Finding.TheVariants as findings

-- the index of a finding determines it
at_place : (f : Finding) → get_or every_finding (finding_place f) findings.UnreadBlock ≡ f
at_place findings.UnreadBlock = refl
at_place f = refl

pub same_place : (f g : Finding) → (finding_place g == finding_place f) ≡ true → g ≡ f
same_place f g is = sym (at_place g)
    ∙ (ap (λ n. get_or every_finding n findings.UnreadBlock) (eqb-true (finding_place g) (finding_place f) is)
    ∙ at_place f)

-- each finding occurs once in the list of all findings
once : (f : Finding) → length (filter (λ g. finding_place g == finding_place f) every_finding) ≡ 1
once findings.UnreadBlock = refl
once f = refl

-- an element that is put in front if a test passes adds one to the length if it does
counted : {X : Type 0} (b : Bool) (x : X) (xs : List X) → length (cond b (x ∷ xs) xs) ≡ cond b (length xs + 1) (length xs)
counted true x xs = omega arith
counted false x xs = refl

module _ (f : Finding) where
  abbrev is_it : Finding → Bool
  is_it g = finding_place g == finding_place f

  -- among the findings that pass a test, a finding occurs as often as before, or not at all
  among_those : (test : Finding → Bool) (gs : List Finding)
      → length (filter is_it (filter test gs)) ≡ cond (test f) (length (filter is_it gs)) 0
  among_those test [] = none (test f) 0
    where
      none : (b : Bool) (n : ℕ) → n ≡ cond b n n
      none true n = refl
      none false n = refl
  among_those test (g ∷ gs) = by (is_it g) refl (test g) refl (among_those test gs)
    where
      by : (same : Bool) → is_it g ≡ same → (passes : Bool) → test g ≡ passes
          → length (filter is_it (filter test gs)) ≡ cond (test f) (length (filter is_it gs)) 0
          → length (filter is_it (cond passes (g ∷ filter test gs) (filter test gs)))
          ≡ cond (test f) (length (cond same (g ∷ filter is_it gs) (filter is_it gs))) 0
      by true is true passes more =
          let here : test f ≡ true = ap test (sym (same_place f g is)) ∙ passes in
          let same = more ∙ ap (λ b. cond b (length (filter is_it gs)) 0) here in
          let size : length (g ∷ filter is_it (filter test gs)) ≡ length (g ∷ filter is_it gs) = omega (arith, same) in
          ap (λ b. length (cond b (g ∷ filter is_it (filter test gs)) (filter is_it (filter test gs)))) is
          ∙ (size ∙ sym (ap (λ b. cond b (length (g ∷ filter is_it gs)) 0) here))
      by true is false passes more =
          let here : test f ≡ false = ap test (sym (same_place f g is)) ∙ passes in
          more ∙ (ap (λ b. cond b (length (filter is_it gs)) 0) here
          ∙ sym (ap (λ b. cond b (length (g ∷ filter is_it gs)) 0) here))
      by false is true passes more =
          ap (λ b. length (cond b (g ∷ filter is_it (filter test gs)) (filter is_it (filter test gs)))) is ∙ more
      by false is false passes more = more

  -- for the reports of a node this is the same
  reported_each : (report : Finding → NodeReport) → ((g : Finding) → (report g).finding ≡ g) → (gs : List Finding)
      → times_reported (map report gs) f ≡ length (filter is_it gs)
  reported_each report same [] = refl
  reported_each report same (g ∷ gs) =
      counted (is_it (report g).finding) (report g) (filter (λ (t : NodeReport). is_it t.finding) (map report gs))
      ∙ (ap₂ (λ (b : Bool) n. cond b (n + 1) n) (ap is_it (same g)) (reported_each report same gs)
      ∙ sym (counted (is_it g) g (filter is_it gs)))

  times_both : (xs ys : List NodeReport) → times_reported (xs ++ ys) f ≡ times_reported xs f + times_reported ys f
  times_both [] ys = omega arith
  times_both (x ∷ xs) ys = by (is_it x.finding) (times_both xs ys)
    where
      here : NodeReport → Bool
      here t = finding_place t.finding == finding_place f

      by : (b : Bool) → times_reported (xs ++ ys) f ≡ times_reported xs f + times_reported ys f
          → length (cond b (x ∷ filter here (xs ++ ys)) (filter here (xs ++ ys)))
          ≡ length (cond b (x ∷ filter here xs) (filter here xs)) + length (filter here ys)
      by true more = omega (arith, more)
      by false more = more

-- no count is above the number of records
pub low_with_node : (old new : Counts) (node : SurveyedNode) (count : ℕ) → ((f : Finding) → count_in old f ≤ count)
    → AreWithNode old node.found new → (f : Finding) → count_in new f ≤ count + 1
low_with_node old new node count low more f = by (has_found node.found f) (more f)
  where
    by : (b : Bool) → count_in new f ≡ cond b (count_in old f + 1) (count_in old f) → count_in new f ≤ count + 1
    by true is = let below = low f in omega (arith, is, below)
    by false is = let below = low f in omega (arith, is, below)

-- the counts after one more node
pub counts_with_node : (old new : Counts) (reported : List NodeReport) (node : SurveyedNode)
    → ((f : Finding) → count_in old f ≡ times_reported reported f) → AreWithNode old node.found new
    → (f : Finding) → count_in new f ≡ times_reported (reported ++ reported_of_node node) f
counts_with_node old new reported node so_far more f =
    more f ∙ (by (has_found node.found f) ∙ sym (times_both f reported (reported_of_node node)
    ∙ ap (λ n. times_reported reported f + n) (reported_each f _ (λ g. refl) (filter (λ g. has_found node.found g) every_finding)
    ∙ (among_those f (λ g. has_found node.found g) every_finding
    ∙ ap (λ n. cond (has_found node.found f) n 0) (once f)))))
  where
    by : (b : Bool) → cond b (count_in old f + 1) (count_in old f) ≡ times_reported reported f + cond b 1 0
    by true = ap (λ n. n + 1) (so_far f)
    by false = let here = so_far f in omega (arith, here)

-- if no element passes a test, the filtered list is empty
none_passes : (test : Finding → Bool) (fs : List Finding) → list_any test fs ≡ false → filter test fs ≡ []
none_passes test [] none = refl
none_passes test (f ∷ fs) none =
    let parts = or_parts (test f) (list_any test fs) none in
    ap (λ b. cond b (f ∷ filter test fs) (filter test fs)) parts.0 ∙ none_passes test fs parts.1

module _ (found : Found) (none : list_any (has_found found) every_finding ≡ false) where
  -- if nothing is found in a node, nothing is reported of it
  pub nothing_listed : listed found ≡ []
  nothing_listed = none_passes (has_found found) every_finding none

  -- and the counts don't change
  pub same_counts : (counts : Counts) → AreWithNode counts found counts
  same_counts counts f = by (has_found found f)
      (ap (λ (fs : List Finding). length (filter (is_it f) fs)) (sym nothing_listed)
      ∙ (among_those f (has_found found) every_finding ∙ ap (λ n. cond (has_found found f) n 0) (once f)))
    where
      by : (b : Bool) → ◌≡◌ {A = ℕ} 0 (cond b 1 0) → count_in counts f ≡ cond b (count_in counts f + 1) (count_in counts f)
      by true is = absurd (omega (arith, is))
      by false is = refl

-- equal counts give equal lines
pub same_lines : (line : ℕ → Finding → List ℕ) (first second : Finding → ℕ) → ((f : Finding) → first f ≡ second f)
    → (fs : List Finding) → flat_map (λ f. line (first f) f) fs ≡ flat_map (λ f. line (second f) f) fs
same_lines line first second same [] = refl
same_lines line first second same (f ∷ fs) =
    ap₂ (λ xs ys. xs ++ ys) (ap (λ n. line n f) (same f)) (same_lines line first second same fs)
