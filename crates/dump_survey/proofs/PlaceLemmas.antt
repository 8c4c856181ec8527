-- The records that cause the findings in a dump as a whole.
use Rattle.dump_survey.proofs.Prelude.{◌≡◌, ◌⊎◌, ℕ, ◌<◌, ◌==◌, Bool, true, false, not, ◌&&◌, ◌||◌, List, [], ◌∷◌, ◌++◌, length, get_or, map, filter, cond, Contains, Option, Some, None, MatchBool, refl, sym, ap, ap₂, ◌∙◌, subst, inl, inr, append-nil, append_assoc, arith, AllZip, list_any, both_ways, eqb-true, false_from_ne_true, list_any_at, DumpRecord, Settings, found, finds, DumpFinding, every_dump_finding, HasUnreadRevision, AreDumpFindingsOf, dump_findings_once, DumpPlaces, Place, SurveyEnd, DumpFindings, has_dump_finding, listed_findings, DumpReport, place_in, reported_at_end, IsDumpFinding, comes_up, IsNeverFound, ComesUpAt, CameUp, ArePlaces, IsDumpReport, AreDumpReports, no_places, first_place, AreNextPlaces}
use Rattle.dump_history.specs.declared.findings.DumpFinding.TheVariants as dump_wide

-- the index of a finding in the list of all findings
abbrev place_among : DumpFinding → ℕ
place_among dump_wide.NoRevision = 0
place_among dump_wide.OtherNumbers = 1
place_among dump_wide.NumberFalls = 2
place_among dump_wide.UnreadRevision = 3
place_among dump_wide.NodeInFirst = 4
place_among dump_wide.SourceBefore = 5
place_among dump_wide.NodeOutside = 6
place_among dump_wide.NumbersLeft = 7

-- the finding with this index
abbrev at_place : ℕ → DumpFinding
at_place n = get_or every_dump_finding n dump_wide.NoRevision

back : (f : DumpFinding) → at_place (place_among f) ≡ f
back dump_wide.NoRevision = refl
back dump_wide.OtherNumbers = refl
back dump_wide.NumberFalls = refl
back dump_wide.UnreadRevision = refl
back dump_wide.NodeInFirst = refl
back dump_wide.SourceBefore = refl
back dump_wide.NodeOutside = refl
back dump_wide.NumbersLeft = refl

every_there : (f : DumpFinding) → list_any (λ g. place_among g == place_among f) every_dump_finding ≡ true
every_there dump_wide.NoRevision = refl
every_there dump_wide.OtherNumbers = refl
every_there dump_wide.NumberFalls = refl
every_there dump_wide.UnreadRevision = refl
every_there dump_wide.NodeInFirst = refl
every_there dump_wide.SourceBefore = refl
every_there dump_wide.NodeOutside = refl
every_there dump_wide.NumbersLeft = refl

same_place : (f g : DumpFinding) → (place_among g == place_among f) ≡ true → g ≡ f
same_place f g is = sym (back g) ∙ (ap at_place (eqb-true (place_among g) (place_among f) is) ∙ back f)

within : (f : DumpFinding) → place_among f < length every_dump_finding
within dump_wide.NoRevision = omega arith
within dump_wide.OtherNumbers = omega arith
within dump_wide.NumberFalls = omega arith
within dump_wide.UnreadRevision = omega arith
within dump_wide.NodeInFirst = omega arith
within dump_wide.SourceBefore = omega arith
within dump_wide.NodeOutside = omega arith
within dump_wide.NumbersLeft = omega arith

refl_place : (f : DumpFinding) → (place_among f == place_among f) ≡ true
refl_place dump_wide.NoRevision = refl
refl_place dump_wide.OtherNumbers = refl
refl_place dump_wide.NumberFalls = refl
refl_place dump_wide.UnreadRevision = refl
refl_place dump_wide.NodeInFirst = refl
refl_place dump_wide.SourceBefore = refl
refl_place dump_wide.NodeOutside = refl
refl_place dump_wide.NumbersLeft = refl

-- whether a finding is one of these
abbrev is_among : DumpFinding → List DumpFinding → Bool
is_among f fs = list_any (λ g. place_among g == place_among f) fs

among_there : (f : DumpFinding) (fs : List DumpFinding) → is_among f fs ≡ true → Contains fs f
among_there f fs some =
    let (g, there, same) = found (λ g. place_among g == place_among f) fs some in
    subst (Contains fs) (same_place f g same) there

among_back : (f : DumpFinding) (fs : List DumpFinding) → Contains fs f → is_among f fs ≡ true
among_back f fs there = finds (λ g. place_among g == place_among f) fs f there (refl_place f)

-- a dump has the finding or doesn't have it
has_or_not : (settings : Settings) (records : List DumpRecord) (f : DumpFinding)
    → IsDumpFinding settings records f ⊎ ¬ IsDumpFinding settings records f
has_or_not settings records f =
    let (fs, are, once) = dump_findings_once settings records in
    by fs are once (is_among f fs) refl
  where
    by : (fs : List DumpFinding) → AreDumpFindingsOf settings records fs
        → ((others : List DumpFinding) → AreDumpFindingsOf settings records others → others ≡ fs)
        → (b : Bool) → is_among f fs ≡ b → IsDumpFinding settings records f ⊎ ¬ IsDumpFinding settings records f
    by fs are once true some = inl (fs, are, among_there f fs some)
    by fs are once false none = inr (λ (others, are_too, there).
        let some = among_back f fs (subst (λ l. Contains l f) (once others are_too) there) in
        let bad : true ≡ false = sym some ∙ none in cc)

-- without records the only finding is that there is no revision
one_alone : (f : DumpFinding) → Contains (dump_wide.NoRevision ∷ []) f → comes_up f ≡ true → ⊥
one_alone f there up =
    let same = same_place f dump_wide.NoRevision (by (among_back f (dump_wide.NoRevision ∷ []) there)) in
    let bad : false ≡ true = ap comes_up same ∙ up in cc
  where
    by : (place_among dump_wide.NoRevision == place_among f || false) ≡ true
        → (place_among dump_wide.NoRevision == place_among f) ≡ true
    by some = sides (place_among dump_wide.NoRevision == place_among f) some
      where
        sides : (b : Bool) → (b || false) ≡ true → b ≡ true
        sides true is = refl
        sides false is = is

none_of_none : (settings : Settings) (f : DumpFinding) → comes_up f ≡ true → ¬ IsDumpFinding settings [] f
none_of_none settings f up (fs, (facts, are, same), there) =
    by facts.unread (λ some. none_there (are.unread.0 some)) facts.named (λ some. are.named.0 some) settings.renumber same
  where
    none_there : HasUnreadRevision [] → ⊥
    none_there (r, (i, within, is), unread) = absurd (omega (arith, within))

    -- the findings, except the one about unread revisions
    rest : Bool → Bool → List DumpFinding
    rest renumber b = cond (not renumber && b) (dump_wide.NumbersLeft ∷ []) []

    by : (u : Bool) → (u ≡ true → ⊥) → (b : Bool) → (b ≡ true → ⊥) → (renumber : Bool)
        → fs ≡ dump_wide.NoRevision ∷ cond u (dump_wide.UnreadRevision ∷ rest renumber b) (rest renumber b) → ⊥
    by true none b unnamed renumber is = none refl
    by false none true unnamed renumber is = unnamed refl
    by false none false unnamed true is = one_alone f (subst (λ l. Contains l f) is there) up
    by false none false unnamed false is = one_alone f (subst (λ l. Contains l f) is there) up

never_at_first : (settings : Settings) (f : DumpFinding) → comes_up f ≡ true → IsNeverFound settings [] f
never_at_first settings f up [] rest is = none_of_none settings f up
never_at_first settings f up (r ∷ front) rest is = absurd (let bad : [] ≡ r ∷ front ++ rest = is in cc)

-- a first part of some records and one more is a first part of these records, or has them all
splits : (rs : List DumpRecord) (r : DumpRecord) (front rest : List DumpRecord) → rs ++ r ∷ [] ≡ front ++ rest
    → ((more : List DumpRecord) × (rs ≡ front ++ more)) ⊎ (front ≡ rs ++ r ∷ [])
splits rs r [] rest is = inl (rs, refl)
splits [] r (x ∷ []) rest is = inr (let same : r ≡ x = cc in ap (λ y. y ∷ []) (sym same))
splits [] r (x ∷ y ∷ front) rest is = absurd (let bad : r ∷ [] ≡ x ∷ y ∷ front ++ rest = is in cc)
splits (z ∷ rs) r (x ∷ front) rest is =
    let first : z ≡ x = cc in
    let later : rs ++ r ∷ [] ≡ front ++ rest = cc in
    elim (splits rs r front rest later) [
      | inl some ↦ inl (some.0, ap₂ (λ a l. a ∷ l) first some.1)
      | inr all ↦ inr (ap₂ (λ a l. a ∷ l) (sym first) all)
    ]

module _ (settings : Settings) (f : DumpFinding) (before : List DumpRecord) where
  not_now : IsNeverFound settings before f → ¬ IsDumpFinding settings before f
  not_now never = never before [] (sym (append-nil before))

  never_more : (r : DumpRecord) → IsNeverFound settings before f → ¬ IsDumpFinding settings (before ++ r ∷ []) f
      → IsNeverFound settings (before ++ r ∷ []) f
  never_more r never still front rest is = elim (splits before r front rest is) [
    | inl some ↦ never front some.0 some.1
    | inr all ↦ subst (λ rs. ¬ IsDumpFinding settings rs f) (sym all) still
  ]

-- so some record is the first that causes the finding
comes_up_in : (settings : Settings) (f : DumpFinding) (before rest : List DumpRecord)
    → IsNeverFound settings before f → IsDumpFinding settings (before ++ rest) f
    → (p : Place) × ComesUpAt settings (before ++ rest) f p
comes_up_in settings f before [] never some =
    absurd (not_now settings f before never (subst (λ rs. IsDumpFinding settings rs f) (append-nil before) some))
comes_up_in settings f before (r ∷ rest) never some =
    by (has_or_not settings (before ++ r ∷ []) f) (comes_up_in settings f (before ++ r ∷ []) rest)
  where
    More : Type 0
    More = IsNeverFound settings (before ++ r ∷ []) f
        → IsDumpFinding settings ((before ++ r ∷ []) ++ rest) f
        → (p : Place) × ComesUpAt settings ((before ++ r ∷ []) ++ rest) f p

    same : (before ++ r ∷ []) ++ rest ≡ before ++ r ∷ rest
    same = append_assoc before (r ∷ []) rest

    by : IsDumpFinding settings (before ++ r ∷ []) f ⊎ ¬ IsDumpFinding settings (before ++ r ∷ []) f → More
        → (p : Place) × ComesUpAt settings (before ++ r ∷ rest) f p
    by (inl here) more = (
      record { number = length before; place = r.place },
      record { before = before; r = r; after = rest; are = refl; none = never; found = here; is = refl },
    )
    by (inr still) more =
        let (p, at) = more (never_more settings f before r never still)
        (subst (λ rs. IsDumpFinding settings rs f) (sym same) some) in
        (p, subst (λ rs. ComesUpAt settings rs f p) same at)

-- so there are reports for each dump, possibly none
reported_of_each : (settings : Settings) (records : List DumpRecord) (fs : List DumpFinding)
    → ((f : DumpFinding) → Contains fs f → IsDumpFinding settings records f)
    → (reported : List DumpReport) × AllZip (IsDumpReport settings records) fs reported
reported_of_each settings records [] all = ([], tt)
reported_of_each settings records (f ∷ fs) all =
    let (others, more) = reported_of_each settings records fs (λ g there. all g (later g there)) in
    let (t, is) = one (comes_up f) refl in
    (t ∷ others, (is, more))
  where
    later : (g : DumpFinding) → Contains fs g → Contains (f ∷ fs) g
    later g there = among_there g (f ∷ fs) (behind (place_among f == place_among g) (among_back g fs there))
      where
        behind : (b : Bool) → is_among g fs ≡ true → (b || is_among g fs) ≡ true
        behind true some = refl
        behind false some = some

    first : Contains (f ∷ fs) f
    first = among_there f (f ∷ fs) (ap (λ b. b || is_among f fs) (refl_place f))

    -- this place is reported, or no place
    At : Option Place → Bool → Type 0
    At at b = MatchBool b ((q : Place) × (at ≡ Some q) × ComesUpAt settings records f q) (at ≡ None)

    one : (b : Bool) → comes_up f ≡ b → (t : DumpReport) × IsDumpReport settings records f t
    one true up =
        let (p, at) = comes_up_in settings f [] records (never_at_first settings f up) (all f first) in (
          record { finding = f; at = Some p },
          record { finding = refl; at = subst (At (Some p)) (sym up) (p, refl, at) },
        )
    one false up = (
      record { finding = f; at = None },
      record { finding = refl; at = subst (At None) (sym up) refl },
    )

pub each_dump_reported : (settings : Settings) (records : List DumpRecord)
    → (reported : List DumpReport) × AreDumpReports settings records reported
each_dump_reported settings records =
    let (fs, are, once) = dump_findings_once settings records in
    let (reported, all) = reported_of_each settings records fs (λ f there. (fs, are, there)) in
    (reported, (fs, are, all))

-- if nothing is reported, nothing is found
pub nothing_found : (settings : Settings) (records : List DumpRecord) → AreDumpReports settings records []
    → AreDumpFindingsOf settings records []
nothing_found settings records ([], are, all) = are
nothing_found settings records (f ∷ fs, are, all) = absurd all

-- the values of the program

-- the findings of the reports at the end
pub findings_at_end : (end : SurveyEnd) → map (λ (t : DumpReport). t.finding) (reported_at_end end) ≡ listed_findings end.dump
findings_at_end end = those (listed_findings end.dump)
  where
    those : (fs : List DumpFinding)
        → map (λ (t : DumpReport). t.finding) (map (λ f. record { finding = f; at = place_in end.places f }) fs) ≡ fs
    those [] = refl
    those (f ∷ fs) = ap (λ l. f ∷ l) (those fs)

-- a finding that the program has is found
module _ (settings : Settings) (records : List DumpRecord) (flags : DumpFindings)
    (are : AreDumpFindingsOf settings records (listed_findings flags)) where
  listed_there : (f : DumpFinding) (fs : List DumpFinding) → is_among f fs ≡ true → has_dump_finding flags f ≡ true
      → is_among f (filter (λ g. has_dump_finding flags g) fs) ≡ true
  listed_there f [] some has = some
  listed_there f (g ∷ fs) some has =
      by (has_dump_finding flags g) refl (place_among g == place_among f) refl some (λ more. listed_there f fs more has)
    where
      those : List DumpFinding
      those = filter (λ h. has_dump_finding flags h) fs

      by : (h : Bool) → has_dump_finding flags g ≡ h → (s : Bool) → (place_among g == place_among f) ≡ s
          → (s || is_among f fs) ≡ true → (is_among f fs ≡ true → is_among f those ≡ true)
          → is_among f (cond h (g ∷ those) those) ≡ true
      by true has_it true same any more = ap (λ b. b || is_among f those) same
      by true has_it false other any more = ap (λ b. b || is_among f those) other ∙ more any
      by false absent true same any more =
          let bad : true ≡ false = sym (ap (has_dump_finding flags) (same_place f g same) ∙ has) ∙ absent in cc
      by false absent false other any more = more any

  pub flag_holds : (f : DumpFinding) → has_dump_finding flags f ≡ true → IsDumpFinding settings records f
  flag_holds f has = (
    listed_findings flags,
    are,
    among_there f (listed_findings flags) (listed_there f every_dump_finding (every_there f) has),
  )

  listed_has : (f : DumpFinding) (fs : List DumpFinding)
      → is_among f (filter (λ g. has_dump_finding flags g) fs) ≡ true → has_dump_finding flags f ≡ true
  listed_has f [] bad = let worse : false ≡ true = bad in cc
  listed_has f (g ∷ fs) some = by (has_dump_finding flags g) refl some (listed_has f fs)
    where
      those : List DumpFinding
      those = filter (λ h. has_dump_finding flags h) fs

      first : (s : Bool) → (place_among g == place_among f) ≡ s → has_dump_finding flags g ≡ true
          → (s || is_among f those) ≡ true → (is_among f those ≡ true → has_dump_finding flags f ≡ true)
          → has_dump_finding flags f ≡ true
      first true same has_it any more = ap (has_dump_finding flags) (sym (same_place f g same)) ∙ has_it
      first false other has_it any more = more any

      by : (h : Bool) → has_dump_finding flags g ≡ h → is_among f (cond h (g ∷ those) those) ≡ true
          → (is_among f those ≡ true → has_dump_finding flags f ≡ true) → has_dump_finding flags f ≡ true
      by true has_it any more = first (place_among g == place_among f) refl has_it any more
      by false absent any more = more any

  flag_back : (f : DumpFinding) → IsDumpFinding settings records f → has_dump_finding flags f ≡ true
  flag_back f (fs, are_too, there) =
      let (all, all_are, once) = dump_findings_once settings records in
      listed_has f every_dump_finding (among_back f (listed_findings flags)
      (subst (λ l. Contains l f) (once fs are_too ∙ sym (once (listed_findings flags) are)) there))

  pub flag_denies : (f : DumpFinding) → has_dump_finding flags f ≡ false → ¬ IsDumpFinding settings records f
  flag_denies f absent some = let bad : true ≡ false = sym (flag_back f some) ∙ absent in cc

-- before the first record no record has caused a finding
pub no_places_yet : (settings : Settings) → ArePlaces settings [] no_places
no_places_yet settings dump_wide.NoRevision up = cc
no_places_yet settings dump_wide.OtherNumbers up = never_at_first settings dump_wide.OtherNumbers refl
no_places_yet settings dump_wide.NumberFalls up = never_at_first settings dump_wide.NumberFalls refl
no_places_yet settings dump_wide.UnreadRevision up = never_at_first settings dump_wide.UnreadRevision refl
no_places_yet settings dump_wide.NodeInFirst up = never_at_first settings dump_wide.NodeInFirst refl
no_places_yet settings dump_wide.SourceBefore up = never_at_first settings dump_wide.SourceBefore refl
no_places_yet settings dump_wide.NodeOutside up = never_at_first settings dump_wide.NodeOutside refl
no_places_yet settings dump_wide.NumbersLeft up = never_at_first settings dump_wide.NumbersLeft refl

-- the places after one more record
pub places_next : (settings : Settings) (before : List DumpRecord) (r : DumpRecord) (old new : DumpPlaces)
    (flags : DumpFindings) (here : Place) → ArePlaces settings before old
    → AreDumpFindingsOf settings (before ++ r ∷ []) (listed_findings flags)
    → here ≡ record { number = length before; place = r.place } → AreNextPlaces old flags here new
    → ArePlaces settings (before ++ r ∷ []) new
places_next settings before r old new flags here are found_are here_is next f up =
    subst (CameUp settings (before ++ r ∷ []) f) (sym (next f up))
    (by (place_in old f) (are f up) (has_dump_finding flags f) refl)
  where
    by : (o : Option Place) → CameUp settings before f o → (b : Bool) → has_dump_finding flags f ≡ b
        → CameUp settings (before ++ r ∷ []) f (first_place o b here)
    by (Some p) at b is = record {
      before = at.before;
      r = at.r;
      after = at.after ++ r ∷ [];
      are = ap (λ rs. rs ++ r ∷ []) at.are ∙ append_assoc at.before (at.r ∷ at.after) (r ∷ []);
      none = at.none;
      found = at.found;
      is = at.is;
    }
    by None none true is = record {
      before = before;
      r = r;
      after = [];
      are = refl;
      none = none;
      found = flag_holds settings (before ++ r ∷ []) flags found_are f is;
      is = here_is;
    }
    by None none false is = never_more settings f before r none
        (flag_denies settings (before ++ r ∷ []) flags found_are f is)

-- so what the program has is what is reported at the end
pub reported_where_ended : (settings : Settings) (records : List DumpRecord) (end : SurveyEnd)
    → AreDumpFindingsOf settings records (listed_findings end.dump) → ArePlaces settings records end.places
    → AreDumpReports settings records (reported_at_end end)
reported_where_ended settings records end are places = (
  listed_findings end.dump,
  are,
  those (listed_findings end.dump)
      (λ f there. (listed_findings end.dump, are, there)),
)
  where
    one : (f : DumpFinding) → IsDumpFinding settings records f → (b : Bool) → comes_up f ≡ b
        → MatchBool b ((p : Place) × (place_in end.places f ≡ Some p) × ComesUpAt settings records f p)
        (place_in end.places f ≡ None)
    one f some true up = came (place_in end.places f) (places f up)
      where
        came : (o : Option Place) → CameUp settings records f o
            → (p : Place) × (o ≡ Some p) × ComesUpAt settings records f p
        came None none = absurd (not_now settings f records none some)
        came (Some p) at = (p, refl, at)
    one dump_wide.NoRevision some false up = refl
    one dump_wide.OtherNumbers some false up = cc
    one dump_wide.NumberFalls some false up = cc
    one dump_wide.UnreadRevision some false up = cc
    one dump_wide.NodeInFirst some false up = cc
    one dump_wide.SourceBefore some false up = cc
    one dump_wide.NodeOutside some false up = cc
    one dump_wide.NumbersLeft some false up = cc

    those : (fs : List DumpFinding) → ((f : DumpFinding) → Contains fs f → IsDumpFinding settings records f)
        → AllZip (IsDumpReport settings records) fs (map (λ f. record { finding = f; at = place_in end.places f }) fs)
    those [] all = tt
    those (f ∷ fs) all = (
      record { finding = refl; at = one f (all f (first f fs)) (comes_up f) refl },
      those fs (λ g there. all g (later f fs g there)),
    )
      where
        first : (f : DumpFinding) (fs : List DumpFinding) → Contains (f ∷ fs) f
        first f fs = among_there f (f ∷ fs) (ap (λ b. b || is_among f fs) (refl_place f))

        later : (f : DumpFinding) (fs : List DumpFinding) (g : DumpFinding) → Contains fs g → Contains (f ∷ fs) g
        later f fs g there = among_there g (f ∷ fs) (behind (place_among f == place_among g) (among_back g fs there))
          where
            behind : (b : Bool) → is_among g fs ≡ true → (b || is_among g fs) ≡ true
            behind true some = refl
            behind false some = some

-- if nothing is found, no place is added
pub none_comes_up : (old : DumpPlaces) (flags : DumpFindings) (here : Place)
    → list_any (has_dump_finding flags) every_dump_finding ≡ false → AreNextPlaces old flags here old
none_comes_up old flags here none f up =
    stays (place_in old f) ∙ ap (λ b. first_place (place_in old f) b here) (sym not_found)
  where
    stays : (p : Option Place) → p ≡ first_place p false here
    stays None = refl
    stays (Some p) = refl

    not_found : has_dump_finding flags f ≡ false
    not_found = false_from_ne_true _ (λ is. both_ways _ none
        (list_any_at (has_dump_finding flags) every_dump_finding (place_among f) dump_wide.NoRevision (within f)
        (ap (has_dump_finding flags) (back f) ∙ is)))
