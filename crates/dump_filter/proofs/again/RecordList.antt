-- What is written for a list of records, when it is read again.
use Rattle.dump_filter.proofs.Prelude.{◌≡◌, ℕ, ◌+◌, ◌<◌, ◌==◌, Bool, true, false, ◌||◌, MatchBool, List, [], ◌∷◌, ◌++◌, length, refl, sym, ap, ◌∙◌, subst, arith, append_assoc, or_right, version_name, has_header, line_feeds, IsCutInto, HaveVersions, DumpRecord, record_text, is_lawful, version_from, kind_of, RecordKind, keeps, Settings, keeps_path, KeptRevisions, is_revision_record, is_node, keep_all, Group, group_of, group_number, has_kept_node, keeps_group, IsOutput, is_written, AreOutputs, absurd_bool, and_from, false_from_ne_true}
use Rattle.dump_records.specs.declared.kind.RecordKind.TheVariants as kinds
use Rattle.dump_filter.proofs.groups.KindLemmas.{IsOfKind, of_kind}
use Rattle.dump_filter.proofs.knowing.Answered.{AllLawful}
use Rattle.dump_filter.proofs.again.ReadAgain.{StandsAgain, IsFirstAgain, AreReadAgain, AtEach}

-- about each record

at_each_behind : (P : List DumpRecord → DumpRecord → List DumpRecord → Type 0) (done rest : List DumpRecord)
    → ((before after : List DumpRecord) (r : DumpRecord) → done ++ rest ≡ before ++ r ∷ after → P before r after)
    → AtEach P done rest
at_each_behind P done [] holds = tt
at_each_behind P done (r ∷ rest) holds = (
  holds done rest r refl,
  at_each_behind P (done ++ r ∷ []) rest (λ before after x is. holds before after x
      (sym (append_assoc done (r ∷ []) rest) ∙ is)),
)

-- what holds of each record at its place holds of each in the list
pub at_each : (P : List DumpRecord → DumpRecord → List DumpRecord → Type 0) (records : List DumpRecord)
    → ((before after : List DumpRecord) (r : DumpRecord) → records ≡ before ++ r ∷ after → P before r after)
    → AtEach P [] records
at_each P records holds = at_each_behind P [] records holds

-- the first record of a dump

version_first : (r : DumpRecord) → is_lawful 0 r.headers ≡ true → has_header version_name r.headers ≡ true
version_first r lawful = cases (has_header version_name r.headers) refl
  where
    cases : (b : Bool) → has_header version_name r.headers ≡ b → b ≡ true
    cases true is = refl
    cases false is = absurd ((keeps 0 r.headers lawful).version (rw is refl))

-- a version record is written
version_written : (settings : Settings) (number : ℕ) (r : DumpRecord) (after : List DumpRecord)
    → is_lawful number r.headers ≡ true → has_header version_name r.headers ≡ true
    → is_written settings true r after ≡ true
version_written settings number r after lawful has =
    let kind : kind_of r.headers ≡ kinds.Version = rw has refl in
    let of = subst (λ (which : RecordKind). IsOfKind r which) kind (of_kind number r lawful) in
    let no_node : is_node r ≡ false = of.0 in
    let no_revision : is_revision_record r ≡ false = of.1 in
    rw (no_revision, no_node) refl

first_written : (settings : Settings) (r : DumpRecord) (after : List DumpRecord) → is_lawful 0 r.headers ≡ true
    → is_written settings true r after ≡ true
first_written settings r after lawful = version_written settings 0 r after lawful (version_first r lawful)

-- the versions in force

-- a record that isn't written leaves the version in force
dropped_version : (settings : Settings) (number before : ℕ) (r : DumpRecord) (after : List DumpRecord)
    → is_lawful number r.headers ≡ true → is_written settings true r after ≡ false
    → version_from before r.headers ≡ before
dropped_version settings number before r after lawful dropped =
    let written = version_written settings number r after lawful in
    let none : has_header version_name r.headers ≡ false =
    false_from_ne_true (has_header version_name r.headers)
    (λ has. absurd_bool (is_written settings true r after) (written has) dropped) in
    rw none refl

-- the versions in force are the same for the records that are read again
pub versions_again : (settings : Settings) (kept : KeptRevisions) (before : ℕ) (records : List DumpRecord)
    (text : List ℕ) (again : List DumpRecord) → AllLawful records → HaveVersions before records
    → AreReadAgain settings kept records text again → HaveVersions before again
versions_again settings kept before [] text again lawful have (none, no_more) =
    subst (HaveVersions before) (sym no_more) tt
versions_again settings kept before (r ∷ rest) text again lawful (version, have) (front, behind, is, this) =
    cases (is_written settings true r rest) refl this
    (λ more reads. versions_again settings kept r.version rest behind more lawful.1 have reads)
  where
    cases : (w : Bool) → is_written settings true r rest ≡ w
        → IsFirstAgain settings kept r rest front (AreReadAgain settings kept rest behind) again w
        → ((more : List DumpRecord) → AreReadAgain settings kept rest behind more → HaveVersions r.version more)
        → HaveVersions before again
    cases true written (s, more, same, read, reads) later =
        subst (HaveVersions before) (sym same) (
          read.version ∙ version ∙ sym (read.version_line before),
          subst (λ (v : ℕ). HaveVersions v more) (sym read.version) (later more reads),
        )
    cases false dropped (none, reads) later =
        let stays = version ∙ dropped_version settings lawful.0.0 before r rest lawful.0.1 dropped in
        subst (λ (v : ℕ). HaveVersions v again) stays (later again reads)

-- the records that are written, with the LFs between them

-- what is written for a record, if it is written, is a record again, wherever it is in the new dump
abbrev pub HasAgain : Settings → KeptRevisions → DumpRecord → List DumpRecord → Type 0
HasAgain settings kept r after = (front : List ℕ) → is_written settings true r after ≡ true
    → IsOutput settings kept r after front → StandsAgain settings kept r after front

module _ (settings : Settings) (kept : KeptRevisions) where
  -- the text, with LFs before it, is cut into what is written for the records
  abbrev IsAgain : ℕ → ℕ → ℕ → List DumpRecord → List ℕ → Type 0
  IsAgain number place pending records text =
      (again : List DumpRecord) × IsCutInto number place (line_feeds pending ++ text) again []
      × AreReadAgain settings kept records text again

  abbrev AreLater : ℕ → List DumpRecord → List ℕ → Type 0
  AreLater old rest behind = (number place pending : ℕ) → (number ≡ 0 → old ≡ 0)
      → IsAgain number place pending rest behind

  records_behind : (old old_place : ℕ) (dump : List ℕ) (before records : List DumpRecord)
      → IsCutInto old old_place dump records []
      → AtEach (λ done r after. HasAgain settings kept r after) before records → (text : List ℕ)
      → AreOutputs settings true kept records text
      → (number place pending : ℕ) → (number ≡ 0 → old ≡ 0) → IsAgain number place pending records text
  records_behind old old_place dump before [] cut each text none number place pending low =
      ([], (pending, ap (λ t. line_feeds pending ++ t) none, refl), (none, refl))
  records_behind old old_place dump before (r ∷ rest) (lfs, start, end, cut_is, at, b, cut) each text
      (front, behind, is, this, more) number place pending low =
      cases (is_written settings true r rest) refl this
      (records_behind (old + 1) (r.place + length (record_text r)) end (before ++ r ∷ []) rest cut each.1 behind more)
    where
      lawful_first : number ≡ 0 → is_lawful 0 r.headers ≡ true
      lawful_first first = subst (λ (n : ℕ). is_lawful n r.headers ≡ true) (low first) b.lawful

      cases : (w : Bool) → is_written settings true r rest ≡ w → MatchBool w (IsOutput settings kept r rest front)
          (front ≡ [])
          → AreLater (old + 1) rest behind → IsAgain number place pending (r ∷ rest) text
      cases true written output later =
          let (s, place_is, read) = each.0 front written output (place + pending) in
          let (feeds, begins) = read.begins in
          let next = later (number + 1) (s.place + length (record_text s)) feeds (λ none. absurd (omega arith)) in
          let stands = begins number text behind is (λ none. version_first r (lawful_first none)) in (
            s ∷ next.0,
            (pending, text, line_feeds feeds ++ behind, refl, place_is, stands, next.1),
            (front, behind, is, rw written (s, next.0, refl, read, next.2)),
          )
      cases false dropped none later =
          let next = later number place pending (λ first. absurd (absurd_bool (is_written settings true r rest)
          (first_written settings r rest (lawful_first first)) dropped)) in
          let same : text ≡ behind = is ∙ ap (λ t. t ++ behind) none in (
            next.0,
            subst (λ (t : List ℕ). IsCutInto number place (line_feeds pending ++ t) next.0 []) (sym same) next.1,
            (
              front,
              behind,
              is,
              subst (IsFirstAgain settings kept r rest front (AreReadAgain settings kept rest behind) next.0)
                  (sym dropped) (none, next.2),
            ),
          )

-- if each record that is written is a record again, the whole text is cut into those records
pub records_again : (settings : Settings) (kept : KeptRevisions) (dump text : List ℕ) (records : List DumpRecord)
    → IsCutInto 0 0 dump records []
    → AtEach (λ before r after. HasAgain settings kept r after) [] records → AreOutputs settings true kept records text
    → (again : List DumpRecord) × IsCutInto 0 0 text again [] × AreReadAgain settings kept records text again
records_again settings kept dump text records cut each outputs =
    records_behind settings kept 0 0 dump [] records cut each text outputs 0 0 0 (λ first. refl)

-- a dump that has a record has one again
pub some_again : (settings : Settings) (kept : KeptRevisions) (dump text : List ℕ) (records again : List DumpRecord)
    → IsCutInto 0 0 dump records []
    → 0 < length records → AreReadAgain settings kept records text again → 0 < length again
some_again settings kept dump text [] again cut some read = absurd (omega arith)
some_again settings kept dump text (r ∷ rest) again (lfs, start, end, cut_is, at, b, cut) some
    (front, behind, is, this) =
    let found = rw (first_written settings r rest b.lawful) at this in
    let same : again ≡ found.0 ∷ found.1 = found.2 in
    subst (λ (l : List DumpRecord). 0 < length l) (sym same) (omega arith)

-- if everything is kept

-- the options that keep everything keep each path
pub all_paths : (path : List ℕ) → keeps_path keep_all path ≡ true
all_paths path = refl

all_groups : (g : Group) → keeps_group keep_all g ≡ true
all_groups g = or_right (group_number g == 0 || has_kept_node keep_all g) true refl

pub all_written : (s : DumpRecord) (after : List DumpRecord) → is_written keep_all true s after ≡ true
all_written s after = cases (is_revision_record s) (is_node s) refl refl
  where
    cases : (v n : Bool) → is_revision_record s ≡ v → is_node s ≡ n → is_written keep_all true s after ≡ true
    cases true n rev node = rw rev (and_from (keeps_group keep_all (group_of s after)) true
        (all_groups (group_of s after)) refl)
    cases false true other node = rw (other, node) refl
    cases false false other no_node = rw (other, no_node) refl

-- what is written for the records that are read again is the same text
pub outputs_again : (settings : Settings) (kept : KeptRevisions) (records : List DumpRecord) (text : List ℕ)
    (again : List DumpRecord)
    → AreReadAgain settings kept records text again → (all : KeptRevisions) → AreOutputs keep_all true all again text
outputs_again settings kept [] text again (none, no_more) all = subst
    (λ (l : List DumpRecord). AreOutputs keep_all true all l text) (sym no_more) none
outputs_again settings kept (r ∷ rest) text again (front, behind, is, this) all =
    cases (is_written settings true r rest) this (λ more read. outputs_again settings kept rest behind more read all)
  where
    cases : (w : Bool) → IsFirstAgain settings kept r rest front (AreReadAgain settings kept rest behind) again w
        → ((more : List DumpRecord) → AreReadAgain settings kept rest behind more
        → AreOutputs keep_all true all more behind)
        → AreOutputs keep_all true all again text
    cases true (s, more, same, read, reads) later =
        subst (λ (l : List DumpRecord). AreOutputs keep_all true all l text) (sym same)
        (front, behind, is, rw (all_written s more) (read.output all more), later more reads)
    cases false (none, reads) later =
        subst (λ (t : List ℕ). AreOutputs keep_all true all again t) (sym (is ∙ ap (λ t. t ++ behind) none))
        (later again reads)
