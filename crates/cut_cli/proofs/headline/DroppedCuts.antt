-- What is written with --drop-empty-revs is a cut without emptied revisions.
use Rattle.std.proofs.Common.{◌≡◌, ◌+◌, ◌≤◌, ◌&&◌, not, ℕ, suc, Bool, true, false, List, [], ◌∷◌, ◌++◌, filter, length, length-append, map, Option, Some, refl, sym, ap, ap₂, ◌∙◌, subst, append_assoc, arith, eqb-true, le-leb}
use Rattle.std.specs.Prelude.{◌==◌, nat_le, nat_lt, if◌then◌else◌}
use Rattle.std.proofs.lemmas.Bool.{and_from, and_parts, lt-ltb}
use Rattle.std.specs.List.{AllZip, list_all, slice_get}
use Rattle.dump_text.specs.PropertyList.{Property}
use Rattle.dump_records.specs.RecordText.{DumpRecord}
use Rattle.dump_digest.specs.RecordParts.{HasPropertyList}
use Rattle.dump_digest.proofs.PropertyBlocks.{property_list_once}
use Rattle.dump_rules.specs.Settings.{Settings}
use Rattle.dump_filter.specs.Groups.{Group, group_number, groups, is_emptied, is_pad, is_padded, keeps_group, kept_revisions, revision_numbers}
use Rattle.dump_filter.specs.NewContent.{revision_properties}
use Rattle.dump_history.specs.DumpChanges.{HaveRevisionProperties, counts_from}
use Rattle.dump_history.specs.DumpLaws.{KeepsProperties, RevisionsKeepProperties}
use Rattle.dump_changes.specs.ListedDumps.{rise_from}

-- properties of this revision
abbrev pub HasProperties : Group → List Property → Type 0
HasProperties g ps = HasPropertyList g.revision ps

-- in the midst of a list
get_middle : {A : Type 0} (front : List A) (x : A) (behind : List A) → slice_get (front ++ x ∷ behind) (length front) ≡ Some x
get_middle [] x behind = refl
get_middle (y ∷ front) x behind = get_middle front x behind

-- numbers of kept groups rise
rising_from : (settings : Settings) (gs : List Group) (number least : ℕ) → counts_from number (map group_number gs) ≡ true
    → least ≤ number → rise_from least (map group_number (filter (keeps_group settings) gs)) ≡ true
rising_from settings [] number least counts low = refl
rising_from settings (g ∷ gs) number least counts low =
    let parts = and_parts (group_number g == number) (counts_from (suc number) (map group_number gs)) counts in
    let same = eqb-true (group_number g) number parts.0 in
    cases (keeps_group settings g) same
    (λ next less. rising_from settings gs (suc number) next parts.1 less)
  where
    cases : (b : Bool) → group_number g ≡ number
        → ((next : ℕ) → next ≤ suc number → rise_from next (map group_number (filter (keeps_group settings) gs)) ≡ true)
        → rise_from least (map group_number (if b then g ∷ filter (keeps_group settings) gs
        else filter (keeps_group settings) gs)) ≡ true
    cases true same more =
        and_from (nat_le least (group_number g)) _ (le-leb least (group_number g) (omega (arith, low, same)))
        (more (suc (group_number g)) (omega (arith, same)))
    cases false same more = more least (omega (arith, low))

-- what kept revisions keep
record Left (hs : List Group) (numbers : List ℕ) (props : List (List Property)) : Type 0 where
  left : List (List Property)
  have : AllZip HasProperties hs left
  at : map (slice_get props) numbers ≡ map (λ ps. Some ps) left

module _ (settings : Settings) (preserves : settings.preserve ≡ true) where
  unpadded : (g : Group) → is_padded settings g ≡ false
  unpadded g = ap (λ p. is_emptied settings g && is_pad settings.empty && not p) preserves
      ∙ and_ends (is_emptied settings g) (is_pad settings.empty)
    where
      and_ends : (a b : Bool) → (a && b && false) ≡ false
      and_ends true true = refl
      and_ends true false = refl
      and_ends false true = refl
      and_ends false false = refl

  kept_properties : (gs hs : List Group) (front props : List (List Property))
      → counts_from (length front) (map group_number gs) ≡ true → AllZip HasProperties gs props
      → AllZip (KeepsProperties settings) (filter (keeps_group settings) gs) hs
      → Left hs (map group_number (filter (keeps_group settings) gs)) (front ++ props)
  kept_properties [] [] front props counts have all = record { left = []; have = tt; at = refl }
  kept_properties [] (h ∷ hs) front props counts have all = absurd all
  kept_properties (g ∷ gs) hs front [] counts have all = absurd have
  kept_properties (g ∷ gs) hs front (ps ∷ props) counts (first, have) all =
      let parts = and_parts (group_number g == length front) (counts_from (suc (length front)) (map group_number gs)) counts in
      let same = eqb-true (group_number g) (length front) parts.0 in
      let grown = length-append front (ps ∷ []) in
      let next : length (front ++ ps ∷ []) ≡ suc (length front) = omega arith in
      let counts_next = subst (λ n. counts_from n (map group_number gs) ≡ true) (sym next) parts.1 in
      cases (keeps_group settings g) same
      (λ others zip. subst (Left others (map group_number (filter (keeps_group settings) gs)))
      (append_assoc front (ps ∷ []) props) (kept_properties gs others (front ++ ps ∷ []) props counts_next have zip)) hs all
    where
      cases : (b : Bool) → group_number g ≡ length front
          → ((others : List Group) → AllZip (KeepsProperties settings) (filter (keeps_group settings) gs) others
          → Left others (map group_number (filter (keeps_group settings) gs)) (front ++ ps ∷ props))
          → (hs : List Group)
          → AllZip (KeepsProperties settings) (if b then g ∷ filter (keeps_group settings) gs
          else filter (keeps_group settings) gs) hs
          → Left hs (map group_number (if b then g ∷ filter (keeps_group settings) gs
          else filter (keeps_group settings) gs)) (front ++ ps ∷ props)
      cases true same more [] zip = absurd zip
      cases true same more (h ∷ hs) ((qs, old, new), zip) =
          let rest = more hs zip in
          record {
            left = ps ∷ rest.left;
            have = (
              subst (λ l. HasPropertyList h.revision l)
                  (ap (λ b. revision_properties b qs) (unpadded g) ∙ property_list_once g.revision qs ps old first) new,
              rest.have,
            );
            at = ap₂ (λ (x : Option (List Property)) xs. x ∷ xs)
                (ap (slice_get (front ++ ps ∷ props)) same ∙ get_middle front ps props) rest.at;
          }
      cases false same more hs zip = more hs zip

  pub left_of : (records again : List DumpRecord) (props : List (List Property))
      → counts_from 0 (revision_numbers records) ≡ true → HaveRevisionProperties records props
      → RevisionsKeepProperties settings records again
      → (left : List (List Property)) × HaveRevisionProperties again left
      × (map (slice_get props) (kept_revisions settings records).numbers ≡ map (λ ps. Some ps) left)
  left_of records again props counts have keeps =
      let found = kept_properties (groups records) (groups again) [] props counts have keeps in
      (found.left, found.have, found.at)

-- kept numbers rise
pub kept_rising : (settings : Settings) (records : List DumpRecord) → counts_from 0 (revision_numbers records) ≡ true
    → rise_from 0 (kept_revisions settings records).numbers ≡ true
kept_rising settings records counts = rising_from settings (groups records) 0 0 counts (omega arith)

-- and are below the count of revisions
below_all : (settings : Settings) (gs : List Group) (number bound : ℕ) → counts_from number (map group_number gs) ≡ true
    → number + length gs ≤ bound
    → list_all (λ n. nat_lt n bound) (map group_number (filter (keeps_group settings) gs)) ≡ true
below_all settings [] number bound counts low = refl
below_all settings (g ∷ gs) number bound counts low =
    let parts = and_parts (group_number g == number) (counts_from (suc number) (map group_number gs)) counts in
    let same = eqb-true (group_number g) number parts.0 in
    cases (keeps_group settings g) (lt-ltb (group_number g) bound (omega (arith, low, same)))
    (below_all settings gs (suc number) bound parts.1 (omega (arith, low)))
  where
    cases : (b : Bool) → nat_lt (group_number g) bound ≡ true
        → list_all (λ n. nat_lt n bound) (map group_number (filter (keeps_group settings) gs)) ≡ true
        → list_all (λ n. nat_lt n bound) (map group_number (if b then g ∷ filter (keeps_group settings) gs
        else filter (keeps_group settings) gs)) ≡ true
    cases true here more = and_from (nat_lt (group_number g) bound) _ here more
    cases false here more = more

pub kept_below : (settings : Settings) (records : List DumpRecord) (bound : ℕ) → counts_from 0 (revision_numbers records) ≡ true
    → length (groups records) ≤ bound
    → list_all (λ n. nat_lt n bound) (kept_revisions settings records).numbers ≡ true
kept_below settings records bound counts few = below_all settings (groups records) 0 bound counts (omega (arith, few))
