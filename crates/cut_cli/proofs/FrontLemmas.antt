-- What the reading of a dump's changes says of the dump.
use Rattle.std.proofs.Common.{◌≡◌, ◌≤◌, ◌<◌, ◌+◌, ℕ, Bool, true, false, List, [], ◌∷◌, ◌++◌, get_or, take, length, map, refl, sym, ap, ap₂, ◌∙◌, subst}
use Rattle.std.specs.Prelude.{MatchBool}
use Rattle.std.specs.List.{list_all}
use Rattle.std.proofs.lemmas.List.{map-append, take-map, take_all, take_more}
use Rattle.dump_index.specs.steps.InOrder.{are_in_order}
use Rattle.dump_index.specs.steps.Listed.{Listed, listed_of}
use Rattle.dump_index.specs.declared.change.NodeChange.{NodeChange}
use Rattle.dump_changes.specs.steps.ListedDumps.{are_numbered, without_number}
use Rattle.dump_changes.specs.declared.read.End.TheVariants.{Whole}
use Rattle.dump_changes.specs.declared.read.Reading.{Reading}
use Rattle.dump_changes.specs.steps.DumpReading.{EndsReading, IsReadingOfDump}
use Rattle.dump_cut.specs.steps.NamedPaths.{has_named_paths}
use Rattle.dump_cut.proofs.NamedLemmas.{listed_in_named, same_named}
use Rattle.cut_cli.specs.steps.Cuts.{AreChangesOf, AreListedButNumbers}
use Rattle.cut_cli.specs.steps.Examined.{AreKnownOf, AreReadAs}
use Rattle.cut_cli.proofs.EarlierLemmas.{first_named}

abbrev without : List NodeChange → List Listed
without changes = map without_number (map listed_of changes)

-- these are the changes up to this place, but for the numbers that are corrected
abbrev pub KnownSoFar : List NodeChange → List NodeChange → ℕ → Type 0
KnownSoFar all changes place = without changes ≡ without (take place all)

pub one_more_known : (all changes more seen : List NodeChange) (place : ℕ) (d known : NodeChange) → seen ≡ all
    → place < length seen → KnownSoFar all changes place
    → without_number (listed_of known) ≡ without_number (listed_of (get_or seen place d))
    → more ≡ changes ++ known ∷ [] → KnownSoFar all more (place + 1)
one_more_known all changes more seen place d known is low so_far its more_is =
    ap without more_is ∙ (pushed changes known
    ∙ (ap₂ (λ ls l. ls ++ l ∷ []) so_far (its ∙ ap (λ cs. without_number (listed_of (get_or cs place d))) is)
    ∙ sym (ap without (take_more all place d (subst (λ cs. place < length cs) is low))
    ∙ pushed (take place all) (get_or all place d))))
  where
    pushed : (cs : List NodeChange) (c : NodeChange)
        → without (cs ++ c ∷ []) ≡ without cs ++ without_number (listed_of c) ∷ []
    pushed cs c =
        ap (map without_number) (map-append listed_of cs (c ∷ []))
        ∙ map-append without_number (map listed_of cs) (listed_of c ∷ [])

pub all_known : (all changes seen : List NodeChange) (place : ℕ) → seen ≡ all → length seen ≤ place
    → KnownSoFar all changes place → without changes ≡ without all
all_known all changes seen place is high so_far =
    so_far ∙ ap without (take_all place all (subst (λ cs. length cs ≤ place) is high))

-- the first changes have named paths, if all have
pub taken_named : (changes : List NodeChange) (place : ℕ) → list_all has_named_paths (map listed_of changes) ≡ true
    → list_all has_named_paths (map listed_of (take place changes)) ≡ true
taken_named changes place named =
    ap (list_all has_named_paths) (sym (take-map listed_of place changes)) ∙ first_named (map listed_of changes) place named

module _ (dump : List ℕ) (reading : Reading) (read : IsReadingOfDump dump reading) where
  abbrev items : List NodeChange
  items = reading.changes.items

  -- what a dump has that is read has named paths
  pub read_named : list_all has_named_paths (map listed_of items) ≡ true
  read_named = listed_in_named read.records items read.listed

  pub known_named : (changes : List NodeChange) (place : ℕ) → KnownSoFar items changes place
      → list_all has_named_paths (map listed_of changes) ≡ true
  known_named changes place so_far =
      same_named (map listed_of changes) (map listed_of (take place items)) so_far ∙ taken_named items place read_named

  -- as they are read, or as a load takes them
  known_of : (known : List NodeChange) → AreReadAs read.records items known → reading.end ≡ Whole → AreKnownOf dump known
  known_of known same ends = record {
    records = read.records;
    changes = items;
    whole = subst (EndsReading dump read.records) ends read.ends;
    rise = read.rise;
    are_listed = read.listed;
    numbers = read.nodes;
    read_as = same;
  }

  pub known_as_read : reading.numbered ≡ true → reading.end ≡ Whole → AreKnownOf dump items
  known_as_read is = known_of items (subst (λ b. MatchBool b (items ≡ items) (AreListedButNumbers items (map listed_of items)))
      (sym is ∙ read.numbered) refl)

  -- with the numbers of other revisions
  pub known_by_load : reading.numbered ≡ false → (changes : List NodeChange) → without changes ≡ without items
      → reading.end ≡ Whole → AreKnownOf dump changes
  known_by_load isnt changes same =
      known_of changes (subst (λ b. MatchBool b (items ≡ changes) (AreListedButNumbers items (map listed_of changes)))
      (sym isnt ∙ read.numbered) (sym same))

-- changes that are known in order are those of the dump
pub in_order_known : (dump : List ℕ) (known : List NodeChange) → AreKnownOf dump known → are_in_order 0 known ≡ true
    → AreChangesOf dump (map listed_of known)
in_order_known dump known are ordered = record {
  records = are.records;
  changes = are.changes;
  whole = are.whole;
  rise = are.rise;
  are_listed = are.are_listed;
  numbers = are.numbers;
  known = known_by (are_numbered are.records) are.read_as;
  ordered = ordered_by (are_numbered are.records) are.read_as;
}
  where
    known_by : (b : Bool) → MatchBool b (are.changes ≡ known) (AreListedButNumbers are.changes (map listed_of known))
        → MatchBool b (map listed_of are.changes ≡ map listed_of known)
        (AreListedButNumbers are.changes (map listed_of known))
    known_by true same = ap (map listed_of) same
    known_by false same = same

    ordered_by : (b : Bool) → MatchBool b (are.changes ≡ known) (AreListedButNumbers are.changes (map listed_of known))
        → b ≡ true → are_in_order 0 are.changes ≡ true
    ordered_by true same is = ap (are_in_order 0) same ∙ ordered
    ordered_by false same is = absurd (let bad : false ≡ true = is in cc)
