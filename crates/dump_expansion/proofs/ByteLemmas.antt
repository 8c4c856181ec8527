-- The bytes of a dump, record by record.
use Rattle.std.proofs.Common.{◌≡◌, ℕ, zero, suc, ◌+◌, ◌≤◌, Bool, true, false, ◌==◌, cond, List, [], ◌∷◌, ◌++◌, length, length-append, drop, flat_map, refl, sym, ap, ap₂, ◌∙◌, subst, arith, append_assoc}
use Rattle.std.specs.Prelude.{⊤}
use Rattle.std.proofs.lemmas.Bool.{eqb-true}
use Rattle.std.proofs.lemmas.List.{drop-drop, length-drop}
use Rattle.std.proofs.lemmas.List.Sums.{take_while-cons}
use Rattle.std.proofs.Math.Seq.{drop-append_seam}
use Rattle.dump_text.specs.HeaderBlock.{starts_with_lf}
use Rattle.dump_records.specs.DumpText.{Ending, HasRecords, IsCutInto, line_feeds}
use Rattle.dump_records.specs.RecordText.{BeginsWithRecord, DumpRecord, record_text}
use Rattle.dump_records.specs.steps.Standing.{IsGap}
use Rattle.dump_records.proofs.CutLemmas.{lfs_length}
use Rattle.dump_records.proofs.Unique.{front_of}
use Rattle.dump_expansion.specs.steps.ExpandedBytes.{first_lfs, lfs_behind, unread_bytes}

-- line feeds

-- whether a byte is a line feed, as the definitions test it
abbrev is_lf : ℕ → Bool
is_lf byte = byte == 10

pub lfs_are : (text : List ℕ) → first_lfs text ≡ line_feeds (length (first_lfs text))
lfs_are [] = refl
lfs_are (byte ∷ text) = cases (is_lf byte) refl (lfs_are text)
  where
    cases : (b : Bool) → is_lf byte ≡ b → first_lfs text ≡ line_feeds (length (first_lfs text))
        → first_lfs (byte ∷ text) ≡ line_feeds (length (first_lfs (byte ∷ text)))
    cases true is further =
        let first : first_lfs (byte ∷ text) ≡ 10 ∷ first_lfs text =
        take_while-cons is_lf byte text ∙ ap (λ b. cond b (byte ∷ first_lfs text) []) is
        ∙ ap (λ n. n ∷ first_lfs text) (eqb-true byte 10 is) in
        first ∙ ap (λ t. 10 ∷ t) further ∙ ap (λ t. line_feeds (length t)) (sym first)
    cases false isnt further =
        let none : first_lfs (byte ∷ text) ≡ [] =
        take_while-cons is_lf byte text ∙ ap (λ b. cond b (byte ∷ first_lfs text) []) isnt in
        none ∙ ap (λ t. line_feeds (length t)) (sym none)

lfs_of : (n : ℕ) (rest : List ℕ) → starts_with_lf rest ≡ false → first_lfs (line_feeds n ++ rest) ≡ line_feeds n
lfs_of zero [] stop = refl
lfs_of zero (byte ∷ rest) stop =
    take_while-cons is_lf byte rest ∙ ap (λ b. cond b (byte ∷ first_lfs rest) []) stop
lfs_of (suc n) rest stop =
    take_while-cons is_lf 10 (line_feeds n ++ rest) ∙ ap (λ t. 10 ∷ t) (lfs_of n rest stop)

drop_lfs : (n : ℕ) (rest : List ℕ) → drop n (line_feeds n ++ rest) ≡ rest
drop_lfs n rest = ap (λ k. drop k (line_feeds n ++ rest)) (sym (lfs_length n)) ∙ drop-append_seam (line_feeds n) rest

-- the rest of a text after its first line feeds
pub behind_gap : (text rest : List ℕ) (n : ℕ) → IsGap text n → text ≡ first_lfs text ++ rest → drop n text ≡ rest
behind_gap text rest n gap is =
    let first : first_lfs text ≡ line_feeds n = ap first_lfs gap.spelled ∙ lfs_of n (drop n text) gap.stop in
    ap (drop n) (is ∙ ap (λ t. t ++ rest) first) ∙ drop_lfs n rest

-- records

-- the bytes of records of the dump, each with the line feeds that follow it
abbrev pub own_bytes : List ℕ → List DumpRecord → List ℕ
own_bytes dump records = flat_map (λ r. record_text r ++ lfs_behind dump r) records

-- each record is in the dump at its place, and the later ones and the end follow it
abbrev pub AllStand : List ℕ → List ℕ → List DumpRecord → Type 0
AllStand dump end [] = ⊤
AllStand dump end (r ∷ records) = (r.place + length (record_text r) ≤ length dump)
    × (drop r.place dump ≡ own_bytes dump (r ∷ records) ++ end) × AllStand dump end records

-- a text that is split into records has their bytes
abbrev HasBytes : List ℕ → List ℕ → List DumpRecord → List ℕ → Type 0
HasBytes dump text records end =
    (text ≡ first_lfs text ++ (own_bytes dump records ++ end)) × AllStand dump end records

-- the line feeds, a record and what comes after it
module _ (dump : List ℕ) (number place : ℕ) (text : List ℕ) (r : DumpRecord) (lfs : ℕ) (front after : List ℕ)
    (at : drop place dump ≡ text) (is : text ≡ line_feeds lfs ++ front) (there : r.place ≡ place + lfs)
    (b : BeginsWithRecord number front r after) where
  first_are : first_lfs text ≡ line_feeds lfs
  first_are = ap first_lfs is ∙ lfs_of lfs front (front_of number front r after b)

  own_is : drop r.place dump ≡ front
  own_is =
      ap (λ n. drop n dump) there ∙ sym (drop-drop lfs place dump) ∙ ap (drop lfs) (at ∙ is) ∙ drop_lfs lfs front

  behind_is : drop (r.place + length (record_text r)) dump ≡ after
  behind_is =
      sym (drop-drop (length (record_text r)) r.place dump)
      ∙ ap (drop (length (record_text r))) (own_is ∙ b.spelled) ∙ drop-append_seam (record_text r) after

  fits : place ≤ length dump → r.place + length (record_text r) ≤ length dump
  fits inside =
      let size = ap length (at ∙ is) ∙ length-append (line_feeds lfs) front in
      let gap = lfs_length lfs in
      let left = length-drop place dump in
      let body = ap length b.spelled ∙ length-append (record_text r) after in
      omega arith

  more_bytes : (records : List DumpRecord) (end : List ℕ) → place ≤ length dump → HasBytes dump after records end
      → HasBytes dump text (r ∷ records) end
  more_bytes records end inside further =
      let front_is : front ≡ own_bytes dump (r ∷ records) ++ end =
      b.spelled ∙ ap (λ t. record_text r ++ t) (further.0
      ∙ ap (λ t. first_lfs t ++ (own_bytes dump records ++ end)) (sym behind_is))
      ∙ regrouped (record_text r) (lfs_behind dump r) (own_bytes dump records) end in
      (is ∙ ap₂ (λ s t. s ++ t) (sym first_are) front_is, (fits inside, own_is ∙ front_is, further.1))
    where
      regrouped : (a b c d : List ℕ) → a ++ (b ++ (c ++ d)) ≡ ((a ++ b) ++ c) ++ d
      regrouped a b c d = simp append_assoc

cut_bytes : (dump : List ℕ) (number place : ℕ) (text : List ℕ) (records : List DumpRecord) (end : List ℕ)
    → drop place dump ≡ text → place ≤ length dump → IsCutInto number place text records end
    → HasBytes dump text records end
cut_bytes dump number place text [] end at inside (lfs, is, stop) =
    (is ∙ ap (λ t. t ++ end) (sym (ap first_lfs is ∙ lfs_of lfs end stop)), tt)
cut_bytes dump number place text (r ∷ records) end at inside (lfs, front, after, is, there, b, more) =
    more_bytes dump number place text r lfs front after at is there b records end inside
    (cut_bytes dump (number + 1) (r.place + length (record_text r)) after records end
    (behind_is dump number place text r lfs front after at is there b)
    (fits dump number place text r lfs front after at is there b inside) more)

-- what follows the records is what can't be read
unread_is : (dump : List ℕ) (records : List DumpRecord) (ending : Ending) (has : HasRecords dump records ending)
    → has.0 ≡ unread_bytes dump ending
unread_is dump records Ending.Whole (rest, cut, versions, (none, some)) = none
unread_is dump records (Ending.Broken fault place) (rest, cut, versions, (first, at, is)) =
    let front = first_lfs dump ++ own_bytes dump records in
    let all : dump ≡ front ++ rest =
    (cut_bytes dump 0 0 dump records rest refl (omega arith) cut).0
    ∙ sym (append_assoc (first_lfs dump) (own_bytes dump records) rest) in
    let size : place ≡ length front =
    (let sizes = ap length all ∙ length-append front rest in omega (arith, at)) in
    sym (ap (drop place) all ∙ ap (λ n. drop n (front ++ rest)) size ∙ drop-append_seam front rest)

-- a dump consists of its first line feeds, its records with their line feeds, and what can't be read
pub dump_bytes : (dump : List ℕ) (records : List DumpRecord) (ending : Ending) → HasRecords dump records ending
    → (dump ≡ first_lfs dump ++ (own_bytes dump records ++ unread_bytes dump ending))
    × AllStand dump (unread_bytes dump ending) records
dump_bytes dump records ending has =
    subst (HasBytes dump dump records) (unread_is dump records ending has)
    (cut_bytes dump 0 0 dump records has.0 refl (omega arith) has.1)
