-- The first part of a dump with deletes after its nodes.
use Rattle.std.proofs.Common.{◌≡◌, ℕ, suc, Bool, true, false, List, [], ◌∷◌, ◌++◌, if◌then◌else◌, length, map, take, refl, sym, ap, ◌∙◌, subst, IsTrue}
use Rattle.std.specs.List.{AllZip}
use Rattle.dump_text.specs.HeaderBlock.{block_text}
use Rattle.dump_records.specs.DumpText.{Ending, IsCutInto, line_feeds}
use Rattle.dump_records.specs.RecordText.{DumpRecord}
use Rattle.dump_records.proofs.Unique.{records_once}
use Rattle.dump_digest.specs.RecordParts.{is_node}
use Rattle.dump_history.specs.steps.ExpandedDumps.{IsSameRecord}
use Rattle.dump_history.specs.ExpandedText.{AreRecordTexts}
use Rattle.dump_history.specs.TrimmedDumps.{IsTrimmedText, may_stand_behind, records_behind}
use Rattle.dump_history.specs.WrittenNodes.{WrittenNode, node_record}
use Rattle.dump_history.proofs.cuts.TrimmedTexts.{trimmed_is_dump}
use Rattle.dump_history.proofs.expanded.FormLemmas.{written_node}
use Rattle.dump_cut.specs.FirstParts.{FirstPartsAreTrimmed}
use Rattle.dump_cut.specs.LaterParts.{is_later_revision}
use Rattle.dump_cut.specs.TrimmedCopies.{delete_nodes, deletes_behind}
use Rattle.dump_cut.proofs.LaterRecords.{before_first, both_parts, first_is_dump, from_first, same_later, zip_parts}
use Rattle.dump_cut.proofs.TrimmedTextLemmas.{cut_texts}

-- records that are the same at other places have the same texts
same_texts : (xs ys : List DumpRecord) (text : List ℕ) → AllZip IsSameRecord xs ys → AreRecordTexts ys text
    → AreRecordTexts xs text
same_texts [] [] text same texts = texts
same_texts [] (y ∷ ys) text same texts = absurd same
same_texts (x ∷ xs) [] text same texts = absurd same
same_texts (x ∷ xs) (y ∷ ys) text (one, same) (lfs, rest, is, texts) = (
  lfs,
  rest,
  is ∙ (λ i. ((block_text (one.headers i) ++ one.props i) ++ one.text i) ++ (line_feeds lfs ++ rest)),
  same_texts xs ys rest same texts,
)

module _ (number : ℕ) where
  -- the records before the first revision above a number are the same
  same_firsts : (xs ys : List DumpRecord) → AllZip IsSameRecord xs ys
      → AllZip IsSameRecord (before_first (is_later_revision number) xs) (before_first (is_later_revision number) ys)
  same_firsts [] [] same = tt
  same_firsts [] (y ∷ ys) same = absurd same
  same_firsts (x ∷ xs) [] same = absurd same
  same_firsts (x ∷ xs) (y ∷ ys) (one, same) =
      subst (λ b. AllZip IsSameRecord (before_first (is_later_revision number) (x ∷ xs))
      (if b then [] else y ∷ before_first (is_later_revision number) ys)) (sym (same_later number x y one.headers))
      (cases (is_later_revision number x) (same_firsts xs ys same))
    where
      cases : (b : Bool)
          → AllZip IsSameRecord (before_first (is_later_revision number) xs) (before_first (is_later_revision number) ys)
          → AllZip IsSameRecord (if b then [] else x ∷ before_first (is_later_revision number) xs)
          (if b then [] else y ∷ before_first (is_later_revision number) ys)
      cases true more = tt
      cases false more = (one, more)

  -- no written node is such a revision
  nodes_pass : (place version : ℕ) (nodes : List WrittenNode) (rest : List DumpRecord)
      → before_first (is_later_revision number) (map (node_record place version) nodes ++ rest)
      ≡ map (node_record place version) nodes ++ before_first (is_later_revision number) rest
  nodes_pass place version [] rest = refl
  nodes_pass place version (w ∷ nodes) rest =
      rw (written_node place version w).no_revision
      (ap (λ (rs : List DumpRecord). node_record place version w ∷ rs) (nodes_pass place version nodes rest))

  -- with the nodes that follow them, the records before it are those before it with their nodes
  firsts_behind : (records : List DumpRecord) (behind : List (List WrittenNode))
      → before_first (is_later_revision number) (records_behind records behind)
      ≡ records_behind (before_first (is_later_revision number) records)
      (take (length (before_first (is_later_revision number) records)) behind)
  firsts_behind [] behind = refl
  firsts_behind (r ∷ records) [] = cases (before_first (is_later_revision number) (r ∷ records))
    where
      cases : (rs : List DumpRecord) → [] ≡ records_behind rs (take (length rs) [])
      cases [] = refl
      cases (x ∷ rs) = refl
  firsts_behind (r ∷ records) (nodes ∷ behind) = cases (is_later_revision number r) (firsts_behind records behind)
    where
      firsts : List DumpRecord
      firsts = before_first (is_later_revision number) records

      cases : (b : Bool) → before_first (is_later_revision number) (records_behind records behind)
          ≡ records_behind firsts (take (length firsts) behind)
          → (if b then []
          else r ∷ before_first (is_later_revision number) (map (node_record r.place r.version) nodes
          ++ records_behind records behind))
          ≡ records_behind (if b then [] else r ∷ firsts) (take (length (if b then [] else r ∷ firsts)) (nodes ∷ behind))
      cases true more = refl
      cases false more =
          ap (λ (rs : List DumpRecord). r ∷ rs) (nodes_pass r.place r.version nodes (records_behind records behind)
          ∙ ap (λ (rs : List DumpRecord). map (node_record r.place r.version) nodes ++ rs) more)

-- after the first records are the first deletes
deletes_front : (xs ys : List DumpRecord) (deletes : List (List (List ℕ)))
    → take (length xs) (deletes_behind (xs ++ ys) deletes) ≡ deletes_behind xs deletes
deletes_front [] ys deletes = refl
deletes_front (x ∷ xs) ys [] = ap (λ (l : List (List WrittenNode)). [] ∷ l) (deletes_front xs ys [])
deletes_front (x ∷ xs) ys (paths ∷ deletes) =
    cases (is_node x) (deletes_front xs ys deletes) (deletes_front xs ys (paths ∷ deletes))
  where
    cases : (b : Bool) → take (length xs) (deletes_behind (xs ++ ys) deletes) ≡ deletes_behind xs deletes
        → take (length xs) (deletes_behind (xs ++ ys) (paths ∷ deletes)) ≡ deletes_behind xs (paths ∷ deletes)
        → take (suc (length xs)) (if b then delete_nodes paths ∷ deletes_behind (xs ++ ys) deletes
        else [] ∷ deletes_behind (xs ++ ys) (paths ∷ deletes))
        ≡ (if b then delete_nodes paths ∷ deletes_behind xs deletes else [] ∷ deletes_behind xs (paths ∷ deletes))
    cases true here later = ap (λ (l : List (List WrittenNode)). delete_nodes paths ∷ l) here
    cases false here later = ap (λ (l : List (List WrittenNode)). [] ∷ l) later

-- the text has these records, after some line feeds
abbrev HasTexts : List DumpRecord → List ℕ → Type 0
HasTexts records text = (lfs : ℕ) × (front : List ℕ) × (text ≡ line_feeds lfs ++ front) × AreRecordTexts records front

-- if records are those of a dump with these deletes, the text of the first ones is that of the dump's first ones with
-- the deletes
texts_trimmed : (number : ℕ) (deletes : List (List (List ℕ))) (part : List ℕ) (records parts : List DumpRecord)
    → AllZip (λ r nodes. IsTrue (may_stand_behind r nodes)) records (deletes_behind records deletes)
    → AllZip IsSameRecord (records_behind records (deletes_behind records deletes)) parts
    → HasTexts (before_first (is_later_revision number) parts) part
    → IsTrimmedText (before_first (is_later_revision number) records)
    (deletes_behind (before_first (is_later_revision number) records) deletes) part
texts_trimmed number deletes part records parts may same (lfs, front, spelled, texts) =
    let is_later = is_later_revision number in
    let firsts = before_first is_later records in
    let behind = deletes_behind records deletes in
    let May : DumpRecord → List WrittenNode → Type 0 = λ r nodes. IsTrue (may_stand_behind r nodes) in
    let own : take (length firsts) behind ≡ deletes_behind firsts deletes =
    ap (λ rs. take (length firsts) (deletes_behind rs deletes)) (sym (both_parts is_later records))
    ∙ deletes_front firsts (from_first is_later records) deletes in
    record {
      may = subst (AllZip May firsts) own
          (zip_parts May firsts (from_first is_later records) behind
          (subst (λ (rs : List DumpRecord). AllZip May rs behind) (sym (both_parts is_later records)) may)).0;
      lfs = lfs;
      front = front;
      spelled = spelled;
      texts = subst (λ (rs : List DumpRecord). AreRecordTexts rs front)
          (firsts_behind number records behind ∙ ap (records_behind firsts) own)
          (same_texts (before_first is_later (records_behind records behind)) (before_first is_later parts) front
          (same_firsts number (records_behind records behind) parts same) texts);
    }

-- with deletes after its nodes, the first part of a dump is the first part of the dump with them
pub first_parts_are_trimmed : FirstPartsAreTrimmed
first_parts_are_trimmed number deletes dump text first part records has trimmed is_first is_part again has_again =
    let firsts = before_first (is_later_revision number) records in
    let same = (records_once first again firsts Ending.Whole Ending.Whole has_again
    (first_is_dump number dump first records has (is_first records has))).0 in
    let t = trimmed records has in
    let (parts, has_parts, stand) =
    trimmed_is_dump dump text t.front records (deletes_behind records deletes) t.lfs has t.may t.spelled t.texts in
    let (rest, cut, versions, ended) = first_is_dump number text part parts has_parts (is_part parts has_parts) in
    let own = before_first (is_later_revision number) parts in
    subst (λ (rs : List DumpRecord). IsTrimmedText rs (deletes_behind rs deletes) part) (sym same)
    (texts_trimmed number deletes part records parts t.may stand
    (cut_texts 0 0 part own (subst (λ (l : List ℕ). IsCutInto 0 0 part own l) ended.0 cut)))
