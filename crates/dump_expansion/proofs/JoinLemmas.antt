-- Texts of records, one after the other, and the records of an expanded dump.
use Rattle.std.proofs.Common.{◌≡◌, ℕ, ◌+◌, List, [], ◌∷◌, ◌++◌, length, map, drop, flat_map, refl, sym, ap, ◌∙◌, subst, append-nil, append_assoc}
use Rattle.std.proofs.lemmas.List.{replicate-append-replicate}
use Rattle.dump_records.specs.DumpText.{Ending, line_feeds}
use Rattle.dump_records.specs.RecordText.{DumpRecord, record_text}
use Rattle.dump_history.specs.steps.ExpandedDumps.{Stead, expanded_records, own_records}
use Rattle.dump_history.specs.ExpandedText.{AreRecordTexts}
use Rattle.dump_history.specs.WrittenNodes.{WrittenNode, node_record}
use Rattle.dump_history.specs.steps.WrittenNodes.{node_bytes}
use Rattle.dump_expansion.specs.steps.ExpandedBytes.{expanded_bytes, first_lfs, lfs_behind, stead_bytes, steads_bytes}
use Rattle.dump_expansion.specs.steps.NodeTexts.{lfs_after, nodes_text}
use Rattle.dump_expansion.proofs.ByteLemmas.{lfs_are}

-- texts that join

-- the text is these records, with some line feeds around them; with texts of other records after it, it is the text of
-- all of them
abbrev pub Joins : List DumpRecord → List ℕ → Type 0
Joins records text = (lfs : ℕ) (after : List ℕ) (rest : List DumpRecord) → AreRecordTexts rest after
    → (more : ℕ) × (front : List ℕ) × (text ++ (line_feeds lfs ++ after) ≡ line_feeds more ++ front)
    × AreRecordTexts (records ++ rest) front

pub lfs_join : (n : ℕ) → Joins [] (line_feeds n)
lfs_join n lfs after rest texts = (
  n + lfs,
  after,
  sym (append_assoc (line_feeds n) (line_feeds lfs) after) ∙ ap (λ t. t ++ after) (replicate-append-replicate n lfs 10),
  texts,
)

record_joins : (r : DumpRecord) → Joins (r ∷ []) (record_text r)
record_joins r lfs after rest texts = (0, record_text r ++ (line_feeds lfs ++ after), refl, (lfs, after, refl, texts))

pub both_join : (xs ys : List DumpRecord) (a b : List ℕ) → Joins xs a → Joins ys b → Joins (xs ++ ys) (a ++ b)
both_join xs ys a b first second lfs after rest texts =
    let (n, t, is, more) = second lfs after rest texts in
    let (m, front, at, all) = first n t (ys ++ rest) more in (
      m,
      front,
      append_assoc a b (line_feeds lfs ++ after) ∙ ap (λ s. a ++ s) is ∙ at,
      subst (λ (rs : List DumpRecord). AreRecordTexts rs front) (sym (append_assoc xs ys rest)) all,
    )

-- written nodes
pub nodes_join : (place version : ℕ) (nodes : List WrittenNode)
    → Joins (map (node_record place version) nodes) (nodes_text nodes)
nodes_join place version [] = lfs_join 0
nodes_join place version (w ∷ nodes) =
    let one = node_record place version w ∷ [] in
    both_join one (map (node_record place version) nodes) (node_bytes w ++ line_feeds (lfs_after w)) (nodes_text nodes)
    (both_join one [] (node_bytes w) (line_feeds (lfs_after w)) (record_joins (node_record place version w))
    (lfs_join (lfs_after w)))
    (nodes_join place version nodes)

-- records as they are in the dump, and what replaces them

own_join : (lfs : List ℕ) (n : ℕ) (rs : List DumpRecord) → lfs ≡ line_feeds n
    → Joins rs (flat_map (λ r. record_text r ++ lfs) rs)
own_join lfs n [] is = lfs_join 0
own_join lfs n (r ∷ rs) is =
    let one = r ∷ [] in
    both_join one rs (record_text r ++ lfs) (flat_map (λ r. record_text r ++ lfs) rs)
    (subst (λ t. Joins one (record_text r ++ t)) (sym is)
    (both_join one [] (record_text r) (line_feeds n) (record_joins r) (lfs_join n)))
    (own_join lfs n rs is)

pub steads_join : (dump : List ℕ) (records : List DumpRecord) (steads : List Stead)
    → Joins (expanded_records records steads) (steads_bytes dump records steads)
steads_join dump [] steads = lfs_join 0
steads_join dump (r ∷ records) [] = lfs_join 0
steads_join dump (r ∷ records) (stead ∷ steads) =
    let lfs = lfs_behind dump r in
    let new = map (node_record r.place r.version) stead.nodes in
    let left = own_records r stead.own in
    both_join (new ++ left) (expanded_records records steads) (stead_bytes dump r stead) (steads_bytes dump records steads)
    (both_join new left (nodes_text stead.nodes) (flat_map (λ own. record_text own ++ lfs) left)
    (nodes_join r.place r.version stead.nodes)
    (own_join lfs (length lfs) left (lfs_are (drop (r.place + length (record_text r)) dump))))
    (steads_join dump records steads)

-- a whole dump that is expanded has the records that replace its own
pub are_texts : (dump : List ℕ) (records : List DumpRecord) (steads : List Stead)
    → (lfs : ℕ) × (front : List ℕ) × (expanded_bytes dump records Ending.Whole steads ≡ line_feeds lfs ++ front)
    × AreRecordTexts (expanded_records records steads) front
are_texts dump records steads =
    let lfs = first_lfs dump in
    let first = subst (Joins []) (sym (lfs_are dump)) (lfs_join (length lfs)) in
    let (n, front, is, texts) =
    both_join [] (expanded_records records steads) lfs (steads_bytes dump records steads) first
    (steads_join dump records steads) 0 [] [] refl in (
      n,
      front,
      sym (append_assoc lfs (steads_bytes dump records steads) []) ∙ is,
      subst (λ (rs : List DumpRecord). AreRecordTexts rs front) (append-nil (expanded_records records steads)) texts,
    )
