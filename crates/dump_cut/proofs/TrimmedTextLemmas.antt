-- What is written so far of a dump with deletes after its nodes.
use Rattle.std.proofs.Common.{◌≡◌, ◌==◌, ℕ, ◌+◌, ◌-◌, ◌≤◌, Bool, true, false, List, [], ◌∷◌, ◌++◌, if◌then◌else◌, length, length-append, map, take, drop, get_or, codes, Vec, Global, refl, sym, ap, ap₂, ◌∙◌, subst, arith, append-nil, append_assoc, IsTrue}
use Rattle.std.proofs.lemmas.Bool.{and_from, and_parts}
use Rattle.std.proofs.lemmas.List.{drop-drop, length-drop, take-append-drop, take_rest}
use Rattle.std.proofs.Math.Seq.{drop-append_seam, take-append_seam}
use Rattle.std.proofs.lemmas.List.Folds.{list_all-map}
use Rattle.std.specs.List.{AllZip, list_all}
use Rattle.dump_text.specs.HeaderBlock.{block_text}
use Rattle.dump_records.specs.DumpText.{BeginsWithRecords, Ending, HasRecords, IsCutInto, line_feeds}
use Rattle.dump_records.specs.RecordText.{DumpRecord, record_text}
use Rattle.dump_records.specs.declared.cutter.Cut.{Cut}
use Rattle.dump_records.specs.declared.cutter.Cut.TheVariants as cuts
use Rattle.dump_records.specs.declared.record.Record.{Record}
use Rattle.dump_records.specs.steps.CutRecords.{EndsAfter}
use Rattle.dump_records.specs.steps.CutterState.{CutterState}
use Rattle.dump_records.specs.steps.RecordPlaces.{place_after}
use Rattle.dump_records.specs.steps.RecordViews.{CutStep, record_item}
use Rattle.dump_records.proofs.CutLemmas.{lfs_length}
use Rattle.dump_records.proofs.CutterLemmas.{ReadSoFar, begins_more, begins_with_none, read_more, read_nearer}
use Rattle.dump_records.proofs.Prefixes.{is_front, whole_list}
use Rattle.dump_records.proofs.Unique.{records_once}
use Rattle.dump_digest.specs.RecordParts.{is_node}
use Rattle.dump_history.specs.ExpandedText.{AreRecordTexts}
use Rattle.dump_history.specs.TrimmedDumps.{records_behind, may_stand_behind, IsTrimmedText}
use Rattle.dump_history.specs.WrittenNodes.{WrittenNode, can_be_written, is_plain_path, node_lines, node_record}
use Rattle.dump_history.specs.steps.WrittenNodes.{node_bytes}
use Rattle.dump_cut.specs.TrimmedCopies.{delete_nodes, deletes_behind, IsTrimmedBy}
use Rattle.dump_cut.specs.steps.TrimmedCopies.{deletes_nothing}
use Rattle.dump_cut.specs.steps.TrimmedTexts.{delete_texts}
use Rattle.dump_cut.proofs.RangeLemmas.{empty_list}

-- the texts of deletes

-- the bytes of a node that deletes
deletion_bytes : (path : List ℕ) → node_bytes (WrittenNode.Deletion path)
    ≡ (codes "Node-path: " ++ path) ++ codes "\nNode-action: delete\n\n"
deletion_bytes path =
    let block = block_text (node_lines (WrittenNode.Deletion path)) in
    append-nil (block ++ [])
    ∙ append-nil block
    ∙ ap (λ t. codes "Node-path: " ++ t)
    (append_assoc (path ++ 10 ∷ []) (codes "Node-action: delete\n") (10 ∷ [])
    ∙ append_assoc path (10 ∷ []) (codes "Node-action: delete\n\n"))

-- one more deletion is written
pub one_deleted : (text more path : List ℕ) (paths : List (List ℕ))
    → more ≡ ((text ++ codes "\nNode-path: ") ++ path) ++ codes "\nNode-action: delete\n\n"
    → more ++ delete_texts paths ≡ text ++ delete_texts (path ∷ paths)
one_deleted text more path paths is =
    let one = 10 ∷ node_bytes (WrittenNode.Deletion path) in
    let whole : more ≡ text ++ one =
    is
    ∙ ap (λ t. t ++ codes "\nNode-action: delete\n\n") (append_assoc text (codes "\nNode-path: ") path)
    ∙ append_assoc text (codes "\nNode-path: " ++ path) (codes "\nNode-action: delete\n\n")
    ∙ ap (λ t. text ++ 10 ∷ t) (sym (deletion_bytes path)) in
    ap (λ t. t ++ delete_texts paths) whole ∙ append_assoc text one (delete_texts paths)

-- the paths as texts
abbrev pub path_texts : List (Vec (Vec ℕ Global) Global) → List (List (List ℕ))
path_texts deletes = map (λ paths. map (λ path. path.items) paths.items) deletes

-- the first paths and the others
pub first_texts : (left : List (Vec (Vec ℕ Global) Global)) (paths : Vec (Vec ℕ Global) Global) → 1 ≤ length left
    → paths ≡ get_or left 0 paths
    → path_texts left ≡ map (λ path. path.items) paths.items ∷ path_texts (take (length left - 1) (drop 1 left))
first_texts [] paths some is = absurd (omega arith)
first_texts (first ∷ left) paths some is = λ i.
    map (λ path. path.items) (sym is i).items ∷ path_texts (sym (take_rest (first ∷ left) 1) i)

-- plain paths are plain texts
pub plain_texts : (deletes : List (Vec (Vec ℕ Global) Global))
    → list_all (λ paths. list_all (λ path. is_plain_path path.items) paths.items) deletes ≡ true
    → list_all (λ texts. list_all is_plain_path texts) (path_texts deletes) ≡ true
plain_texts deletes plain =
    list_all-map (λ texts. list_all is_plain_path texts) (λ (paths : Vec (Vec ℕ Global) Global).
    map (λ path. path.items) paths.items) deletes
    ∙ (λ i. list_all (λ paths. list_all-map is_plain_path (λ (path : Vec ℕ Global). path.items) paths.items i) deletes)
    ∙ plain

-- texts that join

-- the texts of these records join those of others after them, whatever line feeds are between
abbrev pub Joins : List DumpRecord → List ℕ → Type 0
Joins records text = (lfs : ℕ) (behind : List ℕ) (rest : List DumpRecord) → AreRecordTexts rest behind
    → (more : ℕ) × (front : List ℕ) × (text ++ (line_feeds lfs ++ behind) ≡ line_feeds more ++ front)
    × AreRecordTexts (records ++ rest) front

both_join : (xs ys : List DumpRecord) (a b : List ℕ) → Joins xs a → Joins ys b → Joins (xs ++ ys) (a ++ b)
both_join xs ys a b first second lfs behind rest texts =
    let (n, t, is, more) = second lfs behind rest texts in
    let (m, front, at, all) = first n t (ys ++ rest) more in (
      m,
      front,
      append_assoc a b (line_feeds lfs ++ behind) ∙ ap (λ s. a ++ s) is ∙ at,
      subst (λ (rs : List DumpRecord). AreRecordTexts rs front) (sym (append_assoc xs ys rest)) all,
    )

one_joins : (n : ℕ) (r : DumpRecord) → Joins (r ∷ []) (line_feeds n ++ record_text r)
one_joins n r lfs behind rest texts = (
  n,
  record_text r ++ (line_feeds lfs ++ behind),
  append_assoc (line_feeds n) (record_text r) (line_feeds lfs ++ behind),
  (lfs, behind, refl, texts),
)

deletes_join : (place version : ℕ) (paths : List (List ℕ))
    → Joins (map (node_record place version) (delete_nodes paths)) (delete_texts paths)
deletes_join place version [] = λ lfs behind rest texts. (lfs, behind, refl, texts)
deletes_join place version (path ∷ paths) =
    let w = WrittenNode.Deletion path in
    both_join (node_record place version w ∷ []) (map (node_record place version) (delete_nodes paths))
    (10 ∷ node_bytes w) (delete_texts paths) (one_joins 1 (node_record place version w)) (deletes_join place version paths)

-- a text that is cut

-- the text up to the end of this record, and the text from there on
record CutBehind (place : ℕ) (text : List ℕ) (rs : List DumpRecord) (r : DumpRecord) (rest : List DumpRecord)
    (end : List ℕ) : Type 0 where
  front : List ℕ
  after : List ℕ
  is : text ≡ front ++ after
  size : place + length front ≡ r.place + length (record_text r)
  joins : Joins (rs ++ r ∷ []) front
  number : ℕ
  cut : IsCutInto number (r.place + length (record_text r)) after rest end

cut_behind : (number place : ℕ) (text : List ℕ) (rs : List DumpRecord) (r : DumpRecord) (rest : List DumpRecord)
    (end : List ℕ) → IsCutInto number place text (rs ++ r ∷ rest) end → CutBehind place text rs r rest end
cut_behind number place text [] r rest end (lfs, front, after, is, at, b, more) =
    let size = length-append (line_feeds lfs) (record_text r) in
    let gap = lfs_length lfs in
    record {
      front = line_feeds lfs ++ record_text r;
      after = after;
      is = is ∙ ap (λ t. line_feeds lfs ++ t) b.spelled ∙ sym (append_assoc (line_feeds lfs) (record_text r) after);
      size = omega arith;
      joins = one_joins lfs r;
      number = number + 1;
      cut = more;
    }
cut_behind number place text (s ∷ rs) r rest end (lfs, front, after, is, at, b, more) =
    let left = cut_behind (number + 1) (s.place + length (record_text s)) after rs r rest end more in
    let own = line_feeds lfs ++ record_text s in
    let size = length-append (line_feeds lfs) (record_text s) in
    let gap = lfs_length lfs in
    let sizes = length-append own left.front in
    let behind = left.size in
    record {
      front = own ++ left.front;
      after = left.after;
      is = is ∙ ap (λ t. line_feeds lfs ++ t) (b.spelled ∙ ap (λ t. record_text s ++ t) left.is)
          ∙ sym (append_assoc (line_feeds lfs) (record_text s) (left.front ++ left.after))
          ∙ sym (append_assoc own left.front left.after);
      size = omega arith;
      joins = both_join (s ∷ []) (rs ++ r ∷ []) own left.front (one_joins lfs s) left.joins;
      number = left.number;
      cut = left.cut;
    }

-- the records up to the end of the text
pub cut_texts : (number place : ℕ) (text : List ℕ) (records : List DumpRecord) → IsCutInto number place text records []
    → (lfs : ℕ) × (front : List ℕ) × (text ≡ line_feeds lfs ++ front) × AreRecordTexts records front
cut_texts number place text [] (lfs, is, stop) = (lfs, [], is, refl)
cut_texts number place text (r ∷ records) (lfs, front, after, is, at, b, more) =
    let (n, t, at_end, texts) = cut_texts (number + 1) (r.place + length (record_text r)) after records more in
    (lfs, front, is, (n, t, b.spelled ∙ ap (λ u. record_text r ++ u) at_end, texts))

-- the byte after a record
behind_is : (r : DumpRecord) → place_after r ≡ r.place + length (record_text r)
behind_is r =
    let all = length-append (block_text r.headers ++ r.props) r.text in
    let front = length-append (block_text r.headers) r.props in
    omega arith

-- deletes after records

-- the records with the deletes after them
abbrev pub with_deletes : List DumpRecord → List (List (List ℕ)) → List DumpRecord
with_deletes records deletes = records_behind records (deletes_behind records deletes)

-- if no deletes remain, the records stay as they are
none_left : (records : List DumpRecord) → with_deletes records [] ≡ records
none_left [] = refl
none_left (r ∷ records) = ap (λ (rs : List DumpRecord). r ∷ rs) (none_left records)

-- after a record that is no node there are no deletes
pub other_passes : (r : DumpRecord) (left : List (List (List ℕ))) → is_node r ≡ false → (rest : List DumpRecord)
    → with_deletes (r ∷ rest) left ≡ r ∷ with_deletes rest left
other_passes r [] other rest = refl
other_passes r (paths ∷ left) other rest = rw other refl

-- the next deletes are after a node
node_takes : (r : DumpRecord) (paths : List (List ℕ)) (left : List (List (List ℕ))) → is_node r ≡ true
    → (rest : List DumpRecord) → with_deletes (r ∷ rest) (paths ∷ left)
    ≡ r ∷ (map (node_record r.place r.version) (delete_nodes paths) ++ with_deletes rest left)
node_takes r paths left node rest = rw node refl

-- after a node whose next list is empty, there are no deletes
pub none_taken : (r : DumpRecord) (left later : List (List (List ℕ))) → is_node r ≡ true → left ≡ [] ∷ later
    → (rest : List DumpRecord) → with_deletes (r ∷ rest) left ≡ r ∷ with_deletes rest later
none_taken r left later node is rest = ap (with_deletes (r ∷ rest)) is ∙ node_takes r [] later node rest

-- deletes of plain paths can be written
plain_written : (paths : List (List ℕ)) → list_all is_plain_path paths ≡ true
    → list_all can_be_written (delete_nodes paths) ≡ true
plain_written [] plain = refl
plain_written (path ∷ paths) plain =
    let parts = and_parts (is_plain_path path) (list_all is_plain_path paths) plain in
    and_from (is_plain_path path) (list_all can_be_written (delete_nodes paths)) parts.0 (plain_written paths parts.1)

may_paths : (r : DumpRecord) (paths : List (List ℕ)) → is_node r ≡ true → list_all is_plain_path paths ≡ true
    → may_stand_behind r (delete_nodes paths) ≡ true
may_paths r [] node plain = refl
may_paths r (path ∷ paths) node plain =
    and_from (is_node r) (list_all can_be_written (delete_nodes (path ∷ paths))) node (plain_written (path ∷ paths) plain)

may_all : (records : List DumpRecord) (deletes : List (List (List ℕ)))
    → list_all (λ texts. list_all is_plain_path texts) deletes ≡ true
    → AllZip (λ r nodes. IsTrue (may_stand_behind r nodes)) records (deletes_behind records deletes)
may_all [] deletes plain = tt
may_all (r ∷ records) [] plain = (refl, may_all records [] plain)
may_all (r ∷ records) (paths ∷ deletes) plain =
    let parts = and_parts (list_all is_plain_path paths) (list_all (λ texts. list_all is_plain_path texts) deletes) plain in
    cases (is_node r) refl parts.0 (may_all records deletes parts.1) (may_all records (paths ∷ deletes) plain)
  where
    cases : (b : Bool) → is_node r ≡ b → list_all is_plain_path paths ≡ true
        → AllZip (λ r nodes. IsTrue (may_stand_behind r nodes)) records (deletes_behind records deletes)
        → AllZip (λ r nodes. IsTrue (may_stand_behind r nodes)) records (deletes_behind records (paths ∷ deletes))
        → AllZip (λ r nodes. IsTrue (may_stand_behind r nodes)) (r ∷ records)
        (if b then delete_nodes paths ∷ deletes_behind records deletes
        else [] ∷ deletes_behind records (paths ∷ deletes))
    cases true node one here later = (may_paths r paths node one, here)
    cases false other one here later = (refl, later)

-- what is written so far

-- The records up to the byte `from` are done: they are written, and these are their texts. No deletes follow the
-- records that are pending after them.
pub record TrimmedSoFar (deletes : List (List (List ℕ))) (dump : List ℕ) (cutter : CutterState) (piece : List ℕ)
    (left : List (List (List ℕ))) (from : ℕ) : Type 0 where
  pub dump_is : cutter.dump ≡ dump
  pub done : List DumpRecord
  pub pending : List DumpRecord
  pub begins : BeginsWithRecords dump (done ++ pending)
  pub count : length (done ++ pending) ≡ cutter.number
  pub inside : from ≤ length dump
  pub cut : (rest : List DumpRecord) (end : List ℕ) → IsCutInto 0 0 dump (done ++ rest) end
      → (number : ℕ) × IsCutInto number from (drop from dump) rest end
  pub written : List DumpRecord
  pub joins : Joins written piece
  pub behind : (rest : List DumpRecord) → with_deletes (done ++ (pending ++ rest)) deletes
      ≡ written ++ (pending ++ with_deletes rest left)

pub none_trimmed : (deletes : List (List (List ℕ))) (dump : List ℕ) (cutter : CutterState) (piece : List ℕ)
    → cutter ≡ record { dump = dump; number = 0 } → piece ≡ [] → TrimmedSoFar deletes dump cutter piece deletes 0
none_trimmed deletes dump cutter piece is none = record {
  dump_is = ap (λ (c : CutterState). c.dump) is;
  done = [];
  pending = [];
  begins = begins_with_none dump;
  count = sym (ap (λ (c : CutterState). c.number) is);
  inside = omega arith;
  cut = λ rest end cut. (0, cut);
  written = [];
  joins = λ lfs behind rest texts. (lfs, behind, ap (λ t. t ++ (line_feeds lfs ++ behind)) none, texts);
  behind = λ rest. refl;
}

module _ (deletes : List (List (List ℕ))) (dump : List ℕ) (cutter after : CutterState) (piece : List ℕ)
    (left : List (List (List ℕ))) (from : ℕ) (so_far : TrimmedSoFar deletes dump cutter piece left from) where
  module _ (item : Record) (step : CutStep cutter (cuts.Item item) after) where
    abbrev pub given : DumpRecord
    given = record_item item

    -- the records so far, done or not
    abbrev read : ReadSoFar dump cutter
    read = record {
      dump_is = so_far.dump_is;
      before = so_far.done ++ so_far.pending;
      begins = so_far.begins;
      count = so_far.count;
    }

    begins_next : BeginsWithRecords dump ((so_far.done ++ so_far.pending) ++ given ∷ [])
    begins_next = begins_more dump cutter after read item step

    count_next : length ((so_far.done ++ so_far.pending) ++ given ∷ []) ≡ after.number
    count_next =
        let next = read_more dump cutter after read item step in
        next.count

    with_next : (so_far.done ++ so_far.pending) ++ given ∷ [] ≡ so_far.done ++ (so_far.pending ++ given ∷ [])
    with_next = append_assoc so_far.done so_far.pending (given ∷ [])

    -- the cutter is nearer to the end
    pub trim_nearer : (after.number ≡ cutter.number + 1) × (after.number ≤ length dump)
    trim_nearer = read_nearer dump cutter after read item step

    -- a record with no deletes after it
    pub trim_on : (later : List (List (List ℕ)))
        → ((rest : List DumpRecord) → with_deletes (given ∷ rest) left ≡ given ∷ with_deletes rest later)
        → TrimmedSoFar deletes dump after piece later from
    trim_on later passes = record {
      dump_is = ap (λ (c : CutterState). c.dump) step.3 ∙ so_far.dump_is;
      done = so_far.done;
      pending = so_far.pending ++ given ∷ [];
      begins = subst (BeginsWithRecords dump) with_next begins_next;
      count = ap length (sym with_next) ∙ count_next;
      inside = so_far.inside;
      cut = so_far.cut;
      written = so_far.written;
      joins = so_far.joins;
      behind = λ rest.
          ap (λ (rs : List DumpRecord). with_deletes (so_far.done ++ rs) deletes)
          (append_assoc so_far.pending (given ∷ []) rest)
          ∙ so_far.behind (given ∷ rest)
          ∙ ap (λ (rs : List DumpRecord). so_far.written ++ (so_far.pending ++ rs)) (passes rest)
          ∙ ap (λ (rs : List DumpRecord). so_far.written ++ rs)
          (sym (append_assoc so_far.pending (given ∷ []) (with_deletes rest later)));
    }

    -- the dump after the done records is split after the record
    cut_here : (rest : List DumpRecord) (end : List ℕ)
        → IsCutInto 0 0 dump (so_far.done ++ (so_far.pending ++ given ∷ rest)) end
        → CutBehind from (drop from dump) so_far.pending given rest end
    cut_here rest end cut =
        let (number, more) = so_far.cut (so_far.pending ++ given ∷ rest) end cut in
        cut_behind number from (drop from dump) so_far.pending given rest end more

    here : CutBehind from (drop from dump) so_far.pending given [] begins_next.0
    here =
        cut_here [] begins_next.0
        (subst (λ (rs : List DumpRecord). IsCutInto 0 0 dump rs begins_next.0) with_next begins_next.1)

    module _ (place : ℕ) (place_is : place ≡ place_after given) where
      place_at : from + length here.front ≡ place
      place_at = here.size ∙ sym (place_is ∙ behind_is given)

      pub low : from ≤ place
      low = let at = place_at in omega arith

      pub high : place ≤ length dump
      high =
          let at = place_at in
          let sizes = ap length here.is ∙ length-append here.front here.after in
          let behind = length-drop from dump in
          let inside = so_far.inside in
          omega arith

      -- the part of the dump up to there
      lent : take (place - from) (drop from dump) ≡ here.front
      lent =
          let at = place_at in
          let size : place - from ≡ length here.front = omega arith in
          ap (λ n. take n (drop from dump)) size
          ∙ ap (take (length here.front)) here.is
          ∙ take-append_seam here.front here.after

      -- a node with deletes after it
      pub trim_more : (paths : List (List ℕ)) (later : List (List (List ℕ))) (more : List ℕ) → is_node given ≡ true
          → left ≡ paths ∷ later → more ≡ (piece ++ take (place - from) (drop from dump)) ++ delete_texts paths
          → TrimmedSoFar deletes dump after more later place
      trim_more paths later more node left_is more_is = record {
        dump_is = ap (λ (c : CutterState). c.dump) step.3 ∙ so_far.dump_is;
        done = now_done;
        pending = [];
        begins = subst (BeginsWithRecords dump) (with_next ∙ sym (append-nil now_done)) begins_next;
        count = ap length (append-nil now_done ∙ sym with_next) ∙ count_next;
        inside = high;
        cut = cut_on;
        written = (so_far.written ++ (so_far.pending ++ given ∷ [])) ++ nodes;
        joins =
            subst (Joins ((so_far.written ++ (so_far.pending ++ given ∷ [])) ++ nodes))
            (sym (more_is ∙ ap (λ t. (piece ++ t) ++ delete_texts paths) lent))
            (both_join (so_far.written ++ (so_far.pending ++ given ∷ [])) nodes (piece ++ here.front) (delete_texts paths)
            (both_join so_far.written (so_far.pending ++ given ∷ []) piece here.front so_far.joins here.joins)
            (deletes_join given.place given.version paths));
        behind = λ rest.
            ap (λ (rs : List DumpRecord). with_deletes rs deletes) (now_before rest)
            ∙ so_far.behind (given ∷ rest)
            ∙ ap (λ (rs : List DumpRecord). so_far.written ++ (so_far.pending ++ rs))
            (ap (with_deletes (given ∷ rest)) left_is ∙ node_takes given paths later node rest)
            ∙ ap (λ (rs : List DumpRecord). so_far.written ++ rs)
            (sym (append_assoc so_far.pending (given ∷ []) (nodes ++ with_deletes rest later)))
            ∙ sym (append_assoc so_far.written (so_far.pending ++ given ∷ []) (nodes ++ with_deletes rest later))
            ∙ sym (append_assoc (so_far.written ++ (so_far.pending ++ given ∷ [])) nodes (with_deletes rest later));
      }
        where
          now_done : List DumpRecord
          now_done = so_far.done ++ (so_far.pending ++ given ∷ [])

          nodes : List DumpRecord
          nodes = map (node_record given.place given.version) (delete_nodes paths)

          now_before : (rest : List DumpRecord) → now_done ++ rest ≡ so_far.done ++ (so_far.pending ++ given ∷ rest)
          now_before rest =
              append_assoc so_far.done (so_far.pending ++ given ∷ []) rest
              ∙ ap (λ (rs : List DumpRecord). so_far.done ++ rs) (append_assoc so_far.pending (given ∷ []) rest)

          cut_on : (rest : List DumpRecord) (end : List ℕ) → IsCutInto 0 0 dump (now_done ++ rest) end
              → (number : ℕ) × IsCutInto number place (drop place dump) rest end
          cut_on rest end cut =
              let b = cut_here rest end
              (subst (λ (rs : List DumpRecord). IsCutInto 0 0 dump rs end) (now_before rest) cut) in
              let at : from + length b.front ≡ place = b.size ∙ sym (place_is ∙ behind_is given) in
              let behind : drop place dump ≡ b.after =
              ap (λ n. drop n dump) (sym at) ∙ sym (drop-drop (length b.front) from dump)
              ∙ ap (drop (length b.front)) b.is ∙ drop-append_seam b.front b.after in (
                b.number,
                subst (λ (t : List ℕ). IsCutInto b.number place t rest end) (sym behind)
                    (subst (λ (p : ℕ). IsCutInto b.number p b.after rest end) (sym (place_is ∙ behind_is given)) b.cut),
              )

  -- the end

  module _ (records : List DumpRecord) (has : HasRecords dump records Ending.Whole) where
    -- the records that the cutter has returned are the first ones
    all_before : (rest : List DumpRecord) × (records ≡ so_far.done ++ (so_far.pending ++ rest))
    all_before =
        let before = so_far.done ++ so_far.pending in (
          drop (length before) records,
          sym (take-append-drop (length before) records)
              ∙ ap (λ (rs : List DumpRecord). rs ++ drop (length before) records)
              (sym (is_front dump records Ending.Whole has before so_far.begins))
              ∙ append_assoc so_far.done so_far.pending (drop (length before) records),
        )

    -- if no deletes follow the rest, everything is written with the rest of the dump
    with_rest : (rest : List DumpRecord) → records ≡ so_far.done ++ (so_far.pending ++ rest)
        → with_deletes rest left ≡ rest → list_all (λ texts. list_all is_plain_path texts) deletes ≡ true
        → IsTrimmedText records (deletes_behind records deletes) (piece ++ drop from dump)
    with_rest rest is none plain =
        let cut = subst (λ (rs : List DumpRecord). IsCutInto 0 0 dump rs []) is
        (subst (λ (t : List ℕ). IsCutInto 0 0 dump records t) has.3.0 has.1) in
        let (number, more) = so_far.cut (so_far.pending ++ rest) [] cut in
        let (lfs, behind, at, texts) = cut_texts number from (drop from dump) (so_far.pending ++ rest) more in
        let (n, front, joined, all) = so_far.joins lfs behind (so_far.pending ++ rest) texts in
        let whole : with_deletes records deletes ≡ so_far.written ++ (so_far.pending ++ rest) =
        ap (λ (rs : List DumpRecord). with_deletes rs deletes) is ∙ so_far.behind rest
        ∙ ap (λ (rs : List DumpRecord). so_far.written ++ (so_far.pending ++ rs)) none in
        record {
          may = may_all records deletes plain;
          lfs = n;
          front = front;
          spelled = ap (λ t. piece ++ t) at ∙ joined;
          texts = subst (λ (rs : List DumpRecord). AreRecordTexts rs front) (sym whole) all;
        }

    -- no deletes are left
    pub trimmed_early : left ≡ [] → list_all (λ texts. list_all is_plain_path texts) deletes ≡ true
        → IsTrimmedText records (deletes_behind records deletes) (piece ++ drop from dump)
    trimmed_early none plain =
        let (rest, is) = all_before in
        with_rest rest is (ap (with_deletes rest) none ∙ none_left rest) plain

    -- the cutter returns no record
    ends_as : (ending : Ending) → EndsAfter cutter.dump cutter.number ending
        → HasRecords dump (so_far.done ++ so_far.pending) ending
    ends_as ending ends =
        whole_list dump (so_far.done ++ so_far.pending) ending so_far.begins
        (subst (λ d. EndsAfter d (length (so_far.done ++ so_far.pending)) ending) so_far.dump_is
        (subst (λ n. EndsAfter cutter.dump n ending) (sym so_far.count) ends))

    pub trimmed_late : (found : Cut) → CutStep cutter found after → ((item : Record) → found ≡ cuts.Item item → ⊥)
        → list_all (λ texts. list_all is_plain_path texts) deletes ≡ true
        → IsTrimmedText records (deletes_behind records deletes) (piece ++ drop from dump)
    trimmed_late (cuts.Item item) step other plain = absurd (other item refl)
    trimmed_late (cuts.Fault kind place) step other plain =
        let same = (records_once dump records (so_far.done ++ so_far.pending) Ending.Whole (Ending.Broken kind place) has
        (ends_as (Ending.Broken kind place) step.0)).1 in
        absurd cc
    trimmed_late cuts.Finished step other plain =
        let same = (records_once dump records (so_far.done ++ so_far.pending) Ending.Whole Ending.Whole has
        (ends_as Ending.Whole step.0)).0 in
        with_rest []
        (same ∙ sym (ap (λ (rs : List DumpRecord). so_far.done ++ rs) (append-nil so_far.pending))) refl plain

-- a text without deletes

abbrev nones : List DumpRecord → List (List WrittenNode)
nones records = map (λ (r : DumpRecord). []) records

none_behind : (records : List DumpRecord) (deletes : List (List (List ℕ))) → deletes_nothing deletes ≡ true
    → deletes_behind records deletes ≡ nones records
none_behind [] deletes none = refl
none_behind (r ∷ records) [] none = ap (λ rest. [] ∷ rest) (none_behind records [] none)
none_behind (r ∷ records) (paths ∷ deletes) none =
    let parts = and_parts (length paths == 0) (deletes_nothing deletes) none in
    cases (is_node r) (empty_list paths parts.0) (none_behind records deletes parts.1)
    (none_behind records (paths ∷ deletes) none)
  where
    cases : (b : Bool) → paths ≡ [] → deletes_behind records deletes ≡ nones records
        → deletes_behind records (paths ∷ deletes) ≡ nones records
        → (if b then delete_nodes paths ∷ deletes_behind records deletes else [] ∷ deletes_behind records (paths ∷ deletes))
        ≡ [] ∷ nones records
    cases true empty later same = ap₂ (λ ps rest. delete_nodes ps ∷ rest) empty later
    cases false empty later same = ap (λ rest. [] ∷ rest) same

same_behind : (records : List DumpRecord) → records_behind records (nones records) ≡ records
same_behind [] = refl
same_behind (r ∷ records) = ap (λ rest. r ∷ rest) (same_behind records)

may_none : (records : List DumpRecord) → AllZip (λ r nodes. IsTrue (may_stand_behind r nodes)) records (nones records)
may_none [] = tt
may_none (r ∷ records) = (refl, may_none records)

pub untrimmed : (deletes : List (List (List ℕ))) (dump : List ℕ) → deletes_nothing deletes ≡ true
    → IsTrimmedBy deletes dump dump
untrimmed deletes dump none records has =
    let (rest, cut, versions, ends) = has in
    let (lfs, front, spelled, texts) = cut_texts 0 0 dump records
    (subst (λ t. IsCutInto 0 0 dump records t) ends.0 cut) in
    subst (λ behind. IsTrimmedText records behind dump) (sym (none_behind records deletes none))
    (record {
      may = may_none records;
      lfs = lfs;
      front = front;
      spelled = spelled;
      texts = subst (λ (rs : List DumpRecord). AreRecordTexts rs front) (sym (same_behind records)) texts;
    })
