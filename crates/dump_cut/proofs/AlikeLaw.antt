-- What filters write of a dump whose records they treat in the same way.
use Rattle.std.proofs.Common.{◌≡◌, ◌⊎◌, ℕ, ◌<◌, ◌==◌, Bool, true, false, not, ◌&&◌, ◌||◌, cond, List, [], ◌∷◌, ◌++◌, map, filter, codes, if◌then◌else◌, All, Contains, Some, None, MatchBool, IsTrue, refl, sym, ap, ◌∙◌, subst}
use Rattle.std.proofs.lemmas.List.Elements.{All-cons, All-contains, All-contains_itself, All-head, All-nil, All-tail, All-take, All-weaker, Contains-push}
use Rattle.std.specs.List.{AllZip, list_any, prefix_len}
use Rattle.dump_text.proofs.BoolLemmas.{first_true, second_true}
use Rattle.dump_text.specs.declared.fault.FaultKind.{FaultKind}
use Rattle.dump_text.specs.declared.fault.FaultKind.TheVariants as faults
use Rattle.dump_text.specs.HeaderBlock.{block_text}
use Rattle.dump_text.specs.HeaderLine.{Header, with_header_value}
use Rattle.dump_text.specs.Names.{copy_revision_name, revision_name}
use Rattle.dump_text.specs.Number.{spelled_number}
use Rattle.dump_text.specs.PropertyList.{Property}
use Rattle.dump_records.specs.HeaderRules.{header_number}
use Rattle.dump_records.specs.RecordText.{DumpRecord}
use Rattle.dump_rules.specs.Mergeinfo.{IsMergeinfo, MergeLine}
use Rattle.dump_rules.specs.Renumbering.{KeptRevisions, image, new_number}
use Rattle.dump_rules.specs.Rewriting.{IsNewLine, IsNewMergeinfo, staying_lines}
use Rattle.dump_rules.specs.Settings.{Settings, keeps_path}
use Rattle.dump_rules.proofs.reading.RangeListLemmas.{zip_map}
use Rattle.dump_digest.specs.ContentFaults.{IsMergeinfoValueOf}
use Rattle.dump_digest.specs.RecordParts.{HasPropertyList, has_lost_source, is_copy, is_kept_node, is_mergeinfo, is_node, is_revision_record, value_of}
use Rattle.dump_filter.specs.Groups.{Group, first_number, group_number, group_of, groups, has_kept_node, is_bare, is_pad, is_padded, keeps_empty, keeps_group, kept_revisions, revision_number, revision_numbers}
use Rattle.dump_filter.specs.NewContent.{AreNewProperties, IsNewProperty, new_block, revision_properties}
use Rattle.dump_filter.specs.NewHeaders.{IsNewCopy, IsWrittenCopyNumber, becomes_plain, is_whole_file, stays_copy, without_copy_headers}
use Rattle.dump_filter.specs.RecordFaults.{HoldsOfRecord, present_number}
use Rattle.dump_filter.specs.RecordOutput.{IsNodeOutput, IsOutput, IsRevisionOutput, revision_text, whole_text}
use Rattle.dump_filter.specs.Written.{AreOutputs, is_written}
use Rattle.dump_cut.specs.steps.FilteredAlike.{AreFilteredAlike, FiltersWriteAlike}

-- tests that agree at each element of a list find and keep the same of it

any_same : {X : Type 0} (p q : X → Bool) (xs : List X) → All (λ x. p x ≡ q x) xs → list_any p xs ≡ list_any q xs
any_same p q [] all = refl
any_same p q (x ∷ xs) all =
    let this = All-head (λ x. p x ≡ q x) x xs all in
    let more = any_same p q xs (All-tail (λ x. p x ≡ q x) x xs all) in λ i. this i || more i

filter_same : {X : Type 0} (p q : X → Bool) (xs : List X) → All (λ x. p x ≡ q x) xs → filter p xs ≡ filter q xs
filter_same p q [] all = refl
filter_same p q (x ∷ xs) all =
    let this = All-head (λ x. p x ≡ q x) x xs all in
    let more = filter_same p q xs (All-tail (λ x. p x ≡ q x) x xs all) in λ i. cond (this i) (x ∷ more i) (more i)

-- a relation of two lists that each element of the first list carries over
zip_each : {A B : Type 0} (P Q : A → B → Type 0) (xs : List A) (ys : List B) → All (λ x. (y : B) → P x y → Q x y) xs
    → AllZip P xs ys → AllZip Q xs ys
zip_each P Q [] [] each all = all
zip_each {A} {B} P Q (x ∷ xs) (y ∷ ys) each all =
    let Each : A → Type 0 = λ x. (y : B) → P x y → Q x y in
    (All-head Each x xs each y all.0, zip_each P Q xs ys (All-tail Each x xs each) all.1)
zip_each P Q [] (y ∷ ys) each all = absurd all
zip_each P Q (x ∷ xs) [] each all = absurd all

-- what is true of a list is true of its elements before one of them
up_to : {X : Type 0} (P : X → Type 0) (before after : List X) (x : X) → All P (before ++ x ∷ after)
    → All P (before ++ x ∷ [])
up_to P [] after x all = All-cons P x [] (All-head P x after all) (All-nil P)
up_to P (b ∷ before) after x all = All-cons P b (before ++ x ∷ []) (All-head P b (before ++ x ∷ after) all)
    (up_to P before after x (All-tail P b (before ++ x ∷ after) all))

module _ (settings others : Settings) (records : List DumpRecord) (alike : AreFilteredAlike settings others records) where
  -- all of these are records of the dump
  abbrev Among : List DumpRecord → Type 0
  Among rs = All (Contains records) rs

  -- both filters keep the same of a group's nodes

  same_kept_node : (g : Group) → Among g.nodes → has_kept_node settings g ≡ has_kept_node others g
  same_kept_node g among = any_same (is_kept_node settings) (is_kept_node others) g.nodes
      (All-weaker (Contains records) (λ r. is_kept_node settings r ≡ is_kept_node others r) alike.nodes g.nodes among)

  same_keeps : (g : Group) → Among g.nodes → keeps_group settings g ≡ keeps_group others g
  same_keeps g among =
      let some = same_kept_node g among in
      λ i. group_number g == 0 || some i || keeps_empty (alike.empty i) (is_bare g)

  same_padded : (g : Group) → Among g.nodes → is_padded settings g ≡ is_padded others g
  same_padded g among =
      let some = same_kept_node g among in
      λ i. (not (is_bare g) && not (some i)) && is_pad (alike.empty i) && not (alike.preserve i)

  nodes_among : (r : DumpRecord) (after : List DumpRecord) → Among after → Among (group_of r after).nodes
  nodes_among r after among = All-take (Contains records) (prefix_len is_node after) after among

  groups_among : (rs : List DumpRecord) → Among rs → All (λ (g : Group). Among g.nodes) (groups rs)
  groups_among [] among = All-nil (λ (g : Group). Among g.nodes)
  groups_among (r ∷ rs) among =
      let behind = All-tail (Contains records) r rs among in
      cases (is_revision_record r) (nodes_among r rs behind) (groups_among rs behind)
    where
      cases : (b : Bool) → Among (group_of r rs).nodes → All (λ (g : Group). Among g.nodes) (groups rs)
          → All (λ (g : Group). Among g.nodes) (if b then group_of r rs ∷ groups rs else groups rs)
      cases true own more = All-cons (λ (g : Group). Among g.nodes) (group_of r rs) (groups rs) own more
      cases false own more = more

  -- so both keep the same revisions
  same_revisions : (rs : List DumpRecord) → Among rs → kept_revisions settings rs ≡ kept_revisions others rs
  same_revisions rs among =
      ap (λ (gs : List Group). record { first = first_number (revision_numbers rs); numbers = map group_number gs })
      (filter_same (keeps_group settings) (keeps_group others) (groups rs)
      (All-weaker (λ (g : Group). Among g.nodes) (λ g. keeps_group settings g ≡ keeps_group others g) same_keeps (groups rs)
      (groups_among rs among)))

  -- both filters keep the same of these lines
  abbrev AreKeptAlike : List MergeLine → Type 0
  AreKeptAlike lines = (line : MergeLine) → Contains lines line → keeps_path settings line.path ≡ keeps_path others line.path

  -- so the same lines stay
  same_lines : (lines : List MergeLine) → AreKeptAlike lines → staying_lines settings lines ≡ staying_lines others lines
  same_lines lines each =
      filter_same (λ (l : MergeLine). keeps_path settings l.path) (λ (l : MergeLine). keeps_path others l.path) lines
      (All-weaker (Contains lines) (λ (l : MergeLine). keeps_path settings l.path ≡ keeps_path others l.path) each lines
      (All-contains_itself lines))

  -- what is written of a record

  renumbered : (A B : Type 0) → MatchBool settings.renumber A B → MatchBool others.renumber A B
  renumbered A B is = subst (λ b. MatchBool b A B) alike.renumber is

  module _ (kept : KeptRevisions) where
    same_line : (old new : MergeLine) → IsNewLine settings kept old new → IsNewLine others kept old new
    same_line old new is = record { path = is.path; runs = is.runs; numbers = renumbered _ _ is.numbers }

    same_property : (r : DumpRecord) (ps : List Property) (old : Property) → Contains records r
        → IsTrue (is_kept_node settings r) → HasPropertyList r ps → Contains ps old → (new : Property)
        → IsNewProperty settings kept old new → IsNewProperty others kept old new
    same_property r ps old there keep has within new (name, is) = (name, cases (is_mergeinfo old) refl is)
      where
        Merged : Settings → Type 0
        Merged s = (value : List ℕ) × (new.value ≡ Some value) × IsNewMergeinfo s kept (value_of old) value

        cases : (b : Bool) → is_mergeinfo old ≡ b → MatchBool b (Merged settings) (new.value ≡ old.value)
            → MatchBool b (Merged others) (new.value ≡ old.value)
        cases true merge (value, at, (lines, new_lines, reads, all, spelled)) =
            let moved = zip_map (IsNewLine settings kept) (IsNewLine others kept) same_line
            (staying_lines settings lines) new_lines all in
            let stay = same_lines lines (λ line. alike.lines r ps old lines line there keep has within merge reads) in
            let here = subst (λ (ls : List MergeLine). AllZip (IsNewLine others kept) ls new_lines) stay moved in
            (value, at, (lines, new_lines, reads, here, spelled))
        cases false other same = same

    same_properties : (r : DumpRecord) (old new : List Property) → Contains records r → IsTrue (is_kept_node settings r)
        → HasPropertyList r old → AreNewProperties settings kept old new → AreNewProperties others kept old new
    same_properties r old new there keep has all =
        zip_each (IsNewProperty settings kept) (IsNewProperty others kept) old new
        (All-weaker (Contains old)
        (λ (p : Property). (q : Property) → IsNewProperty settings kept p q → IsNewProperty others kept p q)
        (λ p within. same_property r old p there keep has within) old (All-contains_itself old)) all

    same_copy : (r : DumpRecord) (headers : List Header) → Contains records r → IsTrue (is_kept_node settings r)
        → IsNewCopy settings kept r headers → IsNewCopy others kept r headers
    same_copy r headers there keep is =
        subst (λ b. MatchBool (b && is_whole_file r) Plain (Else others)) (alike.sources r there keep)
        (cases (becomes_plain settings r) (is_copy r) is)
      where
        Plain : Type 0
        Plain = headers ≡ without_copy_headers r.headers

        Copied : Settings → Type 0
        Copied s = (old new : ℕ) × (header_number copy_revision_name r.headers ≡ Some old)
            × IsWrittenCopyNumber s kept old new
            × (headers ≡ with_header_value copy_revision_name (spelled_number new) r.headers)

        Else : Settings → Type 0
        Else s = MatchBool (is_copy r) (Copied s) (headers ≡ r.headers)

        cases : (p c : Bool) → MatchBool p Plain (MatchBool c (Copied settings) (headers ≡ r.headers))
            → MatchBool p Plain (MatchBool c (Copied others) (headers ≡ r.headers))
        cases true c plain = plain
        cases false true (old, new, at, number, spelled) = (old, new, at, renumbered _ _ number, spelled)
        cases false false same = same

    same_output : (r : DumpRecord) (after : List DumpRecord) (text : List ℕ) → Contains records r → Among after
        → is_written settings true r after ≡ true → IsOutput settings kept r after text → IsOutput others kept r after text
    same_output r after text there among written is = cases (is_revision_record r) (is_node r) written is
      where
        g : Group
        g = group_of r after

        padded : is_padded settings g ≡ is_padded others g
        padded = same_padded g (nodes_among r after among)

        same_text : (ps : List Property)
            → revision_text settings kept (is_padded settings g) r ps ≡ revision_text others kept (is_padded others g) r ps
        same_text ps i =
            let n = revision_number r in
            let number = spelled_number (if alike.renumber i then new_number kept n else n) in
            let props = new_block (padded i) r (revision_properties (padded i) ps) in
            whole_text (with_header_value revision_name number r.headers) props r.text ++ codes "\n"

        cases : (v n : Bool)
            → (if v then keeps_group settings g && true else if n then is_kept_node settings r else true) ≡ true
            → MatchBool v (IsRevisionOutput settings kept g text)
            (MatchBool n (IsNodeOutput settings kept r text) (text ≡ block_text r.headers))
            → MatchBool v (IsRevisionOutput others kept g text)
            (MatchBool n (IsNodeOutput others kept r text) (text ≡ block_text r.headers))
        cases true n written (ps, has, spelled) = (ps, has, spelled ∙ same_text ps)
        cases false true keep (headers, old, new, copy, has, props, spelled) =
            (headers, old, new, same_copy r headers there keep copy, has, same_properties r old new there keep has props, spelled)
        cases false false written same = same

    same_written : (r : DumpRecord) (after : List DumpRecord) → Contains records r → Among after
        → is_written settings true r after ≡ is_written others true r after
    same_written r after there among =
        let keeps = same_keeps (group_of r after) (nodes_among r after among) in
        let node = alike.nodes r there in
        λ i. if is_revision_record r then keeps i && true else if is_node r then node i else true

    same_outputs : (rs : List DumpRecord) (text : List ℕ) → Among rs → AreOutputs settings true kept rs text
        → AreOutputs others true kept rs text
    same_outputs [] text among none = none
    same_outputs (r ∷ after) text among (front, rest, is, this, more) =
        let there = All-head (Contains records) r after among in
        let behind = All-tail (Contains records) r after among in (
          front,
          rest,
          is,
          subst (λ b. MatchBool b (IsOutput others kept r after front) (front ≡ [])) (same_written r after there behind)
              (cases there behind (is_written settings true r after) refl this),
          same_outputs after rest behind more,
        )
      where
        cases : Contains records r → Among after → (b : Bool) → is_written settings true r after ≡ b
            → MatchBool b (IsOutput settings kept r after front) (front ≡ [])
            → MatchBool b (IsOutput others kept r after front) (front ≡ [])
        cases there behind true written out = same_output r after front there behind written out
        cases there behind false left none = none

  -- a fault of one filter is a fault of the other

  own_value : (r : DumpRecord) (value : List ℕ) → Contains records r → IsMergeinfoValueOf others r value
      → IsMergeinfoValueOf settings r value
  own_value r value there (keep, ps, has, p, within, merge, same) =
      (alike.nodes r there ∙ keep, ps, has, p, within, merge, same)

  own_lines : (r : DumpRecord) (value : List ℕ) (lines : List MergeLine) → Contains records r
      → IsMergeinfoValueOf others r value → IsMergeinfo value lines → AreKeptAlike lines
  own_lines r value lines there (keep, ps, has, p, within, merge, same) reads line =
      alike.lines r ps p lines line there (alike.nodes r there ∙ keep) has within merge
      (subst (λ v. IsMergeinfo v lines) (sym same) reads)

  same_stays : (r : DumpRecord) → Contains records r → IsTrue (is_kept_node settings r)
      → stays_copy settings r ≡ stays_copy others r
  same_stays r there keep = let source = alike.sources r there keep in λ i. is_copy r && not (source i && is_whole_file r)

  same_fault : (before : List DumpRecord) (r : DumpRecord) → Among (before ++ r ∷ []) → Contains records r
      → (kind : FaultKind) → HoldsOfRecord others before r kind → HoldsOfRecord settings before r kind
  same_fault before r among there faults.HeaderCut h = h
  same_fault before r among there faults.Header h = h
  same_fault before r among there faults.Kind h = h
  same_fault before r among there faults.Version h = h
  same_fault before r among there faults.Number h = h
  same_fault before r among there faults.Lengths h = h
  same_fault before r among there faults.ContentCut h = h
  same_fault before r among there faults.Order h = h
  same_fault before r among there faults.Props (asked, bad) =
      (ap (λ b. is_revision_record r || b) (alike.nodes r there) ∙ asked, bad)
  same_fault before r among there faults.Md5 (keep, whole, differs) = (alike.nodes r there ∙ keep, whole, differs)
  same_fault before r among there faults.Sha1 (keep, whole, differs) = (alike.nodes r there ∙ keep, whole, differs)
  same_fault before r among there faults.CopySource h =
      let node = alike.nodes r there in
      let lost = first_true (is_kept_node others r && has_lost_source others r) (not (is_whole_file r)) h in
      let keep = node ∙ first_true (is_kept_node others r) (has_lost_source others r) lost in
      let source = alike.sources r there keep in (λ i. node i && source i && not (is_whole_file r)) ∙ h
  same_fault before r among there faults.CopyRevision (asked, number, at, bad) =
      let node = alike.nodes r there in
      let own = first_true (others.renumber && is_kept_node others r) (stays_copy others r) asked in
      let keep = node ∙ second_true others.renumber (is_kept_node others r) own in
      let stays = same_stays r there keep in
      let kept = same_revisions (before ++ r ∷ []) among in
      let still = subst (λ (k : KeptRevisions). (image k number ≡ None) ⊎ (present_number before < number)) (sym kept) bad in
      ((λ i. alike.renumber i && node i && stays i) ∙ asked, number, at, still)
  same_fault before r among there faults.MergeInfo (value, own, bad) = (value, own_value r value there own, bad)
  same_fault before r among there faults.MergeSource (value, own, (skip, lines, reads, line, within, lost)) =
      let alone = own_lines r value lines there own reads line within in
      (value, own_value r value there own, (alike.skip_missing ∙ skip, lines, reads, line, within, alone ∙ lost))
  same_fault before r among there faults.MergeRange
      (value, own, (renumber, lines, reads, line, within, kind, number, has, bad)) =
      let stay = same_lines lines (own_lines r value lines there own reads) in
      let first = first_number (revision_numbers (before ++ r ∷ [])) in (
        value,
        own_value r value there own,
        (
          alike.renumber ∙ renumber,
          lines,
          reads,
          line,
          subst (λ (ls : List MergeLine). Contains ls line) (sym stay) within,
          kind,
          number,
          has,
          subst (λ (b : Bool). (present_number before < number) ⊎ ((b ≡ false) × (number < first)))
              (sym alike.skip_missing) bad,
        ),
      )

-- filters that treat a dump's records in the same way write the same of the dump
pub filters_alike : FiltersWriteAlike
filters_alike settings others dump text records alike clean = record {
  whole = clean.whole;
  fault_free = λ before after r is kind holds.
      let all = subst (All (Contains records)) is (All-contains_itself records) in
      let among = up_to (Contains records) before after r all in
      let there = All-contains (Contains records) (before ++ r ∷ []) r among (Contains-push before r) in
      clean.fault_free before after r is kind (same_fault settings others records alike before r among there kind holds);
  written = subst (λ (kept : KeptRevisions). AreOutputs others true kept records text)
      (same_revisions settings others records alike records (All-contains_itself records))
      (same_outputs settings others records alike (kept_revisions settings records) records text
      (All-contains_itself records) clean.written);
}
