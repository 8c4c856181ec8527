-- A text that is shorter than a number that can't be read again has no length that can't be.
use Rattle.std.proofs.Common.{◌≡◌, ℕ, ◌+◌, ◌<◌, ◌≤◌, ◌^◌, Bool, true, false, not, ◌&&◌, ◌||◌, List, [], ◌∷◌, ◌++◌, length, length-append, refl, sym, ap, ap₂, ◌∙◌, subst, arith, Some, MatchBool, if◌then◌else◌, codes}
use Rattle.std.proofs.lemmas.Bool.{and_parts, false_from_ne_true}
use Rattle.dump_text.proofs.BoolLemmas.{first_false, second_false, absurd_bool}
use Rattle.dump_text.specs.Names.{version_name, uuid_name, revision_name, path_name, property_length_name, text_length_name, content_length_name}
use Rattle.dump_text.specs.HeaderLine.{Header, has_header, with_header_value}
use Rattle.dump_text.specs.Number.{spelled_number}
use Rattle.dump_text.specs.HeaderBlock.{block_text}
use Rattle.dump_text.specs.PropertyList.{Property, property_block_text}
use Rattle.dump_text.proofs.PropertyLemmas.{property-eq}
use Rattle.dump_records.specs.DumpText.{IsCutInto}
use Rattle.dump_records.specs.RecordText.{DumpRecord, record_text, BeginsWithRecord, is_lawful}
use Rattle.dump_rules.specs.Settings.{Settings}
use Rattle.dump_rules.specs.Renumbering.{KeptRevisions}
use Rattle.dump_rules.proofs.new_values.OneNewValue.{one_new_value}
use Rattle.dump_digest.specs.RecordParts.{is_revision_record, is_node, is_mergeinfo, value_of}
use Rattle.dump_digest.proofs.PropertyBlocks.{property_list_once}
use Rattle.dump_filter.specs.FilterLaws.{LengthsFit}
use Rattle.dump_filter.specs.Groups.{group_of, is_padded, kept_revisions, revision_number}
use Rattle.dump_filter.specs.NewContent.{new_block, revision_properties, IsNewProperty, AreNewProperties}
use Rattle.dump_filter.specs.RecordOutput.{whole_text, IsRevisionOutput, IsNodeOutput, IsOutput, IsWrittenBlock}
use Rattle.dump_filter.specs.WholeText.{IsCleanText}
use Rattle.dump_filter.specs.Written.{is_written, AreOutputs}
use Rattle.dump_records.specs.HeaderRules.{has_bad_kind, has_bad_lengths, has_bad_number, has_bad_version}
use Rattle.dump_records.proofs.HeaderLemmas.{deciding}
use Rattle.dump_filter.specs.NewHeaders.{with_lengths, written_number}
use Rattle.dump_filter.proofs.again.Record.{no_content}
use Rattle.dump_filter.proofs.groups.KindLemmas.{alone}
use Rattle.dump_filter.proofs.written.PropertyOutput.{IsNewValue}
use Rattle.dump_history.proofs.restricted.LoadsOnce.{partners_once}

falls : (b : Bool) → not b ≡ true → b ≡ false
falls true is = absurd (let bad : false ≡ true = is in cc)
falls false is = refl

-- a version or UUID record has no lengths
module _ (headers : List Header) (number : ℕ) (lawful : is_lawful number headers ≡ true)
    (no_revision : has_header revision_name headers ≡ false) (no_node : has_header path_name headers ≡ false) where
  parts : (has_bad_kind headers ≡ false) × (has_bad_lengths headers ≡ false)
  parts =
      let last = and_parts (not (has_bad_kind headers) && not (has_bad_version number headers)
      && not (has_bad_number headers)) (not (has_bad_lengths headers)) lawful in
      let third = and_parts (not (has_bad_kind headers) && not (has_bad_version number headers))
      (not (has_bad_number headers)) last.0 in
      let first = and_parts (not (has_bad_kind headers)) (not (has_bad_version number headers)) third.0 in
      (falls (has_bad_kind headers) first.0, falls (has_bad_lengths headers) last.1)

  one_of : (has_header version_name headers || has_header uuid_name headers) ≡ true
  one_of = cases (has_header version_name headers) refl
    where
      cases : (v : Bool) → has_header version_name headers ≡ v
          → (has_header version_name headers || has_header uuid_name headers) ≡ true
      cases true is = rw is refl
      cases false is = rw is ((deciding headers parts.0).left is no_revision no_node)

  no_length_there : has_header property_length_name headers ≡ false
  no_length_there =
      first_false _ (has_header text_length_name headers || (has_header content_length_name headers || false))
      (when_true _ _ one_of (second_false _ _ (first_false _ _ parts.1)))
    where
      when_true : (a b : Bool) → a ≡ true → (a && b) ≡ false → b ≡ false
      when_true true b is none = none
      when_true false b is none = absurd (let bad : false ≡ true = is in cc)

-- new properties are determined
one_property : (settings : Settings) (k : KeptRevisions) (o p q : Property) → IsNewProperty settings k o p
    → IsNewProperty settings k o q → p ≡ q
one_property settings k o p q (name, value) (name', value') =
    property-eq p q (name ∙ sym name') (by_case (is_mergeinfo o) value value')
  where
    by_case : (c : Bool) → IsNewValue settings k o p.value c → IsNewValue settings k o q.value c → p.value ≡ q.value
    by_case true (v, set, x) (w, set', y) = set ∙ ap (λ (t : List ℕ). Some t)
        (one_new_value settings k (value_of o) v w x y) ∙ sym set'
    by_case false x y = x ∙ sym y

-- content in a whole text
content_within : (headers : List Header) (props text end : List ℕ)
    → length props + length text ≤ length (whole_text headers props text ++ end)
content_within headers props text end =
    let front = block_text (with_lengths props text headers) in
    let all = length-append ((front ++ props) ++ text) end in
    let both = length-append (front ++ props) text in
    let parts = length-append front props in
    let less : length props + length text ≤ length (((front ++ props) ++ text) ++ end) = omega arith in
    less

module _ (settings : Settings) (kept : KeptRevisions) (number : ℕ) (text behind : List ℕ) (r : DumpRecord)
    (b : BeginsWithRecord number text r behind) (after : List DumpRecord) (front block : List ℕ)
    (is_block : IsWrittenBlock settings kept r after block) where
  of_revision : is_revision_record r ≡ true → IsRevisionOutput settings kept (group_of r after) front
      → length block + length r.text ≤ length front
  of_revision revision (ps, list, is) =
      let (old, new, its, are, block_is) = is_block in
      let padded = is_padded settings (group_of r after) in
      let no_node : is_node r ≡ false = false_from_ne_true (is_node r)
      (λ node. absurd_bool (is_revision_record r) revision (alone number r b.lawful node)) in
      let pads : (is_revision_record r && padded) ≡ padded = ap (λ v. v && padded) revision in
      let news : new ≡ revision_properties padded ps =
      subst (λ n. MatchBool n (AreNewProperties settings kept old new)
      (new ≡ revision_properties (is_revision_record r && padded) old)) no_node are
      ∙ ap₂ (λ p (l : List Property). revision_properties p l) pads (property_list_once r old ps its list) in
      let same : block ≡ new_block padded r (revision_properties padded ps) =
      block_is ∙ ap₂ (λ p (l : List Property). new_block p r l) pads news in
      let lines = with_header_value revision_name
      (spelled_number (written_number settings kept (revision_number r))) r.headers in
      let props = new_block padded r (revision_properties padded ps) in
      subst (λ t. length block + length r.text ≤ length t) (sym is)
      (subst (λ bl. length bl + length r.text ≤ length (whole_text lines props r.text ++ codes "\n"))
      (sym same) (content_within lines props r.text (codes "\n")))

  of_node : is_revision_record r ≡ false → is_node r ≡ true → IsNodeOutput settings kept r front
      → length block + length r.text ≤ length front
  of_node no_revision node (headers, old', new', copy, its', are', is) =
      let (old, new, its, are, block_is) = is_block in
      let all : AreNewProperties settings kept old new =
      subst (λ n. MatchBool n (AreNewProperties settings kept old new)
      (new ≡ revision_properties (is_revision_record r && is_padded settings (group_of r after)) old)) node are in
      let olds : old' ≡ old = property_list_once r old' old its' its in
      let news : new ≡ new' = partners_once (IsNewProperty settings kept) (one_property settings kept) old new new' all
      (subst (λ (l : List Property). AreNewProperties settings kept l new') olds are') in
      let same : block ≡ new_block false r new' =
      block_is ∙ ap₂ (λ p (l : List Property). new_block p r l)
      (ap (λ v. v && is_padded settings (group_of r after)) no_revision) news in
      subst (λ t. length block + length r.text ≤ length t) (sym is)
      (subst (λ bl. length bl + length r.text ≤ length (whole_text headers (new_block false r new') r.text ++ codes "\n\n"))
      (sym same) (content_within headers (new_block false r new') r.text (codes "\n\n")))

  of_other : is_revision_record r ≡ false → is_node r ≡ false → length block + length r.text ≤ length front
  of_other no_revision no_node =
      let (old, new, its, are, block_is) = is_block in
      let empty = no_content r.headers (parts r.headers number b.lawful no_revision no_node).0
      (parts r.headers number b.lawful no_revision no_node).1 no_revision no_node in
      let none : block ≡ [] =
      block_is ∙ ap₂ (λ p h. if p || h then property_block_text new else [])
      (ap (λ v. v && is_padded settings (group_of r after)) no_revision)
      (no_length_there r.headers number b.lawful no_revision no_node) in
      let size = ap length none in
      let no_text = b.text_fits ∙ empty.1 in
      omega arith

  pub content_fits : IsOutput settings kept r after front → length block + length r.text ≤ length front
  content_fits = cases (is_revision_record r) (is_node r) refl refl
    where
      cases : (v n : Bool) → is_revision_record r ≡ v → is_node r ≡ n
          → MatchBool v (IsRevisionOutput settings kept (group_of r after) front)
          (MatchBool n (IsNodeOutput settings kept r front) (front ≡ block_text r.headers))
          → length block + length r.text ≤ length front
      cases true n revision node out = of_revision revision out
      cases false true no_revision node out = of_node no_revision node out
      cases false false no_revision no_node out = of_other no_revision no_node

-- what is written of a record is a part of the text
output_in : (settings : Settings) (kept : KeptRevisions) (before : List DumpRecord) (r : DumpRecord) (after : List DumpRecord)
    (text : List ℕ) → AreOutputs settings true kept (before ++ r ∷ after) text → is_written settings true r after ≡ true
    → (front : List ℕ) × IsOutput settings kept r after front × (length front ≤ length text)
output_in settings kept [] r after text (front, rest, is, this, more) written =
    let all = ap length is ∙ length-append front rest in (
      front,
      subst (λ b. MatchBool b (IsOutput settings kept r after front) (front ≡ [])) written this,
      omega arith,
    )
output_in settings kept (x ∷ before) r after text (front, rest, is, this, more) written =
    let (own, output, fits) = output_in settings kept before r after rest more written in
    let all = ap length is ∙ length-append front rest in
    (own, output, (let less : length own ≤ length text = omega arith in less))

-- where a record of a dump is
record_there : (number place : ℕ) (dump rest : List ℕ) (before : List DumpRecord) (r : DumpRecord) (after : List DumpRecord)
    → IsCutInto number place dump (before ++ r ∷ after) rest
    → (n : ℕ) × (front behind : List ℕ) × BeginsWithRecord n front r behind
record_there number place dump rest [] r after (lfs, front, behind, is, at, b, more) = (number, front, behind, b)
record_there number place dump rest (x ∷ before) r after (lfs, front, behind, is, at, b, more) =
    record_there (number + 1) (x.place + length (record_text x)) behind rest before r after more

-- each length that is written can be read again, if the whole text is short
pub lengths_fit : (settings : Settings) (dump : List ℕ) (records : List DumpRecord) (text : List ℕ)
    → IsCleanText settings dump records text → length text < 10 ^ 18 → LengthsFit settings records
lengths_fit settings dump records text clean short before after r block at written is_block =
    let (front, output, fits) = output_in settings (kept_revisions settings records) before r after text
    (subst (λ (rs : List DumpRecord). AreOutputs settings true (kept_revisions settings records) rs text) at clean.written)
    written in
    let (n, begin, behind, b) = record_there 0 0 dump clean.whole.0 before r after
    (subst (λ (rs : List DumpRecord). IsCutInto 0 0 dump rs clean.whole.0) at clean.whole.1) in
    let small = content_fits settings (kept_revisions settings records) n begin behind r b after front block is_block output in
    (let less : length block + length r.text < 10 ^ 18 = omega arith in less)
