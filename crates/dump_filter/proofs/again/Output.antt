-- What is written for a record is read again as a record, for which the same is written.
use Rattle.dump_filter.proofs.Prelude.{◌≡◌, ℕ, ◌+◌, ◌<◌, ◌≤◌, ◌^◌, Bool, true, false, ◌&&◌, ◌||◌, List, [], ◌∷◌, ◌++◌, length, refl, sym, ap, ◌∙◌, subst, arith, inl, codes, bytes_eq, Option, Some, None, is_some, is_none, option_and_then, All, Contains, MatchBool, take_while, unwrap_or, if◌then◌else◌, append_assoc, nil_from_length, take_while-cons, All-nil, All-cons, All-contains, number_of, spelled_number, version_name, revision_name, copy_revision_name, copy_path_name, property_length_name, md5_name, sha1_name, text_delta_name, Header, has_header, header_value, with_header_value, is_block, block_text, line_feeds, Property, has_deletes, has_value, number_of-spelled, header_number, property_length, text_length, has_bad_kind, has_bad_lengths, DumpRecord, record_text, is_lawful, BeginsWithRecord, Keeps, keeps, Settings, HasMergeLines, KeptRevisions, image, RiseFrom, IsNewMergeinfo, image_fits, number_small, is_revision_record, is_node, is_kept_node, is_mergeinfo, mergeinfo_name, value_of, has_whole_text, has_lost_source, HasPropertyList, is_copy, HasBadMd5, HasBadSha1, HasBadMergeinfo, DiffersFromDigest, property_list_once, keep_all, group_of, is_padded, revision_number, IsNewProperty, AreNewProperties, is_date, padding_properties, revision_properties, new_block, written_number, is_whole_file, becomes_plain, without_copy_headers, IsWrittenCopyNumber, IsNewCopy, is_copy_line, whole_text, revision_text, IsRevisionOutput, IsNodeOutput, IsWrittenBlock, first_true, second_true, first_false, second_false, false_from_ne_true, absurd_bool, false_true, no_number}
use Rattle.std.proofs.Common.{append-nil}
use Rattle.dump_filter.proofs.written.CopyLemmas.{AreCopyLines}
use Rattle.dump_filter.proofs.written.HeaderLemmas.{no_length}
use Rattle.dump_filter.proofs.written.PropertyOutput.{IsNewValue}
use Rattle.dump_filter.proofs.again.LineChanges.{same_has, no_change, put_has, go_change, gone, IsTold, told_later, told_put, told_reads, told_put_again}
use Rattle.dump_filter.proofs.again.Headers.{is_length_name, known_once, StaysLawful}
use Rattle.dump_filter.proofs.again.Record.{any_number, no_content, stays_same, stays_plain, AreNewLines, numbered_lines, IsRewritten, again, others, lengths_fit, new_stays, new_is_block, new_lawful, new_version_line, reads_list, same_text}
use Rattle.dump_filter.proofs.again.ReadAgain.{BeginsAgain, StandsAgain}

-- if everything is kept

never_padded : (s : DumpRecord) (after : List DumpRecord) → is_padded keep_all (group_of s after) ≡ false
never_padded s [] = refl
never_padded s (a ∷ after) = by_node (is_node a) refl
  where
    of_nodes : List DumpRecord → Bool
    of_nodes nodes = is_padded keep_all (record { revision = s; nodes = nodes })

    never : (b : Bool) → (b && false && true && true) ≡ false
    never true = refl
    never false = refl

    cut : (b : Bool) → is_node a ≡ b → take_while is_node (a ∷ after) ≡ (if b then a ∷ take_while is_node after else [])
    cut b is = take_while-cons is_node a after ∙ ap (λ c. if c then a ∷ take_while is_node after else []) is

    by_node : (b : Bool) → is_node a ≡ b → is_padded keep_all (group_of s (a ∷ after)) ≡ false
    by_node true is =
        let some : of_nodes (a ∷ take_while is_node after) ≡ false = rw is (never _) in
        ap of_nodes (cut true is) ∙ some
    by_node false is = ap of_nodes (cut false is)

-- a choice, if one of its two sides is true
first_side : (b : Bool) (A B : Type 0) → b ≡ true → A → MatchBool b A B
first_side true A B is a = a
first_side false A B is a = absurd (false_true is)

second_side : (b : Bool) (A B : Type 0) → b ≡ false → B → MatchBool b A B
second_side true A B is b = absurd (false_true (sym is))
second_side false A B is b = b

-- a number in a header is less than 10 ^ 18
pub header_small : (name : List ℕ) (headers : List Header) (n : ℕ) → header_number name headers ≡ Some n → n < 10 ^ 18
header_small name headers n is = by_value (header_value name headers) is
  where
    by_value : (o : Option (List ℕ)) → option_and_then number_of o ≡ Some n → n < 10 ^ 18
    by_value None e = cc
    by_value (Some digits) e = number_small digits n e

same_there : (name : List ℕ) (old new : List Header) → header_value name new ≡ header_value name old
    → has_header name new ≡ has_header name old
same_there name old new same = sym (has_value name new) ∙ ap is_some same ∙ has_value name old

-- the text of a record whose lines break no rule and give its lengths, with LFs after it, begins with that record
begins_again : (r s : DumpRecord) (feeds : ℕ) {front : List ℕ} → front ≡ record_text s ++ line_feeds feeds
    → is_block s.headers ≡ true
    → ((number : ℕ) → (number ≡ 0 → has_header version_name r.headers ≡ true) → is_lawful number s.headers ≡ true)
    → (length s.props ≡ property_length s.headers) × (length s.text ≡ text_length s.headers) → BeginsAgain r front s
begins_again r s feeds spelled block lawful (props_fit, text_fits) = (
  feeds,
  λ number text behind is first. record {
    block = block;
    lawful = lawful number first;
    props_fit = props_fit;
    text_fits = text_fits;
    spelled = is ∙ ap (λ t. t ++ behind) spelled ∙ append_assoc (record_text s) (line_feeds feeds) behind;
  },
)

-- a version or UUID record
pub other_again : (settings : Settings) (kept : KeptRevisions) {number : ℕ} {text behind : List ℕ} {r : DumpRecord}
    (after : List DumpRecord) (front : List ℕ) → BeginsWithRecord number text r behind
    → is_revision_record r ≡ false → is_node r ≡ false → front ≡ block_text r.headers
    → StandsAgain settings kept r after front
other_again settings kept {number} {text} {behind} {r} after front b no_revision no_node is place = (
  record { place = place; version = r.version; headers = r.headers; props = []; text = [] },
  refl,
  record {
    begins = begins_again r _ 0
        (is ∙ sym (append-nil ((block_text r.headers ++ []) ++ []) ∙ append-nil (block_text r.headers ++ [])
        ∙ append-nil (block_text r.headers)))
        b.block (λ m first. any_number number m r.headers b.lawful first) (sym empty.0, sym empty.1);
    revision = refl;
    number = λ rev. absurd (absurd_bool (is_revision_record r) rev no_revision);
    revision_again = λ rev. absurd (absurd_bool (is_revision_record r) rev no_revision);
    node = refl;
    node_again = λ node. absurd (absurd_bool (is_node r) node no_node);
    version = refl;
    version_line = λ before. refl;
    clean = record {
      props = λ bad. absurd (absurd_bool (is_revision_record r || is_kept_node keep_all r) bad.0
          (rw (no_revision, no_node) refl));
      md5 = λ bad. no_kept bad.0;
      sha1 = λ bad. no_kept bad.0;
      merge = λ bad. no_kept bad.1.0;
    };
    output = λ again after. rw (no_revision, no_node) is;
  },
)
  where
    k : Keeps number r.headers
    k = keeps number r.headers b.lawful

    empty : (property_length r.headers ≡ 0) × (text_length r.headers ≡ 0)
    empty = no_content r.headers (false_from_ne_true (has_bad_kind r.headers) k.kind)
        (false_from_ne_true (has_bad_lengths r.headers) k.lengths) no_revision no_node

    no_kept : is_kept_node keep_all r ≡ true → ⊥
    no_kept is_kept = absurd_bool (is_node r) (first_true (is_node r) _ is_kept) no_node

-- an empty property block has no properties
no_list : (r : DumpRecord) → r.props ≡ [] → HasPropertyList r []
no_list r empty = (inl (empty, refl), λ deletes. absurd (false_true deletes))

-- if there is no property length, there are no properties
no_props : {number : ℕ} {text behind : List ℕ} {r : DumpRecord} → BeginsWithRecord number text r behind
    → has_header property_length_name r.headers ≡ false → r.props ≡ []
no_props {number} {text} {behind} {r} b missing =
    nil_from_length r.props (b.props_fit ∙ no_length property_length_name r.headers missing)

-- a property that passes the test isn't deleted
set_value : (b : Bool) (value : Option (List ℕ)) → (b && is_some value) ≡ true → is_none value ≡ false
set_value b (Some bytes) is = refl
set_value true None is = cc
set_value false None is = cc

-- padding deletes no property
padding_keeps : (ps : List Property) → has_deletes (padding_properties ps) ≡ false
padding_keeps [] = refl
padding_keeps (p ∷ ps) = by_date (padding_keeps ps) (is_date p) refl
  where
    by_date : has_deletes (padding_properties ps) ≡ false → (b : Bool) → is_date p ≡ b
        → has_deletes (padding_properties (p ∷ ps)) ≡ false
    by_date more true is = let set = set_value (bytes_eq p.name (codes "svn:date")) p.value is in rw is (rw set refl)
    by_date more false is = rw is more

-- what is written for a revision's properties deletes one only if one of them was deleted
padding_deletes : (padded : Bool) (ps : List Property) → has_deletes (revision_properties padded ps) ≡ true
    → has_deletes ps ≡ true
padding_deletes true ps deletes = absurd (absurd_bool (has_deletes (padding_properties ps)) deletes (padding_keeps ps))
padding_deletes false ps deletes = deletes

-- the record's new content is below 10 ^ 18 bytes
abbrev pub IsSmall : Settings → KeptRevisions → DumpRecord → List DumpRecord → Type 0
IsSmall settings kept r after =
    (block : List ℕ) → IsWrittenBlock settings kept r after block → length block + length r.text < 10 ^ 18

-- a revision
pub revision_again : (settings : Settings) (kept : KeptRevisions) {number : ℕ} {text behind : List ℕ} {r : DumpRecord}
    (after : List DumpRecord) (front : List ℕ) → BeginsWithRecord number text r behind
    → is_revision_record r ≡ true → is_node r ≡ false → written_number settings kept (revision_number r) < 10 ^ 18
    → IsSmall settings kept r after → IsRevisionOutput settings kept (group_of r after) front
    → StandsAgain settings kept r after front
revision_again settings kept {number} {text} {behind} {r} after front b rev no_node n_small fit
    (ps, is_ps, is) place = (
      it,
      refl,
      record {
        begins = begins_again r it 1 is (new_is_block w) (new_lawful w) (lengths_fit w);
        revision = (new_stays w).revision;
        number = λ rev. number_is;
        revision_again = λ rev. (ps, is_ps, here);
        node = (new_stays w).node;
        node_again = λ node. absurd (absurd_bool (is_node r) node no_node);
        version = refl;
        version_line = new_version_line w;
        clean = record {
          props = λ bad. bad.1 (new, here);
          md5 = λ bad. no_kept bad.0;
          sha1 = λ bad. no_kept bad.0;
          merge = λ bad. no_kept bad.1.0;
        };
        output = λ again after. rw ((new_stays w).revision ∙ rev) (new, here, written again after);
      },
    )
  where
    padded : Bool
    padded = is_padded settings (group_of r after)

    new : List Property
    new = revision_properties padded ps

    n : ℕ
    n = written_number settings kept (revision_number r)

    mid : List Header
    mid = with_header_value revision_name (spelled_number n) r.headers

    w : IsRewritten b mid padded new
    w = record {
      either = rw rev refl;
      mid_lines = numbered_lines revision_name r.headers n n_small rev (stays_same number r.headers b.lawful);
      small = fit (new_block padded r new) (ps, new, is_ps, rw (rev, no_node) refl, rw rev refl);
      none = λ missing.
          let plain : padded ≡ false = first_false padded _ missing in
          let empty = no_props b (second_false padded _ missing) in
          rw plain (property_list_once r ps [] is_ps (no_list r empty));
    }

    it : DumpRecord
    it = again w place

    here : HasPropertyList it new
    here = reads_list w (λ deletes. is_ps.1 (padding_deletes padded ps deletes)) place

    number_told : IsTold revision_name n it.headers
    number_told =
        told_later revision_name n is_length_name mid it.headers (others w) refl (told_put revision_name n r.headers
        (λ missing. absurd (absurd_bool (has_header revision_name r.headers) rev missing)))

    number_is : revision_number it ≡ n
    number_is = (told_reads revision_name n it.headers n_small number_told).0

    no_kept : is_kept_node keep_all it ≡ true → ⊥
    no_kept is_kept = absurd_bool (is_node it) (first_true (is_node it) _ is_kept) ((new_stays w).node ∙ no_node)

    same_number : with_header_value revision_name (spelled_number (revision_number it)) it.headers ≡ it.headers
    same_number =
        ap (λ m. with_header_value revision_name (spelled_number m) it.headers) number_is
        ∙ told_put_again revision_name n it.headers
        (known_once revision_name refl it.headers (new_is_block w)) number_told

    written : (again : KeptRevisions) (after : List DumpRecord)
        → front ≡ revision_text keep_all again (is_padded keep_all (group_of it after)) it new
    written again after =
        is ∙ sym (ap (λ p. revision_text keep_all again p it new) (never_padded it after)
        ∙ ap (λ t. t ++ codes "\n") (same_text w
        (with_header_value revision_name (spelled_number (revision_number it)) it.headers) same_number))

-- the lines of a copy have a number for its source's revision
abbrev IsCopyTold : List Header → Type 0
IsCopyTold headers = has_header copy_path_name headers ≡ true
    → (n : ℕ) × (n < 10 ^ 18) × (has_header copy_revision_name headers ≡ true) × IsTold copy_revision_name n headers

-- the lines of a kept node with its new copy source
record IsNodeLines (old new : List Header) : Type 0 where
  lines : AreNewLines old new
  md5 : header_value md5_name new ≡ header_value md5_name old
  sha1 : header_value sha1_name new ≡ header_value sha1_name old
  text_delta : header_value text_delta_name new ≡ header_value text_delta_name old
  copied : IsCopyTold new

-- a number that a header gives is in a header
pub number_there : (name : List ℕ) (headers : List Header) (n : ℕ) → header_number name headers ≡ Some n
    → has_header name headers ≡ true
number_there name headers n is = by_case (has_header name headers) refl
  where
    by_case : (b : Bool) → has_header name headers ≡ b → has_header name headers ≡ true
    by_case true there = there
    by_case false none = let bad : None ≡ Some n = no_number name headers none ∙ is in cc

-- the number that is written for a copy source isn't above the old one
number_fits : (settings : Settings) (kept : KeptRevisions) (r : DumpRecord) → RiseFrom kept.first kept.numbers
    → (old n : ℕ) → header_number copy_revision_name r.headers ≡ Some old → IsWrittenCopyNumber settings kept old n
    → n < 10 ^ 18
number_fits settings kept r rise old n is new_is =
    let before = header_small copy_revision_name r.headers old is in
    let below = new_fits settings.renumber new_is in
    omega (arith, before, below)
  where
    new_fits : (b : Bool) → MatchBool b (image kept old ≡ Some n) (n ≡ old) → n ≤ old
    new_fits true is = (image_fits kept old n rise is).1
    new_fits false is = omega (arith, is)

node_lines : (settings : Settings) (kept : KeptRevisions) (r : DumpRecord) (mid : List Header)
    → RiseFrom kept.first kept.numbers → StaysLawful r.headers r.headers → IsNewCopy settings kept r mid
    → IsNodeLines r.headers mid
node_lines settings kept r mid rise own copy = by_plain (becomes_plain settings r) copy
  where
    plain : IsNodeLines r.headers (without_copy_headers r.headers)
    plain =
        let change = go_change r.headers in
        record {
          lines = record {
            touches = is_copy_line;
            change = change;
            stays = stays_plain r.headers own;
            props_there = same_has is_copy_line r.headers (without_copy_headers r.headers) change
                property_length_name refl;
          };
          md5 = change.same md5_name refl;
          sha1 = change.same sha1_name refl;
          text_delta = change.same text_delta_name refl;
          copied = λ there. absurd (absurd_bool (has_header copy_path_name (without_copy_headers r.headers)) there
              (gone copy_path_name refl r.headers));
        }

    same : is_copy r ≡ false → IsNodeLines r.headers r.headers
    same none = record {
      lines = record {
        touches = λ name. false;
        change = no_change (λ name. false) r.headers;
        stays = own;
        props_there = refl;
      };
      md5 = refl;
      sha1 = refl;
      text_delta = refl;
      copied = λ there. absurd (absurd_bool (has_header copy_path_name r.headers) there none);
    }

    numbered : (old n : ℕ) → header_number copy_revision_name r.headers ≡ Some old
        → IsWrittenCopyNumber settings kept old n
        → IsNodeLines r.headers (with_header_value copy_revision_name (spelled_number n) r.headers)
    numbered old n is new_is =
        let small = number_fits settings kept r rise old n is new_is in
        let there = number_there copy_revision_name r.headers old is in
        let lines = numbered_lines copy_revision_name r.headers n small there own in
        record {
          lines = lines;
          md5 = lines.change.same md5_name refl;
          sha1 = lines.change.same sha1_name refl;
          text_delta = lines.change.same text_delta_name refl;
          copied = λ copies. (
            n,
            small,
            put_has copy_revision_name copy_revision_name (spelled_number n) r.headers ∙ there,
            told_put copy_revision_name n r.headers
                (λ none. absurd (absurd_bool (has_header copy_revision_name r.headers) there none)),
          );
        }

    by_copy : (b : Bool) → is_copy r ≡ b → AreCopyLines settings kept r.headers b mid
        → IsNodeLines r.headers mid
    by_copy true is (old, n, read, new_is, lines) = subst (IsNodeLines r.headers) (sym lines)
        (numbered old n read new_is)
    by_copy false is lines = subst (IsNodeLines r.headers) (sym lines) (same is)

    by_plain : (b : Bool) → MatchBool b (mid ≡ without_copy_headers r.headers)
        (AreCopyLines settings kept r.headers (is_copy r) mid)
        → IsNodeLines r.headers mid
    by_plain true lines = subst (IsNodeLines r.headers) (sym lines) plain
    by_plain false is = by_copy (is_copy r) refl is

-- each new value of mergeinfo is mergeinfo, and its own new value if everything is kept
abbrev pub OwnValues : Settings → KeptRevisions → Type 0
OwnValues settings kept = (old new : List ℕ) → IsNewMergeinfo settings kept old new
    → HasMergeLines new × ((again : KeptRevisions) → IsNewMergeinfo keep_all again new new)

-- the property is mergeinfo only if its value is
abbrev IsReadable : Property → Type 0
IsReadable p = is_mergeinfo p ≡ true → HasMergeLines (value_of p)

-- the properties of a kept node, and what is written for them
module _ (settings : Settings) (kept : KeptRevisions) where
  own_property : OwnValues settings kept → (p q : Property) → IsNewProperty settings kept p q
      → IsReadable q × ((again : KeptRevisions) → IsNewProperty keep_all again q q)
  own_property values p q (name, value) = by_case (is_mergeinfo p) refl value
    where
      kind : is_some q.value ≡ is_some p.value → is_mergeinfo q ≡ is_mergeinfo p
      kind set = λ i. bytes_eq (name i) mergeinfo_name && set i

      by_case : (b : Bool) → is_mergeinfo p ≡ b → IsNewValue settings kept p q.value b
          → IsReadable q × ((again : KeptRevisions) → IsNewProperty keep_all again q q)
      by_case true is (bytes, set, new) =
          let own = values (value_of p) bytes new in
          let same : value_of q ≡ bytes = ap (λ (o : Option (List ℕ)). unwrap_or o []) set in
          let had : is_some p.value ≡ true = second_true (bytes_eq p.name mergeinfo_name) (is_some p.value) is in
          let still = kind (ap is_some set ∙ sym had) ∙ is in
          let again_new = λ (again : KeptRevisions).
          subst (λ (old : List ℕ). IsNewMergeinfo keep_all again old bytes) (sym same) (own.1 again) in (
            (λ merge. subst HasMergeLines (sym same) own.0),
            (λ again. (refl, rw still (bytes, set, again_new again))),
          )
      by_case false is same =
          let still = kind (ap is_some same) ∙ is in
          ((λ merge. absurd (absurd_bool (is_mergeinfo q) merge still)), (λ again. (refl, rw still refl)))

  -- a deleted property remains deleted, and no other becomes deleted
  same_deleted : (p q : Property) → IsNewProperty settings kept p q → is_none q.value ≡ is_none p.value
  same_deleted p q (name, value) = by_case (is_mergeinfo p) refl value
    where
      by_case : (b : Bool) → is_mergeinfo p ≡ b → IsNewValue settings kept p q.value b
          → is_none q.value ≡ is_none p.value
      by_case true is (bytes, set, new) = ap is_none set ∙ sym (set_value (bytes_eq p.name mergeinfo_name) p.value is)
      by_case false is same = ap is_none same

  -- what is written for properties deletes one if one was deleted
  same_deletes : (ps qs : List Property) → AreNewProperties settings kept ps qs → has_deletes qs ≡ has_deletes ps
  same_deletes [] [] all = refl
  same_deletes [] (q ∷ qs) all = absurd all
  same_deletes (p ∷ ps) [] all = absurd all
  same_deletes (p ∷ ps) (q ∷ qs) all = λ i. same_deleted p q all.0 i || same_deletes ps qs all.1 i

  own_properties : OwnValues settings kept → (ps qs : List Property) → AreNewProperties settings kept ps qs
      → All IsReadable qs × ((again : KeptRevisions) → AreNewProperties keep_all again qs qs)
  own_properties values [] [] all = (All-nil IsReadable, λ again. tt)
  own_properties values [] (q ∷ qs) all = absurd all
  own_properties values (p ∷ ps) [] all = absurd all
  own_properties values (p ∷ ps) (q ∷ qs) all =
      let one = own_property values p q all.0 in
      let more = own_properties values ps qs all.1 in
      (All-cons IsReadable q qs one.0 more.0, λ again. (one.1 again, more.1 again))

  none_new : (ps qs : List Property) → ps ≡ [] → AreNewProperties settings kept ps qs → qs ≡ []
  none_new [] [] none all = refl
  none_new [] (q ∷ qs) none all = absurd all
  none_new (p ∷ ps) qs none all = let bad : p ∷ ps ≡ [] = none in cc

never_plain : (s : DumpRecord) → becomes_plain keep_all s ≡ false
never_plain s = never (is_copy s) _
  where
    never : (b w : Bool) → ((b && false) && w) ≡ false
    never true w = refl
    never false w = refl

-- the lines of a copy are unchanged
stays_copy : (again : KeptRevisions) (s : DumpRecord) → is_block s.headers ≡ true → IsCopyTold s.headers
    → IsNewCopy keep_all again s s.headers
stays_copy again s block copied = rw (never_plain s) (by_copy (is_copy s) refl)
  where
    by_copy : (b : Bool) → is_copy s ≡ b → AreCopyLines keep_all again s.headers (is_copy s) s.headers
    by_copy true is =
        let (n, small, there, told) = copied is in
        let value : header_value copy_revision_name s.headers ≡ Some (spelled_number n) = rw there at told in
        rw is (
          n,
          n,
          ap (option_and_then number_of) value ∙ number_of-spelled n small,
          refl,
          sym (told_put_again copy_revision_name n s.headers (known_once copy_revision_name refl s.headers block) told),
        )
    by_copy false is = rw is refl

same_differs : (name : List ℕ) (r s : DumpRecord) (size : ℕ) (digest : List ℕ)
    → header_value name s.headers ≡ header_value name r.headers
    → DiffersFromDigest name s size digest → DiffersFromDigest name r size digest
same_differs name r s size digest same (there, differs) =
    (sym (same_there name r.headers s.headers same) ∙ there, λ digits is. differs digits (same ∙ is))

-- a kept node
pub node_again : (settings : Settings) (kept : KeptRevisions) {number : ℕ} {text behind : List ℕ} {r : DumpRecord}
    (after : List DumpRecord) (front : List ℕ) → BeginsWithRecord number text r behind
    → is_revision_record r ≡ false → is_kept_node settings r ≡ true → RiseFrom kept.first kept.numbers
    → OwnValues settings kept → ¬ HasBadMd5 settings r → ¬ HasBadSha1 settings r
    → (has_lost_source settings r ≡ true → is_whole_file r ≡ true)
    → IsSmall settings kept r after → IsNodeOutput settings kept r front → StandsAgain settings kept r after front
node_again settings kept {number} {text} {behind} {r} after front b no_revision is_kept rise values no_md5 no_sha1 whole
    fit (mid, old, new, copy, is_old, all, is) place = (
      it,
      refl,
      record {
        begins = begins_again r it 2 is (new_is_block w) (new_lawful w) (lengths_fit w);
        revision = (new_stays w).revision;
        number = λ rev. absurd (absurd_bool (is_revision_record r) rev no_revision);
        revision_again = λ rev. absurd (absurd_bool (is_revision_record r) rev no_revision);
        node = (new_stays w).node;
        node_again = λ node. record {
          mid = mid;
          old = old;
          new = new;
          new_copy = copy;
          whole = whole;
          old_list = is_old;
          new_list = here;
          new_props = all;
          lines = refl;
          text = refl;
          small = w.small;
          number_fits = number_fits settings kept r rise;
        };
        version = refl;
        version_line = new_version_line w;
        clean = record {
          props = λ bad. bad.1 (new, here);
          md5 = λ bad. no_md5 (is_kept, sym same_whole ∙ bad.1, same_differs md5_name r it _ _ same_md5 bad.2);
          sha1 = λ bad. no_sha1 (is_kept, sym same_whole ∙ bad.1, same_differs sha1_name r it _ _ same_sha1 bad.2);
          merge = no_bad_merge;
        };
        output = λ again after.
            second_side (is_revision_record it) (IsRevisionOutput keep_all again (group_of it after) front) _
            ((new_stays w).revision ∙ no_revision)
            (first_side (is_node it) (IsNodeOutput keep_all again it front) _ ((new_stays w).node ∙ node)
            (it.headers, new, new, stays_copy again it (new_is_block w) copied, here, own.1 again, written));
      },
    )
  where
    node : is_node r ≡ true
    node = first_true (is_node r) _ is_kept

    l : IsNodeLines r.headers mid
    l = node_lines settings kept r mid rise (stays_same number r.headers b.lawful) copy

    w : IsRewritten b mid false new
    w = record {
      either = rw (no_revision, node) refl;
      mid_lines = l.lines;
      small = fit (new_block false r new) (old, new, is_old, rw node all, rw no_revision refl);
      none = λ missing. none_new settings kept old new
          (property_list_once r old [] is_old (no_list r (no_props b missing))) all;
    }

    it : DumpRecord
    it = again w place

    here : HasPropertyList it new
    here = reads_list w (λ deletes. is_old.1 (sym (same_deletes settings kept old new all) ∙ deletes)) place

    same_md5 : header_value md5_name it.headers ≡ header_value md5_name r.headers
    same_md5 = (others w).same md5_name refl ∙ l.md5

    same_sha1 : header_value sha1_name it.headers ≡ header_value sha1_name r.headers
    same_sha1 = (others w).same sha1_name refl ∙ l.sha1

    same_delta : header_value text_delta_name it.headers ≡ header_value text_delta_name r.headers
    same_delta = (others w).same text_delta_name refl ∙ l.text_delta

    same_whole : has_whole_text it ≡ has_whole_text r
    same_whole = rw ((new_stays w).text, (new_stays w).node, same_delta) refl

    copied : IsCopyTold it.headers
    copied there =
        let has = same_has is_length_name mid it.headers (others w) in
        let (n, few, revision, told) = l.copied (sym (has copy_path_name refl) ∙ there) in (
          n,
          few,
          has copy_revision_name refl ∙ revision,
          told_later copy_revision_name n is_length_name mid it.headers (others w) refl told,
        )

    own : All IsReadable new × ((again : KeptRevisions) → AreNewProperties keep_all again new new)
    own = own_properties settings kept values old new all

    no_bad_merge : ¬ HasBadMergeinfo keep_all it
    no_bad_merge (value, (keep, qs, is_qs, p, within, merge, same), bad) =
        let list : qs ≡ new = property_list_once it qs new is_qs here in
        let good = All-contains IsReadable new p own.0
        (subst (λ (ps : List Property). Contains ps p) list within) merge in
        bad (subst HasMergeLines same good)

    written : front ≡ whole_text it.headers (new_block false it new) r.text ++ codes "\n\n"
    written = is ∙ sym (ap (λ t. t ++ codes "\n\n") (same_text w it.headers refl))
