-- Why there is no record at a place, and what is there instead.
use Rattle.dump_records.proofs.Prelude.{◌≡◌, ◌≢◌, ℕ, ◌+◌, ◌-◌, ◌<◌, ◌≤◌, get_or, Bool, true, false, List, ◌++◌, take, drop, length, slice_range, refl, sym, ap, ◌∙◌, subst, arith, append_assoc, unwrap_or, Result, Ok, Err, absurd_bool, false_from_ne_true, take-append-drop, length-drop, length-take-le, drop-drop, drop_more, drop_all, ne_eqb, IsErrAnd, IfErr, line_feeds, FaultKind, fault_code, block_text, starts_with_lf, has_empty_line, BeginsWithBlock, HasBlock, block_fault, headers_between, IsBlockBetween, block_once, property_length, text_length, has_bad_kind, has_bad_version, has_bad_number, has_bad_lengths, BeginsWithRecord, is_lawful, HasBlockWith, HoldsOfText, IsCutFault, record_between, version_in, header_fault, IsUnlawful, LengthsOf, Lengths, RecordHeader, IsHeaderOf, Block, block_dump, block_place, block_after, block_headers, IsGap, StandsAt}
use Rattle.dump_text.specs.declared.fault.FaultKind.TheVariants as faults
use Rattle.dump_text.specs.HeaderLine as line
use Rattle.dump_records.proofs.Unique.{keeps}
use Rattle.dump_records.proofs.HeaderLemmas.{version_said}

no_less : (fault : FaultKind) → fault_code fault < 1 → ⊥
no_less faults.HeaderCut low = omega arith
no_less fault low = omega arith

-- if there is no block, that is the fault
pub no_block : (number : ℕ) (text : List ℕ) → ¬ HasBlock text → IsCutFault number text (block_fault text)
no_block number text none = cases (starts_with_lf text) (has_empty_line text) refl refl
  where
    header : block_fault text ≡ faults.Header → IsCutFault number text faults.Header
    header is = record { holds = (none, is); least = other is }
      where
        other : block_fault text ≡ faults.Header → (kind : FaultKind) → fault_code kind < 2
            → ¬ HoldsOfText number text kind
        other is faults.HeaderCut small h = let bad : faults.Header ≡ faults.HeaderCut = sym is ∙ h.1 in cc
        other is fault small h = absurd (omega arith)

    cases : (a b : Bool) → starts_with_lf text ≡ a → has_empty_line text ≡ b → IsCutFault number text (block_fault text)
    cases true b is-a is-b = rw is-a (header (rw is-a refl))
    cases false true is-a is-b = rw (is-a, is-b) (header (rw (is-a, is-b) refl))
    cases false false is-a is-b = rw (is-a, is-b) record {
      holds = (none, rw (is-a, is-b) refl);
      least = λ other low h. absurd (no_less other low);
    }

-- a test that is true of the lines of a block at the front is true of this block's lines
holds_here : (text : List ℕ) (headers : List line.Header) (after : List ℕ) (test : List line.Header → Bool)
    → BeginsWithBlock text headers after → HasBlockWith text (λ hs x. test hs ≡ true) → test headers ≡ true
holds_here text headers after test b (hs, x, other, holds) = ap test (block_once text headers hs after x b other).0
    ∙ holds

module _ (number : ℕ) (text : List ℕ) (headers : List line.Header) (after : List ℕ)
    (b : BeginsWithBlock text headers after) where
  -- no fault below this number applies if the tests below it fail
  none_below : (n : ℕ) → n ≤ 7 → (3 < n → has_bad_kind headers ≡ false)
      → (4 < n → has_bad_version number headers ≡ false)
      → (5 < n → has_bad_number headers ≡ false) → (6 < n → has_bad_lengths headers ≡ false)
      → (other : FaultKind) → fault_code other < n → ¬ HoldsOfText number text other
  none_below n small kind version num lengths faults.HeaderCut low h = h.0 (headers, after, b)
  none_below n small kind version num lengths faults.Header low h = h.0 (headers, after, b)
  none_below n small kind version num lengths faults.Kind low h =
      absurd_bool _ (holds_here text headers after has_bad_kind b h) (kind low)
  none_below n small kind version num lengths faults.Version low h =
      absurd_bool _ (holds_here text headers after (has_bad_version number) b h) (version low)
  none_below n small kind version num lengths faults.Number low h =
      absurd_bool _ (holds_here text headers after has_bad_number b h) (num low)
  none_below n small kind version num lengths faults.Lengths low h =
      absurd_bool _ (holds_here text headers after has_bad_lengths b h) (lengths low)
  none_below n small kind version num lengths faults.ContentCut low h = absurd (omega arith)
  none_below n small kind version num lengths other low h = h

  -- the first rule that the lines break is the fault
  pub unlawful : is_lawful number headers ≡ false → IsCutFault number text (header_fault number headers)
  unlawful broken =
      cases (has_bad_kind headers) (has_bad_version number headers) (has_bad_number headers)
      (has_bad_lengths headers) refl refl refl refl
    where
      cases : (k v n l : Bool) → has_bad_kind headers ≡ k → has_bad_version number headers ≡ v
          → has_bad_number headers ≡ n → has_bad_lengths headers ≡ l
          → IsCutFault number text (header_fault number headers)
      cases true v n l is-k is-v is-n is-l = rw is-k record {
        holds = (headers, after, b, is-k);
        least = none_below 3 (omega arith) (λ low. absurd (omega arith)) (λ low. absurd (omega arith))
            (λ low. absurd (omega arith)) (λ low. absurd (omega arith));
      }
      cases false true n l is-k is-v is-n is-l = rw (is-k, is-v) record {
        holds = (headers, after, b, is-v);
        least = none_below 4 (omega arith) (λ low. is-k) (λ low. absurd (omega arith)) (λ low. absurd (omega arith))
            (λ low. absurd (omega arith));
      }
      cases false false true l is-k is-v is-n is-l = rw (is-k, is-v, is-n) record {
        holds = (headers, after, b, is-n);
        least = none_below 5 (omega arith) (λ low. is-k) (λ low. is-v) (λ low. absurd (omega arith))
            (λ low. absurd (omega arith));
      }
      cases false false false true is-k is-v is-n is-l = rw (is-k, is-v, is-n) record {
        holds = (headers, after, b, is-l);
        least = none_below 6 (omega arith) (λ low. is-k) (λ low. is-v) (λ low. is-n) (λ low. absurd (omega arith));
      }
      cases false false false false is-k is-v is-n is-l =
          let all : is_lawful number headers ≡ true = rw (is-k, is-v, is-n, is-l) refl in
          absurd (absurd_bool _ all broken)

  -- there are too few bytes after lawful lines
  pub cut_short : is_lawful number headers ≡ true → length after < property_length headers + text_length headers
      → IsCutFault number text faults.ContentCut
  cut_short lawful short =
      let kept = keeps number headers lawful in
      record {
        holds = (headers, after, b, short);
        least = none_below 7 (omega arith) (λ low. false_from_ne_true _ kept.kind) (λ low. false_from_ne_true _ kept.version)
            (λ low. false_from_ne_true _ kept.number_ok) (λ low. false_from_ne_true _ kept.lengths);
      }

-- the record between the places that its lengths give
pub standing : (dump : List ℕ) (number place props_from text_from after version props text : ℕ)
    → IsBlockBetween dump place props_from
    → is_lawful number (headers_between dump place props_from) ≡ true
    → props ≡ property_length (headers_between dump place props_from)
    → text ≡ text_length (headers_between dump place props_from)
    → text_from ≡ props_from + props → after ≡ text_from + text → after ≤ length dump
    → BeginsWithRecord number (drop place dump) (record_between dump place props_from text_from after version)
    (drop after dump)
standing dump number place props_from text_from after version props text stands lawful props_is text_is text_at
    after_at end =
    let b = stands.block in
    let headers = headers_between dump place props_from in
    let props_count : text_from - props_from ≡ props = omega arith in
    let text_count : after - text_from ≡ text = omega arith in
    let cut : (from to : ℕ) → from ≤ to → drop from dump ≡ slice_range dump from to ++ drop to dump = λ from to low.
    sym (take-append-drop (to - from) (drop from dump))
    ∙ ap (λ t. take (to - from) (drop from dump) ++ t)
    (drop-drop (to - from) from dump ∙ ap (λ n. drop n dump) (omega arith)) in
    let size : (from to : ℕ) → from ≤ to → to ≤ length dump
    → length (slice_range dump from to) ≡ to - from = λ from to low high.
    length-take-le (to - from) (drop from dump) (let whole = length-drop from dump in omega arith) in
    record {
      block = b.block;
      lawful = lawful;
      props_fit = size props_from text_from (omega arith) (omega arith) ∙ props_count ∙ props_is;
      text_fits = size text_from after (omega arith) end ∙ text_count ∙ text_is;
      spelled = b.spelled ∙ ap (λ t. block_text headers ++ t) (cut props_from text_from (omega arith))
          ∙ sym (append_assoc (block_text headers) (slice_range dump props_from text_from) (drop text_from dump))
          ∙ ap (λ t. (block_text headers ++ slice_range dump props_from text_from) ++ t)
          (cut text_from after (omega arith))
          ∙ sym (append_assoc (block_text headers ++ slice_range dump props_from text_from)
          (slice_range dump text_from after) (drop after dump));
    }

-- the LFs before another byte, or up to the end
pub gap_at : (text : List ℕ) (i : ℕ) → take i text ≡ line_feeds i → i < length text → get_or text i 0 ≢ 10
    → IsGap text i
gap_at text i front below other = record {
  bound = omega arith;
  spelled = sym (take-append-drop i text) ∙ ap (λ t. t ++ drop i text) front;
  stop = ap starts_with_lf (drop_more text i 0 below) ∙ ne_eqb (get_or text i 0) 10 other;
}

-- a text that is all LFs is a gap to its end
pub gap_whole : (text : List ℕ) (i : ℕ) → take i text ≡ line_feeds i → length text ≤ i → i ≤ length text
    → IsGap text (length text)
gap_whole text i front end bound =
    let is : i ≡ length text = omega arith in
    subst (IsGap text) is record {
      bound = bound;
      spelled = sym (take-append-drop i text) ∙ ap (λ t. t ++ drop i text) front;
      stop = ap starts_with_lf (drop_all i text end);
    }

-- the error that `?` returns is the error of the call
pub handed_on : {T : Type 0} (r : Result T FaultKind) (P : FaultKind → Type 0) (fault : FaultKind)
    → IsErrAnd r (λ e. e ≡ fault) → P fault → IfErr r P
handed_on (Ok x) P fault is holds = tt
handed_on (Err e) P fault is holds = subst P (sym is) holds

-- what the lines of a block say about the place at which the block is
module _ (dump : List ℕ) (place number : ℕ) (b : Block) (dump_is : block_dump b ≡ dump)
    (place_is : block_place b ≡ place) where
  here : IsBlockBetween dump place (block_after b)
  here = subst (λ (d : List ℕ). IsBlockBetween d place (block_after b)) dump_is
      (subst (λ (p : ℕ). IsBlockBetween (block_dump b) p (block_after b)) place_is b.stands)

  headers_here : block_headers b ≡ headers_between dump place (block_after b)
  headers_here = ap (λ d. headers_between d (block_place b) (block_after b)) dump_is
      ∙ ap (λ p. headers_between dump p (block_after b)) place_is

  -- the first rule that the lines break is the fault at this place
  pub unlawful_here : (fault : FaultKind) → IsUnlawful number (block_headers b) fault
      → IsCutFault number (drop place dump) fault
  unlawful_here fault found =
      let headers = headers_between dump place (block_after b) in
      let broken : is_lawful number headers ≡ false = ap (is_lawful number) (sym headers_here) ∙ found.0 in
      let which : fault ≡ header_fault number headers = found.1 ∙ ap (header_fault number) headers_here in
      subst (IsCutFault number (drop place dump)) (sym which)
      (unlawful number (drop place dump) headers (drop (block_after b) dump) here.block broken)

  -- content that is longer than the rest of the dump is the fault of the record at this place
  pub short_here : (lengths : Lengths) → LengthsOf number (block_headers b) lengths
      → length dump - block_after b < lengths.props + lengths.text
      → IsCutFault number (drop place dump) faults.ContentCut
  short_here lengths found short =
      let headers = headers_between dump place (block_after b) in
      let props_is : lengths.props ≡ property_length headers = found.props_is ∙ ap property_length headers_here in
      let text_is : lengths.text ≡ text_length headers = found.text_is ∙ ap text_length headers_here in
      let left = length-drop (block_after b) dump in
      cut_short number (drop place dump) headers (drop (block_after b) dump) here.block
      (ap (is_lawful number) (sym headers_here) ∙ found.lawful) (omega arith)

-- the record of a block with these lines and lengths is at its place
pub stands_here : (number : ℕ) (b : Block) (header : RecordHeader) (lengths : Lengths)
    (before version text_from after : ℕ)
    → IsHeaderOf (block_dump b) (block_headers b) header → LengthsOf number (block_headers b) lengths
    → version ≡ unwrap_or (version_in header.parts) before
    → lengths.props + lengths.text ≤ length (block_dump b) - block_after b
    → text_from ≡ block_after b + lengths.props → after ≡ text_from + lengths.text
    → StandsAt number before b text_from after version
stands_here number b header lengths before version text_from after says found in_force fits text_at after_at =
    let bound = b.stands.inside in
    record {
      version_is = in_force ∙ version_said (block_dump b) (block_headers b) header.parts before says.kind;
      inside = record { props = omega arith; text = omega arith; end = omega arith };
      stands = standing (block_dump b) number (block_place b) (block_after b) text_from after version lengths.props
          lengths.text b.stands found.lawful found.props_is found.text_is text_at after_at (omega arith);
    }
