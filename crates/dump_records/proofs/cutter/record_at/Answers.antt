use Rattle.dump_records.proofs.Prelude.{◌≡◌, ℕ, ◌+◌, ◌-◌, ◌≤◌, List, sym, subst, drop, length, arith, refl, ap, ◌∙◌, unwrap_or, HasBlock, Block, block_dump, block_place, block_after, block_headers, IsCutFault, version_in, RecordHeader, Lengths, IsHeaderOf, LengthsOf, StandsAt}
use Rattle.dump_records.proofs.CutLemmas.{own_record, item_record, item_cut, item_room}
use Rattle.dump_records.proofs.PartLemmas.{handed_on, no_block, unlawful_here, short_here, stands_here}
use Rattle.dump_records.proofs.cutter.record_at.Goals as goal

pub returns-in_err-headers-clause-fault : goal.returns-in_err-headers-clause-fault
returns-in_err-headers-clause-fault c =
    let text = drop c.args.place c.args.dump.now in
    let none : ¬ HasBlock text = λ has. let bad = c.in_err-headers.ensures.found.1 has in cc in
    handed_on _ _ _ c.from_residual.ensures.1
    (subst (IsCutFault c.args.number text) (sym c.in_err-headers.ensures.fault) (no_block c.args.number text none))

pub returns-in_err-found-clause-fault : goal.returns-in_err-found-clause-fault
returns-in_err-found-clause-fault c =
    let h = c.in_ok-headers in
    handed_on _ _ _ c.from_residual-in_err-found.ensures.1
    (unlawful_here c.args.dump.now c.args.place c.args.number h.headers.block h.ensures.dump h.ensures.place
    _ c.in_err-found.ensures)

pub returns-then-left-lengths-clause-fault : goal.returns-then-left-lengths-clause-fault
returns-then-left-lengths-clause-fault c =
    let h = c.in_ok-headers in
    let same = c.block-block.ensures in
    let short = c.if-left-lengths.true in
    let after = c.after.ensures in
    short_here c.args.dump.now c.args.place c.args.number c.block-block.result (ap block_dump same ∙ h.ensures.dump)
    (ap block_place same ∙ h.ensures.place)
    c.in_ok-found.found.1 (subst (λ b. LengthsOf c.args.number (block_headers b) c.in_ok-found.found.1)
    (sym same) c.in_ok-found.ensures.1)
    (omega arith)

-- what is read of a block that was cut at a place of the dump: the record that is there
record IsReadAt (dump : List ℕ) (number place before : ℕ) (b : Block) (header : RecordHeader) (text_from after : ℕ)
    : Type 0 where
  dump_is : block_dump b ≡ dump
  place_is : block_place b ≡ place
  says : IsHeaderOf (block_dump b) (block_headers b) header
  stands : StandsAt number before b text_from after header.version

read_at : (dump : List ℕ) (number place before : ℕ) (cut b : Block) (header : RecordHeader) (lengths : Lengths)
    (text_from after : ℕ)
    → b ≡ cut → block_dump cut ≡ dump → block_place cut ≡ place
    → IsHeaderOf (block_dump cut) (block_headers cut) header × LengthsOf number (block_headers cut) lengths
    × (header.version ≡ unwrap_or (version_in header.parts) before)
    → lengths.props + lengths.text ≤ length dump - block_after b
    → text_from ≡ block_after b + lengths.props → after ≡ text_from + lengths.text
    → IsReadAt dump number place before b header text_from after
read_at dump number place before cut b header lengths text_from after same dump_is place_is found fits from to =
    let size = ap length (ap block_dump same ∙ dump_is) in
    let says = subst (λ (x : Block). IsHeaderOf (block_dump x) (block_headers x) header) (sym same) found.0 in
    record {
      dump_is = ap block_dump same ∙ dump_is;
      place_is = ap block_place same ∙ place_is;
      says = says;
      stands = stands_here number b header lengths before _ _ _ says
          (subst (λ (x : Block). LengthsOf number (block_headers x) lengths) (sym same) found.1) found.2
          (omega arith) from to;
    }

pub invariant_of-result : goal.invariant_of-result
invariant_of-result c =
    let h = c.in_ok-headers in
    let it = read_at c.args.dump.now c.args.number c.args.place c.args.version h.headers.block c.block-block.result _
    c.in_ok-found.found.1 _ _ c.block-block.ensures h.ensures.dump h.ensures.place c.in_ok-found.ensures
    (omega (arith, c.if-left-lengths.false, c.after.ensures)) (omega (arith, c.after-2.ensures)) refl in
    let room : c.args.number + 1 ≤ length c.args.dump.now =
    item_room _ _ _ c.args.version _ _ _ _ c.requires it.dump_is it.place_is it.stands in
    record {
      says = it.says;
      counted = omega arith;
      inside = it.stands.inside;
      stands = it.stands.stands;
      numbered = ∣ own_record _ _ _ c.args.version _ _ _ _ c.requires it.dump_is it.place_is it.stands ∣₁;
    }

pub returns-clause-next : goal.returns-clause-next
returns-clause-next c =
    let h = c.in_ok-headers in
    let it = read_at c.args.dump.now c.args.number c.args.place c.args.version h.headers.block c.block-block.result _
    c.in_ok-found.found.1 _ _ c.block-block.ensures h.ensures.dump h.ensures.place c.in_ok-found.ensures
    (omega (arith, c.if-left-lengths.false, c.after.ensures)) (omega (arith, c.after-2.ensures)) refl in
    record {
      dump_is = it.dump_is;
      number_is = refl;
      item = item_record _ _ _ c.args.version _ _ _ _ c.requires it.dump_is it.place_is it.stands;
      cut = item_cut _ _ _ c.args.version _ _ _ _ c.requires it.dump_is it.place_is it.stands;
    }
