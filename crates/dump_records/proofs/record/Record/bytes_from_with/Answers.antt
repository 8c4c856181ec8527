use Rattle.dump_records.proofs.Prelude.{◌≡◌, ap, ap₂, slice_range, take, drop, ◌++◌, ◌+◌, ◌∙◌, length, ◌==◌, sym, arith, Decides-eqb, take_rest, slice_eq-Decides, starts_with}
use Rattle.dump_records.proofs.RecordLemmas.{end_of_record}
use Rattle.dump_records.proofs.RestLemmas.{slice_join}
use Rattle.dump_records.proofs.record.Record.bytes_from_with.Goals as goal

pub returns-then-starts_with-clause-lent : goal.returns-then-starts_with-clause-lent
returns-then-starts_with-clause-lent c =
    let after = c.args.self.now.after in
    let from = c.start_of.result in
    let dump = c.dump-dump.result.now in
    let end = c.args.end.now in
    let same : end ≡ take (length end) (drop after dump) =
    (slice_eq-Decides Decides-eqb end _ c.starts_with.result c.starts_with.ensures.value).0 c.if-starts_with.true
    ∙ ap (λ t. take (length end) t) (take_rest dump after) in
    let behind : slice_range dump after (after + length end) ≡ end =
    ap (λ n. take n (drop after dump)) (omega arith) ∙ sym same in
    slice_join dump from after (after + length end) c.start_of.ensures.inside (omega arith)
    ∙ ap₂ (λ front back. front ++ back)
    (ap (λ d. slice_range d from after) c.dump-dump.ensures ∙ c.start_of.ensures.rest) behind

pub returns-then-starts_with-clause-there : goal.returns-then-starts_with-clause-there
returns-then-starts_with-clause-there c =
    let r = c.args.self.now in
    let same = ap₂ (λ n d. starts_with ◌==◌ (drop n d) c.args.end.now) (end_of_record r) (sym c.dump-dump.ensures) in
    sym (same ∙ ap (λ t. starts_with ◌==◌ t c.args.end.now) (sym (take_rest c.dump-dump.result.now r.after))
    ∙ sym c.starts_with.ensures.value ∙ c.if-starts_with.true)

pub returns-else-starts_with-clause-there : goal.returns-else-starts_with-clause-there
returns-else-starts_with-clause-there c =
    let r = c.args.self.now in
    let same = ap₂ (λ n d. starts_with ◌==◌ (drop n d) c.args.end.now) (end_of_record r) (sym c.dump-dump.ensures) in
    sym (same ∙ ap (λ t. starts_with ◌==◌ t c.args.end.now) (sym (take_rest c.dump-dump.result.now r.after))
    ∙ sym c.starts_with.ensures.value ∙ c.if-starts_with.false)
