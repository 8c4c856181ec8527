use Rattle.dump_text.proofs.Prelude.{◌++◌, ◌∙◌, arith, ap, sym, subst, take, take-append-drop, name_text, noted_span, IsSpanOf, header_value, headers_of}
use Rattle.dump_text.proofs.BlockLemmas.{block_there, all_left, lines_there}
use Rattle.dump_text.proofs.headers.Headers.read.Goals as goal

pub block_at-requires : goal.block_at-requires
block_at-requires c =
    let dump = c.args.dump.now in (
      take c.args.place dump,
      sym (take-append-drop c.args.place dump)
          ∙ ap (λ t. take c.args.place dump ++ t) (sym (all_left dump c.args.place)),
    )

pub invariant_of-block : goal.invariant_of-block
invariant_of-block c =
    let dump = c.args.dump.now in
    record {
      stands = block_there dump _ c.args.place c.in-Some.found.0 (all_left dump c.args.place)
          (omega arith) c.in-Some.ensures.0;
    }

pub invariant_of-result : goal.invariant_of-result
invariant_of-result c =
    let dump = c.args.dump.now in
    record {
      known = λ name. subst (λ t. IsSpanOf dump (noted_span c.in-Some.found.1 name)
          (header_value (name_text name) (headers_of t)))
          (lines_there dump _ c.args.place c.in-Some.found.0 (all_left dump c.args.place)) (c.in-Some.ensures.1 name);
    }
