use Rattle.dump_pipeline.proofs.Prelude.{rules, ◌+◌, ◌<◌, ◌^◌, Record, EndsAfter, LastWord, ending_of}
use Rattle.dump_pipeline.proofs.Ends.{for_err}
use Rattle.dump_pipeline.proofs.message.Job.last.Goals as goal

pub invariant_of-result : goal.invariant_of-result
invariant_of-result g c =
    let word : LastWord = record { number = c.args.number; end = c.args.end } in record {
      item = search rules;
      last = for_err {T = Record} (λ (w : LastWord). ∥ EndsAfter g.D.Run.dump w.number (ending_of w.end) ∥₁) word
          c.requires.ends;
      counted = for_err {T = Record} (λ (w : LastWord). w.number + 1 < 2 ^ 64) word c.requires.few;
    }
