use Rattle.std.proofs.Common.{◌∙◌, ◌++◌, ap, ap₂, take, drop}
use Rattle.std.proofs.lemmas.List.{take_rest}
use Rattle.dump_cut.proofs.later.later_part.Goals as goal

pub returns : goal.returns
returns c =
    let dump = c.args.dump.now in
    record {
      part = λ records has.
          ap₂ (λ a b. a ++ b) (ap (λ n. take n dump) (c.first_place-head.ensures.place records has))
          (take_rest dump c.first_place-later.result
          ∙ ap (λ n. drop n dump) (c.first_place-later.ensures.place records has));
      head = λ records has. ap (λ n. take n dump) (c.first_place-head.ensures.place records has);
    }
