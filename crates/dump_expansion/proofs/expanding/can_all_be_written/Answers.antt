use Rattle.std.proofs.Common.{◌≡◌, false, sym, ◌∙◌, arith}
use Rattle.std.proofs.lemmas.Grind.{common_steps}
use Rattle.std.proofs.lemmas.List.Folds.{list_all-map}
use Rattle.std.specs.List.{list_all}
use Rattle.dump_history.specs.WrittenNodes.{can_be_written}
use Rattle.dump_expansion.specs.steps.GivenSteads.{GivenStead}
use Rattle.dump_expansion.specs.steps.Given.{given_of}
use Rattle.dump_expansion.specs.declared.expanding.Stead.{Stead}
use Rattle.dump_expansion.proofs.expanding.can_all_be_written.Goals as goal

pub returns-then-not-can_be_written : goal.returns-then-not-can_be_written
returns-then-not-can_be_written c =
    let steads = c.args.steads.now in
    let fails : false ≡ list_all (λ (s : Stead). list_all can_be_written (given_of s).nodes) steads =
    grind (arith, common_steps) in
    fails ∙ sym (list_all-map (λ (g : GivenStead). list_all can_be_written g.nodes) given_of steads)
