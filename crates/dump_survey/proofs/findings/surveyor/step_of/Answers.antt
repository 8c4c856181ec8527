use Rattle.dump_survey.proofs.Prelude.{subst, refl, sym, ap, ◌∙◌, option_map, record_item, Numbers, Present, IsFoundIn}
use Rattle.dump_survey.proofs.findings.surveyor.step_of.Goals as goal

pub returns : goal.returns
returns c = (
  refl,
  sym c.is_node.ensures ∙ c.if-not-is_node.false,
  ap (option_map (λ (p : Present). p.number)) c.in-Some.is,
  subst (λ (n : Numbers). IsFoundIn c.args.options.now n (record_item c.args.item) c.in_ok-found.found)
      c.numbers-numbers.ensures c.in_ok-found.ensures,
)
