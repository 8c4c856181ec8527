use Rattle.dump_survey.proofs.Prelude.{bytes_eq, ap, ◌∙◌, List, ℕ, list_any}
use Rattle.dump_survey.proofs.ParentLemmas.{any_found}
use Rattle.dump_survey.proofs.findings.prefix_set.PrefixSet.has.Goals as goal

pub returns : goal.returns
returns c =
    c.contains.ensures
    ∙ any_found (λ prefix. prefix.items) c.args.text.now c.self.inside.bare.keys
    ∙ ap (list_any (λ (prefix : List ℕ). bytes_eq c.args.text.now prefix)) c.self.view_is
