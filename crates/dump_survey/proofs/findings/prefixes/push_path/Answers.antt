use Rattle.std.proofs.Common.{sym, ap, ◌++◌, ◌∙◌, List, ℕ}
use Rattle.dump_survey.proofs.PrefixLemmas.{text_put}
use Rattle.dump_survey.proofs.findings.prefixes.push_path.Goals as goal

pub returns : goal.returns
returns c = c.in_ok-extend_from_slice.ensures.items
    ∙ (ap (λ (t : List ℕ). t ++ c.bare_path-top.result.now) c.in_ok-push.ensures.items
    ∙ text_put c.args.path.now c.bare_path-top.result.now c.args.text.now.items c.bare_path-top.ensures
    (sym c.is_empty.ensures ∙ c.if-is_empty.false))
