use Rattle.dump_survey.proofs.Prelude.{List, ℕ, bytes_eq, map, subst, AreWithout}
use Rattle.dump_survey.proofs.LeavingLemmas.{text_removed, within_less}
use Rattle.dump_survey.proofs.findings.prefix_set.PrefixSet.remove.Goals as goal

pub invariant_of-self : goal.invariant_of-self
invariant_of-self c =
    rw c.remove.ensures.keys (within_less (λ prefix. prefix.items) _ c.self.inside.longest c.self.inside.bare.keys
    c.self.invariant)

pub returns : goal.returns
returns c =
    subst (λ (old : List (List ℕ)). AreWithout (λ other. bytes_eq other c.args.text.now) old
    (map (λ prefix. prefix.items) c.remove.new.self.keys)) c.self.view_is
    (text_removed (λ prefix. prefix.items) c.args.text.now c.self.inside.bare.keys c.remove.new.self.keys
    c.remove.ensures.keys c.remove.ensures.updates.1)
