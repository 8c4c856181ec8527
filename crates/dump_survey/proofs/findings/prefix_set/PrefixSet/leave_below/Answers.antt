use Rattle.dump_survey.proofs.Prelude.{◌≡◌, List, ℕ, not, filter, map, rules, subst, filter_same, begins_path, AreWithout}
use Rattle.dump_survey.proofs.LeavingLemmas.{texts_filtered, within_filtered}
use Rattle.dump_survey.proofs.findings.prefix_set.PrefixSet.leave_below.Goals as goal

pub invariant_of-self : goal.invariant_of-self
invariant_of-self c =
    let left : c.retain.new.self.keys ≡ filter (λ k. not (begins_path c.args.path.now k.items)) c.self.inside.bare.keys =
    filter_same _ _ _ (λ x b f' k. search rules) _ _ c.retain.ensures.filtered in
    rw left (within_filtered (λ prefix. prefix.items) (λ text. begins_path c.args.path.now text) c.self.inside.longest
    c.self.inside.bare.keys c.self.invariant)

pub returns : goal.returns
returns c =
    let left : c.retain.new.self.keys ≡ filter (λ k. not (begins_path c.args.path.now k.items)) c.self.inside.bare.keys =
    filter_same _ _ _ (λ x b f' k. search rules) _ _ c.retain.ensures.filtered in
    rw left (subst (λ (old : List (List ℕ)). AreWithout (λ text. begins_path c.args.path.now text) old
    (map (λ prefix. prefix.items) (filter (λ k. not (begins_path c.args.path.now k.items)) c.self.inside.bare.keys)))
    c.self.view_is
    (texts_filtered (λ prefix. prefix.items) (λ text. begins_path c.args.path.now text) c.self.inside.bare.keys))
