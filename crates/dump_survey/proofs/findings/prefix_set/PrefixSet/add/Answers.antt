use Rattle.dump_survey.proofs.Prelude.{◌≡◌, ◌||◌, ◌++◌, ◌∷◌, [], ℕ, List, length, bytes_eq, sym, ap, ◌∙◌, arith, list_any, bare_prefix, begins_path}
use Rattle.dump_survey.proofs.ParentLemmas.{any_inserted, any_pushed, begin_more, within_more}
use Rattle.dump_survey.proofs.findings.prefix_set.PrefixSet.add.Goals as goal

pub invariant_of-self : goal.invariant_of-self
invariant_of-self c = rw c.in_err-insert.ensures.err c.self.invariant

pub invariant_of-self-2 : goal.invariant_of-self-2
invariant_of-self-2 c =
    let size : length c.in_ok-copy.copy.items ≡ length c.bare_prefix-bare.result.now = ap length c.in_ok-copy.ensures.items in
    rw c.in_ok-insert.ensures.keys (within_more (λ prefix. prefix.items) c.self.inside.bare.keys c.in_ok-copy.copy
    c.self.inside.longest c.max-self-inside.result (omega arith) (omega arith) c.self.invariant)

pub returns-clause-added : goal.returns-clause-added
returns-clause-added c =
    let bare : c.in_ok-copy.copy.items ≡ bare_prefix c.args.prefix.now = c.in_ok-copy.ensures.items ∙ c.bare_prefix-bare.ensures in
    rw c.in_ok-insert.ensures.keys (λ path.
    begin_more (λ prefix. prefix.items) c.self.inside.bare.keys c.in_ok-copy.copy c.args.self.now
    (λ other. ap (list_any (λ (prefix : List ℕ). begins_path prefix other)) c.self.view_is) path
    ∙ ap (λ (text : List ℕ). list_any (λ (prefix : List ℕ). begins_path prefix path) (c.args.self.now ++ text ∷ [])) bare)

pub returns-clause-has : goal.returns-clause-has
returns-clause-has c =
    let bare : c.in_ok-copy.copy.items ≡ bare_prefix c.args.prefix.now = c.in_ok-copy.ensures.items ∙ c.bare_prefix-bare.ensures in
    rw c.in_ok-insert.ensures.keys (λ text.
    let is = λ (other : List ℕ). bytes_eq text other in
    any_inserted (λ prefix. prefix.items) is c.in_ok-copy.copy c.self.inside.bare.keys
    ∙ (ap (λ (texts : List (List ℕ)). is c.in_ok-copy.copy.items || list_any is texts) c.self.view_is
    ∙ (sym (any_pushed is c.args.self.now c.in_ok-copy.copy.items)
    ∙ ap (λ (t : List ℕ). list_any is (c.args.self.now ++ t ∷ [])) bare)))
