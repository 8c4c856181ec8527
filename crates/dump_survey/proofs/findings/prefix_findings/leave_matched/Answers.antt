use Rattle.dump_survey.proofs.Prelude.{List, ℕ, sym, ap, ◌∙◌, subst, record_item, bare_path, begins_path, AreWithout}
use Rattle.dump_survey.proofs.IdleLemmas.{both_leave, path_leaves}
use Rattle.dump_survey.proofs.findings.prefix_findings.leave_matched.Goals as goal

pub returns-then-is_copy : goal.returns-then-is_copy
returns-then-is_copy c =
    let r = record_item c.args.item.now in
    both_leave r c.args.idle.now c.leave.new.self
    (sym c.is_node.ensures ∙ c.if-not-is_node.false)
    (subst (λ (path : List ℕ). AreWithout (λ text. begins_path text path) c.args.idle.now c.leave.new.self)
    (c.bare_path.ensures ∙ ap bare_path c.path_of.ensures) c.leave.ensures)
    c.leave-then-is_copy.new.self (sym c.is_copy.ensures ∙ c.if-is_copy.true)
    (subst (λ (path : List ℕ). AreWithout (λ text. begins_path text path) c.leave.new.self c.leave-then-is_copy.new.self)
    (c.bare_path-then-is_copy.ensures ∙ ap bare_path c.copy_path_of.ensures) c.leave-then-is_copy.ensures)

pub returns-else-is_copy : goal.returns-else-is_copy
returns-else-is_copy c =
    let r = record_item c.args.item.now in
    path_leaves r c.args.idle.now c.leave.new.self
    (sym c.is_node.ensures ∙ c.if-not-is_node.false)
    (subst (λ (path : List ℕ). AreWithout (λ text. begins_path text path) c.args.idle.now c.leave.new.self)
    (c.bare_path.ensures ∙ ap bare_path c.path_of.ensures) c.leave.ensures)
    (sym c.is_copy.ensures ∙ c.if-is_copy.false)
