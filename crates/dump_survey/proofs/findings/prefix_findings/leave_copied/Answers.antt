use Rattle.dump_survey.proofs.Prelude.{List, ℕ, sym, ap, ◌∙◌, subst, record_item, bare_path, begins_path, AreWithout}
use Rattle.dump_survey.proofs.IdleLemmas.{copy_leaves, no_copy_leaves}
use Rattle.dump_survey.proofs.findings.prefix_findings.leave_copied.Goals as goal

pub returns-then-makes_copy : goal.returns-then-makes_copy
returns-then-makes_copy c =
    let r = record_item c.args.item.now in
    copy_leaves r c.args.idle.now
    (sym c.is_node.ensures ∙ c.if-not-is_node.false)
    c.leave_below.new.self (sym c.makes_copy.ensures ∙ c.if-makes_copy.true)
    (subst (λ (path : List ℕ). AreWithout (λ text. begins_path path text) c.args.idle.now c.leave_below.new.self)
    (c.bare_path.ensures ∙ ap bare_path c.path_of.ensures) c.leave_below.ensures)

pub returns-else-makes_copy : goal.returns-else-makes_copy
returns-else-makes_copy c =
    let r = record_item c.args.item.now in
    no_copy_leaves r c.args.idle.now
    (sym c.is_node.ensures ∙ c.if-not-is_node.false)
    (sym c.makes_copy.ensures ∙ c.if-makes_copy.false)
