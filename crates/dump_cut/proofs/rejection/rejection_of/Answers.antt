use Rattle.std.proofs.Common.{◌≡◌, Option, None, sym, ap, ◌∙◌}
use Rattle.dump_trees.specs.steps.LoadCheck.{kind_made}
use Rattle.dump_trees.specs.Paths.{names_of}
use Rattle.dump_trees.specs.Restriction.{is_root}
use Rattle.dump_index.specs.steps.Listed.{listed_of}
use Rattle.dump_cut.specs.steps.Rejections.{first_reason, making_rejected, setting_rejected}
use Rattle.dump_cut.specs.steps.KindViews.{kinds_meant, sets_some}
use Rattle.dump_cut.specs.declared.rejection.Rejection.{Rejection}
use Rattle.dump_cut.proofs.RejectionLemmas.{listed_rejected}
use Rattle.dump_cut.proofs.rejection.rejection_of.Goals as goal

-- if there is no first reason, the other one counts
goes_on : (one other : Option Rejection) → one ≡ None → first_reason one other ≡ other
goes_on one other none = ap (λ reason. first_reason reason other) none

pub returns : goal.returns
returns c p its =
    let l = listed_of c.args.change.now in
    let kinds = kinds_meant c.args.kinds.now in
    let root = is_root (names_of l.path) in
    sym (listed_rejected l p its kinds
    ∙ goes_on _ _ (sym c.deletion_rejected.ensures ∙ c.in_default.is)
    ∙ goes_on _ _ (ap (λ left. making_rejected l.made root left kinds) (sym c.left_by-left.ensures)
    ∙ sym c.making_rejected.ensures ∙ c.in_default-making_rejected.is)
    ∙ ap (λ left. setting_rejected (sets_some l.props) (sets_some l.text) (kind_made l.made left kinds.source)) (sym c.left_by-left.ensures)
    ∙ ap (setting_rejected (sets_some l.props) (sets_some l.text)) (sym c.made_by.ensures)
    ∙ sym c.setting_rejected.ensures)
