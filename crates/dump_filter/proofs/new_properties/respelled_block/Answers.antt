use Rattle.dump_filter.proofs.Prelude.{◌≡◌, ℕ, List, sym, subst, ◌∙◌, property_block_text, record_item, made_or}
use Rattle.std.proofs.lemmas.Result.{IfOk-weaker}
use Rattle.dump_filter.proofs.written.PropertyOutput.{read_block, block_with, block_without}
use Rattle.dump_filter.proofs.new_properties.respelled_block.Goals as goal

pub returns-then-has_props : goal.returns-then-has_props
returns-then-has_props c =
    let r = record_item c.args.item.now in
    IfOk-weaker c.respelled.result _ _ (λ made written ps is.
    subst (λ (own : List ℕ). made_or made own ≡ property_block_text ps) c.requires
    (written ps (read_block r c.args.props.now c.requires ps is))
    ∙ block_with r ps (sym c.has_props.ensures ∙ c.if-has_props.true))
    c.respelled.ensures

pub returns-else-has_props : goal.returns-else-has_props
returns-else-has_props c ps is =
    block_without (record_item c.args.item.now) ps (sym c.has_props.ensures ∙ c.if-has_props.false)
    c.args.item.now.stands.props_fit
