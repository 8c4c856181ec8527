use Rattle.dump_changes.proofs.Prelude.{refl}
use Rattle.std.proofs.Common.{rules}
use Rattle.std.proofs.lemmas.Fn.{filter_same}
use Rattle.dump_changes.proofs.EditLemmas.{has_other_name, set_last, taken_away}
use Rattle.dump_changes.proofs.property_edit.apply_entry.Goals as goal

pub returns-in_ok-push : goal.returns-in_ok-push
returns-in_ok-push c =
    set_last c.args.entry.now c.args.props.now.items c.retain.new.self.items
    (filter_same _ (has_other_name c.args.entry.now.name.now) _ (λ p b f k. search rules) c.args.props.now.items c.retain.new.self.items
    c.retain.ensures.filtered)
    c.push.new.self.items _ (search rules) c.in_ok-push.ensures.items refl refl

pub returns-else-not-entry : goal.returns-else-not-entry
returns-else-not-entry c =
    taken_away c.args.entry.now c.args.props.now.items c.retain.new.self.items
    (filter_same _ (has_other_name c.args.entry.now.name.now) _ (λ p b f k. search rules) c.args.props.now.items c.retain.new.self.items
    c.retain.ensures.filtered)
    (search rules)
