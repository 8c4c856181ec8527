use Rattle.dump_digest.proofs.Prelude.{refl, sym, ap, ◌∙◌, Settings, is_outside}
use Rattle.dump_digest.proofs.done.Done.merge_fault.Goals as goal

pub returns-then-content : goal.returns-then-content
returns-then-content c kept ps block =
    let said = c.args.self.now.judged.said kept c.if-not-content.false ps block in
    let some = sym said.sources ∙ c.if-content.true in
    rw (c.if-not-content.false, some) refl

pub returns-then-has_foreign_number : goal.returns-then-has_foreign_number
returns-then-has_foreign_number c kept ps block =
    let said = c.args.self.now.judged.said kept c.if-not-content.false ps block in
    let none = sym said.sources ∙ c.if-content.false in
    let foreign = sym (said.numbers c.args.first c.args.present c.ranges.first.fits)
    ∙ ap (λ (s : Settings). is_outside s c.args.first c.args.present c.args.self.now.content.numbers) (sym c.requires)
    ∙ sym c.has_foreign_number.ensures ∙ c.if-has_foreign_number.true in
    rw (c.if-not-content.false, none, foreign) refl

pub returns-else-has_foreign_number : goal.returns-else-has_foreign_number
returns-else-has_foreign_number c kept ps block =
    let said = c.args.self.now.judged.said kept c.if-not-content.false ps block in
    let none = sym said.sources ∙ c.if-content.false in
    let foreign = sym (said.numbers c.args.first c.args.present c.ranges.first.fits)
    ∙ ap (λ (s : Settings). is_outside s c.args.first c.args.present c.args.self.now.content.numbers) (sym c.requires)
    ∙ sym c.has_foreign_number.ensures ∙ c.if-has_foreign_number.false in
    rw (c.if-not-content.false, none, foreign) refl
