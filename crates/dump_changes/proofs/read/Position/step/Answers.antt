use Rattle.dump_changes.proofs.Prelude.{refl, sym, record_item}
use Rattle.dump_filter.proofs.groups.KindLemmas.{found_kind}
use Rattle.dump_changes.specs.steps.ListedDumps.{OtherRecord}
use Rattle.dump_changes.proofs.StepLemmas.{is_other}
use Rattle.dump_changes.proofs.read.Position.step.Goals as goal

pub returns-in_default-clause-reading : goal.returns-in_default-clause-reading
returns-in_default-clause-reading c patched records placed reads =
    let its = is_other (record_item c.args.item.now) c.kind.result (found_kind {item = c.args.item.now} {same = c.args.item.now} refl (sym c.kind.ensures))
    c.in_default.not-Revision c.in_default.not-Node in
    OtherRecord c.args.self.now.present (record_item c.args.item.now) records placed its.1 its.0 reads

pub returns-in_default-clause-first : goal.returns-in_default-clause-first
returns-in_default-clause-first c =
    let its = is_other (record_item c.args.item.now) c.kind.result (found_kind {item = c.args.item.now} {same = c.args.item.now} refl (sym c.kind.ensures))
    c.in_default.not-Revision c.in_default.not-Node in
    (λ none. (none, its.1), λ none isnt. none)
