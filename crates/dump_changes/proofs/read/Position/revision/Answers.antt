use Rattle.std.proofs.Common.{◌≤◌, arith, le-leb}
use Rattle.dump_changes.proofs.Prelude.{record_item}
use Rattle.dump_changes.proofs.StepLemmas.{own_number, revision_counts, revision_reads, revision_rises}
use Rattle.dump_changes.proofs.read.Position.revision.Goals as goal

pub returns-clause-reading : goal.returns-clause-reading
returns-clause-reading c patched records placed reads =
    revision_reads patched c.args.self.now.present c.in-Some.number (record_item c.args.item.now)
    records placed c.requires.revision c.requires.node c.in-Some.ensures reads

pub returns-clause-counting : goal.returns-clause-counting
returns-clause-counting c =
    let above : c.args.self.now.next ≤ c.in-Some.number = omega (arith, c.if-number-self.false) in (
      (λ records. (
        revision_counts c.args.self.now.numbered c.args.self.now.next c.in-Some.number (record_item c.args.item.now)
            records c.requires.revision c.in-Some.ensures,
        revision_rises c.args.self.now.next c.in-Some.number (record_item c.args.item.now) records c.requires.revision
            c.in-Some.ensures (le-leb c.args.self.now.next c.in-Some.number above),
      )),
      λ records. own_number c.in-Some.number (record_item c.args.item.now) records c.requires.revision c.in-Some.ensures,
    )
