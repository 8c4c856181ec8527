use Rattle.dump_changes.proofs.Prelude.{ℕ, record_item}
use Rattle.dump_index.specs.steps.IndexLaws.{IsListed}
use Rattle.dump_index.specs.steps.Listed.{listed_of}
use Rattle.std.proofs.Common.{subst}
use Rattle.dump_changes.proofs.StepLemmas.{node_reads}
use Rattle.dump_changes.proofs.read.Position.node.Goals as goal

pub returns-in-Some-node_change-clause-reading : goal.returns-in-Some-node_change-clause-reading
returns-in-Some-node_change-clause-reading c patched =
    let its = c.in-Some-node_change.ensures.change patched in (
      its.0,
      subst (λ (n : ℕ). IsListed (listed_of c.in-Some-node_change.change) (record { revision = n; change = its.0 }))
          its.2.revision its.2,
      λ records placed reads.
          node_reads patched c.args.self.now.present c.in-Some.number (record_item c.args.item.now) its.0
          c.in-Some-node_change.change.revision records placed c.requires.revision c.requires.node its.1 c.in-Some.is
          c.if-number-gt0.true its.2.revision reads,
    )
