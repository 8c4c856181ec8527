use Rattle.dump_text.proofs.Prelude.{refl, sym, subst, ∥∥₁_map, IsEntry}
use Rattle.dump_text.proofs.PropertyLemmas.{scanned_parts, parts_entry, properties_left, block_ends}
use Rattle.dump_text.proofs.props.EntriesIterator.next.Goals as goal

pub returns-in_default-clause-steps : goal.returns-in_default-clause-steps
returns-in_default-clause-steps c = (block_ends _ c.in_default.ensures c.args.self.now.reads, refl)

pub invariant_of-self : goal.invariant_of-self
invariant_of-self c =
    let parts = scanned_parts _ _ _ c.in-Some.ensures c.rest-self.ensures in
    record { reads = ∥∥₁_map c.args.self.now.reads (properties_left _ _ _ parts) }

pub returns-clause-steps : goal.returns-clause-steps
returns-clause-steps c =
    let (text, cut, one) = parts_entry _ _ _ (scanned_parts _ _ _ c.in-Some.ensures c.rest-self.ensures) in
    (text, cut, subst (IsEntry text) (sym c.entry-2.ensures) one)
