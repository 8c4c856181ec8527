use Rattle.dump_lanes.proofs.Prelude.{◌≡◌, ◌<◌, false, sym, subst, View, Mark}
use Rattle.dump_lanes.proofs.Moves.{gets}
use Rattle.dump_lanes.proofs.ends.receiving.receive.Goals as goal

pub try_recv_as-requires-clause-rule : goal.try_recv_as-requires-clause-rule
try_recv_as-requires-clause-rule g c =
    let r = c.requires.follows in
    let may = subst (λ (l : View (Mark g.row.T.Denot)). (l.leads ≡ false) × (0 < l.parts) × (l.from ≡ 0))
    (sym c.loop.invariant.1) r in
    (gets _ _ may.0 may.1 may.2, λ items views h at. tt)

pub recv_as-requires-clause-rule : goal.recv_as-requires-clause-rule
recv_as-requires-clause-rule g c =
    let r = c.requires.follows in
    let may = subst (λ (l : View (Mark g.row.T.Denot)). (l.leads ≡ false) × (0 < l.parts) × (l.from ≡ 0))
    (sym c.loop.invariant.1) r in
    (gets _ _ may.0 may.1 may.2, λ items views h at. tt)
