use Rattle.std.proofs.Common.{◌≡◌, ◌<◌, ◌∙◌, ℕ, List, Option, length, get_or, ap, sym, subst}
use Rattle.dump_trees.specs.Paths.{names_of}
use Rattle.dump_index.specs.steps.Kinds.{kind_look}
use Rattle.dump_index.specs.declared.change.NodeChange.{NodeChange}
use Rattle.dump_index.specs.steps.KnownKinds.{count_through}
use Rattle.dump_index.proofs.KnownLemmas.{known_in}
use Rattle.dump_index.proofs.index.ChangeIndex.known_at.Goals as goal

pub returns-then-eq : goal.returns-then-eq
returns-then-eq c =
    let listed = c.args.self.now in
    let changes = c.self.inside.changes.items in
    let place = c.in_ok-place.place in
    let change = c.in_ok-change.change.now in
    let kind = c.in_ok-kind.ensures.lookup in
    let found = subst (λ (all : List NodeChange). (change ≡ get_or all place change) × (place < length all)) c.deref.ensures.value
    (c.in_ok-change.ensures.lookup.1, c.in_ok-change.ensures.lookup.3.0) in
    known_in changes c.self.invariant.ordered listed c.self.view_is place change found.0 found.1 c.args.known.now c.requires
    kind.3.0 c.in_ok-kind.kind.now kind.1 c.args.path.now (sym c.if-eq.ensures)
    ∙ sym (ap (λ (o : Option ℕ). kind_look listed (count_through o) (names_of c.args.path.now)) c.in_ok-place.was)
