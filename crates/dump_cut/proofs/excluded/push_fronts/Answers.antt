use Rattle.std.proofs.Common.{◌||◌, ap, ◌∙◌, arith, bytes_eq, take}
use Rattle.dump_index.specs.steps.Children.{is_child_named}
use Rattle.dump_index.specs.steps.Names.{texts_of}
use Rattle.dump_index.proofs.ChildLemmas.{pushed_named}
use Rattle.dump_cut.proofs.DirectoryLemmas.{front_all, front_more, front_same, is_front_within}
use Rattle.dump_cut.proofs.excluded.push_fronts.Goals as goal
use Rattle.dump_cut.proofs.excluded.push_fronts.Goals.{then-byte-eq47+in_ok-push, else-byte-eq47}
use Rattle.std.proofs.Math.Bool.{or_assoc}

pub loop-place-preserved : goal.loop-place-preserved
loop-place-preserved c front =
    let path = c.args.path.now in
    let place = c.loop-place.place in
    let first = is_child_named (texts_of c.args.fronts.now.items) front in
    elim c.if-byte-eq47.branch [
      | then-byte-eq47+in_ok-push w ↦
          ap (λ fronts. is_child_named (texts_of fronts.items) front) w.fronts-is
          ∙ (ap (λ items. is_child_named (texts_of items) front) w.in_ok-push.ensures.items
          ∙ (pushed_named c.loop-place.fronts.items _ front
          ∙ (ap (λ b. b || bytes_eq (take place path) front) (c.loop-place.invariant front)
          ∙ (or_assoc first (is_front_within place path front) (bytes_eq (take place path) front)
          ∙ ap (λ b. first || b) (front_more path front place (omega arith) w.if-byte-eq47.true)))))
      | else-byte-eq47 w ↦
          ap (λ fronts. is_child_named (texts_of fronts.items) front) w.fronts-is
          ∙ (c.loop-place.invariant front ∙ ap (λ b. first || b) (front_same path front place w.if-byte-eq47.false))
    ]

pub returns : goal.returns
returns c name =
    c.loop-place.invariant name
    ∙ ap (λ b. is_child_named (texts_of c.args.fronts.now.items) name || b)
    (front_all c.args.path.now name c.loop-place.place (omega arith))
