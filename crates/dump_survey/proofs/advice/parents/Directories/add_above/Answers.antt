use Rattle.dump_survey.proofs.Prelude.{◌+◌, ◌<◌, ◌==◌, length, get_or, sym, ap, ◌∙◌, arith, each_once}
use Rattle.dump_survey.proofs.ParentLemmas.{all_fronts, fronts_from, kept_passes, left_of, no_front, other_passes, place_adds, place_passes}
use Rattle.dump_survey.proofs.advice.parents.Directories.add_above.Goals as goal
use Rattle.dump_survey.proofs.advice.parents.Directories.add_above.Goals.{then-byte-eq47+then-not-keeps+in_ok-add, else-byte-eq47, else-byte-eq47-via-then-byte-eq47+else-not-keeps, else-byte-eq47-via-else-byte-eq47}

pub loop-place-init : goal.loop-place-init
loop-place-init c = ap (λ texts. each_once c.args.self.now (left_of c.args.options.now texts)) (all_fronts c.args.bare.now)

pub loop-place-preserved : goal.loop-place-preserved
loop-place-preserved c =
    let settings = c.args.options.now in
    let bare = c.args.bare.now in
    let n = c.loop-place.place in
    let low : n < length bare = omega arith in
    c.loop-place.invariant ∙ elim c.if-byte-eq47.branch [
      | then-byte-eq47+then-not-keeps+in_ok-add w ↦
          place_adds settings c.loop-place.self bare n low w.if-byte-eq47.true (sym w.keeps.ensures ∙ w.if-not-keeps.true)
          ∙ ap (λ reported. each_once reported (left_of settings (fronts_from bare (n + 1)))) (sym (w.self-is ∙ w.in_ok-add.ensures))
      | else-byte-eq47 w ↦
          place_passes settings c.loop-place.self bare n low
          (elim w.else-byte-eq47.branch [
            | else-byte-eq47-via-then-byte-eq47+else-not-keeps u ↦
                kept_passes (get_or bare n 0 == 47) _ (sym u.keeps.ensures ∙ u.if-not-keeps.false)
            | else-byte-eq47-via-else-byte-eq47 u ↦ other_passes (get_or bare n 0) _ u.if-byte-eq47.false
          ])
          ∙ ap (λ reported. each_once reported (left_of settings (fronts_from bare (n + 1)))) (sym w.self-is)
    ]

pub returns : goal.returns
returns c = sym (c.loop-place.invariant ∙ ap (λ texts. each_once c.loop-place.self (left_of c.args.options.now texts)) (no_front c.args.bare.now c.loop-place.place c.loop-place-test.false))
