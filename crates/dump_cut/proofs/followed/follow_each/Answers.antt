use Rattle.std.proofs.Common.{◌≡◌, [], arith, length, sym, subst, ◌∙◌}
use Rattle.std.specs.List.{slice_get}
use Rattle.dump_index.specs.steps.ToldKinds.{kinds_told_by}
use Rattle.dump_trees.specs.steps.FollowedRests.{rests_at}
use Rattle.dump_cut.specs.steps.ExcludedPaths.{paths_of}
use Rattle.dump_cut.specs.steps.FollowedPaths.{added_paths, place_at_turn}
use Rattle.dump_cut.specs.steps.Returned.{way_meant}
use Rattle.dump_cut.proofs.CheckLemmas.{same_length}
use Rattle.dump_cut.proofs.FollowedLemmas.{all_turns, keeps_both, turn_more}
use Rattle.dump_cut.proofs.followed.follow_each.Goals as goal

pub loop-turn-preserved : goal.loop-turn-preserved
loop-turn-preserved c =
    let way = way_meant c.args.way in
    let told = kinds_told_by c.args.index.now in
    let new = paths_of c.follow_at.new.excluded in
    record {
      placed = λ before. c.in_ok-follow_at.ensures.placed (c.loop-turn.invariant.placed before);
      more =
          let step = c.in_ok-follow_at.ensures.grows in
          let before = c.loop-turn.invariant.more in omega (arith, step, before);
      idle = λ same.
          let step = c.in_ok-follow_at.ensures.grows in
          let before = c.loop-turn.invariant.more in
          let first : length c.loop-turn.additions.items ≡ length c.args.additions.now.items =
          omega (arith, same, step, before) in
          let next : length c.follow_at.new.additions.items ≡ length c.loop-turn.additions.items = omega (arith, same, first) in
          let was = c.loop-turn.invariant.idle first in
          let is = c.in_ok-follow_at.ensures.idle next in (
            is.0 ∙ was.0,
            λ placed all.
                turn_more way new told placed c.len-count.result c.loop-turn.turn
                (λ k low. subst (λ tops. rests_at way tops told placed (slice_get placed (place_at_turn way k c.len-count.result)) ≡ [])
                (sym is.0) (was.1 placed all k low))
                (subst (λ n. rests_at way new told placed (slice_get placed n) ≡ []) c.place_at_turn-place.ensures.place
                (is.1 placed all)),
          );
      keeps =
          keeps_both way c.args.index.now (paths_of c.args.excluded.now) (added_paths c.args.additions.now.items)
          (paths_of c.loop-turn.excluded) (added_paths c.loop-turn.additions.items) new
          (added_paths c.follow_at.new.additions.items) c.loop-turn.invariant.keeps c.in_ok-follow_at.ensures.keeps;
    }

pub returns-clause-idle : goal.returns-clause-idle
returns-clause-idle c = λ same placed all.
    all_turns (way_meant c.args.way) (paths_of c.loop-turn.excluded) (kinds_told_by c.args.index.now) placed c.len-count.result
    (same_length c.args.index.now placed all ∙ sym c.len-count.ensures)
    (λ k low. (c.loop-turn.invariant.idle same).1 placed all k (let ended = c.loop-turn-test.false in omega (arith, low, ended)))
