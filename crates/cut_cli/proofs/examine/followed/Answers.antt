use Rattle.std.proofs.Common.{◌≡◌, ◌∙◌, true, false, [], refl, sym}
use Rattle.dump_cut.specs.steps.ExcludedPaths.{paths_of}
use Rattle.dump_cut.specs.steps.FollowedPaths.{added_paths}
use Rattle.cut_cli.proofs.examine.followed.Goals as goal

pub returns-then-not-call : goal.returns-then-not-call
returns-then-not-call g c = record {
  first = paths_of c.in_ok-paths.paths;
  additions = [];
  named = c.in_ok-paths.ensures;
  come = λ revisions trees is. refl;
  unfollowed = λ no. refl;
  followed = λ yes. absurd (let bad : true ≡ false = sym yes ∙ c.if-not-call.true in cc);
}

pub returns : goal.returns
returns g c = record {
  first = paths_of c.in_ok-paths.paths;
  additions = added_paths c.in_ok-additions.additions.items;
  named = c.in_ok-paths.ensures;
  come = c.in_ok-additions.ensures.followed;
  unfollowed = λ no. absurd (let bad : true ≡ false = sym c.if-not-call.false ∙ no in cc);
  followed = λ yes. c.in_ok-additions.ensures.ended;
}
