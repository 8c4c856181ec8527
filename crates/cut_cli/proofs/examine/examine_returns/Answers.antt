use Rattle.std.proofs.Common.{◌≡◌, true, false}
use Rattle.dump_rules.specs.declared.options.Side.TheVariants.{Include}
use Rattle.dump_cut.specs.steps.ExcludedPaths.{paths_of}
use Rattle.cut_cli.specs.steps.Cuts.{writes_additions}
use Rattle.cut_cli.proofs.ExamineLemmas.{unkept_is_included}
use Rattle.cut_cli.proofs.examine.examine_returns.Goals as goal
use Rattle.cut_cli.proofs.examine.examine_returns.Goals.{then-eq+in_ok-found+in_default, else-eq+else-call}

pub returns : goal.returns
returns g c = (
  c.args.index.now,
  paths_of c.args.asked.now.excluded,
  record {
    is_taken = c.requires.taken;
    asked = c.requires.asked;
    goes_on = c.requires.goes_on;
    some_back = c.requires.back;
  },
  λ adds. elim c.if-eq.branch [
    | then-eq+in_ok-found+in_default w ↦ rw w.in_default.is at w.in_ok-found.ensures
    | else-eq+else-call w ↦
        let kept : c.args.call.now.keep ≡ false = w.if-call.false in
        let added : writes_additions c.args.call.now.side false ≡ true = rw kept at adds in
        let its : c.args.call.now.side ≡ Include = unkept_is_included c.args.call.now.side added in
        let bad : false ≡ true = rw its at w.if-eq.ensures in
        absurd (cc)
  ],
)
