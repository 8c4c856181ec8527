use Rattle.dump_text.proofs.Prelude.{arith, ◌<◌, ◌+◌, length, take, subst, sym, ◌∙◌, take_rest, IsCutAtColon}
use Rattle.dump_text.proofs.ScanLemmas.{cut_at_colon, no_place, at_place, clash, colon_at, header_text-is}
use Rattle.dump_text.proofs.scan.name_and_value.Goals as goal
use Rattle.dump_text.proofs.scan.name_and_value.Goals.{then-colon-eq0-via-then-colon-eq0, then-colon-eq0-via-else-colon-eq0+then-whole-colon-lt2, then-colon-eq0-via-else-colon-eq0+else-whole-colon-lt2+then-whole-colon-ne32}

pub returns-in_default : goal.returns-in_default
returns-in_default c = λ h good is. clash 58 _ _ _ (no_place 58 c.args.whole.now c.in_default.ensures)
    (is ∙ header_text-is h)

pub returns-then-colon-eq0 : goal.returns-then-colon-eq0
returns-then-colon-eq0 c = λ h good is.
    let at = colon_at h _ _ good is (at_place 58 c.args.whole.now c.in-Some.colon c.in-Some.ensures) in
    let some = at.some in
    let size = at.size in
    let space = at.space in
    elim c.then-colon-eq0.branch [
      | then-colon-eq0-via-then-colon-eq0 w ↦ absurd (omega arith)
      | then-colon-eq0-via-else-colon-eq0+then-whole-colon-lt2 w ↦ absurd (omega arith)
      | then-colon-eq0-via-else-colon-eq0+else-whole-colon-lt2+then-whole-colon-ne32 w ↦ absurd (omega arith)
    ]

pub returns : goal.returns
returns c =
    let whole = c.args.whole.now in
    let colon = c.in-Some.colon in
    let at = at_place 58 whole colon c.in-Some.ensures in
    let some : 0 < colon = omega arith in
    let room : colon + 1 < length whole = omega arith in
    subst (IsCutAtColon whole (take colon whole)) (sym (take_rest whole (colon + 2)))
    (cut_at_colon whole colon at some room (omega arith))
