use Rattle.survey_cli.proofs.Prelude.{◌≡◌, List, [], ℕ, rules, subst, append_known, lent_taken, Arrives}
use Rattle.survey_cli.proofs.DriveLemmas.{arrives_behind, written_of}
use Rattle.survey_cli.proofs.drive.survey_and_flush.Goals as goal

pub returns-clause-arrives : goal.returns-clause-arrives
returns-clause-arrives g c =
    let first = c.args.sink.now in
    let behind = c.write_text-answer.new.sink in
    let last = c.flush_behind.new.sink in
    let written : Arrives c.args.call.now c.args.dump.now (append_known first.out.taken []) (lent_taken behind)
    c.write_text-answer.result =
    subst (λ (w : List ℕ). Arrives c.args.call.now c.args.dump.now (append_known first.out.taken w)
    (lent_taken behind) c.write_text-answer.result)
    c.requires.waiting (written_of c.args.call.now c.args.dump.now (lent_taken first) (lent_taken behind)
    c.write_text-answer.result c.write_text-answer.ensures.whole c.write_text-answer.ensures.part) in
    let start : last.out.start ≡ first.out.taken = search rules in
    arrives_behind c.args.call.now c.args.dump.now c.write_text-answer.result c.flush_behind.result first.out.taken
    (lent_taken behind) last written c.flush_behind.ensures.taken start c.flush_behind.ensures.told
    c.flush_behind.ensures.grown
