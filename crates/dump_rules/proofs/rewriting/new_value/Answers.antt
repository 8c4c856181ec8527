use Rattle.dump_rules.proofs.Prelude.{ℕ, List, [], sym, ap, subst, ◌∙◌, IfOk-weaker, lines_read, text_lines, with_new_lines, IsNewMergeinfo}
use Rattle.dump_rules.proofs.reading.MergeinfoLemmas.{reads_exactly}
use Rattle.dump_rules.proofs.new_values.ValueLemmas.{new_value}
use Rattle.dump_rules.proofs.faults.FaultLemmas.{has_lines}
use Rattle.dump_rules.proofs.rewriting.new_value.Goals as goal

pub new_text-requires-clause-reads : goal.new_text-requires-clause-reads
new_text-requires-clause-reads c =
    ap lines_read c.without_lf.ensures ∙ (reads_exactly c.args.value.now).1 (has_lines c.args.value.now c.requires.reads)

pub returns : goal.returns
returns c =
    let has = has_lines c.args.value.now c.requires.reads in
    IfOk-weaker c.new_text.result _ _
    (λ v is. subst (IsNewMergeinfo c.args.options.now c.args.reach.now c.args.value.now)
    (sym (is ∙ ap (λ (t : List ℕ). with_new_lines c.args.options.now c.args.reach.now []
    (text_lines t)) c.without_lf.ensures))
    (new_value c.args.options.now c.args.reach.now c.first-first.ensures.rising c.args.value.now has.0 has.1))
    c.new_text.ensures
