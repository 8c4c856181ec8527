use Rattle.dump_rules.proofs.Prelude.{◌↔◌, ◌∙◌, IsTrue, ap, sym, subst, Bool, HasMergeLines, lines_read}
use Rattle.dump_rules.proofs.reading.MergeinfoLemmas.{reads_exactly}
use Rattle.dump_rules.proofs.mergeinfo.merge_reads.Goals as goal

pub returns : goal.returns
returns c =
    subst (λ (t : Bool). IsTrue t ↔ HasMergeLines c.args.value.now)
    (sym (c.lines_read.ensures ∙ ap lines_read c.without_lf.ensures))
    (reads_exactly c.args.value.now)
