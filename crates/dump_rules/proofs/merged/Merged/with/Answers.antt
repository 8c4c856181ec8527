use Rattle.dump_rules.proofs.Prelude.{◌≡◌, ◌↔◌, Bool, IsTrue, is_some, sym, ap, subst, ◌∙◌, HasMergeLines, lines_merged, text_merged, text_lines}
use Rattle.dump_rules.proofs.reading.MergeinfoLemmas.{reads_exactly}
use Rattle.dump_rules.proofs.faults.MergedMeaning.{read_value, said_sources, said_numbers}
use Rattle.dump_rules.proofs.merged.Merged.with.Goals as goal

-- what the text of the value says
said : (c : goal.After-with_text) → c.with_text.result ≡ text_merged c.args.options.now c.args.self c.args.value.now
said c = c.with_text.ensures ∙ ap (λ t. lines_merged c.args.options.now c.args.self (text_lines t)) c.without_lf.ensures

pub returns-clause-read : goal.returns-clause-read
returns-clause-read c =
    subst (λ (b : Bool). IsTrue b ↔ HasMergeLines c.args.value.now)
    (sym (ap is_some (said c) ∙ read_value c.args.options.now c.args.self c.args.value.now))
    (reads_exactly c.args.value.now)

pub returns-clause-sources : goal.returns-clause-sources
returns-clause-sources c = said_sources c.args.options.now c.args.self c.args.value.now c.with_text.result (said c)

pub returns-clause-numbers : goal.returns-clause-numbers
returns-clause-numbers c first now =
    said_numbers c.args.options.now first now c.args.self c.args.value.now c.with_text.result (said c)
