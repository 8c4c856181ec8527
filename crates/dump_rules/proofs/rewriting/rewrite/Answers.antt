use Rattle.dump_rules.proofs.Prelude.{rules, ◌≡◌, ap, Result, Ok, Err, IsErrAnd, RewriteFault}
use Rattle.dump_rules.specs.declared.rewriting.RewriteFault.TheVariants as faults
use Rattle.dump_rules.proofs.faults.MergeFaults.{first_misses, first_foreign}
use Rattle.dump_rules.proofs.rewriting.rewrite.Goals as goal

-- running out of memory is no fault of the value
only_memory : {T : Type 0} (r : Result T RewriteFault) → IsErrAnd r (λ e. e ≡ faults.Memory) → r ≡ Err faults.Memory
only_memory (Ok x) memory = absurd memory
only_memory (Err e) memory = ap Err memory

pub returns-then-misses_source : goal.returns-then-misses_source
returns-then-misses_source c =
    let misses = first_misses c.args.options.now _ _ c.args.value.now _ c.new.ensures c.in-Some.ensures.sources
    c.misses_source.ensures c.requires.reads in
    search (rules, misses.0 c.if-misses_source.true)

pub returns-then-has_foreign_number : goal.returns-then-has_foreign_number
returns-then-has_foreign_number c =
    let told = first_foreign c.args.options.now c.args.reach.now _ _ _ _ c.args.value.now _ _ c.first.type_inv
    c.first.ensures.first c.new.ensures c.in-Some.ensures.sources c.in-Some.ensures.numbers c.misses_source.ensures
    c.if-misses_source.false c.has_foreign_number.ensures c.requires.reads in
    search (rules, told.0, told.1 c.if-has_foreign_number.true)

pub returns-in_err-new_value : goal.returns-in_err-new_value
returns-in_err-new_value c =
    let told = first_foreign c.args.options.now c.args.reach.now _ _ _ _ c.args.value.now _ _ c.first.type_inv
    c.first.ensures.first c.new.ensures c.in-Some.ensures.sources c.in-Some.ensures.numbers c.misses_source.ensures
    c.if-misses_source.false c.has_foreign_number.ensures c.requires.reads in
    let memory = only_memory c.from_residual.result c.from_residual.ensures.1 in
    search (rules, memory, told.0, told.2 c.if-has_foreign_number.false)

pub returns : goal.returns
returns c =
    let told = first_foreign c.args.options.now c.args.reach.now _ _ _ _ c.args.value.now _ _ c.first.type_inv
    c.first.ensures.first c.new.ensures c.in-Some.ensures.sources c.in-Some.ensures.numbers c.misses_source.ensures
    c.if-misses_source.false c.has_foreign_number.ensures c.requires.reads in
    search (rules, told.0, told.2 c.if-has_foreign_number.false)
