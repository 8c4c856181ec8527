use Rattle.std.proofs.Common.{◌++◌, ◌+◌, ℕ, List, Bor, map, drop, sym, ap, ap₂, ◌∙◌, option_copied}
use Rattle.dump_survey.proofs.PrefixLemmas.{given_more, given_all}
use Rattle.dump_survey.proofs.findings.prefixes.given_prefixes.Goals as goal

pub loop-prefix-preserved : goal.loop-prefix-preserved
loop-prefix-preserved c =
    let all = c.args.options.now.prefixes in
    let more = given_more all c.loop-prefix.given.items c.len.result c.in-Some.prefix (sym c.in-Some.ensures)
    (c.loop-prefix.invariant ∙ ap (λ (n : ℕ). map (λ (item : Bor (List ℕ)). item.now) c.loop-prefix.given.items
    ++ drop n all) (sym c.len.ensures)) in
    more ∙ ap₂ (λ (items : List (Bor (List ℕ))) (n : ℕ). map (λ (item : Bor (List ℕ)). item.now) items ++ drop n all)
    (sym c.in_ok-push.ensures.items) (ap (λ (n : ℕ). n + 1) c.len.ensures ∙ sym c.in_ok-push.ensures.len)

pub returns : goal.returns
returns c =
    let all = c.args.options.now.prefixes in
    given_all all c.loop-prefix.given.items c.len.result (sym c.prefix.ensures ∙ ap option_copied c.in_default.is)
    (c.loop-prefix.invariant ∙ ap (λ (n : ℕ). map (λ (item : Bor (List ℕ)). item.now) c.loop-prefix.given.items
    ++ drop n all) (sym c.len.ensures))
