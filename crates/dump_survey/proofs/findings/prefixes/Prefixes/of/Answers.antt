use Rattle.dump_survey.proofs.Prelude.{◌++◌, ◌+◌, ℕ, List, Bor, map, drop, sym, ap, ap₂, ◌∙◌, option_copied, bare_prefix}
use Rattle.dump_survey.proofs.PrefixLemmas.{bare_more, bare_all}
use Rattle.dump_survey.proofs.findings.prefixes.Prefixes.of.Goals as goal

pub loop-prefix-preserved : goal.loop-prefix-preserved
loop-prefix-preserved c =
    let all = c.args.options.now.prefixes in
    let more = bare_more all c.loop-prefix.bare.items c.len.result c.in-Some.prefix.now c.bare_prefix.result
    (sym c.in-Some.ensures) c.bare_prefix.ensures
    (c.loop-prefix.invariant ∙ ap (λ (n : ℕ). map (λ (item : Bor (List ℕ)). item.now) c.loop-prefix.bare.items
    ++ map bare_prefix (drop n all)) (sym c.len.ensures)) in
    more ∙ ap₂ (λ (items : List (Bor (List ℕ))) (n : ℕ). map (λ (item : Bor (List ℕ)). item.now) items
    ++ map bare_prefix (drop n all))
    (sym c.in_ok-push.ensures.items) (ap (λ (n : ℕ). n + 1) c.len.ensures ∙ sym c.in_ok-push.ensures.len)

pub returns : goal.returns
returns c =
    let all = c.args.options.now.prefixes in
    bare_all all c.loop-prefix.bare.items c.len.result (sym c.prefix.ensures ∙ ap option_copied c.in_default.is)
    (c.loop-prefix.invariant ∙ ap (λ (n : ℕ). map (λ (item : Bor (List ℕ)). item.now) c.loop-prefix.bare.items
    ++ map bare_prefix (drop n all)) (sym c.len.ensures))
