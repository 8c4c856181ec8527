use Rattle.std.proofs.Common.{◌≡◌, ◌∷◌, ◌++◌, ◌+◌, suc, drop, map, sym, ap, ◌∙◌, arith, append-nil, drop-cons, codes}
use Rattle.std.proofs.lemmas.List.{drop_all}
use Rattle.dump_cut.specs.steps.TrimmedTexts.{delete_texts}
use Rattle.dump_cut.proofs.TrimmedTextLemmas.{one_deleted}
use Rattle.dump_cut.proofs.trimming.delete_nodes.Goals as goal

pub loop-path-init : goal.loop-path-init
loop-path-init c = ap (λ t. t ++ delete_texts (map (λ path. path.items) c.args.paths.now)) c.new-text.ensures.items

pub loop-path-preserved : goal.loop-path-preserved
loop-path-preserved c =
    let paths = c.args.paths.now in
    let at = c.loop-path.path-index in
    let path = c.path-item.result in
    let number : suc at ≡ at + 1 = omega arith in
    let rest : drop at paths ≡ path ∷ drop (at + 1) paths =
    drop-cons paths at path c.loop-path-test.true
    ∙ (λ i. sym c.path-item.is i ∷ drop (number i) paths) in
    let grown = c.in_ok-extend_from_slice-3.ensures.items
    ∙ ap (λ t. t ++ codes "\nNode-action: delete\n\n")
    (c.in_ok-extend_from_slice-2.ensures.items
    ∙ (λ i. c.in_ok-extend_from_slice.ensures.items i ++ c.deref.ensures.value i)) in
    one_deleted c.loop-path.text.items c.extend_from_slice-in-loop-path-2.new.self.items path.items
    (map (λ p. p.items) (drop (at + 1) paths)) grown
    ∙ ap (λ ps. c.loop-path.text.items ++ delete_texts (map (λ p. p.items) ps)) (sym rest)
    ∙ c.loop-path.invariant

pub returns : goal.returns
returns c =
    let paths = c.args.paths.now in
    sym (append-nil c.loop-path.text.items)
    ∙ ap (λ ps. c.loop-path.text.items ++ delete_texts (map (λ path. path.items) ps))
    (sym (drop_all c.loop-path.path-index paths c.loop-path-test.false))
    ∙ c.loop-path.invariant
