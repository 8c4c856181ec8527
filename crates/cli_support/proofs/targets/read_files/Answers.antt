use Rattle.std.proofs.Common.{◌≡◌, ◌+◌, ◌++◌, ◌∷◌, ℕ, List, [], IfSome, arith, map, rules, subst, sym, take}
use Rattle.std.specs.List.{AllZip}
use Rattle.cli_support.proofs.TargetLemmas.{zip_next}
use Rattle.cli_support.proofs.targets.read_files.Goals as goal

pub loop-name-preserved : goal.loop-name-preserved
loop-name-preserved g c =
    let R : List ℕ → List ℕ → Type 0 =
    λ name text. IfSome (g.F.NamedFiles.text_of c.args.files.now name) (λ known. text ≡ known) in
    let items : c.push.new.self.items ≡ c.loop-name.texts.items ++ c.in-Ok.text ∷ [] = search rules in
    subst (λ ts. AllZip R (map (λ name. name.now) (take (c.loop-name.name-index + 1) c.args.names.now))
    (map (λ text. text.items) ts)) (sym items)
    (zip_next R (λ name. name.now) (λ text. text.items) c.args.names.now c.loop-name.name-index (c.loop-name.name-index + 1)
    _ c.loop-name.texts.items c.in-Ok.text (omega arith) c.loop-name-test.true c.loop-name.invariant c.in-Ok.ensures)
