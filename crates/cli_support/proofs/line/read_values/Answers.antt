use Rattle.cli_support.proofs.Prelude.{◌≡◌, ◌∙◌, List, [], Some, None, ap, map, sym, option_map, unwrap_or, Bor, IfOk-weaker}
use Rattle.clap.specs.Words.{Text, all_of, found_of, rows_of}
use Rattle.clap.proofs.WalkLemmas.{raw_values-rows}
use Rattle.cli_support.proofs.line.read_values.Goals as goal

pub returns-in-Some : goal.returns-in-Some
returns-in-Some c =
    let all : option_map (λ (s : Bor (List (Bor Text))). map (λ v. v.now) s.now) c.get_strs.result ≡ all_of
    c.args.name.now (rows_of (found_of c.args.matches.now)) =
    c.get_strs.ensures ∙ raw_values-rows (found_of c.args.matches.now) c.args.name.now in
    let some : Some (map (λ (v : Bor Text). v.now) c.in-Some.values.now) ≡ all_of c.args.name.now
    (rows_of (found_of c.args.matches.now)) =
    sym (ap (option_map (λ (s : Bor (List (Bor Text))). map (λ (v : Bor Text). v.now) s.now)) c.in-Some.is) ∙ all in
    IfOk-weaker c.collected.result _ _ (λ texts e. e ∙ ap (λ o. unwrap_or o []) some) c.collected.ensures

pub returns-in-None : goal.returns-in-None
returns-in-None c =
    let all : option_map (λ (s : Bor (List (Bor Text))). map (λ v. v.now) s.now) c.get_strs.result ≡ all_of
    c.args.name.now (rows_of (found_of c.args.matches.now)) =
    c.get_strs.ensures ∙ raw_values-rows (found_of c.args.matches.now) c.args.name.now in
    let none : None ≡ all_of c.args.name.now (rows_of (found_of c.args.matches.now)) =
    sym (ap (option_map (λ (s : Bor (List (Bor Text))). map (λ (v : Bor Text). v.now) s.now)) c.in-None.is) ∙ all in
    ap (map (λ (v : Bor Text). v.now)) c.new.ensures.items ∙ ap (λ o. unwrap_or o []) none
