use Rattle.std.proofs.Common.{ap, ◌∙◌, true}
use Rattle.std.proofs.lemmas.Result.{IfOk-weaker}
use Rattle.clap.specs.Simple.{app_of_fields, on_top}
use Rattle.cli_support.proofs.CommandLemmas.{one_more}
use Rattle.cut_cli.proofs.command.cut_command.Goals as goal

pub returns : goal.returns
returns c =
    let bare = ap app_of_fields c.disable_help_flag.ensures
    ∙ ap (on_top (λ s. record s { disable_help_flag = true })) c.new.ensures.app in
    let e1 = one_more _ _ _ _ _ c.in_ok-arg.ensures c.switch.ensures.local bare c.switch.ensures.rule in
    let e2 = one_more _ _ _ _ _ c.in_ok-arg-2.ensures c.switch-2.ensures.local e1 c.switch-2.ensures.rule in
    let e3 = one_more _ _ _ _ _ c.in_ok-arg-3.ensures c.switch-3.ensures.local e2 c.switch-3.ensures.rule in
    let e4 = one_more _ _ _ _ _ c.in_ok-arg-4.ensures c.switch-4.ensures.local e3 c.switch-4.ensures.rule in
    let e5 = one_more _ _ _ _ _ c.in_ok-arg-5.ensures c.switch-5.ensures.local e4 c.switch-5.ensures.rule in
    let e6 = one_more _ _ _ _ _ c.in_ok-arg-6.ensures c.switch-6.ensures.local e5 c.switch-6.ensures.rule in
    let e7 = one_more _ _ _ _ _ c.in_ok-arg-7.ensures c.workers.ensures.local e6 c.workers.ensures.rule in
    let e8 = one_more _ _ _ _ _ c.in_ok-arg-8.ensures c.window.ensures.local e7 c.window.ensures.rule in
    let e9 = one_more _ _ _ _ _ c.in_ok-arg-9.ensures c.repeated.ensures.local e8 c.repeated.ensures.rule in
    let e10 = one_more _ _ _ _ _ c.in_ok-arg-10.ensures c.valued.ensures.local e9 c.valued.ensures.rule in
    let e11 = one_more _ _ _ _ _ c.in_ok-arg-11.ensures c.valued-2.ensures.local e10 c.valued-2.ensures.rule in
    let e12 = one_more _ _ _ _ _ c.in_ok-arg-12.ensures c.valued-3.ensures.local e11 c.valued-3.ensures.rule in
    let e13 = one_more _ _ _ _ _ c.in_ok-arg-13.ensures c.switch-7.ensures.local e12 c.switch-7.ensures.rule in
    IfOk-weaker c.arg-14.result _ _
    (λ r adds. one_more _ _ _ _ _ adds c.any_prefixes.ensures.local e13 c.any_prefixes.ensures.rule) c.arg-14.ensures
