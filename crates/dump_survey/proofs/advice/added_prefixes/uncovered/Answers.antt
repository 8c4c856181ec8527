use Rattle.dump_survey.proofs.Prelude.{◌≡◌, true, false, List, ℕ, map, Bor, Vec, Global, ap, ◌∙◌, list_any, begins_path}
use Rattle.dump_survey.proofs.NeedLemmas.{path_behind, all_uncovered}
use Rattle.dump_survey.proofs.advice.added_prefixes.uncovered.Goals as goal
use Rattle.dump_survey.proofs.advice.added_prefixes.uncovered.Goals.{then-not-begin+in_ok-push, else-not-begin}

pub loop-left-preserved : goal.loop-left-preserved
loop-left-preserved c =
    path_behind (map (λ path. path.now) c.args.paths.now) c.loop-left.left.now _ c.loop-left.behind c.add.new.self
    c.loop-left.top.items c.if-not-begin.top.items c.begin.result c.in-len1-up.len_at_least c.loop-left.invariant
    (c.begin.ensures ∙ ap (λ (text : List ℕ). list_any (λ prefix. begins_path prefix text) c.loop-left.behind) c.bare_prefix.ensures)
    c.in_ok-add.ensures.added
    (elim c.if-not-begin.branch [
      | then-not-begin+in_ok-push w ↦
          let free : c.begin.result ≡ false = w.if-not-begin.true in
          rw free (ap (λ (top : Vec (Bor (List ℕ)) Global). top.items) w.top-is ∙ w.in_ok-push.ensures.items)
      | else-not-begin w ↦
          let covered : c.begin.result ≡ true = w.if-not-begin.false in
          rw covered (ap (λ (top : Vec (Bor (List ℕ)) Global). top.items) w.top-is)
    ])

pub returns : goal.returns
returns c = all_uncovered (map (λ path. path.now) c.args.paths.now) c.loop-left.behind c.loop-left.left.now
    c.loop-left.top.items c.reverse.new.self.items c.in_default.len_below c.loop-left.invariant c.reverse.ensures.items
