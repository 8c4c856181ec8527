use Rattle.dump_survey.proofs.Prelude.{ℕ, List, Bor, bytes_eq, map, sym, ap, ◌∙◌, list_any}
use Rattle.dump_survey.proofs.ParentLemmas.{added_new, any_found, known_more, known_stays}
use Rattle.dump_survey.proofs.advice.parents.Directories.add.Goals as goal
use Rattle.dump_survey.proofs.advice.parents.Directories.add.Goals.{in-Ok, in-Err}

pub returns-then-contains : goal.returns-then-contains
returns-then-contains c =
    let found = c.contains.ensures ∙ (any_found (λ path. path.items) c.args.path.now c.self.inside.known.keys
    ∙ (c.self.invariant c.args.path.now ∙ ap (list_any (λ (other : List ℕ). bytes_eq c.args.path.now other)) c.self.view_is)) in
    known_stays c.args.self.now c.args.path.now (sym found ∙ c.if-contains.true)

pub invariant_of-self-in-Ok : goal.invariant_of-self-in-Ok
invariant_of-self-in-Ok c =
    rw c.in-Ok.ensures.keys (rw c.in_ok-push.ensures.items
    (known_more (λ path. path.items) c.self.inside.known.keys c.in_ok-copy.copy c.self.inside.paths.items c.args.path
    c.in_ok-copy.ensures.items c.self.invariant))

pub returns : goal.returns
returns c =
    let found = c.contains.ensures ∙ (any_found (λ path. path.items) c.args.path.now c.self.inside.known.keys
    ∙ (c.self.invariant c.args.path.now ∙ ap (list_any (λ (other : List ℕ). bytes_eq c.args.path.now other)) c.self.view_is)) in
    elim c.match-insert.branch [
      | in-Ok w ↦ rw w.result-is (w.self-is ∙ (ap (λ (items : List (Bor (List ℕ))). map (λ f. f.now) items) c.in_ok-push.ensures.items
          ∙ added_new c.self.inside.paths.items c.args.path c.args.self.now c.self.view_is (sym found ∙ c.if-contains.false)))
      | in-Err w ↦ rw w.result-is tt
    ]
