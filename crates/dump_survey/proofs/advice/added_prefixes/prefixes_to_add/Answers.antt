use Rattle.dump_survey.proofs.Prelude.{◌≡◌, Bool, List, ℕ, Bor, Vec, Global, map, subst, sym, ap, ◌∙◌, list_any, Side, CopyNeed, uncovered, PathNeed, need_view, needs_of}
use Rattle.std.specs.Result.{IfOk}
use Rattle.dump_survey.proofs.NeedLemmas.{reordered, needs_match, kept_in}
use Rattle.dump_survey.proofs.advice.added_prefixes.prefixes_to_add.Goals as goal
use Rattle.dump_survey.proofs.advice.added_prefixes.prefixes_to_add.Goals.{then-eq, else-eq}

pub wanted_paths-requires : goal.wanted_paths-requires
wanted_paths-requires c =
    let found = c.in_ok-needs.ensures in
    let same : (test : PathNeed → Bool) → list_any test (map need_view c.if-eq.needs.items)
    ≡ list_any test (needs_of c.side-side.result found.0) = elim c.if-eq.branch [
      | then-eq w ↦ λ test. ap (λ (v : Vec CopyNeed Global). list_any test (map need_view v.items)) w.needs-is
          ∙ reordered c.in_ok-needs.needs.items w.reverse.new.self.items _ w.reverse.ensures.permutation found.3 test
      | else-eq w ↦ λ test. ap (λ (v : Vec CopyNeed Global). list_any test (map need_view v.items)) w.needs-is
          ∙ ap (list_any test) found.3
    ] in
    subst (λ (l : List CopyNeed). Rattle.std.specs.Prelude.IsTrue (Rattle.dump_survey.specs.steps.CopyNeeds.each_matches_itself (map need_view l)))
    (sym c.deref.ensures.value) (needs_match c.side-side.result found.0 (map need_view c.if-eq.needs.items) same)

pub returns : goal.returns
returns c =
    let found = c.in_ok-needs.ensures in
    let same : (test : PathNeed → Bool) → list_any test (map need_view c.if-eq.needs.items)
    ≡ list_any test (needs_of c.side-side.result found.0) = elim c.if-eq.branch [
      | then-eq w ↦ λ test. ap (λ (v : Vec CopyNeed Global). list_any test (map need_view v.items)) w.needs-is
          ∙ reordered c.in_ok-needs.needs.items w.reverse.new.self.items _ w.reverse.ensures.permutation found.3 test
      | else-eq w ↦ λ test. ap (λ (v : Vec CopyNeed Global). list_any test (map need_view v.items)) w.needs-is
          ∙ ap (list_any test) found.3
    ] in
    kept_in c.args.options.now c.args.dump.now (map need_view c.deref.result.now)
    (map (λ path. path.now) c.in_ok-wanted.wanted.items) (
      found.0,
      found.1,
      found.2,
      λ test. ap (λ (l : List CopyNeed). list_any test (map need_view l)) c.deref.ensures.value
          ∙ (same test ∙ ap (λ (side : Side). list_any test (needs_of side found.0)) c.side-side.ensures),
    )
    c.in_ok-wanted.ensures.needed c.in_ok-wanted.ensures.closed c.uncovered.result
    (subst (λ (l : List (Bor (List ℕ))). IfOk c.uncovered.result (λ top. map (λ path. path.now) top.items
    ≡ uncovered (map (λ path. path.now) l))) c.deref-2.ensures.value c.uncovered.ensures)
