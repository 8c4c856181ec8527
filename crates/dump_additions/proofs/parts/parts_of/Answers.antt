use Rattle.std.proofs.Common.{◌≡◌, ◌++◌, ◌∷◌, ◌↔◌, ◌<◌, [], List, Some, map, ap, sym, subst, ◌∙◌}
use Rattle.std.specs.Prelude.{IsSome}
use Rattle.std.proofs.lemmas.List.{map-append}
use Rattle.std.proofs.lemmas.List.Folds.{list_all-map}
use Rattle.dump_trees.specs.Paths.{NodePath, names_of}
use Rattle.dump_trees.specs.Siblings.{has_node_names}
use Rattle.dump_cut.specs.steps.ExcludedPaths.{paths_of}
use Rattle.dump_additions.specs.steps.Parts.{AddsInside, AreAllParts, part_meant, pending, IsFormAt, PartMeant}
use Rattle.dump_additions.proofs.PartLemmas.{IsGoing, directory_next, none_left, none_popped, nothing_next, part_next, popped}
use Rattle.dump_additions.proofs.parts.parts_of.Goals as goal
use Rattle.dump_additions.proofs.parts.parts_of.Goals.{in-Directory+in_ok-push_inside, in_default-form}

pub returns-in_default-clause-named : goal.returns-in_default-clause-named
returns-in_default-clause-named c =
    sym (list_all-map (λ (part : PartMeant). has_node_names part.rest) part_meant c.loop.parts.items) ∙ c.loop.invariant.done_named

pub returns-in_default-clause-parts : goal.returns-in_default-clause-parts
returns-in_default-clause-parts c =
    none_left c.args.index.now (paths_of c.args.excluded.now) c.args.source.revision (names_of c.args.path.now)
    (names_of c.args.source.path.now) (map part_meant c.loop.parts.items) (λ others all.
    c.loop.invariant.goes_on others
    (subst (λ rs. AreAllParts c.args.index.now (paths_of c.args.excluded.now) c.args.source.revision (names_of c.args.path.now)
    (names_of c.args.source.path.now) rs others)
    (sym (none_popped c.loop.left.items c.pop.result
    (subst (λ n. IsSome c.pop.result ↔ (0 < n)) c.loop.left.ok.0 c.pop.ensures.variant) c.in_default.not-Some)) all))

pub loop-preserved-in_default-2 : goal.loop-preserved-in_default-2
loop-preserved-in_default-2 c =
    nothing_next c.args.index.now (paths_of c.args.excluded.now) c.args.source.revision (names_of c.args.path.now)
    (names_of c.args.source.path.now) (names_of c.in-Some.rest.items) (pending c.pop.new.self.items) (pending c.loop.left.items)
    (map part_meant c.loop.parts.items)
    (popped c.loop.left.items c.pop.new.self.items c.pop.result c.in-Some.rest c.pop.ensures.items c.in-Some.is)
    c.loop.invariant c.in_ok-form.field-0
    (subst (λ t. IsFormAt c.args.index.now (paths_of c.args.excluded.now) c.args.source.revision (names_of c.args.path.now)
    (names_of c.args.source.path.now) (names_of t) c.in_ok-form.field-0) c.deref.ensures.value c.in_ok-form.ensures)
    c.in_default-2.not-Some

pub loop-preserved : goal.loop-preserved
loop-preserved c =
    let index = c.args.index.now in
    let tops = paths_of c.args.excluded.now in
    let number = c.args.source.revision in
    let path = names_of c.args.path.now in
    let source = names_of c.args.source.path.now in
    let rest = names_of c.in-Some.rest.items in
    let done = map part_meant c.loop.parts.items in
    let Goes : List NodePath → List PartMeant → Type 0 = IsGoing index tops number path source in
    let left_is = popped c.loop.left.items c.pop.new.self.items c.pop.result c.in-Some.rest c.pop.ensures.items c.in-Some.is in
    let form : IsFormAt index tops number path source rest (Some c.in-Some-2.form) =
    subst (λ t. IsFormAt index tops number path source (names_of t) (Some c.in-Some-2.form)) c.deref.ensures.value
    (subst (IsFormAt index tops number path source (names_of c.deref.result.now)) c.in-Some-2.is c.in_ok-form.ensures) in
    let more : map part_meant c.push-in-loop.new.self.items ≡ done ++ record { form = c.in-Some-2.form; rest = rest } ∷ [] =
    ap (map part_meant) c.in_ok-push-2.ensures.items ∙ map-append part_meant c.loop.parts.items (_ ∷ []) in
    subst (Goes (pending c.match-form.left.items)) (sym more) (elim c.match-form.branch [
      | in-Directory+in_ok-push_inside w ↦
          subst (λ left. Goes (pending left.items) (done ++ record { form = c.in-Some-2.form; rest = rest } ∷ [])) (sym w.left-is)
          (subst (λ f. Goes (pending w.push_inside.new.left.items) (done ++ record { form = f; rest = rest } ∷ [])) (sym w.in-Directory.is)
          (directory_next index tops number path source rest (pending c.pop.new.self.items) (pending c.loop.left.items) done left_is
          c.loop.invariant
          (subst (λ f. IsFormAt index tops number path source rest (Some f)) w.in-Directory.is form)
          (pending w.push_inside.new.left.items)
          (subst (λ t. AddsInside index number source (names_of t) (pending c.pop.new.self.items) (pending w.push_inside.new.left.items))
          w.deref-in-Directory.ensures.value w.in_ok-push_inside.ensures)))
      | in_default-form w ↦
          subst (λ left. Goes (pending left.items) (done ++ record { form = c.in-Some-2.form; rest = rest } ∷ [])) (sym w.left-is)
          (part_next index tops number path source rest (pending c.pop.new.self.items) (pending c.loop.left.items) done left_is
          c.loop.invariant c.in-Some-2.form form w.in_default-form.not-Directory)
    ])
