use Rattle.std.proofs.Common.{◌≡◌, ◌==◌, ◌+◌, ◌-◌, get_or, map, ap, ◌∙◌, subst}
use Rattle.std.specs.List.{list_all}
use Rattle.std.specs.Prelude.{Ok}
use Rattle.std.proofs.lemmas.Bool.{and_left}
use Rattle.dump_index.specs.steps.Listed.{listed_of}
use Rattle.dump_cut.specs.steps.NamedPaths.{has_named_paths}
use Rattle.dump_cut.specs.steps.ExcludedPaths.{paths_of}
use Rattle.dump_cut.proofs.CheckLemmas.{named_at}
use Rattle.dump_expansion.specs.steps.Given.{given_of}
use Rattle.dump_additions.specs.steps.Nodes.{IsAdditionOr}
use Rattle.dump_additions.proofs.StepLemmas.{all_done, going_further, kept_next, no_change, none_next, no_copy, none_of, nothing_back, stopped}
use Rattle.dump_additions.proofs.addition.additions.Goals as goal

pub loop-place-preserved-in_default : goal.loop-place-preserved-in_default
loop-place-preserved-in_default c =
    kept_next c.args.table.now c.args.texts.now c.args.index.now (paths_of c.args.excluded.now) c.changes-change-items.result.now
    c.changes-change-items.ensures c.loop-place.place no_change c.loop-place-test.true (map given_of c.loop-place.steads.items)
    c.loop-place.invariant
    (no_copy c.args.table.now c.args.texts.now c.args.index.now (paths_of c.args.excluded.now) _ _
    (c.source_of.ensures.none (none_of c.source_of.result c.in_default.not-Some)))
    (and_left _ _ (and_left _ _ (c.source_of.ensures.none (none_of c.source_of.result c.in_default.not-Some))))

pub addition_of-requires-clause-named : goal.addition_of-requires-clause-named
addition_of-requires-clause-named c =
    named_at c.changes-change-items.result.now c.loop-place.place _
    (ap (list_all has_named_paths) c.changes-change-items.ensures ∙ c.requires) c.loop-place-test.true

pub returns-in-Err : goal.returns-in-Err
returns-in-Err c =
    stopped c.args.table.now c.args.texts.now c.args.index.now (paths_of c.args.excluded.now) c.changes-change-items.result.now
    c.changes-change-items.ensures c.loop-place.place no_change c.loop-place-test.true (map given_of c.loop-place.steads.items)
    c.loop-place.invariant c.in-Err.reason
    (subst (IsAdditionOr c.args.table.now c.args.texts.now c.args.index.now (paths_of c.args.excluded.now) (c.loop-place.place + 1 - 1)
    (listed_of (get_or c.changes-change-items.result.now c.loop-place.place no_change))) c.in-Err.is c.in_ok-found.ensures)

pub loop-place-preserved-in_default-found : goal.loop-place-preserved-in_default-found
loop-place-preserved-in_default-found c =
    none_next c.args.table.now c.args.texts.now c.args.index.now (paths_of c.args.excluded.now) c.changes-change-items.result.now
    c.changes-change-items.ensures c.loop-place.place no_change c.loop-place-test.true (map given_of c.loop-place.steads.items)
    c.loop-place.invariant
    (nothing_back c.args.table.now c.args.texts.now c.args.index.now (paths_of c.args.excluded.now) (c.loop-place.place + 1 - 1)
    (listed_of (get_or c.changes-change-items.result.now c.loop-place.place no_change)) c.in-Ok.found c.in_default-found.not-Some
    (subst (IsAdditionOr c.args.table.now c.args.texts.now c.args.index.now (paths_of c.args.excluded.now) (c.loop-place.place + 1 - 1)
    (listed_of (get_or c.changes-change-items.result.now c.loop-place.place no_change))) c.in-Ok.is c.in_ok-found.ensures))

pub loop-place-preserved : goal.loop-place-preserved
loop-place-preserved c =
    going_further c.args.table.now c.args.texts.now c.args.index.now (paths_of c.args.excluded.now)
    c.changes-change-items.result.now c.changes-change-items.ensures c.loop-place.place no_change c.loop-place-test.true
    (map given_of c.loop-place.steads.items) c.loop-place.invariant c.in-Some-found.stead c.push.new.self.items
    c.loop-place.steads.items Rattle.std.proofs.Common.refl c.in_ok-push.ensures.items
    (subst (λ o. IsAdditionOr c.args.table.now c.args.texts.now c.args.index.now (paths_of c.args.excluded.now)
    (c.loop-place.place + 1 - 1) (listed_of (get_or c.changes-change-items.result.now c.loop-place.place no_change)) (Ok o))
    c.in-Some-found.is
    (subst (IsAdditionOr c.args.table.now c.args.texts.now c.args.index.now (paths_of c.args.excluded.now) (c.loop-place.place + 1 - 1)
    (listed_of (get_or c.changes-change-items.result.now c.loop-place.place no_change))) c.in-Ok.is c.in_ok-found.ensures))

pub returns : goal.returns
returns c = (
  all_done c.args.table.now c.args.texts.now c.args.index.now (paths_of c.args.excluded.now) c.changes-change-items.result.now
      c.changes-change-items.ensures c.loop-place.place c.loop-place-test.false (map given_of c.loop-place.steads.items)
      c.loop-place.invariant,
  c.loop-place.invariant.written,
)
