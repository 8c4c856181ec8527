use Rattle.std.proofs.Common.{◌-◌, length, map, take, drop, ap, subst, option_map, inl}
use Rattle.std.proofs.lemmas.Result.{IfOk-weaker}
use Rattle.dump_trees.specs.Paths.{names_of}
use Rattle.dump_index.specs.steps.Listed.{listed_made, listed_of}
use Rattle.dump_cut.specs.steps.ExcludedPaths.{paths_of}
use Rattle.dump_additions.specs.steps.Nodes.{IsSteadOr}
use Rattle.dump_additions.specs.steps.Parts.{part_meant}
use Rattle.dump_additions.proofs.NodeLemmas.{first_part, parts_apart, refused_back, stays}
use Rattle.dump_additions.proofs.addition.addition_of.Goals as goal

pub returns-in-Copy : goal.returns-in-Copy
returns-in-Copy c =
    let tops = paths_of c.args.excluded.now in
    let split = first_part c.as_slice.result.now c.in_ok-parts.parts.items _ c.top-item.result c.as_slice.ensures.value
    c.in-len1-up.len_at_least c.top-item.is in
    IfOk-weaker c.clearing_of.result _ _ (stays c.args.table.now c.args.texts.now c.args.index.now tops (c.args.count - 1) (listed_of c.args.change.now)
    c.args.source.revision (names_of c.args.source.path.now) (ap (option_map listed_made) c.requires.copies)
    (map part_meant c.in_ok-parts.parts.items)
    (map part_meant (take (length c.as_slice.result.now - 1) (drop 1 c.as_slice.result.now))) c.top-item.result.form
    (names_of c.top-item.result.rest.items) split c.in_ok-parts.ensures.parts c.in-Copy.is)
    c.clearing_of.ensures

pub returns-in-Ok : goal.returns-in-Ok
returns-in-Ok c =
    let tops = paths_of c.args.excluded.now in
    let split = first_part c.as_slice.result.now c.in_ok-parts.parts.items _ c.top-item.result c.as_slice.ensures.value
    c.in-len1-up.len_at_least c.top-item.is in
    inl (subst (IsSteadOr c.args.table.now c.args.texts.now c.args.index.now tops (c.args.count - 1) (listed_of c.args.change.now))
    c.in-Ok.is
    (c.in_ok-stead.ensures tops
    (parts_apart c.args.table.now c.args.texts.now c.args.index.now tops (c.args.count - 1) (listed_of c.args.change.now)
    c.args.source.revision (names_of c.args.source.path.now) (ap (option_map listed_made) c.requires.copies)
    (map part_meant c.in_ok-parts.parts.items)
    (map part_meant (take (length c.as_slice.result.now - 1) (drop 1 c.as_slice.result.now))) c.top-item.result.form
    (names_of c.top-item.result.rest.items) split c.in_ok-parts.ensures.parts)))

pub returns : goal.returns
returns c =
    let tops = paths_of c.args.excluded.now in
    let split = first_part c.as_slice.result.now c.in_ok-parts.parts.items _ c.top-item.result c.as_slice.ensures.value
    c.in-len1-up.len_at_least c.top-item.is in
    refused_back c.args.table.now c.args.texts.now c.args.index.now tops (c.args.count - 1) (listed_of c.args.change.now)
    c.args.source.revision (names_of c.args.source.path.now) (ap (option_map listed_made) c.requires.copies)
    (map part_meant c.in_ok-parts.parts.items)
    (map part_meant (take (length c.as_slice.result.now - 1) (drop 1 c.as_slice.result.now))) c.top-item.result.form
    (names_of c.top-item.result.rest.items) split c.in_ok-parts.ensures.parts c.in_default-form.not-Copy c.in-Err.reason
    (subst (IsSteadOr c.args.table.now c.args.texts.now c.args.index.now tops (c.args.count - 1) (listed_of c.args.change.now))
    c.in-Err.is
    (c.in_ok-stead.ensures tops
    (parts_apart c.args.table.now c.args.texts.now c.args.index.now tops (c.args.count - 1) (listed_of c.args.change.now)
    c.args.source.revision (names_of c.args.source.path.now) (ap (option_map listed_made) c.requires.copies)
    (map part_meant c.in_ok-parts.parts.items)
    (map part_meant (take (length c.as_slice.result.now - 1) (drop 1 c.as_slice.result.now))) c.top-item.result.form
    (names_of c.top-item.result.rest.items) split c.in_ok-parts.ensures.parts)))
