use Rattle.std.proofs.Common.{◌++◌, map, option_map, sym, ap, ◌∙◌}
use Rattle.std.specs.List.{list_all}
use Rattle.std.proofs.lemmas.Bool.{and_parts}
use Rattle.dump_trees.specs.steps.FollowedRests.{rests_made}
use Rattle.dump_trees.specs.Following.{Way}
use Rattle.dump_trees.specs.Paths.{names_of}
use Rattle.dump_trees.specs.Siblings.{has_node_names}
use Rattle.dump_index.specs.steps.Listed.{listed_made}
use Rattle.dump_index.specs.steps.ToldKinds.{kinds_told_by}
use Rattle.dump_cut.specs.steps.ExcludedPaths.{paths_of}
use Rattle.dump_cut.specs.steps.NamedPaths.{has_named_source}
use Rattle.dump_cut.proofs.FollowedLemmas.{behind_named, named_shown}
use Rattle.dump_cut.proofs.ReturnedLemmas.{ok_then, paths_behind}
use Rattle.dump_cut.proofs.deletes.lost_paths.Goals as goal

pub returns-clause-named : goal.returns-clause-named
returns-clause-named c =
    let named = and_parts (has_node_names (names_of c.args.change.now.path.now))
    (has_named_source (option_map listed_made c.args.change.now.made)) c.requires in
    ok_then c.joined_rests.result _ _ c.joined_rests.ensures
    (λ paths is.
    named_shown (λ path. names_of path.items) paths.items
    ∙ (ap (list_all has_node_names)
    (paths_behind (names_of c.args.change.now.path.now) c.deref.result.now c.in_ok-rests.rests.items _ c.deref.ensures.value
    is)
    ∙ behind_named (names_of c.args.change.now.path.now) (map (λ rest. names_of rest.now) c.in_ok-rests.rests.items) named.0
    (sym (named_shown (λ rest. names_of rest.now) c.in_ok-rests.rests.items) ∙ c.in_ok-rests.ensures.named)))

pub returns-clause-lost : goal.returns-clause-lost
returns-clause-lost c =
    ok_then c.joined_rests.result _ _ c.joined_rests.ensures
    (λ paths is placed all.
    paths_behind (names_of c.args.change.now.path.now) c.deref.result.now c.in_ok-rests.rests.items _ c.deref.ensures.value is
    ∙ (ap (map (λ rest. names_of c.args.change.now.path.now ++ rest)) (c.in_ok-rests.ensures.followed placed all)
    ∙ sym (ap (λ m. map (λ rest. names_of c.args.change.now.path.now ++ rest)
    (rests_made Way.ToSources (paths_of c.args.excluded.now) (kinds_told_by c.args.index.now) placed
    (names_of c.args.change.now.path.now) (option_map listed_made m))) c.in-Some.ensures.copy)))
