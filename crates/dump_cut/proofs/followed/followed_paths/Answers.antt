use Rattle.std.proofs.Common.{◌++◌, map, option_map, sym, ap, ap₂, ◌∙◌}
use Rattle.std.specs.List.{list_all}
use Rattle.std.proofs.lemmas.Bool.{and_parts}
use Rattle.dump_trees.specs.Paths.{names_of}
use Rattle.dump_trees.specs.Siblings.{has_node_names}
use Rattle.dump_index.specs.steps.Listed.{listed_made, listed_of}
use Rattle.dump_index.specs.steps.ToldKinds.{kinds_told_by}
use Rattle.dump_cut.specs.steps.FollowedPaths.{paths_made}
use Rattle.dump_cut.specs.steps.ExcludedPaths.{paths_of}
use Rattle.dump_cut.specs.steps.Returned.{way_meant}
use Rattle.dump_cut.specs.steps.NamedPaths.{has_named_source}
use Rattle.dump_cut.proofs.FollowedLemmas.{behind_named, named_shown, paths_followed, to_named}
use Rattle.dump_cut.proofs.ReturnedLemmas.{ok_then, paths_behind}
use Rattle.dump_cut.proofs.followed.followed_paths.Goals as goal

pub returns-clause-named : goal.returns-clause-named
returns-clause-named c =
    let named = and_parts (has_node_names (names_of c.args.change.now.path.now))
    (has_named_source (option_map listed_made c.args.change.now.made)) c.requires in
    let source = sym (ap (λ m. has_named_source (option_map listed_made m)) c.in-Some.ensures.copy) ∙ named.1 in
    ok_then c.joined_rests.result _ _ c.joined_rests.ensures
    (λ paths is.
    named_shown (λ path. names_of path.items) paths.items
    ∙ (ap (list_all has_node_names)
    (paths_behind (names_of c.to-to.result.now) c.deref.result.now c.in_ok-rests.rests.items _ c.deref.ensures.value is)
    ∙ behind_named (names_of c.to-to.result.now) (map (λ rest. names_of rest.now) c.in_ok-rests.rests.items)
    (ap has_node_names c.to-to.ensures ∙ to_named (way_meant c.args.way) (names_of c.args.change.now.path.now)
    (names_of c.in-Some.source.path.now) named.0 source)
    (sym (named_shown (λ rest. names_of rest.now) c.in_ok-rests.rests.items) ∙ c.in_ok-rests.ensures.named)))

pub returns-clause-followed : goal.returns-clause-followed
returns-clause-followed c =
    ok_then c.joined_rests.result _ _ c.joined_rests.ensures
    (λ paths is.
    paths_followed (way_meant c.args.way) (paths_of c.args.excluded.now) c.args.index.now (listed_of c.args.change.now)
    c.in-Some.source.revision (names_of c.in-Some.source.path.now) (map (λ path. names_of path.items) paths.items)
    (names_of c.to-to.result.now) (map (λ rest. names_of rest.now) c.in_ok-rests.rests.items)
    (ap (option_map listed_made) c.in-Some.ensures.copy) c.to-to.ensures
    (paths_behind (names_of c.to-to.result.now) c.deref.result.now c.in_ok-rests.rests.items _ c.deref.ensures.value is)
    c.in_ok-rests.ensures.followed)

pub returns-clause-exact : goal.returns-clause-exact
returns-clause-exact c =
    ok_then c.joined_rests.result _ _ c.joined_rests.ensures
    (λ paths is placed all.
    paths_behind (names_of c.to-to.result.now) c.deref.result.now c.in_ok-rests.rests.items _ c.deref.ensures.value is
    ∙ (ap₂ (λ to rests. map (λ rest. to ++ rest) rests) c.to-to.ensures (c.in_ok-rests.ensures.followed placed all)
    ∙ sym (ap (λ m. paths_made (way_meant c.args.way) (paths_of c.args.excluded.now) (kinds_told_by c.args.index.now) placed
    (names_of c.args.change.now.path.now) (option_map listed_made m)) c.in-Some.ensures.copy)))
