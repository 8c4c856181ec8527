use Rattle.std.proofs.Common.{List, [], ◌∷◌, ◌++◌, map, take, sym, ap, ap₂, ◌∙◌}
use Rattle.std.proofs.lemmas.List.{take_all, take_more, map-append}
use Rattle.dump_trees.specs.Paths.{NodePath, names_of}
use Rattle.dump_index.proofs.SlashLemmas.{names_joined}
use Rattle.dump_cut.proofs.joined_rests.joined_rests.Goals as goal

pub loop-rest-preserved : goal.loop-rest-preserved
loop-rest-preserved c =
    ap (map (λ path. names_of path.items)) c.in_ok-push.ensures.items
    ∙ (map-append (λ path. names_of path.items) c.loop-rest.paths.items (c.in_ok-path.path ∷ [])
    ∙ (ap₂ (λ (front : List NodePath) (last : NodePath). front ++ last ∷ []) c.loop-rest.invariant
    (ap names_of c.in_ok-path.ensures ∙ names_joined c.args.top.now _)
    ∙ sym (ap (map (λ rest. names_of c.args.top.now ++ names_of rest.now))
    (take_more c.args.rests.now c.loop-rest.rest-index _ c.loop-rest-test.true)
    ∙ map-append (λ rest. names_of c.args.top.now ++ names_of rest.now)
    (take c.loop-rest.rest-index c.args.rests.now) (_ ∷ []))))

pub returns : goal.returns
returns c =
    c.loop-rest.invariant
    ∙ ap (map (λ rest. names_of c.args.top.now ++ names_of rest.now))
    (take_all c.loop-rest.rest-index c.args.rests.now c.loop-rest-test.false)
