use Rattle.std.proofs.Common.{◌≡◌, ℕ, List, Option, map, true, ap, sym, subst, ◌∙◌, arith}
use Rattle.dump_trees.specs.Paths.{names_of}
use Rattle.dump_trees.specs.steps.Listing.{names_behind, names_look}
use Rattle.dump_index.specs.steps.Listed.{Listed, listed_of, all_placed}
use Rattle.dump_index.specs.steps.Touching.{shapes}
use Rattle.dump_index.specs.steps.Looks.{came, origin_kind, origin_names, GoesBack}
use Rattle.dump_index.proofs.OriginLemmas.{in_range, origin_came, origin_back}
use Rattle.dump_index.proofs.LookNames.{names_came}
use Rattle.dump_index.proofs.index.ChangeIndex.origin.Goals as goal

pub index-requires : goal.index-requires
index-requires c =
    let shaped = c.requires.shaped c.in-Some.place c.in-Some.is in
    let low = in_range c.self.inside.changes.items c.args.path.now c.in-Some.place
    (subst (λ (all : List Listed). shapes all c.args.path.now c.in-Some.place ≡ true) (sym c.self.view_is) shaped) in
    let inside = c.self.inside.changes.ok in omega arith

pub returns-in-Some-clause-kind : goal.returns-in-Some-clause-kind
returns-in-Some-clause-kind c =
    let changes = c.self.inside.changes.items in
    let path = c.args.path.now in
    let place = c.in-Some.place in
    let shaped = subst (λ (all : List Listed). shapes all path place ≡ true) (sym c.self.view_is)
    (c.requires.shaped place c.in-Some.is) in
    subst (λ (all : List Listed). origin_kind all c.made_origin.result ≡ came all path c.args.shaped) c.self.view_is
    (origin_came changes c.self.invariant.ordered path c.requires.bare place c.index.result.now c.index.ensures shaped
    c.made_origin.result c.made_origin.ensures ∙ ap (came (map listed_of changes) path) (sym c.in-Some.is))

pub returns-in-Some-clause-back : goal.returns-in-Some-clause-back
returns-in-Some-clause-back c =
    let changes = c.self.inside.changes.items in
    let path = c.args.path.now in
    let place = c.in-Some.place in
    let shaped = subst (λ (all : List Listed). shapes all path place ≡ true) (sym c.self.view_is)
    (c.requires.shaped place c.in-Some.is) in
    subst (λ (all : List Listed). GoesBack all c.args.shaped c.made_origin.result) c.self.view_is
    (subst (λ (o : Option ℕ). GoesBack (map listed_of changes) o c.made_origin.result) (sym c.in-Some.is)
    (origin_back changes c.self.invariant.ordered path c.requires.bare place c.index.result.now c.index.ensures shaped
    c.made_origin.result c.made_origin.ensures))

pub returns-in-Some-clause-names : goal.returns-in-Some-clause-names
returns-in-Some-clause-names c =
    let changes = c.self.inside.changes.items in
    let path = c.args.path.now in
    let place = c.in-Some.place in
    let shaped = subst (λ (all : List Listed). shapes all path place ≡ true) (sym c.self.view_is)
    (c.requires.shaped place c.in-Some.is) in
    subst (λ (all : List Listed). origin_names all c.made_origin.result
    ≡ names_behind (names_look (all_placed all)) (all_placed all) (names_of path) c.args.shaped) c.self.view_is
    (names_came changes c.self.invariant.ordered path c.requires.bare place c.index.result.now c.index.ensures shaped
    c.made_origin.result c.made_origin.ensures
    ∙ ap (names_behind (names_look (all_placed (map listed_of changes))) (all_placed (map listed_of changes)) (names_of path))
    (sym c.in-Some.is))
