use Rattle.std.proofs.Common.{◌≡◌, ◌||◌, ◌∙◌, ℕ, true, false, List, Bor, ap, sym}
use Rattle.std.proofs.lemmas.Result.{IfOk-weaker}
use Rattle.std.proofs.lemmas.List.Filters.{dedup_is}
use Rattle.std.specs.List.{filter}
use Rattle.dump_trees.specs.Paths.{names_of}
use Rattle.dump_trees.specs.steps.Listing.{names_look}
use Rattle.dump_index.specs.steps.Listed.{all_placed}
use Rattle.dump_index.specs.steps.Children.{AreChildren, is_child_named, stands_in}
use Rattle.dump_index.specs.steps.Names.{texts_of}
use Rattle.dump_index.proofs.ChildLemmas.{children_are, moved_named, dedup_named}
use Rattle.dump_index.proofs.index.ChangeIndex.children.Goals as goal

pub standing-requires-clause-names : goal.standing-requires-clause-names
standing-requires-clause-names c name is =
    let once = c.deref.ensures.value ∙ dedup_is _ _ _ c.dedup.ensures.filtered in
    c.in_ok-push_names.ensures.names (λ n some.
    let bad : false ≡ true = sym (ap (λ (items : List (Bor (List ℕ))). is_child_named (texts_of items) n) c.new-names.ensures.items) ∙ some in absurd (cc)) name
    (moved_named c.push_names.new.names.items c.sort_unstable.new.self.items c.sort_unstable.ensures.permutation name
    ∙ sym (dedup_named c.sort_unstable.new.self.items name)
    ∙ sym (ap (λ (names : List (Bor (List ℕ))). is_child_named (texts_of names) name) once) ∙ is)

pub returns : goal.returns
returns c =
    IfOk-weaker c.standing.result
    (λ kept. texts_of kept.items
    ≡ filter (stands_in c.args.self.now c.args.count (names_of c.args.path.now)) (texts_of c.deref.result.now))
    (λ kept. AreChildren c.args.self.now c.args.count (names_of c.args.path.now) (texts_of kept.items))
    (λ kept is.
    children_are c.args.self.now c.args.count (names_of c.args.path.now) c.push_names.new.names.items
    c.sort_unstable.new.self.items c.deref.result.now kept.items
    (λ name. c.in_ok-push_names.ensures.named name
    ∙ ap (λ (items : List (Bor (List ℕ))). is_child_named (texts_of items) name
    || is_child_named (names_look (all_placed c.args.self.now) c.args.count (names_of c.args.path.now)) name) c.new-names.ensures.items)
    c.sort_unstable.ensures.permutation c.sort_unstable.ensures.sorted
    (c.deref.ensures.value ∙ dedup_is _ _ _ c.dedup.ensures.filtered) is)
    c.standing.ensures
