use Rattle.std.proofs.Common.{◌≡◌, ◌||◌, ◌&&◌, ◌++◌, Bool, true, false, refl, List, ℕ, length, map, nat_lt, bytes_eq, sym, ap, subst, ◌∙◌, arith, inl, inr}
use Rattle.std.proofs.lemmas.Bool.{lt-ltb, or_cases}
use Rattle.std.specs.List.{list_any}
use Rattle.dump_trees.specs.Paths.{names_of, is_name}
use Rattle.dump_trees.specs.steps.Listing.{names_made}
use Rattle.dump_index.specs.steps.Listed.{listed_of, all_placed}
use Rattle.dump_index.specs.steps.Children.{is_child_named}
use Rattle.dump_index.specs.steps.Keys.{keys_in}
use Rattle.dump_index.specs.steps.Names.{texts_of, makes_at, makes_key}
use Rattle.dump_index.specs.steps.Below.{AreFrom, NoneBelow, HasChild}
use Rattle.dump_index.proofs.OrderLemmas.{bare_at}
use Rattle.dump_index.proofs.WalkLemmas.{get_inside}
use Rattle.dump_index.proofs.NameLemmas.{among, among_more, among_all, among_none, keys_are, made_name}
use Rattle.dump_index.proofs.ChildLemmas.{pushed_named, named_pushed, named_kept}
use Rattle.dump_index.proofs.index.children.push_made.Goals as goal
use Rattle.dump_index.proofs.index.children.push_made.Goals.{else-child-count-via-then-child-count+else-makes_at, else-child-count-via-else-child-count, After-drop-top-2}
use Rattle.std.proofs.Math.Bool.{or-false}
use Rattle.dump_rules.proofs.ReachLemmas.{is_not_below}

both_no : (low makes : Bool) → makes ≡ false → (low && makes) ≡ false
both_no true makes isnt = isnt
both_no false makes isnt = refl

pub loop-child-init : goal.loop-child-init
loop-child-init c =
    let top = c.deref.ensures.value in
    record {
      ahead = subst (λ (text : List ℕ). AreFrom (keys_in (map listed_of c.args.changes.now) c.args.shaping.now) text c.first_from-from.result) top
          c.first_from-from.ensures.behind;
      named = λ name.
          sym (or-false (is_child_named (texts_of c.args.names.now.items) name))
          ∙ ap (λ b. is_child_named (texts_of c.args.names.now.items) name || b)
          (sym (among_none (map listed_of c.args.changes.now) c.args.count (keys_in (map listed_of c.args.changes.now) c.args.shaping.now) c.in_ok-top.top.items
          c.first_from-from.result
          (subst (λ (text : List ℕ). NoneBelow (keys_in (map listed_of c.args.changes.now) c.args.shaping.now) text 0 c.first_from-from.result) top
          c.first_from-from.ensures.front) name));
    }

pub loop-child-smaller-in_ok-push : goal.loop-child-smaller-in_ok-push
loop-child-smaller-in_ok-push c =
    let has = c.in-Some.ensures in
    let inside = get_inside (keys_in (map listed_of c.args.changes.now) c.args.shaping.now) has.at _ has.is in
    let low = inside.0 in
    let first = has.first in
    let next = has.next in
    omega arith

pub loop-child-preserved-in_ok-push : goal.loop-child-preserved-in_ok-push
loop-child-preserved-in_ok-push c =
    let listed = map listed_of c.args.changes.now in
    let child = c.in-Some.child in
    let has = subst (λ (text : List ℕ). HasChild (keys_in (map listed_of c.args.changes.now) c.args.shaping.now) text c.loop-child.from child)
    c.deref-in-loop-child.ensures.value c.in-Some.ensures in
    let first = has.first in
    let next = has.next in
    record {
      ahead = λ n key high at. c.loop-child.invariant.ahead n key (omega arith) at;
      named = λ name.
          ap (λ items. is_child_named (texts_of items) name) c.in_ok-push.ensures.items
          ∙ pushed_named c.loop-child.names.items child.name name
          ∙ named_pushed (is_child_named (texts_of c.loop-child.names.items) name) (is_child_named (texts_of c.args.names.now.items) name)
          (among listed c.args.count (keys_in (map listed_of c.args.changes.now) c.args.shaping.now) c.in_ok-top.top.items c.loop-child.from name)
          (among listed c.args.count (keys_in (map listed_of c.args.changes.now) c.args.shaping.now) c.in_ok-top.top.items child.behind name)
          (bytes_eq child.name.now name) (nat_lt child.place c.args.count) (makes_at listed child.place)
          (c.loop-child.invariant.named name)
          (among_more listed c.args.count (keys_in (map listed_of c.args.changes.now) c.args.shaping.now) c.in_ok-top.top.items c.loop-child.from child has name)
          (lt-ltb child.place c.args.count c.if-child-count.true) (sym c.makes_at.ensures ∙ c.if-makes_at.true);
    }

pub loop-child-smaller : goal.loop-child-smaller
loop-child-smaller c =
    let has = c.in-Some.ensures in
    let inside = get_inside (keys_in (map listed_of c.args.changes.now) c.args.shaping.now) has.at _ has.is in
    let low = inside.0 in
    let first = has.first in
    let next = has.next in
    omega arith

pub loop-child-preserved : goal.loop-child-preserved
loop-child-preserved c =
    let listed = map listed_of c.args.changes.now in
    let child = c.in-Some.child in
    let has = subst (λ (text : List ℕ). HasChild (keys_in (map listed_of c.args.changes.now) c.args.shaping.now) text c.loop-child.from child)
    c.deref-in-loop-child.ensures.value c.in-Some.ensures in
    let first = has.first in
    let next = has.next in
    let none : (nat_lt child.place c.args.count && makes_at listed child.place) ≡ false =
    elim c.else-child-count.branch [
      | else-child-count-via-then-child-count+else-makes_at w ↦
          both_no (nat_lt child.place c.args.count) (makes_at listed child.place) (sym w.makes_at.ensures ∙ w.if-makes_at.false)
      | else-child-count-via-else-child-count w ↦
          ap (λ b. b && makes_at listed child.place) (is_not_below child.place c.args.count w.if-child-count.false)
    ] in
    record {
      ahead = λ n key high at. c.loop-child.invariant.ahead n key (omega arith) at;
      named = λ name.
          named_kept (is_child_named (texts_of c.loop-child.names.items) name) (is_child_named (texts_of c.args.names.now.items) name)
          (among listed c.args.count (keys_in (map listed_of c.args.changes.now) c.args.shaping.now) c.in_ok-top.top.items c.loop-child.from name)
          (among listed c.args.count (keys_in (map listed_of c.args.changes.now) c.args.shaping.now) c.in_ok-top.top.items child.behind name)
          (bytes_eq child.name.now name) (nat_lt child.place c.args.count && makes_at listed child.place)
          (c.loop-child.invariant.named name)
          (among_more listed c.args.count (keys_in (map listed_of c.args.changes.now) c.args.shaping.now) c.in_ok-top.top.items c.loop-child.from child has name) none;
    }

-- what is found by the end
named : (c : After-drop-top-2) (name : List ℕ) → is_child_named (texts_of c.loop-child.names.items) name
    ≡ (is_child_named (texts_of c.args.names.now.items) name
    || is_child_named (names_made (all_placed (map listed_of c.args.changes.now)) c.args.count (names_of c.args.path.now)) name)
named c name =
    let listed = map listed_of c.args.changes.now in
    let count = c.args.count in
    let keys = keys_in listed c.args.shaping.now in
    c.loop-child.invariant.named name
    ∙ ap (λ b. is_child_named (texts_of c.args.names.now.items) name || b)
    (among_all listed count keys c.in_ok-top.top.items c.loop-child.from
    (subst (λ (text : List ℕ). NoneBelow keys text c.loop-child.from (length keys)) c.deref-in-loop-child.ensures.value
    c.in_default.ensures) name
    ∙ ap (λ (text : List ℕ). is_name name && list_any (makes_key listed count (text ++ name)) keys) c.in_ok-top.ensures
    ∙ keys_are listed (bare_at 0 c.args.changes.now c.requires.ordered) c.args.path.now name count keys c.requires.keys.keys)

pub returns-clause-named : goal.returns-clause-named
returns-clause-named c = named (goal.at.returns-clause-named c).After-drop-top-2

pub returns-clause-names : goal.returns-clause-names
returns-clause-names c old name is =
    let made = named (goal.at.returns-clause-names c).After-drop-top-2 name in
    elim (or_cases (is_child_named (texts_of c.args.names.now.items) name)
    (is_child_named (names_made (all_placed (map listed_of c.args.changes.now)) c.args.count (names_of c.args.path.now)) name)
    (sym made ∙ is)) [
      | inl before ↦ old name before
      | inr new ↦
          made_name (map listed_of c.args.changes.now) (bare_at 0 c.args.changes.now c.requires.ordered) c.args.path.now name
          c.args.count new
    ]
