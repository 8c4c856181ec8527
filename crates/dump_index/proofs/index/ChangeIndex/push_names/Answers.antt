use Rattle.std.proofs.Common.{◌≡◌, ◌||◌, ◌++◌, ℕ, List, map, ap, ap₂, sym, ◌∙◌, arith}
use Rattle.dump_trees.specs.Paths.{names_of}
use Rattle.dump_trees.specs.steps.Looking.{end_of}
use Rattle.dump_trees.specs.steps.Listing.{names_look, names_made}
use Rattle.dump_index.specs.steps.InOrder.{ends_in_slash}
use Rattle.dump_index.specs.steps.Listed.{Listed, listed_of, all_placed}
use Rattle.dump_index.specs.steps.Children.{is_child_named}
use Rattle.dump_index.specs.steps.Names.{texts_of}
use Rattle.dump_index.specs.steps.Touching.{shapes}
use Rattle.dump_index.specs.steps.Looks.{origin_names}
use Rattle.dump_index.proofs.PlaceLemmas.{latest_low, latest_holds}
use Rattle.dump_index.proofs.SlashLemmas.{names_joined}
use Rattle.dump_index.proofs.OriginLemmas.{hops_back}
use Rattle.dump_index.proofs.LookNames.{hop_names, none_next}
use Rattle.dump_index.proofs.index.ChangeIndex.push_names.Goals as goal
use Rattle.std.proofs.Math.Bool.{or-false}

pub origin-requires-clause-shaped : goal.origin-requires-clause-shaped
origin-requires-clause-shaped c place is =
    let path = c.loop-at.at.items in
    let one : c.deref-in-loop-at-2.result.now ≡ path = c.deref-in-loop-at-2.ensures.value in
    let two : c.deref-in-loop-at-3.result.now ≡ path = c.deref-in-loop-at-3.ensures.value in
    ap (λ (text : List ℕ). shapes c.args.self.now text place) (two ∙ sym one)
    ∙ latest_holds (shapes c.args.self.now c.deref-in-loop-at-2.result.now) c.loop-at.before place
    (sym c.latest_shaping-shaped.ensures.place ∙ is)

pub loop-at-smaller : goal.loop-at-smaller
loop-at-smaller c =
    let back = hops_back c.args.self.now c.latest_shaping-shaped.result c.in-Copied.source c.in-Copied.rest c.in-Copied.ensures.back in
    let low = latest_low (shapes c.args.self.now c.deref-in-loop-at-2.result.now) c.loop-at.before back.0
    (sym c.latest_shaping-shaped.ensures.place ∙ back.1) in
    let end = back.2 in
    let its = c.end_of-before.ensures in
    omega arith

pub loop-at-preserved : goal.loop-at-preserved
loop-at-preserved c =
    let listed = c.args.self.now in
    let back = hops_back listed c.latest_shaping-shaped.result c.in-Copied.source c.in-Copied.rest c.in-Copied.ensures.back in
    let next = c.in_ok-next-in-Copied.ensures in
    record {
      bare = ap ends_in_slash next ∙ back.3;
      named = λ name.
          hop_names listed c.loop-at.at.items c.deref-in-loop-at.result.now c.deref-in-loop-at-2.result.now
          c.deref-in-loop-at-3.result.now c.deref-in-loop-at.ensures.value c.deref-in-loop-at-2.ensures.value
          c.deref-in-loop-at-3.ensures.value c.loop-at.before c.latest_shaping-shaped.result name _
          (is_child_named (texts_of c.loop-at.names.items) name) (is_child_named (texts_of c.push_made.new.names.items) name)
          (names_look (all_placed listed) (end_of (all_placed listed) c.in-Copied.source.revision)
          (names_of c.in-Copied.source.path.now ++ names_of c.in-Copied.rest.now))
          (c.loop-at.invariant.named name)
          (c.in_ok-push_made.ensures.named name
          ∙ ap (λ (all : List Listed). is_child_named (texts_of c.loop-at.names.items) name
          || is_child_named (names_made (all_placed all) c.loop-at.before (names_of c.deref-in-loop-at.result.now)) name)
          (ap (map listed_of) c.deref.ensures.value ∙ c.self.view_is))
          (c.latest_shaping-shaped.ensures.names name) c.in-Copied.ensures.names
          ∙ ap (λ (names : List (List ℕ)). is_child_named (texts_of c.push_made.new.names.items) name || is_child_named names name)
          (sym (ap₂ (λ n (text : List ℕ). names_look (all_placed listed) n (names_of text)) c.end_of-before.ensures next
          ∙ ap (names_look (all_placed listed) (end_of (all_placed listed) c.in-Copied.source.revision))
          (names_joined c.in-Copied.source.path.now c.in-Copied.rest.now)));
      names = λ before. c.in_ok-push_made.ensures.names (c.loop-at.invariant.names before);
    }

pub returns-in_default : goal.returns-in_default
returns-in_default c =
    let listed = c.args.self.now in
    record {
      named = λ name.
          sym (hop_names listed c.loop-at.at.items c.deref-in-loop-at.result.now c.deref-in-loop-at-2.result.now
          c.deref-in-loop-at-3.result.now c.deref-in-loop-at.ensures.value c.deref-in-loop-at-2.ensures.value
          c.deref-in-loop-at-3.ensures.value c.loop-at.before c.latest_shaping-shaped.result name _
          (is_child_named (texts_of c.loop-at.names.items) name) (is_child_named (texts_of c.push_made.new.names.items) name)
          (origin_names listed c.origin.result)
          (c.loop-at.invariant.named name)
          (c.in_ok-push_made.ensures.named name
          ∙ ap (λ (all : List Listed). is_child_named (texts_of c.loop-at.names.items) name
          || is_child_named (names_made (all_placed all) c.loop-at.before (names_of c.deref-in-loop-at.result.now)) name)
          (ap (map listed_of) c.deref.ensures.value ∙ c.self.view_is))
          (c.latest_shaping-shaped.ensures.names name) c.origin.ensures.names
          ∙ ap (λ (names : List (List ℕ)). is_child_named (texts_of c.push_made.new.names.items) name || is_child_named names name)
          (none_next listed c.origin.result c.in_default.not-Copied)
          ∙ or-false (is_child_named (texts_of c.push_made.new.names.items) name));
      names = λ before. c.in_ok-push_made.ensures.names (c.loop-at.invariant.names before);
    }
