use Rattle.dump_lanes.proofs.Prelude.{◌++◌, sym, ap, ◌∙◌, ◌≡◌, arith, is_ok, View, Mark, steps_of, lane_part, sender_crew, item_steps}
use Rattle.std.proofs.lemmas.List.{append-nil}
use Rattle.crossbeam_channel.specs.Claims.{view}
use Rattle.dump_lanes.specs.steps.LaneMarks.{items_of}
use Rattle.dump_lanes.proofs.LaneSteps.{whole_at_end, marked_at_end}
use Rattle.dump_lanes.proofs.MarkLists.{is_prefix}
use Rattle.dump_lanes.proofs.Moves.{sender_apart, have_item_steps, own_items, knows_put, knows_taken, totals}
use Rattle.dump_lanes.proofs.QueueSteps.{merges, learns}
use Rattle.dump_lanes.proofs.ends.LaneOut.settle.Goals as goal

pub absorb-requires-clause-rule : goal.absorb-requires-clause-rule
absorb-requires-clause-rule g c =
    let puts = c.args.other.puts in
    merges lane_part sender_crew sender_apart _ _ _ _ puts.leads (let e = puts.parts in omega arith)

pub learn_as-requires-clause-rule : goal.learn_as-requires-clause-rule
learn_as-requires-clause-rule g c =
    let parts = ap (λ (l : View (Mark g.row.T.Denot)). l.parts) c.absorb.ensures.rule in
    let a = c.args.other.puts.parts in
    let b = c.args.self.takes.parts in
    learns lane_part sender_crew sender_apart _ _ (omega arith)

pub returns : goal.returns
returns g c =
    let left = c.learn_as.ensures.rule.0 in
    let k = c.learn_as.ensures.rule.1 in
    let joined = c.absorb.ensures.rule in
    let put = (view c.args.other.pass).put in
    let taken = (view c.args.self.pass).taken in
    let put_is : put ≡ (view c.absorb.new.pass).put =
    sym (ap (λ (l : View (Mark g.row.T.Denot)). l.put) joined ∙ (ap (λ l. put ++ l) c.args.self.takes.nothing_put
    ∙ append-nil put)) in
    let taken_is : taken ≡ (view c.absorb.new.pass).taken =
    sym (ap (λ (l : View (Mark g.row.T.Denot)). l.taken) joined ∙ ap (λ l. l ++ taken)
    c.args.other.puts.nothing_taken) in
    let both : put ≡ taken ++ left = put_is ∙ (totals _ _ k ∙ ap (λ l. l ++ left) (sym taken_is)) in
    let items = have_item_steps k.happened left k.steps in
    record {
      in_order = (items_of left, is_prefix put taken left both);
      whole = whole_at_end put taken left
          (is_ok c.args.other.marked) c.args.self.told c.args.other.puts.marks c.args.self.takes.marks both;
      told = marked_at_end put taken left
          (is_ok c.args.other.marked) c.args.self.told c.args.other.puts.marks c.args.self.takes.marks both;
      steps = record {
        happened = item_steps k.happened;
        left = items_of left;
        steps = items.steps;
        each = λ t. ap (λ (l : View (Mark g.row.T.Denot)). steps_of t (item_steps l.steps)) (sym joined)
            ∙ (own_items t (view c.absorb.new.pass).steps ∙ (ap item_steps (k.each t) ∙ sym (own_items t k.happened)));
        put_is = ap items_of (put_is ∙ knows_put _ _ k) ∙ items.put_is;
        taken_is = ap items_of (taken_is ∙ knows_taken _ _ k) ∙ items.taken_is;
      };
    }
