-- What an end has put or taken after a call.
use Rattle.dump_lanes.proofs.Prelude.{◌≡◌, Bool, true, List, [], ◌∷◌, ◌++◌, sym, ap, ◌∙◌, subst, Result, Ok, Err, MatchResult, Told, MayCome, Ended, View, Mark, Item, End, LaneEnd, IsWholeAtEnd, AreItemsThen, IsPutting, IsTaking, mark_if, after_put, after_take, lane_of, sending_of, receiving_of, told, ComesAgain}
use Rattle.atomic_table.specs.declared.badge.Badge.{Badge}
use Rattle.crossbeam_channel.specs.Claims.{Pass, IsSeatAt, view}
use Rattle.crossbeam_channel.specs.declared.flavors.array.Doing.{Doing}
use Rattle.crossbeam_channel.specs.declared.flavors.array.Key.{Key}
use Rattle.crossbeam_channel.specs.declared.flavors.array.Rows.{Rows}
use Rattle.dump_lanes.specs.steps.LaneMarks.{items_of, mark_of}
use Rattle.dump_lanes.specs.steps.LaneQueue.{put_step, take_step}
use Rattle.dump_lanes.proofs.MarkLists.{items_of-then_item, items_of-then_end, then_item, then_end, is_whole, is_marked}

-- an end to which items may still come has found no end that it could report again
pub nothing_told : (end : Told) (next : LaneEnd) → end ≡ MayCome → ComesAgain (told end) next
nothing_told end next o other = absurd (other (ap told o))

module _ {T Q M L A : Type 0} (c : Rows (Badge (Key (Mark T))) (Doing (Mark T) (View (Mark T))) Q M (Key (Mark T)) L A) where
  -- two passes of one channel belong to one lane
  same_lane : (p q : Pass (Mark T) (View (Mark T))) → IsSeatAt c p → IsSeatAt c q → lane_of p ≡ lane_of q
  same_lane p q a b i = record { table = (a.0 ∙ sym b.0) i; key = (a.1 ∙ sym b.1) i }

  -- a sending end after a call, whose pass was q and is p
  pub same_sending : (p q : Pass (Mark T) (View (Mark T))) (put : List T)
      → IsSeatAt c p → IsSeatAt c q → items_of (view p).put ≡ put → sending_of p ≡ record (sending_of q) { put = put }
  same_sending p q put a b e i = record { lane = same_lane p q a b i; put = e i }

  -- a receiving end after a call, whose pass was q and is p
  pub same_receiving : (p q : Pass (Mark T) (View (Mark T))) (end : Told) (taken : List T)
      → IsSeatAt c p → IsSeatAt c q → items_of (view p).taken ≡ taken
      → receiving_of p end ≡ record (receiving_of q end) { taken = taken }
  same_receiving p q end taken a b e i = record { lane = same_lane p q a b i; taken = e i; told = told end }

module _ {T : Type 0} where
  -- an end that has found this is the same after it finds it again
  pub ends_as : (pass : Pass (Mark T) (View (Mark T))) (end : Told) (next : LaneEnd)
      → told end ≡ next → receiving_of pass end ≡ record (receiving_of pass end) { told = next }
  ends_as pass end next e i = record { lane = lane_of pass; taken = items_of (view pass).taken; told = e i }

  -- where the sender put an item, that item follows those that it had put
  pub put_item : (v w : View (Mark T)) (x : T) → w ≡ after_put v (put_step (Item x)) → items_of w.put ≡ items_of v.put ++ x ∷ []
  put_item v w x e = ap (λ (l : View (Mark T)). items_of l.put) e ∙ items_of-then_item v.put x

  -- where the receiver took an item, that item follows those that it had taken
  pub take_item : (v w : View (Mark T)) (x : T) → w ≡ after_take v (take_step (Item x)) → items_of w.taken ≡ items_of v.taken ++ x ∷ []
  take_item v w x e = ap (λ (l : View (Mark T)). items_of l.taken) e ∙ items_of-then_item v.taken x

  -- where the receiver took the end mark, it has taken the same items as before
  pub take_end : (v w : View (Mark T)) → w ≡ after_take v (take_step End) → items_of w.taken ≡ items_of v.taken
  take_end v w e = ap (λ (l : View (Mark T)). items_of l.taken) e ∙ items_of-then_end v.taken

  -- a sending end that put an item, or got it back, may put more
  pub still_puts : {A B : Type 0} (r : Result A B) (v w : View (Mark T)) (x : T) (P : B → Type 0) → IsPutting [] v
      → MatchResult r (λ _. w ≡ after_put v (put_step (Item x))) (λ e. P e × (w ≡ v)) → IsPutting [] w
  still_puts (Ok a) v w x P h e =
      subst (IsPutting []) (sym e) record { leads = h.leads; parts = h.parts; nothing_taken = h.nothing_taken; marks = then_item v.put x h.marks }
  still_puts (Err b) v w x P h e = subst (IsPutting []) (sym e.1) h

  -- a sending end that was closed has put its end mark
  pub closes : (v w : View (Mark T)) → IsPutting [] v → w ≡ after_put v (put_step End) → IsPutting (mark_if true) w
  closes v w h e = subst (IsPutting (End ∷ [])) (sym e) record { leads = h.leads; parts = h.parts; nothing_taken = h.nothing_taken; marks = then_end v.put h.marks }

  -- the end mark is no item
  pub close_keeps : (v w : View (Mark T)) → w ≡ after_put v (put_step End) → items_of w.put ≡ items_of v.put
  close_keeps v w e = ap (λ (l : View (Mark T)). items_of l.put) e ∙ items_of-then_end v.put

  -- a receiving end that took an item may take more
  pub still_takes : (v w : View (Mark T)) (x : T) (end : Told) → end ≡ MayCome
      → IsTaking (mark_of end) v → w ≡ after_take v (take_step (Item x)) → IsTaking (mark_of end) w
  still_takes v w x end o h e =
      let before : IsTaking [] v = subst (λ t. IsTaking (mark_of t) v) o h in
      let after : IsTaking [] w =
      subst (IsTaking []) (sym e) record { follows = before.follows; from = before.from; parts = before.parts; nothing_put = before.nothing_put; marks = then_item v.taken x before.marks } in
      subst (λ t. IsTaking (mark_of t) w) (sym o) after

  -- a receiving end that took the end mark has found the end
  pub ends : (v w : View (Mark T)) (end : Told) → end ≡ MayCome
      → IsTaking (mark_of end) v → w ≡ after_take v (take_step End) → IsTaking (mark_of Ended) w
  ends v w end o h e =
      let before : IsTaking [] v = subst (λ t. IsTaking (mark_of t) v) o h in
      subst (IsTaking (End ∷ [])) (sym e) record { follows = before.follows; from = before.from; parts = before.parts; nothing_put = before.nothing_put; marks = then_end v.taken before.marks }

  -- if the end mark was taken, both lists are the same
  pub whole_at_end : (put taken left : List (Mark T)) (marked : Bool) (end : Told)
      → AreItemsThen (mark_if marked) put → AreItemsThen (mark_of end) taken → put ≡ taken ++ left
      → IsWholeAtEnd (told end) (items_of put) (items_of taken)
  whole_at_end put taken left marked Ended hp ht e = is_whole put taken marked left hp ht e
  whole_at_end put taken left marked end hp ht e = tt

  -- the end was found only if its mark was put
  pub marked_at_end : (put taken left : List (Mark T)) (marked : Bool) (end : Told)
      → AreItemsThen (mark_if marked) put → AreItemsThen (mark_of end) taken → put ≡ taken ++ left
      → told end ≡ LaneEnd.Ended → marked ≡ true
  marked_at_end put taken left marked Ended hp ht e is = is_marked put taken marked left hp ht e
  marked_at_end put taken left marked end hp ht e is = absurd (cc)
