-- One step of a thread, over plain values.
use Rattle.dump_pipeline.proofs.Prelude.{◌≡◌, ◌≢◌, ℕ, ◌+◌, ◌<◌, ◌≤◌, Bool, true, List, [], ◌∷◌, ◌++◌, length, Option, Some, None, refl, sym, ap, ◌∙◌, subst, arith, map, append_assoc, replicate, IsNone, MatchBool, All, false≢true, append-nil, map-append, flat_map-append, first_numbers, Clash, IsWaiting, Row, Sending, CutterSide, slot_item, with_slot_item, range_next, empty_row, arrived_more, released_more, passed_on, same_row, next_is_missing, wrong_item, taken_place, still_clash, all_then, CutterState, Ending, EndsAfter, record_number, CutStep, Record, count_fits, Settings, Ghosts, Job, Checked, NumberedPiece, End, Stage, Going, Ended, job_number, job_numbers, checked_number, checked_numbers, piece_numbers, text_of, HasPut, HasCut, HasReleased, HasEndedWith, HasSequenced, stage_end}
use Rattle.std.proofs.Common.{length-append}
use Rattle.dump_records.specs.declared.cutter.Cut.TheVariants as cuts

-- no more records than bytes
pub ends_within : (dump : List ℕ) (number : ℕ) (ending : Ending) → EndsAfter dump number ending → number ≤ length dump
ends_within dump number ending (records, (rest, cut, _, _), count) =
    let fits = count_fits 0 0 dump rest records cut in omega arith

-- a cutter's step, by the number of records that it has given
pub cut_number : (old new : CutterState) (dump : List ℕ) (number : ℕ) (r : Record)
    → old ≡ record { dump = dump; number = number }
    → CutStep old (cuts.Item r) new → record_number r ≡ number
cut_number old new dump number r is (of, same, item, next) = same ∙ ap (λ (c : CutterState). c.number) is

-- after the next record the cutter has given one more of the same dump
pub cut_next : (old new : CutterState) (dump : List ℕ) (number : ℕ) (r : Record)
    → old ≡ record { dump = dump; number = number }
    → CutStep old (cuts.Item r) new → new ≡ record { dump = dump; number = number + 1 }
cut_next old new dump number r is (of, same, item, next) =
    next ∙ ap (λ (c : CutterState). record c { number = c.number + 1 }) is

-- the end that a cutter gives is that of its dump
pub cut_end : (old : CutterState) (dump : List ℕ) (number : ℕ) (ending : Ending)
    → old ≡ record { dump = dump; number = number }
    → EndsAfter old.dump old.number ending → EndsAfter dump number ending
cut_end old dump number ending is = subst (λ (c : CutterState). EndsAfter c.dump c.number ending) is

module _ {D : Type 0} {run : Ghosts D} where
  -- the cutter puts one more job
  pub put_more : (count : ℕ) (old a b c : CutterSide (Job D run)) (job : Job D run) → HasPut count old a
      → b ≡ record a { drawn = b.drawn } → a.drawn < b.drawn → c ≡ record b { put = b.put ++ job ∷ [] }
      → job_number job ≡ count → HasPut (count + 1) old c
  put_more count old a b c job h drew more put is = subst (HasPut (count + 1) old) (sym put) at_b
    where
      put_is : b.put ≡ a.put
      put_is = ap (λ (x : CutterSide (Job D run)). x.put) drew

      at_b : HasPut (count + 1) old (record b { put = b.put ++ job ∷ [] })
      at_b = record {
        pool = ap (λ (x : CutterSide (Job D run)). x.pool) drew ∙ h.pool;
        workers = ap (λ (x : CutterSide (Job D run)). x.workers) drew ∙ h.workers;
        open_ = ap (λ (x : CutterSide (Job D run)). x.marks) drew ∙ h.open_;
        numbers = map-append job_number b.put (job ∷ [])
            ∙ (ap (λ (l : List (Job D run)). job_numbers l ++ job_number job ∷ []) put_is
            ∙ (ap (λ (l : List ℕ). l ++ job_number job ∷ []) h.numbers
            ∙ (ap (λ (n : ℕ). first_numbers count ++ n ∷ []) is ∙ sym (range_next count))));
        credits = let k = h.credits in omega arith;
      }

  -- the cutter has put the last job
  pub all_put : (dump : List ℕ) (total : ℕ) (ending : Ending) (old new : CutterSide (Job D run)) (seen : Bool)
      → EndsAfter dump total ending
      → HasPut (total + 1) old new → HasCut dump new seen
  all_put dump total ending old new seen ends h =
      record { count = total + 1; numbers = h.numbers; credits = h.credits; whole = λ _. (total, ending, ends, refl) }

is_none_so : {T : Type 0} (o : Option T) → IsNone o → o ≡ None
is_none_so None h = refl
is_none_so (Some x) h = absurd (false≢true (sym h))

not_none_so : {T : Type 0} (o : Option T) → (IsNone o → ⊥) → (x : T) × (o ≡ Some x)
not_none_so None h = absurd (h refl)
not_none_so (Some x) h = (x, refl)

module _ {D : Type 0} {run : Ghosts D} where
  -- at first the row is empty
  pub row_first : (taken : List (Checked D run)) (places : List (Option (Checked D run))) → taken ≡ []
      → places ≡ replicate (length places) None
      → Row checked_number (length places) 0 (checked_numbers taken) places
  row_first taken places none empty =
      let w : ℕ = length places in
      subst (λ (t : List (Checked D run)). Row checked_number w 0 (checked_numbers t) places) (sym none)
      (subst (λ (p : List (Option (Checked D run))). Row checked_number w 0 [] p) (sym empty)
      (empty_row checked_number w))

  numbers_more : (taken : List (Checked D run)) (done : Checked D run)
      → checked_numbers (taken ++ done ∷ []) ≡ checked_numbers taken ++ checked_number done ∷ []
  numbers_more taken done = map-append checked_number taken (done ∷ [])

  -- nothing was in the place of the next item
  pub row_unlifted : (w r : ℕ) (arrived : List ℕ) (old new : List (Option (Checked D run))) (o : Option (Checked D run))
      → Row checked_number w r arrived old
      → o ≡ slot_item old r → o ≡ None → new ≡ with_slot_item old r None → Row checked_number w r arrived new
  row_unlifted w r arrived old new o h is none set = subst (Row checked_number w r arrived) (sym set)
      (same_row checked_number w r arrived old h (sym is ∙ none))

  -- the next item was in its place
  pub row_lifted : (w r : ℕ) (arrived : List ℕ) (old new : List (Option (Checked D run))) (o : Option (Checked D run))
      (done : Checked D run) → 0 < length old
      → Row checked_number w r arrived old → o ≡ slot_item old r → o ≡ Some done → checked_number done ≡ r
      → new ≡ with_slot_item old r None
      → Row checked_number w (r + 1) arrived new
  row_lifted w r arrived old new o done some h is stands same set =
      subst (Row checked_number w (r + 1) arrived) (sym set)
      (released_more checked_number w r arrived old done some h (sym is ∙ stands) same)

  -- another item was in the place of the next one
  pub lifted_wrong : (w r : ℕ) (arrived : List ℕ) (old : List (Option (Checked D run))) (o : Option (Checked D run))
      (done : Checked D run) → 0 < length old
      → Row checked_number w r arrived old → o ≡ slot_item old r → o ≡ Some done → checked_number done ≢ r → Clash w r arrived
  lifted_wrong w r arrived old o done some h is stands other = wrong_item checked_number w r arrived old done some h
      (sym is ∙ stands) other

  -- an item was put into its place
  pub row_placed : (w r : ℕ) (taken taken' : List (Checked D run)) (old new : List (Option (Checked D run)))
      (done : Checked D run) → 0 < length old
      → Row checked_number w r (checked_numbers taken) old → taken' ≡ taken ++ done ∷ []
      → IsNone (slot_item old (checked_number done))
      → new ≡ with_slot_item old (checked_number done) (Some done) → Row checked_number w r (checked_numbers taken') new
  row_placed w r taken taken' old new done some h more free set =
      subst (λ (l : List ℕ). Row checked_number w r l new)
      (sym (ap (λ (t : List (Checked D run)). checked_numbers t) more ∙ numbers_more taken done))
      (subst (Row checked_number w r (checked_numbers taken ++ checked_number done ∷ [])) (sym set)
      (arrived_more checked_number w r (checked_numbers taken) old done some h
      (is_none_so (slot_item old (checked_number done)) free)))

  -- the next item was taken, and has no place in the row
  pub row_passed : (w r : ℕ) (taken taken' : List (Checked D run)) (places : List (Option (Checked D run)))
      (done : Checked D run) → Row checked_number w r (checked_numbers taken) places → taken' ≡ taken ++ done ∷ []
      → checked_number done ≡ r → Row checked_number w (r + 1) (checked_numbers taken') places
  row_passed w r taken taken' places done h more is =
      subst (λ (l : List ℕ). Row checked_number w (r + 1) l places)
      (sym (ap (λ (t : List (Checked D run)). checked_numbers t) more ∙ numbers_more taken done
      ∙ ap (λ (n : ℕ). checked_numbers taken ++ n ∷ []) is))
      (passed_on checked_number w r (checked_numbers taken) places h)

  -- the place of an item was taken
  pub place_clash : (w r : ℕ) (taken taken' : List (Checked D run)) (old : List (Option (Checked D run)))
      (done : Checked D run) → 0 < length old
      → Row checked_number w r (checked_numbers taken) old → taken' ≡ taken ++ done ∷ []
      → (IsNone (slot_item old (checked_number done)) → ⊥)
      → Clash w r (checked_numbers taken')
  place_clash w r taken taken' old done some h more full =
      let stands = not_none_so (slot_item old (checked_number done)) full in
      subst (Clash w r) (sym (ap (λ (t : List (Checked D run)). checked_numbers t) more ∙ numbers_more taken done))
      (taken_place checked_number w r (checked_numbers taken) old done stands.0 some h stands.1)

  -- the next item isn't in its place
  pub none_lifted : (w r : ℕ) (arrived : List ℕ) (old : List (Option (Checked D run))) (o : Option (Checked D run))
      → Row checked_number w r arrived old
      → o ≡ slot_item old r → o ≡ None → IsWaiting r arrived
  none_lifted w r arrived old o h is none = next_is_missing checked_number w r arrived old h (sym is ∙ none)

  -- what the sequencer returns
  pub sequenced_so : (settings : Settings) (dump : List ℕ) (w next : ℕ) (taken : List (Checked D run))
      (put : List NumberedPiece) (end : Option End) (stray : Bool)
      → HasEndedWith settings dump end next (text_of put) → piece_numbers put ≡ first_numbers next → length put ≡ next
      → MatchBool stray (Clash w next (checked_numbers taken)) (IsWaiting next (checked_numbers taken))
      → HasSequenced settings dump w taken put end stray
  sequenced_so settings dump w next taken put end stray text numbered count order = record {
    text = subst (λ (n : ℕ). HasEndedWith settings dump end n (text_of put)) (sym count) text;
    numbered = subst (λ (n : ℕ). piece_numbers put ≡ first_numbers n) (sym count) numbered;
    order = subst (λ (n : ℕ). MatchBool stray (Clash w n (checked_numbers taken)) (IsWaiting n (checked_numbers taken)))
        (sym count) order;
  }

  -- the items that still come are taken
  pub sequenced_more : (settings : Settings) (dump : List ℕ) (w : ℕ) (taken taken' : List (Checked D run))
      (put : List NumberedPiece) (end : Option End) (stray : Bool) → stray ≡ true
      → HasSequenced settings dump w taken put end stray → (more : List ℕ)
      × (checked_numbers taken' ≡ checked_numbers taken ++ more) → HasSequenced settings dump w taken' put end true
  sequenced_more settings dump w taken taken' put end stray is h (more, longer) = record {
    text = h.text;
    numbered = h.numbered;
    order = subst (λ (l : List ℕ). Clash w (length put) l) (sym longer)
        (still_clash w (length put) (checked_numbers taken) more
        (subst (λ (b : Bool). MatchBool b (Clash w (length put) (checked_numbers taken))
        (IsWaiting (length put) (checked_numbers taken))) is h.order));
  }

  -- one more done was taken
  pub more_taken : (old : List ℕ) (taken taken' : List (Checked D run)) (done : Checked D run) → (more : List ℕ)
      × (checked_numbers taken ≡ old ++ more)
      → taken' ≡ taken ++ done ∷ [] → (more : List ℕ) × (checked_numbers taken' ≡ old ++ more)
  more_taken old taken taken' done (more, is) longer = (
    more ++ checked_number done ∷ [],
    ap (λ (t : List (Checked D run)). checked_numbers t) longer
        ∙ (numbers_more taken done ∙ (ap (λ (l : List ℕ). l ++ checked_number done ∷ []) is
        ∙ append_assoc old more (checked_number done ∷ []))),
  )

-- a piece was released
pub text_more : (pieces : List NumberedPiece) (piece : NumberedPiece)
    → text_of (pieces ++ piece ∷ []) ≡ text_of pieces ++ piece.piece
text_more pieces piece = flat_map-append (λ (p : NumberedPiece). p.piece) pieces (piece ∷ [])
    ∙ ap (λ (l : List ℕ). text_of pieces ++ l) (append-nil piece.piece)

-- with one more piece put, what was released is the text of all of them
pub text_released : (settings : Settings) (dump : List ℕ) (stage : Stage) (next number : ℕ)
    (old new : Sending NumberedPiece) (piece : NumberedPiece)
    → new ≡ record old { put = old.put ++ piece ∷ [] } → number ≡ next
    → HasReleased settings dump stage (number + 1) (text_of old.put ++ piece.piece) → HasReleased settings dump stage
    (next + 1) (text_of new.put)
text_released settings dump stage next number old new piece put is h =
    subst (λ (n : ℕ). HasReleased settings dump stage (n + 1) (text_of new.put)) is
    (subst (HasReleased settings dump stage (number + 1))
    (sym (ap (λ (x : Sending NumberedPiece). text_of x.put) put ∙ text_more old.put piece)) h)

-- with one more piece put, their count is one more
pub count_released : (next : ℕ) (old new : Sending NumberedPiece) (piece : NumberedPiece)
    → new ≡ record old { put = old.put ++ piece ∷ [] } → length old.put ≡ next
    → length new.put ≡ next + 1
count_released next old new piece put is = ap (λ (x : Sending NumberedPiece). length x.put) put
    ∙ (length-append old.put (piece ∷ []) ∙ ap (λ (n : ℕ). n + 1) is)

-- with one more piece put, under the next number, their numbers are still the first ones
pub numbers_released : (next : ℕ) (old new : Sending NumberedPiece) (piece : NumberedPiece)
    → new ≡ record old { put = old.put ++ piece ∷ [] } → piece.number.value ≡ next
    → piece_numbers old.put ≡ first_numbers next → piece_numbers new.put ≡ first_numbers (next + 1)
numbers_released next old new piece put is h =
    ap (λ (x : Sending NumberedPiece). piece_numbers x.put) put
    ∙ (map-append (λ (p : NumberedPiece). p.number.value) old.put (piece ∷ [])
    ∙ (ap (λ (l : List ℕ). l ++ piece.number.value ∷ []) h
    ∙ (ap (λ (n : ℕ). first_numbers next ++ n ∷ []) is ∙ sym (range_next next))))

-- how far it has come says what it ended with
pub ended_so : (settings : Settings) (dump : List ℕ) (stage : Stage) (end : Option End) (next : ℕ) (text : List ℕ)
    → end ≡ stage_end stage
    → HasReleased settings dump stage next text → HasEndedWith settings dump end next text
ended_so settings dump (Going filter) end next text is h = subst
    (λ (e : Option End). HasEndedWith settings dump e next text) (sym is) (filter, h)
ended_so settings dump (Ended done) end next text is h = subst
    (λ (e : Option End). HasEndedWith settings dump e next text) (sym is) h

-- one more of both lists
pub map_push : {X Y Z : Type 0} (f : X → Z) (g : Y → Z) (xs xs' : List X) (x : X) (ys : List Y) (y : Y)
    → xs' ≡ xs ++ x ∷ [] → map f xs ≡ map g ys → f x ≡ g y
    → map f xs' ≡ map g (ys ++ y ∷ [])
map_push {X} {Y} {Z} f g xs xs' x ys y more same at =
    ap (λ (l : List X). map f l) more ∙ (map-append f xs (x ∷ [])
    ∙ (ap (λ (l : List Z). l ++ f x ∷ []) same
    ∙ (ap (λ (z : Z). map g ys ++ z ∷ []) at ∙ sym (map-append g ys (y ∷ [])))))

-- if something is true of each item and of one more, it is true of all with this one
pub all_push : {X : Type 0} (P : X → Type 0) (xs xs' : List X) (x : X) → xs' ≡ xs ++ x ∷ [] → All P xs → P x → All P xs'
all_push {X} P xs xs' x more h p = subst (λ (l : List X). All P l) (sym more) (all_then P xs x h p)

-- a count of items rises by one with one more item
pub len_push : {Y : Type 0} (old new : ℕ) (ys : List Y) (y : Y) → new ≡ old + 1 → old ≡ length ys
    → new ≡ length (ys ++ y ∷ [])
len_push old new ys y more same = more ∙ (ap (λ (n : ℕ). n + 1) same ∙ sym (length-append ys (y ∷ [])))

-- before any piece is put, their numbers are the first ones, of which there are none
pub numbers_at_first : (put : List NumberedPiece) → put ≡ [] → piece_numbers put ≡ first_numbers 0
numbers_at_first put none = ap (λ (l : List NumberedPiece). piece_numbers l) none

-- the same list
pub map_same : {X : Type 0} (xs : List X) → map (λ (x : X). x) xs ≡ xs
map_same [] = refl
map_same {X} (x ∷ xs) = ap (λ (l : List X). x ∷ l) (map_same xs)
