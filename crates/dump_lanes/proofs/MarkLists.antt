-- The items among marks, as marks join the list.
use Rattle.dump_lanes.proofs.Prelude.{◌≡◌, ◌≢◌, Bool, true, false, List, [], ◌∷◌, ◌++◌, map, drop, sym, refl, ap, ◌∙◌, map-append, Mark, Item, End, AreItemsThen, mark_if}
use Rattle.std.proofs.lemmas.List.{append-nil}
use Rattle.dump_lanes.specs.steps.LaneMarks.{items_of}

module _ {T : Type 0} where
  -- marks joined to others have the items of both
  pub items_of-append : (xs ys : List (Mark T)) → items_of (xs ++ ys) ≡ items_of xs ++ items_of ys
  items_of-append [] ys = refl
  items_of-append (Item x ∷ xs) ys = ap (λ l. x ∷ l) (items_of-append xs ys)
  items_of-append (End ∷ xs) ys = items_of-append xs ys

  -- an item joins
  pub items_of-then_item : (ms : List (Mark T)) (x : T) → items_of (ms ++ Item x ∷ []) ≡ items_of ms ++ x ∷ []
  items_of-then_item ms x = items_of-append ms (Item x ∷ [])

  -- the end mark joins
  pub items_of-then_end : (ms : List (Mark T)) → items_of (ms ++ End ∷ []) ≡ items_of ms
  items_of-then_end ms = items_of-append ms (End ∷ []) ∙ append-nil (items_of ms)

  all_items : (ms : List (Mark T)) → AreItemsThen [] ms → ms ≡ map Item (items_of ms)
  all_items ms h = h ∙ append-nil (map Item (items_of ms))

  -- if an item is added to a list of items, the list still has only items
  pub then_item : (ms : List (Mark T)) (x : T) → AreItemsThen [] ms → AreItemsThen [] (ms ++ Item x ∷ [])
  then_item ms x h =
      let items : List T = items_of ms in
      let more : List T = items_of (ms ++ Item x ∷ []) in
      let one : ms ++ Item x ∷ [] ≡ map Item (items ++ x ∷ []) =
      ap (λ l. l ++ Item x ∷ []) (all_items ms h) ∙ sym (map-append {B = Mark T} Item items (x ∷ [])) in
      let two : map {B = Mark T} Item (items ++ x ∷ []) ≡ map Item more =
      ap (λ l. map {B = Mark T} Item l) (sym (items_of-then_item ms x)) in
      one ∙ (two ∙ sym (append-nil (map Item more)))

  -- if the end mark is added to a list of items, the list is items and then the end mark
  pub then_end : (ms : List (Mark T)) → AreItemsThen [] ms → AreItemsThen (End ∷ []) (ms ++ End ∷ [])
  then_end ms h =
      ap (λ l. l ++ End ∷ []) (all_items ms h ∙ ap (λ l. map {B = Mark T} Item l) (sym (items_of-then_end ms)))

  -- what was taken is a prefix of what was put
  pub is_prefix : (put taken left : List (Mark T))
      → put ≡ taken ++ left → items_of put ≡ items_of taken ++ items_of left
  is_prefix put taken left e = ap items_of e ∙ items_of-append taken left

  closes : (put taken : List T) (marked : Bool) (left : List (Mark T))
      → map Item put ++ mark_if marked ≡ (map Item taken ++ End ∷ []) ++ left → taken ≡ put
  closes [] [] marked left e = refl
  closes [] (y ∷ taken) true left e = absurd (cc)
  closes [] (y ∷ taken) false left e = absurd (cc)
  closes (x ∷ put) [] marked left e = absurd (cc)
  closes (x ∷ put) (y ∷ taken) marked left e =
      let rest = closes put taken marked left (ap (λ l. drop 1 l) e) in
      let items = ap items_of e in cc

  unmarked : (put taken : List T) (left : List (Mark T)) → map Item put ++ [] ≢ (map Item taken ++ End ∷ []) ++ left
  unmarked [] [] left e = absurd (cc)
  unmarked [] (y ∷ taken) left e = absurd (cc)
  unmarked (x ∷ put) [] left e = absurd (cc)
  unmarked (x ∷ put) (y ∷ taken) left e = unmarked put taken left (ap (λ l. drop 1 l) e)

  -- the end mark was taken only if it was put
  pub is_marked : (put taken : List (Mark T)) (marked : Bool) (left : List (Mark T))
      → AreItemsThen (mark_if marked) put → AreItemsThen (End ∷ []) taken → put ≡ taken ++ left → marked ≡ true
  is_marked put taken true left hp ht e = refl
  is_marked put taken false left hp ht e = absurd (unmarked (items_of put) (items_of taken) left
      (sym hp ∙ (e ∙ ap (λ l. l ++ left) ht)))

  -- if the end mark was taken, what was taken is all that was put
  pub is_whole : (put taken : List (Mark T)) (marked : Bool) (left : List (Mark T))
      → AreItemsThen (mark_if marked) put → AreItemsThen (End ∷ []) taken → put ≡ taken ++ left
      → items_of taken ≡ items_of put
  is_whole put taken marked left hp ht e =
      closes (items_of put) (items_of taken) marked left (sym hp ∙ (e ∙ ap (λ l. l ++ left) ht))
