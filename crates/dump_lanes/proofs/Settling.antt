-- What the passes of all ports say together.
use Rattle.dump_lanes.proofs.Prelude.{◌≡◌, ◌⊎◌, inl, inr, ◌<◌, ◌==◌, ℕ, zero, suc, Bool, true, false, List, [], ◌∷◌, ◌++◌, length, map, drop, replicate, cond, flat_map, sum_by, sym, refl, ap, ◌∙◌, subst, ⊎_elim, append_assoc, arith, map-append, filter-append, sum_by-cons, Note, Mark, Item, End, Move, Step, dones_part, sequencer_crew, jobs_part, cutter_crew, AreItemsThen, event_of, all_put, is_thread, steps_of, View, Thread, thread_of, count_ends, marks_in, EndsLast}
use Rattle.std.proofs.Common.{eq-eqb}
use Rattle.std.proofs.lemmas.List.{append-nil}
use Rattle.std.proofs.lemmas.List.Concat.{flat_map-append}
use Rattle.dump_lanes.specs.declared.steps.Move.TheVariants as move
use Rattle.dump_lanes.specs.DoneRule as done_rule
use Rattle.dump_lanes.specs.steps.LaneMarks.{items_of}
use Rattle.dump_lanes.specs.PartSteps.{AreSteps, all_taken}
use Rattle.dump_lanes.specs.steps.QueueRule.{KnowsSteps}
use Rattle.dump_lanes.proofs.DoneSteps.{knows_taken}
use Rattle.dump_lanes.proofs.JobSteps.{knows_put}
use Rattle.dump_lanes.proofs.PartMoves.{in_order}
use Rattle.dump_lanes.proofs.QueueSteps.{weighs_put, weighs_taken}
use Rattle.dump_lanes.proofs.PoolMarks.{count_ends-append, count_ends-replicate, marks_in-then}

module _ {X Y : Type 0} where
  -- one more element in a list whose parts are joined
  pub flat_map-then : (f : X → List Y) (xs : List X) (x : X) → flat_map f (xs ++ x ∷ []) ≡ flat_map f xs ++ f x
  flat_map-then f xs x = flat_map-append f xs (x ∷ []) ∙ ap (λ l. flat_map f xs ++ l) (append-nil (f x))

  -- a list with one more, mapped, is the mapped list with that one mapped after it
  pub map-then : (f : X → Y) (xs : List X) (x : X) → map f (xs ++ x ∷ []) ≡ map f xs ++ f x ∷ []
  map-then f xs x = map-append f xs (x ∷ [])

  -- a sum over a mapped list is the sum over the list of what each element is mapped to
  pub sum_by-map : (f : X → Y) (weight : Y → ℕ) (xs : List X) → sum_by weight (map f xs) ≡ sum_by (λ x. weight (f x)) xs
  sum_by-map f weight [] = refl
  sum_by-map f weight (x ∷ xs) =
      let t = sum_by-map f weight xs in omega (arith, sum_by-cons {X = X}, sum_by-cons {X = Y})

module _ {T : Type 0} where
  abbrev end_weight : Mark T → ℕ
  end_weight (Item x) = 0
  end_weight End = 1

  abbrev item_weight : (T → ℕ) → Mark T → ℕ
  item_weight weight (Item x) = weight x
  item_weight weight End = 0

  weigh_ends : (marks : List (Mark T)) → sum_by end_weight marks ≡ count_ends marks
  weigh_ends [] = refl
  weigh_ends (Item x ∷ marks) = let a = sum_by-cons end_weight (Item x) marks in let t = weigh_ends marks in omega arith
  weigh_ends (End ∷ marks) = let a = sum_by-cons end_weight End marks in let t = weigh_ends marks in omega arith

  weigh_items : (weight : T → ℕ) (marks : List (Mark T)) → sum_by (item_weight weight) marks ≡ sum_by weight
      (items_of marks)
  weigh_items weight [] = refl
  weigh_items weight (Item x ∷ marks) =
      let t = weigh_items weight marks in omega (arith, sum_by-cons {X = T}, sum_by-cons {X = Mark T})
  weigh_items weight (End ∷ marks) = let t = weigh_items weight marks in omega (arith, sum_by-cons {X = Mark T})

  ends_of_items : (xs : List T) → count_ends (map {B = Mark T} Item xs) ≡ 0
  ends_of_items [] = refl
  ends_of_items (x ∷ xs) = ends_of_items xs

  -- items and then one end mark
  pub one_end : (marks : List (Mark T)) → AreItemsThen (End ∷ []) marks → count_ends marks ≡ 1
  one_end marks h =
      ap count_ends h ∙ (let a = count_ends-append (map {B = Mark T} Item (items_of marks))
      (End ∷ []) in let b = ends_of_items (items_of marks) in omega arith)

  no_rest : (gone items : List (Mark T)) → [] ≡ gone ++ items → items ≡ []
  no_rest [] items e = sym e
  no_rest (x ∷ gone) items e = absurd (cc)

  -- where the last mark is an end mark, and none is left, nothing is left
  no_tail : (ys gone items : List (Mark T)) → ys ++ End ∷ [] ≡ gone ++ items → count_ends items ≡ 0 → items ≡ []
  no_tail ys [] items e none = let t = ap count_ends e in let a = count_ends-append ys (End ∷ []) in absurd
      (omega arith)
  no_tail [] (x ∷ gone) items e none = no_rest gone items (ap (λ l. drop 1 l) e)
  no_tail (y ∷ ys) (x ∷ gone) items e none = no_tail ys gone items (ap (λ l. drop 1 l) e) none

  ends_then : (n : ℕ) → replicate {A = Mark T} (suc n) End ≡ replicate n End ++ End ∷ []
  ends_then zero = refl
  ends_then (suc n) = ap (λ l. End ∷ l) (ends_then n)

  nothing_left : (n : ℕ) (put gone items : List (Mark T)) → 0 < n → AreItemsThen (replicate n End) put
      → put ≡ gone ++ items
      → count_ends items ≡ 0 → items ≡ []
  nothing_left zero put gone items more h order none = absurd (omega arith)
  nothing_left (suc n) put gone items more h order none =
      let before : List (Mark T) = map {B = Mark T} Item (items_of put) in
      let last : put ≡ (before ++ replicate n End) ++ End ∷ [] =
      h ∙ (ap (λ l. before ++ l) (ends_then n) ∙ sym (append_assoc before (replicate n End) (End ∷ []))) in
      no_tail (before ++ replicate n End) gone items (sym last ∙ order) none

  -- where as many end marks were taken as were put, after all jobs, each job was taken as often as it was put
  pub all_jobs : (n : ℕ) (v : View (Mark T)) (items : List (Mark T)) → 0 < n → AreItemsThen (replicate n End) v.put
      → count_ends v.taken ≡ n → KnowsSteps jobs_part cutter_crew v items
      → (weight : T → ℕ) → sum_by weight (items_of v.taken) ≡ sum_by weight (items_of v.put)
  all_jobs n v items more h of_taken k weight =
      let gone : List (Mark T) = all_taken jobs_part k.happened in
      let order : v.put ≡ gone ++ items = knows_put v items k ∙ in_order jobs_part k.happened items k.steps in
      let weighs : (f : Mark T → ℕ) → sum_by f v.taken ≡ sum_by f gone = weighs_taken jobs_part cutter_crew v items k in
      let of_put : count_ends v.put ≡ n = ap count_ends h
      ∙ (let a = count_ends-append (map {B = Mark T} Item (items_of v.put)) (replicate n End) in
      let b = ends_of_items (items_of v.put) in
      let c : count_ends {T = T} (replicate n End) ≡ n = count_ends-replicate T n in omega arith) in
      let of_gone : count_ends gone ≡ n = sym (weigh_ends gone) ∙ (sym (weighs end_weight) ∙ (weigh_ends v.taken
      ∙ of_taken)) in
      let none : count_ends items ≡ 0 =
      (let a = ap count_ends order in let b = count_ends-append gone items in omega arith) in
      let left : items ≡ [] = nothing_left n v.put gone items more h order none in
      let all : v.put ≡ gone = order ∙ (ap (λ l. gone ++ l) left ∙ append-nil gone) in
      sym (weigh_items weight v.taken) ∙ (weighs (item_weight weight)
      ∙ (weigh_items weight gone ∙ ap (λ l. sum_by weight (items_of l)) (sym all)))

  -- notes joined to others have the marks of both
  pub marks_in-append : (xs ys : List (Note T)) → marks_in (xs ++ ys) ≡ marks_in xs ++ marks_in ys
  marks_in-append xs ys = map-append (λ (n : Note T). n.mark) xs ys

  -- what a worker has put, if its end mark is the last
  abbrev pub HasEnded : List (Note T) → Type 0
  HasEnded put = AreItemsThen (End ∷ []) (marks_in put)

  -- the last step of each worker, if it made any, put an end mark
  abbrev pub AllEndLast : List (Step (Note T)) → Type 0
  AllEndLast steps = (worker : ℕ) → EndsLast (steps_of (Thread.Worker worker) steps)

  ends_last-append : (xs ys : List (Step (Note T))) → EndsLast xs → EndsLast ys → EndsLast (xs ++ ys)
  ends_last-append [] ys a b = b
  ends_last-append (x ∷ xs) ys a b = a

  -- if the last step of each worker put an end mark in both lists, this is true of the joined list
  pub all_end_last-append : (xs ys : List (Step (Note T))) → AllEndLast xs → AllEndLast ys → AllEndLast (xs ++ ys)
  all_end_last-append xs ys a b worker =
      subst EndsLast (sym (filter-append (λ (s : Step (Note T)). is_thread (Thread.Worker worker)
      (thread_of (event_of s.event))) xs ys)) (ends_last-append (steps_of (Thread.Worker worker) xs)
      (steps_of (Thread.Worker worker) ys) (a worker) (b worker))

  -- no mark, or an end mark after others
  abbrev NoneOrEnd : List (Mark T) → Type 0
  NoneOrEnd marks = (marks ≡ []) ⊎ ((before : List (Mark T)) × (marks ≡ before ++ End ∷ []))

  no_entry : {A : Type 0} (n : Note T) → [] ≡ n ∷ [] → A
  no_entry n e = absurd (let l = ap length e in omega arith)

  put_last : (all : List (Note T)) (n : Note T) (same : Bool) → cond same (n ∷ []) [] ++ [] ≡ n ∷ [] → n.mark ≡ End
      → NoneOrEnd (marks_in (all ++ cond same (n ∷ []) []))
  put_last all n true one is = inr (marks_in all, marks_in-then all n End is)
  put_last all n false one is = no_entry n one

  last_note : (m : Move) (n : Note T) (before : List (Step (Note T)))
      → done_rule.put_by (event_of m) n ++ done_rule.taken_by (event_of m) n ≡ n ∷ []
      → AllEndLast (record { event = m; entry = n } ∷ before)
      → (AllEndLast before → NoneOrEnd (marks_in (all_put dones_part before)))
      → NoneOrEnd (marks_in (all_put dones_part before ++ done_rule.put_by (event_of m) n))
  last_note (move.Put k) n before one ends rest =
      let mine : List (Step (Note T)) = steps_of (Thread.Worker k) before in
      let s : Step (Note T) = record { event = move.Put k; entry = n } in
      put_last (all_put dones_part before) n (n.from == k) one
      (subst (λ b. EndsLast (cond b (s ∷ mine) mine)) (eq-eqb k k refl) (ends k))
  last_note move.Arrive n before one ends rest = subst (λ l. NoneOrEnd (marks_in l))
      (sym (append-nil (all_put dones_part before))) (rest ends)
  last_note m n before one ends rest = no_entry n one

  -- where the last step of each worker put an end mark, the last note that was put is one
  last_put : (happened : List (Step (Note T))) (items : List (Note T)) → AreSteps dones_part happened items
      → AllEndLast happened → NoneOrEnd (marks_in (all_put dones_part happened))
  last_put [] items h ends = inl refl
  last_put (s ∷ before) items h ends = last_note s.event s.entry before h.1.one_entry ends (last_put before h.0 h.2)

  weigh_marks : (h : Mark T → ℕ) (notes : List (Note T)) → sum_by (λ (n : Note T). h n.mark) notes ≡ sum_by h
      (marks_in notes)
  weigh_marks h notes = sym (sum_by-map (λ (n : Note T). n.mark) h notes)

  -- where each worker's end mark was taken, and is the last that it put, each item was taken as often as the workers put
  -- it
  pub all_dones : (n : ℕ) (v : View (Note T)) (items : List (Note T)) → count_ends (marks_in v.taken) ≡ n
      → count_ends (marks_in v.put) ≡ n → AllEndLast v.steps → KnowsSteps dones_part sequencer_crew v items
      → (weight : T → ℕ) → sum_by weight (items_of (marks_in v.taken)) ≡ sum_by weight (items_of (marks_in v.put))
  all_dones n v items of_got of_put ends whole weight =
      let log : List (Note T) = all_put dones_part whole.happened in
      let order : log ≡ v.taken ++ items = in_order dones_part whole.happened items whole.steps
      ∙ ap (λ l. l ++ items) (sym (knows_taken v items whole)) in
      let marks : marks_in log ≡ marks_in v.taken ++ marks_in items = ap marks_in order ∙ marks_in-append v.taken items in
      let weigh : (h : Mark T → ℕ) → sum_by h (marks_in v.put) ≡ sum_by h (marks_in log) =
      λ h. sym (weigh_marks h v.put) ∙ (weighs_put dones_part sequencer_crew v items whole (λ (k : Note T). h k.mark) ∙ weigh_marks h log) in
      let of_log : count_ends (marks_in log) ≡ n = sym (weigh_ends (marks_in log))
      ∙ (sym (weigh end_weight) ∙ (weigh_ends (marks_in v.put) ∙ of_put)) in
      let none : count_ends (marks_in items) ≡ 0 =
      (let a = ap count_ends marks in let b = count_ends-append (marks_in v.taken) (marks_in items) in omega arith) in
      let last : NoneOrEnd (marks_in log) = last_put whole.happened items whole.steps
      (λ worker. subst EndsLast (whole.each (Thread.Worker worker)) (ends worker)) in
      let left : marks_in items ≡ [] = ⊎_elim (λ e. no_rest (marks_in v.taken) (marks_in items) (sym e ∙ marks))
      (λ (y : (before : List (Mark T)) × (marks_in log ≡ before ++ End ∷ [])). no_tail y.0 (marks_in v.taken)
      (marks_in items) (sym y.1 ∙ marks) none) last in
      let all : marks_in log ≡ marks_in v.taken = marks ∙ (ap (λ l. marks_in v.taken ++ l) left
      ∙ append-nil (marks_in v.taken)) in
      sym (sym (weigh_items weight (marks_in v.put)) ∙ (weigh (item_weight weight)
      ∙ (weigh_items weight (marks_in log) ∙ ap (λ l. sum_by weight (items_of l)) all)))
