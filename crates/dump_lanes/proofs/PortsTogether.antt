-- What the ports of a pool say together, once each is closed and has taken its last item.
use Rattle.dump_lanes.proofs.Prelude.{◌≡◌, ◌<◌, ◌==◌, ℕ, suc, true, false, List, [], ◌∷◌, ◌++◌, length, map, replicate, flat_map, sum_by, All, Contains, sym, refl, ap, ◌∙◌, subst, append_assoc, arith, range_with_len, length-append, Note, Queues, WorkerPort, Mark, End, View, dones_part, sequencer_crew, jobs_part, cutter_crew, after_join, AreItemsThen, mark_if, name_of, count_ends, marks_in, EndsLast, IsCutting, IsSequencing, steps_of, Thread, PoolName, PoolState, CutterSide, WorkerSide, new_cutter, new_worker, AreWorkersOf, IsDone, all_given, worker_port, steps_by, HasTakenIn, HasJobsOf, HasDonesOf, done_steps, length-map-range_with_len, get_or-map-range_with_len}
use Rattle.std.proofs.Common.{slice_index_or}
use Rattle.std.proofs.lemmas.Bool.{eqb-true}
use Rattle.std.proofs.lemmas.List.{append-nil, get_or-map, length-map}
use Rattle.std.proofs.lemmas.List.Elements.{All-map, All-push}
use mathlib.Core.List.{map-map}
use mathlib.Core.Logic.{dite}
use native.Mathlib.Decide.{ℕ_discrete}
use Rattle.crossbeam_queue.specs.Passes.{view}
use Rattle.dump_lanes.specs.steps.QueueRule.{KnowsSteps}
use Rattle.dump_lanes.specs.steps.LaneMarks.{items_of}
use Rattle.dump_lanes.specs.steps.PortSides.{all_taken}
use Rattle.dump_lanes.proofs.MarkLists.{items_of-append}
use Rattle.dump_lanes.proofs.PoolMarks.{count_ends-append}
use Rattle.dump_lanes.proofs.Settling.{one_end, all_jobs, all_dones, HasEnded, AllEndLast, all_end_last-append, marks_in-append, flat_map-then}

module _ {X Y : Type 0} where
  -- a mapped list is as long as the list
  pub length_of_map : (f : X → Y) (xs : List X) → length (map f xs) ≡ length xs
  length_of_map f xs = length-map xs f

  -- what holds of each element of a list after a function
  pub all_of_map : (P : Y → Type 0) (f : X → Y) (xs : List X) → All P (map f xs) → All (λ x. P (f x)) xs
  all_of_map P f xs h k d lt = subst P (get_or-map f xs k d (f d) lt)
      (h k (f d) (subst (λ n. k < n) (sym (length_of_map f xs)) lt))

module _ {P E : Type 0} where
  -- if each list is empty, so are all of them joined
  nothing_in : (f : P → List E) → ((p : P) → f p ≡ []) → (ps : List P) → flat_map f ps ≡ []
  nothing_in f none [] = refl
  nothing_in f none (p ∷ ps) = ap (λ l. l ++ flat_map f ps) (none p) ∙ nothing_in f none ps

module _ {P E : Type 0} (pass_of : P → View E) where
  steps_by-then : (ps : List P) (p : P) → steps_by pass_of (ps ++ p ∷ []) ≡ (pass_of p).steps ++ steps_by pass_of ps
  steps_by-then [] p = sym (append-nil (pass_of p).steps)
  steps_by-then (q ∷ ps) p =
      ap (λ l. l ++ (pass_of q).steps) (steps_by-then ps p) ∙ append_assoc (pass_of p).steps (steps_by pass_of ps)
      (pass_of q).steps

  -- the pass that leads knows only its own steps if it has joined no other
  pub none_in : (v : View E) → v.leads ≡ true → HasTakenIn pass_of [] v v
  none_in v leads = record {
    leads = leads;
    parts = omega arith;
    put = sym (append-nil v.put);
    taken = sym (append-nil v.taken);
    steps = refl;
  }

  -- after it joins one more, it has joined all of them
  pub more_in : (ps : List P) (p : P) (old v w : View E) → (pass_of p).parts ≡ 1 → HasTakenIn pass_of ps old v
      → w ≡ after_join v (pass_of p) → HasTakenIn pass_of (ps ++ p ∷ []) old w
  more_in ps p old v w one h e =
      let long = length-append ps (p ∷ []) in
      let puts : P → List E = λ q. (pass_of q).put in
      let takes : P → List E = λ q. (pass_of q).taken in
      let after : HasTakenIn pass_of (ps ++ p ∷ []) old (after_join v (pass_of p)) = record {
        leads = h.leads;
        parts = let k = h.parts in omega arith;
        put = ap (λ l. l ++ puts p) h.put ∙ (append_assoc old.put (flat_map puts ps) (puts p)
            ∙ ap (λ l. old.put ++ l) (sym (flat_map-then puts ps p)));
        taken = ap (λ l. l ++ takes p) h.taken ∙ (append_assoc old.taken (flat_map takes ps) (takes p)
            ∙ ap (λ l. old.taken ++ l) (sym (flat_map-then takes ps p)));
        steps = ap (λ l. (pass_of p).steps ++ l) h.steps
            ∙ (sym (append_assoc (pass_of p).steps (steps_by pass_of ps) old.steps)
            ∙ ap (λ l. l ++ old.steps) (sym (steps_by-then ps p)));
      } in subst (HasTakenIn pass_of (ps ++ p ∷ []) old) (sym e) after

-- what holds of each element after a function holds of a list after that function
pub map_of_all : {X Y : Type 0} (P : Y → Type 0) (f : X → Y) (xs : List X) → All (λ x. P (f x)) xs → All P (map f xs)
map_of_all P f xs h = All-map P f xs h

-- one more element for which a fact holds
pub all_then : {X : Type 0} (P : X → Type 0) (xs : List X) (x : X) → All P xs → P x → All P (xs ++ x ∷ [])
all_then P xs x h p = All-push P xs x h p

module _ {J D : Type 0} where
  -- queues of one pool have as many workers
  pub same_workers : (q r : Queues J D) → name_of q ≡ name_of r → q.workers ≡ r.workers
  same_workers q r e =
      let a = ap (λ (n : PoolName). n.dones.slots) e in
      let b = ap (λ (n : PoolName). n.credits.slots) e in
      let qd = q.dones.sized.1 in
      let qc = q.credits.sized.1 in
      let rd = r.dones.sized.1 in
      let rc = r.credits.sized.1 in
      let qp = q.places in
      let qw = q.credit_places in
      let rp = r.places in
      let rw' = r.credit_places in omega arith

  abbrev taken_of : WorkerPort J D → List (Mark J)
  taken_of p = (view p.jobs).taken

  abbrev put_of : WorkerPort J D → List (Note D)
  put_of p = (view p.dones).put

  abbrev AreDone : List (WorkerPort J D) → Type 0
  AreDone ps = All (λ (p : WorkerPort J D). IsDone (worker_port p)) ps

  first_done : (p : WorkerPort J D) (ps : List (WorkerPort J D)) → AreDone (p ∷ ps) → IsDone (worker_port p)
  first_done p ps h = h 0 p (omega arith)

  rest_done : (p : WorkerPort J D) (ps : List (WorkerPort J D)) → AreDone (p ∷ ps) → AreDone ps
  rest_done p ps h k d lt = h (suc k) d (omega arith)

  -- each worker took one end mark, and put one
  one_taken : (p : WorkerPort J D) → IsDone (worker_port p) → count_ends (taken_of p) ≡ 1
  one_taken p h = one_end (taken_of p) (subst (λ b. AreItemsThen (mark_if b) (taken_of p)) h.0 p.works.marks)

  has_ended : (p : WorkerPort J D) → IsDone (worker_port p) → HasEnded (put_of p)
  has_ended p h = subst (λ b. AreItemsThen (mark_if b) (marks_in (put_of p))) h.1 p.gives.marks

  ends_taken : (ps : List (WorkerPort J D)) → AreDone ps → count_ends (flat_map taken_of ps) ≡ length ps
  ends_taken [] h = refl
  ends_taken (p ∷ ps) h =
      let a = count_ends-append (taken_of p) (flat_map taken_of ps) in
      let b = one_taken p (first_done p ps h) in
      let t = ends_taken ps (rest_done p ps h) in omega arith

  ends_put : (ps : List (WorkerPort J D)) → AreDone ps → count_ends (marks_in (flat_map put_of ps)) ≡ length ps
  ends_put [] h = refl
  ends_put (p ∷ ps) h =
      let parts = ap count_ends (marks_in-append (put_of p) (flat_map put_of ps)) in
      let a = count_ends-append (marks_in (put_of p)) (marks_in (flat_map put_of ps)) in
      let b = one_end (marks_in (put_of p)) (has_ended p (first_done p ps h)) in
      let t = ends_put ps (rest_done p ps h) in omega arith

  items_taken : (ps : List (WorkerPort J D)) → items_of (flat_map taken_of ps) ≡ all_taken
      (map (λ (p : WorkerPort J D). worker_port p) ps)
  items_taken [] = refl
  items_taken (p ∷ ps) = items_of-append (taken_of p) (flat_map taken_of ps) ∙ ap (λ l. items_of (taken_of p) ++ l)
      (items_taken ps)

  items_put : (ps : List (WorkerPort J D)) → items_of (marks_in (flat_map put_of ps)) ≡ all_given
      (map (λ (p : WorkerPort J D). worker_port p) ps)
  items_put [] = refl
  items_put (p ∷ ps) =
      ap items_of (marks_in-append (put_of p) (flat_map put_of ps))
      ∙ (items_of-append (marks_in (put_of p)) (marks_in (flat_map put_of ps))
      ∙ ap (λ l. items_of (marks_in (put_of p)) ++ l) (items_put ps))

  -- the last step of each worker put its end mark
  own_last : (p : WorkerPort J D) → IsDone (worker_port p) → AllEndLast (view p.dones).steps
  own_last p h worker = dite (ℕ_discrete worker p.index)
      (λ e. subst (λ k. EndsLast (steps_of (Thread.Worker k) (view p.dones).steps)) (sym e) (p.gives.last h.1))
      (λ ne. subst EndsLast (sym (p.gives.own worker ne)) refl)

  all_last : (ps : List (WorkerPort J D)) → AreDone ps → AllEndLast (done_steps ps)
  all_last [] h = λ worker. refl
  all_last (p ∷ ps) h = all_end_last-append (done_steps ps) (view p.dones).steps (all_last ps (rest_done p ps h))
      (own_last p (first_done p ps h))

  -- workers put no job, and take no done
  pub same_put : (ps : List (WorkerPort J D)) (old v : View (Mark J)) → HasJobsOf ps old v → v.put ≡ old.put
  same_put ps old v h = h.put ∙ (ap (λ l. old.put ++ l) (nothing_in (λ (p : WorkerPort J D). (view p.jobs).put)
      (λ p. p.works.nothing_put) ps) ∙ append-nil old.put)

  -- so what the sequencer took is the same before and after
  pub same_taken : (ps : List (WorkerPort J D)) (old v : View (Note D)) → HasDonesOf ps old v → v.taken ≡ old.taken
  same_taken ps old v h = h.taken ∙ (ap (λ l. old.taken ++ l) (nothing_in (λ (p : WorkerPort J D). (view p.dones).taken)
      (λ p. p.gives.nothing_taken) ps) ∙ append-nil old.taken)

  -- each job was taken as often as it was put
  pub settles_jobs : (workers : ℕ) (cutter v : View (Mark J)) (ps : List (WorkerPort J D)) (items : List (Mark J))
      → 0 < workers
      → IsCutting workers cutter → count_ends cutter.put ≡ workers → length ps ≡ workers → AreDone ps
      → HasJobsOf ps cutter v → KnowsSteps jobs_part cutter_crew v items
      → (weight : J → ℕ) → sum_by weight (all_taken (map (λ (p : WorkerPort J D). worker_port p) ps)) ≡ sum_by weight
      (items_of cutter.put)
  settles_jobs workers cutter v ps items more h marks long done e whole weight =
      let taken : List (Mark J) = flat_map taken_of ps in
      let taken_is : v.taken ≡ taken = e.taken ∙ ap (λ l. l ++ taken) h.nothing_taken in
      let last : AreItemsThen (replicate workers End) v.put =
      subst (AreItemsThen (replicate workers End)) (sym (same_put ps cutter v e))
      (subst (λ n. AreItemsThen (replicate n End) cutter.put) marks h.marks) in
      let of_taken : count_ends v.taken ≡ workers = ap count_ends taken_is ∙ (ends_taken ps done ∙ long) in
      ap (sum_by weight) (sym (items_taken ps)) ∙ (ap (λ l. sum_by weight (items_of l)) (sym taken_is)
      ∙ (all_jobs workers v items more last of_taken whole weight ∙ ap (λ l. sum_by weight (items_of l)) (same_put ps cutter v e)))

  -- each item was taken as often as the workers put it
  pub settles_dones : (workers left : ℕ) (sequencer v : View (Note D)) (ps : List (WorkerPort J D)) (items : List (Note D))
      → IsSequencing workers left sequencer → (left == 0) ≡ true → length ps ≡ workers → AreDone ps
      → HasDonesOf ps sequencer v → KnowsSteps dones_part sequencer_crew v items
      → (weight : D → ℕ) → sum_by weight (items_of (marks_in sequencer.taken)) ≡ sum_by weight
      (all_given (map (λ (p : WorkerPort J D). worker_port p) ps))
  settles_dones workers left sequencer v ps items h none long done e whole weight =
      let put : List (Note D) = flat_map put_of ps in
      let put_is : v.put ≡ put = e.put ∙ ap (λ l. l ++ put) h.nothing_put in
      let no_left : left ≡ 0 = eqb-true left 0 none in
      let of_got : count_ends (marks_in v.taken) ≡ workers =
      ap (λ l. count_ends (marks_in l)) (same_taken ps sequencer v e) ∙ (let m = h.marks in omega arith) in
      let of_put : count_ends (marks_in v.put) ≡ workers = ap (λ l. count_ends (marks_in l)) put_is
      ∙ (ends_put ps done ∙ long) in
      let last : AllEndLast v.steps = subst AllEndLast (sym e.steps) (all_end_last-append
      (done_steps ps) sequencer.steps (all_last ps done) (λ worker. subst EndsLast (sym (h.puts_none worker)) refl)) in
      ap (λ l. sum_by weight (items_of (marks_in l))) (sym (same_taken ps sequencer v e))
      ∙ (all_dones workers v items of_got of_put last whole weight
      ∙ (ap (λ l. sum_by weight (items_of (marks_in l))) put_is ∙ ap (sum_by weight) (items_put ps)))

  -- there are as many ports as workers
  pub ports_count : {pool : PoolName} {count : ℕ} (ports : List (WorkerPort J D))
      → AreWorkersOf pool count (map (λ (p : WorkerPort J D). worker_port p) ports) → length ports ≡ count
  ports_count ports h = sym (length_of_map (λ (p : WorkerPort J D). worker_port p) ports) ∙ h.as_many

  -- other ports of the same workers
  pub same_ports : (pool : PoolName) (count : ℕ) (old new : List (WorkerPort J D))
      → map (λ (p : WorkerPort J D). (worker_port p).pool) new ≡ map (λ (p : WorkerPort J D). (worker_port p).pool) old
      → map (λ (p : WorkerPort J D). (worker_port p).index) new ≡ map
      (λ (p : WorkerPort J D). (worker_port p).index) old
      → AreWorkersOf pool count (map (λ (p : WorkerPort J D). worker_port p) old)
      → AreWorkersOf pool count (map (λ (p : WorkerPort J D). worker_port p) new)
  same_ports pool count old new pools indexes h =
      let side : WorkerPort J D → WorkerSide J D = λ p. worker_port p in
      let of_pool : WorkerSide J D → PoolName = λ w. w.pool in
      let of_index : WorkerSide J D → ℕ = λ w. w.index in
      let long : length new ≡ length old =
      sym (length_of_map (λ (p : WorkerPort J D). (worker_port p).index) new)
      ∙ (ap length indexes ∙ length_of_map (λ (p : WorkerPort J D). (worker_port p).index) old) in
      let all_pools : map of_pool (map side new) ≡ map of_pool (map side old) = map-map of_pool side new
      ∙ (pools ∙ sym (map-map of_pool side old)) in
      let all_indexes : map of_index (map side new) ≡ map of_index (map side old) = map-map of_index side new
      ∙ (indexes ∙ sym (map-map of_index side old)) in
      let as_long : length (map side new) ≡ length (map side old) = length_of_map side new
      ∙ (long ∙ sym (length_of_map side old)) in
      record {
        same_pool = all_of_map (λ n. n ≡ pool) of_pool (map side new)
            (subst (All (λ n. n ≡ pool)) (sym all_pools)
            (map_of_all (λ n. n ≡ pool) of_pool (map side old) h.same_pool));
        as_many = as_long ∙ h.as_many;
        each = λ n lt. subst (λ l. Contains l n) (sym all_indexes) (h.each n lt);
      }

  -- the ports that a pool gives are those of its workers
  pub are_workers : (pool : PoolState) (sides : List (WorkerSide J D)) → sides ≡ map (new_worker pool)
      (range_with_len 0 pool.workers)
      → AreWorkersOf pool.name pool.workers sides
  are_workers pool sides e =
      let range : List ℕ = range_with_len 0 pool.workers in
      let new : List (WorkerSide J D) = map (new_worker pool) range in
      let numbers : map (λ (w : WorkerSide J D). w.index) new ≡ map (λ (n : ℕ). n) range =
      map-map (λ (w : WorkerSide J D). w.index) (new_worker pool) range in
      let long = length-map-range_with_len (λ (n : ℕ). n) 0 pool.workers in
      let of_new : AreWorkersOf pool.name pool.workers new = record {
        same_pool = map_of_all (λ (w : WorkerSide J D). w.pool ≡ pool.name) (new_worker pool) range (λ k d lt. refl);
        as_many = length-map-range_with_len (new_worker {J = J} {D = D} pool) 0 pool.workers;
        each = λ n lt. subst (λ l. Contains l n) (sym numbers)
            (n, omega arith, get_or-map-range_with_len (λ (k : ℕ). k) 0 pool.workers n n n lt (omega arith));
      } in subst (AreWorkersOf pool.name pool.workers) (sym e) of_new

  -- what each worker's port has at first, each port of a new pool's workers has
  pub as_new : (P : WorkerSide J D → Type 0) (pool : PoolState) → ((n : ℕ) → P (new_worker pool n))
      → (ports : List (WorkerPort J D))
      → map (λ (p : WorkerPort J D). worker_port p) ports ≡ map (new_worker pool) (range_with_len 0 pool.workers)
      → All (λ (p : WorkerPort J D). P (worker_port p)) ports
  as_new P pool each ports e =
      all_of_map P (λ (p : WorkerPort J D). worker_port p) ports
      (subst (All P) (sym e) (map_of_all P (new_worker pool) (range_with_len 0 pool.workers)
      (λ k d lt. each (slice_index_or (range_with_len 0 pool.workers) k d))))

  -- none of a new pool's workers' ports is closed
  pub none_closed : (pool : PoolState) (ports : List (WorkerPort J D))
      → map (λ (p : WorkerPort J D). worker_port p) ports ≡ map (new_worker pool) (range_with_len 0 pool.workers)
      → All (λ (p : WorkerPort J D). (worker_port p).closed ≡ false) ports
  none_closed pool ports e = as_new (λ w. w.closed ≡ false) pool (λ n. refl) ports e

  -- the workers' ports of a new pool are those of its cutter's pool, each of them once
  pub fresh_workers : (pool : PoolState) (cutter : CutterSide J) (sides : List (WorkerSide J D))
      → cutter ≡ new_cutter pool
      → sides ≡ map (new_worker pool) (range_with_len 0 pool.workers) → AreWorkersOf cutter.pool cutter.workers sides
  fresh_workers pool cutter sides e new =
      subst (λ (x : CutterSide J). AreWorkersOf x.pool x.workers sides) (sym e) (are_workers pool sides new)
