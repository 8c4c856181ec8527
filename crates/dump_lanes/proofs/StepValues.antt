-- Worked steps on a queue of the pool, and wrong ones that its rule rejects.
use Rattle.dump_lanes.proofs.Prelude.{◌≡◌, ℕ, ◌+◌, List, [], ◌∷◌, ◌++◌, length, sum_by, true, refl, ap, sym, ◌∙◌, arith, sum_by-append, PARTS, View, Mark, Item, Step, Thread, Part, all_put, jobs_part, Knows, leading, following, after_put, after_take}
use Rattle.crossbeam_queue.specs.Fifo.{Pushes}
use Rattle.dump_lanes.specs.declared.steps.Move.TheVariants as move
use Rattle.dump_lanes.specs.PartSteps.{IsStep, all_taken}
use Rattle.dump_lanes.specs.steps.JobQueue as jobs
use Rattle.dump_lanes.specs.steps.LaneQueue as lane
use Rattle.dump_lanes.specs.steps.QueueRule.{spent, Fits}
use Rattle.dump_lanes.proofs.JobSteps.{cutter_apart}
use Rattle.dump_lanes.proofs.PartMoves.{put_weight, taken_weight, in_order}
use Rattle.dump_lanes.proofs.QueueSteps.{begins}

abbrev job : ℕ → Mark ℕ
job number = Item number

-- the number of the first entry
abbrev first_of : List (Mark ℕ) → ℕ
first_of (Item number ∷ rest) = number
first_of other = 0

-- of two jobs a worker takes the first, and not the last

abbrev two_jobs : List (Mark ℕ)
two_jobs = job 5 ∷ job 7 ∷ []

first_is_taken : IsStep jobs_part two_jobs (jobs.take_step 0 (job 5)) (job 7 ∷ [])
first_is_taken = record { one_entry = refl; allowed = refl; share = refl; in_turn = refl }

last_is_not_taken : IsStep jobs_part two_jobs (jobs.take_step 0 (job 7)) (job 5 ∷ []) → ⊥
last_is_not_taken h = absurd (let e = ap first_of h.in_turn in omega arith)

-- what is put goes after them, as one entry

last_is_put : IsStep jobs_part (job 5 ∷ []) (jobs.put_step (job 7)) two_jobs
last_is_put = record { one_entry = refl; allowed = refl; share = refl; in_turn = refl }

first_is_not_put : IsStep jobs_part (job 5 ∷ []) (jobs.put_step (job 7)) (job 7 ∷ job 5 ∷ []) → ⊥
first_is_not_put h = absurd (let e = ap first_of h.in_turn in omega arith)

-- a part in which each step would put two entries makes no step

abbrev doubled : Part (Mark ℕ)
doubled = record jobs_part { puts = λ s. s.entry ∷ s.entry ∷ [] }

two_are_not_put : (old new : List (Mark ℕ)) → IsStep doubled old (jobs.put_step (job 5)) new → ⊥
two_are_not_put old new h = absurd (let e = ap length h.one_entry in omega arith)

-- a pass whose thread has stepped knows the step, and another doesn't

abbrev cut_five : List (Step (Mark ℕ))
cut_five = jobs.put_step (job 5) ∷ []

abbrev all_by_first : Thread → ℕ
all_by_first thread = 0

ignorant_pass_is_refused : Knows all_by_first cut_five 0 [] → ⊥
ignorant_pass_is_refused k = absurd (let e = ap length (k.own Thread.Cutter refl) in omega arith)

other_pass_is_refused : Knows all_by_first cut_five 1 cut_five → ⊥
other_pass_is_refused k = absurd (let e = ap length (k.others Thread.Cutter (omega arith)) in omega arith)

-- each step is stored as one of the thread that makes it

piece_is_released : lane.put_step (job 5) ≡ record { event = move.Release; entry = job 5 }
piece_is_released = refl

job_is_taken : jobs.take_step 3 (job 5) ≡ record { event = move.Take 3; entry = job 5 }
job_is_taken = refl

-- no rule lets the cutter put a mark without storing a step: the first push would break the rule

not_unnoted : {T : Type 0} (x : Mark T)
    → ((n pass : ℕ) (v : View (Mark T)) → v.leads ≡ true → Pushes jobs.IsJobQueue n pass v x
    (λ w. w ≡ record v { put = v.put ++ x ∷ [] })) → ⊥
not_unnoted {T} x rule =
    let first : View (Mark T) = leading PARTS 0 in
    let after = rule 1 0 first refl [] (first ∷ []) (omega arith) (begins jobs_part jobs.cutter_crew cutter_apart) refl in
    let w : View (Mark T) = after.0 in
    let f : Fits jobs_part jobs.cutter_crew after.1.owner after.1.happened 0 w = after.1.fits 0 w refl in
    let steps : w.steps ≡ [] = ap (λ (k : View (Mark T)). k.steps) after.2 in
    let put : w.put ≡ x ∷ [] = ap (λ (k : View (Mark T)). k.put) after.2 in
    absurd (let e = ap length (ap (all_put jobs_part) (sym steps) ∙ (sym f.put_is ∙ put)) in omega arith)

-- what the passes of a queue put together is what they took and what it holds

abbrev one : Mark ℕ → ℕ
one mark = 1

abbrev puts_of : View (Mark ℕ) → ℕ
puts_of v = sum_by (λ (s : Step (Mark ℕ)). sum_by one (jobs_part.puts s)) v.steps

abbrev takes_of : View (Mark ℕ) → ℕ
takes_of v = sum_by (λ (s : Step (Mark ℕ)). sum_by one (jobs_part.takes s)) v.steps

balanced : (items : List (Mark ℕ)) (views : List (View (Mark ℕ))) → jobs.IsJobQueue items views
    → sum_by puts_of views ≡ sum_by takes_of views + sum_by one items
balanced items views h =
    let put = h.made (λ s. sum_by one (jobs_part.puts s)) in
    let taken = h.made (λ s. sum_by one (jobs_part.takes s)) in
    let a = put_weight jobs_part one h.happened in
    let b = taken_weight jobs_part one h.happened in
    let e = ap (λ l. sum_by one l) (in_order jobs_part h.happened items h.steps) in
    let c = sum_by-append one (all_taken jobs_part h.happened) items in omega arith

-- so no queue begins with an entry that no pass has put

full_queue_is_no_beginning : jobs.IsJobQueue (job 5 ∷ []) (leading PARTS 0 ∷ []) → ⊥
full_queue_is_no_beginning h = absurd (let e = balanced (job 5 ∷ []) (leading PARTS 0 ∷ []) h in omega arith)

-- and if a pass joins another it keeps the other's steps: the cutter put a job and the worker took it

abbrev cutter_put : View (Mark ℕ)
cutter_put = after_put (leading 127 1) (jobs.put_step (job 5))

abbrev worker_took : View (Mark ℕ)
worker_took = after_take (following 0) (jobs.take_step 0 (job 5))

abbrev without_steps : View (Mark ℕ) → View (Mark ℕ) → View (Mark ℕ)
without_steps v w = record v { parts = v.parts + w.parts; put = v.put ++ w.put; taken = v.taken ++ w.taken }

merge_keeps_the_steps : jobs.IsJobQueue [] (without_steps cutter_put worker_took ∷ spent ∷ []) → ⊥
merge_keeps_the_steps h =
    absurd (let e = balanced [] (without_steps cutter_put worker_took ∷ spent ∷ []) h in omega arith)
