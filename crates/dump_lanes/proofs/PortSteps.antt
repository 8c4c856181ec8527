-- What a port has put or taken after a call.
use Rattle.dump_lanes.proofs.Prelude.{◌≡◌, ◌≢◌, ◌+◌, ◌<◌, ◌==◌, ℕ, Bool, true, false, true≢false, cond, List, [], ◌∷◌, ◌++◌, map, replicate, sym, ap, ◌∙◌, subst, arith, Note, Mark, Item, End, Step, View, give_step, arrive_step, after_ends, after_job, after_put, after_take, AreItemsThen, mark_if, count_ends, marks_in, EndsLast, IsCutting, IsWorking, IsGiving, HasRead, Thread, steps_of, PoolName, CutterSide, WorkerSide}
use Rattle.std.proofs.Common.{eq-eqb}
use Rattle.std.proofs.lemmas.List.{append-nil}
use Rattle.dump_lanes.specs.steps.JobQueue.{put_step}
use Rattle.dump_lanes.specs.steps.LaneMarks.{items_of}
use Rattle.dump_lanes.proofs.MarkLists.{items_of-then_item, items_of-then_end, then_item, then_end}
use Rattle.dump_lanes.proofs.PartMoves.{step_other, worker_number}
use Rattle.dump_lanes.proofs.PoolMarks.{count_ends-append, count_ends-replicate, items_of-then_ends, marks_in-then}

module _ {T : Type 0} where
  -- the cutter put a job
  pub cut_item : (workers : ℕ) (v w : View (Mark T)) (x : T) → IsCutting workers v → count_ends v.put ≡ 0
      → w ≡ after_put v (put_step (Item x)) → IsCutting workers w
  cut_item workers v w x h none e =
      let put : List (Mark T) = v.put ++ Item x ∷ [] in
      let still : count_ends put ≡ 0 = let a = count_ends-append v.put (Item x ∷ []) in omega arith in
      let before : AreItemsThen [] v.put = subst (λ n. AreItemsThen (replicate n End) v.put) none h.marks in
      let after : AreItemsThen (replicate (count_ends put) End) put =
      subst (λ n. AreItemsThen (replicate n End) put) (sym still) (then_item v.put x before) in
      subst (IsCutting workers)
      (sym e) record { leads = h.leads; parts = h.parts; nothing_taken = h.nothing_taken; marks = after }

  -- where the cutter put an item, that item follows those that it had put
  pub cut_item_put : (v w : View (Mark T)) (x : T) → w ≡ after_put v (put_step (Item x)) → items_of w.put ≡ items_of v.put ++ x ∷ []
  cut_item_put v w x e = ap (λ (k : View (Mark T)). items_of k.put) e ∙ items_of-then_item v.put x

  -- where the cutter put an item, it has put as many end marks as before
  pub cut_item_marks : (v w : View (Mark T)) (x : T) → w ≡ after_put v (put_step (Item x)) → count_ends w.put ≡ count_ends v.put
  cut_item_marks v w x e =
      ap (λ (k : View (Mark T)). count_ends k.put) e ∙ (let a = count_ends-append v.put (Item x ∷ []) in omega arith)

  -- the cutter put its end marks
  pub cut_ends : (workers n : ℕ) (v w : View (Mark T)) → IsCutting workers v → count_ends v.put ≡ 0
      → w ≡ after_ends v n → IsCutting workers w
  cut_ends workers n v w h none e =
      let put : List (Mark T) = v.put ++ replicate n End in
      let now : count_ends put ≡ n =
      (let a = count_ends-append v.put (replicate n End) in let b : count_ends {T = T}
      (replicate n End) ≡ n = count_ends-replicate T n in omega arith) in
      let before : AreItemsThen [] v.put = subst (λ k. AreItemsThen (replicate k End) v.put) none h.marks in
      let all : AreItemsThen (replicate n End) put =
      ap (λ l. l ++ replicate n End) (before ∙ append-nil (map {B = Mark T} Item (items_of v.put)))
      ∙ ap (λ l. map {B = Mark T} Item l ++ replicate n End) (sym (items_of-then_ends v.put n)) in
      let after : AreItemsThen (replicate (count_ends put) End) put = subst (λ k. AreItemsThen (replicate k End) put)
      (sym now) all in
      subst (IsCutting workers)
      (sym e) record { leads = h.leads; parts = h.parts; nothing_taken = h.nothing_taken; marks = after }

  -- where the cutter put its end marks, it has put the same items as before
  pub cut_ends_put : (n : ℕ) (v w : View (Mark T)) → w ≡ after_ends v n → items_of w.put ≡ items_of v.put
  cut_ends_put n v w e = ap (λ (k : View (Mark T)). items_of k.put) e ∙ items_of-then_ends v.put n

  -- a cutter that had put no end mark and puts this many has put this many
  pub cut_ends_marks : (n : ℕ) (v w : View (Mark T)) → count_ends v.put ≡ 0 → w ≡ after_ends v n → count_ends w.put ≡ n
  cut_ends_marks n v w none e =
      ap (λ (k : View (Mark T)). count_ends k.put) e
      ∙ (let a = count_ends-append v.put (replicate n End) in let b : count_ends {T = T}
      (replicate n End) ≡ n = count_ends-replicate T n in omega arith)

  -- the cutter's port is the same where it put the same jobs and as many end marks
  pub cutter_is : (pool : PoolName) (workers drawn : ℕ) {put put' : List T} {marks marks' : ℕ} → put ≡ put'
      → marks ≡ marks'
      → ◌≡◌ {A = CutterSide T} record { pool = pool; workers = workers; put = put; marks = marks; drawn = drawn } record { pool = pool; workers = workers; put = put'; marks = marks'; drawn = drawn }
  cutter_is pool workers drawn e m i = record { pool = pool; workers = workers; put = e i; marks = m i; drawn = drawn }

  -- a worker took a job
  pub work_item : (worker : ℕ) (ended : Bool) (v w : View (Mark T)) (x : T) → ended ≡ false → IsWorking worker ended v
      → w ≡ after_job v (Item x) → IsWorking worker ended w
  work_item worker ended v w x unended h e =
      let before : AreItemsThen [] v.taken = subst (λ b. AreItemsThen (mark_if b) v.taken) unended h.marks in
      let after : IsWorking worker false (after_job v
      (Item x)) = record { follows = h.follows; from = h.from; parts = h.parts; nothing_put = h.nothing_put; marks = then_item v.taken x before } in
      subst (λ b. IsWorking worker b w) (sym unended) (subst (IsWorking worker false) (sym e) after)

  -- where a worker took a job, that job follows those that it had taken
  pub work_item_taken : (v w : View (Mark T)) (x : T) → w ≡ after_job v (Item x)
      → items_of w.taken ≡ items_of v.taken ++ x ∷ []
  work_item_taken v w x e = ap (λ (k : View (Mark T)). items_of k.taken) e ∙ items_of-then_item v.taken x

  -- a worker took its end mark
  pub work_end : (worker : ℕ) (ended : Bool) (v w : View (Mark T)) → ended ≡ false → IsWorking worker ended v
      → w ≡ after_job v End → IsWorking worker true w
  work_end worker ended v w unended h e =
      let before : AreItemsThen [] v.taken = subst (λ b. AreItemsThen (mark_if b) v.taken) unended h.marks in
      let after : IsWorking worker true
      (after_job v End) = record { follows = h.follows; from = h.from; parts = h.parts; nothing_put = h.nothing_put; marks = then_end v.taken before } in
      subst (IsWorking worker true) (sym e) after

  -- where a worker took an end mark, it has taken the same jobs as before
  pub work_end_taken : (v w : View (Mark T)) → w ≡ after_job v End → items_of w.taken ≡ items_of v.taken
  work_end_taken v w e = ap (λ (k : View (Mark T)). items_of k.taken) e ∙ items_of-then_end v.taken

  gives_own : (worker : ℕ) (n : Note T) (steps : List (Step (Note T))) → n.from ≡ worker
      → ((other : ℕ) → other ≢ worker → steps_of (Thread.Worker other) steps ≡ [])
      → (other : ℕ) → other ≢ worker → steps_of (Thread.Worker other) (give_step n ∷ steps) ≡ []
  gives_own worker n steps mine own other ne = step_other (Thread.Worker other) (give_step n) steps
      (λ e. ne (worker_number e ∙ mine)) ∙ own other ne

  -- a worker gave an item
  pub give_item : (worker : ℕ) (closed : Bool) (v w : View (Note T)) (n : Note T) (x : T) → n.from ≡ worker
      → n.mark ≡ Item x → closed ≡ false → IsGiving worker closed v
      → w ≡ after_put v (give_step n) → IsGiving worker closed w
  give_item worker closed v w n x mine is unended h e =
      let before : AreItemsThen [] (marks_in v.put) = subst
      (λ b. AreItemsThen (mark_if b) (marks_in v.put)) unended h.marks in
      let all : AreItemsThen [] (marks_in (v.put ++ n ∷ [])) = subst (AreItemsThen [])
      (sym (marks_in-then v.put n (Item x) is)) (then_item (marks_in v.put) x before) in
      let after : IsGiving worker false (after_put v (give_step n)) = record {
        follows = h.follows;
        from = h.from;
        parts = h.parts;
        nothing_taken = h.nothing_taken;
        marks = all;
        own = gives_own worker n v.steps mine h.own;
        last = λ no. absurd (true≢false (sym no));
      } in
      subst (λ b. IsGiving worker b w) (sym unended) (subst (IsGiving worker false) (sym e) after)

  -- where a worker gave an item, that item follows those that it had given
  pub give_item_given : (v w : View (Note T)) (n : Note T) (x : T) → n.mark ≡ Item x
      → w ≡ after_put v (give_step n) → items_of (marks_in w.put) ≡ items_of (marks_in v.put) ++ x ∷ []
  give_item_given v w n x is e =
      ap (λ (k : View (Note T)). items_of (marks_in k.put)) e
      ∙ (ap items_of (marks_in-then v.put n (Item x) is) ∙ items_of-then_item (marks_in v.put) x)

  -- a worker put its end mark
  pub give_end : (worker : ℕ) (closed : Bool) (v w : View (Note T)) (n : Note T) → n.from ≡ worker → n.mark ≡ End
      → closed ≡ false → IsGiving worker closed v
      → w ≡ after_put v (give_step n) → IsGiving worker true w
  give_end worker closed v w n mine is unended h e =
      let before : AreItemsThen [] (marks_in v.put) = subst
      (λ b. AreItemsThen (mark_if b) (marks_in v.put)) unended h.marks in
      let all : AreItemsThen (End ∷ []) (marks_in (v.put ++ n ∷ [])) = subst (AreItemsThen (End ∷ []))
      (sym (marks_in-then v.put n End is)) (then_end (marks_in v.put) before) in
      let after : IsGiving worker true (after_put v (give_step n)) = record {
        follows = h.follows;
        from = h.from;
        parts = h.parts;
        nothing_taken = h.nothing_taken;
        marks = all;
        own = gives_own worker n v.steps mine h.own;
        last = λ _. subst (λ b. EndsLast (cond b (give_step n ∷ steps_of (Thread.Worker worker) v.steps)
            (steps_of (Thread.Worker worker) v.steps))) (sym (eq-eqb worker n.from (sym mine))) is;
      } in
      subst (IsGiving worker true) (sym e) after

  -- where a worker gave an end mark, it has given the same items as before
  pub give_end_given : (v w : View (Note T)) (n : Note T) → n.mark ≡ End
      → w ≡ after_put v (give_step n) → items_of (marks_in w.put) ≡ items_of (marks_in v.put)
  give_end_given v w n is e =
      ap (λ (k : View (Note T)). items_of (marks_in k.put)) e
      ∙ (ap items_of (marks_in-then v.put n End is) ∙ items_of-then_end (marks_in v.put))

  -- the sequencer took a note with an item
  pub read_item : (v w w' : View (Note T)) (n : Note T) (x : T) → n.mark ≡ Item x → HasRead [] v w
      → w' ≡ after_take w (arrive_step n) → HasRead (x ∷ []) v w'
  read_item v w w' n x is h e =
      let before = h.taken ∙ append-nil (items_of (marks_in v.taken)) in
      let after : HasRead (x ∷ []) v (after_take w (arrive_step n)) = record {
        leads = h.leads;
        parts = h.parts;
        made = h.made;
        put = h.put;
        puts_none = h.puts_none;
        taken = ap items_of (marks_in-then w.taken n (Item x) is)
            ∙ (items_of-then_item (marks_in w.taken) x ∙ ap (λ l. l ++ x ∷ []) before);
      } in subst (HasRead (x ∷ []) v) (sym e) after

  -- where an item arrived at the sequencer, as many end marks have arrived as before
  pub read_item_ends : (w w' : View (Note T)) (n : Note T) (x : T) → n.mark ≡ Item x
      → w' ≡ after_take w (arrive_step n) → count_ends (marks_in w'.taken) ≡ count_ends (marks_in w.taken)
  read_item_ends w w' n x is e =
      ap (λ (k : View (Note T)). count_ends (marks_in k.taken)) e
      ∙ (ap count_ends (marks_in-then w.taken n (Item x) is)
      ∙ (let a = count_ends-append (marks_in w.taken) (Item x ∷ []) in omega arith))

  -- the sequencer took a worker's end mark
  pub read_end : (v w w' : View (Note T)) (n : Note T) → n.mark ≡ End → HasRead [] v w
      → w' ≡ after_take w (arrive_step n) → HasRead [] v w'
  read_end v w w' n is h e =
      let after : HasRead [] v (after_take w (arrive_step n)) = record {
        leads = h.leads;
        parts = h.parts;
        made = h.made;
        put = h.put;
        puts_none = h.puts_none;
        taken = ap items_of (marks_in-then w.taken n End is) ∙ (items_of-then_end (marks_in w.taken) ∙ h.taken);
      } in subst (HasRead [] v) (sym e) after

  -- where an end mark arrived at the sequencer, one more has arrived than before
  pub read_end_ends : (w w' : View (Note T)) (n : Note T) → n.mark ≡ End
      → w' ≡ after_take w (arrive_step n) → count_ends (marks_in w'.taken) ≡ count_ends (marks_in w.taken) + 1
  read_end_ends w w' n is e =
      ap (λ (k : View (Note T)). count_ends (marks_in k.taken)) e
      ∙ (ap count_ends (marks_in-then w.taken n End is) ∙ count_ends-append (marks_in w.taken) (End ∷ []))

module _ {J D : Type 0} where
  -- a worker's port is the same where it took and gave the same, and ended and closed alike
  pub worker_is : (pool : PoolName)
      (index : ℕ) {taken taken' : List J} {ended ended' : Bool} {given given' : List D} {closed closed' : Bool}
      → taken ≡ taken' → ended ≡ ended' → given ≡ given' → closed ≡ closed'
      → ◌≡◌ {A = WorkerSide J D} record { pool = pool; index = index; taken = taken; ended = ended; given = given; closed = closed } record { pool = pool; index = index; taken = taken'; ended = ended'; given = given'; closed = closed' }
  worker_is pool index t e g c i = record { pool = pool; index = index; taken = t i; ended = e i; given = g i; closed = c i }
