-- What the passes of a pool's ports say.
use Rattle.std.specs.Prelude.{◌≡◌, ◌≢◌, ℕ, ◌+◌, Bool, true, false, List, [], ◌∷◌, ◌++◌, map, replicate}
use Rattle.dump_lanes.specs.declared.passes.TheConstants.{PARTS}
use Rattle.dump_lanes.specs.declared.pool.credits.Purse.{Purse}
use Rattle.dump_lanes.specs.declared.pool.dones.Note.{Note}
use Rattle.dump_lanes.specs.declared.protocol.Mark.{Mark}
use Rattle.dump_lanes.specs.declared.protocol.Mark.TheVariants.{Item, End}
use Rattle.dump_lanes.specs.declared.steps.Step.{Step}
use Rattle.dump_lanes.specs.declared.passes.View.{View}
use Rattle.dump_lanes.specs.steps.LaneMarks.{items_of, AreItemsThen, mark_if}
use Rattle.dump_lanes.specs.PoolParts.{Thread}
use Rattle.dump_lanes.specs.steps.OwnSteps.{steps_of}

module _ {T : Type 0} where
  -- how many end marks there are
  abbrev pub count_ends : List (Mark T) → ℕ
  count_ends [] = 0
  count_ends (Item x ∷ marks) = count_ends marks
  count_ends (End ∷ marks) = 1 + count_ends marks

  -- the marks of the notes
  abbrev pub marks_in : List (Note T) → List (Mark T)
  marks_in notes = map (λ (n : Note T). n.mark) notes

  -- the mark in the first step of this list, which is the last one made; an end mark if the list is empty
  abbrev pub last_mark : List (Step (Note T)) → Mark T
  last_mark [] = End
  last_mark (s ∷ before) = s.entry.mark

  -- the last of a worker's steps on the dones put its end mark
  abbrev pub EndsLast : List (Step (Note T)) → Type 0
  EndsLast steps = last_mark steps ≡ End

  -- the cutter's pass: it has put jobs and then end marks, and each worker has one of its parts
  pub record IsCutting (workers : ℕ) (v : View (Mark T)) : Type 0 where
    pub leads : v.leads ≡ true
    pub parts : v.parts + workers ≡ PARTS
    pub nothing_taken : v.taken ≡ []
    pub marks : AreItemsThen (replicate (count_ends v.put) End) v.put

  -- a worker's pass for the jobs: it has taken jobs, and then its end mark if `ended` says so
  pub record IsWorking (worker : ℕ) (ended : Bool) (v : View (Mark T)) : Type 0 where
    pub follows : v.leads ≡ false
    pub from : v.from ≡ worker
    pub parts : v.parts ≡ 1
    pub nothing_put : v.put ≡ []
    pub marks : AreItemsThen (mark_if ended) v.taken

  -- a worker's pass for the dones: it has put items, and then its end mark if `closed` says so
  pub record IsGiving (worker : ℕ) (closed : Bool) (v : View (Note T)) : Type 0 where
    pub follows : v.leads ≡ false
    pub from : v.from ≡ worker
    pub parts : v.parts ≡ 1
    pub nothing_taken : v.taken ≡ []
    pub marks : AreItemsThen (mark_if closed) (marks_in v.put)
    pub own : (other : ℕ) → other ≢ worker → steps_of (Thread.Worker other) v.steps ≡ []
    pub last : closed ≡ true → EndsLast (steps_of (Thread.Worker worker) v.steps)

  -- the sequencer's pass: this many workers' end marks are still to come
  pub record IsSequencing (workers left : ℕ) (v : View (Note T)) : Type 0 where
    pub leads : v.leads ≡ true
    pub parts : v.parts + workers ≡ PARTS
    pub made : v.made ≡ workers
    pub nothing_put : v.put ≡ []
    pub puts_none : (worker : ℕ) → steps_of (Thread.Worker worker) v.steps ≡ []
    pub marks : count_ends (marks_in v.taken) + left ≡ workers

  -- the sequencer's pass after it has taken notes with these items
  pub record HasRead (items : List T) (old new : View (Note T)) : Type 0 where
    pub leads : new.leads ≡ true
    pub parts : new.parts ≡ old.parts
    pub made : new.made ≡ old.made
    pub put : new.put ≡ old.put
    pub puts_none : (worker : ℕ) → steps_of (Thread.Worker worker) new.steps ≡ steps_of (Thread.Worker worker) old.steps
    pub taken : items_of (marks_in new.taken) ≡ items_of (marks_in old.taken) ++ items

-- the writer's pass
pub record IsGivingBack (window : ℕ) (v : Purse) : Type 0 where
  pub may_give : v.gives ≡ true
  pub first : v.first ≡ window
