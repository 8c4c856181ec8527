-- What a step on each shared part can be.
use Rattle.dump_lanes.proofs.Prelude.{◌≡◌, ◌⊎◌, inl, inr, ◌+◌, ◌==◌, ℕ, Bool, true, false, true≢false, List, [], ◌∷◌, ◌++◌, length, cond, sym, refl, ap, ◌∙◌, arith, length-append, Note, Mark, Item, End, Move, Step, Event, Thread, thread_of, event_of, Part, all_put, Joins, Leaves, JobsMoveOne, DonesMoveOne, PiecesMoveOne, CreditsMoveOne, WordOnlyRises}
use Rattle.std.proofs.Common.{ne_eqb}
use Rattle.std.proofs.lemmas.List.{append-nil}
use mathlib.Core.Logic.{dite}
use native.Mathlib.Decide.{ℕ_discrete}
use Rattle.dump_lanes.specs.declared.steps.Move.TheVariants as move
use Rattle.dump_lanes.specs.declared.stop.protocol.WordStep.TheVariants as kind
use Rattle.dump_lanes.specs.PartSteps.{AreSteps, all_taken}
use Rattle.dump_lanes.specs.CreditRule as credits
use Rattle.dump_lanes.specs.DoneRule as dones
use Rattle.dump_lanes.specs.JobRule as jobs
use Rattle.dump_lanes.specs.LaneRule as lane
use Rattle.dump_lanes.proofs.CreditSteps.{one_balance}

module _ {E : Type 0} where
  -- a step moves exactly one entry
  pub one_each : (part : Part E) (happened : List (Step E)) (items : List E) → AreSteps part happened items
      → length happened ≡ length (all_put part happened) + length (all_taken part happened)
  one_each part [] items h = refl
  one_each part (s ∷ before) items h =
      let t = one_each part before h.0 h.2 in
      let o = ap length h.1.one_entry in omega (arith, length-append {A = E})

  none : {A : Type 0} (x : E) → [] ≡ x ∷ [] → A
  none x e = absurd (let l = ap length e in omega arith)

  left_is : (old : List E) (x : E) (new : List E) → old ++ [] ≡ x ∷ new → Leaves old x new
  left_is old x new e = sym (append-nil old) ∙ e

  piece : (m : Move) (x : E) (old new : List E) → lane.put_by (event_of m) x ++ lane.taken_by (event_of m) x ≡ x ∷ []
      → old ++ lane.put_by (event_of m) x ≡ lane.taken_by (event_of m) x ++ new
      → ((thread_of (event_of m) ≡ Thread.Sequencer) × Joins old x new)
      ⊎ ((thread_of (event_of m) ≡ Thread.Writer) × Leaves old x new)
  piece move.Release x old new one turn = inl (refl, sym turn)
  piece move.Write x old new one turn = inr (refl, left_is old x new turn)
  piece m x old new one turn = none x one

  -- in each step on the lane the sequencer puts one piece, or the writer takes one
  pub pieces : PiecesMoveOne E
  pieces old new s h = piece s.event s.entry old new h.one_entry h.in_turn

module _ {T : Type 0} where
  job : (m : Move) (x : Mark T) (old new : List (Mark T)) → jobs.put_by (event_of m) x ++ jobs.taken_by
      (event_of m) x ≡ x ∷ []
      → old ++ jobs.put_by (event_of m) x ≡ jobs.taken_by (event_of m) x ++ new
      → ((thread_of (event_of m) ≡ Thread.Cutter) × Joins old x new)
      ⊎ ((worker : ℕ) × (thread_of (event_of m) ≡ Thread.Worker worker) × Leaves old x new)
  job move.Cut (Item x) old new one turn = inl (refl, sym turn)
  job move.CutMark End old new one turn = inl (refl, sym turn)
  job (move.Take k) x old new one turn = inr (k, refl, left_is old x new turn)
  job m x old new one turn = none x one

  -- in each step on the jobs the cutter puts one mark, or a worker takes one
  pub jobs_move : JobsMoveOne T
  jobs_move old new s h = job s.event s.entry old new h.one_entry h.in_turn

  put_note : (k : ℕ) (n : Note T) (old new : List (Note T)) (same : Bool) → (n.from == k) ≡ same
      → cond same (n ∷ []) [] ++ [] ≡ n ∷ [] → old ++ cond same (n ∷ []) [] ≡ new → (n.from ≡ k) × Joins old n new
  put_note k n old new false is one turn = none n one
  put_note k n old new true is one turn = dite (ℕ_discrete n.from k) (λ e. (e, sym turn))
      (λ ne. absurd (true≢false (sym is ∙ ne_eqb n.from k ne)))

  done : (m : Move) (n : Note T) (old new : List (Note T)) → dones.put_by (event_of m) n ++ dones.taken_by
      (event_of m) n ≡ n ∷ []
      → old ++ dones.put_by (event_of m) n ≡ dones.taken_by (event_of m) n ++ new
      → ((thread_of (event_of m) ≡ Thread.Worker n.from) × Joins old n new)
      ⊎ ((thread_of (event_of m) ≡ Thread.Sequencer) × Leaves old n new)
  done (move.Put k) n old new one turn = let z = put_note k n old new (n.from == k) refl one turn in inl
      (ap Thread.Worker (sym z.0), z.1)
  done move.Arrive n old new one turn = inr (refl, left_is old n new turn)
  done m n old new one turn = none n one

  -- in each step on the dones a worker puts one note of its own, or the sequencer takes one
  pub dones_move : DonesMoveOne T
  dones_move old new s h = done s.event s.entry old new h.one_entry h.in_turn

credit : (m : Move) (old new : ℕ) → credits.put_by (event_of m) + credits.taken_by (event_of m) ≡ 1
    → old + credits.put_by (event_of m) ≡ credits.taken_by (event_of m) + new
    → ((thread_of (event_of m) ≡ Thread.Cutter) × (old ≡ new + 1))
    ⊎ ((thread_of (event_of m) ≡ Thread.Writer) × (new ≡ old + 1))
credit move.Draw old new one turn = inl (refl, omega arith)
credit move.Give old new one turn = inr (refl, omega arith)
credit m old new one turn = absurd (omega arith)

-- in each step on the credits the cutter draws one, or the writer gives one back
pub credits_move : CreditsMoveOne
credits_move old new s h = credit s.event old new h.one_credit
    (one_balance old new s.event h.one_credit h.allowed h.share)

-- a raise sets the stop word, and a look finds its value and doesn't change it
pub word_rises : WordOnlyRises
word_rises was up kind.Raise h = inl (refl, h.share Event.WriterRaises refl)
word_rises was up (kind.Look found) h = inr (ap kind.Look h.says, h.share Event.Look refl)
