-- The rule that each call on the stop word obeys.
use Rattle.std.specs.Prelude.{◌≡◌, ℕ, ◌==◌, ◌+◌, ◌/◌, ◌||◌, Bool, true, false, List, [], ◌∷◌, ◌++◌, sum_by, IsTrue}
use mathlib.Core.Option.{some}
use lib.ListN.{get_elem?}
use Rattle.atomic_table.specs.Table.{State, Me}
use Rattle.dump_lanes.specs.declared.stop.protocol.WordStep.{WordStep}
use Rattle.dump_lanes.specs.declared.stop.protocol.WordStep.TheVariants as kind
use Rattle.dump_lanes.specs.declared.stop.protocol.Marks.{Marks}
use Rattle.dump_lanes.specs.StopRule.{AreSteps}

abbrev pub marks : ℕ → Bool → Bool → List WordStep → Marks
marks share raised seen steps = record { share = share; raised = raised; seen = seen; steps = steps }

-- what a seat stores after it was joined to another
abbrev pub spent : Marks
spent = marks 0 false false []

-- the seat after it has raised the word, or read it
abbrev pub after_raise : Marks → Marks
after_raise v = marks v.share true v.seen (kind.Raise ∷ v.steps)

abbrev pub after_look : Marks → Bool → Marks
after_look v found = marks v.share v.raised found (kind.Look found ∷ v.steps)

-- the two seats of a split, of which the left one keeps the steps; and the seat of a join
abbrev pub left_half : Marks → Marks
left_half v = marks (v.share / 2) v.raised v.seen v.steps

abbrev pub right_half : Marks → Marks
right_half v = marks (v.share / 2) v.raised v.seen []

abbrev pub joined_marks : Marks → Marks → Marks
joined_marks v w = marks (v.share + w.share) (v.raised || w.raised) (v.seen || w.seen) (w.steps ++ v.steps)

-- the value of the word: 1 if the stop is raised
abbrev pub word_of : Bool → ℕ
word_of true = 1
word_of false = 0

-- the stop is raised if a seat raised it or saw it raised; a seat without a share has raised nothing and made no step
pub record Fits (up : Bool) (seat : ℕ) (v : Marks) : Type 0 where
  pub raises : IsTrue v.raised → IsTrue up
  pub sees : IsTrue v.seen → IsTrue up
  pub spends : v.share ≡ 0 → (v.raised ≡ false) × (v.steps ≡ [])

-- a seat that raised the stop
pub record SomeRaised (views : List Marks) : Type 0 where
  pub seat : ℕ
  pub view : Marks
  pub stands : get_elem? views seat ≡ some view
  pub raised : IsTrue view.raised

-- the word is 1 exactly if some seat raised it, the shares add up to 4, and each seat agrees with this; there is one
-- history: its steps are those of the pool's events on the word, and lead to its present value; they are those that
-- the seats made, each as often
pub record IsStop (s : State (Unit {0}) Marks) : Type 0 where
  pub up : Bool
  pub word : s.words ≡ word_of up ∷ []
  pub happened : List WordStep
  pub steps : AreSteps happened up
  pub made : (weight : WordStep → ℕ) → sum_by (λ (v : Marks). sum_by weight v.steps) s.views ≡ sum_by weight happened
  pub someone : IsTrue up → SomeRaised s.views
  pub shares : sum_by (λ (v : Marks). v.share) s.views ≡ 4
  pub fits : (seat : ℕ) (v : Marks) → get_elem? s.views seat ≡ some v → Fits up seat v

-- a seat with the whole share stores that it saw the stop only if it stores that it raised it
abbrev pub SeesOwn : Marks → Type 0
SeesOwn v = v.share ≡ 4 → IsTrue v.seen → IsTrue v.raised

-- a seat with the whole share made each step of the one history
pub record KnowsSteps (v : Marks) : Type 0 where
  pub happened : List WordStep
  pub up : Bool
  pub steps : AreSteps happened up
  pub made : (weight : WordStep → ℕ) → sum_by weight v.steps ≡ sum_by weight happened

-- a look that found the value n: the seat stores whether the stop is raised; it is, if this seat raised it or saw it
-- raised before
pub record HasLooked (old : Me (Unit {0}) Marks) (n : ℕ) (new : Me (Unit {0}) Marks) : Type 0 where
  pub view : new ≡ (after_look old.0 (n == 1), old.1)
  pub own : IsTrue old.0.raised → n ≡ 1
  pub before : IsTrue old.0.seen → n ≡ 1
  pub whole : SeesOwn new.0

-- a check: the seat changes nothing, and if it has the whole share, what it saw was raised
pub record HasChecked (old new : Me (Unit {0}) Marks) : Type 0 where
  pub view : new ≡ old
  pub whole : SeesOwn new.0
  pub knows : new.0.share ≡ 4 → KnowsSteps new.0
