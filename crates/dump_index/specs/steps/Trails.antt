-- One step of a trail.
use Rattle.std.specs.Prelude.{◌≡◌, ℕ, ◌<◌, false, List, ◌++◌, option_to_list}
use Rattle.dump_trees.specs.steps.Looking.{end_of}
use Rattle.dump_index.specs.steps.Listed.{Listed, all_placed}
use Rattle.dump_index.specs.steps.InOrder.{ends_in_slash}
use Rattle.dump_index.specs.steps.Settings.{IsTrail}
use Rattle.dump_index.specs.declared.trail.Part.{Part}
use Rattle.dump_index.specs.declared.trail.Step.{Step}
use Rattle.dump_index.specs.declared.trail.Next.{Next}
use Rattle.dump_index.specs.declared.trail.Next.TheVariants.{End, Before, Copied}
use Rattle.dump_index.specs.steps.Touching.{joined_text}

-- the trail continues after these places with the next lookup
abbrev pub TrailGoesOn : Part → List Listed → ℕ → List ℕ → List ℕ → Next → Type 0
TrailGoesOn part listed before path own End = IsTrail part listed before path own
TrailGoesOn part listed before path own (Before place) =
    (place < before)
    × ((trail : List ℕ) → IsTrail part listed place path trail → IsTrail part listed before path (own ++ trail))
TrailGoesOn part listed before path own (Copied source rest) =
    (end_of (all_placed listed) source.revision < before)
    × (ends_in_slash (joined_text source.path.now rest.now) ≡ false)
    × ((trail : List ℕ)
    → IsTrail part listed (end_of (all_placed listed) source.revision) (joined_text source.path.now rest.now) trail
    → IsTrail part listed before path (own ++ trail))

abbrev pub IsTrailStep : Part → List Listed → ℕ → List ℕ → Step → Type 0
IsTrailStep part listed before path step = TrailGoesOn part listed before path (option_to_list step.set) step.next
