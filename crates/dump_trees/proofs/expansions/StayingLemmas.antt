-- Changes that are separated already, and stay as they are.
use Rattle.dump_trees.proofs.Prelude.{◌≡◌, cond, refl, ap, ◌∙◌, Settings, NodePath, keeps, Tree, Made, Change, History, is_copied, copied, made_in, is_above_some, is_lost, is_over, is_quiet, is_quiet_kept, is_quiet_dropped, cond-false, Side, Exclude, AllSeparate, slice_get}
use Rattle.std.proofs.Common.{ℕ, Bool, true, false, not, ◌&&◌, ◌||◌, List, [], ◌∷◌, ◌++◌, Option, Some, None, option_and_then, is_some}
use Rattle.dump_trees.specs.steps.Expansions.{AllExpand, SeparatedRevisionsExpand}
use Rattle.dump_trees.specs.steps.ExpansionCases.{ExcludedChangeStays}
use Rattle.dump_trees.proofs.quiet.QuietLemmas.{quiet_separates}
use Rattle.dump_trees.proofs.expansions.BranchLemmas.{IsSameOutside, same_directory}
use Rattle.dump_trees.proofs.expansions.DeletionLemmas.{graft_same}
use Rattle.dump_trees.proofs.expansions.CaseLemmas.{separated_expands}

-- changes that are separated already

all_stay : (settings : Settings) (history : History) (changes : List Change) (before : Tree)
    → AllSeparate settings history before changes → AllExpand settings history before changes changes
all_stay settings history [] before apart = refl
all_stay settings history (c ∷ changes) before apart = (
  c ∷ [],
  changes,
  refl,
  separated_expands settings history before c (λ after at. (apart after at).0),
  λ after at. all_stay settings history changes after (apart after at).1,
)

pub separated_revisions_expand : SeparatedRevisionsExpand
separated_revisions_expand settings trees youngest [] apart = refl
separated_revisions_expand settings trees youngest (changes ∷ revisions) apart = (
  changes,
  revisions,
  refl,
  all_stay settings (slice_get trees) changes youngest apart.0,
  λ tree at. separated_revisions_expand settings (trees ++ tree ∷ []) tree revisions (apart.1 tree at),
)

-- a copy doesn't depend on what exists at its path and below it
pub copied_same : (history : History) (number : ℕ) (source top : NodePath) (before after : Tree)
    → IsSameOutside top before after
    → made_in history (Some (Made.Copied number source)) top after
    ≡ made_in history (Some (Made.Copied number source)) top before
copied_same history number source top before after same = cases (history number)
  where
    cases : (o : Option Tree)
        → option_and_then (λ old. copied source top after old) o
        ≡ option_and_then (λ old. copied source top before old) o
    cases None = refl
    cases (Some old) = λ i. cond (is_some (old source) && same_directory top before after same i)
        (Some (graft_same top (λ rest. old (source ++ rest)) before after same i)) None

-- if prefixes are excluded, nothing at a path that isn't kept is needed
pub excluded_change_stays : ExcludedChangeStays
excluded_change_stays settings history before c side left =
    separated_expands settings history before c
    (λ after at. quiet_separates settings history before after c quiet over at)
  where
    none_above : (s : Side) → s ≡ Exclude → is_above_some s settings.prefixes c.path ≡ false
    none_above s is = ap (λ e. is_above_some e settings.prefixes c.path) is

    and_none : (b d : Bool) → d ≡ false → not (b && d) ≡ true
    and_none true d is = ap not is
    and_none false d is = refl

    quiet : is_quiet settings c ≡ true
    quiet =
        cond-false (keeps settings c.path) (is_quiet_kept settings c.path c.props c.made) (is_quiet_dropped settings c) left
        ∙ and_none (c.deletes || is_copied c.made) (is_above_some settings.side settings.prefixes c.path)
        (none_above settings.side side)

    over : is_over settings before c ≡ false
    over = ap (λ b. b && is_lost settings c.made && not c.deletes
        && is_some (before c.path)) left
