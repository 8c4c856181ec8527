-- The law of surveyed fronts, applied to the first two of the three revisions of the example dump.
use Rattle.dump_history.proofs.Prelude.{◌≡◌, ◌++◌, length, refl, ap, arith, groups, Tree, root_alone, Change, nowhere_is_over, loaded_over, Patching, FrontLoadsRestricted, Finding, HaveFindings}
use Rattle.std.proofs.Common.{List, [], ◌∷◌}
use Rattle.dump_history.proofs.restricted.LoadsOnce.{later_once}
use Rattle.dump_history.proofs.survey.SurveyLemmas.{surveyed_front}
use Rattle.dump_history.proofs.values.WorkedDump.{records, dump, settings, trunk, other, copy, revisions, first_tree, second_tree, loads}
use Rattle.dump_history.proofs.values.WorkedFilter.{text, clean, lengths}
use Rattle.dump_history.proofs.values.WorkedSurvey.{before_trunk, before_other, before_copy, in_trunk, in_other, in_copy, one_node, none_in_dump}

-- two of three revisions are the first two
two_of_three : (front rest : List (List Change)) (a b c : List Change)
    → front ++ rest ≡ a ∷ b ∷ c ∷ [] → length front ≡ 2 → front ≡ a ∷ b ∷ []
two_of_three [] rest a b c same two = absurd (let bad : 0 ≡ 2 = two in cc)
two_of_three (x ∷ []) rest a b c same two = absurd (let bad : length (x ∷ []) ≡ 2 = two in cc)
two_of_three (x ∷ y ∷ []) rest a b c same two =
    let both : x ∷ y ∷ rest ≡ a ∷ b ∷ c ∷ [] = same in
    let x_is : x ≡ a = cc in let y_is : y ≡ b = cc in cc
two_of_three (x ∷ y ∷ z ∷ more) rest a b c same two =
    absurd (let bad : length (x ∷ y ∷ z ∷ more) ≡ 2 = two in omega (arith, bad))

-- what is found in the first two revisions after revision 0, and in the third one
abbrev before : List (List (List Finding))
before = ([] ∷ []) ∷ ([] ∷ []) ∷ []

abbrev behind : List (List (List Finding))
behind = ([] ∷ []) ∷ []

found : HaveFindings settings records ([] ∷ before ++ behind)
found = (
  [],
  _,
  refl,
  refl,
  (
    _,
    _,
    refl,
    one_node before_trunk trunk in_trunk,
    (_, _, refl, one_node before_other other in_other, (_, _, refl, one_node before_copy copy in_copy, refl)),
  ),
)

-- the trees of the first two
abbrev first_trees : List Tree
first_trees = root_alone ∷ first_tree ∷ second_tree ∷ []

-- so the law applies to them
restricts : (patched : Patching) → FrontLoadsRestricted patched settings records first_trees text
restricts patched =
    let (front, rest, makes, two, law) =
    surveyed_front patched settings dump text records [] before behind clean lengths refl none_in_dump found refl refl in
    let same : front ++ rest ≡ revisions =
    later_once patched (groups records) [] (front ++ rest) revisions makes.changes (loads patched).makes.changes in
    let is : front ≡ _ = two_of_three front rest _ _ _ same two in
    law first_trees (ap (loaded_over root_alone) is) (ap (nowhere_is_over settings (root_alone ∷ []) root_alone) is)
