-- If the siblings of every tree are excluded, the filter keeps of all that ever exists what is in the cut.
use Rattle.dump_trees.proofs.Prelude.{◌≡◌, list_all, list_all-append, and_parts, and_from, refl, sym, ◌∙◌, subst, Change}
use Rattle.std.proofs.Common.{Bool, true, List, [], ◌∷◌, ◌++◌, length}
use Rattle.dump_trees.specs.Siblings.{has_node_names}
use Rattle.dump_trees.specs.steps.Siblings.{have_node_names}
use Rattle.dump_trees.specs.steps.EverSiblings.{EverKeptInCut}
use Rattle.dump_trees.proofs.paths.SiblingLemmas.{siblings_leave_cut}
use Rattle.dump_trees.proofs.histories.StandingNames.{loaded_directories, loaded_names}

-- the changes of the first revisions have names
front_names : (front : List (List Change)) (changes more : List Change) (rest : List (List Change))
    → have_node_names (front ++ (changes ++ more) ∷ rest) ≡ true → have_node_names (front ++ changes ∷ []) ≡ true
front_names front changes more rest names =
    list_all-append each front (changes ∷ [])
    ∙ and_from (list_all each front) (list_all each (changes ∷ [])) parts.0
    (and_from (each changes) true
    (and_parts (each changes) (each more)
    (sym (list_all-append (λ (c : Change). has_node_names c.path) changes more)
    ∙ (and_parts (each (changes ++ more)) (list_all each rest) parts.1).0)).0 refl)
  where
    each : List Change → Bool
    each cs = list_all (λ (c : Change). has_node_names c.path) cs

    parts : (list_all each front ≡ true) × (list_all each ((changes ++ more) ∷ rest) ≡ true)
    parts =
        and_parts (list_all each front) (list_all each ((changes ++ more) ∷ rest))
        (sym (list_all-append each front ((changes ++ more) ∷ rest)) ∙ names)

pub ever_kept_in_cut : EverKeptInCut
ever_kept_in_cut settings included siblings revisions path names excludes all once =
    siblings_leave_cut settings included siblings once.trees (length (once.front ++ once.changes ∷ [])) once.tree path excludes
    (all once.front once.changes once.more once.rest once.trees once.parted once.loads) once.last
    (loaded_directories (once.front ++ once.changes ∷ []) once.trees (length (once.front ++ once.changes ∷ [])) once.tree
    once.loads once.last)
    (loaded_names (once.front ++ once.changes ∷ []) once.trees (length (once.front ++ once.changes ∷ [])) once.tree once.loads
    (front_names once.front once.changes once.more once.rest (subst (λ r. have_node_names r ≡ true) once.parted names))
    once.last)
    once.exists
