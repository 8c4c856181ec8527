-- If prefixes are excluded, no directory has to be created before the load.
use Rattle.dump_trees.proofs.Prelude.{◌≡◌, not, cond, refl, ap, ◌∙◌, Exclude, Settings, NodePath, keeps, Node, is_above_some, given, root_alone}
use Rattle.std.proofs.Common.{ℕ, ◌&&◌, List, [], ◌∷◌, Some, None}
use Rattle.dump_trees.specs.steps.TreeLaws.{GivesRootAlone}
use Rattle.std.proofs.Math.Bool.{and-false}

-- if prefixes are excluded, the only parent directory is the root
pub given_alone : (settings : Settings) → settings.side ≡ Exclude → (name : List ℕ) (path : NodePath)
    → given settings (name ∷ path) ≡ None
given_alone settings side name path =
    ap (λ b. cond b (Some (Node.Directory [])) None)
    (ap (λ s. not (keeps settings (name ∷ path)) && is_above_some s settings.prefixes (name ∷ path)) side
    ∙ and-false (not (keeps settings (name ∷ path))))

-- so the parent directories are those of a new repository
pub gives_root : GivesRootAlone
gives_root settings side = λ i. λ path. cases path i
  where
    cases : (path : NodePath) → given settings path ≡ root_alone path
    cases [] = refl
    cases (name ∷ path) = given_alone settings side name path
