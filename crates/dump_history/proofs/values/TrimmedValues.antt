-- Examples of texts with deletions after nodes.
use Rattle.dump_history.proofs.Prelude.{◌≡◌, ◌++◌, refl, record_text}
use Rattle.std.proofs.Common.{ℕ, false, List, [], ◌∷◌, codes}
use Rattle.dump_history.specs.WrittenNodes.{WrittenNode}
use Rattle.dump_history.specs.steps.WrittenNodes.{node_bytes}
use Rattle.dump_history.specs.TrimmedDumps.{may_stand_behind, IsTrimmedText}
use Rattle.dump_history.proofs.values.WorkedDump.{one, trunk}

abbrev goes : WrittenNode
goes = WrittenNode.Deletion (codes "trunk/app")

-- a revision, its node, and what is deleted after the node
abbrev behind_one : List ℕ
behind_one = record_text trunk ++ (codes "\n\n" ++ (node_bytes goes ++ codes "\n\n"))

is_trimmed : IsTrimmedText (one ∷ trunk ∷ []) ([] ∷ (goes ∷ []) ∷ []) (record_text one ++ (codes "\n" ++ behind_one))
is_trimmed = record {
  may = (refl, (refl, tt));
  lfs = 0;
  front = record_text one ++ (codes "\n" ++ behind_one);
  spelled = refl;
  texts = (1, behind_one, refl, (2, node_bytes goes ++ codes "\n\n", refl, (2, [], refl, refl)));
}

none_behind_a_revision : may_stand_behind one (goes ∷ []) ≡ false
none_behind_a_revision = refl

none_that_cannot_be_written : may_stand_behind trunk (WrittenNode.Deletion (codes "a\nb") ∷ []) ≡ false
none_that_cannot_be_written = refl
