-- What is found of a dump, from what is found of the changes that the filter reads.
use Rattle.std.proofs.Common.{◌≡◌, ℕ, true, false, List, Result, Ok, Err, refl, sym, subst, IfOk}
use Rattle.dump_records.specs.DumpText.{Ending, HasRecords}
use Rattle.dump_records.specs.RecordText.{DumpRecord}
use Rattle.dump_rules.specs.declared.options.Side.{Side}
use Rattle.dump_rules.specs.declared.options.Side.TheVariants.{Exclude, Include}
use Rattle.dump_trees.specs.Paths.{NodePath}
use Rattle.dump_index.specs.steps.Listed.{Listed}
use Rattle.dump_changes.specs.steps.FileTexts.{ToldText, record_texts}
use Rattle.dump_changes.specs.steps.NodeProperties.{property_blocks}
use Rattle.dump_expansion.specs.steps.GivenSteads.{GivenStead, IsExpandedBy}
use Rattle.dump_additions.specs.steps.Nodes.{AreAdditions}
use Rattle.cut_cli.specs.steps.Cuts.{AreChangesOf, HasAdditionsFor, IsObstacleTo, writes_additions}
use Rattle.cut_cli.specs.Words.{CutMeaning}
use Rattle.cut_cli.specs.declared.examine.Obstacle.{Obstacle}
use Rattle.cut_cli.specs.declared.examine.Obstacle.TheVariants as obstacles

-- what is written as additions, though no call asks to keep it, is so under include
pub unkept_is_included : (side : Side) → writes_additions side false ≡ true → side ≡ Include
unkept_is_included Include adds = refl
unkept_is_included Exclude adds = absurd (let bad : false ≡ true = adds in cc)

-- nothing is said of a path that can't be deleted
pub odd_delete : (m : CutMeaning) (dump : List ℕ) (obstacle : Obstacle)
    → (place : ℕ) × (obstacle ≡ obstacles.OddDelete place) → IsObstacleTo m dump obstacle
odd_delete m dump obstacle (place, is) = subst (IsObstacleTo m dump) (sym is) tt

-- what is found of additions
module _ (dump : List ℕ) (listed : List Listed) (excluded : List NodePath) (blocks : List (List ℕ)) (texts : List ToldText)
    (are : AreChangesOf dump listed)
    (blocks_are : (records : List DumpRecord) (ending : Ending) → HasRecords dump records ending
    → blocks ≡ property_blocks records)
    (texts_are : (records : List DumpRecord) (ending : Ending) → HasRecords dump records ending
    → texts ≡ record_texts records) where
  pub added : (given : List GivenStead) (text : List ℕ) → AreAdditions blocks texts listed excluded (Ok given)
      → IsExpandedBy given dump text → HasAdditionsFor dump listed excluded text
  added given text additions expanded = record {
    records = are.records;
    given = given;
    whole = are.whole;
    additions = (subst (λ bs. AreAdditions bs (record_texts are.records) listed excluded (Ok given))
        (blocks_are are.records Ending.Whole are.whole)
        (subst (λ ts. AreAdditions blocks ts listed excluded (Ok given)) (texts_are are.records Ending.Whole are.whole)
        additions)).0;
    expanded = expanded;
  }

-- what is so of each result
pub of_each : {A B C P : Type 0} (r : Result (Result A B) C) → P → IfOk r (λ found. IfOk found (λ ready. P))
of_each (Ok (Ok x)) p = p
of_each (Ok (Err x)) p = tt
of_each (Err x) p = tt
