-- What is at a place of a dump.
use Rattle.std.specs.Prelude.{◌≡◌, ℕ, ◌+◌, ◌≤◌, List, ◌++◌, length, drop, IsFalse}
use Rattle.dump_text.specs.HeaderBlock.{starts_with_lf}
use Rattle.dump_text.specs.declared.block.Block.{Block}
use Rattle.dump_text.specs.steps.Views.{block_dump, block_place, block_after, block_headers}
use Rattle.dump_records.specs.HeaderRules.{version_from}
use Rattle.dump_records.specs.RecordText.{BeginsWithRecord}
use Rattle.dump_records.specs.DumpText.{line_feeds}
use Rattle.dump_records.specs.steps.RecordPlaces.{record_between}
use Rattle.dump_records.specs.steps.CutterState.{IsCutUpTo}

-- a text begins with exactly this many LFs
pub record IsGap (text : List ℕ) (count : ℕ) : Type 0 where
  pub bound : count ≤ length text
  pub spelled : text ≡ line_feeds count ++ drop count text
  pub stop : IsFalse (starts_with_lf (drop count text))

-- the places of a record's parts rise, and are in the dump
pub record AreInside (dump : List ℕ) (props_from text_from after : ℕ) : Type 0 where
  pub props : props_from ≤ text_from
  pub text : text_from ≤ after
  pub end : after ≤ length dump

-- the record with this number begins where its block begins; `before` is the version that was in force before it
pub record StandsAt (number before : ℕ) (b : Block) (text_from after version : ℕ) : Type 0 where
  pub version_is : version ≡ version_from before (block_headers b)
  pub inside : AreInside (block_dump b) (block_after b) text_from after
  pub stands : BeginsWithRecord number (drop (block_place b) (block_dump b))
      (record_between (block_dump b) (block_place b) (block_after b) text_from after version)
      (drop after (block_dump b))

-- this many records of the dump, and the LFs after them, end at this place, and this version is in force there
pub record FollowsRecords (dump : List ℕ) (number place version : ℕ) : Type 0 where
  pub from : ℕ
  pub gap : ℕ
  pub up_to : IsCutUpTo dump number from version
  pub lfs : IsGap (drop from dump) gap
  pub place_is : place ≡ from + gap
