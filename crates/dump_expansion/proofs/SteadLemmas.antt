-- What is in place of each record of a dump.
use Rattle.std.proofs.Common.{◌≡◌, ℕ, ◌+◌, Bool, true, false, ◌&&◌, ◌==◌, List, [], ◌∷◌, ◌++◌, if◌then◌else◌, refl, ap, ap₂, IsTrue, append-nil}
use Rattle.std.proofs.lemmas.Bool.{and_from, and_parts}
use Rattle.std.specs.List.{AllZip, list_all}
use Rattle.dump_records.specs.RecordText.{DumpRecord, record_text}
use Rattle.dump_digest.specs.RecordParts.{is_node}
use Rattle.dump_history.specs.steps.ExpandedDumps.{may_stand}
use Rattle.dump_history.specs.WrittenNodes.{WrittenNode, can_be_written}
use Rattle.dump_expansion.specs.steps.GivenSteads.{GivenStead, left_alone, own_form, stead_at, steads_in}
use Rattle.dump_expansion.specs.steps.ExpandedBytes.{lfs_behind, stead_bytes, steads_bytes}
use Rattle.dump_expansion.specs.steps.Given.{can_all_be_written}
use Rattle.dump_expansion.proofs.ByteLemmas.{own_bytes}

-- the bytes in place of the records from this number on
abbrev pub bytes_with : List ℕ → ℕ → List DumpRecord → List GivenStead → List ℕ
bytes_with dump number records given = steads_bytes dump records (steads_in number records given)

-- a record's own bytes, with the line feeds that follow it
abbrev pub own_with_lfs : List ℕ → DumpRecord → List ℕ
own_with_lfs dump r = record_text r ++ lfs_behind dump r

module _ (dump : List ℕ) where
  -- if nothing is given, the records are as they are
  pub none_given : (number : ℕ) (records : List DumpRecord) → bytes_with dump number records [] ≡ own_bytes dump records
  none_given number [] = refl
  none_given number (r ∷ records) =
      ap₂ (λ s t. s ++ t) (append-nil (own_with_lfs dump r)) (none_given (number + 1) records)

  -- a record with another number is as it is
  pub other_number : (number : ℕ) (r : DumpRecord) (g : GivenStead) (given : List GivenStead)
      → (g.number == number) ≡ false → (rest : List DumpRecord)
      → bytes_with dump number (r ∷ rest) (g ∷ given)
      ≡ own_with_lfs dump r ++ bytes_with dump (number + 1) rest (g ∷ given)
  other_number number r g given other rest =
      rw other (ap (λ t. t ++ bytes_with dump (number + 1) rest (g ∷ given)) (append-nil (own_with_lfs dump r)))

  -- and so is a record that is no node
  pub no_node : (number : ℕ) (r : DumpRecord) (g : GivenStead) (given : List GivenStead)
      → (g.number == number) ≡ true → is_node r ≡ false → (rest : List DumpRecord)
      → bytes_with dump number (r ∷ rest) (g ∷ given)
      ≡ own_with_lfs dump r ++ bytes_with dump (number + 1) rest given
  no_node number r g given same other rest =
      rw same (rw other
      (ap (λ t. t ++ bytes_with dump (number + 1) rest given) (append-nil (own_with_lfs dump r))))

  -- a node has what is given for it
  pub node_takes : (number : ℕ) (r : DumpRecord) (g : GivenStead) (given : List GivenStead)
      → (g.number == number) ≡ true → is_node r ≡ true → (rest : List DumpRecord)
      → bytes_with dump number (r ∷ rest) (g ∷ given)
      ≡ stead_bytes dump r (record { nodes = g.nodes; own = own_form g.keeps })
      ++ bytes_with dump (number + 1) rest given
  node_takes number r g given same node rest = rw same (rw node refl)

-- it may have it, if all nodes can be written
may_nodes : (r : DumpRecord) (nodes : List WrittenNode) (keeps : Bool) → is_node r ≡ true
    → list_all can_be_written nodes ≡ true → may_stand r (record { nodes = nodes; own = own_form keeps }) ≡ true
may_nodes r [] true node written = refl
may_nodes r [] false node written = node
may_nodes r (w ∷ nodes) true node written =
    and_from (is_node r && list_all can_be_written (w ∷ nodes)) true
    (and_from (is_node r) (list_all can_be_written (w ∷ nodes)) node written) refl
may_nodes r (w ∷ nodes) false node written =
    and_from (is_node r && list_all can_be_written (w ∷ nodes)) (is_node r)
    (and_from (is_node r) (list_all can_be_written (w ∷ nodes)) node written) node

may_one : (r : DumpRecord) (g : GivenStead) (b : Bool) → is_node r ≡ b → list_all can_be_written g.nodes ≡ true
    → may_stand r (if b then record { nodes = g.nodes; own = own_form g.keeps } else left_alone) ≡ true
may_one r g true node written = may_nodes r g.nodes g.keeps node written
may_one r g false node written = refl

pub may_all : (number : ℕ) (records : List DumpRecord) (given : List GivenStead) → can_all_be_written given ≡ true
    → AllZip (λ r stead. IsTrue (may_stand r stead)) records (steads_in number records given)
may_all number [] given written = tt
may_all number (r ∷ records) [] written = (refl, may_all (number + 1) records [] written)
may_all number (r ∷ records) (g ∷ given) written =
    let parts = and_parts (list_all can_be_written g.nodes) (can_all_be_written given) written in
    cases (g.number == number) parts.0 (may_all (number + 1) records given parts.1)
    (may_all (number + 1) records (g ∷ given) written)
  where
    cases : (b : Bool) → list_all can_be_written g.nodes ≡ true
        → AllZip (λ r stead. IsTrue (may_stand r stead)) records (steads_in (number + 1) records given)
        → AllZip (λ r stead. IsTrue (may_stand r stead)) records (steads_in (number + 1) records (g ∷ given))
        → AllZip (λ r stead. IsTrue (may_stand r stead)) (r ∷ records)
        (if b then stead_at r g ∷ steads_in (number + 1) records given
        else left_alone ∷ steads_in (number + 1) records (g ∷ given))
    cases true one here later = (may_one r g (is_node r) refl one, here)
    cases false one here later = (refl, later)
