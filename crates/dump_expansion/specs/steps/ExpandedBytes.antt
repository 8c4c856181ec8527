-- The bytes of a dump with other nodes in place of some of its nodes.
use Rattle.std.specs.Prelude.{◌≡◌, ℕ, ◌+◌, ◌==◌, List, [], ◌∷◌, ◌++◌, drop, length, flat_map, take_while}
use Rattle.dump_records.specs.DumpText.{Ending, HasRecords}
use Rattle.dump_records.specs.RecordText.{DumpRecord, record_text}
use Rattle.dump_history.specs.steps.ExpandedDumps.{Stead, own_records}
use Rattle.dump_expansion.specs.steps.GivenSteads.{GivenStead, steads_in}
use Rattle.dump_expansion.specs.steps.NodeTexts.{nodes_text}

-- the line feeds with which a text begins
abbrev pub first_lfs : List ℕ → List ℕ
first_lfs text = take_while (λ byte. byte == 10) text

-- the line feeds that follow the record in the dump
abbrev pub lfs_behind : List ℕ → DumpRecord → List ℕ
lfs_behind dump r = first_lfs (drop (r.place + length (record_text r)) dump)

-- the bytes in place of the record and the line feeds that follow it in the dump: the nodes, and what remains of the
-- record, with the same line feeds after it; if nothing remains of it, its line feeds are removed too
abbrev pub stead_bytes : List ℕ → DumpRecord → Stead → List ℕ
stead_bytes dump r stead =
    nodes_text stead.nodes ++ flat_map (λ own. record_text own ++ lfs_behind dump r) (own_records r stead.own)

-- the same of the records, in order
abbrev pub steads_bytes : List ℕ → List DumpRecord → List Stead → List ℕ
steads_bytes dump [] steads = []
steads_bytes dump (r ∷ records) [] = []
steads_bytes dump (r ∷ records) (stead ∷ steads) = stead_bytes dump r stead ++ steads_bytes dump records steads

-- the bytes of the dump from the first one at which no record can be read
abbrev pub unread_bytes : List ℕ → Ending → List ℕ
unread_bytes dump Ending.Whole = []
unread_bytes dump (Ending.Broken fault place) = drop place dump

-- the dump, with this in place of its records: the line feeds before them, what is in place of each, and all that
-- follows the last record that can be read
abbrev pub expanded_bytes : List ℕ → List DumpRecord → Ending → List Stead → List ℕ
expanded_bytes dump records ending steads =
    first_lfs dump ++ (steads_bytes dump records steads ++ unread_bytes dump ending)

-- the text is exactly the dump, expanded by these nodes; the dump may end with its records or with bytes that can't be
-- read
abbrev pub IsExactlyExpandedBy : List GivenStead → List ℕ → List ℕ → Type 0
IsExactlyExpandedBy given dump text = (records : List DumpRecord) (ending : Ending) → HasRecords dump records ending
    → text ≡ expanded_bytes dump records ending (steads_in 0 records given)
