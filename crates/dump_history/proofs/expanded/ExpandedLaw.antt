-- The law of expanded dumps.
use Rattle.dump_history.proofs.Prelude.{ap, ◌∙◌, subst, Ending, HasRecords, IsCutInto, DumpRecord, Settings, groups, root_alone, Change, Patching, makes, MakeRevisions, counts_from}
use Rattle.std.proofs.Common.{ℕ, false, List, [], ◌∷◌}
use Rattle.dump_trees.proofs.expansions.ExpandLemmas.{expanded_load}
use Rattle.dump_history.specs.steps.ExpandedDumps.{Stead, IsExpandedDump, ExpandedDumpLoads}
use Rattle.dump_history.proofs.expanded.FormLemmas.{AllFit, all_fit}
use Rattle.dump_history.proofs.expanded.StandLemmas.{all_stand, same_revisions, same_numbers, same_properties, same_order}

-- the records of a whole dump fit
pub whole_fits : (dump : List ℕ) (records : List DumpRecord) → HasRecords dump records Ending.Whole → AllFit records
whole_fits dump records has =
    all_fit 0 0 dump [] records (subst (λ (rest : List ℕ). IsCutInto 0 0 dump records rest) has.3.0 has.1)

-- the expanded form of a dump makes the expanded revisions
pub expansion_makes : (patched : Patching) (settings : Settings) (records : List DumpRecord) (steads : List Stead)
    (again : List DumpRecord) (revisions expanded : List (List Change)) → AllFit records
    → MakeRevisions patched records revisions
    → IsExpandedDump patched settings records steads again revisions expanded
    → MakeRevisions patched again expanded
expansion_makes patched settings records steads again revisions expanded fit makes expansion = record {
  numbered = ap (counts_from 0) (same_numbers (groups records) (groups again)
      (same_revisions records steads again fit
      (all_stand records steads again expansion.may expansion.stand))) ∙ makes.numbered;
  ordered = same_order false records steads again fit
      (all_stand records steads again expansion.may expansion.stand) makes.ordered;
  changes = expansion.changes;
}

-- it loads to the same trees
pub expanded_dump_loads : ExpandedDumpLoads
expanded_dump_loads patched settings dump records steads again revisions expanded trees has loads expansion =
    let fit = whole_fits dump records has in
    let same = same_revisions records steads again fit (all_stand records steads again expansion.may expansion.stand) in
    let (loaded, apart) = expanded_load settings (root_alone ∷ []) root_alone revisions expanded trees loads.loads
    expansion.expands in (
      record {
        makes = expansion_makes patched settings records steads again revisions expanded fit loads.makes expansion;
        loads = loaded;
      },
      apart,
      same_numbers (groups records) (groups again) same,
      λ props have. same_properties (groups records) (groups again) props same have,
    )
