-- What the filter writes of a dump, with deletes after its copies, is trimmed.
use Rattle.std.proofs.Common.{◌≡◌, ◌+◌, ◌≤◌, ℕ, true, false, List, [], ◌∷◌, drop, length, map, sym, ap, ap₂, ◌∙◌, subst, arith}
use Rattle.std.proofs.lemmas.List.{length-map}
use Rattle.dump_rules.specs.Settings.{Settings}
use Rattle.dump_filter.specs.Groups.{groups, kept_revisions}
use Rattle.dump_filter.specs.NewContent.{IsNewProperty}
use Rattle.dump_filter.proofs.knowing.Answered.{all_lawful}
use Rattle.dump_records.specs.RecordText.{DumpRecord}
use Rattle.dump_trees.specs.Changes.{Change}
use Rattle.dump_trees.specs.steps.Looking.{placed_from}
use Rattle.dump_trees.specs.Paths.{NodePath, path_of}
use Rattle.dump_trees.specs.Revisions.{IsWrittenNumber}
use Rattle.dump_trees.specs.steps.Revisions.{kept_of}
use Rattle.dump_trees.specs.steps.Siblings.{have_node_names}
use Rattle.dump_trees.specs.Trees.{Tree, root_alone}
use Rattle.dump_history.specs.steps.CutDumps.{leaves_no_gap}
use Rattle.dump_history.specs.RecordChanges.{Patching}
use Rattle.dump_history.specs.steps.TrimmedDumps.{AreAllTrimming, FiltersTrimmed, part_groups, stays_empty}
use Rattle.dump_history.proofs.restricted.FilteredLaw.{IsLeft, is_left}
use Rattle.dump_history.proofs.cuts.OwnNumbers.{numbers_are_kept}
use Rattle.dump_index.specs.steps.Listed.{listed_of}
use Rattle.dump_index.specs.steps.ToldKinds.{kinds_told_by}
use Rattle.dump_index.specs.declared.change.NodeChange.{NodeChange}
use Rattle.dump_index.proofs.ToldLemmas.{index_tells_kinds}
use Rattle.dump_cut.specs.TrimmedCopies.{deletes_behind, delete_nodes}
use Rattle.dump_cut.specs.steps.TrimmedCopies.{TrimmedCopiesLoad, TrimsDump}
use Rattle.dump_cut.proofs.DeleteGroups.{all_sizes, front_nodes, group_sizes, grouped_parts, none_first, parts_of, sizes_made}
use Rattle.dump_cut.proofs.NamedLemmas.{placed_named, revisions_named}
use Rattle.dump_cut.proofs.TrimLemmas as trims

module _ (patched : Patching) (settings : Settings) (excluded : List NodePath) (dump filtered text : List ℕ)
    (records : List DumpRecord) (changes : List NodeChange) (revisions : List (List Change)) (trees : List Tree)
    (deletes : List (List (List ℕ)))
    (t : TrimsDump patched settings excluded dump filtered text records changes revisions trees deletes)
    (no_gap : leaves_no_gap settings ≡ true) where
  left : IsLeft patched settings dump filtered records revisions t.clean t.fit (numbers_are_kept settings records no_gap).0 t.loads.makes
  left =
      is_left patched settings dump filtered records revisions t.clean t.fit (numbers_are_kept settings records no_gap).0
      t.loads.makes

  names : have_node_names revisions ≡ true
  names = revisions_named 1 revisions
      (placed_named (map listed_of changes) (placed_from 1 revisions) t.listed t.named)

  paths : map (map path_of) deletes
      ≡ trims.all_lost settings excluded (kinds_told_by (map listed_of changes)) revisions trees
      (index_tells_kinds changes (placed_from 1 revisions) t.listed) t.loads.loads names t.excludes t.are_named t.apart
      t.nothing_back revisions
  paths =
      t.are_deletes.paths
      ∙ trims.placed_lost settings excluded (kinds_told_by (map listed_of changes)) revisions trees
      (index_tells_kinds changes (placed_from 1 revisions) t.listed) t.loads.loads names t.excludes t.are_named t.apart
      t.nothing_back 1 revisions

  sizes : group_sizes (groups left.again) ≡ 0 ∷ map length left.written
  sizes = sizes_made patched (groups left.again) ([] ∷ left.written) left.makes_again.changes

  grouped : part_groups left.again (deletes_behind left.again deletes)
      ≡ map (map delete_nodes) (parts_of (0 ∷ map length left.written) deletes)
  grouped =
      let front = none_first left.again left.makes_again.ordered in
      let all = ap all_sizes sizes in
      let written = trims.sizes_are settings excluded (kinds_told_by (map listed_of changes)) revisions trees
      (index_tells_kinds changes (placed_from 1 revisions) t.listed) t.loads.loads names t.excludes t.are_named t.apart
      t.nothing_back (IsNewProperty settings (kept_revisions settings records))
      (IsWrittenNumber settings (kept_of settings (stays_empty settings) revisions)) revisions left.written names left.new in
      let size = ap length paths in
      let many = length-map deletes (map path_of) in
      let fits : front_nodes left.again + all_sizes (group_sizes (groups left.again)) ≤ length deletes =
      omega (arith, front, all, written, size, many) in
      grouped_parts false left.again deletes
      (all_lawful 0 0 filtered left.has.0 left.again left.has.1) left.makes_again.ordered fits
      ∙ ap₂ (λ n (ns : List ℕ). map (map delete_nodes) (parts_of ns (drop n deletes))) front sizes

  its_trims : AreAllTrimming settings (root_alone ∷ []) root_alone revisions
      (drop 1 (part_groups left.again (deletes_behind left.again deletes)))
  its_trims =
      subst (λ gs. AreAllTrimming settings (root_alone ∷ []) root_alone revisions (drop 1 gs)) (sym grouped)
      (trims.revisions_trimmed settings excluded (kinds_told_by (map listed_of changes)) revisions trees
      (index_tells_kinds changes (placed_from 1 revisions) t.listed) t.loads.loads names t.excludes t.are_named t.apart
      t.nothing_back (IsNewProperty settings (kept_revisions settings records))
      (IsWrittenNumber settings (kept_of settings (stays_empty settings) revisions)) (root_alone ∷ []) root_alone revisions
      (λ cs in_it. in_it) names t.loads.loads left.written left.new deletes paths)

  filters_trimmed : FiltersTrimmed patched settings dump records revisions trees text
  filters_trimmed = record {
    loads = t.loads;
    filtered = filtered;
    clean = t.clean;
    fit = t.fit;
    again = left.again;
    has_again = left.has;
    behind = deletes_behind left.again deletes;
    trimmed = t.trimmed left.again left.has;
    trims = its_trims;
  }

pub trimmed_copies_load : TrimmedCopiesLoad
trimmed_copies_load patched settings excluded dump filtered text records changes revisions trees deletes t no_gap =
    filters_trimmed patched settings excluded dump filtered text records changes revisions trees deletes t no_gap
