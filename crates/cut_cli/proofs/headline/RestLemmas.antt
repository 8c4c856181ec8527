-- What is written with --after is the rest of a cut.
use Rattle.std.proofs.Common.{◌≡◌, ◌<◌, ◌^◌, ◌&&◌, ℕ, false, List, [], ◌∷◌, length, Option, Some, None, ap, subst, arith}
use Rattle.std.proofs.lemmas.List.{length-map}
use Rattle.std.specs.List.{AllZip}
use Rattle.dump_records.specs.DumpText.{Ending, HasRecords}
use Rattle.dump_records.specs.RecordText.{DumpRecord}
use Rattle.dump_rules.specs.Settings.{Settings}
use Rattle.dump_filter.specs.Groups.{group_number, groups, revision_numbers}
use Rattle.dump_filter.specs.declared.state.Report.{Report}
use Rattle.dump_pipeline.specs.declared.answer.Answer.TheVariants.{Clean}
use Rattle.dump_trees.specs.Changes.{Change}
use Rattle.dump_trees.specs.Trees.{Tree, root_alone}
use Rattle.dump_trees.proofs.cuts.CheckedLoads.{loaded_size}
use Rattle.dump_history.specs.DumpChanges.{LoadsAs, MakeChanges}
use Rattle.dump_history.specs.RecordChanges.{Patching}
use Rattle.dump_history.proofs.cuts.OwnNumbers.{zip_length}
use Rattle.dump_history.proofs.restricted.LoadsOnce.{whole_records_once}
use Rattle.dump_cut.specs.LaterParts.{IsLaterPart}
use Rattle.dump_cut.proofs.LaterLaw.{dumps_load_in_parts}
use Rattle.cut_cli.specs.steps.Cuts.{HasPartIf, text_read}
use Rattle.cut_cli.specs.Sent.{IsSent}
use Rattle.cut_cli.specs.Headline.{IsTreeAsAsked, ZeroIsRest}
use Rattle.cut_cli.specs.Words.{CutMeaning}
use Rattle.cut_cli.proofs.CutLemmas.{read_numbered}
use Rattle.cut_cli.proofs.headline.WholeCuts.{agrees_if_added, whole_cut}
use Rattle.cut_cli.proofs.headline.ZeroLemmas.{CleanFiltered, SentClean}

-- what the filter wrote, and the cut of which a part was sent
record CutFiltered (settings : Settings) (deletes : Option (List (List (List ℕ)))) (read sent : List ℕ) (number : ℕ)
    : Type 0 where
  whole : List ℕ
  of_filter : CleanFiltered settings deletes read whole
  fits : length of_filter.filtered < 10 ^ 18
  part : IsLaterPart number whole sent

sent_part : (settings : Settings) (deletes : Option (List (List (List ℕ)))) (read sent : List ℕ) (number : ℕ)
    (report : Report) → IsSent settings deletes (Some number) read sent (Clean report)
    → CutFiltered settings deletes read sent number
sent_part settings None read sent number report (filtered, (again, clean, counts), (cut, short, trims, part)) = record {
  whole = cut;
  of_filter = record { again = again; filtered = filtered; clean = clean; trims = trims; short = λ fits. short };
  fits = short;
  part = part;
}
sent_part settings (Some deletes) read sent number report (filtered, (again, clean, counts), (cut, short, trims, part)) =
    record {
      whole = cut;
      of_filter = record { again = again; filtered = filtered; clean = clean; trims = trims; short = λ fits. short };
      fits = short;
      part = part;
    }

-- the revision is one of the cut
number_there : (number : ℕ) (dump : List ℕ) (patched : Patching) (records : List DumpRecord) (revisions : List (List Change))
    (trees others : List Tree) (Relates : Tree → Tree → Type 0) → HasPartIf (Some number) dump
    → HasRecords dump records Ending.Whole → LoadsAs patched root_alone records revisions trees
    → AllZip Relates trees others → number < length others
number_there number dump patched records revisions trees others Relates (found, has_found, (numbered, below)) has loads zip =
    let same = ap (λ (rs : List DumpRecord). length (revision_numbers rs)) (whole_records_once dump found records has_found has) in
    let groups_size = length-map (groups records) group_number in
    let revisions_size = zip_length (MakeChanges patched) (groups records) ([] ∷ revisions) loads.makes.changes in
    let trees_size = loaded_size root_alone revisions trees loads.loads in
    let others_size = zip_length Relates trees others zip in
    let less : number < length others = omega arith in
    less

pub zero_is_rest : (m : CutMeaning) (dump : List ℕ) (old new : Option (List ℕ)) → (m.keep && m.follow) ≡ false
    → (m.dry_run ≡ false → SentClean m dump old new) → ZeroIsRest m dump old new
zero_is_rest m dump old new apart sends number wet stays after =
    let s = sends wet in
    let read = text_read s.expansion dump in
    let c = sent_part s.settings s.deletes read s.sent number s.report
    (subst (λ a. IsSent s.settings s.deletes a read s.sent (Clean s.report)) after s.answered) in
    let f = c.of_filter in (
      s.sent,
      c.whole,
      s.arrived,
      c.part,
      λ patched records revisions trees has loads agrees.
          let is_cut = whole_cut m apart dump c.whole s.expansion s.settings
          (s.cuts records f.again f.filtered c.whole has (read_numbered patched records revisions loads.makes) f.clean f.trims)
          f.again f.filtered f.clean c.fits patched records revisions trees has loads
          (agrees_if_added s.expansion patched agrees) stays in
          record {
            is_cut = is_cut;
            parts = λ keeps first is_first. dumps_load_in_parts patched number c.whole first s.sent is_cut.again is_cut.written
                is_cut.others is_cut.is_dump is_cut.loads
                (number_there number dump patched records revisions trees is_cut.others (IsTreeAsAsked m trees revisions)
                (subst (λ a. HasPartIf a dump) after s.part) has loads is_cut.cut) keeps is_first c.part;
          },
    )
