-- The law of filtered dumps that are loaded after the parent directories.
use Rattle.dump_history.proofs.Prelude.{◌∙◌, drop, AllZip, kept_revisions, IsNewProperty, root_alone, given, given_directories, loads_alike, given_alike, both_restrict, IsRaised, all_quiet, FilteredDumpRestrictsAfterDirectories, QuietDumpRestrictsAfterDirectories}
use Rattle.std.proofs.Common.{List, [], ◌∷◌}
use Rattle.dump_history.proofs.restricted.FilteredLaw.{filtered_dump_restricts}
use Rattle.dump_history.proofs.restricted.RaisedLemmas.{raised_entries}

-- what is true of two lists entry by entry is true after their first entries
drop_first : {A B : Type 0} (R : A → B → Type 0) (xs : List A) (ys : List B) → AllZip R xs ys
    → AllZip R (drop 1 xs) (drop 1 ys)
drop_first R [] [] all = all
drop_first R [] (y ∷ ys) all = absurd all
drop_first R (x ∷ xs) [] all = absurd all
drop_first R (x ∷ xs) (y ∷ ys) (first, all) = all

-- a dump of separated changes, loaded after the parent directories, has the restricted trees, with raised mergeinfo
pub filtered_dump_restricts_behind : FilteredDumpRestrictsAfterDirectories
filtered_dump_restricts_behind patched settings dump text records revisions trees clean fit keeps loads apart =
    let (again, written, others, has, loads_again, no_gap, size, images, properties) =
    filtered_dump_restricts patched settings dump text records revisions trees clean fit keeps loads apart in (
      again,
      written,
      has,
      loads_again.makes,
      no_gap,
      λ moved behind.
          let (raised, loaded_are, same_size, alike) = loads_alike (IsRaised 1) (raised_entries 1) (root_alone ∷ [])
          (given settings) written moved others (given_directories settings) (given_alike settings (IsRaised 1)) behind
          loads_again.loads in (
            raised,
            loaded_are,
            same_size ∙ size,
            λ number tree at.
                let (new, middle, image_is, stands, restricted) = images number tree at in
                let (other, there, same) = alike new middle stands in (
                  new,
                  other,
                  image_is,
                  there,
                  both_restrict (IsNewProperty settings (kept_revisions settings records)) (IsRaised 1) settings tree
                      middle other restricted same,
                ),
          ),
      drop_first _ _ _ properties,
    )

-- the same for a dump of quiet changes
pub quiet_dump_restricts_behind : QuietDumpRestrictsAfterDirectories
quiet_dump_restricts_behind patched settings dump text records revisions trees clean fit keeps loads quiet over =
    filtered_dump_restricts_behind patched settings dump text records revisions trees clean fit keeps loads
    (all_quiet settings (root_alone ∷ []) root_alone revisions quiet over)
