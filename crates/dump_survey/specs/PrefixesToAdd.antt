-- The prefixes to add so that the filter stops at no copy. Under include they are copy sources, which have to be
-- included too. Under exclude they are copies, which have to be excluded too.
use Rattle.std.specs.Prelude.{◌≡◌, ℕ, Bool, true, not, ◌&&◌, List, [], ◌∷◌, ◌++◌, bytes_eq, if◌then◌else◌, IsTrue, IsFalse, ⊤}
use Rattle.std.specs.List.{list_any}
use Rattle.dump_records.specs.RecordText.{DumpRecord}
use Rattle.dump_records.specs.DumpText.{Ending, HasRecords}
use Rattle.dump_rules.specs.declared.options.Side.{Side}
use Rattle.dump_rules.specs.declared.options.Side.TheVariants.{Include, Exclude}
use Rattle.dump_rules.specs.Prefix.{bare_prefix, begins_path, matches_path}
use Rattle.dump_rules.specs.Settings.{Settings}
use Rattle.dump_digest.specs.RecordParts.{is_node, node_path}
use Rattle.dump_history.specs.RecordChanges.{copy_path}
use Rattle.dump_history.specs.Findings.{lacks_source}

-- the options with more prefixes
abbrev pub with_prefixes : Settings → List (List ℕ) → Settings
with_prefixes settings paths = record settings { prefixes = settings.prefixes ++ paths }

-- whether the filter stops at the record because its copy source is excluded
abbrev pub stops_at : Settings → DumpRecord → Bool
stops_at settings r = is_node r && lacks_source settings r

-- the path that has to be a prefix so that the filter doesn't stop at a copy: under include its source, under exclude
-- its own path
abbrev pub wanted_path : Side → DumpRecord → List ℕ
wanted_path Include r = copy_path r
wanted_path Exclude r = node_path r

-- whether the path matches itself as a prefix; one with two leading slashes doesn't, and it isn't canonical
abbrev pub matches_itself : List ℕ → Bool
matches_itself path = matches_path path path

-- whether the filter stops at a copy that needs this path as a prefix
abbrev pub is_wanted : Settings → List DumpRecord → List ℕ → Bool
is_wanted settings records path =
    list_any (λ r. stops_at settings r && bytes_eq (wanted_path settings.side r) path) records

-- each of the paths is needed after the paths before it became prefixes, and it matches itself
abbrev pub AreWanted : Settings → List DumpRecord → List (List ℕ) → List (List ℕ) → Type 0
AreWanted settings records before [] = ⊤
AreWanted settings records before (path ∷ paths) =
    IsTrue (is_wanted (with_prefixes settings before) records path) × IsTrue (matches_itself path)
    × AreWanted settings records (before ++ path ∷ []) paths

-- whether each path that the second prefix matches is at or below the first one
abbrev pub covers : List ℕ → List ℕ → Bool
covers other prefix = begins_path (bare_prefix other) (bare_prefix prefix)

-- the paths that no later path covers
abbrev pub uncovered : List (List ℕ) → List (List ℕ)
uncovered [] = []
uncovered (path ∷ paths) =
    if list_any (λ other. covers other path) paths then uncovered paths else path ∷ uncovered paths

-- whether none of the paths covers another one of them
abbrev pub are_apart : List (List ℕ) → Bool
are_apart [] = true
are_apart (path ∷ paths) =
    not (list_any (λ other. covers other path) paths) && not (list_any (λ other. covers path other) paths)
    && are_apart paths

-- whether the filter stops at a copy whose wanted path matches itself
abbrev pub stops_somewhere : Settings → List DumpRecord → Bool
stops_somewhere settings records =
    list_any (λ r. stops_at settings r && matches_itself (wanted_path settings.side r)) records

-- these are the prefixes to add: the paths that copies need, one after the other, without the paths below another one.
-- With them the filter stops at no copy.
pub record ArePrefixesToAdd (settings : Settings) (records : List DumpRecord) (paths : List (List ℕ)) : Type 0 where
  pub wanted : List (List ℕ)
  pub are_wanted : AreWanted settings records [] wanted
  pub paths_are : paths ≡ uncovered wanted
  pub apart : IsTrue (are_apart paths)
  pub stops_nowhere : IsFalse (stops_somewhere (with_prefixes settings paths) records)

-- these are the prefixes to add if this dump is filtered
abbrev pub ArePrefixesToAddIn : Settings → List ℕ → List (List ℕ) → Type 0
ArePrefixesToAddIn settings dump paths =
    (records : List DumpRecord) × (ending : Ending) × HasRecords dump records ending × ArePrefixesToAdd settings records paths
