-- The versions in force along a list of records.
use Rattle.dump_records.proofs.Prelude.{◌≡◌, ℕ, List, [], ◌∷◌, ◌++◌, refl, DumpRecord, HaveVersions, last_version}

-- the version in force after two lists of records is the one after the second list
pub last_append : (version : ℕ) (rs ss : List DumpRecord)
    → last_version version (rs ++ ss) ≡ last_version (last_version version rs) ss
last_append version [] ss = refl
last_append version (r ∷ rs) ss = last_append r.version rs ss

-- records with their versions before other records with theirs
pub versions_append : (version : ℕ) (rs ss : List DumpRecord) → HaveVersions version rs
    → HaveVersions (last_version version rs) ss → HaveVersions version (rs ++ ss)
versions_append version [] ss have more = more
versions_append version (r ∷ rs) ss (is, have) more = (is, versions_append r.version rs ss have more)

-- the first of some records with their versions have their versions
pub versions_prefix : (version : ℕ) (rs ss : List DumpRecord) → HaveVersions version (rs ++ ss)
    → HaveVersions version rs
versions_prefix version [] ss have = tt
versions_prefix version (r ∷ rs) ss (is, have) = (is, versions_prefix r.version rs ss have)
