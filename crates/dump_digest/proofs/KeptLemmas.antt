-- Whether a node is kept, by its path.
use Rattle.dump_digest.proofs.Prelude.{◌≡◌, List, ℕ, false, true, not, refl, sym, Some, None, is_some, path_name, revision_name, copy_path_name, header_value, header_number, has_bad_number, DumpRecord, is_lawful, revision_there, keeps, false_from_ne_true, has_value, Settings, keeps_path, is_revision_record, is_kept_node, has_lost_source}

-- a record with a path is a kept node exactly if its path is kept
pub kept_some : (settings : Settings) (r : DumpRecord) (path : List ℕ) → header_value path_name r.headers ≡ Some path
    → keeps_path settings path ≡ is_kept_node settings r
kept_some settings r path is =
    sym (rw (← has_value path_name r.headers, is) refl)

-- a record without a path is no kept node
pub kept_none : (settings : Settings) (r : DumpRecord) → header_value path_name r.headers ≡ None
    → false ≡ is_kept_node settings r
kept_none settings r is =
    sym (rw (← has_value path_name r.headers, is) refl)

-- a copy source is kept or lost
pub lost_some : (settings : Settings) (r : DumpRecord) (path : List ℕ)
    → header_value copy_path_name r.headers ≡ Some path
    → not (keeps_path settings path) ≡ has_lost_source settings r
lost_some settings r path is =
    sym (rw (← has_value copy_path_name r.headers, is) refl)

-- a record without a copy source has lost none
pub lost_none : (settings : Settings) (r : DumpRecord) → header_value copy_path_name r.headers ≡ None
    → false ≡ has_lost_source settings r
lost_none settings r is =
    sym (rw (← has_value copy_path_name r.headers, is) refl)

-- a record is a revision exactly if it has a revision number
pub revision_told : (r : DumpRecord) (number : ℕ) → is_lawful number r.headers ≡ true
    → is_some (header_number revision_name r.headers) ≡ is_revision_record r
revision_told r number lawful = sym (revision_there r.headers
    (false_from_ne_true (has_bad_number r.headers) (keeps number r.headers lawful).number_ok))
