-- What a node's parts that may be missing say of it.
use Rattle.dump_nodes.proofs.Prelude.{◌≡◌, true, List, ℕ, Option, None, is_some, Bor, option_copied, if◌then◌else◌, ap, ◌∙◌, copy_path_name, header_value, has_value, some_copied, DumpRecord, part_of_node, is_node, is_copy}

-- a node is a copy where a copy path is given
pub copy_there : (r : DumpRecord) (found : Option (Bor (List ℕ))) → is_node r ≡ true
    → option_copied found ≡ part_of_node r (header_value copy_path_name r.headers) → is_some found ≡ is_copy r
copy_there r found node is =
    some_copied found ∙ (ap is_some is
    ∙ (ap (λ b. is_some (if b then header_value copy_path_name r.headers else None)) node
    ∙ has_value copy_path_name r.headers))
