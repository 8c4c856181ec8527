-- Parts of the examples of findings: options, nodes and their lines.
use Rattle.dump_history.proofs.Prelude.{Bool, Header, DumpRecord, Include, Exclude, Settings, Finding, DumpFacts, findings_of, no_node_faults}
use Rattle.std.specs.Prelude.{ℕ, List, [], ◌∷◌, Some, codes}
use Rattle.dump_history.proofs.values.WorkedDump.{line, record_at}
use Rattle.dump_rules.specs.PlainSettings.{plain_settings}

-- the directory p/a is included
abbrev pub include_a : Settings
include_a = plain_settings Include (codes "p/a" ∷ [])

-- the directory p/a is excluded
abbrev pub exclude_a : Settings
exclude_a = plain_settings Exclude (codes "p/a" ∷ [])

-- a node at this path, of this action, with more lines
abbrev pub node : List ℕ → List ℕ → List Header → DumpRecord
node path action more = record_at 0 (line (codes "Node-path") path ∷ line (codes "Node-action") action ∷ more)

-- the lines of a copy source
abbrev pub from : List ℕ → List Header
from source = line (codes "Node-copyfrom-rev") (codes "7") ∷ line (codes "Node-copyfrom-path") source ∷ []

-- the lines of a whole file, copied from this path
abbrev pub whole_from : List ℕ → List Header
whole_from source =
    line (codes "Node-kind") (codes "file") ∷ line (codes "Text-content-length") (codes "0") ∷ from source

-- the findings of a node without properties
abbrev pub in_node : Settings → DumpRecord → List Finding
in_node settings r = findings_of settings r (Some []) no_node_faults

-- the facts of a dump: whether a kept node names a revision after a dropped one, and whether a revision can't be read
abbrev pub facts : (named unread : Bool) → DumpFacts
facts named unread = record { named = named; unread = unread }
