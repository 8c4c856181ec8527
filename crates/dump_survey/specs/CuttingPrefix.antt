-- The prefix by which a copy is filtered differently from its source.
use Rattle.std.specs.Prelude.{ℕ, List, Option, None, filter, slice_get}
use Rattle.dump_records.specs.RecordText.{DumpRecord}
use Rattle.dump_rules.specs.declared.options.Side.{Side}
use Rattle.dump_rules.specs.declared.options.Side.TheVariants.{Include, Exclude}
use Rattle.dump_rules.specs.Settings.{Settings}
use Rattle.dump_digest.specs.RecordParts.{node_path}
use Rattle.dump_trees.specs.Paths.{path_of}
use Rattle.dump_trees.specs.Quiet.{cuts_one}
use Rattle.dump_history.specs.RecordChanges.{copy_path}
use Rattle.dump_history.specs.declared.findings.Finding.{Finding}
use Rattle.dump_history.specs.declared.findings.Finding.TheVariants as findings

-- the first of the prefixes, in the order of the call, that cuts below one path what is kept below the other, if there
-- is one; under include no prefix cuts
abbrev pub first_cut : Side → Settings → List ℕ → List ℕ → Option (List ℕ)
first_cut Include settings path other = None
first_cut Exclude settings path other =
    slice_get (filter (λ prefix. cuts_one settings (path_of path) (path_of other) prefix) settings.prefixes) 0

-- the prefix that is reported with a finding in the node, if there is one
abbrev pub cutting_prefix : Settings → DumpRecord → Finding → Option (List ℕ)
cutting_prefix settings r findings.CopyLoses = first_cut settings.side settings (copy_path r) (node_path r)
cutting_prefix settings r findings.CopyLetsIn = first_cut settings.side settings (node_path r) (copy_path r)
cutting_prefix settings r _ = None
