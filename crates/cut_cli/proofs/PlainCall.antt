-- A call without options, with which examples begin.
use Rattle.std.proofs.Common.{false, List, [], None}
use Rattle.clap.specs.Words.{Text}
use Rattle.dump_rules.specs.declared.options.Side.{Side}
use Rattle.cut_cli.specs.Words.{CutMeaning}

abbrev pub plain_call : Side → (prefixes : List Text) → CutMeaning
plain_call side prefixes = record {
  side = side;
  prefixes = prefixes;
  targets = [];
  map_name = None;
  follow = false;
  keep = false;
  drop = false;
  after = None;
  youngest = None;
  allow_missing = false;
  dry_run = false;
  quiet = false;
  verbose = false;
  workers = 4;
  window = 64;
}
