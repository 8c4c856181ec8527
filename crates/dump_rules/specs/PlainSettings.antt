-- Options without any switch.
use Rattle.std.specs.Prelude.{ℕ, false, List}
use Rattle.dump_rules.specs.Settings.{Settings}
use Rattle.dump_rules.specs.declared.options.Side.{Side}
use Rattle.dump_rules.specs.declared.options.Empty.TheVariants.{Pad}

-- a side and prefixes without any other option: emptied revisions are padded, and no switch is set
abbrev pub plain_settings : Side → List (List ℕ) → Settings
plain_settings side prefixes = record {
  side = side;
  prefixes = prefixes;
  empty = Pad;
  renumber = false;
  preserve = false;
  skip_missing = false;
}
