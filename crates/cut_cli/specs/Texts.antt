-- The texts that are printed in place of a cut.
use Rattle.clap.specs.Words.{Text}
use Rattle.cli_support.specs.declared.info.Info.{Info}
use Rattle.cli_support.specs.declared.info.Info.TheVariants.{Help, Version}
use Rattle.cut_cli.specs.declared.texts.TheConstants.{HELP, VERSION}

abbrev pub info_text : Info → Text
info_text Help = HELP.now
info_text Version = VERSION.now
