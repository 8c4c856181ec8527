-- What the program's arguments mean, by the side and by what clap finds after it.
use Rattle.std.specs.Prelude.{Result, map, option_map, Option, None, if◌then◌else◌}
use Rattle.clap.specs.Words.{Text}
use Rattle.dump_pipeline.specs.PlanViews.{worker_count, window_size}
use Rattle.cli_support.specs.Arguments.{Answers}
use Rattle.cli_support.specs.declared.usage.Usage.{Usage}
use Rattle.cut_cli.specs.declared.words.Call.{Call}
use Rattle.cut_cli.specs.Words.{CutMeaning}

abbrev pub cut_meaning : Call → CutMeaning
cut_meaning call = record {
  side = call.side;
  prefixes = map (λ prefix. prefix.now) call.prefixes.items;
  targets = map (λ name. name.now) call.targets.items;
  map_name = option_map (λ name. name.now) call.map_name;
  follow = call.follow;
  keep = call.keep;
  drop = call.drop;
  after = call.after;
  youngest = call.youngest;
  allow_missing = call.allow_missing;
  dry_run = call.dry_run;
  quiet = call.quiet;
  verbose = call.verbose;
  workers = worker_count call.plan;
  window = window_size call.plan;
}

-- the answer to arguments of this meaning: out of memory may hide it, and nothing else
abbrev pub TellsCut : Result CutMeaning Usage → Result Call Usage → Type 0
TellsCut meaning answer = Answers cut_meaning meaning answer

-- the file of the map that is written; a trial writes none
abbrev pub asked_map : CutMeaning → Option Text
asked_map m = if m.dry_run then None else m.map_name
