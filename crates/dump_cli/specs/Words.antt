-- What the program's arguments mean.
use Rattle.std.specs.Prelude.{List, Result, drop}
use Rattle.clap.specs.Words.{Text}
use Rattle.dump_pipeline.specs.PlanViews.{worker_count, window_size}
use Rattle.cli_support.specs.Arguments.{Answers}
use Rattle.cli_support.specs.FilterCalls.{filter_call_of}
use Rattle.cli_support.specs.declared.filter_call.FilterCall.{FilterCall}
use Rattle.cli_support.specs.declared.usage.Usage.{Usage}
use Rattle.dump_cli.specs.declared.words.Order.{Order}

-- the call that an order is for
abbrev pub shown : Order → FilterCall
shown order = record {
  options = order.options;
  workers = worker_count order.plan;
  window = window_size order.plan;
  quiet = order.quiet;
}

-- the call that the arguments give
abbrev pub meaning_of : List Text → Result FilterCall Usage
meaning_of words = filter_call_of (drop 1 words)

-- the answer to arguments of this meaning: out of memory may hide it, and nothing else
abbrev pub AnswersTo : Result FilterCall Usage → Result Order Usage → Type 0
AnswersTo meaning answer = Answers shown meaning answer
