use Rattle.dump_index.proofs.SlashLemmas.{ends_last}
use Rattle.dump_index.proofs.path_text.ends_in_slash.Goals as goal

pub returns-in-len1-up : goal.returns-in-len1-up
returns-in-len1-up c = ends_last c.args.text.now _ c.in-len1-up.len_at_least
