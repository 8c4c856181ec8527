-- The command that clap reads the arguments after the side by.
use Rattle.std.specs.Prelude.{codes}
use Rattle.clap.specs.Words.{App, with_rule}
use Rattle.cli_support.specs.FilterCommand.{any_prefixes, bare_command, number, repeated, switch, valued}

-- options in any order, before, between and after the prefixes
abbrev pub cut_command : App
cut_command =
    let copies = with_rule (bare_command (codes "svndumpcut")) (switch (codes "follow-copies")) in
    let keeps = with_rule copies (switch (codes "keep-copies")) in
    let drops = with_rule keeps (switch (codes "drop-empty-revs")) in
    let dry = with_rule drops (switch (codes "dry-run")) in
    let said = with_rule (with_rule dry (switch (codes "quiet"))) (switch (codes "verbose")) in
    let plan = with_rule (with_rule said (number (codes "workers") 64 (codes "4"))) (number (codes "window") 4096 (codes "64")) in
    let files = with_rule (with_rule plan (repeated (codes "targets"))) (valued (codes "map")) in
    let revisions = with_rule (with_rule files (valued (codes "after"))) (valued (codes "youngest")) in
    with_rule (with_rule revisions (switch (codes "allow-missing"))) any_prefixes
