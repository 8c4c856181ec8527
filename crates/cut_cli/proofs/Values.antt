-- Worked values of the definitions, computed by the kernel.
use Rattle.std.proofs.Common.{◌≡◌, ℕ, Bool, List, [], ◌∷◌, length, None, Some, Ok, Err, inl, codes, refl, true, false, ap}
use Rattle.std.specs.Fmt.{digits}
use Rattle.clap.specs.Words.{Text}
use Rattle.clap.proofs.OnLiterals.{clap_on_literals}
use Rattle.cli_support.specs.declared.usage.Usage.TheVariants.{BothDrops, Words}
use Rattle.dump_pipeline.specs.declared.answer.Answer.TheVariants.{Failed, Fault}
use Rattle.dump_pipeline.specs.declared.answer.Failure.TheVariants.{Memory}
use Rattle.dump_rules.specs.Settings.{Settings}
use Rattle.dump_rules.specs.declared.options.Side.TheVariants.{Exclude, Include}
use Rattle.dump_cut.specs.declared.fates.RevisionFate.{RevisionFate}
use Rattle.dump_cut.specs.declared.later.NoPart.TheVariants.{NoRevision}
use Rattle.dump_text.specs.declared.fault.FaultKind.TheVariants.{Md5}
use Rattle.cut_cli.specs.CommandLine.{cut_command}
use Rattle.cli_support.specs.declared.info.Info.TheVariants.{Version}
use Rattle.cut_cli.specs.steps.Cuts.{writes_additions}
use Rattle.cut_cli.specs.Statuses.{TextIsPrinted}
use Rattle.cut_cli.specs.Sent.{stop_line, stop_line_of}
use Rattle.cut_cli.specs.steps.Drive.{AnswersWhole, BeginsMap, EndsMap, FollowsCut, ReadsTargets, obstacle_status}
use Rattle.cut_cli.specs.RevisionMap.{fate_lines, last_behind, loaded_number}
use Rattle.cut_cli.specs.steps.RevisionMap.{TakesPartOfMap}
use Rattle.cut_cli.specs.Texts.{info_text}
use Rattle.cut_cli.specs.Words.{CutMeaning, cut_of_words, with_texts_of}
use Rattle.cut_cli.specs.steps.Words.{TellsCut, asked_map}
use Rattle.cut_cli.specs.declared.examine.Obstacle.TheVariants.{ComesBack, EndsElsewhere, Missing, NoPart, OddDelete}
use Rattle.cut_cli.proofs.PlainCall.{plain_call}

-- CommandLine

-- thirteen options, and the prefixes
fourteen_rules : length cut_command.top.rules ≡ 14
fourteen_rules = refl

no_sides : cut_command.subs ≡ []
no_sides = refl

-- Words

abbrev given : List Text → List Text
given words = codes "p" ∷ codes "exclude" ∷ words

-- an option after a prefix is read, and one after the two minus signs is a prefix
around : cut_of_words (given (codes "a" ∷ codes "--follow-copies" ∷ codes "--quiet" ∷ codes "--" ∷ codes "--x" ∷ []))
    ≡ Ok (record (plain_call Exclude (codes "a" ∷ codes "--x" ∷ [])) { follow = true; quiet = true })
unfolding clap_on_literals
around = refl

others : cut_of_words (codes "p" ∷ codes "include" ∷ codes "--verbose" ∷ codes "--dry-run" ∷ codes "--drop-empty-revs"
    ∷ codes "/" ∷ [])
    ≡ Ok (record (plain_call Include (codes "/" ∷ [])) { drop = true; dry_run = true; verbose = true })
unfolding clap_on_literals
others = refl

plan : cut_of_words (given (codes "--workers" ∷ codes "2" ∷ codes "a" ∷ codes "--window=300" ∷ []))
    ≡ Ok (record (plain_call Exclude (codes "a" ∷ [])) { workers = 2; window = 300 })
unfolding clap_on_literals
plan = refl

files : cut_of_words (given (codes "--targets" ∷ codes "f" ∷ codes "--targets=g" ∷ []))
    ≡ Ok (record (plain_call Exclude []) { targets = codes "f" ∷ codes "g" ∷ [] })
unfolding clap_on_literals
files = refl

mapped : cut_of_words (given (codes "a" ∷ codes "--map" ∷ codes "m" ∷ codes "--dry-run" ∷ []))
    ≡ Ok (record (plain_call Exclude (codes "a" ∷ [])) { map_name = Some (codes "m"); dry_run = true })
unfolding clap_on_literals
mapped = refl

two_maps : cut_of_words (given (codes "a" ∷ codes "--map" ∷ codes "m" ∷ codes "--map" ∷ codes "n" ∷ [])) ≡ Err Words
unfolding clap_on_literals
two_maps = refl

no_worker : cut_of_words (given (codes "--workers" ∷ codes "0" ∷ codes "a" ∷ [])) ≡ Err Words
unfolding clap_on_literals
no_worker = refl

too_wide_a_window : cut_of_words (given (codes "--window" ∷ codes "4097" ∷ codes "a" ∷ [])) ≡ Err Words
unfolding clap_on_literals
too_wide_a_window = refl

no_prefix : cut_of_words (given []) ≡ Err Words
unfolding clap_on_literals
no_prefix = refl

empty_prefix : cut_of_words (given (codes "a" ∷ [] ∷ [])) ≡ Err Words
unfolding clap_on_literals
empty_prefix = refl

quiet_and_verbose : cut_of_words (given (codes "--quiet" ∷ codes "a" ∷ codes "--verbose" ∷ [])) ≡ Err Words
unfolding clap_on_literals
quiet_and_verbose = refl

keeping : cut_of_words (given (codes "--keep-copies" ∷ codes "a" ∷ []))
    ≡ Ok (record (plain_call Exclude (codes "a" ∷ [])) { keep = true })
unfolding clap_on_literals
keeping = refl

keeping_and_following : cut_of_words (given (codes "--follow-copies" ∷ codes "a" ∷ codes "--keep-copies" ∷ [])) ≡ Err Words
unfolding clap_on_literals
keeping_and_following = refl

keeping_under_include : cut_of_words (codes "p" ∷ codes "include" ∷ codes "--keep-copies" ∷ codes "a" ∷ []) ≡ Err Words
unfolding clap_on_literals
keeping_under_include = refl

after_a_revision : cut_of_words (given (codes "--after" ∷ codes "005" ∷ codes "a" ∷ []))
    ≡ Ok (record (plain_call Exclude (codes "a" ∷ [])) { after = Some 5 })
unfolding clap_on_literals
after_a_revision = refl

after_and_following : cut_of_words (given (codes "--after=5" ∷ codes "--follow-copies" ∷ codes "a" ∷ []))
    ≡ Ok (record (plain_call Exclude (codes "a" ∷ [])) { follow = true; after = Some 5 })
unfolding clap_on_literals
after_and_following = refl

after_a_name : cut_of_words (given (codes "--after" ∷ codes "HEAD" ∷ codes "a" ∷ [])) ≡ Err Words
unfolding clap_on_literals
after_a_name = refl

after_and_dropping : cut_of_words (given (codes "--after=5" ∷ codes "--drop-empty-revs" ∷ codes "a" ∷ [])) ≡ Err Words
unfolding clap_on_literals
after_and_dropping = refl

youngest_and_missing : cut_of_words (given (codes "--allow-missing" ∷ codes "--youngest=7" ∷ codes "a" ∷ []))
    ≡ Ok (record (plain_call Exclude (codes "a" ∷ [])) { youngest = Some 7; allow_missing = true })
unfolding clap_on_literals
youngest_and_missing = refl

youngest_is_a_name : cut_of_words (given (codes "--youngest" ∷ codes "HEAD" ∷ codes "a" ∷ [])) ≡ Err Words
unfolding clap_on_literals
youngest_is_a_name = refl

youngest_and_after : cut_of_words (given (codes "--youngest=7" ∷ codes "--after=5" ∷ codes "a" ∷ []))
    ≡ Ok (record (plain_call Exclude (codes "a" ∷ [])) { after = Some 5; youngest = Some 7 })
unfolding clap_on_literals
youngest_and_after = refl

options_of_the_filter : cut_of_words (given (codes "--renumber-revs" ∷ codes "a" ∷ [])) ≡ Err Words
unfolding clap_on_literals
options_of_the_filter = refl

refused_for_others : ¬ TellsCut (Err BothDrops) (Err Words)
refused_for_others e = cc

abbrev meaning : List Text → CutMeaning
meaning prefixes = record (plain_call Include prefixes) { targets = codes "f" ∷ [] }

trial : asked_map (record (meaning []) { map_name = Some (codes "m"); dry_run = true }) ≡ None
trial = refl

asked : asked_map (record (meaning []) { map_name = Some (codes "m") }) ≡ Some (codes "m")
asked = refl

-- Cuts

kept_if_asked_for : writes_additions Exclude true ≡ true
kept_if_asked_for = refl

not_kept_unasked : writes_additions Exclude false ≡ false
not_kept_unasked = refl

kept_under_include : writes_additions Include false ≡ true
kept_under_include = refl

-- Texts

version : info_text Version ≡ codes "svndumpcut, version 1.3.0-dev\n"
version = refl

-- Drive

no_last_line : stop_line_of (Failed Memory 3) ≡ []
no_last_line = refl

same_line : stop_line Md5 ≡ stop_line_of (Fault Md5 0 0)
same_line = refl

returns_have_a_status : obstacle_status ComesBack ≡ 3
returns_have_a_status = refl

missing_prefixes_have_it_too : obstacle_status Missing ≡ 3
missing_prefixes_have_it_too = refl

another_end_has_one : obstacle_status EndsElsewhere ≡ 1
another_end_has_one = refl

others_have_one : obstacle_status (OddDelete 3) ≡ 1
others_have_one = refl

no_part_has_one : obstacle_status (NoPart NoRevision) ≡ 1
no_part_has_one = refl

version_is_printed : TextIsPrinted (Some Version) (Some []) (Some (info_text Version)) (Some []) (Some []) 0
version_is_printed info is = let same : Version ≡ info = cc in (inl (ap info_text same, refl), refl)

in_the_file : (with_texts_of (meaning (codes "a" ∷ [])) (codes "b\n" ∷ [])).prefixes ≡ codes "a" ∷ codes "b" ∷ []
in_the_file = refl

no_prefix_at_all : AnswersWhole (meaning []) None (Some []) (Some []) None None 2
no_prefix_at_all = (refl, tt, refl)

empty_file : ReadsTargets (λ _. Some []) (meaning []) None (Some []) (Some []) None None 2
empty_file = inl ([] ∷ [], (refl, tt), (refl, tt, refl))

-- a map that is asked for is begun in an empty file
begun : BeginsMap (Some (codes "m")) (Some (codes "old")) (Some [])
begun = refl

-- a map that wasn't asked for can't fail
unasked : (settings : Settings) → ¬ EndsMap None None settings [] (Some []) (Some []) false
unasked settings (kept, e) = cc

-- after a fault the file stays as it is
no_map_behind_a_fault : (settings : Settings) → FollowsCut (Some (codes "m")) None settings [] (Some []) (Some []) 1 1
no_map_behind_a_fault settings = (refl, refl)

-- RevisionMap

abbrev fate : ℕ → Bool → RevisionFate
fate number stays = record { number = number; stays = stays }

-- 1 and 4 are dropped
worked : fate_lines None None (fate 0 true ∷ fate 1 false ∷ fate 2 true ∷ fate 3 true ∷ fate 4 false ∷ [])
    ≡ codes "r0 becomes r0\nr1 is dropped; references to it become r0\nr2 becomes r1\nr3 becomes r2\nr4 is dropped; references to it become r2\n"
unfolding digits
worked = refl

-- nothing is kept before it
first_dropped : fate_lines None None (fate 1 false ∷ fate 2 true ∷ []) ≡ codes "r1 is dropped\nr2 becomes r1\n"
unfolding digits
first_dropped = refl

-- the lines of those after 1 are as in the whole map
of_a_part : fate_lines (Some 1) None (fate 0 true ∷ fate 1 true ∷ fate 2 true ∷ []) ≡ codes "r2 becomes r2\n"
unfolding digits
of_a_part = refl

later_number : loaded_number (Some 6) 9 ≡ 7
later_number = refl

last_stays : last_behind (Some 6) (fate 9 false) ≡ Some 6
last_stays = refl

nothing_taken : (settings : Settings) → TakesPartOfMap None settings [] (Some (codes "a")) (Some (codes "a"))
nothing_taken settings = inl refl
