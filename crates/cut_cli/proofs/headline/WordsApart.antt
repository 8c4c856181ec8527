-- Arguments that have a meaning don't both keep what copies bring back and follow copies.
use Rattle.std.proofs.Common.{◌≡◌, Bool, true, false, ◌&&◌, List, Option, Some, None, Ok, Err, refl, ap, subst}
use Rattle.std.specs.Prelude.{codes, drop, if◌then◌else◌}
use Rattle.std.specs.List.{list_any}
use Rattle.clap.specs.Walk.{is_empty}
use Rattle.clap.specs.Words.{Row, Text, fault_of, first_of, matches_of}
use Rattle.dump_text.proofs.BoolLemmas.{first_false, second_false}
use Rattle.dump_rules.specs.declared.options.Side.{Side}
use Rattle.dump_rules.specs.declared.options.Side.TheVariants.{Exclude, Include}
use Rattle.cli_support.specs.Arguments.{flag_number, is_set, meaning_by, side_in}
use Rattle.cli_support.specs.declared.usage.Usage.TheVariants.{Words}
use Rattle.cut_cli.specs.CommandLine.{cut_command}
use Rattle.cut_cli.specs.Words.{CutMeaning, are_refused, cut_of_side, cut_of_words, keeps_wrongly, prefixes_in, named_revision, targets_in}

not_wrongly : (side : Side) (keep follow : Bool) → keeps_wrongly side keep follow ≡ false → (keep && follow) ≡ false
not_wrongly Include keep follow is = ap (λ k. k && follow) is
not_wrongly Exclude keep follow is = is

-- what rows that aren't refused mean
abbrev meant : Side → List Row → CutMeaning
meant side rows = record {
  side = side;
  prefixes = prefixes_in rows;
  targets = targets_in rows;
  map_name = first_of (codes "map") rows;
  follow = is_set (codes "follow-copies") rows;
  keep = is_set (codes "keep-copies") rows;
  drop = is_set (codes "drop-empty-revs") rows;
  after = named_revision (codes "after") rows;
  youngest = named_revision (codes "youngest") rows;
  allow_missing = is_set (codes "allow-missing") rows;
  dry_run = is_set (codes "dry-run") rows;
  quiet = is_set (codes "quiet") rows;
  verbose = is_set (codes "verbose") rows;
  workers = flag_number (codes "workers") rows;
  window = flag_number (codes "window") rows;
}

rows_apart : (side : Side) (rows : List Row) (m : CutMeaning) → cut_of_side side rows ≡ Ok m → (m.keep && m.follow) ≡ false
rows_apart side rows m is = cases (are_refused side rows) refl is
  where
    keeps_both : are_refused side rows ≡ false → (is_set (codes "keep-copies") rows && is_set (codes "follow-copies") rows) ≡ false
    keeps_both fine =
        let rest = second_false (list_any is_empty (prefixes_in rows)) _
        (second_false (is_empty (prefixes_in rows) && is_empty (targets_in rows)) _ fine) in
        let keeps = second_false (is_set (codes "quiet") rows && is_set (codes "verbose") rows) _ rest in
        not_wrongly side (is_set (codes "keep-copies") rows) (is_set (codes "follow-copies") rows)
        (first_false _ _ keeps)

    cases : (b : Bool) → are_refused side rows ≡ b → (if b then Err Words else Ok (meant side rows)) ≡ Ok m
        → (m.keep && m.follow) ≡ false
    cases true refused same = absurd (let bad : Err Words ≡ Ok m = same in cc)
    cases false fine same =
        let whole : Ok (meant side rows) ≡ Ok m = same in
        let one : meant side rows ≡ m = cc in
        subst (λ (x : CutMeaning). (x.keep && x.follow) ≡ false) one (keeps_both fine)

pub words_apart : (words : List Text) (m : CutMeaning) → cut_of_words words ≡ Ok m → (m.keep && m.follow) ≡ false
words_apart words m = cases (side_in (drop 1 words)) (is_empty (fault_of cut_command (drop 1 words)))
  where
    rows : List Row
    rows = matches_of cut_command (drop 1 words)

    cases : (side : Option Side) (taken : Bool) → meaning_by cut_of_side side taken rows ≡ Ok m
        → (m.keep && m.follow) ≡ false
    cases None taken is = absurd (let bad : Err Words ≡ Ok m = is in cc)
    cases (Some side) true is = rows_apart side rows m is
    cases (Some side) false is = absurd (let bad : Err Words ≡ Ok m = is in cc)
