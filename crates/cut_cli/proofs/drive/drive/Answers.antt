use Rattle.std.proofs.Common.{map}
use Rattle.cut_cli.specs.Headline.{ZeroIsCut, ZeroIsDroppedCut, ZeroIsOfKept, ZeroIsRest}
use Rattle.cli_support.specs.Info.{info_of}
use Rattle.cut_cli.specs.Words.{cut_of_words}
use Rattle.cut_cli.proofs.headline.RestLemmas.{zero_is_rest}
use Rattle.cut_cli.proofs.headline.StatusLemmas.{map_is_written, nothing_is_written, part_is_written}
use Rattle.cut_cli.proofs.headline.WordsApart.{words_apart}
use Rattle.cut_cli.proofs.headline.ZeroLemmas.{of_drive, zero_is_cut, zero_is_dropped, zero_is_of_kept}
use Rattle.cut_cli.proofs.drive.drive.Goals as goal

pub returns-in-None-clause-zero : goal.returns-in-None-clause-zero
returns-in-None-clause-zero g c = λ m dump zero none means known.
    let words = map (λ word. word.now) c.args.words.now in
    of_drive ZeroIsCut zero_is_cut (g.F.NamedFiles.text_of c.args.files.now) (cut_of_words words) (words_apart words)
    (g.R.Read.remaining c.args.reader.now) (g.W.Write.contents c.args.writer.now)
    (g.W.Write.contents c.drive_cut.new.writer) (g.M.Write.contents c.args.map_file.now)
    (g.M.Write.contents c.drive_cut.new.map_file) c.drive_cut.result c.drive_cut.ensures m dump zero means known

pub returns-in-None-clause-zero_drops : goal.returns-in-None-clause-zero_drops
returns-in-None-clause-zero_drops g c = λ m dump zero none means known.
    let words = map (λ word. word.now) c.args.words.now in
    of_drive ZeroIsDroppedCut zero_is_dropped (g.F.NamedFiles.text_of c.args.files.now) (cut_of_words words)
    (words_apart words) (g.R.Read.remaining c.args.reader.now) (g.W.Write.contents c.args.writer.now)
    (g.W.Write.contents c.drive_cut.new.writer) (g.M.Write.contents c.args.map_file.now)
    (g.M.Write.contents c.drive_cut.new.map_file) c.drive_cut.result c.drive_cut.ensures m dump zero means known

pub returns-in-None-clause-zero_after : goal.returns-in-None-clause-zero_after
returns-in-None-clause-zero_after g c = λ m dump zero none means known.
    let words = map (λ word. word.now) c.args.words.now in
    of_drive ZeroIsRest zero_is_rest (g.F.NamedFiles.text_of c.args.files.now) (cut_of_words words) (words_apart words)
    (g.R.Read.remaining c.args.reader.now) (g.W.Write.contents c.args.writer.now)
    (g.W.Write.contents c.drive_cut.new.writer) (g.M.Write.contents c.args.map_file.now)
    (g.M.Write.contents c.drive_cut.new.map_file) c.drive_cut.result c.drive_cut.ensures m dump zero means known

pub returns-in-None-clause-zero_kept : goal.returns-in-None-clause-zero_kept
returns-in-None-clause-zero_kept g c = λ m dump zero none means known.
    let words = map (λ word. word.now) c.args.words.now in
    of_drive ZeroIsOfKept zero_is_of_kept (g.F.NamedFiles.text_of c.args.files.now) (cut_of_words words) (words_apart words)
    (g.R.Read.remaining c.args.reader.now) (g.W.Write.contents c.args.writer.now)
    (g.W.Write.contents c.drive_cut.new.writer) (g.M.Write.contents c.args.map_file.now)
    (g.M.Write.contents c.drive_cut.new.map_file) c.drive_cut.result c.drive_cut.ensures m dump zero means known

pub returns-in-None-clause-nothing : goal.returns-in-None-clause-nothing
returns-in-None-clause-nothing g c =
    let words = map (λ word. word.now) c.args.words.now in
    nothing_is_written (g.F.NamedFiles.text_of c.args.files.now) (cut_of_words words) (info_of words)
    (g.R.Read.remaining c.args.reader.now) (g.W.Write.contents c.args.writer.now)
    (g.W.Write.contents c.drive_cut.new.writer) (g.M.Write.contents c.args.map_file.now)
    (g.M.Write.contents c.drive_cut.new.map_file) c.drive_cut.result c.drive_cut.ensures

pub returns-in-None-clause-part : goal.returns-in-None-clause-part
returns-in-None-clause-part g c =
    let words = map (λ word. word.now) c.args.words.now in
    part_is_written (g.F.NamedFiles.text_of c.args.files.now) (cut_of_words words) (info_of words)
    (g.R.Read.remaining c.args.reader.now) (g.W.Write.contents c.args.writer.now)
    (g.W.Write.contents c.drive_cut.new.writer) (g.M.Write.contents c.args.map_file.now)
    (g.M.Write.contents c.drive_cut.new.map_file) c.drive_cut.result c.drive_cut.ensures

pub returns-in-None-clause-mapped : goal.returns-in-None-clause-mapped
returns-in-None-clause-mapped g c =
    let words = map (λ word. word.now) c.args.words.now in
    map_is_written (g.F.NamedFiles.text_of c.args.files.now) (cut_of_words words) (info_of words)
    (g.R.Read.remaining c.args.reader.now) (g.W.Write.contents c.args.writer.now)
    (g.W.Write.contents c.drive_cut.new.writer) (g.M.Write.contents c.args.map_file.now)
    (g.M.Write.contents c.drive_cut.new.map_file) c.drive_cut.result c.drive_cut.ensures
