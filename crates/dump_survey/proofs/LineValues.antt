-- Examples of lines; the checker computes and proves them.
use Rattle.dump_survey.proofs.Prelude.{◌≡◌, ℕ, List, [], ◌∷◌, Option, Some, None, refl, codes, Ending, Finding, CopySource}
use Rattle.std.specs.Fmt.{digits}
use Rattle.dump_text.specs.declared.fault.FaultKind.TheVariants.{HeaderCut}
use Rattle.dump_survey.specs.FindingRows.{dump_row, finding_row}
use Rattle.dump_survey.specs.Kinds.{dump_kind_line, kind_line}
use Rattle.dump_survey.specs.Lines.{broken_line, cut_words, dump_line, ending_line, fault_and_place, node_line, place_text, shown_byte, shown_control, shown_path, shown_text, source_text}
use Rattle.dump_survey.specs.Reported.{NodeReport}
use Rattle.dump_history.specs.declared.findings.Finding.TheVariants as findings
use Rattle.dump_history.specs.declared.findings.DumpFinding.TheVariants as dump_wide

-- the parentheses at the end of a line

neither : fault_and_place None None ≡ []
unfolding fault_and_place
neither = refl

fault_alone : fault_and_place (Some CopySource) None ≡ codes " (fault 12)"
unfolding fault_and_place digits
fault_alone = refl

record_alone : fault_and_place None (Some (record { number = 41; place = 90110 })) ≡ codes " (record 41, byte 90110)"
unfolding fault_and_place place_text digits
record_alone = refl

-- the lines of nodes

abbrev reported : Finding → Option (List ℕ) → NodeReport
reported finding prefix = record {
  finding = finding;
  number = 38;
  place = 66371;
  revision = 12;
  path = codes "tags/1.0";
  copy_path = codes "/trunk";
  copy_revision = 11;
  prefix = prefix;
}

copy_without_its_source : node_line (reported findings.NoWholeFile None)
    ≡ codes "r12: /tags/1.0, copied from /trunk@11: the source is excluded: svndumpfilter stops here (fault 12, record 38, byte 66371)\n"
unfolding node_line shown_path shown_byte shown_control source_text finding_row cut_words fault_and_place place_text digits
copy_without_its_source = refl

copy_that_is_cut : node_line (reported findings.CopyLoses (Some (codes "/trunk/f/")))
    ≡ codes "r12: /tags/1.0, copied from /trunk@11: the copy may lack paths that are excluded at its source: prefix /trunk/f/ (record 38, byte 66371)\n"
unfolding node_line shown_path shown_byte shown_control source_text finding_row cut_words fault_and_place place_text digits
copy_that_is_cut = refl

-- a line that doesn't name the copy source
deleted_directory : node_line (reported findings.IncludedStays None)
    ≡ codes "r12: /tags/1.0: this excluded directory is deleted: what is included below it may stay (record 38, byte 66371)\n"
unfolding node_line shown_path shown_byte shown_control finding_row cut_words fault_and_place place_text digits
deleted_directory = refl

-- control characters: escape, and U+009B in UTF-8, which is c2 9b; other letters stay, such as U+00A3, which is c2 a3,
-- and one whose second byte is 9b
control_characters : shown_text (97 ∷ 27 ∷ 194 ∷ 155 ∷ 109 ∷ 127 ∷ []) ≡ codes "a\\x1b\\x9bm\\x7f"
unfolding shown_byte shown_control
control_characters = refl

letters_stay : shown_text (194 ∷ 163 ∷ 197 ∷ 155 ∷ 194 ∷ []) ≡ 194 ∷ 163 ∷ 197 ∷ 155 ∷ 194 ∷ []
unfolding shown_byte
letters_stay = refl

-- the lines of the dump as a whole and of the end of its records

number_that_falls : dump_line (record { finding = dump_wide.NumberFalls; at = Some (record { number = 4; place = 90 }) })
    ≡ codes "the number of a revision is not above the one before it (fault 8, record 4, byte 90)\n"
unfolding dump_line dump_row fault_and_place place_text digits
number_that_falls = refl

no_revision : dump_line (record { finding = dump_wide.NoRevision; at = None }) ≡ codes "the dump has no revision\n"
unfolding dump_line dump_row fault_and_place
no_revision = refl

cut_header : ending_line 5 (Ending.Broken HeaderCut 123)
    ≡ codes "the dump cannot be read from here on: HeaderCut (fault 1, record 5, byte 123)\n"
unfolding broken_line fault_and_place place_text digits
cut_header = refl

-- the lines of kinds

three_copies : kind_line 3 (finding_row findings.NoWholeFile).kind
    ≡ codes "total 3: copies whose source is excluded (fault 12): include the source too, or exclude the copy\n"
unfolding kind_line finding_row fault_and_place digits
three_copies = refl

no_copies : kind_line 0 (finding_row findings.NoWholeFile).kind ≡ []
unfolding kind_line
no_copies = refl

gaps : dump_kind_line dump_wide.NumbersLeft ≡ codes "total 1: revision numbers with a gap: use --renumber-revs\n"
unfolding kind_line dump_row fault_and_place digits
gaps = refl
