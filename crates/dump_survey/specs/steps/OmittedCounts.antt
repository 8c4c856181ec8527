-- How many lines of mergeinfo are omitted, as the program counts them while it reads the text.
use Rattle.std.specs.Prelude.{◌≡◌, ℕ, List, count_by, sum_by, if◌then◌else◌}
use Rattle.dump_text.specs.PropertyList.{Property}
use Rattle.dump_records.specs.RecordText.{DumpRecord}
use Rattle.dump_rules.specs.Settings.{Settings}
use Rattle.dump_rules.specs.steps.ReadMergeinfo.{value_reads, without_lf}
use Rattle.dump_rules.specs.steps.RewrittenLines.{line_misses, text_lines}
use Rattle.dump_digest.specs.RecordParts.{is_mergeinfo, value_of}
use Rattle.dump_survey.specs.declared.advice.omitted_mergeinfo.LineCounter.{LineCounter}
use Rattle.dump_survey.specs.OmittedMergeinfo.{AddUpTo, AreOmittedFrom}

-- the number for the lines of a text
abbrev pub text_lines_count : Settings → List ℕ → ℕ
text_lines_count settings text = count_by (line_misses settings) (text_lines text)

-- the number for a value; 0 if it can't be read
abbrev pub value_count : Settings → List ℕ → ℕ
value_count settings value = if value_reads value then text_lines_count settings (without_lf value) else 0

-- the number for a property
abbrev pub property_count : Settings → Property → ℕ
property_count settings p = if is_mergeinfo p then value_count settings (value_of p) else 0

-- the number for all properties
abbrev pub properties_count : Settings → List Property → ℕ
properties_count settings ps = sum_by (property_count settings) ps

-- a counter at 0 that was given these records
pub record HasCounted (first : LineCounter) (records : List DumpRecord) (now : LineCounter) : Type 0 where
  pub none : first.count ≡ 0
  pub options : now.options.now ≡ first.options.now
  pub add : AddUpTo (AreOmittedFrom first.options.now) records now.count
