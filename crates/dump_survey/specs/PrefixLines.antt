-- The exact text of the lines of the findings in prefixes.
use Rattle.std.specs.Prelude.{ℕ, List, [], ◌∷◌, flat_map, codes}
use Rattle.std.specs.List.{concat}
use Rattle.dump_survey.specs.declared.findings.prefix_findings.PrefixFinding.{PrefixFinding}
use Rattle.dump_survey.specs.declared.findings.prefix_findings.PrefixFinding.TheVariants.{NotCanonical, Idle}
use Rattle.dump_survey.specs.Lines.{shown_text}
use Rattle.dump_survey.specs.PrefixFindings.{PrefixReport}

-- the words that follow the prefix on such a line
abbrev pub prefix_line_words : PrefixFinding → List ℕ
prefix_line_words NotCanonical = codes ": not in canonical form, so it matches no path of the loaded repository\n"
prefix_line_words Idle = codes ": no node has a path at or below it, and none is copied from there or to a path above it\n"

-- the line of a prefix, which is shown as the caller gave it: without an additional slash
unfoldable pub prefix_line : PrefixReport → List ℕ
prefix_line t = concat (codes "prefix " ∷ shown_text t.prefix ∷ prefix_line_words t.finding ∷ [])

-- one line for each report
abbrev pub prefix_lines : List PrefixReport → List ℕ
prefix_lines reported = flat_map prefix_line reported
