use Rattle.dump_survey.proofs.Prelude.{List, [], ◌∷◌, ◌++◌, flat_map, map, refl, ap, ◌∙◌, append-nil, every_finding, Finding, NotCanonical, Idle, listed_findings, ending_kind_line, finding_row, kind_line, prefix_kind, times_in_prefixes, prefix_view, survey_ending, count_in}
use Rattle.dump_survey.specs.Kinds.{dump_kind_line}
use Rattle.dump_survey.proofs.LineLemmas.{all_added, map_ok}
use Rattle.dump_survey.proofs.report.kind_lines.push_kind_lines.Goals as goal

pub returns : goal.returns
returns c =
    let counts = c.args.counts.now in
    let old = c.args.lines.now.items in
    let reported = map prefix_view c.args.prefixes.now in
    let node = flat_map (λ f. kind_line (count_in counts f) (finding_row f).kind) every_finding in
    let dump = flat_map dump_kind_line (listed_findings c.args.end.now.dump) in
    let not_canonical = kind_line (times_in_prefixes reported NotCanonical) (prefix_kind NotCanonical) in
    let idle = kind_line (times_in_prefixes reported Idle) (prefix_kind Idle) in
    let ending = ending_kind_line (survey_ending c.args.end.now.end) in
    map_ok c.push_ending_kind.result (λ is. all_added old c.push_ending_kind.new.lines.items
    (node ∷ dump ∷ not_canonical ∷ idle ∷ ending ∷ []) (
      c.push_node_kinds.new.lines.items,
      c.in_ok-push_node_kinds.ensures ∙ ap (λ (fs : List Finding). old
          ++ flat_map (λ f. kind_line (count_in counts f) (finding_row f).kind) fs) c.every_finding.ensures,
      (
        c.push_dump_kinds.new.lines.items,
        c.in_ok-push_dump_kinds.ensures,
        (
          c.push_prefix_kind.new.lines.items,
          c.in_ok-push_prefix_kind.ensures,
          (
            c.push_prefix_kind-2.new.lines.items,
            c.in_ok-push_prefix_kind-2.ensures,
            (c.push_ending_kind.new.lines.items, is, refl),
          ),
        ),
      ),
    ) ∙ ap (λ e. old ++ (node ++ (dump ++ (not_canonical ++ (idle ++ e))))) (append-nil ending)) c.push_ending_kind.ensures
