use Rattle.dump_survey.proofs.NamedLemmas.{each_cut_names_prefix}
use Rattle.dump_survey.proofs.TieLemmas.{reported_are_findings, reported_once}
use Rattle.dump_survey.proofs.laws.each_report_is_found.Goals as goal

pub returns-clause-found : goal.returns-clause-found
returns-clause-found c = reported_are_findings

pub returns-clause-once : goal.returns-clause-once
returns-clause-once c = reported_once

pub returns-clause-prefixes : goal.returns-clause-prefixes
returns-clause-prefixes c = each_cut_names_prefix
