use Rattle.dump_survey.proofs.Prelude.{map, subst, sym, arith, Step, prefix_view, reported_view, SurveyStep}
use Rattle.dump_survey.proofs.SurveyLemmas.{HaveReported, node_reported, nothing_reported, node_nearer, other_nearer, all_reported, prefixes_reported}
use Rattle.dump_survey.proofs.findings.survey.survey_dump.Goals as goal

pub loop-reported-smaller-in-Continue-branch-4 : goal.loop-reported-smaller-in-Continue-branch-4
loop-reported-smaller-in-Continue-branch-4 c =
    let step = subst (λ (s : Step). SurveyStep c.loop-reported.surveyor s c.next.new.self) c.in-Node.is c.in_ok-node.ensures in
    let near = node_nearer c.args.options.now c.args.dump.now c.loop-reported.surveyor c.next.new.self
    (map reported_view c.loop-reported.reported.items) c.loop-reported.invariant c.in-Node.node step in
    omega (arith, near.0, near.1)

pub loop-reported-preserved-in-Continue-branch-4 : goal.loop-reported-preserved-in-Continue-branch-4
loop-reported-preserved-in-Continue-branch-4 c =
    let step = subst (λ (s : Step). SurveyStep c.loop-reported.surveyor s c.next.new.self) c.in-Node.is c.in_ok-node.ensures in
    subst (HaveReported c.args.options.now c.args.dump.now c.next.new.self) (sym c.in_ok-report-in-Node.ensures)
    (node_reported c.args.options.now c.args.dump.now c.loop-reported.surveyor c.next.new.self
    (map reported_view c.loop-reported.reported.items) c.loop-reported.invariant c.in-Node.node step)

pub loop-reported-smaller : goal.loop-reported-smaller
loop-reported-smaller c =
    let step = subst (λ (s : Step). SurveyStep c.loop-reported.surveyor s c.next.new.self) c.in-Other.is c.in_ok-node.ensures in
    let near = other_nearer c.args.options.now c.args.dump.now c.loop-reported.surveyor c.next.new.self
    (map reported_view c.loop-reported.reported.items) c.loop-reported.invariant step in
    omega (arith, near.0, near.1)

pub loop-reported-preserved : goal.loop-reported-preserved
loop-reported-preserved c =
    let step = subst (λ (s : Step). SurveyStep c.loop-reported.surveyor s c.next.new.self) c.in-Other.is c.in_ok-node.ensures in
    nothing_reported c.args.options.now c.args.dump.now c.loop-reported.surveyor c.next.new.self
    (map reported_view c.loop-reported.reported.items) c.loop-reported.invariant step

pub returns-in-Finished : goal.returns-in-Finished
returns-in-Finished c =
    let step = subst
    (λ (s : Step). SurveyStep c.loop-reported.surveyor s c.next.new.self) c.in-Finished.is c.in_ok-node.ensures in
    let all = all_reported c.args.options.now c.args.dump.now c.loop-reported.surveyor c.next.new.self
    (map reported_view c.loop-reported.reported.items) c.loop-reported.invariant c.in-Finished.end step in record {
      records = c.loop-reported.invariant.before;
      has = all.0;
      reported = c.loop-reported.invariant.reported;
      found = all.1;
      places = all.2;
      prefixes = prefixes_reported c.args.options.now c.args.dump.now c.loop-reported.surveyor c.next.new.self
          (map reported_view c.loop-reported.reported.items) c.loop-reported.invariant c.in-Finished.end
          (map prefix_view c.in_ok-prefixes-in-Finished.prefixes.items) step c.in_ok-prefixes-in-Finished.ensures;
    }
