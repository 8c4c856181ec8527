use Rattle.dump_cut.specs.steps.ExcludedPaths.{paths_of}
use Rattle.dump_cut.proofs.NamedSiblings.{found_more}
use Rattle.cut_cli.proofs.examine.leave_included.Goals as goal

pub returns : goal.returns
returns g c = record {
  included = paths_of c.in_ok-included.included;
  follows = c.in_ok-included.ensures;
  are_siblings = found_more c.args.index.now (paths_of c.in_ok-included.included) (paths_of c.in_ok-siblings.siblings)
      (paths_of c.add_named_siblings.new.siblings) c.in_ok-siblings.ensures c.in_ok-add_named_siblings.ensures.more;
  cover_mergeinfo = c.in_ok-add_named_siblings.ensures.covered;
}
