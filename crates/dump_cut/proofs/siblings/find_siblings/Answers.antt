use Rattle.std.proofs.Common.{◌≡◌, true, ◌∙◌, ap, subst, take}
use Rattle.std.proofs.lemmas.List.{take_all}
use Rattle.dump_rules.specs.Prefix.{bare_path}
use Rattle.dump_trees.specs.Paths.{names_of, path_text}
use Rattle.dump_trees.specs.steps.Siblings.{is_above_included}
use Rattle.dump_index.specs.steps.Children.{is_child_named}
use Rattle.dump_index.specs.steps.Names.{texts_of}
use Rattle.dump_cut.specs.steps.ExcludedPaths.{paths_of}
use Rattle.dump_cut.specs.steps.MoreSiblings.{CoversSiblingsIn}
use Rattle.dump_cut.proofs.FoundSiblings.{above_at, above_named, one_more, sibling_covered, spelled}
use Rattle.dump_cut.proofs.siblings.find_siblings.Goals as goal

pub add_siblings-requires-clause-above : goal.add_siblings-requires-clause-above
add_siblings-requires-clause-above c =
    above_at c.args.included.now c.deref-directory-items.result.now (λ directory.
    ap (λ items. is_child_named (texts_of items) directory) c.deref-directory-items.ensures.value
    ∙ c.in_ok-directories_above.ensures.above directory) c.loop-directory.directory-index _ c.loop-directory-test.true

pub add_siblings-requires-clause-directory : goal.add_siblings-requires-clause-directory
add_siblings-requires-clause-directory c =
    above_named (paths_of c.args.included.now) _ c.in_ok-directories_above.ensures.named
    (above_at c.args.included.now c.deref-directory-items.result.now (λ directory.
    ap (λ items. is_child_named (texts_of items) directory) c.deref-directory-items.ensures.value
    ∙ c.in_ok-directories_above.ensures.above directory) c.loop-directory.directory-index _ c.loop-directory-test.true)

pub loop-directory-preserved : goal.loop-directory-preserved
loop-directory-preserved c = record {
  each = c.in_ok-add_siblings.ensures.more.each c.loop-directory.invariant.each;
  covered =
      one_more (λ directory. CoversSiblingsIn c.args.index.now (paths_of c.args.included.now) (names_of directory) (paths_of c.add_siblings.new.siblings))
      c.deref-directory-items.result.now c.loop-directory.directory-index _ c.loop-directory-test.true
      (λ directory is name can sibling.
      c.in_ok-add_siblings.ensures.more.kept _ (c.loop-directory.invariant.covered directory is name can sibling))
      c.in_ok-add_siblings.ensures.covered;
}

pub returns : goal.returns
returns c = record {
  each = c.loop-directory.invariant.each;
  all = λ path name above can sibling.
      let included = paths_of c.args.included.now in
      let directory = bare_path (path_text path) in
      let same = spelled path (above_named included path c.in_ok-directories_above.ensures.named above) in
      let there : is_child_named (texts_of (take c.loop-directory.directory-index c.deref-directory-items.result.now)) directory ≡ true =
      ap (λ items. is_child_named (texts_of items) directory)
      (take_all c.loop-directory.directory-index c.deref-directory-items.result.now c.loop-directory-test.false
      ∙ c.deref-directory-items.ensures.value)
      ∙ (c.in_ok-directories_above.ensures.above directory ∙ (ap (is_above_included included) same ∙ above)) in
      sibling_covered included (paths_of c.loop-directory.siblings) _ c.loop-directory.invariant.each sibling
      (subst (λ p. CoversSiblingsIn c.args.index.now included p (paths_of c.loop-directory.siblings)) same
      (c.loop-directory.invariant.covered directory there) name can sibling);
}
