use Rattle.std.proofs.Common.{◌≡◌, true, [], get_or, not, refl, ◌∙◌, ap, sym, subst}
use Rattle.dump_trees.specs.Paths.{names_of}
use Rattle.dump_trees.specs.Returns.{is_covered}
use Rattle.dump_trees.specs.Siblings.{has_node_names}
use Rattle.dump_trees.specs.steps.Siblings.{is_in_cut, is_sibling}
use Rattle.dump_index.specs.steps.NamesEver.{AreNamesEver}
use Rattle.dump_index.specs.steps.Names.{texts_of}
use Rattle.dump_cut.specs.steps.ExcludedPaths.{IsGrownIf, paths_of}
use Rattle.dump_cut.proofs.FoundSiblings.{AddsChild, adds_none, adds_sibling, child, child_named, child_names, ever_named, one_more}
use Rattle.dump_cut.proofs.ParentLemmas.{ends_named}
use Rattle.dump_cut.proofs.siblings.add_siblings.Goals as goal
use Rattle.dump_cut.proofs.siblings.add_siblings.Goals.{then-not-branch+in_ok-add, else-not-branch}

pub names_ever-requires : goal.names_ever-requires
names_ever-requires c = ends_named c.args.directory.now c.requires.directory

pub add-requires : goal.add-requires
add-requires c =
    let named = ever_named c.args.index.now c.requires.named (names_of c.args.directory.now) c.deref-name-items.result.now
    (subst (λ items. AreNamesEver c.args.index.now (names_of c.args.directory.now) (texts_of items)) (sym c.deref-name-items.ensures.value)
    c.in_ok-names_ever.ensures) c.loop-name.name-index _ c.loop-name-test.true in
    ap (λ path. has_node_names (names_of path)) (c.deref-then-not-branch.ensures.value ∙ c.in_ok-path.ensures)
    ∙ (ap has_node_names (child_names c.args.directory.now _ named) ∙ child_named c.args.directory.now _ c.requires.directory named)

pub loop-name-preserved : goal.loop-name-preserved
loop-name-preserved c =
    let included = paths_of c.args.included.now in
    let directory = c.args.directory.now in
    let items = c.deref-name-items.result.now in
    let name = (get_or items c.loop-name.name-index (record { ref_ptr = (0, 0); now = [] })).now in
    let named = ever_named c.args.index.now c.requires.named (names_of directory) items
    (subst (λ ns. AreNamesEver c.args.index.now (names_of directory) (texts_of ns)) (sym c.deref-name-items.ensures.value)
    c.in_ok-names_ever.ensures) c.loop-name.name-index _ c.loop-name-test.true in
    let spelled = ap names_of c.in_ok-path.ensures ∙ child_names directory name named in
    let asked = ap (is_in_cut included) (sym (ap names_of c.deref.ensures.value ∙ spelled)) ∙ sym c.in_ok-is_in_cut.ensures in
    let adds : AddsChild included (paths_of c.loop-name.siblings) (paths_of c.if-not-branch.siblings) (child directory name) =
    elim c.if-not-branch.branch [
      | then-not-branch+in_ok-add w ↦
          let same = ap names_of w.deref-then-not-branch.ensures.value ∙ spelled in
          subst (λ siblings. AddsChild included (paths_of c.loop-name.siblings) (paths_of siblings) (child directory name)) (sym w.siblings-is)
          (adds_sibling included (paths_of c.loop-name.siblings) (paths_of w.add.new.self) directory name (child directory name)
          w.in_ok-add.field-0 refl (child_named directory name c.requires.directory named) c.requires.above
          (asked ∙ w.if-not-branch.true)
          (w.in_ok-add.ensures.new ∙ ap (λ p. not (is_covered (paths_of c.loop-name.siblings) p)) same)
          (subst (λ p. IsGrownIf (paths_of c.loop-name.siblings) p (paths_of w.add.new.self) w.in_ok-add.field-0) same
          w.in_ok-add.ensures.grown))
      | else-not-branch w ↦
          adds_none included (paths_of c.loop-name.siblings) (paths_of c.if-not-branch.siblings) (child directory name)
          (ap paths_of w.siblings-is) (asked ∙ w.if-not-branch.false)
    ] in
    record {
      each = λ all. adds.each (c.loop-name.invariant.each all);
      kept = λ path is. adds.kept path (c.loop-name.invariant.kept path is);
      covered =
          one_more (λ n. is_sibling included (child directory n) ≡ true → is_covered (paths_of c.if-not-branch.siblings) (child directory n) ≡ true)
          items c.loop-name.name-index _ c.loop-name-test.true
          (λ n is sibling. adds.kept (child directory n) (c.loop-name.invariant.covered n is sibling)) adds.own;
    }
