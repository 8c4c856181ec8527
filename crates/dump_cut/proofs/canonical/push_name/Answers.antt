use Rattle.std.proofs.Common.{◌==◌, ◌++◌, ap, sym, ◌∙◌}
use Rattle.dump_trees.specs.Paths.{names_of}
use Rattle.dump_cut.proofs.NameTextLemmas.{first_pushed, next_pushed}
use Rattle.dump_cut.proofs.canonical.push_name.Goals as goal
use Rattle.dump_cut.proofs.canonical.push_name.Goals.{then-not-is_empty+in_ok-push, else-not-is_empty}

pub returns : goal.returns
returns c =
    ap names_of c.in_ok-extend_from_slice.ensures.items
    ∙ elim c.if-not-is_empty.branch [
      | then-not-is_empty+in_ok-push w ↦
          ap (λ t. names_of (t ++ c.args.name.now)) (ap (λ v. v.items) w.text-is ∙ w.in_ok-push.ensures.items)
          ∙ next_pushed c.args.text.now.items c.args.name.now (sym (ap (λ n. n == 0) c.args.text.now.ok.0) ∙ sym c.is_empty.ensures ∙ w.if-not-is_empty.true) c.requires
      | else-not-is_empty w ↦
          ap (λ t. names_of (t ++ c.args.name.now)) (ap (λ v. v.items) w.text-is)
          ∙ first_pushed c.args.text.now.items c.args.name.now (sym (ap (λ n. n == 0) c.args.text.now.ok.0) ∙ sym c.is_empty.ensures ∙ w.if-not-is_empty.false) c.requires
    ]
