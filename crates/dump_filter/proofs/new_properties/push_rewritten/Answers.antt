use Rattle.dump_filter.proofs.Prelude.{List, ℕ, sym, ◌∙◌, subst, entry_property, IsNewMergeinfo, property_of, entry_value}
use Rattle.dump_filter.proofs.written.PropertyOutput.{unchanged, with_new_value}
use Rattle.dump_filter.proofs.new_properties.push_rewritten.Goals as goal

pub returns-then-not-is_mergeinfo : goal.returns-then-not-is_mergeinfo
returns-then-not-is_mergeinfo c =
    let p = entry_property c.args.entry.now in (
      p,
      unchanged c.args.options.now c.args.kept.now p (sym c.is_mergeinfo.ensures ∙ c.if-not-is_mergeinfo.true),
      c.in_ok-push_entry.ensures,
    )

pub returns-in_ok-push_property-in-Ok : goal.returns-in_ok-push_property-in-Ok
returns-in_ok-push_property-in-Ok c =
    let p = entry_property c.args.entry.now in
    let named = sym c.is_mergeinfo.ensures ∙ c.if-not-is_mergeinfo.false in (
      property_of p.name c.deref.result.now,
      with_new_value c.args.options.now c.args.kept.now p c.deref.result.now named
          (subst (λ (v : List ℕ). IsNewMergeinfo c.args.options.now c.args.kept.now v c.deref.result.now)
          (sym (entry_value c.args.entry.now))
          (subst (IsNewMergeinfo c.args.options.now c.args.kept.now c.args.entry.now.value.now)
          (sym c.deref.ensures.value) c.in-Ok.ensures)),
      c.in_ok-push_property-in-Ok.ensures,
    )
