use Rattle.std.proofs.Common.{◌≡◌, ◌∙◌, ◌++◌, ◌∷◌, [], true, false, List, ap, append_assoc, append-nil, inr, map, refl, subst, sym}
use Rattle.dump_text.specs.PropertyList.{Property}
use Rattle.dump_text.specs.steps.PropertyViews.{entry_property}
use Rattle.dump_text.proofs.PropertyLemmas.{entry_parts, left_of, property_block_once}
use Rattle.std.specs.Prelude.{bytes_eq, is_some}
use Rattle.std.proofs.lemmas.Bool.{and_parts}
use Rattle.dump_digest.specs.RecordParts.{is_mergeinfo, mergeinfo_name, value_of}
use Rattle.dump_trees.specs.Paths.{names_of}
use Rattle.dump_cut.specs.steps.MergePaths.{AddsPaths, IsInProperties, IsInValue}
use Rattle.dump_cut.proofs.MergePathLemmas.{added_same, entry_value, no_properties, none_added, property_added}
use Rattle.dump_cut.proofs.mergeinfo_paths.add_properties.Goals as goal

pub loop-entry-init : goal.loop-entry-init
loop-entry-init c = (
  tt,
  tt,
  λ ps is. (
    [],
    ps,
    refl,
    c.entries-entries.ensures.properties ps is,
    none_added (map (λ path. names_of path.items) c.args.paths.now.keys) (IsInProperties []) no_properties,
  ),
)

pub loop-entry-preserved-in-Continue-1 : goal.loop-entry-preserved-in-Continue-1
loop-entry-preserved-in-Continue-1 c =
    let first = map (λ path. names_of path.items) c.args.paths.now.keys in
    let old = map (λ path. names_of path.items) c.loop-entry.paths.keys in
    let new = map (λ path. names_of path.items) c.add_value.new.paths.keys in
    let p = entry_property c.in-Some.entry in
    let merges = sym c.is_mergeinfo.ensures ∙ c.if-is_mergeinfo.true in
    let value = entry_value c.in-Some.entry.gone c.in-Some.entry.value.now
    (and_parts (bytes_eq p.name mergeinfo_name) (is_some p.value) merges).1 in
    let (text, cut, one) = c.in-Some.ensures.steps in (
      tt,
      tt,
      λ ps is.
          let (done, others, all, here, adds) = c.loop-entry.invariant.2 ps is in
          let left = left_of _ p _ others (entry_parts _ text _ p cut one) here in (
            done ++ p ∷ [],
            left.others,
            all ∙ (ap (λ (qs : List Property). done ++ qs) left.list ∙ sym (append_assoc done (p ∷ []) left.others)),
            inr left.entries,
            property_added first old new done p adds
                (added_same old new (IsInValue c.in-Some.entry.value.now) (λ path. (is_mergeinfo p ≡ true) × IsInValue (value_of p) path)
                c.in_ok-add_value.ensures
                (λ path in_it. subst (λ v. IsInValue v path) (sym value) in_it.1)
                (λ path in_it. (merges, subst (λ v. IsInValue v path) value in_it))),
          ),
    )

pub loop-entry-preserved : goal.loop-entry-preserved
loop-entry-preserved c =
    let first = map (λ path. names_of path.items) c.args.paths.now.keys in
    let old = map (λ path. names_of path.items) c.loop-entry.paths.keys in
    let p = entry_property c.in-Some.entry in
    let (text, cut, one) = c.in-Some.ensures.steps in (
      tt,
      tt,
      λ ps is.
          let (done, others, all, here, adds) = c.loop-entry.invariant.2 ps is in
          let left = left_of _ p _ others (entry_parts _ text _ p cut one) here in (
            done ++ p ∷ [],
            left.others,
            all ∙ (ap (λ (qs : List Property). done ++ qs) left.list ∙ sym (append_assoc done (p ∷ []) left.others)),
            inr left.entries,
            property_added first old old done p adds
                (none_added old (λ path. (is_mergeinfo p ≡ true) × IsInValue (value_of p) path) (λ path in_it.
                absurd (let bad : true ≡ false = sym in_it.0 ∙ (sym c.is_mergeinfo.ensures ∙ c.if-is_mergeinfo.false) in cc))),
          ),
    )

pub returns : goal.returns
returns c = λ ps is.
    let (done, others, all, here, adds) = c.loop-entry.invariant.2 ps is in
    let none : others ≡ [] = property_block_once _ others [] here c.in_default.ensures.steps.0 in
    subst (λ (qs : List Property). AddsPaths (map (λ path. names_of path.items) c.args.paths.now.keys)
    (map (λ path. names_of path.items) c.loop-entry.paths.keys) (IsInProperties qs))
    (sym (all ∙ (ap (λ (qs : List Property). done ++ qs) none ∙ append-nil done))) adds
