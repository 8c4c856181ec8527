-- What comes back by a copy is at its returns, or below them.
use Rattle.dump_trees.proofs.Prelude.{◌≡◌, not, refl, sym, ap, ap₂, ◌∙◌, subst, append_assoc, and_parts, and_from, not-true, not_from_false, Settings, NodePath, keeps, Tree, Made, Change, History}
use Rattle.std.proofs.Common.{true, false, ◌&&◌, List, [], ◌∷◌, ◌++◌, Some, is_some, Contains}
use Rattle.dump_trees.specs.Siblings.{is_within, has_node_names}
use Rattle.dump_trees.specs.steps.ComingBack.{ComesBack}
use Rattle.dump_trees.specs.Returns.{is_covered}
use Rattle.dump_trees.specs.steps.Returns.{rests_covered, returns, IsCopyOver, ReturnsTellAll}
use Rattle.dump_trees.proofs.paths.SiblingLemmas.{rest_names, both_names, excluded_match, within_found}
use Rattle.dump_trees.proofs.cuts.CoveredPaths.{contains_none, filter_there, filter_passed, filter_has, exists_above, uncovered_above, rests_there, rests_above, no_elements}
use Rattle.std.proofs.lemmas.Bool.{not-false}

module _ (settings : Settings) (excluded : List NodePath) (history : History) (old : Tree) (c : Change) (source : NodePath)
    (over : IsCopyOver settings excluded history old c source) where
  -- what comes back, in this tree
  record IsBackAt (rest : NodePath) : Type 0 where
    exists : is_some (old (source ++ rest)) ≡ true
    kept : is_covered excluded (c.path ++ rest) ≡ false
    left : is_covered excluded (source ++ rest) ≡ true

  rest_named : (rest : NodePath) → is_some (old (source ++ rest)) ≡ true → has_node_names rest ≡ true
  rest_named rest exists = rest_names source rest (over.named (source ++ rest) exists)

  is_back : (rest : NodePath) → IsBackAt rest → (back : ComesBack settings history c) × (back.rest ≡ rest)
  is_back rest at = (
    record {
      number = over.number;
      source = source;
      old = old;
      rest = rest;
      copies = over.copies;
      there = over.there;
      stands = at.exists;
      kept = excluded_match settings excluded (c.path ++ rest) over.excludes over.names
          (both_names c.path rest over.path (rest_named rest at.exists))
          ∙ not_from_false _ at.kept;
      left = excluded_match settings excluded (source ++ rest) over.excludes over.names
          (over.named (source ++ rest) at.exists)
          ∙ ap not at.left;
    },
    refl,
  )

  back_at : (back : ComesBack settings history c) → IsBackAt back.rest
  back_at back = record {
    exists = exists;
    kept = not-true _ (sym (excluded_match settings excluded (c.path ++ back.rest) over.excludes over.names
        (both_names c.path back.rest over.path (rest_named back.rest exists))) ∙ back.kept);
    left = not-false (is_covered excluded (source ++ back.rest))
        (sym (excluded_match settings excluded (source ++ back.rest) over.excludes over.names
        (over.named (source ++ back.rest) exists))
        ∙ subst (λ s. keeps settings (s ++ back.rest) ≡ false) two back.left);
  }
    where
      one : back.number ≡ over.number
      one = (let both : Some (Made.Copied over.number source) ≡ Some (Made.Copied back.number back.source)
          = sym over.copies ∙ back.copies in cc)

      two : back.source ≡ source
      two = (let both : Some (Made.Copied over.number source) ≡ Some (Made.Copied back.number back.source)
          = sym over.copies ∙ back.copies in cc)

      three : back.old ≡ old
      three = (let both : Some old ≡ Some back.old = sym over.there ∙ (ap history (sym one) ∙ back.there) in cc)

      exists : is_some (old (source ++ back.rest)) ≡ true
      exists = sym (ap₂ (λ (t : Tree) s. is_some (t (s ++ back.rest))) three two) ∙ back.stands

  -- what is listed comes back
  listed_back : (rest : NodePath) → Contains (returns excluded old c.path source) rest → IsBackAt rest
  listed_back rest there =
      let parts = and_parts (is_some (old (source ++ rest))) (not (is_covered excluded (c.path ++ rest)))
      (filter_passed (λ r. is_some (old (source ++ r)) && not (is_covered excluded (c.path ++ r)))
      (rests_covered source excluded) rest there) in
      record {
        exists = parts.0;
        kept = not-true _ parts.1;
        left = rests_there source excluded rest
            (filter_there (λ r. is_some (old (source ++ r)) && not (is_covered excluded (c.path ++ r)))
            (rests_covered source excluded) rest there);
      }

  -- what comes back is at a listed rest or below one
  back_listed : (rest : NodePath) → IsBackAt rest
      → (first : NodePath) × (more : NodePath) × Contains (returns excluded old c.path source) first × (rest ≡ first ++ more)
  back_listed rest back =
      let (first, more, there, same) = rests_above source excluded rest back.left in (
        first,
        more,
        filter_has (λ r. is_some (old (source ++ r)) && not (is_covered excluded (c.path ++ r)))
            (rests_covered source excluded) first there
            (and_from (is_some (old (source ++ first))) (not (is_covered excluded (c.path ++ first)))
            (exists_above old over.directories (source ++ first) more
            (subst (λ p. is_some (old p) ≡ true)
            (ap (λ r. source ++ r) same ∙ sym (append_assoc source first more)) back.exists))
            (not_from_false _ (uncovered_above excluded (c.path ++ first) more
            (subst (λ p. is_covered excluded p ≡ false)
            (ap (λ r. c.path ++ r) same ∙ sym (append_assoc c.path first more)) back.kept)))),
        same,
      )

  tell_all :
      ((back : ComesBack settings history c) → (rest : NodePath)
      × Contains (returns excluded old c.path source) rest × (is_within rest back.rest ≡ true))
      × ((rest : NodePath) → Contains (returns excluded old c.path source) rest
      → (back : ComesBack settings history c) × (back.rest ≡ rest))
      × (returns excluded old c.path source ≡ [] → ComesBack settings history c → ⊥)
      × ((ComesBack settings history c → ⊥) → returns excluded old c.path source ≡ [])
  tell_all = (
    λ back.
        let (first, more, there, same) = back_listed back.rest (back_at back) in
        (first, there, subst (λ r. is_within first r ≡ true) (sym same) (within_found first more)),
    λ rest there. is_back rest (listed_back rest there),
    λ none back.
        let (first, more, there, same) = back_listed back.rest (back_at back) in
        contains_none first (subst (λ rs. Contains rs first) none there),
    λ never. no_elements (returns excluded old c.path source) (λ rest there. never (is_back rest (listed_back rest there)).0),
  )

pub returns_tell_all : ReturnsTellAll
returns_tell_all settings excluded history old c source over = tell_all settings excluded history old c source over
