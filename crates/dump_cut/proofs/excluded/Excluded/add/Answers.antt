use Rattle.std.proofs.Common.{◌≡◌, [], map, not, filter, ◌==◌, false, rules, refl, sym, ap, subst, ◌∙◌}
use Rattle.std.proofs.lemmas.Fn.{filter_same}
use Rattle.dump_trees.specs.steps.Following.{IsGrown}
use Rattle.dump_trees.specs.Paths.{names_of}
use Rattle.dump_trees.specs.Returns.{is_covered}
use Rattle.dump_cut.specs.steps.ExcludedPaths.{paths_of}
use Rattle.dump_cut.specs.steps.ExcludedTexts.{is_text_below, texts_below}
use Rattle.dump_cut.proofs.GrowingLemmas.{grown_excluded, grown_texts, same_texts}
use Rattle.dump_cut.proofs.RangeLemmas.{empty_list, filter_items}
use Rattle.dump_cut.proofs.excluded.Excluded.add.Goals as goal

-- the path isn't covered
outside-then : (c : goal.After-retain)
    → is_covered (paths_of (map (λ path. path.items) c.self.inside.paths.keys)) (names_of c.args.path.now) ≡ false
outside-then c =
    ap (λ texts. is_covered (paths_of texts) (names_of c.args.path.now)) c.self.view_is ∙ (sym c.covers.ensures ∙ c.if-covers.false)

outside-else : (c : goal.Else-has_some_below)
    → is_covered (paths_of (map (λ path. path.items) c.self.inside.paths.keys)) (names_of c.args.path.now) ≡ false
outside-else c =
    ap (λ texts. is_covered (paths_of texts) (names_of c.args.path.now)) c.self.view_is ∙ (sym c.covers.ensures ∙ c.if-covers.false)

-- it is among the others, without those below it
grown-then : (c : goal.After-retain)
    → IsGrown (paths_of (map (λ path. path.items) c.self.inside.paths.keys)) (names_of c.args.path.now)
    (paths_of (map (λ path. path.items) c.retain.new.self.keys))
grown-then c =
    let left : c.retain.new.self.keys ≡ filter (λ k. not (is_text_below c.args.path.now k.items)) c.insert.new.self.keys =
    filter_same _ _ _ (λ x b f' k. search rules) _ _ c.retain.ensures.filtered in
    grown_texts (λ path. path.items) c.in_ok-copy.copy c.self.inside.paths.keys c.args.path.now
    (map (λ path. path.items) c.retain.new.self.keys) c.in_ok-copy.ensures.items (outside-then c)
    (ap (map (λ path. path.items)) left
    ∙ (filter_items (λ path. path.items) (λ k. not (is_text_below c.args.path.now k.items))
    (λ text. not (is_text_below c.args.path.now text)) (λ k. refl) c.insert.new.self.keys
    ∙ ap (λ keys. filter (λ text. not (is_text_below c.args.path.now text)) (map (λ path. path.items) keys))
    c.in_ok-insert.ensures.keys))

grown-else : (c : goal.Else-has_some_below)
    → IsGrown (paths_of (map (λ path. path.items) c.self.inside.paths.keys)) (names_of c.args.path.now)
    (paths_of (map (λ path. path.items) c.insert.new.self.keys))
grown-else c =
    let none : texts_below c.args.path.now (map (λ path. path.items) c.self.inside.paths.keys) ≡ [] =
    ap (texts_below c.args.path.now) c.self.view_is
    ∙ (sym c.in_ok-below.ensures.rests
    ∙ ap (map (λ rest. rest.now)) (empty_list c.in_ok-below.field-0.items (sym (ap (λ n. n == 0) c.in_ok-below.field-0.ok.0) ∙ sym c.if-has_some_below.ensures))) in
    grown_texts (λ path. path.items) c.in_ok-copy.copy c.self.inside.paths.keys c.args.path.now
    (map (λ path. path.items) c.insert.new.self.keys) c.in_ok-copy.ensures.items (outside-else c)
    (ap (map (λ path. path.items)) c.in_ok-insert.ensures.keys
    ∙ same_texts (λ path. path.items) c.in_ok-copy.copy c.self.inside.paths.keys c.args.path.now c.in_ok-copy.ensures.items
    (outside-else c) none)

pub invariant_of-self-then-has_some_below : goal.invariant_of-self-then-has_some_below
invariant_of-self-then-has_some_below c =
    grown_excluded (map (λ path. path.items) c.self.inside.paths.keys) (map (λ path. path.items) c.retain.new.self.keys)
    c.args.path.now c.self.invariant c.requires (outside-then c) (grown-then c)

pub invariant_of-self-else-has_some_below : goal.invariant_of-self-else-has_some_below
invariant_of-self-else-has_some_below c =
    grown_excluded (map (λ path. path.items) c.self.inside.paths.keys) (map (λ path. path.items) c.insert.new.self.keys)
    c.args.path.now c.self.invariant c.requires (outside-else c) (grown-else c)

pub returns-then-has_some_below-clause-grown : goal.returns-then-has_some_below-clause-grown
returns-then-has_some_below-clause-grown c =
    subst (λ old. IsGrown (paths_of old) (names_of c.args.path.now) (paths_of (map (λ path. path.items) c.retain.new.self.keys)))
    c.self.view_is (grown-then c)

pub returns-else-has_some_below-clause-grown : goal.returns-else-has_some_below-clause-grown
returns-else-has_some_below-clause-grown c =
    subst (λ old. IsGrown (paths_of old) (names_of c.args.path.now) (paths_of (map (λ path. path.items) c.insert.new.self.keys)))
    c.self.view_is (grown-else c)
