use Rattle.dump_survey.proofs.Prelude.{◌≡◌, ◌||◌, Bool, true, false, List, ℕ, map, refl, sym, ap, ◌∙◌, subst, list_any, bare_path, begins_path, Grown, grown_prefixes, is_matched}
use Rattle.dump_survey.proofs.GrowingPrefixLemmas.{grown_matches}
use Rattle.dump_survey.proofs.advice.growing_prefixes.GrowingPrefixes.matches.Goals as goal

pub returns-then-has_match : goal.returns-then-has_match
returns-then-has_match c =
    let path = c.args.path.now in
    let seen : Grown = record { given = c.self.inside.options.now.prefixes; added = map (λ item. item.now) c.self.inside.added.items } in
    let all = grown_matches seen c.self.inside.added.items c.self.inside.set path c.self.invariant refl in
    let here : is_matched c.self.inside.options.now.prefixes path ≡ true = sym c.has_match.ensures ∙ c.if-has_match.true in
    subst (λ (g : Grown). c.has_match.result ≡ is_matched (grown_prefixes g) path) c.self.view_is
    (c.if-has_match.true ∙ (sym (ap (λ (b : Bool). b || list_any (λ prefix. begins_path prefix (bare_path path)) c.self.inside.set) here)
    ∙ all))

pub returns-else-has_match : goal.returns-else-has_match
returns-else-has_match c =
    let path = c.args.path.now in
    let seen : Grown = record { given = c.self.inside.options.now.prefixes; added = map (λ item. item.now) c.self.inside.added.items } in
    let all = grown_matches seen c.self.inside.added.items c.self.inside.set path c.self.invariant refl in
    let here : is_matched c.self.inside.options.now.prefixes path ≡ false = sym c.has_match.ensures ∙ c.if-has_match.false in
    subst (λ (g : Grown). c.begin.result ≡ is_matched (grown_prefixes g) path) c.self.view_is
    (c.begin.ensures ∙ (ap (λ (p : List ℕ). list_any (λ prefix. begins_path prefix p) c.self.inside.set) c.bare_path.ensures
    ∙ (sym (ap (λ (b : Bool). b || list_any (λ prefix. begins_path prefix (bare_path path)) c.self.inside.set) here)
    ∙ all)))
