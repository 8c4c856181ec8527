use Rattle.dump_rules.proofs.Prelude.{List, ℕ, ap, ◌∙◌, list_any, map, bare_path, bare_prefix, begins_path, matches_path, Settings}
use Rattle.dump_rules.proofs.PrefixLemmas.{any_mapped}
use Rattle.dump_rules.proofs.options.Options.has_match.Goals as goal

pub returns : goal.returns
returns c =
    let path = c.args.path.now in
    c.begin.ensures
    ∙ ap (λ (p : List ℕ). list_any (λ (prefix : List ℕ). begins_path prefix p) (map bare_prefix c.self.inside.prefixes))
    c.bare_path.ensures
    ∙ any_mapped bare_prefix (λ (prefix : List ℕ). begins_path prefix (bare_path path)) c.self.inside.prefixes
    ∙ ap (λ (s : Settings). list_any (λ (prefix : List ℕ). matches_path prefix path) s.prefixes) c.self.view_is
