-- The directories to create are the parent directories.
use Rattle.dump_survey.proofs.Prelude.{◌≡◌, ℕ, Bool, true, false, not, ◌&&◌, ◌||◌, ◌==◌, List, [], ◌∷◌, ◌++◌, map, flat_map, nat_eq, bytes_eq, reverse, if◌then◌else◌, refl, sym, ap, ap₂, ◌∙◌, inl, inr, Bor, Vec, Global, Result, Ok, Err, list_any, starts_with, eqb-true, or_cases, reverse-append, reverse-reverse, list_any-append, bytes_eq-Decides, Side, Include, Exclude, bare_prefix, begins_path, without_leading_slashes, without_trailing_slashes, Settings, keeps_path, side_keeps, NodePath, path_text, is_above_some, is_root, Memory, AreParentsToCreate, each_once, fronts, left_above, paths_above, with_new}
use Rattle.std.proofs.Common.{IfOk}
use Rattle.dump_survey.proofs.ParentLemmas.{any_pushed, left_of, swapped, twice}
use Rattle.dump_trees.proofs.paths.KeptPaths.{eq_sym}
use Rattle.std.proofs.Math.Bool.{and-false, or-false, and-or_distrib_left}

-- a test of texts in a list without duplicates

holds_of_same : (p : List ℕ → Bool) (text other : List ℕ) → bytes_eq text other ≡ true → p text ≡ p other
holds_of_same p text other is = ap p ((bytes_eq-Decides text other).0 is)

among : (p : List ℕ → Bool) (text : List ℕ) (texts : List (List ℕ))
    → list_any (λ other. bytes_eq text other) texts ≡ true → list_any p texts ≡ (p text || list_any p texts)
among p text [] known = absurd (let bad : false ≡ true = known in cc)
among p text (t ∷ texts) known =
    elim (or_cases (bytes_eq text t) (list_any (λ other. bytes_eq text other) texts) known) [
      | inl here ↦ ap (λ b. b || list_any p texts) (sym (holds_of_same p text t here)) ∙ (twice (p text) (list_any p texts)
          ∙ ap (λ b. p text || (b || list_any p texts)) (holds_of_same p text t here))
      | inr there ↦ ap (λ b. p t || b) (among p text texts there) ∙ swapped (p t) (p text) (list_any p texts)
    ]

any_new : (p : List ℕ → Bool) (texts : List (List ℕ)) (text : List ℕ)
    → list_any p (with_new texts text) ≡ (p text || list_any p texts)
any_new p texts text = cases (list_any (λ other. bytes_eq text other) texts) refl
  where
    cases : (b : Bool) → list_any (λ other. bytes_eq text other) texts ≡ b
        → list_any p (if b then texts else texts ++ text ∷ []) ≡ (p text || list_any p texts)
    cases true known = among p text texts known
    cases false new = any_pushed p texts text

any_once : (p : List ℕ → Bool) (first texts : List (List ℕ))
    → list_any p (each_once first texts) ≡ (list_any p first || list_any p texts)
any_once p first [] = sym (or-false (list_any p first))
any_once p first (text ∷ texts) =
    any_once p (with_new first text) texts
    ∙ (ap (λ b. b || list_any p texts) (any_new p first text)
    ∙ turned (p text) (list_any p first) (list_any p texts))
  where
    turned : (a b c : Bool) → ((a || b) || c) ≡ (b || (a || c))
    turned true true c = refl
    turned true false c = refl
    turned false b c = refl

-- whether a text is one of those that aren't kept
any_left : (settings : Settings) (text : List ℕ) (texts : List (List ℕ))
    → list_any (λ other. bytes_eq other text) (left_of settings texts)
    ≡ (not (keeps_path settings text) && list_any (λ other. bytes_eq other text) texts)
any_left settings text [] = sym (and-false (not (keeps_path settings text)))
any_left settings text (t ∷ texts) = cases (keeps_path settings t) (bytes_eq t text) refl refl (any_left settings text texts)
  where
    rest : Bool
    rest = list_any (λ other. bytes_eq other text) texts

    cases : (k e : Bool) → keeps_path settings t ≡ k → bytes_eq t text ≡ e
        → list_any (λ other. bytes_eq other text) (left_of settings texts) ≡ (not (keeps_path settings text) && rest)
        → list_any (λ other. bytes_eq other text) (if not k then t ∷ left_of settings texts else left_of settings texts)
        ≡ (not (keeps_path settings text) && (e || rest))
    cases true false kept same behind = behind
    cases true true kept same behind =
        behind ∙ (ap (λ k. not k && rest) here ∙ sym (ap (λ k. not k && (true || rest)) here))
      where
        here : keeps_path settings text ≡ true
        here = sym (holds_of_same (keeps_path settings) t text same) ∙ kept
    cases false true left same behind =
        ap (λ e. e || list_any (λ other. bytes_eq other text) (left_of settings texts)) same
        ∙ sym (ap (λ k. not k && (true || rest)) (sym (holds_of_same (keeps_path settings) t text same) ∙ left))
    cases false false left same behind =
        ap (λ e. e || list_any (λ other. bytes_eq other text) (left_of settings texts)) same ∙ behind

-- whether a text is the part of another text before one of its slashes

none_longer : (b : ℕ) (texts : List (List ℕ)) → list_any (λ other. bytes_eq other []) (map (λ front. b ∷ front) texts) ≡ false
none_longer b [] = refl
none_longer b (t ∷ texts) = none_longer b texts

any_longer : (b c : ℕ) (text : List ℕ) (texts : List (List ℕ))
    → list_any (λ other. bytes_eq other (c ∷ text)) (map (λ front. b ∷ front) texts)
    ≡ (nat_eq c b && list_any (λ other. bytes_eq other text) texts)
any_longer b c text [] = sym (and-false (nat_eq c b))
any_longer b c text (t ∷ texts) =
    ap₂ (λ x y. (x && bytes_eq t text) || y) (eq_sym b c) (any_longer b c text texts)
    ∙ sym (and-or_distrib_left (nat_eq c b) (bytes_eq t text) (list_any (λ other. bytes_eq other text) texts))

any_front : (text bare : List ℕ) → list_any (λ other. bytes_eq other text) (fronts bare)
    ≡ starts_with nat_eq bare (text ++ 47 ∷ [])
any_front [] [] = refl
any_front (c ∷ text) [] = refl
any_front [] (b ∷ bare) =
    list_any-append (λ other. bytes_eq other []) (if b == 47 then [] ∷ [] else []) (map (λ front. b ∷ front) (fronts bare))
    ∙ (ap (λ x. list_any (λ other. bytes_eq other []) (if b == 47 then [] ∷ [] else []) || x) (none_longer b (fronts bare))
    ∙ (here (b == 47) ∙ ap (λ t. t && true) (eq_sym b 47)))
  where
    here : (t : Bool) → (list_any (λ other. bytes_eq other []) (if t then [] ∷ [] else []) || false) ≡ (t && true)
    here true = refl
    here false = refl
any_front (c ∷ text) (b ∷ bare) =
    list_any-append (λ other. bytes_eq other (c ∷ text)) (if b == 47 then [] ∷ [] else []) (map (λ front. b ∷ front) (fronts bare))
    ∙ (here (b == 47) (list_any (λ other. bytes_eq other (c ∷ text)) (map (λ front. b ∷ front) (fronts bare)))
    ∙ (any_longer b c text (fronts bare) ∙ ap (λ t. nat_eq c b && t) (any_front text bare)))
  where
    here : (t x : Bool) → (list_any (λ other. bytes_eq other (c ∷ text)) (if t then [] ∷ [] else []) || x) ≡ x
    here true x = refl
    here false x = refl

any_above : (text : List ℕ) (prefixes : List (List ℕ)) → list_any (λ other. bytes_eq other text) (paths_above prefixes)
    ≡ list_any (λ prefix. starts_with nat_eq (bare_prefix prefix) (text ++ 47 ∷ [])) prefixes
any_above text [] = refl
any_above text (prefix ∷ prefixes) =
    list_any-append (λ other. bytes_eq other text) (fronts (bare_prefix prefix)) (paths_above prefixes)
    ∙ ap₂ (λ a b. a || b) (any_front text (bare_prefix prefix)) (any_above text prefixes)

-- a bare prefix doesn't begin with a slash

slashes_before : (text : List ℕ) → (slashes : List ℕ) × (slashes ++ without_leading_slashes text ≡ text)
slashes_before [] = ([], refl)
slashes_before (b ∷ text) = cases (b == 47) (slashes_before text)
  where
    cases : (t : Bool) → (slashes : List ℕ) × (slashes ++ without_leading_slashes text ≡ text)
        → (slashes : List ℕ) × (slashes ++ (if t then without_leading_slashes text else b ∷ text) ≡ b ∷ text)
    cases true (slashes, same) = (b ∷ slashes, ap (λ t. b ∷ t) same)
    cases false _ = ([], refl)

slashes_behind : (text : List ℕ) → (slashes : List ℕ) × (text ≡ without_trailing_slashes text ++ slashes)
slashes_behind text =
    let (slashes, same) = slashes_before (reverse text) in (
      reverse slashes,
      sym (reverse-reverse text) ∙ (ap reverse (sym same) ∙ reverse-append slashes (without_leading_slashes (reverse text))),
    )

no_slash : (text rest : List ℕ) → without_leading_slashes text ≡ 47 ∷ rest → ⊥
no_slash [] rest is = let bad : [] ≡ 47 ∷ rest = is in cc
no_slash (b ∷ text) rest is = cases (no_slash text rest) (b == 47) refl is
  where
    cases : (without_leading_slashes text ≡ 47 ∷ rest → ⊥) → (t : Bool) → (b == 47) ≡ t → (if t then without_leading_slashes text else b ∷ text) ≡ 47 ∷ rest → ⊥
    cases none true slash is = none is
    cases none false other is =
        let same : b ≡ 47 = (let both : b ∷ text ≡ 47 ∷ rest = is in cc) in
        let bad : false ≡ true = sym other ∙ ap (λ n. n == 47) same in
        cc

starts_without : (prefix rest : List ℕ) → starts_with nat_eq (bare_prefix prefix) (47 ∷ rest) ≡ false
starts_without prefix rest = cases (bare_prefix prefix) refl
  where
    trimmed : List ℕ
    trimmed = without_leading_slashes prefix

    cases : (bare : List ℕ) → bare_prefix prefix ≡ bare → starts_with nat_eq bare (47 ∷ rest) ≡ false
    cases [] is = refl
    cases (b ∷ bare) is = at (nat_eq 47 b) refl
      where
        at : (t : Bool) → nat_eq 47 b ≡ t → (t && starts_with nat_eq bare rest) ≡ false
        at false other = refl
        at true slash =
            let (slashes, whole) = slashes_behind trimmed in
            let first : bare_prefix prefix ≡ 47 ∷ bare = is ∙ ap (λ n. n ∷ bare) (sym (eqb-true 47 b slash)) in
            absurd (no_slash prefix (bare ++ slashes) (whole ∙ ap (λ t. t ++ slashes) first))

none_above : (rest : List ℕ) (prefixes : List (List ℕ))
    → list_any (λ prefix. starts_with nat_eq (bare_prefix prefix) (47 ∷ rest)) prefixes ≡ false
none_above rest [] = refl
none_above rest (prefix ∷ prefixes) = ap₂ (λ a b. a || b) (starts_without prefix rest) (none_above rest prefixes)

no_and : (a b c : Bool) → c ≡ false → (a && c) ≡ (b && c)
no_and true true c none = refl
no_and false false c none = refl
no_and true false c none = none
no_and false true c none = sym none

-- so whether a path above a prefix is kept doesn't depend on a slash in front of it
kept_alike : (settings : Settings) (text : List ℕ)
    → (not (keeps_path settings (47 ∷ text))
    && list_any (λ prefix. starts_with nat_eq (bare_prefix prefix) (text ++ 47 ∷ [])) settings.prefixes)
    ≡ (not (keeps_path settings text)
    && list_any (λ prefix. starts_with nat_eq (bare_prefix prefix) (text ++ 47 ∷ [])) settings.prefixes)
kept_alike settings [] = no_and (not (keeps_path settings (47 ∷ []))) (not (keeps_path settings [])) _
    (none_above [] settings.prefixes)
kept_alike settings (b ∷ text) = at (b == 47) refl
  where
    above : Bool
    above = list_any (λ prefix. starts_with nat_eq (bare_prefix prefix) ((b ∷ text) ++ 47 ∷ [])) settings.prefixes

    kept_as : Bool → Bool
    kept_as t = side_keeps settings.side
        (list_any (λ prefix. begins_path (bare_prefix prefix) (if t then text else b ∷ text)) settings.prefixes)

    at : (t : Bool) → (b == 47) ≡ t → (not (keeps_path settings (47 ∷ b ∷ text)) && above) ≡ (not (kept_as t) && above)
    at false other = refl
    at true slash = no_and (not (keeps_path settings (47 ∷ b ∷ text))) (not (kept_as true)) above
        (ap (λ n. list_any (λ prefix. starts_with nat_eq (bare_prefix prefix) ((n ∷ text) ++ 47 ∷ [])) settings.prefixes)
        (eqb-true b 47 slash) ∙ none_above (text ++ 47 ∷ []) settings.prefixes)

-- under include, the paths above the prefixes that aren't kept are the parent directories
included : (settings : Settings) (text : List ℕ)
    → (not (keeps_path settings (47 ∷ text))
    && list_any (λ prefix. starts_with nat_eq (bare_prefix prefix) (text ++ 47 ∷ [])) settings.prefixes)
    ≡ list_any (λ directory. bytes_eq directory text) (each_once [] (left_of settings (paths_above settings.prefixes)))
included settings text =
    kept_alike settings text
    ∙ (ap (λ b. not (keeps_path settings text) && b) (sym (any_above text settings.prefixes))
    ∙ (sym (any_left settings text (paths_above settings.prefixes))
    ∙ sym (any_once (λ directory. bytes_eq directory text) [] (left_of settings (paths_above settings.prefixes)))))

given_is : (side : Side) (settings : Settings) (path : NodePath)
    → (is_root path || (not (keeps_path settings (path_text path)) && is_above_some side settings.prefixes path))
    ≡ (is_root path || list_any (λ directory. bytes_eq (47 ∷ directory) (path_text path)) (left_above side settings))
given_is side settings [] = refl
given_is Include settings (name ∷ path) = included settings (name ++ path_text path)
given_is Exclude settings (name ∷ path) = and-false (not (keeps_path settings (path_text (name ∷ path))))

-- these are the directories to create
pub are_parents_to_create : (settings : Settings) (directories : List (List ℕ)) → directories ≡ left_above settings.side settings
    → AreParentsToCreate settings directories
are_parents_to_create settings directories same = record {
  are_given = λ path. given_is settings.side settings path
      ∙ ap (λ fs. is_root path || list_any (λ directory. bytes_eq (47 ∷ directory) (path_text path)) fs) (sym same);
  in_order = same;
}

made_above : (prefixes : List (List ℕ)) → flat_map fronts (map bare_prefix prefixes) ≡ paths_above prefixes
made_above [] = refl
made_above (prefix ∷ prefixes) = ap (λ l. fronts (bare_prefix prefix) ++ l) (made_above prefixes)

pub made_if_ok : (settings : Settings) (bare : List (Bor (List ℕ))) (r : Result (Vec (Bor (List ℕ)) Global) Memory)
    → settings.side ≡ Include → map (λ b. b.now) bare ≡ map bare_prefix settings.prefixes
    → IfOk r (λ paths. map (λ path. path.now) paths.items
    ≡ each_once [] (left_of settings (flat_map fronts (map (λ b. b.now) bare))))
    → IfOk r (λ paths. AreParentsToCreate settings (map (λ path. path.now) paths.items))
made_if_ok settings bare (Err failure) included same is = tt
made_if_ok settings bare (Ok paths) included same is =
    are_parents_to_create settings (map (λ path. path.now) paths.items)
    (is ∙ (ap (λ l. each_once [] (left_of settings l)) (ap (flat_map fronts) same ∙ made_above settings.prefixes)
    ∙ ap (λ side. left_above side settings) (sym included)))
