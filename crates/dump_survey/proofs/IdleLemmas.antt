-- The idle bare prefixes after one more record, and what is reported of the prefixes.
use Rattle.dump_survey.proofs.Prelude.{◌≡◌, ℕ, Bool, true, false, not, ◌&&◌, ◌||◌, List, [], ◌∷◌, ◌++◌, map, Option, Some, None, option_map, bytes_eq, refl, sym, ap, ap₂, ◌∙◌, append_assoc, if◌then◌else◌, and-true, or-false, list_any, cons_option, or_left, or_right, map-append, list_any-append, bytes_eq-Decides, DumpRecord, bare_prefix, bare_path, begins_path, is_node, is_copy, node_path, copy_path, makes_copy, PrefixFinding, NotCanonical, Idle, PrefixReport, is_short_prefix, reported_of_prefix, reported_prefixes, HaveSame, is_among, AreWithout, is_begun_by, is_below_copy, is_touched_by, AreIdle, reported_by, prefixes_by}

-- the texts that begin one of the node's paths are removed

pub both_without : (f g : List ℕ → Bool) (old mid new : List (List ℕ)) → AreWithout f old mid → AreWithout g mid new
    → AreWithout (λ text. f text || g text) old new
both_without f g old mid new first second text =
    second text ∙ (ap (λ b. b && not (g text)) (first text) ∙ joined (is_among text old) (f text) (g text))
  where
    joined : (a b c : Bool) → ((a && not b) && not c) ≡ (a && not (b || c))
    joined true true c = refl
    joined true false c = refl
    joined false b c = refl

same_without : (f g : List ℕ → Bool) (old new : List (List ℕ)) → ((text : List ℕ) → f text ≡ g text)
    → AreWithout f old new → AreWithout g old new
same_without f g old new same without text = without text ∙ ap (λ b. is_among text old && not b) (same text)

module _ (r : DumpRecord) (old mid : List (List ℕ)) (node : is_node r ≡ true)
    (first : AreWithout (λ text. begins_path text (bare_path (node_path r))) old mid) where
  pub path_leaves : is_copy r ≡ false → AreWithout (is_begun_by r) old mid
  path_leaves plain = same_without (λ text. begins_path text (bare_path (node_path r))) (is_begun_by r) old mid
      (λ text. sym (ap₂ (λ n c. n && (begins_path text (bare_path (node_path r))
      || (c && begins_path text (bare_path (copy_path r))))) node plain
      ∙ or-false (begins_path text (bare_path (node_path r))))) first

  pub both_leave : (new : List (List ℕ)) → is_copy r ≡ true
      → AreWithout (λ text. begins_path text (bare_path (copy_path r))) mid new → AreWithout (is_begun_by r) old new
  both_leave new copy second = same_without
      (λ text. begins_path text (bare_path (node_path r)) || begins_path text (bare_path (copy_path r)))
      (is_begun_by r) old new
      (λ text. sym (ap₂ (λ n c. n && (begins_path text (bare_path (node_path r))
      || (c && begins_path text (bare_path (copy_path r))))) node copy))
      (both_without (λ text. begins_path text (bare_path (node_path r)))
      (λ text. begins_path text (bare_path (copy_path r))) old mid new first second)

-- the texts at or below a copy are removed

module _ (r : DumpRecord) (old : List (List ℕ)) (node : is_node r ≡ true) where
  pub no_copy_leaves : makes_copy r ≡ false → AreWithout (is_below_copy r) old old
  no_copy_leaves plain text =
      sym (ap₂ (λ n c. is_among text old && not (n && (c && begins_path (bare_path (node_path r)) text))) node plain
      ∙ and-true (is_among text old))

  pub copy_leaves : (new : List (List ℕ)) → makes_copy r ≡ true
      → AreWithout (λ text. begins_path (bare_path (node_path r)) text) old new → AreWithout (is_below_copy r) old new
  copy_leaves new copy = same_without (λ text. begins_path (bare_path (node_path r)) text) (is_below_copy r) old new
      (λ text. sym (ap₂ (λ n c. n && (c && begins_path (bare_path (node_path r)) text)) node copy))

-- record by record

pub all_idle : (prefixes set : List (List ℕ)) → HaveSame set (map bare_prefix prefixes) → AreIdle [] prefixes set
all_idle prefixes set same text = same text ∙ sym (and-true (is_among text (map bare_prefix prefixes)))

pub idle_more : (records : List DumpRecord) (r : DumpRecord) (prefixes idle new : List (List ℕ))
    → AreIdle records prefixes idle → AreWithout (is_touched_by r) idle new → AreIdle (records ++ r ∷ []) prefixes new
idle_more records r prefixes idle new so_far without =
    same_without (λ bare. list_any (λ x. is_touched_by x bare) records || is_touched_by r bare)
    (λ bare. list_any (λ x. is_touched_by x bare) (records ++ r ∷ [])) (map bare_prefix prefixes) new
    (λ bare. sym (list_any-append (λ x. is_touched_by x bare) records (r ∷ [])
    ∙ ap (λ b. list_any (λ x. is_touched_by x bare) records || b) (or-false (is_touched_by r bare))))
    (both_without (λ bare. list_any (λ x. is_touched_by x bare) records) (is_touched_by r) (map bare_prefix prefixes) idle new
    so_far without)

-- what is reported of the prefixes

module _ (records : List DumpRecord) (prefixes idle : List (List ℕ)) (are : AreIdle records prefixes idle) where
  -- a prefix of the list is idle exactly if the idle set has its bare form
  reported_of_each : (prefix : List ℕ) → is_among (bare_prefix prefix) (map bare_prefix prefixes) ≡ true
      → reported_by idle prefix ≡ reported_of_prefix records prefix
  reported_of_each prefix here =
      ap (λ b. option_map (λ (f : PrefixFinding). reported f)
      (if is_short_prefix prefix then (if b then Some Idle else None) else Some NotCanonical))
      (are (bare_prefix prefix) ∙ ap (λ b. b && not (list_any (λ r. is_touched_by r (bare_prefix prefix)) records)) here)
    where
      reported : PrefixFinding → PrefixReport
      reported f = record { prefix = prefix; finding = f }

  reported_of_rest : (front rest : List (List ℕ)) → prefixes ≡ front ++ rest
      → prefixes_by idle rest ≡ reported_prefixes records rest
  reported_of_rest front [] all = refl
  reported_of_rest front (prefix ∷ rest) all =
      ap₂ (λ (t : Option PrefixReport) (ts : List PrefixReport). cons_option t ts) (reported_of_each prefix here)
      (reported_of_rest (front ++ prefix ∷ []) rest (all ∙ sym (append_assoc front (prefix ∷ []) rest)))
    where
      here : is_among (bare_prefix prefix) (map bare_prefix prefixes) ≡ true
      here =
          ap (λ l. is_among (bare_prefix prefix) (map bare_prefix l)) all
          ∙ (ap (is_among (bare_prefix prefix)) (map-append bare_prefix front (prefix ∷ rest))
          ∙ (list_any-append (λ other. bytes_eq (bare_prefix prefix) other) (map bare_prefix front)
          (map bare_prefix (prefix ∷ rest))
          ∙ or_right _ _ (or_left _ _ ((bytes_eq-Decides (bare_prefix prefix) (bare_prefix prefix)).1 refl))))

  pub reported_by_idle : prefixes_by idle prefixes ≡ reported_prefixes records prefixes
  reported_by_idle = reported_of_rest [] prefixes refl
