-- A whole history: what is true after each revision, and so at the end.
use Rattle.dump_trees.proofs.Prelude.{◌≡◌, zero, suc, cond, IsTrue, ◌⊎◌, refl, sym, ap, ◌∙◌, subst, inl, inr, not, arith, append-nil, append_assoc, slice_get, list_any, MatchBool-at_true, MatchBool-at_false, both_ways, and_parts, or_parts, or_cases, not-true, Settings, KeptRevisions, image, NodePath, keeps, Node, Tree, HasDirectories, root_alone, is_copied, Change, steps, is_above_some, given, NewProperty, NewNumber, KeepsEntries, IsNewNode, IsRestricted, AllHaveDirectories, AreRestricted, IsMade, loaded, loaded_over, AreNewChanges, EmptyRule, keeps_revision, names_kept, names_none, names_none_behind, stays_numbered, AreNewRevisions, kept_from, kept_of, IsWrittenNumber, AllRevisionsSeparate, ImagesRestrict, HistoryRestricts, EachHistoryRestricts}
use Rattle.std.proofs.Common.{ℕ, Bool, true, false, ◌&&◌, List, [], ◌∷◌, ◌++◌, length, Option, Some, None, option_and_then}
use Rattle.dump_trees.proofs.changes.StageLemmas.{Follows}
use Rattle.dump_trees.proofs.changes.DirectoryLemmas.{KeepsDirectories}
use Rattle.dump_trees.proofs.changes.RevisionLemmas.{steps_keep, steps_follow, none_written}
use Rattle.dump_trees.proofs.histories.NamingLemmas.{other_changes}
use Rattle.dump_trees.proofs.histories.KeptNumbers.{length_push, get_last, get_before, get_pushed, AreBelow, below_next, below_pushed, kept_above, image_kept, image_dropped}

-- the start

pub root_directories : HasDirectories root_alone
root_directories [] name rest node at = absurd (let bad : None ≡ Some node = at in cc)
root_directories (first ∷ path) name rest node at = absurd (let bad : None ≡ Some node = at in cc)

-- the parent directories are the restricted tree of a new repository
pub start_restricts : (settings : Settings) (IsNew : NewProperty) → KeepsEntries IsNew
    → IsRestricted settings IsNew root_alone (given settings)
start_restricts settings IsNew entries = record { kept = kept; left = λ path left. refl }
  where
    kept : (path : NodePath) → IsTrue (keeps settings path) → IsNewNode IsNew (root_alone path) (given settings path)
    kept [] is = tt
    kept (name ∷ path) is =
        subst (λ b. IsNewNode IsNew None
        (cond (not b && is_above_some settings.side settings.prefixes (name ∷ path)) (Some (Node.Directory [])) None))
        (sym is) tt

module _ (settings : Settings) (IsNew : NewProperty) (entries : KeepsEntries IsNew) (rule : EmptyRule)
    (kept : KeptRevisions)
    (zero_first : kept.first ≡ 0) (begun : List ℕ) (others_behind : List (List Change)) where
  -- so far each number is its own image
  pub record IsEven (number : ℕ) (trees others : List Tree) : Type 0 where
    size : length others ≡ suc number
    own : (n : ℕ) (tree : Tree) → slice_get trees n ≡ Some tree → image kept n ≡ Some n

  -- whether no kept change of these revisions is a copy
  abbrev copies_none : List (List Change) → Bool
  copies_none revisions = names_none settings (λ (c : Change). is_copied c.made) revisions

  -- the same for the revisions after the first dropped one
  abbrev copies_none_behind : List (List Change) → Bool
  copies_none_behind revisions = names_none_behind settings rule (λ (c : Change). is_copied c.made) revisions

  -- how the kept copies of these revisions find their sources: revisions are renumbered, or each number is its own
  -- image, or there are no such copies
  abbrev pub FindsCopies : ℕ → List Tree → List Tree → List (List Change) → Type 0
  FindsCopies number trees others revisions = (settings.renumber ≡ true)
      ⊎ ((IsEven number trees others × (copies_none_behind revisions ≡ true)) ⊎ (copies_none revisions ≡ true))

  -- What is true of the two loads after the revision of this number, when these revisions remain, and after them those
  -- that aren't loaded. When all are loaded, the kept numbers of the loaded ones are those that begun lists.
  pub record Ongoing (number : ℕ) (trees others : List Tree) (youngest restricted : Tree) (revisions : List (List Change))
      : Type 0 where
    pub directories : AllHaveDirectories (slice_get trees)
    pub has : HasDirectories youngest
    pub restricts : IsRestricted settings IsNew youngest restricted
    pub size : length trees ≡ suc number
    pub last : slice_get trees number ≡ Some youngest
    pub earlier : List ℕ
    pub numbers : kept.numbers ≡ earlier ++ kept_from settings rule (suc number) (revisions ++ others_behind)
    pub begins : begun ≡ earlier ++ kept_from settings rule (suc number) revisions
    pub low : AreBelow (suc number) earlier
    pub count : length others ≡ length earlier
    pub images : ImagesRestrict settings IsNew (image kept) trees others
    pub found : FindsCopies number trees others revisions

  -- with renumbering the trees that copies name are at the images
  pub renumbered_restrict : settings.renumber ≡ true → (trees others : List Tree)
      → ImagesRestrict settings IsNew (image kept) trees others
      → AreRestricted settings IsNew (IsWrittenNumber settings kept) (slice_get trees) (slice_get others)
  renumbered_restrict renumber trees others images n written tree numbered at =
      let (new, other, image_is, stands, restricted) = images n tree at in
      let same : Some new ≡ Some written = sym image_is ∙ MatchBool-at_true _ _ renumber numbered in
      subst (λ m. (other : Tree) × (slice_get others m ≡ Some other) × IsRestricted settings IsNew tree other)
      (let one : new ≡ written = cc in one) (other, stands, restricted)

  -- without renumbering, the trees at equal numbers are restricted
  even_restrict : settings.renumber ≡ false → (number : ℕ) (trees others : List Tree) → IsEven number trees others
      → ImagesRestrict settings IsNew (image kept) trees others
      → AreRestricted settings IsNew (IsWrittenNumber settings kept) (slice_get trees) (slice_get others)
  even_restrict stays number trees others even images n written tree numbered at =
      let (new, other, image_is, stands, restricted) = images n tree at in
      let same : Some new ≡ Some n = sym image_is ∙ even.own n tree at in
      let own : written ≡ n = MatchBool-at_false _ _ stays numbered in
      subst (λ m. (other : Tree) × (slice_get others m ≡ Some other) × IsRestricted settings IsNew tree other)
      (let one : new ≡ written = cc in one) (other, stands, restricted)

  directories_more : (trees : List Tree) (tree : Tree) → AllHaveDirectories (slice_get trees) → HasDirectories tree
      → AllHaveDirectories (slice_get (trees ++ tree ∷ []))
  directories_more trees tree all has n t at =
      elim (get_pushed trees tree n t at) [
        | inl before ↦ all n t before
        | inr last ↦ subst HasDirectories last.1 has
      ]

  last_tree : (number : ℕ) (trees : List Tree) (tree : Tree) → length trees ≡ suc number
      → slice_get (trees ++ tree ∷ []) (suc number) ≡ Some tree
  last_tree number trees tree size = ap (slice_get (trees ++ tree ∷ [])) (sym size) ∙ get_last trees tree

  -- a kept revision
  pub next_kept : (number : ℕ) (trees others : List Tree) (youngest restricted : Tree) (changes : List Change)
      (revisions : List (List Change)) → Ongoing number trees others youngest restricted (changes ∷ revisions)
      → keeps_revision settings rule changes ≡ true → (tree other : Tree) → HasDirectories tree
      → IsRestricted settings IsNew tree other
      → Ongoing (suc number) (trees ++ tree ∷ []) (others ++ other ∷ []) tree other revisions
  next_kept number trees others youngest restricted changes revisions o is tree other has r = record {
    directories = directories_more trees tree o.directories has;
    has = has;
    restricts = r;
    size = length_push trees tree ∙ ap suc o.size;
    last = last_tree number trees tree o.size;
    earlier = o.earlier ++ suc number ∷ [];
    numbers = split ∙ sym (append_assoc o.earlier (suc number ∷ []) later);
    begins =
        begins ∙ sym (append_assoc o.earlier (suc number ∷ []) (kept_from settings rule (suc (suc number)) revisions));
    low = below_pushed (suc number) o.earlier o.low;
    count = length_push others other ∙ (ap suc o.count ∙ sym (length_push o.earlier (suc number)));
    images = images;
    found = found;
  }
    where
      later : List ℕ
      later = kept_from settings rule (suc (suc number)) (revisions ++ others_behind)

      split : kept.numbers ≡ o.earlier ++ suc number ∷ kept_from settings rule (suc (suc number))
          (revisions ++ others_behind)
      split = o.numbers
          ∙ ap
          (λ b. o.earlier ++ cond b
          (suc number ∷ kept_from settings rule (suc (suc number)) (revisions ++ others_behind))
          (kept_from settings rule (suc (suc number)) (revisions ++ others_behind))) is

      begins : begun ≡ o.earlier ++ suc number ∷ kept_from settings rule (suc (suc number)) revisions
      begins =
          o.begins ∙ ap (λ b. o.earlier ++ cond b (suc number ∷ kept_from settings rule (suc (suc number)) revisions)
          (kept_from settings rule (suc (suc number)) revisions)) is

      its_image : image kept (suc number) ≡ Some (length others)
      its_image = image_kept kept zero_first (suc number) o.earlier
          (kept_from settings rule (suc (suc number)) (revisions ++ others_behind)) split o.low
          (kept_above settings rule (suc number) (suc (suc number)) (revisions ++ others_behind) (omega arith))
          ∙ ap Some (sym o.count)

      images : ImagesRestrict settings IsNew (image kept) (trees ++ tree ∷ []) (others ++ other ∷ [])
      images n t at =
          elim (get_pushed trees tree n t at) [
            | inl before ↦ (let there = o.images n t before in
                (there.0, there.1, there.2, get_before others (other ∷ []) there.0 there.1 there.3, there.4))
            | inr end ↦ (
              length others,
              other,
              ap (image kept) (end.0 ∙ o.size) ∙ its_image,
              get_last others other,
              subst (λ v. IsRestricted settings IsNew v other) end.1 r,
            )
          ]

      still_even : IsEven number trees others → IsEven (suc number) (trees ++ tree ∷ []) (others ++ other ∷ [])
      still_even even = record {
        size = length_push others other ∙ ap suc even.size;
        own = λ n t at.
            elim (get_pushed trees tree n t at) [
              | inl before ↦ even.own n t before
              | inr end ↦ ap (image kept) (end.0 ∙ o.size)
                  ∙ (its_image ∙ ap Some (even.size ∙ sym (end.0 ∙ o.size)))
            ];
      }

      found : FindsCopies (suc number) (trees ++ tree ∷ []) (others ++ other ∷ []) revisions
      found =
          elim o.found [
            | inl renumber ↦ inl renumber
            | inr (inl (even, none)) ↦ inr (inl (
              still_even even,
              sym (ap (λ b. cond b (copies_none_behind revisions) (copies_none revisions)) is) ∙ none,
            ))
            | inr (inr none) ↦ inr (inr (and_parts _ (copies_none revisions) none).1)
          ]

  -- a dropped revision
  pub next_dropped : (number : ℕ) (trees others : List Tree) (youngest restricted : Tree) (changes : List Change)
      (revisions : List (List Change)) → Ongoing number trees others youngest restricted (changes ∷ revisions)
      → keeps_revision settings rule changes ≡ false → (tree : Tree) → HasDirectories tree
      → ((other : Tree) → IsRestricted settings IsNew youngest other → IsRestricted settings IsNew tree other)
      → Ongoing (suc number) (trees ++ tree ∷ []) others tree restricted revisions
  next_dropped number trees others youngest restricted changes revisions o is tree has same = record {
    directories = directories_more trees tree o.directories has;
    has = has;
    restricts = same restricted o.restricts;
    size = length_push trees tree ∙ ap suc o.size;
    last = last_tree number trees tree o.size;
    earlier = o.earlier;
    numbers = split;
    begins = o.begins ∙ ap (λ b. o.earlier ++ cond b (suc number ∷ kept_from settings rule (suc (suc number)) revisions)
        (kept_from settings rule (suc (suc number)) revisions)) is;
    low = below_next (suc number) o.earlier o.low;
    count = o.count;
    images = images;
    found = found;
  }
    where
      found : FindsCopies (suc number) (trees ++ tree ∷ []) others revisions
      found =
          elim o.found [
            | inl renumber ↦ inl renumber
            | inr (inl (even, none)) ↦ inr (inr
                (sym (ap (λ b. cond b (copies_none_behind revisions) (copies_none revisions)) is) ∙ none))
            | inr (inr none) ↦ inr (inr (and_parts _ (copies_none revisions) none).1)
          ]

      split : kept.numbers ≡ o.earlier ++ kept_from settings rule (suc (suc number)) (revisions ++ others_behind)
      split = o.numbers
          ∙ ap
          (λ b. o.earlier ++ cond b
          (suc number ∷ kept_from settings rule (suc (suc number)) (revisions ++ others_behind))
          (kept_from settings rule (suc (suc number)) (revisions ++ others_behind))) is

      its_image : image kept (suc number) ≡ image kept number
      its_image =
          image_dropped kept number o.earlier
          (kept_from settings rule (suc (suc number)) (revisions ++ others_behind)) split
          o.low (kept_above settings rule (suc number) (suc (suc number)) (revisions ++ others_behind) (omega arith))

      images : ImagesRestrict settings IsNew (image kept) (trees ++ tree ∷ []) others
      images n t at =
          elim (get_pushed trees tree n t at) [
            | inl before ↦ o.images n t before
            | inr end ↦ (let there = o.images number youngest o.last in (
              there.0,
              there.1,
              ap (image kept) (end.0 ∙ o.size) ∙ (its_image ∙ there.2),
              there.3,
              subst (λ v. IsRestricted settings IsNew v there.1) end.1 (same there.1 there.4),
            ))
          ]

  -- the end of both loads
  unfoldable pub Ends : List Tree → Option (List Tree) → Type 0
  Ends trees o = (others : List Tree) × (o ≡ Some others) × (length others ≡ length begun)
      × ImagesRestrict settings IsNew (image kept) trees others

  pub ended : (number : ℕ) (trees others : List Tree) (youngest restricted : Tree)
      → Ongoing number trees others youngest restricted [] → (final : List Tree) → Some trees ≡ Some final
      → Ends final (Some others)
  unfolding Ends
  ended number trees others youngest restricted o final at =
      let same : trees ≡ final = (let both : Some trees ≡ Some final = at in cc) in (
        others,
        refl,
        o.count ∙ ap length (sym (o.begins ∙ append-nil o.earlier)),
        subst (λ ts. ImagesRestrict settings IsNew (image kept) ts others) same o.images,
      )

  -- what is proved of the revisions after one
  abbrev Further : List (List Change) → Type 0
  Further revisions =
      (written : List (List Change)) (number : ℕ) (trees others : List Tree) (youngest restricted : Tree)
      → Ongoing number trees others youngest restricted revisions
      → AllRevisionsSeparate settings trees youngest revisions
      → AreNewRevisions settings IsNew (IsWrittenNumber settings kept) rule revisions written
      → (final : List Tree) → loaded trees youngest revisions ≡ Some final
      → Ends final (loaded others restricted written)

  module _ (changes : List Change) (revisions : List (List Change)) (further : Further revisions) (number : ℕ)
      (trees others : List Tree) (youngest restricted : Tree)
      (o : Ongoing number trees others youngest restricted (changes ∷ revisions))
      (apart : AllRevisionsSeparate settings trees youngest (changes ∷ revisions)) (final : List Tree) (tree : Tree)
      (at : steps (slice_get trees) youngest changes ≡ Some tree) (has : HasDirectories tree)
      (rest_loaded : loaded (trees ++ tree ∷ []) tree revisions ≡ Some final) where
    follow_by : (IsNumber : NewNumber)
        → AreRestricted settings IsNew IsNumber (slice_get trees) (slice_get others) → (written : List Change)
        → AreNewChanges settings IsNew IsNumber changes written
        → (other : Tree) → IsRestricted settings IsNew youngest other
        → Follows settings IsNew (Some tree) (steps (slice_get others) other written)
    follow_by IsNumber same written new other r =
        subst (λ a. Follows settings IsNew a (steps (slice_get others) other written)) at
        (steps_follow settings IsNew IsNumber entries (slice_get trees) (slice_get others) o.directories same changes
        written youngest other o.has r apart.0 new)

    -- the changes of the revision, whatever is written of them
    changes_follow : (written : List Change)
        → AreNewChanges settings IsNew (IsWrittenNumber settings kept) changes written
        → (other : Tree) → IsRestricted settings IsNew youngest other
        → Follows settings IsNew (Some tree) (steps (slice_get others) other written)
    changes_follow written new = by_found (settings.renumber) refl o.found
      where
        Followed : Type 0
        Followed = (other : Tree) → IsRestricted settings IsNew youngest other
            → Follows settings IsNew (Some tree) (steps (slice_get others) other written)

        by_found : (b : Bool) → settings.renumber ≡ b → FindsCopies number trees others (changes ∷ revisions)
            → Followed
        by_found true renumber found = follow_by (IsWrittenNumber settings kept)
            (renumbered_restrict renumber trees others o.images) written new
        by_found false stays (inl renumber) = absurd (both_ways settings.renumber stays renumber)
        by_found false stays (inr (inl (even, none))) = follow_by (IsWrittenNumber settings kept)
            (even_restrict stays number trees others even o.images) written new
        by_found false stays (inr (inr none)) = follow_by (λ old number. ⊥) (λ n m t bad. absurd bad) written
            (other_changes settings IsNew (IsWrittenNumber settings kept) (λ old number. ⊥) changes written
            (not-true _ (and_parts (not (names_kept settings (λ (c : Change). is_copied c.made) changes))
            (copies_none revisions) none).0) new)

    kept_goes_on : keeps_revision settings rule changes ≡ true → (new : List Change) (rest : List (List Change))
        → AreNewChanges settings IsNew (IsWrittenNumber settings kept) changes new
        → AreNewRevisions settings IsNew (IsWrittenNumber settings kept) rule revisions rest
        → Ends final (loaded others restricted (new ∷ rest))
    kept_goes_on is new rest new_changes new_revisions =
        cases (steps (slice_get others) restricted new) (changes_follow new new_changes restricted o.restricts)
      where
        cases : (a : Option Tree) → Follows settings IsNew (Some tree) a
            → Ends final (option_and_then (λ other. loaded (others ++ other ∷ []) other rest) a)
        cases None f = absurd f
        cases (Some other) f =
            further rest (suc number) (trees ++ tree ∷ []) (others ++ other ∷ []) tree other
            (next_kept number trees others youngest restricted changes revisions o is tree other has f)
            (apart.1 tree at)
            new_revisions final rest_loaded

    dropped_goes_on : keeps_revision settings rule changes ≡ false → (written : List (List Change))
        → AreNewRevisions settings IsNew (IsWrittenNumber settings kept) rule revisions written
        → Ends final (loaded others restricted written)
    dropped_goes_on is written new_revisions =
        further written (suc number) (trees ++ tree ∷ []) others tree restricted
        (next_dropped number trees others youngest restricted changes revisions o is tree has
        (λ other r. changes_follow []
        (none_written settings IsNew (IsWrittenNumber settings kept) changes
        (or_parts (list_any (λ (c : Change). keeps settings c.path) changes) (rule changes) is).0) other r))
        (apart.1 tree at) new_revisions final rest_loaded

    goes_on : (written : List (List Change))
        → AreNewRevisions settings IsNew (IsWrittenNumber settings kept) rule (changes ∷ revisions) written
        → Ends final (loaded others restricted written)
    goes_on written new = sides (keeps_revision settings rule changes) refl
      where
        sides : (b : Bool) → keeps_revision settings rule changes ≡ b → Ends final (loaded others restricted written)
        sides true is =
            let parts = MatchBool-at_true _ _ is new in
            subst (λ w. Ends final (loaded others restricted w)) (sym parts.2)
            (kept_goes_on is parts.0 parts.1 parts.3 parts.4)
        sides false is = dropped_goes_on is written (MatchBool-at_false _ _ is new)

  history_follows : (revisions : List (List Change)) → Further revisions
  history_follows [] written number trees others youngest restricted o apart new final at =
      subst (λ w. Ends final (loaded others restricted w)) (sym new)
      (ended number trees others youngest restricted o final at)
  history_follows (changes ∷ revisions) written number trees others youngest restricted o apart new final at =
      cases (history_follows revisions) (steps (slice_get trees) youngest changes) refl
      (steps_keep (slice_get trees) o.directories changes youngest o.has) at
    where
      cases : Further revisions → (a : Option Tree) → steps (slice_get trees) youngest changes ≡ a → KeepsDirectories a
          → option_and_then (λ tree. loaded (trees ++ tree ∷ []) tree revisions) a ≡ Some final
          → Ends final (loaded others restricted written)
      cases further None is has bad = absurd (let worse : None ≡ Some final = bad in cc)
      cases further (Some tree) is has rest =
          goes_on changes revisions further number trees others youngest restricted o apart final tree is has rest
          written new

-- revisions that are loaded, in front of others that aren't, by the kept numbers of all
pub front_follows : (settings : Settings) (IsNew : NewProperty) (entries : KeepsEntries IsNew) (rule : EmptyRule)
    (kept : KeptRevisions)
    (zero_first : kept.first ≡ 0) (revisions rest written : List (List Change)) (trees : List Tree)
    → kept.numbers ≡ 0 ∷ kept_from settings rule 1 (revisions ++ rest)
    → IsTrue (stays_numbered settings rule revisions)
    → loaded_over root_alone revisions ≡ Some trees
    → AllRevisionsSeparate settings (root_alone ∷ []) root_alone revisions
    → AreNewRevisions settings IsNew (IsWrittenNumber settings kept) rule revisions written
    → (others : List Tree) × (loaded_over (given settings) written ≡ Some others)
    × (length others ≡ length (kept_of settings rule revisions).numbers)
    × ImagesRestrict settings IsNew (image kept) trees others
unfolding Ends
front_follows settings IsNew entries rule kept zero_first revisions rest written trees all_numbers numbered at apart
    new =
    history_follows settings IsNew entries rule kept zero_first
    (0 ∷ kept_from settings rule 1 revisions) rest revisions written 0
    (root_alone ∷ []) (given settings ∷ []) root_alone (given settings) start apart new trees at
  where
    start_directories : AllHaveDirectories (slice_get (root_alone ∷ []))
    start_directories zero tree is = subst HasDirectories (let both : Some root_alone ≡ Some tree = is in cc) root_directories
    start_directories (suc n) tree is = absurd (let bad : None ≡ Some tree = is in cc)

    zero_image : image kept 0 ≡ Some 0
    zero_image = image_kept kept zero_first 0 [] (kept_from settings rule 1 (revisions ++ rest)) all_numbers refl
        (kept_above settings rule 0 1 (revisions ++ rest) (omega arith))

    start_images : ImagesRestrict settings IsNew (image kept) (root_alone ∷ []) (given settings ∷ [])
    start_images zero tree is = (
      0,
      given settings,
      zero_image,
      refl,
      subst (λ t. IsRestricted settings IsNew t (given settings)) (let both : Some root_alone ≡ Some tree = is in cc)
          (start_restricts settings IsNew entries),
    )
    start_images (suc n) tree is = absurd (let bad : None ≡ Some tree = is in cc)

    start_even : IsEven settings IsNew entries rule kept zero_first (0 ∷ kept_from settings rule 1 revisions) rest 0
        (root_alone ∷ []) (given settings ∷ [])
    start_even = record {
      size = refl;
      own = own;
    }
      where
        own : (n : ℕ) (tree : Tree) → slice_get (root_alone ∷ []) n ≡ Some tree → image kept n ≡ Some n
        own zero tree is = zero_image
        own (suc n) tree is = absurd (let bad : None ≡ Some tree = is in cc)

    start : Ongoing settings IsNew entries rule kept zero_first (0 ∷ kept_from settings rule 1 revisions) rest 0
        (root_alone ∷ []) (given settings ∷ []) root_alone (given settings) revisions
    start = record {
      directories = start_directories;
      has = root_directories;
      restricts = start_restricts settings IsNew entries;
      size = refl;
      last = refl;
      earlier = 0 ∷ [];
      numbers = all_numbers;
      begins = refl;
      low = refl;
      count = refl;
      images = start_images;
      found =
          elim
          (or_cases settings.renumber
          (names_none_behind settings rule (λ (c : Change). is_copied c.made) revisions) numbered) [
            | inl renumbered ↦ inl renumbered
            | inr none ↦ inr (inl (start_even, none))
          ];
    }

-- the law of a history, for each relation of new properties that keeps entries
pub history : (settings : Settings) (IsNew : NewProperty) → KeepsEntries IsNew → HistoryRestricts settings IsNew
history settings IsNew entries rule revisions written trees numbered at apart new =
    front_follows settings IsNew entries rule (kept_of settings rule revisions) refl revisions [] written trees
    (ap (λ rs. 0 ∷ kept_from settings rule 1 rs) (sym (append-nil revisions))) numbered at apart new

-- the same for each way to make new properties, as the contract states it
pub each_history : EachHistoryRestricts
each_history settings make entries = history settings (IsMade make) entries
