-- Trimmed histories that are renumbered.
use Rattle.dump_trees.proofs.Prelude.{◌≡◌, zero, suc, refl, sym, ap, ◌∙◌, subst, inl, arith, append-nil, slice_get, list_any, or_parts, MatchBool, MatchBool-at_true, MatchBool-at_false, Exclude, Settings, KeptRevisions, image, keeps, Tree, HasDirectories, root_alone, Change, History, steps, NewProperty, NewNumber, KeepsEntries, IsRestricted, AllHaveDirectories, IsMade, loaded, EmptyRule, keeps_revision, kept_from, kept_of, IsWrittenNumber, ImagesRestrict}
use Rattle.std.proofs.Common.{ℕ, Bool, true, false, List, [], ◌∷◌, ◌++◌, Option, Some, None, option_and_then}
use Rattle.dump_trees.specs.steps.Trimming.{AreTrimmedChanges, AreTrimmedFiltered, TrimmedFilteredRestricts, EachTrimmedFilteredRestricts}
use Rattle.dump_trees.proofs.changes.DirectoryLemmas.{KeepsDirectories}
use Rattle.dump_trees.proofs.changes.RevisionLemmas.{steps_keep}
use Rattle.dump_trees.proofs.changes.CutLemmas.{gives_root}
use Rattle.dump_trees.proofs.histories.KeptNumbers.{kept_above, image_kept}
use Rattle.dump_trees.proofs.histories.HistoryLemmas.{root_directories, start_restricts, Ongoing, renumbered_restrict, next_kept, next_dropped, Ends, ended}
use Rattle.dump_trees.proofs.expansions.TrimmedHistories.{trimmed_revision}

-- a match at a known test
pub at_true : (A B : Type 0) (b : Bool) → b ≡ true → A → MatchBool b A B
at_true A B b is a = subst (λ c. MatchBool c A B) (sym is) a

pub at_false : (A B : Type 0) (b : Bool) → b ≡ false → B → MatchBool b A B
at_false A B b is a = subst (λ c. MatchBool c A B) (sym is) a

-- nothing is written of changes of which none is kept
none_trimmed : (settings : Settings) (IsNew : NewProperty) (IsNumber : NewNumber) (history : History) (before : Tree)
    (changes : List Change) → list_any (λ (c : Change). keeps settings c.path) changes ≡ false
    → AreTrimmedChanges settings IsNew IsNumber history before changes []
none_trimmed settings IsNew IsNumber history before [] none = refl
none_trimmed settings IsNew IsNumber history before (c ∷ changes) none =
    let parts = or_parts (keeps settings c.path) (list_any (λ (d : Change). keeps settings d.path) changes) none in
    at_false _ _ (keeps settings c.path) parts.0
    (λ after at. none_trimmed settings IsNew IsNumber history after changes parts.1)

module _ (settings : Settings) (IsNew : NewProperty) (entries : KeepsEntries IsNew) (rule : EmptyRule)
    (exclude : settings.side ≡ Exclude) (renumber : settings.renumber ≡ true) (kept : KeptRevisions)
    (zero_first : kept.first ≡ 0) (begun : List ℕ) where
  -- the state of both loads, with no revisions after these
  abbrev Now : ℕ → List Tree → List Tree → Tree → Tree → List (List Change) → Type 0
  Now number trees others youngest restricted revisions =
      Ongoing settings IsNew entries rule kept zero_first begun [] number trees others youngest restricted revisions

  abbrev AtEnd : List Tree → Option (List Tree) → Type 0
  AtEnd final o = Ends settings IsNew entries rule kept zero_first begun [] final o

  -- what is proved of the revisions after one
  abbrev Further : List (List Change) → Type 0
  Further revisions =
      (written : List (List Change)) (number : ℕ) (trees others : List Tree) (youngest restricted : Tree)
      → Now number trees others youngest restricted revisions
      → AreTrimmedFiltered settings IsNew (IsWrittenNumber settings kept) rule trees youngest revisions written
      → (final : List Tree) → loaded trees youngest revisions ≡ Some final
      → AtEnd final (loaded others restricted written)

  -- what is written of a revision leads to the restricted tree
  revision_leads : (number : ℕ) (trees others : List Tree) (youngest restricted : Tree) (changes : List Change)
      (revisions : List (List Change)) → Now number trees others youngest restricted (changes ∷ revisions)
      → (tree : Tree) → steps (slice_get trees) youngest changes ≡ Some tree → (written : List Change)
      → AreTrimmedChanges settings IsNew (IsWrittenNumber settings kept) (slice_get trees) youngest changes written
      → (from : Tree) → IsRestricted settings IsNew youngest from
      → (other : Tree) × (steps (slice_get others) from written ≡ Some other) × IsRestricted settings IsNew tree other
  revision_leads number trees others youngest restricted changes revisions o tree at written trimmed from r =
      trimmed_revision settings IsNew (IsWrittenNumber settings kept) entries (slice_get trees) (slice_get others) youngest
      tree from changes written exclude o.directories
      (renumbered_restrict settings IsNew entries rule kept zero_first begun [] renumber trees others o.images) o.has r at
      trimmed

  revisions_end : (revisions : List (List Change)) → Further revisions
  revisions_end [] written number trees others youngest restricted o none final at =
      subst (λ w. AtEnd final (loaded others restricted w)) (sym none)
      (ended settings IsNew entries rule kept zero_first begun [] number trees others youngest restricted o final at)
  revisions_end (changes ∷ revisions) written number trees others youngest restricted o trimmed final at =
      cases (revisions_end revisions) (steps (slice_get trees) youngest changes) refl
      (steps_keep (slice_get trees) o.directories changes youngest o.has) at
    where
      sides : Further revisions → (tree : Tree) → steps (slice_get trees) youngest changes ≡ Some tree → HasDirectories tree
          → loaded (trees ++ tree ∷ []) tree revisions ≡ Some final
          → (b : Bool) → keeps_revision settings rule changes ≡ b → AtEnd final (loaded others restricted written)
      sides further tree stepped has more true is =
          let (new, rest, listed, first, behind) = MatchBool-at_true _ _ is trimmed in
          let (other, leads, r) =
          revision_leads number trees others youngest restricted changes revisions o tree stepped new first restricted
          o.restricts in
          subst (λ l. AtEnd final l)
          (sym (ap (loaded others restricted) listed
          ∙ ap (option_and_then (λ t. loaded (others ++ t ∷ []) t rest)) leads))
          (further rest (suc number) (trees ++ tree ∷ []) (others ++ other ∷ []) tree other
          (next_kept settings IsNew entries rule kept zero_first begun [] number trees others youngest restricted changes
          revisions o is tree other has r) (behind tree stepped) final more)
      sides further tree stepped has more false is =
          further written (suc number) (trees ++ tree ∷ []) others tree restricted
          (next_dropped settings IsNew entries rule kept zero_first begun [] number trees others youngest restricted changes
          revisions o is tree has
          (λ other r.
          let (same, leads, restricts) =
          revision_leads number trees others youngest restricted changes revisions o tree stepped []
          (none_trimmed settings IsNew (IsWrittenNumber settings kept) (slice_get trees) youngest changes
          (or_parts (list_any (λ (c : Change). keeps settings c.path) changes) (rule changes) is).0) other r in
          subst (λ t. IsRestricted settings IsNew tree t)
          (sym (let both : Some other ≡ Some same = leads in let one : other ≡ same = cc in one)) restricts))
          (MatchBool-at_false _ _ is trimmed tree stepped) final more

      cases : Further revisions → (a : Option Tree) → steps (slice_get trees) youngest changes ≡ a → KeepsDirectories a
          → option_and_then (λ tree. loaded (trees ++ tree ∷ []) tree revisions) a ≡ Some final
          → AtEnd final (loaded others restricted written)
      cases further None stepped has bad = absurd (let worse : None ≡ Some final = bad in cc)
      cases further (Some tree) stepped has more =
          sides further tree stepped has more (keeps_revision settings rule changes) refl

pub trimmed_filtered : (settings : Settings) (IsNew : NewProperty) → KeepsEntries IsNew
    → TrimmedFilteredRestricts settings IsNew
unfolding Ends
trimmed_filtered settings IsNew entries rule revisions written trees exclude renumber at trimmed =
    let (others, loads, size, images) = revisions_end settings IsNew entries rule exclude renumber
    (kept_of settings rule revisions) refl (0 ∷ kept_from settings rule 1 revisions) revisions written 0
    (root_alone ∷ []) (root_alone ∷ []) root_alone root_alone start trimmed trees at in
    (others, loads, size, images)
  where
    start_tree : IsRestricted settings IsNew root_alone root_alone
    start_tree = subst (λ t. IsRestricted settings IsNew root_alone t) (gives_root settings exclude)
        (start_restricts settings IsNew entries)

    start_directories : AllHaveDirectories (slice_get (root_alone ∷ []))
    start_directories zero tree is = subst HasDirectories (let both : Some root_alone ≡ Some tree = is in cc) root_directories
    start_directories (suc n) tree is = absurd (let bad : None ≡ Some tree = is in cc)

    all_numbers : (kept_of settings rule revisions).numbers ≡ 0 ∷ kept_from settings rule 1 (revisions ++ [])
    all_numbers = ap (λ rs. 0 ∷ kept_from settings rule 1 rs) (sym (append-nil revisions))

    zero_image : image (kept_of settings rule revisions) 0 ≡ Some 0
    zero_image = image_kept (kept_of settings rule revisions) refl 0 []
        (kept_from settings rule 1 (revisions ++ [])) all_numbers refl
        (kept_above settings rule 0 1 (revisions ++ []) (omega arith))

    start_images : ImagesRestrict settings IsNew (image (kept_of settings rule revisions)) (root_alone ∷ [])
        (root_alone ∷ [])
    start_images zero tree is = (
      0,
      root_alone,
      zero_image,
      refl,
      subst (λ t. IsRestricted settings IsNew t root_alone) (let both : Some root_alone ≡ Some tree = is in cc)
          start_tree,
    )
    start_images (suc n) tree is = absurd (let bad : None ≡ Some tree = is in cc)

    start : Ongoing settings IsNew entries rule (kept_of settings rule revisions) refl
        (0 ∷ kept_from settings rule 1 revisions) [] 0 (root_alone ∷ []) (root_alone ∷ []) root_alone root_alone revisions
    start = record {
      directories = start_directories;
      has = root_directories;
      restricts = start_tree;
      size = refl;
      last = refl;
      earlier = 0 ∷ [];
      numbers = all_numbers;
      begins = refl;
      low = refl;
      count = refl;
      images = start_images;
      found = inl renumber;
    }

-- as the contract states it
pub each_trimmed_filtered : EachTrimmedFilteredRestricts
each_trimmed_filtered settings make entries = trimmed_filtered settings (IsMade make) entries
