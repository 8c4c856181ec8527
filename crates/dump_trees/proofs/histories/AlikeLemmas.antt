-- Loading after other revisions, when the load sets new properties. To the changes it is like a filter that keeps
-- everything.
use Rattle.dump_trees.proofs.Prelude.{◌≡◌, ◌+◌, cond, refl, sym, ap, ◌∙◌, subst, inl, inr, append_assoc, slice_get, AllZip, Property, Exclude, Settings, Node, Tree, HasDirectories, Made, Change, History, steps, given, is_given, NewProperty, KeepsEntries, NewNumber, IsNewNode, IsRestricted, sets_whole, IsNewMade, IsNewChange, AllHaveDirectories, AreRestricted, IsMade, loaded, AreNewChanges, AllSeparate, made_behind, IsChangeBehind, AreRevisionsBehind, AreAlike, AllAreAlike, LoadsAlike, EachLoadsAlike}
use Rattle.std.proofs.Common.{ℕ, Bool, true, false, List, [], ◌∷◌, ◌++◌, length, Option, Some, None, option_and_then}
use Rattle.dump_trees.proofs.changes.StepLemmas.{followed}
use Rattle.dump_trees.proofs.changes.DirectoryLemmas.{KeepsDirectories}
use Rattle.dump_trees.proofs.changes.RevisionLemmas.{steps_keep, steps_follow}
use Rattle.dump_trees.proofs.histories.KeptNumbers.{length_push, get_last, get_before, get_pushed}
use Rattle.dump_trees.proofs.histories.MovedLemmas.{get_behind}
use Rattle.dump_rules.specs.PlainSettings.{plain_settings}

-- nothing is excluded, so everything is kept
abbrev none_excluded : Settings
none_excluded = plain_settings Exclude []

-- a tree that differs only in new properties is the other one, restricted to all paths
restricted : (IsNew : NewProperty) (old new : Tree) → AreAlike IsNew old new → IsRestricted none_excluded IsNew old new
restricted IsNew old new alike = record {
  kept = λ path kept. alike path;
  left = λ path left. absurd (let bad : true ≡ false = left in cc);
}

-- if everything is kept, each change is separated
all_separate : (history : History) (before : Tree) (changes : List Change)
    → AllSeparate none_excluded history before changes
all_separate history before [] = tt
all_separate history before (c ∷ changes) = λ after at. (
  record {
    copy = λ is number source made kept old named rest node there. refl;
    plain = λ is number source made left. absurd (let bad : true ≡ false = left in cc);
    dropped = λ left. absurd (let bad : true ≡ false = left in cc);
  },
  all_separate history after changes,
)

-- the number of a copy after this many revisions
abbrev IsHigher : ℕ → NewNumber
IsHigher count = λ old new. new ≡ count + old

-- a change after others is one that the filter writes if it keeps everything

made_new : (count : ℕ) (is_whole : Bool) (made : Option Made)
    → IsNewMade none_excluded (IsHigher count) is_whole made (made_behind count made)
made_new count is_whole None = tt
made_new count is_whole (Some Made.NewDirectory) = tt
made_new count is_whole (Some Made.NewFile) = tt
made_new count is_whole (Some (Made.Copied number source)) = (refl, refl, refl)

change_new : (IsNew : NewProperty) (count : ℕ) (c d : Change) → IsChangeBehind IsNew count c d
    → IsNewChange none_excluded IsNew (IsHigher count) c d
change_new IsNew count c d b = record {
  path = b.path;
  deletes = b.deletes;
  made = subst (λ m. IsNewMade none_excluded (IsHigher count) (sets_whole c) c.made m) (sym b.made)
      (made_new count (sets_whole c) c.made);
  props = b.props;
  text = b.text;
}

changes_new : (IsNew : NewProperty) (count : ℕ) (changes moved : List Change)
    → AllZip (IsChangeBehind IsNew count) changes moved
    → AreNewChanges none_excluded IsNew (IsHigher count) changes moved
changes_new IsNew count [] [] all = refl
changes_new IsNew count [] (d ∷ moved) all = absurd all
changes_new IsNew count (c ∷ changes) [] all = absurd all
changes_new IsNew count (c ∷ changes) (d ∷ moved) (b, more) =
    (d, moved, refl, change_new IsNew count c d b, changes_new IsNew count changes moved more)

module _ (IsNew : NewProperty) (entries : KeepsEntries IsNew) (older : List Tree) where
  -- the two lists of trees, so far
  record Beside (trees others : List Tree) : Type 0 where
    directories : AllHaveDirectories (slice_get trees)
    size : length others ≡ length trees
    alike : AllAreAlike IsNew trees others

  -- copies find trees that differ only in new properties
  copies_alike : (trees others : List Tree) → Beside trees others
      → AreRestricted none_excluded IsNew (IsHigher (length older)) (slice_get trees) (slice_get (older ++ others))
  copies_alike trees others b number written tree is at =
      let (other, stands, same) = b.alike number tree at in (
        other,
        ap (slice_get (older ++ others)) is ∙ (get_behind older others number ∙ stands),
        restricted IsNew tree other same,
      )

  -- one more tree in both
  pushed : (trees others : List Tree) (tree other : Tree) → Beside trees others → HasDirectories tree
      → AreAlike IsNew tree other → Beside (trees ++ tree ∷ []) (others ++ other ∷ [])
  pushed trees others tree other b has same = record {
    directories = λ number t at. elim (get_pushed trees tree number t at) [
      | inl before ↦ b.directories number t before
      | inr last ↦ subst (λ u. HasDirectories u) last.1 has
    ];
    size = length_push others other ∙ (ap (λ n. Rattle.std.specs.Prelude.suc n) b.size ∙ sym (length_push trees tree));
    alike = λ number t at. elim (get_pushed trees tree number t at) [
      | inl before ↦ let (found, stands, is) = b.alike number t before in
          (found, get_before others (other ∷ []) number found stands, is)
      | inr last ↦ (
        other,
        ap (slice_get (others ++ other ∷ [])) (last.0 ∙ sym b.size) ∙ get_last others other,
        subst (λ u. AreAlike IsNew u other) last.1 same,
      )
    ];
  }

  -- what both loads come to
  abbrev Comes : List (List Change) → List (List Change) → Type 0
  Comes revisions moved = (trees others : List Tree) (youngest other : Tree) → HasDirectories youngest
      → Beside trees others → AreAlike IsNew youngest other → (all : List Tree)
      → loaded trees youngest revisions ≡ Some all
      → (more : List Tree) × (loaded (older ++ others) other moved ≡ Some (older ++ more)) × Beside all more

  -- revision by revision
  comes : (revisions moved : List (List Change)) → AreRevisionsBehind IsNew (length older) revisions moved
      → Comes revisions moved
  comes [] [] behind trees others youngest other has b same all at =
      let is : trees ≡ all = (let both : Some trees ≡ Some all = at in cc) in
      (others, refl, subst (λ ts. Beside ts others) is b)
  comes [] (ds ∷ moved) behind trees others youngest other has b same all at = absurd behind
  comes (changes ∷ revisions) [] behind trees others youngest other has b same all at = absurd behind
  comes (changes ∷ revisions) (ds ∷ moved) (first, behind) trees others youngest other has b same all at =
      cases (comes revisions moved behind) (steps (slice_get trees) youngest changes) refl
      (steps_keep (slice_get trees) b.directories changes youngest has) at
    where
      cases : Comes revisions moved → (o : Option Tree) → steps (slice_get trees) youngest changes ≡ o
          → KeepsDirectories o → option_and_then (λ t. loaded (trees ++ t ∷ []) t revisions) o ≡ Some all
          → (more : List Tree) × (loaded (older ++ others) other (ds ∷ moved) ≡ Some (older ++ more)) × Beside all more
      cases further None is directories rest = absurd (let bad : None ≡ Some all = rest in cc)
      cases further (Some tree) is directories rest =
          let (new, steps_are, r) = followed none_excluded IsNew (steps (slice_get trees) youngest changes)
          (steps (slice_get (older ++ others)) other ds)
          (steps_follow none_excluded IsNew (IsHigher (length older)) entries (slice_get trees)
          (slice_get (older ++ others)) b.directories (copies_alike trees others b) changes ds youngest other has
          (restricted IsNew youngest other same) (all_separate (slice_get trees) youngest changes)
          (changes_new IsNew (length older) changes ds first)) tree is in
          let now : AreAlike IsNew tree new = (λ path. r.kept path refl) in
          let (more, loads, beside) = further (trees ++ tree ∷ []) (others ++ new ∷ []) tree new directories
          (pushed trees others tree new b directories now) now all rest in (
            more,
            ap (option_and_then (λ t. loaded ((older ++ others) ++ t ∷ []) t moved)) steps_are
                ∙ (ap (λ ts. loaded ts new moved) (append_assoc older others (new ∷ [])) ∙ loads),
            beside,
          )

-- after older revisions a dump makes trees that differ only in new properties, for each relation of these that keeps
-- entries
pub loads_alike : (IsNew : NewProperty) → KeepsEntries IsNew → LoadsAlike IsNew
loads_alike IsNew entries older first revisions moved trees directories alike behind at =
    let (others, loads, beside) = comes IsNew entries older revisions moved behind (first ∷ []) (first ∷ []) first first
    directories begun alike trees at in
    (others, loads, beside.size, beside.alike)
  where
    begun : Beside IsNew entries older (first ∷ []) (first ∷ [])
    begun = record {
      directories = λ number t at. elim (get_pushed [] first number t at) [
        | inl before ↦ absurd (let bad : None ≡ Some t = before in cc)
        | inr last ↦ subst (λ u. HasDirectories u) last.1 directories
      ];
      size = refl;
      alike = λ number t at. elim (get_pushed [] first number t at) [
        | inl before ↦ absurd (let bad : None ≡ Some t = before in cc)
        | inr last ↦ (first, at ∙ ap (λ u. Some u) (sym last.1), subst (λ u. AreAlike IsNew u first) last.1 alike)
      ];
    }

-- the same for each way to make new properties, as the contract states it
pub each_loads_alike : EachLoadsAlike
each_loads_alike make entries = loads_alike (IsMade make) entries

-- the parent directories have no properties, so both trees have the same ones
pub given_alike : (settings : Settings) (IsNew : NewProperty) → AreAlike IsNew (given settings) (given settings)
given_alike settings IsNew path = cases (is_given settings path)
  where
    cases : (b : Bool)
        → IsNewNode IsNew (cond b (Some (Node.Directory [])) None) (cond b (Some (Node.Directory [])) None)
    cases true = tt
    cases false = tt

-- one relation of new properties, and then another one

module _ (First Second : NewProperty) where
  -- a property between the two
  abbrev pub Both : NewProperty
  Both = λ old new. (middle : Property) × First old middle × Second middle new

  both_lists : (xs ys zs : List Property) → AllZip First xs ys → AllZip Second ys zs → AllZip Both xs zs
  both_lists [] [] [] first second = tt
  both_lists [] [] (z ∷ zs) first second = absurd second
  both_lists [] (y ∷ ys) zs first second = absurd first
  both_lists (x ∷ xs) [] zs first second = absurd first
  both_lists (x ∷ xs) (y ∷ ys) [] first second = absurd second
  both_lists (x ∷ xs) (y ∷ ys) (z ∷ zs) (here, first) (there, second) =
      ((y, here, there), both_lists xs ys zs first second)

  both_nodes : (old middle new : Option Node) → IsNewNode First old middle → IsNewNode Second middle new
      → IsNewNode Both old new
  both_nodes None None None first second = tt
  both_nodes None None (Some n) first second = absurd second
  both_nodes None (Some m) new first second = absurd first
  both_nodes (Some (Node.Directory ps)) None new first second = absurd first
  both_nodes (Some (Node.File ps text)) None new first second = absurd first
  both_nodes (Some (Node.Directory ps)) (Some (Node.File qs text)) new first second = absurd first
  both_nodes (Some (Node.File ps text)) (Some (Node.Directory qs)) new first second = absurd first
  both_nodes (Some (Node.Directory ps)) (Some (Node.Directory qs)) None first second = absurd second
  both_nodes (Some (Node.Directory ps)) (Some (Node.Directory qs)) (Some (Node.File rs text)) first second = absurd second
  both_nodes (Some (Node.Directory ps)) (Some (Node.Directory qs)) (Some (Node.Directory rs)) first second =
      both_lists ps qs rs first second
  both_nodes (Some (Node.File ps text)) (Some (Node.File qs same)) None first second = absurd second
  both_nodes (Some (Node.File ps text)) (Some (Node.File qs same)) (Some (Node.Directory rs)) first second = absurd second
  both_nodes (Some (Node.File ps text)) (Some (Node.File qs same)) (Some (Node.File rs again)) first second =
      (both_lists ps qs rs first.0 second.0, second.1 ∙ first.1)

  -- a tree that differs only in new properties from a restricted one is restricted, by both relations
  pub both_restrict : (settings : Settings) (old middle new : Tree) → IsRestricted settings First old middle
      → AreAlike Second middle new → IsRestricted settings Both old new
  both_restrict settings old middle new r alike = record {
    kept = λ path is. both_nodes (old path) (middle path) (new path) (r.kept path is) (alike path);
    left = λ path left. stays (is_given settings path) (new path)
        (subst (λ o. IsNewNode Second o (new path)) (r.left path left) (alike path));
  }
    where
      stays : (b : Bool) (o : Option Node) → IsNewNode Second (cond b (Some (Node.Directory [])) None) o
          → o ≡ cond b (Some (Node.Directory [])) None
      stays true None new = absurd new
      stays true (Some (Node.Directory [])) new = refl
      stays true (Some (Node.Directory (p ∷ ps))) new = absurd new
      stays true (Some (Node.File ps text)) new = absurd new
      stays false None new = refl
      stays false (Some n) new = absurd new
