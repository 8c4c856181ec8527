-- Revisions and histories whose copies are trimmed.
use Rattle.dump_trees.proofs.Prelude.{◌≡◌, zero, suc, refl, sym, ap, ◌∙◌, subst, inl, inr, AllZip, slice_get, MatchBool-at_true, MatchBool-at_false, Exclude, Settings, keeps, NodePath, Tree, HasDirectories, root_alone, Change, History, step, steps, NewProperty, NewNumber, KeepsEntries, IsRestricted, IsNewChange, AllHaveDirectories, AreRestricted, IsMade, IsRenumbered, loaded}
use Rattle.std.proofs.Common.{ℕ, Bool, true, false, List, [], ◌∷◌, ◌++◌, Option, Some, None, option_and_then}
use Rattle.dump_trees.specs.steps.ExpansionCases.{deletions}
use Rattle.dump_trees.specs.steps.Trimming.{IsTrimmed, AreTrimmedChanges, TrimmedRevisionRestricts, EachTrimmedRevisionRestricts, IsSameNumber, AreTrimmedRevisions, TrimmedHistoryRestricts, EachTrimmedHistoryRestricts}
use Rattle.dump_trees.proofs.changes.StepLemmas.{kept_step, dropped_step}
use Rattle.dump_trees.proofs.changes.DirectoryLemmas.{KeepsDirectories, step_keeps}
use Rattle.dump_trees.proofs.changes.RevisionLemmas.{steps_keep}
use Rattle.dump_trees.proofs.changes.CutLemmas.{gives_root}
use Rattle.dump_trees.proofs.histories.KeptNumbers.{get_pushed}
use Rattle.dump_trees.proofs.histories.HistoryLemmas.{root_directories, start_restricts}
use Rattle.dump_trees.proofs.expansions.StayingLemmas.{excluded_change_stays}
use Rattle.dump_trees.proofs.expansions.TrimLemmas.{trimmed_copy}

-- some changes, and more after them
steps_behind : (history : History) (front rest : List Change) (tree : Tree)
    → steps history tree (front ++ rest) ≡ option_and_then (λ t. steps history t rest) (steps history tree front)
steps_behind history [] rest tree = refl
steps_behind history (c ∷ front) rest tree = cases (λ t. steps_behind history front rest t) (step history tree c)
  where
    cases : ((t : Tree) → steps history t (front ++ rest)
        ≡ option_and_then (λ u. steps history u rest) (steps history t front))
        → (o : Option Tree) → option_and_then (λ t. steps history t (front ++ rest)) o
        ≡ option_and_then (λ u. steps history u rest) (option_and_then (λ t. steps history t front) o)
    cases further None = refl
    cases further (Some t) = further t

-- the changes of a revision

module _ (settings : Settings) (IsNew : NewProperty) (IsNumber : NewNumber) (entries : KeepsEntries IsNew)
    (exclude : settings.side ≡ Exclude) (history others : History) (all : AllHaveDirectories history)
    (same : AreRestricted settings IsNew IsNumber history others) where
  -- what is written leads to the restricted tree
  abbrev Leads : Tree → List Change → Tree → Type 0
  Leads restricted written after =
      (other : Tree) × (steps others restricted written ≡ Some other) × IsRestricted settings IsNew after other

  -- a kept change, and the deletions after it
  kept_leads : (before after restricted : Tree) (c new : Change) (rests : List NodePath) → HasDirectories before
      → IsRestricted settings IsNew before restricted → step history before c ≡ Some after
      → keeps settings c.path ≡ true → IsNewChange settings IsNew IsNumber c new
      → IsTrimmed settings history before c rests → Leads restricted (new ∷ deletions c.path rests) after
  kept_leads before after restricted c new rests directories r at kept is_new (inl (none, apart)) =
      let (other, stepped, restricts) = kept_step settings IsNew IsNumber entries history others before after restricted c
      new all same directories r at (apart after at) kept is_new in (
        other,
        subst (λ rs. steps others restricted (new ∷ deletions c.path rs) ≡ Some other) (sym none)
            (ap (option_and_then (λ t. steps others t [])) stepped),
        restricts,
      )
  kept_leads before after restricted c new rests directories r at kept is_new
      (inr (number, source, old, is, there, back, cover)) =
      trimmed_copy settings IsNew IsNumber entries history others before after restricted old c new number source rests
      exclude same r at kept is there back cover is_new

  -- a change that isn't kept
  left_stays : (before after restricted : Tree) (c : Change) → IsRestricted settings IsNew before restricted
      → step history before c ≡ Some after → keeps settings c.path ≡ false
      → IsRestricted settings IsNew after restricted
  left_stays before after restricted c r at left =
      dropped_step settings IsNew history before after restricted c r at
      ((excluded_change_stays settings history before c exclude left after at).apart after at).0 left

  -- what is proved of the changes after one
  abbrev Further : List Change → Type 0
  Further changes = (rest : List Change) (t after u : Tree) → HasDirectories t → IsRestricted settings IsNew t u
      → steps history t changes ≡ Some after → AreTrimmedChanges settings IsNew IsNumber history t changes rest
      → Leads u rest after

  pub revision_leads : (changes : List Change) → Further changes
  revision_leads [] written before after restricted directories r at none =
      let here : before ≡ after = (let both : Some before ≡ Some after = at in cc) in
      (restricted, ap (steps others restricted) none, subst (λ t. IsRestricted settings IsNew t restricted) here r)
  revision_leads (c ∷ changes) written before after restricted directories r at new =
      cases (revision_leads changes) (step history before c) refl (step_keeps history all before c directories) at
    where
      sides : Further changes → (t : Tree) → step history before c ≡ Some t → HasDirectories t
          → steps history t changes ≡ Some after → (b : Bool) → keeps settings c.path ≡ b
          → Leads restricted written after
      sides further t stepped has more true kept =
          let (first, rests, rest, is, is_new, trimmed, behind) = MatchBool-at_true _ _ kept new in
          let (u, leads, s) = kept_leads before t restricted c first rests directories r stepped kept is_new trimmed in
          let (other, ends, restricts) = further rest t after u has s more (behind t stepped) in (
            other,
            subst (λ w. steps others restricted w ≡ Some other) (sym is)
                (steps_behind others (first ∷ deletions c.path rests) rest restricted
                ∙ (ap (option_and_then (λ v. steps others v rest)) leads ∙ ends)),
            restricts,
          )
      sides further t stepped has more false left =
          further written t after restricted has (left_stays before t restricted c r stepped left) more
          (MatchBool-at_false _ _ left new t stepped)

      cases : Further changes → (o : Option Tree) → step history before c ≡ o → KeepsDirectories o
          → option_and_then (λ t. steps history t changes) o ≡ Some after → Leads restricted written after
      cases further None stepped has none = absurd (let bad : None ≡ Some after = none in cc)
      cases further (Some t) stepped has more = sides further t stepped has more (keeps settings c.path) refl

pub trimmed_revision : (settings : Settings) (IsNew : NewProperty) (IsNumber : NewNumber) → KeepsEntries IsNew
    → TrimmedRevisionRestricts settings IsNew IsNumber
trimmed_revision settings IsNew IsNumber entries history others before after restricted changes written exclude all same
    directories r at new =
    revision_leads settings IsNew IsNumber entries exclude history others all same changes written before after restricted
    directories r at new

-- as the contract states it
pub each_trimmed_revision : EachTrimmedRevisionRestricts
each_trimmed_revision settings make renumber entries =
    trimmed_revision settings (IsMade make) (IsRenumbered renumber) entries

-- histories

module _ (settings : Settings) (IsNew : NewProperty) (entries : KeepsEntries IsNew) (exclude : settings.side ≡ Exclude) where
  -- trees of which each is the other one, restricted
  abbrev AreSame : List Tree → List Tree → Type 0
  AreSame trees others = AllZip (IsRestricted settings IsNew) trees others

  same_there : (trees others : List Tree) → AreSame trees others → (number : ℕ) (tree : Tree)
      → slice_get trees number ≡ Some tree
      → (other : Tree) × (slice_get others number ≡ Some other) × IsRestricted settings IsNew tree other
  same_there [] others zip number tree at = absurd (let bad : None ≡ Some tree = at in cc)
  same_there (t ∷ trees) [] zip number tree at = absurd zip
  same_there (t ∷ trees) (u ∷ others) zip zero tree at =
      (u, refl, subst (λ v. IsRestricted settings IsNew v u) (let both : Some t ≡ Some tree = at in cc) zip.0)
  same_there (t ∷ trees) (u ∷ others) zip (suc number) tree at = same_there trees others zip.1 number tree at

  same_restricted : (trees others : List Tree) → AreSame trees others
      → AreRestricted settings IsNew IsSameNumber (slice_get trees) (slice_get others)
  same_restricted trees others zip number written tree is at =
      subst (λ n. (other : Tree) × (slice_get others n ≡ Some other) × IsRestricted settings IsNew tree other) (sym is)
      (same_there trees others zip number tree at)

  same_push : (trees others : List Tree) (t u : Tree) → AreSame trees others → IsRestricted settings IsNew t u
      → AreSame (trees ++ t ∷ []) (others ++ u ∷ [])
  same_push [] [] t u zip r = (r, tt)
  same_push [] (v ∷ others) t u zip r = absurd zip
  same_push (v ∷ trees) [] t u zip r = absurd zip
  same_push (v ∷ trees) (w ∷ others) t u zip r = (zip.0, same_push trees others t u zip.1 r)

  directories_push : (trees : List Tree) (tree : Tree) → AllHaveDirectories (slice_get trees) → HasDirectories tree
      → AllHaveDirectories (slice_get (trees ++ tree ∷ []))
  directories_push trees tree all has number t at =
      elim (get_pushed trees tree number t at) [
        | inl before ↦ all number t before
        | inr last ↦ subst HasDirectories last.1 has
      ]

  -- what is proved of the revisions after one
  abbrev Onward : List (List Change) → Type 0
  Onward revisions = (written : List (List Change)) (trees others : List Tree) (youngest restricted : Tree)
      → AllHaveDirectories (slice_get trees) → HasDirectories youngest → AreSame trees others
      → IsRestricted settings IsNew youngest restricted
      → (final : List Tree) → loaded trees youngest revisions ≡ Some final
      → AreTrimmedRevisions settings IsNew trees youngest revisions written
      → (ends : List Tree) × (loaded others restricted written ≡ Some ends) × AreSame final ends

  histories_lead : (revisions : List (List Change)) → Onward revisions
  histories_lead [] written trees others youngest restricted all directories zip r final at none =
      let here : trees ≡ final = (let both : Some trees ≡ Some final = at in cc) in
      (others, ap (loaded others restricted) none, subst (λ ts. AreSame ts others) here zip)
  histories_lead (changes ∷ revisions) written trees others youngest restricted all directories zip r final at
      (new, rest, is, trimmed, behind) =
      cases (histories_lead revisions) (steps (slice_get trees) youngest changes) refl
      (steps_keep (slice_get trees) all changes youngest directories) at
    where
      cases : Onward revisions → (o : Option Tree) → steps (slice_get trees) youngest changes ≡ o → KeepsDirectories o
          → option_and_then (λ tree. loaded (trees ++ tree ∷ []) tree revisions) o ≡ Some final
          → (ends : List Tree) × (loaded others restricted written ≡ Some ends) × AreSame final ends
      cases further None stepped has none = absurd (let bad : None ≡ Some final = none in cc)
      cases further (Some t) stepped has more =
          let (u, leads, s) = trimmed_revision settings IsNew IsSameNumber entries (slice_get trees) (slice_get others)
          youngest t restricted changes new exclude all (same_restricted trees others zip) directories r stepped trimmed in
          let (ends, loads, same) = further rest (trees ++ t ∷ []) (others ++ u ∷ []) t u (directories_push trees t all has) has
          (same_push trees others t u zip s) s final more (behind t stepped) in (
            ends,
            subst (λ w. loaded others restricted w ≡ Some ends) (sym is)
                (ap (option_and_then (λ tree. loaded (others ++ tree ∷ []) tree rest)) leads ∙ loads),
            same,
          )

pub trimmed_history : (settings : Settings) (IsNew : NewProperty) → KeepsEntries IsNew
    → TrimmedHistoryRestricts settings IsNew
trimmed_history settings IsNew entries revisions written trees exclude at new =
    histories_lead settings IsNew entries exclude revisions written (root_alone ∷ []) (root_alone ∷ []) root_alone
    root_alone first_directories root_directories (start, tt) start trees at new
  where
    start : IsRestricted settings IsNew root_alone root_alone
    start = subst (λ t. IsRestricted settings IsNew root_alone t) (gives_root settings exclude)
        (start_restricts settings IsNew entries)

    first_directories : AllHaveDirectories (slice_get (root_alone ∷ []))
    first_directories zero tree is = subst HasDirectories (let both : Some root_alone ≡ Some tree = is in cc) root_directories
    first_directories (suc n) tree is = absurd (let bad : None ≡ Some tree = is in cc)

-- as the contract states it
pub each_trimmed_history : EachTrimmedHistoryRestricts
each_trimmed_history settings make entries = trimmed_history settings (IsMade make) entries
