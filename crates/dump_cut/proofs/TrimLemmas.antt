-- What is deleted after the copies of a dump that loads is exactly what they take to excluded paths.
use Rattle.std.proofs.Common.{◌≡◌, ℕ, suc, ◌+◌, cond, take, drop, Bool, true, false, not, List, [], ◌∷◌, ◌++◌, length, map, filter, Option, Some, None, option_and_then, refl, sym, ap, ap₂, ◌∙◌, subst, Contains, inl, inr}
use Rattle.std.specs.Prelude.{slice_get}
use Rattle.std.specs.List.{list_all, list_any}
use Rattle.std.proofs.lemmas.Bool.{and_parts, or_parts, MatchBool-at_false, MatchBool-at_true}
use Rattle.std.proofs.lemmas.List.{length-append, length-map, map-append}
use Rattle.std.proofs.lemmas.List.Elements.{filter-append}
use Rattle.std.proofs.Math.Seq.{drop-append_seam, take-append_seam}
use Rattle.dump_rules.specs.Settings.{Settings}
use Rattle.dump_trees.specs.Paths.{NodePath, keeps, path_of}
use Rattle.dump_trees.specs.Trees.{Tree, root_alone}
use Rattle.dump_trees.specs.Changes.{Made, Change, step, steps}
use Rattle.dump_trees.specs.steps.ComingBack.{ComesBack}
use Rattle.dump_trees.specs.steps.ExpansionCases.{deletion_of, deletions}
use Rattle.dump_trees.specs.steps.FollowedRests.{all_rests, rests_made}
use Rattle.dump_trees.specs.Following.{Way, Copies}
use Rattle.dump_trees.specs.steps.Following.{followed, AddsNothing}
use Rattle.dump_trees.specs.steps.LoadCheck.{ToldKinds, TellsKinds}
use Rattle.dump_trees.specs.steps.Looking.{Placed, placed_from}
use Rattle.dump_trees.specs.Returns.{is_covered}
use Rattle.dump_trees.specs.steps.Returns.{lie_apart, IsCopyOver}
use Rattle.dump_trees.specs.Restriction.{NewNumber, NewProperty}
use Rattle.dump_trees.specs.Revisions.{loaded, loaded_over}
use Rattle.dump_trees.specs.steps.Revisions.{AreNewChanges, AreNewRevisions, keeps_revision}
use Rattle.dump_trees.specs.Separation.{Separates}
use Rattle.dump_trees.specs.Siblings.{has_node_names}
use Rattle.dump_trees.specs.steps.Siblings.{have_node_names, ExcludesPaths}
use Rattle.dump_trees.specs.steps.Trimming.{CoverTaken, IsTrimmed}
use Rattle.dump_trees.proofs.cuts.CoveredPaths.{contains_first, contains_later}
use Rattle.dump_trees.proofs.cuts.DeleteLemmas.{deletes_are_found}
use Rattle.dump_trees.proofs.cuts.FollowLemmas.{each_copy_is_over}
use Rattle.dump_trees.proofs.cuts.PlacedCopies.{followed_is_told}
use Rattle.dump_trees.proofs.cuts.RestLemmas.{all_rests_are_listed}
use Rattle.dump_trees.proofs.cuts.ReturnLemmas.{returns_tell_all}
use Rattle.dump_trees.proofs.expansions.StandingLemmas.{copy_has_tree}
use Rattle.dump_trees.proofs.histories.FrontLemmas.{loaded_behind}
use Rattle.dump_trees.proofs.histories.KeptNumbers.{get_before}
use Rattle.dump_trees.proofs.paths.SiblingLemmas.{excluded_match}
use Rattle.dump_history.specs.steps.TrimmedDumps.{AreAllTrimming, AreTrimming, stays_empty}
use Rattle.dump_history.specs.steps.WrittenNodes.{written_change}
use Rattle.dump_cut.specs.TrimmedCopies.{delete_nodes}
use Rattle.dump_cut.specs.steps.TrimmedCopies.{kept_changes, lost_paths}
use Rattle.dump_cut.proofs.DeleteGroups.{all_sizes, parts_of}
use Rattle.dump_trees.proofs.expansions.TrimmedNumbers.{at_true, at_false}

-- the nodes that delete paths make the deletions

pub deleted : (texts : List (List ℕ)) → map written_change (delete_nodes texts) ≡ map deletion_of (map path_of texts)
deleted [] = refl
deleted (text ∷ texts) = ap (λ cs. deletion_of (path_of text) ∷ cs) (deleted texts)

pub deleted_below : (top : NodePath) (rests : List NodePath)
    → map deletion_of (map (λ rest. top ++ rest) rests) ≡ deletions top rests
deleted_below top [] = refl
deleted_below top (rest ∷ rests) = ap (λ cs. deletion_of (top ++ rest) ∷ cs) (deleted_below top rests)

-- if the changes don't keep their revision, none of them is kept
not_kept_by : (settings : Settings) (changes : List Change) → keeps_revision settings (stays_empty settings) changes ≡ false
    → list_any (λ (c : Change). keeps settings c.path) changes ≡ false
not_kept_by settings changes dropped =
    (or_parts (list_any (λ (c : Change). keeps settings c.path) changes) (stays_empty settings changes) dropped).0

-- texts whose paths are those of two lists
pub record AreSplit (texts : List (List (List ℕ))) (xs ys : List (List NodePath)) : Type 0 where
  pub first : List (List (List ℕ))
  pub rest : List (List (List ℕ))
  pub joined : texts ≡ first ++ rest
  pub one : map (map path_of) first ≡ xs
  pub other : map (map path_of) rest ≡ ys

pub are_split : (texts : List (List (List ℕ))) (xs ys : List (List NodePath)) → map (map path_of) texts ≡ xs ++ ys
    → AreSplit texts xs ys
are_split texts [] ys is = record { first = []; rest = texts; joined = refl; one = refl; other = is }
are_split [] (x ∷ xs) ys is = absurd (let bad : [] ≡ x ∷ (xs ++ ys) = is in cc)
are_split (text ∷ texts) (x ∷ xs) ys is =
    let same : map path_of text ≡ x = cc in
    let more : map (map path_of) texts ≡ xs ++ ys = cc in
    let its = are_split texts xs ys more in
    record {
      first = text ∷ its.first;
      rest = its.rest;
      joined = ap (λ ts. text ∷ ts) its.joined;
      one = ap₂ (λ (p : List NodePath) (ps : List (List NodePath)). p ∷ ps) same its.one;
      other = its.other;
    }

module _ (settings : Settings) (excluded : List NodePath) (told : ToldKinds) (revisions : List (List Change))
    (trees : List Tree) (tells : TellsKinds told root_alone (placed_from 1 revisions))
    (is : loaded_over root_alone revisions ≡ Some trees) (names : have_node_names revisions ≡ true)
    (excludes : ExcludesPaths settings excluded) (named : list_all has_node_names excluded ≡ true)
    (is_apart : lie_apart excluded ≡ true)
    (none : all_rests Way.ToCopies excluded told (placed_from 1 revisions) (length (placed_from 1 revisions)) ≡ []) where
  abbrev here : List Placed
  here = placed_from 1 revisions

  -- the rests that a change takes to excluded paths
  abbrev pub lost_rests : Change → List NodePath
  lost_rests c = rests_made Way.ToSources excluded told here c.path c.made

  -- the paths that it takes to excluded paths
  abbrev pub lost : Change → List NodePath
  lost c = map (λ rest. c.path ++ rest) (lost_rests c)

  nothing_added : AddsNothing Way.ToCopies trees revisions excluded
  nothing_added = (all_rests_are_listed Way.ToCopies excluded told revisions trees here refl tells is).2 none

  -- a kept change of one of the revisions
  module _ (older : List Tree) (more : List Tree) (joined : trees ≡ older ++ more) (before after : Tree)
      (changes : List Change) (c : Change) (among : Contains revisions changes) (there : Contains changes c)
      (at : step (slice_get older) before c ≡ Some after) (kept : keeps settings c.path ≡ true) where
    -- a copy
    module _ (number : ℕ) (source : NodePath) (makes : c.made ≡ Some (Made.Copied number source)) where
      early : (old : Tree) × (slice_get older number ≡ Some old)
      early = copy_has_tree (slice_get older) before after c number source makes at

      copy : Copies trees revisions c.path source early.0
      copy = record {
        changes = changes;
        change = c;
        number = number;
        among = among;
        there = there;
        at = refl;
        copies = makes;
        tree = ap (λ ts. slice_get ts number) joined ∙ get_before older more number early.0 early.1;
      }

      over : IsCopyOver settings excluded (slice_get trees) early.0 c source
      unfolding copy
      over = each_copy_is_over settings excluded trees revisions c.path source early.0 is names excludes named copy

      over_older : IsCopyOver settings excluded (slice_get older) early.0 c source
      over_older = record {
        number = number;
        excludes = excludes;
        names = named;
        copies = makes;
        there = early.1;
        directories = over.directories;
        named = over.named;
        path = over.path;
      }

      back : ComesBack settings (slice_get older) c → ⊥
      back = (returns_tell_all settings excluded (slice_get older) early.0 c source over_older).2
          (nothing_added c.path source early.0 copy)

      its_rests : followed Way.ToSources excluded early.0 c.path source ≡ lost_rests c
      unfolding copy
      its_rests = sym (ap (rests_made Way.ToSources excluded told here c.path) makes
          ∙ followed_is_told Way.ToSources excluded told revisions trees number early.0 c.path source tells is copy.tree)

      trimmed_copy : IsTrimmed settings (slice_get older) before c (lost_rests c)
      trimmed_copy = inr (
        number,
        source,
        early.0,
        makes,
        early.1,
        back,
        subst (CoverTaken settings early.0 c.path source) its_rests
            (deletes_are_found settings excluded (slice_get trees) early.0 c source over is_apart kept),
      )

    -- a change that is no copy is separated
    apart_alone : ((number : ℕ) (source : NodePath) → c.made ≡ Some (Made.Copied number source) → ⊥)
        → (later : Tree) → step (slice_get older) before c ≡ Some later
        → Separates settings (slice_get older) before c later
    apart_alone no_copy later stepped = record {
      copy = λ yes number source made source_kept old early rest node stands. absurd (no_copy number source made);
      plain = λ yes number source made lost. absurd (no_copy number source made);
      dropped = λ left. absurd (let bad : true ≡ false = sym kept ∙ left in cc);
    }

    pub is_trimmed : IsTrimmed settings (slice_get older) before c (lost_rests c)
    is_trimmed = cases c.made refl
      where
        cases : (made : Option Made) → c.made ≡ made → IsTrimmed settings (slice_get older) before c (lost_rests c)
        cases None makes = inl (
          ap (rests_made Way.ToSources excluded told here c.path) makes,
          apart_alone (λ number source bad. let same : None ≡ Some (Made.Copied number source) = sym makes ∙ bad in cc),
        )
        cases (Some Made.NewDirectory) makes = inl (
          ap (rests_made Way.ToSources excluded told here c.path) makes,
          apart_alone (λ number source bad.
              let same : Some Made.NewDirectory ≡ Some (Made.Copied number source) = sym makes ∙ bad in cc),
        )
        cases (Some Made.NewFile) makes = inl (
          ap (rests_made Way.ToSources excluded told here c.path) makes,
          apart_alone (λ number source bad.
              let same : Some Made.NewFile ≡ Some (Made.Copied number source) = sym makes ∙ bad in cc),
        )
        cases (Some (Made.Copied number source)) makes = trimmed_copy number source makes

  -- whether a change is at a path that isn't excluded
  abbrev pub stays : Change → Bool
  stays c = not (is_covered excluded c.path)

  stays_kept : (c : Change) → has_node_names c.path ≡ true → keeps settings c.path ≡ stays c
  stays_kept c its = excluded_match settings excluded c.path excludes named its

  -- the paths that the changes of a revision take to excluded ones
  abbrev pub lost_of : List Change → List (List NodePath)
  lost_of changes = map lost (filter stays changes)

  lost_first : (c : Change) (changes : List Change) → stays c ≡ true → lost_of (c ∷ changes) ≡ lost c ∷ lost_of changes
  lost_first c changes there = ap (λ b. map lost (cond b (c ∷ filter stays changes) (filter stays changes))) there

  lost_behind : (c : Change) (changes : List Change) → stays c ≡ false → lost_of (c ∷ changes) ≡ lost_of changes
  lost_behind c changes gone = ap (λ b. map lost (cond b (c ∷ filter stays changes) (filter stays changes))) gone

  -- the paths that the changes of all revisions take to excluded ones
  abbrev pub all_lost : List (List Change) → List (List NodePath)
  all_lost [] = []
  all_lost (changes ∷ left) = lost_of changes ++ all_lost left

  module _ (older : List Tree) (more : List Tree) (joined : trees ≡ older ++ more) (changes : List Change)
      (among : Contains revisions changes) where
    -- the deletes of one revision
    changes_trimmed : (left : List Change) → ((c : Change) → Contains left c → Contains changes c)
        → list_all (λ (c : Change). has_node_names c.path) left ≡ true → (before tree : Tree)
        → steps (slice_get older) before left ≡ Some tree → (texts : List (List (List ℕ)))
        → map (map path_of) texts ≡ lost_of left
        → AreTrimming settings (slice_get older) before left (map delete_nodes texts)
    changes_trimmed [] each have before tree is [] same = refl
    changes_trimmed [] each have before tree is (text ∷ texts) same =
        absurd (let bad : map path_of text ∷ map (map path_of) texts ≡ [] = same in cc)
    changes_trimmed (c ∷ left) each have before tree loads texts same =
        cases (keeps settings c.path) refl (step (slice_get older) before c) refl loads texts same
        (λ after behind ts its. changes_trimmed left (λ d in_it. each d (contains_later c left d in_it)) parts.1 after tree
        behind ts its)
      where
        parts : (has_node_names c.path ≡ true) × (list_all (λ (d : Change). has_node_names d.path) left ≡ true)
        parts = and_parts (has_node_names c.path) (list_all (λ (d : Change). has_node_names d.path) left) have

        Later : Type 0
        Later = (after : Tree) → steps (slice_get older) after left ≡ Some tree → (ts : List (List (List ℕ)))
            → map (map path_of) ts ≡ lost_of left
            → AreTrimming settings (slice_get older) after left (map delete_nodes ts)

        same_after : (after other : Tree) → step (slice_get older) before c ≡ Some after
            → step (slice_get older) before c ≡ Some other → after ≡ other
        same_after after other one two = let both : Some after ≡ Some other = sym one ∙ two in cc

        cases : (b : Bool) → keeps settings c.path ≡ b → (o : Option Tree) → step (slice_get older) before c ≡ o
            → option_and_then (λ t. steps (slice_get older) t left) o ≡ Some tree → (ts : List (List (List ℕ)))
            → map (map path_of) ts ≡ lost_of (c ∷ left) → Later
            → AreTrimming settings (slice_get older) before (c ∷ left) (map delete_nodes ts)
        cases b kept None at bad ts same later = absurd (let worse : None ≡ Some tree = bad in cc)
        cases false left_out (Some after) at behind ts same later =
            at_false _ _ (keeps settings c.path) left_out
            (λ other stepped.
            later other
            (subst (λ t. steps (slice_get older) t left ≡ Some tree) (same_after after other at stepped) behind)
            ts (same ∙ lost_behind c left (sym (stays_kept c parts.0) ∙ left_out)))
        cases true kept (Some after) at behind [] same later =
            absurd (let bad : [] ≡ lost c ∷ lost_of left = same ∙ lost_first c left (sym (stays_kept c parts.0) ∙ kept) in cc)
        cases true kept (Some after) at behind (text ∷ ts) same later =
            let both : map path_of text ∷ map (map path_of) ts ≡ lost c ∷ lost_of left =
            same ∙ lost_first c left (sym (stays_kept c parts.0) ∙ kept) in
            let first : map path_of text ≡ lost c = cc in
            let others : map (map path_of) ts ≡ lost_of left = cc in
            at_true _ _ (keeps settings c.path) kept (
              delete_nodes text,
              map delete_nodes ts,
              lost_rests c,
              refl,
              deleted text ∙ (ap (map deletion_of) first ∙ deleted_below c.path (lost_rests c)),
              is_trimmed older more joined before after changes c among (each c (contains_first c left)) at kept,
              λ other stepped.
                  later other
                  (subst (λ t. steps (slice_get older) t left ≡ Some tree) (same_after after other at stepped) behind)
                  ts others,
            )

  -- of a revision, as many changes are written as stay
  as_many : (IsNew : NewProperty) (IsNumber : NewNumber) (changes new : List Change)
      → list_all (λ (c : Change). has_node_names c.path) changes ≡ true
      → AreNewChanges settings IsNew IsNumber changes new → length new ≡ length (lost_of changes)
  as_many IsNew IsNumber [] new have are = ap length are
  as_many IsNew IsNumber (c ∷ changes) new have are =
      cases (keeps settings c.path) refl (λ rest others. as_many IsNew IsNumber changes rest parts.1 others)
    where
      parts : (has_node_names c.path ≡ true) × (list_all (λ (d : Change). has_node_names d.path) changes ≡ true)
      parts = and_parts (has_node_names c.path) (list_all (λ (d : Change). has_node_names d.path) changes) have

      cases : (b : Bool) → keeps settings c.path ≡ b
          → ((rest : List Change) → AreNewChanges settings IsNew IsNumber changes rest → length rest ≡ length (lost_of changes))
          → length new ≡ length (lost_of (c ∷ changes))
      cases true kept further =
          let (one, rest, written, is_new, others) = MatchBool-at_true _ _ kept are in
          ap length written
          ∙ (ap suc (further rest others)
          ∙ sym (ap length (lost_first c changes (sym (stays_kept c parts.0) ∙ kept))))
      cases false left_out further =
          further new (MatchBool-at_false _ _ left_out are)
          ∙ sym (ap length (lost_behind c changes (sym (stays_kept c parts.0) ∙ left_out)))

  -- if none of the changes is kept, none stays
  none_lost : (changes : List Change) → list_all (λ (c : Change). has_node_names c.path) changes ≡ true
      → list_any (λ (c : Change). keeps settings c.path) changes ≡ false → lost_of changes ≡ []
  none_lost [] have none_kept = refl
  none_lost (c ∷ changes) have none_kept =
      let parts = and_parts (has_node_names c.path) (list_all (λ (d : Change). has_node_names d.path) changes) have in
      let (one, others) = or_parts (keeps settings c.path) (list_any (λ (d : Change). keeps settings d.path) changes) none_kept in
      lost_behind c changes (sym (stays_kept c parts.0) ∙ one) ∙ none_lost changes parts.1 others

  module _ (IsNew : NewProperty) (IsNumber : NewNumber) where
    -- the deletes of all revisions
    pub revisions_trimmed : (older : List Tree) (youngest : Tree) (left : List (List Change))
        → ((changes : List Change) → Contains left changes → Contains revisions changes)
        → have_node_names left ≡ true → loaded older youngest left ≡ Some trees → (written : List (List Change))
        → AreNewRevisions settings IsNew IsNumber (stays_empty settings) left written
        → (texts : List (List (List ℕ))) → map (map path_of) texts ≡ all_lost left
        → AreAllTrimming settings older youngest left (map (map delete_nodes) (parts_of (map length written) texts))
    revisions_trimmed older youngest [] each have loads written are texts same =
        ap (λ ws. map (map delete_nodes) (parts_of (map length ws) texts)) are
    revisions_trimmed older youngest (changes ∷ left) each have loads written are texts same =
        cases (keeps_revision settings (stays_empty settings) changes) refl
        (steps (slice_get older) youngest changes) refl loads
        (λ ts t behind ws new more its.
        revisions_trimmed ts t left (λ others in_it. each others (contains_later changes left others in_it)) parts.1 behind
        ws new more its)
      where
        parts : (list_all (λ (c : Change). has_node_names c.path) changes ≡ true) × (have_node_names left ≡ true)
        parts = and_parts (list_all (λ (c : Change). has_node_names c.path) changes) (have_node_names left) have

        split : AreSplit texts (lost_of changes) (all_lost left)
        split = are_split texts (lost_of changes) (all_lost left) same

        front : (more : List Tree) × (trees ≡ older ++ more)
        front = loaded_behind older youngest (changes ∷ left) trees loads

        Later : Type 0
        Later = (ts : List Tree) (t : Tree) → loaded ts t left ≡ Some trees → (ws : List (List Change))
            → AreNewRevisions settings IsNew IsNumber (stays_empty settings) left ws
            → (more : List (List (List ℕ))) → map (map path_of) more ≡ all_lost left
            → AreAllTrimming settings ts t left (map (map delete_nodes) (parts_of (map length ws) more))

        same_tree : (tree other : Tree) → steps (slice_get older) youngest changes ≡ Some tree
            → steps (slice_get older) youngest changes ≡ Some other → tree ≡ other
        same_tree tree other one two = let both : Some tree ≡ Some other = sym one ∙ two in cc

        moved : (tree other : Tree) → steps (slice_get older) youngest changes ≡ Some tree
            → steps (slice_get older) youngest changes ≡ Some other
            → loaded (older ++ tree ∷ []) tree left ≡ Some trees → loaded (older ++ other ∷ []) other left ≡ Some trees
        moved tree other one two behind =
            subst (λ t. loaded (older ++ t ∷ []) t left ≡ Some trees) (same_tree tree other one two) behind

        cases : (b : Bool) → keeps_revision settings (stays_empty settings) changes ≡ b
            → (o : Option Tree) → steps (slice_get older) youngest changes ≡ o
            → option_and_then (λ t. loaded (older ++ t ∷ []) t left) o ≡ Some trees → Later
            → AreAllTrimming settings older youngest (changes ∷ left)
            (map (map delete_nodes) (parts_of (map length written) texts))
        cases b kept None at bad later = absurd (let worse : None ≡ Some trees = bad in cc)
        cases false dropped (Some tree) at behind later =
            let nothing = none_lost changes parts.0 (not_kept_by settings changes dropped) in
            at_false _ _ (keeps_revision settings (stays_empty settings) changes) dropped
            (λ other stepped.
            later (older ++ other ∷ []) other (moved tree other at stepped behind) written
            (MatchBool-at_false _ _ dropped are) texts (same ∙ ap (λ ps. ps ++ all_lost left) nothing))
        cases true kept (Some tree) at behind later =
            let (new, others, written_is, one, further) = MatchBool-at_true _ _ kept are in
            let size : length new ≡ length split.first =
            as_many IsNew IsNumber changes new parts.0 one
            ∙ (sym (ap length split.one) ∙ length-map split.first (map path_of)) in
            at_true _ _ (keeps_revision settings (stays_empty settings) changes) kept (
              map delete_nodes split.first,
              map (map delete_nodes) (parts_of (map length others) split.rest),
              ap₂ (λ ws ts. map (map delete_nodes) (parts_of (map length ws) ts)) written_is split.joined
                  ∙ (ap (λ n. map delete_nodes (take n (split.first ++ split.rest))
                  ∷ map (map delete_nodes) (parts_of (map length others) (drop n (split.first ++ split.rest)))) size
                  ∙ ap₂ (λ (a b : List (List (List ℕ))). map delete_nodes a
                  ∷ map (map delete_nodes) (parts_of (map length others) b))
                  (take-append_seam split.first split.rest) (drop-append_seam split.first split.rest)),
              changes_trimmed older front.0 front.1 changes (each changes (contains_first changes left)) changes
                  (λ c in_it. in_it) parts.0 youngest tree at split.first split.one,
              λ other stepped.
                  later (older ++ other ∷ []) other (moved tree other at stepped behind) others further split.rest split.other,
            )

    -- as many changes are written as there are deletes
    pub sizes_are : (left written : List (List Change)) → have_node_names left ≡ true
        → AreNewRevisions settings IsNew IsNumber (stays_empty settings) left written
        → all_sizes (map length written) ≡ length (all_lost left)
    sizes_are [] written have are = ap (λ ws. all_sizes (map length ws)) are
    sizes_are (changes ∷ left) written have are =
        cases (keeps_revision settings (stays_empty settings) changes) refl
        (λ others more. sizes_are left others parts.1 more)
      where
        parts : (list_all (λ (c : Change). has_node_names c.path) changes ≡ true) × (have_node_names left ≡ true)
        parts = and_parts (list_all (λ (c : Change). has_node_names c.path) changes) (have_node_names left) have

        cases : (b : Bool) → keeps_revision settings (stays_empty settings) changes ≡ b
            → ((others : List (List Change))
            → AreNewRevisions settings IsNew IsNumber (stays_empty settings) left others
            → all_sizes (map length others) ≡ length (all_lost left))
            → all_sizes (map length written) ≡ length (all_lost (changes ∷ left))
        cases true kept further =
            let (new, others, written_is, one, more) = MatchBool-at_true _ _ kept are in
            ap (λ ws. all_sizes (map length ws)) written_is
            ∙ (ap₂ (λ n m. n + m) (as_many IsNew IsNumber changes new parts.0 one) (further others more)
            ∙ sym (length-append (lost_of changes) (all_lost left)))
        cases false dropped further =
            further written (MatchBool-at_false _ _ dropped are)
            ∙ sym (ap (λ ps. length (ps ++ all_lost left)) (none_lost changes parts.0 (not_kept_by settings changes dropped)))

  -- the paths are those that the placed changes take
  pub placed_lost : (number : ℕ) (left : List (List Change))
      → map (lost_paths excluded told here) (kept_changes excluded (placed_from number left)) ≡ all_lost left
  placed_lost number [] = refl
  placed_lost number (changes ∷ left) =
      ap (map (lost_paths excluded told here)) (filter-append (λ (p : Placed). not (is_covered excluded p.change.path))
      (map (λ (c : Change). record { revision = number; change = c }) changes) (placed_from (suc number) left))
      ∙ (map-append (lost_paths excluded told here) _ _
      ∙ ap₂ (λ (a b : List (List NodePath)). a ++ b) (of_one changes) (placed_lost (suc number) left))
    where
      of_one : (cs : List Change)
          → map (lost_paths excluded told here)
          (kept_changes excluded (map (λ (c : Change). record { revision = number; change = c }) cs))
          ≡ lost_of cs
      of_one [] = refl
      of_one (c ∷ cs) = cases (stays c) refl (of_one cs)
        where
          rest : List Placed
          rest = map (λ (d : Change). record { revision = number; change = d }) cs

          cases : (b : Bool) → stays c ≡ b
              → map (lost_paths excluded told here)
              (kept_changes excluded (map (λ (d : Change). record { revision = number; change = d }) cs))
              ≡ lost_of cs
              → map (lost_paths excluded told here)
              (kept_changes excluded (map (λ (d : Change). record { revision = number; change = d }) (c ∷ cs)))
              ≡ lost_of (c ∷ cs)
          cases true there further =
              ap (λ b. map (lost_paths excluded told here)
              (cond b (record { revision = number; change = c } ∷ kept_changes excluded rest) (kept_changes excluded rest))) there
              ∙ (ap (λ ps. lost c ∷ ps) further ∙ sym (lost_first c cs there))
          cases false gone further =
              ap (λ b. map (lost_paths excluded told here)
              (cond b (record { revision = number; change = c } ∷ kept_changes excluded rest) (kept_changes excluded rest))) gone
              ∙ (further ∙ sym (lost_behind c cs gone))
