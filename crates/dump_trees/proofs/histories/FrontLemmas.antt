-- The first revisions of a dump: what is written of them, their trees and their images, whatever follows them.
use Rattle.dump_trees.proofs.Prelude.{◌≡◌, suc, ◌+◌, MatchBool, refl, sym, ap, ◌∙◌, subst, arith, append-nil, append_assoc, slice_get, MatchBool-at_true, MatchBool-at_false, Settings, Tree, Change, steps, NewProperty, KeepsEntries, NewNumber, IsMade, loaded, AreNewChanges, EmptyRule, keeps_revision, AreNewRevisions, kept_of, IsWrittenNumber, FrontRestricts, EachFrontRestricts, BegunTreesStay}
use Rattle.std.proofs.Common.{Bool, true, false, List, [], ◌∷◌, ◌++◌, length, Option, Some, None, option_and_then}
use Rattle.dump_trees.proofs.histories.KeptNumbers.{length_push}
use Rattle.dump_trees.proofs.histories.HistoryLemmas.{front_follows}

-- what is written of the first revisions

module _ (settings : Settings) (IsNew : NewProperty) (IsNumber : NewNumber) (rule : EmptyRule) where
  -- what is written of two lists of revisions is what is written of the first one, and then that of the second one
  record Parted (front rest written : List (List Change)) : Type 0 where
    first : List (List Change)
    more : List (List Change)
    joined : written ≡ first ++ more
    of_front : AreNewRevisions settings IsNew IsNumber rule front first
    of_rest : AreNewRevisions settings IsNew IsNumber rule rest more

  one_kept : (changes : List Change) (front rest written : List (List Change)) (new : List Change)
      (tail : List (List Change))
      → written ≡ new ∷ tail → keeps_revision settings rule changes ≡ true
      → AreNewChanges settings IsNew IsNumber changes new
      → Parted front rest tail → Parted (changes ∷ front) rest written
  one_kept changes front rest written new tail at is new_changes p = record {
    first = new ∷ p.first;
    more = p.more;
    joined = at ∙ ap (λ w. new ∷ w) p.joined;
    of_front =
        subst (λ b. MatchBool b ((head : List Change) × (rest : List (List Change)) × (new ∷ p.first ≡ head ∷ rest)
        × AreNewChanges settings IsNew IsNumber changes head × AreNewRevisions settings IsNew IsNumber rule front rest)
        (AreNewRevisions settings IsNew IsNumber rule front (new ∷ p.first))) (sym is)
        (new, p.first, refl, new_changes, p.of_front);
    of_rest = p.of_rest;
  }

  one_dropped : (changes : List Change) (front rest written : List (List Change))
      → keeps_revision settings rule changes ≡ false → Parted front rest written → Parted (changes ∷ front) rest written
  one_dropped changes front rest written is p = record {
    first = p.first;
    more = p.more;
    joined = p.joined;
    of_front = subst (λ b. MatchBool b ((head : List Change) × (tail : List (List Change)) × (p.first ≡ head ∷ tail)
        × AreNewChanges settings IsNew IsNumber changes head × AreNewRevisions settings IsNew IsNumber rule front tail)
        (AreNewRevisions settings IsNew IsNumber rule front p.first)) (sym is) p.of_front;
    of_rest = p.of_rest;
  }

  parted : (front rest written : List (List Change))
      → AreNewRevisions settings IsNew IsNumber rule (front ++ rest) written
      → Parted front rest written
  parted [] rest written new = record { first = []; more = written; joined = refl; of_front = refl; of_rest = new }
  parted (changes ∷ front) rest written new =
      cases (parted front rest) (keeps_revision settings rule changes) refl
    where
      cases :
          ((w : List (List Change)) → AreNewRevisions settings IsNew IsNumber rule (front ++ rest) w
          → Parted front rest w)
          → (b : Bool) → keeps_revision settings rule changes ≡ b → Parted (changes ∷ front) rest written
      cases further true is =
          let parts = MatchBool-at_true _ _ is new in
          one_kept changes front rest written parts.0 parts.1 parts.2 is parts.3 (further parts.1 parts.4)
      cases further false is =
          one_dropped changes front rest written is (further written (MatchBool-at_false _ _ is new))

-- the law of the first revisions, for each relation of new properties that keeps entries
pub front_history : (settings : Settings) (IsNew : NewProperty) → KeepsEntries IsNew → FrontRestricts settings IsNew
front_history settings IsNew entries rule front rest written trees numbered at apart new =
    let parts = parted settings IsNew
    (IsWrittenNumber settings (kept_of settings rule (front ++ rest))) rule front rest written new in
    let loads = front_follows settings IsNew entries rule
    (kept_of settings rule (front ++ rest)) refl front rest parts.first trees
    refl numbered at apart parts.of_front in
    record {
      first = parts.first;
      more = parts.more;
      others = loads.0;
      begins = parts.joined;
      new = parts.of_front;
      loads = loads.1;
      size = loads.2;
      images = loads.3;
    }

-- the same for each way to make new properties, as the contract states it
pub each_front : EachFrontRestricts
each_front settings make entries = front_history settings (IsMade make) entries

-- trees of more revisions

-- the trees of a repository stay when more revisions are loaded
pub loaded_behind : (trees : List Tree) (youngest : Tree) (revisions : List (List Change)) (all : List Tree)
    → loaded trees youngest revisions ≡ Some all → (more : List Tree) × (all ≡ trees ++ more)
loaded_behind trees youngest [] all is =
    ([], sym (let both : Some trees ≡ Some all = is in let same : trees ≡ all = cc in same) ∙ sym (append-nil trees))
loaded_behind trees youngest (changes ∷ revisions) all is =
    cases (λ t. loaded_behind (trees ++ t ∷ []) t revisions all) (steps (slice_get trees) youngest changes) is
  where
    cases :
        ((t : Tree) → loaded (trees ++ t ∷ []) t revisions ≡ Some all → (more : List Tree)
        × (all ≡ (trees ++ t ∷ []) ++ more))
        → (o : Option Tree) → option_and_then (λ t. loaded (trees ++ t ∷ []) t revisions) o ≡ Some all
        → (more : List Tree) × (all ≡ trees ++ more)
    cases further None bad = absurd (let worse : None ≡ Some all = bad in cc)
    cases further (Some t) found =
        let behind = further t found in (t ∷ behind.0, behind.1 ∙ append_assoc trees (t ∷ []) behind.0)

begun : (trees : List Tree) (youngest : Tree) (front rest : List (List Change)) (all : List Tree)
    → loaded trees youngest (front ++ rest) ≡ Some all
    → (first more : List Tree) × (loaded trees youngest front ≡ Some first) × (all ≡ first ++ more)
begun trees youngest [] rest all is =
    let behind = loaded_behind trees youngest rest all is in (trees, behind.0, refl, behind.1)
begun trees youngest (changes ∷ front) rest all is =
    cases (λ t. begun (trees ++ t ∷ []) t front rest all) (steps (slice_get trees) youngest changes) is
  where
    cases : ((t : Tree) → loaded (trees ++ t ∷ []) t (front ++ rest) ≡ Some all
        → (first more : List Tree) × (loaded (trees ++ t ∷ []) t front ≡ Some first) × (all ≡ first ++ more))
        → (o : Option Tree) → option_and_then (λ t. loaded (trees ++ t ∷ []) t (front ++ rest)) o ≡ Some all
        → (first more : List Tree) × (option_and_then (λ t. loaded (trees ++ t ∷ []) t front) o ≡ Some first)
        × (all ≡ first ++ more)
    cases further None bad = absurd (let worse : None ≡ Some all = bad in cc)
    cases further (Some t) found = further t found

-- if more revisions load, the first ones do
pub begun_trees : BegunTreesStay
begun_trees first front rest all is = begun (first ∷ []) first front rest all is

-- a load has a tree for each revision after those that existed before
pub loaded_length : (trees : List Tree) (youngest : Tree) (revisions : List (List Change)) (all : List Tree)
    → loaded trees youngest revisions ≡ Some all → length all ≡ length trees + length revisions
loaded_length trees youngest [] all is =
    let same : trees ≡ all = (let both : Some trees ≡ Some all = is in cc) in
    ap (λ ts. length ts) (sym same) ∙ (let none : length trees ≡ length trees + 0 = omega arith in none)
loaded_length trees youngest (changes ∷ revisions) all is =
    cases (λ t. loaded_length (trees ++ t ∷ []) t revisions all) (steps (slice_get trees) youngest changes) is
  where
    cases : ((t : Tree) → loaded (trees ++ t ∷ []) t revisions ≡ Some all
        → length all ≡ length (trees ++ t ∷ []) + length revisions)
        → (o : Option Tree) → option_and_then (λ t. loaded (trees ++ t ∷ []) t revisions) o ≡ Some all
        → length all ≡ length trees + suc (length revisions)
    cases further None bad = absurd (let worse : None ≡ Some all = bad in cc)
    cases further (Some t) found =
        further t found ∙ (ap (λ n. n + length revisions) (length_push trees t)
        ∙ (let next : suc (length trees) + length revisions ≡ length trees + suc
        (length revisions) = omega arith in next))
