-- The changes of an index, one after the other, and what is in their place.
use Rattle.std.proofs.Common.{◌≡◌, ℕ, suc, ◌+◌, ◌-◌, ◌<◌, ◌≤◌, true, false, List, [], ◌∷◌, ◌++◌, length, map, get_or, Option, Some, None, arith, refl, sym, ap, ◌∙◌, subst, append_assoc, append-nil, inl, inr}
use Rattle.std.specs.Prelude.{Err, IsNone, Ok, slice_get, take}
use Rattle.std.specs.List.{list_all}
use Rattle.std.proofs.lemmas.Bool.{and_from}
use Rattle.std.proofs.lemmas.List.{get_or-map, length-map, map-append, take_all, take_more}
use Rattle.std.proofs.lemmas.List.Folds.{list_all-append}
use Rattle.dump_trees.specs.Changes.{Made, is_copied}
use Rattle.dump_trees.specs.Paths.{NodePath, names_of}
use Rattle.dump_history.specs.WrittenNodes.{can_be_written}
use Rattle.dump_index.specs.steps.Listed.{Listed, listed_of}
use Rattle.dump_index.specs.declared.change.NodeChange.{NodeChange}
use Rattle.dump_index.specs.declared.change.Setting.TheVariants.{Keeps}
use Rattle.dump_index.proofs.KeyLemmas.{listed_at}
use Rattle.dump_changes.specs.steps.FileTexts.{ToldText}
use Rattle.dump_expansion.specs.steps.GivenSteads.{GivenStead}
use Rattle.dump_expansion.specs.steps.Given.{given_of}
use Rattle.dump_expansion.specs.declared.expanding.Stead as code
use Rattle.dump_additions.specs.steps.Additions.{Added, Cleared, Kept, NoChange, AreAdditionsFrom, BringsNone, copies_over}
use Rattle.dump_additions.specs.steps.FirstNotAdded.{CannotStay, IsFirstNotAdded}
use Rattle.dump_additions.specs.steps.Nodes.{IsAdditionOr}
use Rattle.dump_additions.specs.declared.not_added.Reason.{Reason}

-- a change that is no copy brings nothing
pub no_copy : (blocks : List (List ℕ)) (texts : List ToldText) (listed : List Listed) (excluded : List NodePath)
    (path : NodePath) (made : Option Made) → is_copied made ≡ false → BringsNone blocks texts listed excluded path made
no_copy blocks texts listed excluded path None isnt = tt
no_copy blocks texts listed excluded path (Some Made.NewDirectory) isnt = tt
no_copy blocks texts listed excluded path (Some Made.NewFile) isnt = tt
no_copy blocks texts listed excluded path (Some (Made.Copied number source)) isnt = absurd (let bad : true ≡ false = isnt in cc)

module _ (blocks : List (List ℕ)) (texts : List ToldText) (listed : List Listed) (excluded : List NodePath) where
  -- the state of the loop
  pub record IsGoingOn (place : ℕ) (done : List GivenStead) : Type 0 where
    pub goes_on : (rest : List Listed) (more : List GivenStead) → AreAdditionsFrom blocks texts listed excluded place rest more
        → AreAdditionsFrom blocks texts listed excluded 0 (take place listed ++ rest) (done ++ more)
    pub written : list_all (λ (g : GivenStead). list_all can_be_written g.nodes) done ≡ true

  -- if nothing is in place of the change, nothing comes back with it, and it is over nothing
  pub nothing_back : (at : ℕ) (l : Listed) (found : Option code.Stead) → ((s : code.Stead) → found ≡ Some s → ⊥)
      → IsAdditionOr blocks texts listed excluded at l (Ok found) → IsAdditionOr blocks texts listed excluded at l (Ok None)
  nothing_back at l None none is = is
  nothing_back at l (Some s) none is = absurd (none s refl)

  module _ (xs : List NodeChange) (xs_are : map listed_of xs ≡ listed) (place : ℕ) (d : NodeChange) (low : place < length xs)
      (done : List GivenStead) (going : IsGoingOn place done) where
    abbrev here : Listed
    here = listed_of (get_or xs place d)

    low_listed : place < length listed
    low_listed = subst (λ n. place < n) (sym (length-map xs listed_of) ∙ ap length xs_are) low

    here_is : get_or listed place (listed_of d) ≡ here
    here_is = ap (λ ls. get_or ls place (listed_of d)) (sym xs_are) ∙ get_or-map listed_of xs place d (listed_of d) low

    next : (more : List Listed) → take (place + 1) listed ++ more ≡ take place listed ++ here ∷ more
    next more =
        ap (λ ls. ls ++ more) (take_more listed place (listed_of d) low_listed ∙ ap (λ l. take place listed ++ l ∷ []) here_is)
        ∙ append_assoc (take place listed) (here ∷ []) more

    plus : place + 1 ≡ suc place
    plus = omega arith

    back_one : (place + 1) - 1 ≡ place
    back_one = omega arith

    pub kept_next : BringsNone blocks texts listed excluded (names_of here.path) here.made
        → copies_over listed place here ≡ false → IsGoingOn (place + 1) done
    kept_next none over = record {
      goes_on = λ rest more are.
          subst (λ ls. AreAdditionsFrom blocks texts listed excluded 0 ls (done ++ more)) (sym (next rest))
          (going.goes_on (here ∷ rest) more
          (Kept place here rest more none over (subst (λ n. AreAdditionsFrom blocks texts listed excluded n rest more) plus are)));
      written = going.written;
    }

    pub none_next : IsAdditionOr blocks texts listed excluded ((place + 1) - 1) here (Ok None) → IsGoingOn (place + 1) done
    none_next (none, over) = kept_next none (subst (λ n. copies_over listed n here ≡ false) back_one over)

    -- this may be in place of the change, or before it
    abbrev MayFollow : GivenStead → Type 0
    MayFollow g = (rest : List Listed) (more : List GivenStead)
        → AreAdditionsFrom blocks texts listed excluded (suc place) rest more
        → AreAdditionsFrom blocks texts listed excluded place (here ∷ rest) (g ∷ more)

    added_next : (g : GivenStead) → MayFollow g → list_all can_be_written g.nodes ≡ true → IsGoingOn (place + 1) (done ++ g ∷ [])
    added_next g follows ok = record {
      goes_on = λ rest more are.
          subst (AreAdditionsFrom blocks texts listed excluded 0 (take (place + 1) listed ++ rest)) (sym (append_assoc done (g ∷ []) more))
          (subst (λ ls. AreAdditionsFrom blocks texts listed excluded 0 ls (done ++ g ∷ more)) (sym (next rest))
          (going.goes_on (here ∷ rest) (g ∷ more)
          (follows rest more (subst (λ n. AreAdditionsFrom blocks texts listed excluded n rest more) plus are))));
      written =
          list_all-append (λ (x : GivenStead). list_all can_be_written x.nodes) done (g ∷ [])
          ∙ and_from _ _ going.written (and_from _ _ ok refl);
    }

    pub stopped : (reason : Reason) → IsAdditionOr blocks texts listed excluded ((place + 1) - 1) here (Err reason)
        → IsFirstNotAdded blocks texts listed excluded place reason
    stopped reason why = record {
      before = done;
      are_before =
          subst (λ ls. AreAdditionsFrom blocks texts listed excluded 0 ls done) (append-nil (take place listed))
          (subst (AreAdditionsFrom blocks texts listed excluded 0 (take place listed ++ [])) (append-nil done)
          (going.goes_on [] [] (NoChange place)));
      change = here;
      is_at = ap (λ ls. slice_get ls place) (sym xs_are) ∙ listed_at xs place d low;
      why = subst (λ n. CannotStay blocks texts listed excluded n here reason) back_one why;
    }

    pub going_further : (s : code.Stead) (new : List code.Stead) (old : List code.Stead) → done ≡ map given_of old
        → new ≡ old ++ s ∷ [] → IsAdditionOr blocks texts listed excluded ((place + 1) - 1) here (Ok (Some s))
        → IsGoingOn (place + 1) (map given_of new)
    going_further s new old done_is new_is found =
        subst (IsGoingOn (place + 1))
        (ap (λ (gs : List GivenStead). gs ++ given_of s ∷ []) done_is
        ∙ (sym (map-append given_of old (s ∷ [])) ∙ ap (map given_of) (sym new_is)))
        (elim (subst (λ n. IsAdditionOr blocks texts listed excluded n here (Ok (Some s))) back_one found) [
          | inl (addition, ok) ↦
              added_next (given_of s) (λ rest more are. Added place here rest (given_of s) more addition are) ok
          | inr (none, clears) ↦
              added_next (given_of s)
              (λ rest more are. Cleared place here rest (given_of s) more none clears.0 clears.1 are) clears.2
        ])

  pub all_done : (xs : List NodeChange) → map listed_of xs ≡ listed → (place : ℕ) → length xs ≤ place → (done : List GivenStead)
      → IsGoingOn place done → AreAdditionsFrom blocks texts listed excluded 0 listed done
  all_done xs xs_are place low done going =
      subst (AreAdditionsFrom blocks texts listed excluded 0 listed) (append-nil done)
      (subst (λ ls. AreAdditionsFrom blocks texts listed excluded 0 ls (done ++ [])) whole (going.goes_on [] [] (NoChange place)))
    where
      whole : take place listed ++ [] ≡ listed
      whole =
          append-nil (take place listed)
          ∙ take_all place listed (subst (λ n. n ≤ place) (sym (length-map xs listed_of) ∙ ap length xs_are) low)

-- the change that is used if there is none
abbrev pub no_change : NodeChange
no_change = record {
  path = record { ref_ptr = (0, 0); now = [] };
  deletes = false;
  made = None;
  props = Keeps;
  text = Keeps;
  revision = 0;
  record_number = 0;
}

pub none_of : {A : Type 0} (o : Option A) → ((x : A) → o ≡ Some x → ⊥) → IsNone o
none_of None none = refl
none_of (Some x) none = absurd (none x refl)
