-- There is only one list of a dump's records, of its changes, of its properties and of its trees.
use Rattle.dump_history.proofs.Prelude.{◌≡◌, suc, refl, sym, ap, ◌∙◌, subst, AllZip, Property, Ending, HasRecords, DumpRecord, records_once, HasPropertyList, property_list_once, Group, groups, revision_numbers, Tree, Change, loaded_over, revisions_behind, Patching, MakesChange, HaveRevisionProperties, LoadsWithGapsAs, NoGapIsNeeded, DumpLoadsOnce, NoGapIsNeededInPart}
use Rattle.std.proofs.Common.{ℕ, List, [], ◌∷◌, Some}
use Rattle.dump_history.proofs.again.NodeChanges.{change_once}
use Rattle.dump_history.proofs.again.GapNumbers.{no_gap}
use Rattle.dump_history.proofs.again.DumpAgain.{numbered_from, counts_without}
use Rattle.dump_history.proofs.restricted.PartNumbers.{raised_counts}

-- if each item has only one partner, a list has only one list of partners
pub partners_once : {A B : Type 0} (R : A → B → Type 0) → ((x : A) (y z : B) → R x y → R x z → y ≡ z)
    → (xs : List A) (ys zs : List B) → AllZip R xs ys → AllZip R xs zs → ys ≡ zs
partners_once R once [] [] [] all more = refl
partners_once R once [] [] (z ∷ zs) all more = absurd more
partners_once R once [] (y ∷ ys) zs all more = absurd all
partners_once R once (x ∷ xs) [] zs all more = absurd all
partners_once R once (x ∷ xs) (y ∷ ys) [] all more = absurd more
partners_once R once (x ∷ xs) (y ∷ ys) (z ∷ zs) all more =
    λ i. once x y z all.0 more.0 i ∷ partners_once R once xs ys zs all.1 more.1 i

-- the nodes of a group make only one list of changes
pub changes_once : (patched : Patching) (g : Group) (changes others : List Change)
    → AllZip (MakesChange patched) g.nodes changes
    → AllZip (MakesChange patched) g.nodes others → changes ≡ others
changes_once patched g changes others all more =
    partners_once (MakesChange patched) (change_once patched) g.nodes changes others all more

-- the groups make only one list of revisions
pub revisions_once : (patched : Patching) (gs : List Group) (revisions others : List (List Change))
    → AllZip (λ (g : Group) changes. AllZip (MakesChange patched) g.nodes changes) gs revisions
    → AllZip (λ (g : Group) changes. AllZip (MakesChange patched) g.nodes changes) gs others → revisions ≡ others
revisions_once patched gs revisions others all more =
    partners_once (λ (g : Group) changes. AllZip (MakesChange patched) g.nodes changes) (changes_once patched)
    gs revisions others all more

-- the same for their changes after one first list
pub later_once : (patched : Patching) (gs : List Group) (first : List Change) (revisions others : List (List Change))
    → AllZip (λ (g : Group) changes. AllZip (MakesChange patched) g.nodes changes) gs (first ∷ revisions)
    → AllZip (λ (g : Group) changes. AllZip (MakesChange patched) g.nodes changes) gs (first ∷ others)
    → revisions ≡ others
later_once patched gs first revisions others all more =
    tail_once (revisions_once patched gs (first ∷ revisions) (first ∷ others) all more)
  where
    tail_of : List (List Change) → List (List Change)
    tail_of [] = []
    tail_of (changes ∷ rest) = rest

    tail_once : first ∷ revisions ≡ first ∷ others → revisions ≡ others
    tail_once same = ap tail_of same

-- each revision of the groups has only one list of properties
pub revision_properties_once : (gs : List Group) (props others : List (List Property))
    → AllZip (λ (g : Group) ps. HasPropertyList g.revision ps) gs props
    → AllZip (λ (g : Group) ps. HasPropertyList g.revision ps) gs others → props ≡ others
revision_properties_once gs props others all more =
    partners_once (λ (g : Group) ps. HasPropertyList g.revision ps)
    (λ g ps qs. property_list_once g.revision ps qs) gs props others all more

-- a text has only one list of records to its end
pub whole_records_once : (dump : List ℕ) (records others : List DumpRecord) → HasRecords dump records Ending.Whole
    → HasRecords dump others Ending.Whole → records ≡ others
whole_records_once dump records others has more =
    (records_once dump records others Ending.Whole Ending.Whole has more).0

-- revisions that load leave only one list of trees
pub trees_once : (first : Tree) (revisions others : List (List Change)) (trees more : List Tree) → revisions ≡ others
    → loaded_over first revisions ≡ Some trees → loaded_over first others ≡ Some more → trees ≡ more
trees_once first revisions others trees more same loads loads_too =
    some_once (sym loads ∙ ap (loaded_over first) same ∙ loads_too)
  where
    some_once : {x y : List Tree} → Some x ≡ Some y → x ≡ y
    some_once e = cc

-- a dump without gaps in its numbers is a dump that may have gaps
pub no_gap_is_needed : NoGapIsNeeded
no_gap_is_needed patched records revisions makes =
    let (later, begins, counts) = counts_without patched (groups records) revisions
    (numbered_from 0 (groups records) makes.numbered) makes.changes in
    record { later = later; begins = begins; numbered = counts; ordered = makes.ordered; changes = makes.changes }

-- so is a partial dump
pub no_gap_is_needed_in_part : NoGapIsNeededInPart
no_gap_is_needed_in_part patched before records revisions makes = record {
  numbered = sym (raised_counts before (suc before) (revision_numbers records) revisions)
      ∙ no_gap patched (suc before) (groups records) (revisions_behind before revisions)
      (numbered_from (suc before) (groups records) makes.numbered) makes.changes;
  ordered = makes.ordered;
  changes = makes.changes;
}

-- a dump has only one list of records, of revisions, of properties and of trees
pub dump_loads_once : DumpLoadsOnce
dump_loads_once patched first dump records others revisions more trees others_trees props others_props has has_too loads
    loads_too have have_too =
    let same = sym (whole_records_once dump records others has has_too) in
    let makes = subst (λ (l : List DumpRecord). LoadsWithGapsAs patched first l more others_trees) same loads_too in
    let one = later_once patched (groups records) [] more revisions makes.makes.changes loads.makes.changes in (
      same,
      one,
      trees_once first more revisions others_trees trees one makes.loads loads.loads,
      revision_properties_once (groups records) others_props props
          (subst (λ (l : List DumpRecord). HaveRevisionProperties l others_props) same have_too) have,
    )
