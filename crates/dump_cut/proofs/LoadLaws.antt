-- What the first change that a load rejects decides.
use Rattle.std.proofs.Common.{◌≡◌, ℕ, zero, suc, ◌<◌, Bool, true, false, not, ◌&&◌, ◌||◌, ◌≤◌, List, [], ◌∷◌, length, map, Option, Some, None, is_some, is_none, option_and_then, refl, sym, ap, ap₂, ◌∙◌, arith}
use Rattle.std.proofs.lemmas.Bool.{and_from}
use Rattle.std.specs.List.{slice_get}
use Rattle.dump_trees.specs.Changes.{Made}
use Rattle.dump_trees.specs.LoadCheck.{sets_props}
use Rattle.dump_trees.specs.steps.LoadCheck.{Kind, Kinds, ToldKinds, kind_left, kind_made, kinds_told, deletion_allowed, making_allowed, is_directory, is_file, allowed_there, all_allowed, all_apply}
use Rattle.dump_trees.specs.steps.Looking.{Placed, placed_from}
use Rattle.dump_trees.specs.Paths.{NodePath, parent_of}
use Rattle.dump_trees.specs.Restriction.{is_root}
use Rattle.dump_trees.specs.Trees.{root_alone}
use Rattle.dump_trees.proofs.cuts.CheckedLoads.{dump_is_allowed, first_rejection_is_there, get_some}
use Rattle.dump_index.proofs.ToldLemmas.{index_tells_kinds}
use Rattle.dump_index.specs.steps.Listed.{listed_of}
use Rattle.dump_index.specs.steps.ToldKinds.{kinds_told_by}
use Rattle.dump_cut.specs.steps.LoadChecks.{NoneRejected, reason_there, RejectedIsFirst, UnrejectedLoads}
use Rattle.dump_cut.specs.steps.Rejections.{first_reason, deletion_rejected, parent_rejected, new_rejected, copying_rejected, making_rejected, props_rejected, text_rejected, RejectedIsNotAllowed}
use Rattle.dump_cut.specs.declared.rejection.Rejection.{Rejection}
use Rattle.std.proofs.Math.Bool.{and-false}
use Rattle.std.proofs.lemmas.Option.{slice_get_within}

-- two checks together give no reason exactly if neither gives one
first_none : (one other : Option Rejection) → is_none (first_reason one other) ≡ (is_none one && is_none other)
first_none None other = refl
first_none (Some reason) other = refl

deletion_is : (deletes root : Bool) (path : NodePath) (here : Option Kind) → root ≡ is_root path
    → is_none (deletion_rejected deletes root here) ≡ deletion_allowed deletes path here
deletion_is false root path here is = refl
deletion_is true true path here is = ap (λ b. not b && is_some here) is
deletion_is true false path None is = sym (and-false (not (is_root path)))
deletion_is true false path (Some kind) is = ap (λ b. not b && true) is

parent_is : (parent : Option Kind) → is_none (parent_rejected parent) ≡ is_directory parent
parent_is None = refl
parent_is (Some Kind.Directory) = refl
parent_is (Some Kind.File) = refl

new_is : (root : Bool) (left parent : Option Kind) → (root ≡ true → parent ≡ None)
    → is_none (new_rejected root left parent) ≡ (is_none left && is_directory parent)
new_is true left parent none = sym (ap (λ p. is_none left && is_directory p) (none refl) ∙ and-false (is_none left))
new_is false None parent none = parent_is parent
new_is false (Some kind) parent none = refl

copy_is : (root : Bool) (source parent : Option Kind) → (root ≡ true → parent ≡ None)
    → is_none (copying_rejected root source parent) ≡ (is_some source && is_directory parent)
copy_is true source parent none = sym (ap (λ p. is_some source && is_directory p) (none refl) ∙ and-false (is_some source))
copy_is false None parent none = refl
copy_is false (Some kind) parent none = parent_is parent

making_is : (made : Option Made) (root : Bool) (left : Option Kind) (kinds : Kinds) → (root ≡ true → kinds.parent ≡ None)
    → is_none (making_rejected made root left kinds) ≡ making_allowed made left kinds
making_is None root left kinds none = refl
making_is (Some Made.NewDirectory) root left kinds none = new_is root left kinds.parent none
making_is (Some Made.NewFile) root left kinds none = new_is root left kinds.parent none
making_is (Some (Made.Copied number source)) root left kinds none = copy_is root kinds.source kinds.parent none

props_is : (sets : Bool) (made : Option Kind) → is_none (props_rejected sets made) ≡ (not sets || is_some made)
props_is false made = refl
props_is true None = refl
props_is true (Some kind) = refl

text_is : (sets : Bool) (made : Option Kind) → is_none (text_rejected sets made) ≡ (not sets || is_file made)
text_is false made = refl
text_is true None = refl
text_is true (Some Kind.Directory) = refl
text_is true (Some Kind.File) = refl

and_moves : (a b c d : Bool) → (a && (b && (c && d))) ≡ (((a && b) && c) && d)
and_moves true true c d = refl
and_moves true false c d = refl
and_moves false b c d = refl

pub rejected_is_not_allowed : RejectedIsNotAllowed
rejected_is_not_allowed c kinds none =
    let root = is_root c.path in
    let left = kind_left c.deletes kinds.here in
    let made = kind_made c.made left kinds.source in
    let deletion = deletion_rejected c.deletes root kinds.here in
    let making = making_rejected c.made root left kinds in
    let props = props_rejected (sets_props c.props) made in
    let text = text_rejected (is_some c.text) made in
    first_none deletion (first_reason making (first_reason props text))
    ∙ ap₂ (λ a b. a && b) (deletion_is c.deletes root c.path kinds.here refl)
    (first_none making (first_reason props text)
    ∙ ap₂ (λ a b. a && b) (making_is c.made root left kinds none)
    (first_none props text ∙ ap₂ (λ a b. a && b) (props_is (sets_props c.props) made) (text_is (is_some c.text) made)))
    ∙ and_moves (deletion_allowed c.deletes c.path kinds.here) (making_allowed c.made left kinds)
    (not (sets_props c.props) || is_some made) (not (is_some c.text) || is_file made)

-- the changes one by one

-- no parent exists above the root
none_above : (told : ToldKinds) (placed : List Placed) (place : ℕ) (p : Placed) → is_root p.change.path ≡ true
    → (kinds_told told placed place p).parent ≡ None
none_above told placed place p root = cases p.change.path root
  where
    cases : (path : NodePath) → is_root path ≡ true
        → option_and_then (λ parent. told place parent) (parent_of path) ≡ None
    cases [] is = refl
    cases (name ∷ path) is = absurd (let bad : false ≡ true = is in cc)

reason_allows : (told : ToldKinds) (placed : List Placed) (place : ℕ) (p : Placed)
    → is_none (reason_there told placed place (Some p)) ≡ allowed_there told placed place (Some p)
reason_allows told placed place p =
    rejected_is_not_allowed p.change (kinds_told told placed place p) (none_above told placed place p)

pub none_allows : (told : ToldKinds) (placed : List Placed) (count : ℕ) → count ≤ length placed
    → NoneRejected told placed count → all_allowed told placed count ≡ true
none_allows told placed zero low none = refl
none_allows told placed (suc count) low none =
    let its = get_some placed count (omega (arith, low)) in
    and_from (all_allowed told placed count) (allowed_there told placed count (slice_get placed count))
    (none_allows told placed count (omega (arith, low)) (λ place less. none place (omega (arith, less))))
    (ap (allowed_there told placed count) its.1 ∙ sym (reason_allows told placed count its.0)
    ∙ sym (ap (λ o. is_none (reason_there told placed count o)) its.1)
    ∙ ap is_none (none count (omega arith)))

-- the laws

pub unrejected_loads : UnrejectedLoads
unrejected_loads changes revisions listed none apply =
    let placed = placed_from 1 revisions in
    let told = kinds_told_by (map listed_of changes) in
    dump_is_allowed told root_alone revisions (index_tells_kinds changes placed listed)
    ∙ and_from (all_allowed told placed (length placed)) (all_apply root_alone placed (length placed))
    (none_allows told placed (length placed) (omega arith) (none placed listed)) apply

pub rejected_is_first : RejectedIsFirst
rejected_is_first changes revisions r p listed found there apply =
    let placed = placed_from 1 revisions in
    let told = kinds_told_by (map listed_of changes) in
    let its = found placed listed in
    let low = slice_get_within placed r.place p there in
    first_rejection_is_there told root_alone revisions placed r.place p refl there (index_tells_kinds changes placed listed)
    (none_allows told placed r.place (omega (arith, low)) its.before) apply
    (sym (reason_allows told placed r.place p) ∙ sym (ap (λ o. is_none (reason_there told placed r.place o)) there)
    ∙ ap is_none its.there)
