-- Why a load rejects a change, as determined by what an index says of it.
use Rattle.std.proofs.Common.{◌≡◌, Option, Some, None, is_some, refl, [], ◌∷◌, Result, Ok, Err, IfOk}
use Rattle.dump_trees.specs.Changes.{PropertyChange, TextChange}
use Rattle.dump_trees.specs.LoadCheck.{sets_props}
use Rattle.dump_trees.specs.steps.LoadCheck.{Kinds, kind_left, kind_made}
use Rattle.dump_trees.specs.steps.Looking.{Placed}
use Rattle.dump_trees.specs.Paths.{names_of}
use Rattle.dump_trees.specs.Restriction.{is_root}
use Rattle.dump_index.specs.steps.IndexLaws.{HasProps, HasText, IsListed}
use Rattle.dump_index.specs.steps.Listed.{Listed}
use Rattle.dump_index.specs.declared.change.Setting.{Setting}
use Rattle.dump_index.specs.declared.change.Setting.TheVariants.{Keeps, Replaces, Edits, EditsNothing}
use Rattle.dump_cut.specs.steps.Rejections.{first_reason, deletion_rejected, making_rejected, setting_rejected, rejected_for}
use Rattle.dump_cut.specs.steps.KindViews.{sets_some}
use Rattle.dump_cut.specs.declared.rejection.Rejection.{Rejection}

-- what is true of a value, if there is one, is true in other words
pub in_ok : {A E : Type 0} (r : Result A E) (P Q : A → Type 0) → IfOk r P → ((a : A) → P a → Q a) → IfOk r Q
in_ok (Ok a) P Q holds more = more a holds
in_ok (Err e) P Q holds more = holds

props_set : (s : Setting) (o : Option PropertyChange) → HasProps s o → sets_props o ≡ sets_some s
props_set Keeps None has = refl
props_set Keeps (Some change) has = absurd has
props_set Replaces None has = absurd has
props_set Replaces (Some (PropertyChange.Replaced entries)) has = refl
props_set Replaces (Some (PropertyChange.Edited entries)) has = absurd has
props_set Edits None has = absurd has
props_set Edits (Some (PropertyChange.Replaced entries)) has = absurd has
props_set Edits (Some (PropertyChange.Edited [])) has = absurd has
props_set Edits (Some (PropertyChange.Edited (entry ∷ entries))) has = refl
props_set EditsNothing None has = absurd has
props_set EditsNothing (Some (PropertyChange.Replaced entries)) has = absurd has
props_set EditsNothing (Some (PropertyChange.Edited [])) has = refl
props_set EditsNothing (Some (PropertyChange.Edited (entry ∷ entries))) has = absurd has

text_set : (s : Setting) (o : Option TextChange) → HasText s o → is_some o ≡ sets_some s
text_set Keeps None has = refl
text_set Keeps (Some change) has = absurd has
text_set Replaces None has = absurd has
text_set Replaces (Some change) has = refl
text_set Edits None has = absurd has
text_set Edits (Some change) has = refl
text_set EditsNothing o has = absurd has

-- why a load rejects the change that an index says this of
abbrev pub rejected_listed : Listed → Kinds → Option Rejection
rejected_listed l kinds =
    first_reason (deletion_rejected l.deletes (is_root (names_of l.path)) kinds.here)
    (first_reason (making_rejected l.made (is_root (names_of l.path)) (kind_left l.deletes kinds.here) kinds)
    (setting_rejected (sets_some l.props) (sets_some l.text)
    (kind_made l.made (kind_left l.deletes kinds.here) kinds.source)))

pub listed_rejected : (l : Listed) (p : Placed) → IsListed l p → (kinds : Kinds)
    → rejected_for p.change kinds ≡ rejected_listed l kinds
listed_rejected l p its kinds =
    rw (its.path, its.deletes, its.made, props_set l.props p.change.props its.props, text_set l.text p.change.text its.text)
    refl
