-- The text that a change sets.
use Rattle.dump_changes.proofs.Prelude.{◌≡◌, Bool, true, false, not, ◌&&◌, cond, Option, Some, None, sym, ap, DumpRecord, Patching, MakesChange}
use Rattle.dump_digest.specs.RecordParts.{has_text}
use Rattle.dump_records.specs.RecordText.{has_text_delta}
use Rattle.dump_trees.specs.Changes.{Change, TextChange}
use Rattle.dump_history.specs.RecordChanges.{has_known_action, has_undefined_delta, text_change_of}
use Rattle.dump_index.specs.steps.IndexLaws.{HasText}
use Rattle.dump_index.specs.steps.Settings.{is_replacing}
use Rattle.dump_index.specs.declared.change.Setting.{Setting}
use Rattle.dump_index.specs.declared.change.Setting.TheVariants.{Keeps, Replaces, Edits, EditsNothing}
use Rattle.dump_changes.proofs.ChangeLemmas.{told_change}

-- the text that a node's change sets
pub its_text : (patched : Patching) (r : DumpRecord) (c : Change) → MakesChange patched r c → text_change_of patched r ≡ c.text
its_text patched r c (ps, has, plain, is) = cases (has_known_action r && not (has_undefined_delta r)) is
  where
    set : Option Change → Option TextChange
    set None = None
    set (Some c) = c.text

    cases : (b : Bool) → cond b (Some (told_change patched r ps)) None ≡ Some c → text_change_of patched r ≡ c.text
    cases true is = ap set is
    cases false is = absurd (let bad : None ≡ Some c = is in cc)

-- a change that sets a whole text sets the text of its record
pub whole_set : (patched : Patching) (r : DumpRecord) (s : Setting) (t : Option TextChange) → text_change_of patched r ≡ t
    → HasText s t → is_replacing s ≡ true → t ≡ Some (TextChange.Replaced r.text)
whole_set patched r Keeps t its has whole = absurd (let bad : false ≡ true = whole in cc)
whole_set patched r Edits t its has whole = absurd (let bad : false ≡ true = whole in cc)
whole_set patched r EditsNothing t its has whole = absurd (let bad : false ≡ true = whole in cc)
whole_set patched r Replaces None its has whole = absurd has
whole_set patched r Replaces (Some (TextChange.Patched patch)) its has whole = absurd has
whole_set patched r Replaces (Some (TextChange.Replaced text)) its has whole =
    cases (has_text r) (has_text_delta r) its
  where
    cases : (some delta : Bool)
        → cond some (Some (cond delta (TextChange.Patched (patched r.text)) (TextChange.Replaced r.text))) None
        ≡ Some (TextChange.Replaced text)
        → Some (TextChange.Replaced text) ≡ Some (TextChange.Replaced r.text)
    cases false delta is = absurd (let bad : None ≡ Some (TextChange.Replaced text) = is in cc)
    cases true false is = sym is
    cases true true is =
        absurd (let bad : TextChange.Patched (patched r.text) ≡ TextChange.Replaced text =
        (let both : Some (TextChange.Patched (patched r.text)) ≡ Some (TextChange.Replaced text) = is in cc) in cc)
