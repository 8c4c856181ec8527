-- Each dump has an answer: from any records without a fault the filter goes on until it has one.
use Rattle.dump_filter.proofs.Prelude.{◌≡◌, ◌⊎◌, ℕ, ◌+◌, Bool, true, false, List, [], ◌∷◌, ◌++◌, length, refl, sym, ap, ◌∙◌, subst, append_assoc, inl, inr, IsTrue, Result, Ok, Err, FaultKind, DumpRecord, record_text, is_lawful, IsCutInto, Settings, Fate, kept_revisions, IsRecordFault, AreFaultFree, IsWrittenText, State, new_state, next_state, decided, Stands, verdict_exists}
use Rattle.std.proofs.lemmas.List.{append-nil}
use Rattle.dump_filter.proofs.knowing.StandsNext.{ended_text, becomes_ended}
use Rattle.dump_filter.proofs.answer.DecisionLemmas.{IsTaken, IsAnswer, answered}
use Rattle.dump_filter.proofs.knowing.AdvanceLemmas.{pending_readable, next_stands, piece_exists, end_exists, stands_written}
use Rattle.dump_filter.proofs.knowing.FilterLemmas.{written_as, new_stands, free_more, asked_properties}

-- each record's lines break no rule
abbrev pub AllLawful : List DumpRecord → Type 0
AllLawful [] = Unit {0}
AllLawful (r ∷ rs) = ((number : ℕ) × IsTrue (is_lawful number r.headers)) × AllLawful rs

-- the records into which a text is cut break no rule
pub all_lawful : (number place : ℕ) (text rest : List ℕ) (rs : List DumpRecord) → IsCutInto number place text rs rest
    → AllLawful rs
all_lawful number place text rest [] cut = tt
all_lawful number place text rest (r ∷ rs) (lfs, front, after, is, at, b, more) =
    ((number, b.lawful), all_lawful (number + 1) (r.place + length (record_text r)) after rest rs more)

-- the last ones of records that break no rule break none
pub lawful_behind : (rs ss : List DumpRecord) → AllLawful (rs ++ ss) → AllLawful ss
lawful_behind [] ss all = all
lawful_behind (r ∷ rs) ss all = lawful_behind rs ss all.1

-- the first ones of records that break no rule break none
pub lawful_front : (rs ss : List DumpRecord) → AllLawful (rs ++ ss) → AllLawful rs
lawful_front [] ss all = tt
lawful_front (r ∷ rs) ss all = (all.0, lawful_front rs ss all.1)

-- the state after these records, and what is written of them
pub record Reached (settings : Settings) (before : List DumpRecord) : Type 0 where
  pub state : State
  pub text : List ℕ
  pub stands : Stands settings before state text

-- before the first record nothing is written
pub reached_none : (settings : Settings) → Reached settings []
reached_none settings = record { state = new_state; text = []; stands = new_stands settings }

-- the text that was reached is what is written for these records
pub reached_written : (settings : Settings) (before : List DumpRecord) (reached : Reached settings before)
    → IsWrittenText settings false before reached.text
reached_written settings before d = stands_written settings before d.state d.text d.stands

-- the end after records without a fault
record End (settings : Settings) (before : List DumpRecord) (text : List ℕ) : Type 0 where
  more : List ℕ
  written : IsWrittenText settings true before (text ++ more)

reached_end : (settings : Settings) (before : List DumpRecord) → AreFaultFree settings before
    → (d : Reached settings before) → End settings before d.text
reached_end settings before free d =
    let readable = pending_readable settings before d.state d.stands.shape free in
    let end = end_exists settings d.state.revisions.kept d.state.group readable in
    record {
      more = end.0;
      written = ended_text settings before d.state d.text end.0 d.stands.shape d.stands.numbers readable
          d.stands.written end.1
          (kept_revisions settings before) (becomes_ended settings before d.state d.text d.stands);
    }

module _ (settings : Settings) (before : List DumpRecord) (free : AreFaultFree settings before)
    (reached : Reached settings before) (r : DumpRecord) (number : ℕ)
    (lawful : IsTrue (is_lawful number r.headers)) where
  -- each accepted record adds its text
  pub record Next : Type 0 where
    pub more : List ℕ
    pub still_free : AreFaultFree settings (before ++ r ∷ [])
    pub next : Reached settings (before ++ r ∷ [])
    pub text_is : next.text ≡ reached.text ++ more

  next_of : (checked : Bool) (fate : Fate) → IsTaken settings before reached.state r fate → Next
  next_of checked fate taken =
      let readable = pending_readable settings before reached.state reached.stands.shape free in
      let piece = piece_exists settings before reached.state r fate reached.stands.numbers readable taken in
      record {
        more = piece.0;
        still_free = free_more settings before r free taken.free;
        next = record {
          state = next_state settings reached.state r fate checked;
          text = reached.text ++ piece.0;
          stands = next_stands settings before reached.state reached.text r fate checked piece.0 reached.stands readable
              taken piece.1;
        };
        text_is = refl;
      }

  pub choice : Next ⊎ ((fault : FaultKind) × IsRecordFault settings before r fault)
  choice =
      let (v, means) = verdict_exists settings r in
      let (ps, asked) = asked_properties settings r v means in
      by_answer v.checked (decided settings reached.state r v ps)
      (answered settings before reached.state reached.text reached.stands number r lawful v means ps asked)
    where
      by_answer : (checked : Bool) (answer : Result Fate FaultKind) → IsAnswer settings before reached.state r answer
          → Next ⊎ ((fault : FaultKind) × IsRecordFault settings before r fault)
      by_answer checked (Ok fate) taken = inl (next_of checked fate taken)
      by_answer checked (Err fault) found = inr (fault, found)

-- records without a fault are reached
pub reach : (settings : Settings) (done rest : List DumpRecord) → AllLawful rest → AreFaultFree settings (done ++ rest)
    → AreFaultFree settings done → Reached settings done
    → Reached settings (done ++ rest)
reach settings done [] all free front reached = subst (Reached settings) (sym (append-nil done)) reached
reach settings done (r ∷ rest) all free front reached =
    let moved : (done ++ r ∷ []) ++ rest ≡ done ++ r ∷ rest = append_assoc done (r ∷ []) rest in
    elim (choice settings done front reached r all.0.0 all.0.1) [
      | inl next ↦ subst (Reached settings) moved
          (reach settings (done ++ r ∷ []) rest all.1
          (subst (AreFaultFree settings) (sym moved) free) next.still_free next.next)
      | inr found ↦ absurd (free done rest r refl found.0 found.1.holds)
    ]

-- how the filter goes on after some records
pub data Outcome (settings : Settings) (before rest : List DumpRecord) (text : List ℕ) : Type 0 where
  Stops : (mid after : List DumpRecord) (r : DumpRecord) (fault : FaultKind) → rest ≡ mid ++ r ∷ after
      → AreFaultFree settings (before ++ mid)
      → IsRecordFault settings (before ++ mid) r fault → (more : List ℕ)
      → IsWrittenText settings false (before ++ mid) (text ++ more)
      → Outcome settings before rest text
  Ends : AreFaultFree settings (before ++ rest) → (more : List ℕ)
      → IsWrittenText settings false (before ++ rest) (text ++ more)
      → (end : List ℕ) → IsWrittenText settings true (before ++ rest) ((text ++ more) ++ end)
      → Outcome settings before rest text

further : (settings : Settings) (before rest : List DumpRecord) (r : DumpRecord) (text turn next : List ℕ)
    → next ≡ text ++ turn
    → Outcome settings (before ++ r ∷ []) rest next → Outcome settings before (r ∷ rest) text
further settings before rest r text turn next is (Stops mid after x fault at free has more written) =
    let moved : (before ++ r ∷ []) ++ mid ≡ before ++ r ∷ mid = append_assoc before (r ∷ []) mid in
    let texts : next ++ more ≡ text ++ (turn ++ more) = ap (λ t. t ++ more) is ∙ append_assoc text turn more in
    Stops (r ∷ mid) after x fault (ap (λ (l : List DumpRecord). r ∷ l) at) (subst (AreFaultFree settings) moved free)
    (subst (λ (l : List DumpRecord). IsRecordFault settings l x fault) moved has) (turn ++ more)
    (written_as false (λ i. settings) moved texts written)
further settings before rest r text turn next is (Ends free more written end whole) =
    let moved : (before ++ r ∷ []) ++ rest ≡ before ++ r ∷ rest = append_assoc before (r ∷ []) rest in
    let texts : next ++ more ≡ text ++ (turn ++ more) = ap (λ t. t ++ more) is ∙ append_assoc text turn more in
    Ends (subst (AreFaultFree settings) moved free) (turn ++ more)
    (written_as false (λ i. settings) moved texts written) end
    (written_as true (λ i. settings) moved (ap (λ t. t ++ end) texts) whole)

-- lawful records after those without a fault end without one, or stop at the first that has one
pub follow : (settings : Settings) (before rest : List DumpRecord) → AllLawful rest → AreFaultFree settings before
    → (reached : Reached settings before)
    → Outcome settings before rest reached.text
follow settings before [] all free reached =
    let same : before ≡ before ++ [] = sym (append-nil before) in
    let texts : reached.text ≡ reached.text ++ [] = sym (append-nil reached.text) in
    let end = reached_end settings before free reached in
    Ends (subst (AreFaultFree settings) same free) []
    (written_as false (λ i. settings) same texts (reached_written settings before reached)) end.more
    (written_as true (λ i. settings) same (ap (λ t. t ++ end.more) texts) end.written)
follow settings before (r ∷ rest) all free reached =
    elim (choice settings before free reached r all.0.0 all.0.1) [
      | inl next ↦ further settings before rest r reached.text next.more next.next.text next.text_is
          (follow settings (before ++ r ∷ []) rest all.1 next.still_free next.next)
      | inr found ↦
          let same : before ≡ before ++ [] = sym (append-nil before) in
          Stops [] rest r found.0 refl (subst (AreFaultFree settings) same free)
          (subst (λ (l : List DumpRecord). IsRecordFault settings l r found.0) same found.1) []
          (written_as false (λ i. settings) same (sym (append-nil reached.text))
          (reached_written settings before reached))
    ]
