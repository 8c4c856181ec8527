-- From what was written for the records so far, and from how they end, to what is written for one more record.
use Rattle.dump_filter.proofs.Prelude.{◌≡◌, ℕ, ◌+◌, ◌<◌, ◌≤◌, ◌==◌, Bool, true, false, not, ◌||◌, List, [], ◌∷◌, ◌++◌, length, refl, sym, ap, ◌∙◌, subst, arith, append_assoc, length-append, Option, Some, None, All, MatchOption, if◌then◌else◌, MatchBool, ⊤, list_all, list_any, last_or, All-cons, All-nil, last_or_pushed, block_text, DumpRecord, Settings, KeptRevisions, is_revision_record, is_node, is_kept_node, HasPropertyBlock, CopyChange, Report, keeps_group, revision_number, revision_numbers, first_number, present_revision, kept_revisions, keeps_empty, IsNewCopy, ends_in_group, IsNodeOutput, copied_headers, AreOutputs, PendingRevision, PresentGroup, State, no_revisions, node_revision, NoGroup, Pending, Written, stays, pads, IsOwnRevision, IsOwnNode, IsEndText, IsFrontText, with_kept, front_kept, end_kept, with_kept_revision, with_dropped_revision, end_report, opened, ended, emptied, started, begun, takes_node, HasNoSource, is_plain, kept_numbers, dropped_groups, in_group, Shape, GoesOn, MayBecome, AreRising, AreKept, Stands, HasCounts, Fresh, Idle, Passed, Waits, false_true, first_true, second_true}
use Rattle.std.proofs.lemmas.List.{append-nil}
use Rattle.dump_filter.proofs.groups.GroupLemmas.{plain_node, plain_more, any_more, plain_other, passed_more, passed_end, waits_more, waits_on, waits_kept, waits_dropped, idle_end, revision_more, other_more, OwnOutput, unpadded}
use Rattle.dump_filter.proofs.groups.KeptLemmas.{lowered, front_reopened, end_reopened, front_rising, end_rising, next_rising, first_rising, below_pending}
use Rattle.dump_filter.proofs.answer.MergeLemmas.{IsForeign}
use Rattle.dump_filter.proofs.written.OwnLemmas.{revision_out, pads_is, node_out}
use Rattle.dump_filter.proofs.groups.NumberLemmas.{present_other, present_group, first_other, first_stays, first_begins, kept_group, kept_other, group_counts, other_counts, passed_keeps}

-- the properties of a pending revision can be read
abbrev pub IsReadable : PresentGroup → Type 0
IsReadable (Pending w) = HasPropertyBlock w.revision
IsReadable _ = Unit {0}

-- the number of the group's revision, if it is kept
abbrev number_if : Bool → DumpRecord → List ℕ
number_if b y = if b then revision_number y ∷ [] else []

-- a group without a kept node is kept if its pending revision is
stays_is : (settings : Settings) (y : DumpRecord) (ns : List DumpRecord) → list_any (is_kept_node settings) ns ≡ false
    → keeps_group settings (record { revision = y; nodes = ns })
    ≡ stays settings (record { revision = y; bare = length ns == 0 })
stays_is settings y ns none =
    ap (λ b. revision_number y == 0 || b || keeps_empty settings.empty (length ns == 0)) none
    ∙ mix (revision_number y == 0) (keeps_empty settings.empty (length ns == 0))
  where
    mix : (a b : Bool) → ((a || false) || b) ≡ (a || b)
    mix true b = refl
    mix false b = refl

-- the first revision is still the first
pub end_first : (settings : Settings) (kept : KeptRevisions) (group : PresentGroup)
    → (end_kept settings kept group).first ≡ kept.first
end_first settings kept NoGroup = refl
end_first settings kept Written = refl
end_first settings kept (Pending w) = by_case (stays settings w)
  where
    by_case : (b : Bool) → (if b then with_kept kept w.revision else kept).first ≡ kept.first
    by_case true = refl
    by_case false = refl

-- the kept revisions if the list ends here
pub ended_numbers : (settings : Settings) (before : List DumpRecord) (s : State) → Shape settings before s
    → (end_kept settings s.revisions.kept s.group).numbers ≡ kept_numbers settings before
ended_numbers settings before s (Fresh t c) = c.numbers_are
ended_numbers settings before s (Idle t closed y other no_rev c) =
    c.numbers_are ∙ sym (kept_other settings closed y other no_rev)
ended_numbers settings before s (Passed t closed y ns other rev all some c) =
    c.numbers_are
    ∙ sym (kept_group settings closed ns y other rev all
    ∙ ap (λ b. kept_numbers settings closed ++ number_if b y) (passed_keeps settings y ns some))
ended_numbers settings before s (Waits t closed y ns other rev all none c) =
    by_case (stays settings (record { revision = y; bare = length ns == 0 }))
    ∙ ap (λ (ms : List ℕ). ms ++ number_if (stays settings (record { revision = y; bare = length ns == 0 })) y)
    c.numbers_are
    ∙ ap (λ b. kept_numbers settings closed ++ number_if b y) (sym (stays_is settings y ns none))
    ∙ sym (kept_group settings closed ns y other rev all)
  where
    by_case : (b : Bool) → (if b then with_kept t.revisions.kept y else t.revisions.kept).numbers
        ≡ t.revisions.kept.numbers ++ number_if b y
    by_case true = refl
    by_case false = sym (append-nil t.revisions.kept.numbers)

-- and the dropped ones
pub ended_dropped : (settings : Settings) (before : List DumpRecord) (s : State) → Shape settings before s
    → (end_report settings s.group s.report).revisions_dropped ≡ dropped_groups settings before
ended_dropped settings before s (Fresh t c) = c.dropped_are
ended_dropped settings before s (Idle t closed y other no_rev c) =
    c.dropped_are ∙ sym (other_counts (λ g. not (keeps_group settings g)) closed y other no_rev)
ended_dropped settings before s (Passed t closed y ns other rev all some c) =
    c.dropped_are
    ∙ sym (group_counts (λ g. not (keeps_group settings g)) closed ns y other rev all
    ∙ rw (passed_keeps settings y ns some) (omega arith))
ended_dropped settings before s (Waits t closed y ns other rev all none c) =
    by_case (stays settings (record { revision = y; bare = length ns == 0 }))
    ∙ ap (λ b. dropped_groups settings closed + (if not b then 1 else 0)) (sym (stays_is settings y ns none))
    ∙ sym (group_counts (λ g. not (keeps_group settings g)) closed ns y other rev all)
  where
    by_case : (b : Bool) → (if b then with_kept_revision t.report else with_dropped_revision t.report).revisions_dropped
        ≡ dropped_groups settings closed + (if not b then 1 else 0)
    by_case true = let is = c.dropped_are in omega (arith, is)
    by_case false = let is = c.dropped_are in omega (arith, is)

-- what was written for the list so far
abbrev IsText : Settings → List DumpRecord → State → List ℕ → Type 0
IsText settings before s text =
    (whole : KeptRevisions) → MayBecome s whole → AreOutputs settings false whole before text

-- the end of a list
pub ended_text : (settings : Settings) (before : List DumpRecord) (s : State) (text end : List ℕ)
    → Shape settings before s → AreKept s.revisions s.group → IsReadable s.group
    → IsText settings before s text → IsEndText settings s.revisions.kept s.group end
    → (whole : KeptRevisions) → MayBecome (ended settings s) whole → AreOutputs settings true whole before (text ++ end)
ended_text settings before s text end (Fresh t c) up readable written ends whole may =
    ap (λ e. text ++ e) ends ∙ append-nil text ∙ written whole may
ended_text settings before s text end (Idle t closed y other no_rev c) up readable written ends whole may =
    subst (AreOutputs settings true whole (closed ++ y ∷ [])) (sym (ap (λ e. text ++ e) ends ∙ append-nil text))
    (idle_end settings whole closed y text other no_rev (written whole may))
ended_text settings before s text end (Passed t closed y ns other rev all some c) up readable written ends whole may =
    subst (AreOutputs settings true whole (closed ++ y ∷ ns)) (sym (ap (λ e. text ++ e) ends ∙ append-nil text))
    (passed_end settings whole closed ns y text other rev all (written whole may) some)
ended_text settings before s text end (Waits t closed y ns other rev all none c) up readable written ends whole may =
    by_case (stays settings w) refl ends
  where
    w : PendingRevision
    w = record { revision = y; bare = length ns == 0 }

    g : GoesOn t.revisions.kept (revision_number y) whole
    g = end_reopened settings t.revisions.kept whole (Pending (record { revision = y; bare = length ns == 0 }))
        (revision_number y) (revision_number y + 1) up (omega arith) may

    by_case : (b : Bool) → stays settings w ≡ b
        → MatchBool b (IsOwnRevision settings t.revisions.kept y (pads settings w) end) (end ≡ [])
        → AreOutputs settings true whole (closed ++ y ∷ ns) (text ++ end)
    by_case true is own =
        waits_kept settings whole closed ns y text other rev all (written whole g) end none
        (stays_is settings y ns none ∙ is)
        (revision_out settings t.revisions.kept (revision_number y) whole y ns (pads settings w) end g (omega arith)
        (below_pending t.revisions.kept w (revision_number y) up) readable
        (pads_is settings y ns none) own)
    by_case false is own =
        subst (AreOutputs settings true whole (closed ++ y ∷ ns)) (sym (ap (λ e. text ++ e) own ∙ append-nil text))
        (waits_dropped settings whole closed ns y text other rev all (written whole g) none
        (stays_is settings y ns none ∙ is))

-- a list ends in a group after a revision and plain nodes
ends_behind : (x : DumpRecord) (ns : List DumpRecord) → ends_in_group (Some x) ≡ true → list_all is_plain ns ≡ true
    → ends_in_group (last_or (Some x) ns) ≡ true
ends_behind x [] ends all = ends
ends_behind x (n ∷ ns) ends all =
    ends_behind n ns (rw (
      plain_node n (first_true (is_plain n) (list_all is_plain ns) all),
      plain_other n
          (first_true (is_plain n) (list_all is_plain ns) all),
    ) refl)
    (second_true (is_plain n) (list_all is_plain ns) all)

ends_so : (first : Option DumpRecord) (closed : List DumpRecord) (y : DumpRecord) (ns : List DumpRecord)
    → is_revision_record y ≡ true → list_all is_plain ns ≡ true
    → ends_in_group (last_or first (closed ++ y ∷ ns)) ≡ true
ends_so first [] y ns rev all = ends_behind y ns (ap (λ b. b || is_node y) rev) all
ends_so first (x ∷ closed) y ns rev all = ends_so (Some x) closed y ns rev all

-- a node may follow if there is a group
pub ends_open : (settings : Settings) (before : List DumpRecord) (s : State) → Shape settings before s
    → ends_in_group (last_or None before) ≡ takes_node s.group
ends_open settings before s (Fresh t c) = refl
ends_open settings before s (Idle t closed y other no_rev c) =
    ap ends_in_group (last_or_pushed None closed y) ∙ rw (no_rev, other) refl
ends_open settings before s (Passed t closed y ns other rev all some c) = ends_so None closed y ns rev all
ends_open settings before s (Waits t closed y ns other rev all none c) = ends_so None closed y ns rev all

-- a node in a group
module _ (settings : Settings) (r : DumpRecord) (plain : is_plain r ≡ true) (text : List ℕ) where
  -- a node joins the last group: the present revision and the first one are unchanged
  joined : (t u : State) (closed ns : List DumpRecord) (y : DumpRecord) (group next : PresentGroup) (new : List ℕ)
      → Stands settings (closed ++ y ∷ ns) (in_group t group y) text → u.revisions.kept.first ≡ t.revisions.kept.first
      → Shape settings (closed ++ y ∷ (ns ++ r ∷ [])) (in_group u next y)
      → AreRising u.revisions.kept (revision_number y) next
      → ((whole : KeptRevisions) → MayBecome (in_group u next y) whole
      → AreOutputs settings false whole (closed ++ y ∷ (ns ++ r ∷ [])) new)
      → Stands settings ((closed ++ y ∷ ns) ++ r ∷ []) (in_group u next y) new
  joined t u closed ns y group next new st first shape rising written =
      let more : closed ++ y ∷ (ns ++ r ∷ []) ≡ (closed ++ y ∷ ns) ++ r ∷ [] =
      sym (append_assoc closed (y ∷ ns) (r ∷ [])) in
      record {
        present_is = st.present_is ∙ sym (present_other (closed ++ y ∷ ns) r (plain_other r plain));
        first_is = first ∙ st.first_is ∙ sym (first_other (closed ++ y ∷ ns) r (plain_other r plain));
        shape = subst (λ (l : List DumpRecord). Shape settings l (in_group u next y)) more shape;
        numbers = rising;
        written = λ whole may. subst (λ (l : List DumpRecord). AreOutputs settings false whole l new) more
            (written whole may);
      }

  -- after a group that is written, what is written for the node is added
  joined_written : (t : State) (closed ns : List DumpRecord) (y : DumpRecord) (report : Report) (own : List ℕ)
      → is_node y ≡ false → is_revision_record y ≡ true → list_all is_plain ns ≡ true
      → list_any (is_kept_node settings) ns ≡ true
      → HasCounts t (kept_numbers settings closed ++ revision_number y ∷ []) (dropped_groups settings closed)
      → Stands settings (closed ++ y ∷ ns) (in_group t Written y) text
      → report.revisions_dropped ≡ t.report.revisions_dropped
      → ((whole : KeptRevisions) → GoesOn t.revisions.kept (revision_number y + 1) whole
      → OwnOutput settings whole r own)
      → Stands settings ((closed ++ y ∷ ns) ++ r ∷ []) (in_group (record t { report = report }) Written y) (text ++ own)
  joined_written t closed ns y report own other rev all some c st same mine =
      let more = any_more settings ns r ∙ ap (λ b. b || is_kept_node settings r) some in
      let u : State = record t { report = report } in
      joined t u closed ns y Written Written (text ++ own) st refl
      (Passed u closed y (ns ++ r ∷ []) other rev (plain_more ns r all plain) more
      (record { numbers_are = c.numbers_are; dropped_are = same ∙ c.dropped_are }))
      st.numbers
      (λ whole may. passed_more settings whole closed ns y text other rev all (st.written whole may) r own plain some
      (mine whole may))

  -- after a kept node its revision, if it was pending, and the node are written, too
  pub keep_stands : (before : List DumpRecord) (s : State) (copy : CopyChange) (report : Report) (front own : List ℕ)
      → Shape settings before s → Stands settings before s text → is_kept_node settings r ≡ true
      → takes_node s.group ≡ true
      → report.revisions_dropped ≡ s.report.revisions_dropped → IsReadable s.group
      → HasPropertyBlock r → IsNewCopy settings (front_kept s.revisions.kept s.group) r
      (copied_headers copy r.headers)
      → ¬ HasNoSource settings (front_kept s.revisions.kept s.group) (node_revision s.revisions) r
      → ¬ IsForeign settings (front_kept s.revisions.kept s.group) (node_revision s.revisions) r
      → IsFrontText settings s.revisions.kept s.group front
      → IsOwnNode settings (front_kept s.revisions.kept s.group) r copy own
      → Stands settings (before ++ r ∷ []) (record (opened s) { report = report }) (text ++ (front ++ own))
  keep_stands before s copy report front own
      (Fresh t c) st keep ends same readable props new good known at_front at_own = absurd (false_true ends)
  keep_stands before s copy report front own
      (Idle t closed y other no_rev c) st keep ends same readable props new good known at_front at_own =
      absurd (false_true ends)
  keep_stands before s copy report front own
      (Passed t closed y ns other rev all some c) st keep ends same readable props new good known at_front at_own =
      let mine = λ (whole : KeptRevisions) (may : GoesOn t.revisions.kept (revision_number y + 1) whole).
      subst (λ (b : Bool). MatchBool b (IsNodeOutput settings whole r own) (own ≡ [])) (sym keep)
      (node_out settings t.revisions.kept whole (revision_number y) r copy own may keep good known props new at_own) in
      subst (λ (f : List ℕ). Stands settings ((closed ++ y ∷ ns) ++ r ∷ [])
      (in_group (record t { report = report }) Written y) (text ++ (f ++ own))) (sym at_front)
      (joined_written t closed ns y report own other rev all some c st same mine)
  keep_stands before s copy report front own
      (Waits t closed y ns other rev all none c) st keep ends same readable props new good known at_front at_own =
      let w : PendingRevision = record { revision = y; bare = length ns == 0 } in
      let kept = t.revisions.kept in
      let present = revision_number y in
      let more = any_more settings ns r ∙ ap (λ b. b || is_kept_node settings r) none ∙ keep in
      let next : State = record t { revisions = record t.revisions { kept = with_kept kept y }; report = report } in
      joined t next closed ns y (Pending w) Written (text ++ (front ++ own)) st refl
      (Passed next closed y (ns ++ r ∷ []) other rev (plain_more ns r all plain) more
      (record {
        numbers_are = ap (λ (ms : List ℕ). ms ++ revision_number y ∷ []) c.numbers_are;
        dropped_are = same ∙ c.dropped_are;
      }))
      (front_rising kept (Pending w) present st.numbers)
      (λ whole may.
      let g : GoesOn kept present whole = front_reopened kept whole (Pending w) present st.numbers may in
      waits_more settings whole closed ns y text other rev all (st.written whole g) r front own plain none keep
      (revision_out settings kept present whole y (ns ++ r ∷ []) false front g (omega arith)
      (below_pending kept w present st.numbers) readable (unpadded settings whole y (ns ++ r ∷ []) more) at_front)
      (node_out settings (with_kept kept y) whole present r copy own may keep good known props new at_own))

  -- after a node that isn't kept nothing more is written
  pub drop_stands : (before : List DumpRecord) (s : State) (report : Report)
      → Shape settings before s → Stands settings before s text → is_kept_node settings r ≡ false
      → takes_node s.group ≡ true
      → report.revisions_dropped ≡ s.report.revisions_dropped
      → Stands settings (before ++ r ∷ []) (record s { group = emptied s.group; report = report }) text
  drop_stands before s report (Fresh t c) st drop ends same = absurd (false_true ends)
  drop_stands before s report (Idle t closed y other no_rev c) st drop ends same = absurd (false_true ends)
  drop_stands before s report (Passed t closed y ns other rev all some c) st drop ends same =
      let mine = λ (whole : KeptRevisions) (may : GoesOn t.revisions.kept (revision_number y + 1) whole).
      subst (λ (b : Bool). MatchBool b (IsNodeOutput settings whole r []) (◌≡◌ {A = List ℕ} [] [])) (sym drop) refl in
      subst (Stands settings ((closed ++ y ∷ ns) ++ r ∷ []) (in_group (record t { report = report }) Written y))
      (append-nil text) (joined_written t closed ns y report [] other rev all some c st same mine)
  drop_stands before s report (Waits t closed y ns other rev all none c) st drop ends same =
      let more = any_more settings ns r ∙ ap (λ b. b || is_kept_node settings r) none ∙ drop in
      let full : (length (ns ++ r ∷ []) == 0) ≡ false = let size = length-append ns (r ∷ []) in grind (arith, size) in
      let up = st.numbers in
      let u : State = record t { report = report } in
      joined t u closed ns y (Pending (record { revision = y; bare = length ns == 0 }))
      (Pending (record { revision = y; bare = false })) text st refl
      (subst (λ (b : Bool). Shape settings (closed ++ y ∷ (ns ++ r ∷ []))
      (in_group u (Pending (record { revision = y; bare = b })) y)) full
      (Waits u closed y (ns ++ r ∷ []) other rev (plain_more ns r all plain) more
      (record { numbers_are = c.numbers_are; dropped_are = same ∙ c.dropped_are })))
      (record { low = up.low; rise = up.rise; below = up.below; waits = up.waits })
      (λ whole may. waits_on settings whole closed ns y text other rev all (st.written whole may) r plain none drop)

-- a record after a group
module _ (settings : Settings) (before : List DumpRecord) (s : State) (r : DumpRecord) (other : is_node r ≡ false)
    (report : Report) (text end : List ℕ)
    (st : Stands settings before s text) (readable : IsReadable s.group)
    (ends : IsEndText settings s.revisions.kept s.group end)
    (same : report.revisions_dropped ≡ (end_report settings s.group s.report).revisions_dropped) where
  -- the kept revisions and the present one
  abbrev AreKeptAt : Option ℕ → Type 0
  AreKeptAt p = AreKept (record s.revisions { present = p }) s.group

  -- after a version or UUID record the group's end and the record are written, too
  pub pass_stands : is_revision_record r ≡ false
      → Stands settings (before ++ r ∷ []) (record (ended settings s) { report = report })
      (text ++ (end ++ block_text r.headers))
  pass_stands no_rev = record {
    present_is = st.present_is ∙ sym (present_other before r no_rev);
    first_is = end_first settings s.revisions.kept s.group ∙ st.first_is ∙ sym (first_other before r no_rev);
    shape = Idle (record (ended settings s) { report = report }) before r other no_rev
        (record {
          numbers_are = ended_numbers settings before s st.shape;
          dropped_are =
              same ∙ ended_dropped settings before s st.shape;
        });
    numbers = by_present s.revisions.present st.numbers;
    written = λ whole may.
        subst (AreOutputs settings false whole (before ++ r ∷ [])) (append_assoc text end (block_text r.headers))
        (other_more settings whole before r (text ++ end) other no_rev
        (ended_text settings before s text end st.shape st.numbers readable st.written ends whole may));
  }
    where
      by_present : (p : Option ℕ) → AreKeptAt p
          → MatchOption p ((end_kept settings s.revisions.kept s.group ≡ no_revisions.kept) × (NoGroup ≡ NoGroup))
          (λ present. AreRising (end_kept settings s.revisions.kept s.group) present NoGroup)
      by_present None (kept_is, none) = (ap (λ g. end_kept settings s.revisions.kept g) none ∙ kept_is, refl)
      by_present (Some p) up = end_rising settings s.revisions.kept s.group p up

  -- after a revision record the end of the group before it is written, too, and the revision is pending
  pub hold_stands : is_revision_record r ≡ true → ((p : ℕ) → s.revisions.present ≡ Some p → p < revision_number r)
      → Stands settings (before ++ r ∷ []) (record (begun (ended settings s) r) { report = report }) (text ++ end)
  hold_stands rev above = record {
    present_is = sym (present_group before r [] other rev refl);
    first_is = first_next s.revisions.present st.present_is st.numbers above;
    shape = Waits (record (begun (ended settings s) r) { report = report }) before r [] other rev refl refl
        (record {
          numbers_are = numbers_next s.revisions.present st.numbers;
          dropped_are =
              same ∙ ended_dropped settings before s st.shape;
        });
    numbers = rising_next s.revisions.present st.numbers above;
    written = λ whole may. revision_more settings whole before r (text ++ end) other rev
        (ended_text settings before s text end st.shape st.numbers readable st.written ends whole
        (closes s.revisions.present whole above may));
  }
    where
      kept : KeptRevisions
      kept = end_kept settings s.revisions.kept s.group

      first_next : (p : Option ℕ) → p ≡ present_revision before → AreKeptAt p
          → ((n : ℕ) → p ≡ Some n → n < revision_number r)
          → (started p r kept).first ≡ first_number (revision_numbers (before ++ r ∷ []))
      first_next None is up above = sym (first_begins before r other rev (sym is))
      first_next (Some p) is up above =
          end_first settings s.revisions.kept s.group ∙ st.first_is ∙ sym (first_stays before r p other rev (sym is))

      numbers_next : (p : Option ℕ) → AreKeptAt p → (started p r kept).numbers ≡ kept_numbers settings before
      numbers_next None (kept_is, none) =
          sym (ap (λ (k : KeptRevisions). k.numbers) (ap (λ g. end_kept settings s.revisions.kept g) none ∙ kept_is))
          ∙ ended_numbers settings before s st.shape
      numbers_next (Some p) up = ended_numbers settings before s st.shape

      rising_next : (p : Option ℕ) → AreKeptAt p → ((n : ℕ) → p ≡ Some n → n < revision_number r)
          → AreRising (started p r kept) (revision_number r) (Pending (record { revision = r; bare = true }))
      rising_next None up above = first_rising r
      rising_next (Some p) up above =
          next_rising kept r p (end_rising settings s.revisions.kept s.group p up) (above p refl)

      closes : (p : Option ℕ) (whole : KeptRevisions) → ((n : ℕ) → p ≡ Some n → n < revision_number r)
          → GoesOn (started p r kept) (revision_number r) whole
          → MatchOption p ⊤ (λ present. GoesOn kept (present + 1) whole)
      closes None whole above g = tt
      closes (Some p) whole above g =
          lowered kept whole (p + 1) (revision_number r) (let low = above p refl in omega arith) g

-- the kept revisions of the list itself are possible ones
pub becomes : (settings : Settings) (before : List DumpRecord) (s : State) (text : List ℕ)
    → Stands settings before s text → MayBecome s (kept_revisions settings before)
becomes settings before s text st = by_shape before s st.shape st.first_is
  where
    by_shape : (before : List DumpRecord) (s : State) → Shape settings before s
        → s.revisions.kept.first ≡ (kept_revisions settings before).first → MayBecome s (kept_revisions settings before)
    by_shape before s (Fresh t c) first_is = tt
    by_shape before s (Idle t closed y other no_rev c) first_is = by_present t.revisions.present
      where
        by_present : (p : Option ℕ)
            → MatchOption p ⊤ (λ present. GoesOn t.revisions.kept (present + 1)
            (kept_revisions settings (closed ++ y ∷ [])))
        by_present None = tt
        by_present (Some p) = record {
          first_is = sym first_is;
          later = [];
          numbers_are = kept_other settings closed y other no_rev
              ∙ sym (append-nil t.revisions.kept.numbers ∙ c.numbers_are);
          behind = All-nil (λ n. p + 1 ≤ n);
        }
    by_shape before s (Passed t closed y ns other rev all some c) first_is = record {
      first_is = sym first_is;
      later = [];
      numbers_are = kept_group settings closed ns y other rev all
          ∙ ap (λ b. kept_numbers settings closed ++ number_if b y) (passed_keeps settings y ns some)
          ∙ sym (append-nil t.revisions.kept.numbers ∙ c.numbers_are);
      behind = All-nil (λ n. revision_number y + 1 ≤ n);
    }
    by_shape before s (Waits t closed y ns other rev all none c) first_is = record {
      first_is = sym first_is;
      later = number_if (keeps_group settings (record { revision = y; nodes = ns })) y;
      numbers_are = kept_group settings closed ns y other rev all
          ∙ ap (λ (ms : List ℕ). ms ++ number_if (keeps_group settings (record { revision = y; nodes = ns })) y)
          (sym c.numbers_are);
      behind = by_case (keeps_group settings (record { revision = y; nodes = ns }));
    }
      where
        by_case : (b : Bool) → All (λ n. revision_number y ≤ n) (number_if b y)
        by_case true = All-cons (λ n. revision_number y ≤ n) (revision_number y) [] (omega arith)
            (All-nil (λ n. revision_number y ≤ n))
        by_case false = All-nil (λ n. revision_number y ≤ n)

-- and so they are if the list ends here
pub becomes_ended : (settings : Settings) (before : List DumpRecord) (s : State) (text : List ℕ)
    → Stands settings before s text → MayBecome (ended settings s) (kept_revisions settings before)
becomes_ended settings before s text st = by_present s.revisions.present
  where
    by_present : (p : Option ℕ)
        → MatchOption p ⊤ (λ present. GoesOn (end_kept settings s.revisions.kept s.group) (present + 1)
        (kept_revisions settings before))
    by_present None = tt
    by_present (Some p) = record {
      first_is = sym (end_first settings s.revisions.kept s.group ∙ st.first_is);
      later = [];
      numbers_are = sym (append-nil (end_kept settings s.revisions.kept s.group).numbers
          ∙ ended_numbers settings before s st.shape);
      behind = All-nil (λ n. p + 1 ≤ n);
    }
