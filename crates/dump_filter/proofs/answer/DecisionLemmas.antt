-- The answer of a filter to the next record: its fate, or its fault.
use Rattle.dump_filter.proofs.Prelude.{◌≡◌, ◌⊎◌, ◌↔◌, ℕ, ◌+◌, ◌<◌, nat_lt, Bool, true, false, not, ◌&&◌, ◌||◌, List, [], ◌∷◌, ◌++◌, refl, sym, ap, ◌∙◌, subst, arith, inl, inr, Option, Some, None, unwrap_or, IsTrue, IsFalse, Result, Ok, Err, if◌then◌else◌, FaultKind, fault_code, NoFault, Property, block_stable, DumpRecord, is_lawful, code_once, Settings, keeps_path, KeptRevisions, image, HasForeignNumber, is_revision_record, is_node, is_kept_node, node_path, HasPropertyList, HasPropertyBlock, HasBadMergeinfo, IsVerdict, Verdict, CopyChange, Fate, kept_revisions, is_whole_file, stays_copy, IsNewCopy, has_lost_source, copied_headers, present_number, HasBadCopyRevision, HoldsOfRecord, IsRecordFault, merge_fault, PresentGroup, State, node_revision, NoGroup, Pending, Written, front_kept, takes_node, is_in_order, is_orphan, HasNoSource, copy_change, kept_unless, with_fault, node_fate, fate_of, decided, AreAsked, is_plain, Stands, first_true, second_true, and_from, absurd_bool}
use borrow.Author.Tests.{ltb-true, ltb-false}
use Rattle.dump_text.specs.declared.fault.FaultKind.TheVariants as faults
use Rattle.dump_filter.specs.declared.decide.Fate.TheVariants as fates
use Rattle.dump_filter.proofs.groups.KindLemmas.{alone}
use Rattle.dump_filter.proofs.answer.MergeLemmas.{Misses, IsForeign, MergeJudged, merge_judged}
use Rattle.dump_filter.proofs.answer.FaultLemmas.{ordered, disordered, kept_with_node, CopyJudged, copy_judged}

-- what a fate says about its record; a kept node's new copy source is right, and its mergeinfo has no foreign number
abbrev pub IsFate : Settings → State → DumpRecord → Fate → Type 0
IsFate settings s r (fates.Keep copy) = (is_plain r ≡ true) × (is_kept_node settings r ≡ true)
    × IsNewCopy settings (front_kept s.revisions.kept s.group) r (copied_headers copy r.headers)
    × (¬ HasNoSource settings (front_kept s.revisions.kept s.group) (node_revision s.revisions) r)
    × (¬ IsForeign settings (front_kept s.revisions.kept s.group) (node_revision s.revisions) r)
IsFate settings s r fates.Drop = (is_plain r ≡ true) × (is_kept_node settings r ≡ false)
IsFate settings s r fates.Hold = (is_node r ≡ false) × (is_revision_record r ≡ true)
IsFate settings s r fates.Pass = (is_node r ≡ false) × (is_revision_record r ≡ false)

-- what is known about a record with this fate
pub record IsTaken (settings : Settings) (before : List DumpRecord) (s : State) (r : DumpRecord)
    (fate : Fate) : Type 0 where
  pub free : NoFault (HoldsOfRecord settings before r)
  pub in_order : is_in_order s r ≡ true
  pub readable : (is_revision_record r || is_kept_node settings r) ≡ true → HasPropertyBlock r
  pub is : IsFate settings s r fate

-- the record has this fate, or this fault
abbrev pub IsAnswer : Settings → List DumpRecord → State → DumpRecord → Result Fate FaultKind → Type 0
IsAnswer settings before s r (Ok fate) = IsTaken settings before s r fate
IsAnswer settings before s r (Err fault) = IsRecordFault settings before r fault

not_kept : (settings : Settings) (r : DumpRecord) → is_node r ≡ false → is_kept_node settings r ≡ false
not_kept settings r other = ap (λ b. b && keeps_path settings (node_path r)) other

-- the faults up to a number don't apply
abbrev NoneBelow : Settings → List DumpRecord → DumpRecord → ℕ → Type 0
NoneBelow settings before r n = (other : FaultKind) → fault_code other < n → ¬ HoldsOfRecord settings before r other

-- the faults of cutting apply to no record
none_cut : (settings : Settings) (before : List DumpRecord) (r : DumpRecord) → NoneBelow settings before r 8
none_cut settings before r faults.Order small h = absurd (omega arith)
none_cut settings before r faults.Props small h = absurd (omega arith)
none_cut settings before r faults.Md5 small h = absurd (omega arith)
none_cut settings before r faults.Sha1 small h = absurd (omega arith)
none_cut settings before r faults.CopySource small h = absurd (omega arith)
none_cut settings before r faults.CopyRevision small h = absurd (omega arith)
none_cut settings before r faults.MergeInfo small h = absurd (omega arith)
none_cut settings before r faults.MergeSource small h = absurd (omega arith)
none_cut settings before r faults.MergeRange small h = absurd (omega arith)
none_cut settings before r _ small h = h

-- one more fault doesn't apply
none_more : (settings : Settings) (before : List DumpRecord) (r : DumpRecord) (fault : FaultKind)
    → NoneBelow settings before r (fault_code fault)
    → ¬ HoldsOfRecord settings before r fault → NoneBelow settings before r (fault_code fault + 1)
none_more settings before r fault below here other small = by_code (nat_lt (fault_code other) (fault_code fault)) refl
  where
    at : ¬ (fault_code other < fault_code fault) → other ≡ fault
    at low = code_once other fault (let up = small in not_below (fault_code other) (fault_code fault) low up)
      where
        not_below : (m n : ℕ) → ¬ (m < n) → m < n + 1 → m ≡ n
        not_below m n low up = grind arith

    by_code : (b : Bool) → nat_lt (fault_code other) (fault_code fault) ≡ b → ¬ HoldsOfRecord settings before r other
    by_code true lower h = below other (ltb-true (fault_code other) (fault_code fault) lower) h
    by_code false high h = here
        (subst (HoldsOfRecord settings before r)
        (at (λ low. let above = ltb-false (fault_code other) (fault_code fault) high in absurd (omega arith))) h)

code_small : (fault : FaultKind) → fault_code fault < 17
code_small faults.HeaderCut = omega arith
code_small fault = omega arith

none_at_all : (settings : Settings) (before : List DumpRecord) (r : DumpRecord) → NoneBelow settings before r 17
    → NoFault (HoldsOfRecord settings before r)
none_at_all settings before r none other = none other (code_small other)

-- if a record isn't kept, only its order and its properties can be wrong
other_none : (settings : Settings) (before : List DumpRecord) (r : DumpRecord) → is_kept_node settings r ≡ false
    → NoneBelow settings before r 10
    → NoFault (HoldsOfRecord settings before r)
other_none settings before r drop below faults.Md5 = λ h. absurd_bool (is_kept_node settings r) h.0 drop
other_none settings before r drop below faults.Sha1 = λ h. absurd_bool (is_kept_node settings r) h.0 drop
other_none settings before r drop below faults.CopySource = λ h.
    absurd_bool (is_kept_node settings r)
    (first_true (is_kept_node settings r) (has_lost_source settings r)
    (first_true (is_kept_node settings r && has_lost_source settings r) (not (is_whole_file r)) h)) drop
other_none settings before r drop below faults.CopyRevision = λ h.
    absurd_bool (is_kept_node settings r)
    (second_true settings.renumber (is_kept_node settings r)
    (first_true (settings.renumber && is_kept_node settings r) (stays_copy settings r) h.0)) drop
other_none settings before r drop below faults.MergeInfo = λ h. absurd_bool (is_kept_node settings r) h.1.0 drop
other_none settings before r drop below faults.MergeSource = λ h. absurd_bool (is_kept_node settings r) h.1.0 drop
other_none settings before r drop below faults.MergeRange = λ h. absurd_bool (is_kept_node settings r) h.1.0 drop
other_none settings before r drop below fault = below fault (omega arith)

readable_is : (settings : Settings) (before : List DumpRecord) (r : DumpRecord) → NoneBelow settings before r 10
    → (is_revision_record r || is_kept_node settings r) ≡ true → HasPropertyBlock r
readable_is settings before r none asked =
    block_stable r (λ bad. none faults.Props (omega arith) (asked, bad))

module _ (settings : Settings) (before : List DumpRecord) (s : State) (text : List ℕ)
    (st : Stands settings before s text)
    (number : ℕ) (r : DumpRecord) (lawful : IsTrue (is_lawful number r.headers)) where
  good_order : is_in_order s r ≡ true → NoneBelow settings before r 9
  good_order good = none_more settings before r faults.Order (none_cut settings before r)
      (ordered settings before s text st r (alone number r lawful) good)

  order_fault : is_in_order s r ≡ false → IsRecordFault settings before r faults.Order
  order_fault bad = record { holds = disordered settings before s text st r bad; least = none_cut settings before r }

  -- a kept node
  module _ (node : is_node r ≡ true) (keep : is_kept_node settings r ≡ true) (good : is_in_order s r ≡ true)
      (none : NoneBelow settings before r 12) where
    abbrev kept : KeptRevisions
    kept = front_kept s.revisions.kept s.group

    abbrev present : ℕ
    present = node_revision s.revisions

    plain : is_plain r ≡ true
    plain = rw (node, alone number r lawful node) refl

    whole_kept : kept_revisions settings (before ++ r ∷ []) ≡ kept
    whole_kept = kept_with_node settings before s r st.shape st.first_is plain keep (sym (rw node refl) ∙ good)

    place_is : present_number before ≡ present
    place_is = ap (λ p. unwrap_or p 0) (sym st.present_is)

    no_source : HasBadCopyRevision settings before r → HasNoSource settings kept present r
    no_source (on, n, at, where_is) =
        let renumber = first_true settings.renumber (is_kept_node settings r)
        (first_true (settings.renumber && is_kept_node settings r) (stays_copy settings r) on) in
        let stays = second_true (settings.renumber && is_kept_node settings r) (stays_copy settings r) on in
        (and_from settings.renumber (stays_copy settings r) renumber stays, n, at, moved where_is)
      where
        moved : (image (kept_revisions settings (before ++ r ∷ [])) n ≡ None) ⊎ (present_number before < n)
            → (image kept n ≡ None) ⊎ (present < n)
        moved (inl none) = inl (ap (λ (k : KeptRevisions). image k n) (sym whole_kept) ∙ none)
        moved (inr above) = inr (subst (λ p. p < n) place_is above)

    bad_source : HasNoSource settings kept present r → HasBadCopyRevision settings before r
    bad_source (on, n, at, where_is) =
        let renumber = first_true settings.renumber (stays_copy settings r) on in
        let stays = second_true settings.renumber (stays_copy settings r) on in (
          and_from (settings.renumber && is_kept_node settings r) (stays_copy settings r)
              (and_from settings.renumber (is_kept_node settings r) renumber keep) stays,
          n,
          at,
          moved where_is,
        )
      where
        moved : (image kept n ≡ None) ⊎ (present < n)
            → (image (kept_revisions settings (before ++ r ∷ [])) n ≡ None) ⊎ (present_number before < n)
        moved (inl none) = inl (ap (λ (k : KeptRevisions). image k n) whole_kept ∙ none)
        moved (inr above) = inr (subst (λ p. p < n) (sym place_is) above)

    orphan_is : HoldsOfRecord settings before r faults.CopySource → IsTrue (is_orphan settings r)
    orphan_is h = and_from (has_lost_source settings r) (not (is_whole_file r))
        (second_true (is_kept_node settings r) (has_lost_source settings r)
        (first_true (is_kept_node settings r && has_lost_source settings r) (not (is_whole_file r)) h))
        (second_true (is_kept_node settings r && has_lost_source settings r) (not (is_whole_file r)) h)

    orphan_holds : IsTrue (is_orphan settings r) → HoldsOfRecord settings before r faults.CopySource
    orphan_holds orphan = and_from (is_kept_node settings r && has_lost_source settings r) (not (is_whole_file r))
        (and_from (is_kept_node settings r) (has_lost_source settings r) keep
        (first_true (has_lost_source settings r) (not (is_whole_file r)) orphan))
        (second_true (has_lost_source settings r) (not (is_whole_file r)) orphan)

    -- the dump's first revision and the present one are those of the filter, and so are their numbers
    foreign_is : HoldsOfRecord settings before r faults.MergeRange → IsForeign settings kept present r
    foreign_is (value, of, bad) = (
      value,
      of,
      subst (λ (p : ℕ). HasForeignNumber settings kept p value) place_is
          (subst (λ (k : KeptRevisions). HasForeignNumber settings k (present_number before) value) whole_kept bad),
    )

    foreign_holds : IsForeign settings kept present r → HoldsOfRecord settings before r faults.MergeRange
    foreign_holds (value, of, bad) = (
      value,
      of,
      subst (λ (k : KeptRevisions). HasForeignNumber settings k (present_number before) value) (sym whole_kept)
          (subst (λ (p : ℕ). HasForeignNumber settings kept p value) (sym place_is) bad),
    )

    none_14 : ¬ IsTrue (is_orphan settings r) → ¬ HasNoSource settings kept present r → NoneBelow settings before r 14
    none_14 orphan source = none_more settings before r faults.CopyRevision
        (none_more settings before r faults.CopySource none (λ h. orphan (orphan_is h))) (λ h. source (no_source h))

    none_15 : ¬ IsTrue (is_orphan settings r) → ¬ HasNoSource settings kept present r → ¬ HasBadMergeinfo settings r
        → NoneBelow settings before r 15
    none_15 orphan source fine = none_more settings before r faults.MergeInfo (none_14 orphan source) fine

    none_16 : ¬ IsTrue (is_orphan settings r) → ¬ HasNoSource settings kept present r → ¬ HasBadMergeinfo settings r
        → ¬ Misses settings r
        → NoneBelow settings before r 16
    none_16 orphan source fine sources =
        none_more settings before r faults.MergeSource (none_15 orphan source fine) sources

    node_answer : (answer : Result CopyChange FaultKind) → CopyJudged settings kept present r answer
        → (fault : Option FaultKind) → MergeJudged settings kept present r fault
        → IsAnswer settings before s r (with_fault answer fault)
    node_answer (Err fault) (inl (which, orphan)) other merged =
        subst (IsRecordFault settings before r) (sym which) (record { holds = orphan_holds orphan; least = none })
    node_answer (Err fault) (inr (which, orphan, source)) other merged =
        subst (IsRecordFault settings before r) (sym which)
        (record {
          holds = bad_source source;
          least =
              none_more settings before r faults.CopySource none (λ h. orphan (orphan_is h));
        })
    node_answer (Ok copy) (new, orphan, source) None (fine, sources, known) = record {
      free = none_at_all settings before r
          (none_more settings before r faults.MergeRange (none_16 orphan source fine sources)
          (λ h. known (foreign_is h)));
      in_order = good;
      readable = readable_is settings before r (λ other small. none other (omega (arith, small)));
      is = (plain, keep, new, source, known);
    }
    node_answer (Ok copy) (new, orphan, source) (Some fault) (inl (which, bad)) =
        subst (IsRecordFault settings before r) (sym which) (record { holds = bad; least = none_14 orphan source })
    node_answer (Ok copy) (new, orphan, source) (Some fault) (inr (inl (which, fine, missing))) =
        subst (IsRecordFault settings before r) (sym which)
        (record { holds = missing; least = none_15 orphan source fine })
    node_answer (Ok copy) (new, orphan, source) (Some fault) (inr (inr (which, fine, sources, foreign))) =
        subst (IsRecordFault settings before r) (sym which)
        (record { holds = foreign_holds foreign; least = none_16 orphan source fine sources })

  -- a record that is no kept node
  other_taken : (fate : Fate) → is_in_order s r ≡ true → is_kept_node settings r ≡ false
      → NoneBelow settings before r 12
      → IsFate settings s r fate → IsTaken settings before s r fate
  other_taken fate good drop none is =
      let fewer : NoneBelow settings before r 10 = λ other small. none other (omega (arith, small)) in
      record {
        free = other_none settings before r drop fewer;
        in_order = good;
        readable = readable_is settings before r fewer;
        is = is;
      }

  front_first : (group : PresentGroup) → (front_kept s.revisions.kept group).first ≡ s.revisions.kept.first
  front_first NoGroup = refl
  front_first Written = refl
  front_first (Pending w) = refl

  fate_answer : is_in_order s r ≡ true → NoneBelow settings before r 12 → (ok : Bool)
      → IsFalse ok ↔ ∥ HasBadMergeinfo settings r ∥₁
      → (ps : List Property) → (is_kept_node settings r ≡ true → HasPropertyList r ps)
      → IsAnswer settings before s r (fate_of settings s r ok ps)
  fate_answer good none ok means ps block =
      by_kind (is_node r) (is_kept_node settings r) (is_revision_record r) refl refl refl
    where
      by_kind : (n k v : Bool) → is_node r ≡ n → is_kept_node settings r ≡ k → is_revision_record r ≡ v
          → IsAnswer settings before s r
          (if n then (if k then node_fate settings s r ok ps else Ok fates.Drop) else if v then Ok fates.Hold
          else Ok fates.Pass)
      by_kind true true v node keep rev =
          node_answer node keep good none
          (copy_change settings (front_kept s.revisions.kept s.group) (node_revision s.revisions) r)
          (copy_judged settings (front_kept s.revisions.kept s.group) (node_revision s.revisions) number r lawful node)
          (merge_fault settings s.revisions.kept.first (node_revision s.revisions) ok ps)
          (subst (λ (first : ℕ). MergeJudged settings (front_kept s.revisions.kept s.group)
          (node_revision s.revisions) r (merge_fault settings first (node_revision s.revisions) ok ps))
          (front_first s.group)
          (merge_judged settings r keep ps (block keep) (front_kept s.revisions.kept s.group)
          (node_revision s.revisions) ok means))
      by_kind true false v node drop rev =
          other_taken fates.Drop good drop none (rw (node, alone number r lawful node) refl, drop)
      by_kind false k true other keep rev = other_taken fates.Hold good (not_kept settings r other) none (other, rev)
      by_kind false k false other keep no_rev =
          other_taken fates.Pass good (not_kept settings r other) none (other, no_rev)

  -- the answer from a record's verdict and its properties is true of it
  pub answered : (v : Verdict) → IsVerdict settings r v → (ps : List Property) → AreAsked settings r v ps
      → IsAnswer settings before s r (decided settings s r v ps)
  answered v means ps asked = by_order (is_in_order s r) refl
    where
      by_sha1_answer : Bool → Result Fate FaultKind
      by_sha1_answer c = if c then fate_of settings s r v.merge_ok ps else Err faults.Sha1

      by_md5_answer : Bool → Result Fate FaultKind
      by_md5_answer c = if c then by_sha1_answer v.sha1_ok else Err faults.Md5

      by_props_answer : Bool → Result Fate FaultKind
      by_props_answer c = if c then by_md5_answer v.md5_ok else Err faults.Props

      by_sha1 : is_in_order s r ≡ true → v.props_ok ≡ true → NoneBelow settings before r 11 → (c : Bool) → v.sha1_ok ≡ c
          → IsAnswer settings before s r (by_sha1_answer c)
      by_sha1 good readable none true fine = fate_answer good
          (none_more settings before r faults.Sha1 none (λ bad. absurd_bool v.sha1_ok fine (means.sha1.1 bad)))
          v.merge_ok means.merge ps (λ keep. asked keep readable)
      by_sha1 good readable none false wrong = record { holds = means.sha1.0 wrong; least = none }

      by_md5 : is_in_order s r ≡ true → v.props_ok ≡ true → NoneBelow settings before r 10 → (c : Bool) → v.md5_ok ≡ c
          → IsAnswer settings before s r (by_md5_answer c)
      by_md5 good readable none true fine =
          by_sha1 good readable (none_more settings before r faults.Md5 none
          (λ bad. absurd_bool v.md5_ok fine (means.md5.1 bad))) v.sha1_ok refl
      by_md5 good readable none false wrong = record { holds = means.md5.0 wrong; least = none }

      by_props : is_in_order s r ≡ true → NoneBelow settings before r 9 → (c : Bool) → v.props_ok ≡ c
          → IsAnswer settings before s r (by_props_answer c)
      by_props good none true fine =
          by_md5 good fine (none_more settings before r faults.Props none
          (λ bad. absurd_bool v.props_ok fine (means.props.1 bad))) v.md5_ok refl
      by_props good none false wrong = record { holds = means.props.0 wrong; least = none }

      by_order : (b : Bool) → is_in_order s r ≡ b
          → IsAnswer settings before s r (if b then by_props_answer v.props_ok else Err faults.Order)
      by_order true good = by_props good (good_order good) v.props_ok refl
      by_order false bad = order_fault bad

-- the fault of mergeinfo is the same with equal settings and numbers
same_merge_fault : (settings : Settings) (first present : ℕ) (options : Settings) (from at : ℕ) (ok : Bool)
    (ps : List Property)
    → settings ≡ options → first ≡ from → present ≡ at
    → merge_fault settings first present ok ps ≡ merge_fault options from at ok ps
same_merge_fault settings first present options from at ok ps e f g =
    ap (λ (s : Settings). merge_fault s first present ok ps) e ∙ ap (λ n. merge_fault options n present ok ps) f
    ∙ ap (λ n. merge_fault options from n ok ps) g

-- the fate of a kept node, from what the filter does with its copy source and the fault of its mergeinfo
pub node_fate_is : {settings options : Settings} (s : State) (r : DumpRecord) (ok : Bool) (ps : List Property)
    {first present : ℕ} {copy : CopyChange} {found : Option FaultKind}
    → settings ≡ options → is_kept_node options r ≡ true
    → first ≡ s.revisions.kept.first → present ≡ node_revision s.revisions
    → copy_change options (front_kept s.revisions.kept s.group) (node_revision s.revisions) r ≡ Ok copy
    → (is_kept_node settings r ≡ true → found ≡ merge_fault settings first present ok ps)
    → kept_unless found copy ≡ node_fate options s r ok ps
node_fate_is {settings} {options} s r ok ps {first} {present} {copy} {found} e keep f g copied is =
    ap (λ (fault : Option FaultKind). kept_unless fault copy)
    (is (subst (λ (s : Settings). is_kept_node s r ≡ true) (sym e) keep)
    ∙ same_merge_fault settings first present options s.revisions.kept.first (node_revision s.revisions) ok ps e f g)
    ∙ sym (ap (λ (c : Result CopyChange FaultKind). with_fault c
    (merge_fault options s.revisions.kept.first (node_revision s.revisions) ok ps))
    copied)

-- if the next record may be a kept node, it may be any node
pub node_is_taken : (settings : Settings) (s : State) (r : DumpRecord) → is_kept_node settings r ≡ true
    → is_in_order s r ≡ true → takes_node s.group ≡ true
node_is_taken settings s r keep good =
    let node : is_node r ≡ true = first_true (is_node r) _ keep in
    sym (rw node refl) ∙ good

-- a kept node has the fate of a node, and a revision is held
pub fate_of_node : (settings : Settings) (s : State) (r : DumpRecord) (ok : Bool) (ps : List Property)
    → is_kept_node settings r ≡ true → fate_of settings s r ok ps ≡ node_fate settings s r ok ps
fate_of_node settings s r ok ps keep =
    let kept : Result Fate FaultKind =
    if is_kept_node settings r then node_fate settings s r ok ps else Ok fates.Drop in
    ap (λ b. if b then kept else if is_revision_record r then Ok fates.Hold else Ok fates.Pass)
    (first_true (is_node r) _ keep)
    ∙ ap (λ b. if b then node_fate settings s r ok ps else Ok fates.Drop) keep

-- a node that isn't kept is dropped
pub fate_of_dropped : (settings : Settings) (s : State) (r : DumpRecord) (ok : Bool) (ps : List Property)
    → is_node r ≡ true → is_kept_node settings r ≡ false → Ok fates.Drop ≡ fate_of settings s r ok ps
fate_of_dropped settings s r ok ps node left =
    let kept : Result Fate FaultKind =
    if is_kept_node settings r then node_fate settings s r ok ps else Ok fates.Drop in
    sym (ap (λ b. if b then kept else if is_revision_record r then Ok fates.Hold else Ok fates.Pass) node
    ∙ ap (λ b. if b then node_fate settings s r ok ps else Ok fates.Drop) left)

-- the fate of a revision is to be held back
pub fate_of_revision : (settings : Settings) (s : State) (r : DumpRecord) (ok : Bool) (ps : List Property)
    → is_node r ≡ false → is_revision_record r ≡ true → Ok fates.Hold ≡ fate_of settings s r ok ps
fate_of_revision settings s r ok ps no_node revision =
    let kept : Result Fate FaultKind =
    if is_kept_node settings r then node_fate settings s r ok ps else Ok fates.Drop in
    sym (ap (λ b. if b then kept else if is_revision_record r then Ok fates.Hold else Ok fates.Pass) no_node
    ∙ ap (λ b. if b then Ok fates.Hold else Ok fates.Pass) revision)

-- a record in order that can be read has its fate
pub decided_in_order : (settings : Settings) (s : State) (r : DumpRecord) (v : Verdict) (ps : List Property)
    → is_in_order s r ≡ true
    → v.props_ok ≡ true → v.md5_ok ≡ true → v.sha1_ok ≡ true
    → decided settings s r v ps ≡ fate_of settings s r v.merge_ok ps
decided_in_order settings s r v ps order props md5 sha1 = rw (order, props, md5, sha1) refl
