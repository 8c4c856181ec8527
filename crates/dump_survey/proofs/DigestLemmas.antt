-- If a survey reports nothing, a record has no fault that isn't about a digest.
use Rattle.dump_survey.proofs.Prelude.{◌≡◌, ℕ, ◌<◌, Bool, true, false, not, ◌&&◌, ◌||◌, List, [], ◌∷◌, ◌++◌, length, map, Option, Some, None, is_some, is_none, if◌then◌else◌, MatchBool, Contains, refl, sym, ap, ◌∙◌, subst, inl, inr, arith, append-nil, append_assoc, last_or, both_ways, and_parts, or_cases, Contains-append_right, FaultKind, Property, first_true, second_true, DumpRecord, Settings, finds, is_revision_record, is_node, is_kept_node, has_lost_source, HasPropertyBlock, group_of, groups, group_number, revision_number, revision_numbers, is_whole_file, stays_copy, ends_in_group, HoldsOfRecord, has_ordered_nodes, go_up, Finding, every_finding, NodeFaults, is_found, has_kept_path, IsReadBlock, AreFindingsOf, rise, IsUnreadRevision, AreDumpFindingsOf, none_passes, numbers_rise, all_read, nodes_stand, NodeReport, reported_in, present_after, IsReportedOfNode, IsReportedOf, AreReported, open_behind, is_digest_fault}
use Rattle.std.specs.Prelude.{nat_lt}
use Rattle.dump_text.specs.declared.fault.FaultKind.TheVariants as faults
use Rattle.dump_history.specs.declared.findings.Finding.TheVariants as findings

-- the order of records

-- a node at a permitted place follows a revision or a node
stands : (o : Option DumpRecord) (before after : List DumpRecord) (r : DumpRecord)
    → has_ordered_nodes (ends_in_group o) (before ++ r ∷ after) ≡ true
    → (not (is_node r) || ends_in_group (last_or o before)) ≡ true
stands o [] after r ordered =
    first_true (not (is_node r) || ends_in_group o) (has_ordered_nodes (is_revision_record r || is_node r) after) ordered
stands o (x ∷ before) after r ordered =
    stands (Some x) before after r (second_true (not (is_node x) || ends_in_group o)
    (has_ordered_nodes (is_revision_record x || is_node x) (before ++ r ∷ after)) ordered)

-- such a node belongs to a revision
belongs : (present : Option ℕ) (before after : List DumpRecord) (r : DumpRecord)
    → has_ordered_nodes (is_some present) (before ++ r ∷ after) ≡ true → is_node r ≡ true
    → is_some (open_behind present before) ≡ true
belongs present [] after r ordered node =
    sym (ap (λ b. not b || is_some present) node)
    ∙ first_true (not (is_node r) || is_some present) (has_ordered_nodes (is_revision_record r || is_node r) after) ordered
belongs present (x ∷ before) after r ordered node =
    by (λ p more. belongs p before after r more node) (is_revision_record x) (is_node x)
    (first_true (not (is_node x) || is_some present)
    (has_ordered_nodes (is_revision_record x || is_node x) (before ++ r ∷ after)) ordered)
    (second_true (not (is_node x) || is_some present)
    (has_ordered_nodes (is_revision_record x || is_node x) (before ++ r ∷ after)) ordered)
  where
    More : Type 0
    More = (p : Option ℕ) → has_ordered_nodes (is_some p) (before ++ r ∷ after) ≡ true
        → is_some (open_behind p before) ≡ true

    by : More → (v n : Bool) → (not n || is_some present) ≡ true
        → has_ordered_nodes (v || n) (before ++ r ∷ after) ≡ true
        → is_some (open_behind (if v then Some (revision_number x) else if n then present else None) before) ≡ true
    by more true n may rest = more (Some (revision_number x)) rest
    by more false true may rest =
        more present (subst (λ b. has_ordered_nodes b (before ++ r ∷ after) ≡ true) (sym may) rest)
    by more false false may rest = more None rest

-- the revision numbers of a dump are those before a record, its own, and those after it
numbers_split : (before after : List DumpRecord) (r : DumpRecord) → is_revision_record r ≡ true
    → revision_numbers (before ++ r ∷ after) ≡ revision_numbers before ++ revision_number r ∷ revision_numbers after
numbers_split [] after r rev =
    ap (λ b. map group_number (if b then group_of r after ∷ groups after else groups after)) rev
numbers_split (x ∷ before) after r rev = by (is_revision_record x) (numbers_split before after r rev)
  where
    by : (b : Bool)
        → revision_numbers (before ++ r ∷ after) ≡ revision_numbers before ++ revision_number r ∷ revision_numbers after
        → map group_number (if b then group_of x (before ++ r ∷ after) ∷ groups (before ++ r ∷ after)
        else groups (before ++ r ∷ after))
        ≡ map group_number (if b then group_of x before ∷ groups before else groups before)
        ++ revision_number r ∷ revision_numbers after
    by true more = ap (λ l. revision_number x ∷ l) more
    by false more = more

-- numbers that rise are above the last one before them
above_last : (k : ℕ) (ns ms : List ℕ) (n p : ℕ) → go_up k (ns ++ n ∷ ms) ≡ true → last_or (Some k) ns ≡ Some p → p < n
above_last k [] ms n p up last =
    let same : k ≡ p = cc in
    let low = (and_parts (nat_lt k n) (go_up n ms) up).0 in grind (arith, same, low)
above_last k (x ∷ ns) ms n p up last =
    above_last x ns ms n p (and_parts (nat_lt k x) (go_up x (ns ++ n ∷ ms)) up).1 last

rises_past : (ns ms : List ℕ) (n p : ℕ) → rise (ns ++ n ∷ ms) ≡ true → last_or None ns ≡ Some p → p < n
rises_past [] ms n p up last = absurd (let bad : None ≡ Some p = last in cc)
rises_past (x ∷ ns) ms n p up last = above_last x ns ms n p up last

-- what is reported

-- if nothing is reported of some records, nothing is reported of each of them
reported_at : (settings : Settings) (front before after : List DumpRecord) (present : Option ℕ) (r : DumpRecord)
    → AreReported settings front present (before ++ r ∷ after) []
    → IsReportedOf settings (front ++ before) (open_behind present before) r []
reported_at settings front [] after present r (this, others, is, one, more) =
    subst (λ rs. IsReportedOf settings rs present r []) (sym (append-nil front))
    (subst (IsReportedOf settings front present r) (none this others is) one)
  where
    none : (xs ys : List NodeReport) → [] ≡ xs ++ ys → xs ≡ []
    none [] ys is = refl
    none (x ∷ xs) ys is = cc
reported_at settings front (x ∷ before) after present r (this, others, is, one, more) =
    subst (λ rs. IsReportedOf settings rs (open_behind (present_after present x) before) r [])
    (append_assoc front (x ∷ []) before)
    (reported_at settings (front ++ x ∷ []) before after (present_after present x) r
    (subst (AreReported settings (front ++ x ∷ []) (present_after present x) (before ++ r ∷ after))
    (none this others is) more))
  where
    none : (xs ys : List NodeReport) → [] ≡ xs ++ ys → ys ≡ []
    none [] ys is = sym is
    none (x ∷ xs) ys is = cc

-- so nothing is found in a node of a revision
none_of_node : (settings : Settings) (before : List DumpRecord) (present : Option ℕ) (r : DumpRecord)
    → is_some present ≡ true → is_node r ≡ true → IsReportedOf settings before present r []
    → AreFindingsOf settings before r []
none_of_node settings before None r bad node reported = cc
none_of_node settings before (Some revision) r some node reported =
    let (found, are, is) =
    subst (λ (b : Bool). MatchBool b (IsReportedOfNode settings before revision r nothing) (nothing ≡ [])) node reported in
    subst (AreFindingsOf settings before r) (none found is) are
  where
    nothing : List NodeReport
    nothing = []

    none : (fs : List Finding) → [] ≡ map (reported_in settings (length before) revision r) fs → fs ≡ []
    none [] is = refl
    none (f ∷ fs) is = cc

module _ (settings : Settings) (before : List DumpRecord) (r : DumpRecord) (none : AreFindingsOf settings before r []) where
  abbrev block : Option (List Property)
  block = none.0

  abbrev those : NodeFaults
  those = none.1

  absent : (f : Finding) → Contains every_finding f → is_found settings r block those f ≡ true → ⊥
  absent f there so = both_ways _ (none_passes (λ g. is_found settings r block those g) every_finding (sym none.4))
      (finds (λ g. is_found settings r block those g) every_finding f there so)

  read_there : (o : Option (List Property)) → IsReadBlock r o → (is_none o ≡ true → ⊥) → HasPropertyBlock r
  read_there None unread not_none = absurd (not_none refl)
  read_there (Some ps) list not_none = (ps, list)

  node_digests : (kind : FaultKind) → HoldsOfRecord settings before r kind
      → (HoldsOfRecord settings before r faults.Order → ⊥) → is_digest_fault kind ≡ true
  node_digests faults.Md5 h order = refl
  node_digests faults.Sha1 h order = refl
  node_digests faults.Order h order = absurd (order h)
  node_digests faults.Props (kept, bad) order =
      absurd (bad (read_there block none.2 (absent findings.UnreadBlock (0, omega arith, refl))))
  node_digests faults.CopySource h order =
      let lost = first_true (is_kept_node settings r && has_lost_source settings r) (not (is_whole_file r)) h in
      absurd (absent findings.NoWholeFile (4, omega arith, refl)
      (rw (
        second_true (is_node r) (has_kept_path settings r) (first_true (is_kept_node settings r) (has_lost_source settings r) lost),
        second_true (is_kept_node settings r) (has_lost_source settings r) lost,
        second_true (is_kept_node settings r && has_lost_source settings r) (not (is_whole_file r)) h,
      ) refl))
  node_digests faults.CopyRevision h order =
      absurd (absent findings.MissingCopyRevision (5, omega arith, refl) (none.3.copy_revision.1 h))
  node_digests faults.MergeInfo h order =
      absurd (absent findings.UnreadMergeinfo (6, omega arith, refl) (none.3.unread.1 h))
  node_digests faults.MergeSource h order =
      absurd (absent findings.MissingMergeSource (7, omega arith, refl) (none.3.missing.1 h))
  node_digests faults.MergeRange h order =
      absurd (absent findings.MissingMergeRevision (8, omega arith, refl) (none.3.outside.1 h))
  node_digests faults.HeaderCut h order = absurd h
  node_digests faults.Header h order = absurd h
  node_digests faults.Kind h order = absurd h
  node_digests faults.Version h order = absurd h
  node_digests faults.Number h order = absurd h
  node_digests faults.Lengths h order = absurd h
  node_digests faults.ContentCut h order = absurd h

-- a record that is no node can only have a fault of order or of properties
module _ (settings : Settings) (before : List DumpRecord) (r : DumpRecord) (other : is_node r ≡ false) where
  never_kept : is_kept_node settings r ≡ true → ⊥
  never_kept kept = both_ways (is_node r) other (first_true (is_node r) (has_kept_path settings r) kept)

  other_digests : (kind : FaultKind) → HoldsOfRecord settings before r kind
      → (HoldsOfRecord settings before r faults.Order → ⊥) → (IsUnreadRevision r → ⊥) → is_digest_fault kind ≡ true
  other_digests faults.Md5 h order read = refl
  other_digests faults.Sha1 h order read = refl
  other_digests faults.Order h order read = absurd (order h)
  other_digests faults.Props (asked, bad) order read =
      elim (or_cases (is_revision_record r) (is_kept_node settings r) asked) [
        | inl rev ↦ absurd (read (rev, bad))
        | inr kept ↦ absurd (never_kept kept)
      ]
  other_digests faults.CopySource h order read = absurd (never_kept (first_true (is_kept_node settings r)
      (has_lost_source settings r) (first_true (is_kept_node settings r && has_lost_source settings r)
      (not (is_whole_file r)) h)))
  other_digests faults.CopyRevision h order read = absurd (never_kept (second_true settings.renumber
      (is_kept_node settings r) (first_true (settings.renumber && is_kept_node settings r) (stays_copy settings r) h.0)))
  other_digests faults.MergeInfo h order read = absurd (never_kept h.1.0)
  other_digests faults.MergeSource h order read = absurd (never_kept h.1.0)
  other_digests faults.MergeRange h order read = absurd (never_kept h.1.0)
  other_digests faults.HeaderCut h order read = absurd h
  other_digests faults.Header h order read = absurd h
  other_digests faults.Kind h order read = absurd h
  other_digests faults.Version h order read = absurd h
  other_digests faults.Number h order read = absurd h
  other_digests faults.Lengths h order read = absurd h
  other_digests faults.ContentCut h order read = absurd h

-- so if nothing is reported of a dump, no record has a fault that isn't about a digest
pub digests_alone : (settings : Settings) (records before after : List DumpRecord) (r : DumpRecord) (kind : FaultKind)
    → AreDumpFindingsOf settings records [] → AreReported settings [] None records [] → records ≡ before ++ r ∷ after
    → HoldsOfRecord settings before r kind → is_digest_fault kind ≡ true
digests_alone settings records before after r kind nothing reported are holds = by (is_node r) refl
  where
    ordered : has_ordered_nodes false (before ++ r ∷ after) ≡ true
    ordered = subst (λ rs. has_ordered_nodes false rs ≡ true) are (nodes_stand settings records nothing)

    order : HoldsOfRecord settings before r faults.Order → ⊥
    order (inl outside) = misplaced (is_node r) (ends_in_group (last_or None before)) outside
        (stands None before after r ordered)
      where
        misplaced : (a b : Bool) → (a && not b) ≡ true → (not a || b) ≡ true → ⊥
        misplaced true true bad may = cc
        misplaced true false bad may = cc
        misplaced false b bad may = cc
    order (inr (rev, present, last, low)) =
        let up = subst (λ ns. rise ns ≡ true) (numbers_split before after r rev)
        (subst (λ rs. rise (revision_numbers rs) ≡ true) are (numbers_rise settings records nothing)) in
        let above = rises_past (revision_numbers before) (revision_numbers after) (revision_number r) present up last in
        omega (arith, low, above)

    read : IsUnreadRevision r → ⊥
    read unread = all_read settings records nothing (
      r,
      subst (λ rs. Contains rs r) (sym are)
          (Contains-append_right before (r ∷ after) r (0, omega arith, refl)),
      unread,
    )

    by : (b : Bool) → is_node r ≡ b → is_digest_fault kind ≡ true
    by true node = node_digests settings before r
        (none_of_node settings before (open_behind None before) r (belongs None before after r ordered node) node
        (reported_at settings [] before after None r (subst (λ rs. AreReported settings [] None rs []) are reported))) kind holds order
    by false other = other_digests settings before r other kind holds order read
