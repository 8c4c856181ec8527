-- What is written for records without a fault has no fault if everything is kept.
use Rattle.dump_filter.proofs.Prelude.{◌≡◌, ℕ, zero, suc, ◌<◌, Bool, true, false, not, ◌&&◌, ◌||◌, List, [], ◌∷◌, ◌++◌, take_while, refl, sym, ap, ◌∙◌, subst, arith, Option, Some, None, MatchOption, Contains, if◌then◌else◌, or_right, or_left, ⊤, list_any, prefix_len, FaultKind, tail-eq, DumpRecord, Settings, KeptRevisions, new_number, is_revision_record, is_node, is_kept_node, keep_all, group_of, keeps_group, revision_number, kept_revisions, written_number, is_whole_file, is_copy, HoldsOfRecord, AreFaultFree, kept_numbers, is_written, absurd_bool, and_from, first_true}
use Rattle.dump_filter.proofs.knowing.FilterLemmas.{none_within}
use Rattle.dump_text.specs.declared.fault.FaultKind.TheVariants as faults
use Rattle.dump_filter.proofs.again.Numbers.{kept_revision, dropped_revision, no_revision, new_number_rises}
use Rattle.dump_filter.proofs.again.Order.{RisesFrom, present_behind, AreInOrder, in_order, order_fits}
use Rattle.dump_filter.proofs.knowing.Answered.{AllLawful}
use Rattle.dump_filter.proofs.groups.GroupLemmas.{take_cons}
use Rattle.dump_filter.proofs.groups.KindLemmas.{alone}
use Rattle.dump_filter.proofs.groups.NumberLemmas.{passed_keeps}
use Rattle.dump_filter.proofs.again.ReadAgain.{IsClean, IsReadAgain, IsFirstAgain, AreReadAgain}

-- which records are written

written_revision : (settings : Settings) (r : DumpRecord) (rest : List DumpRecord) → is_revision_record r ≡ true
    → is_written settings true r rest ≡ true
    → keeps_group settings (group_of r rest) ≡ true
written_revision settings r rest rev written = first_true (keeps_group settings (group_of r rest)) true
    (rw rev at written)

written_node : (settings : Settings) (r : DumpRecord) (rest : List DumpRecord) → is_revision_record r ≡ false
    → is_node r ≡ true → is_written settings true r rest ≡ true
    → is_kept_node settings r ≡ true
written_node settings r rest other node written =
    let same : is_written settings true r rest ≡ is_kept_node settings r = rw (other, node) refl in
    sym same ∙ written

-- whether the present group has a kept node
abbrev AnyKept : Settings → List DumpRecord → Type 0
AnyKept settings rest = list_any (is_kept_node settings) (take_while is_node rest) ≡ true

any_cons : (settings : Settings) (r : DumpRecord) (rest : List DumpRecord) → is_node r ≡ true
    → list_any (is_kept_node settings) (take_while is_node (r ∷ rest))
    ≡ (is_kept_node settings r || list_any (is_kept_node settings) (take_while is_node rest))
any_cons settings r rest node = ap (list_any (is_kept_node settings)) nodes
  where
    nodes : take_while is_node (r ∷ rest) ≡ r ∷ take_while is_node rest
    nodes = rw node (take_cons (prefix_len is_node rest) r rest)

-- no group of a dropped revision has a kept node
dropped_group : (settings : Settings) (r : DumpRecord) (rest : List DumpRecord) → is_revision_record r ≡ true
    → is_written settings true r rest ≡ false → ¬ AnyKept settings rest
dropped_group settings r rest rev dropped any =
    absurd_bool (is_written settings true r rest)
    (rw rev (and_from (keeps_group settings (group_of r rest)) true
    (passed_keeps settings r (take_while is_node rest) any) refl)) dropped

-- the kept numbers of the other records

abbrev AreAmong : KeptRevisions → Settings → List DumpRecord → Type 0
AreAmong kept settings records = (n : ℕ) → Contains (kept_numbers settings records) n → Contains kept.numbers n

later_contains : (m n : ℕ) (numbers : List ℕ) → Contains numbers n → Contains (m ∷ numbers) n
later_contains m n numbers (k, within, is) = (suc k, omega arith, is)

among_rest : (settings : Settings) (kept : KeptRevisions) (r : DumpRecord) (rest : List DumpRecord)
    → AreAmong kept settings (r ∷ rest) → AreAmong kept settings rest
among_rest settings kept r rest among n has = among n
    (cases (is_revision_record r) (keeps_group settings (group_of r rest)) refl refl)
  where
    cases : (v k : Bool) → is_revision_record r ≡ v → keeps_group settings (group_of r rest) ≡ k
        → Contains (kept_numbers settings (r ∷ rest)) n
    cases true true rev keep =
        subst (λ (l : List ℕ). Contains l n) (sym (kept_revision settings r rest rev keep))
        (later_contains (revision_number r) n (kept_numbers settings rest) has)
    cases true false rev drop = subst (λ (l : List ℕ). Contains l n)
        (sym (dropped_revision settings r rest rev drop)) has
    cases false k other _ = subst (λ (l : List ℕ). Contains l n) (sym (no_revision settings r rest other)) has

own_among : (settings : Settings) (kept : KeptRevisions) (r : DumpRecord) (rest : List DumpRecord)
    → is_revision_record r ≡ true → keeps_group settings (group_of r rest) ≡ true
    → AreAmong kept settings (r ∷ rest) → Contains kept.numbers (revision_number r)
own_among settings kept r rest rev keep among =
    let first : Contains (revision_number r ∷ kept_numbers settings rest) (revision_number r) =
    (zero, omega arith, refl) in
    among (revision_number r) (subst (λ (l : List ℕ). Contains l (revision_number r))
    (sym (kept_revision settings r rest rev keep)) first)

written_rises : (settings : Settings) (kept : KeptRevisions) (a b : ℕ) → Contains kept.numbers a → a < b
    → written_number settings kept a < written_number settings kept b
written_rises settings kept a b has low = cases settings.renumber
  where
    cases : (t : Bool) → (if t then new_number kept a else a) < (if t then new_number kept b else b)
    cases true = new_number_rises kept a b has low
    cases false = low

-- the order of the written records

rises_through : (p : Option ℕ) (k n : ℕ) → RisesFrom p k → k < n → RisesFrom p n
rises_through None k n first second = tt
rises_through (Some q) k n first second = omega arith

module _ (settings : Settings) (kept : KeptRevisions) where
  -- the present number of the written records is below those of the revisions that may follow
  abbrev IsBelow : Option ℕ → Option ℕ → Type 0
  IsBelow old new = MatchOption new ⊤ (λ m. (n : ℕ) → RisesFrom old n → m < written_number settings kept n)

  -- a kept node may follow if a node may follow
  abbrev MayFollow : Bool → Bool → List DumpRecord → Type 0
  MayFollow old new rest = old ≡ true → AnyKept settings rest → new ≡ true

  below_written : (r s : DumpRecord) (rest : List DumpRecord) (p q : Option ℕ) (front : List ℕ)
      → is_written settings true r rest ≡ true
      → AreAmong kept settings (r ∷ rest) → IsReadAgain settings kept r rest front s → IsBelow p q
      → IsBelow (present_behind p r) (present_behind q s)
  below_written r s rest p q front written among read below = cases (is_revision_record r) refl
    where
      cases : (b : Bool) → is_revision_record r ≡ b → IsBelow (present_behind p r) (present_behind q s)
      cases true rev =
          let new_rev : is_revision_record s ≡ true = read.revision ∙ rev in
          let keep = written_revision settings r rest rev written in
          let has = own_among settings kept r rest rev keep among in
          let number : revision_number s ≡ written_number settings kept (revision_number r) = read.number rev in
          let rises : (n : ℕ) → revision_number r < n → revision_number s < written_number settings kept n =
          λ n low. subst (λ (m : ℕ). m < written_number settings kept n) (sym number)
          (written_rises settings kept (revision_number r) n has low) in
          rw (new_rev, rev) rises
      cases false other =
          let no_rev : is_revision_record s ≡ false = read.revision ∙ other in
          rw (no_rev, other) below

  below_dropped : (r : DumpRecord) (p q : Option ℕ) → (is_revision_record r ≡ true → RisesFrom p (revision_number r))
      → IsBelow p q → IsBelow (present_behind p r) q
  below_dropped r p None above below = tt
  below_dropped r p (Some m) above below = cases (is_revision_record r) refl
    where
      cases : (b : Bool) → is_revision_record r ≡ b → IsBelow (present_behind p r) (Some m)
      cases true rev =
          let rises : (n : ℕ) → revision_number r < n → m < written_number settings kept n = λ n low. below n
          (rises_through p (revision_number r) n (above rev) low) in
          rw rev rises
      cases false other = rw other below

  node_written : (r : DumpRecord) (rest : List DumpRecord) → (is_node r ≡ true → is_revision_record r ≡ false)
      → is_written settings true r rest ≡ true
      → is_node r ≡ true → AnyKept settings (r ∷ rest)
  node_written r rest lone written node =
      let kept_node = written_node settings r rest (lone node) node written in
      any_cons settings r rest node ∙ or_left (is_kept_node settings r)
      (list_any (is_kept_node settings) (take_while is_node rest)) kept_node

  follow_dropped : (r : DumpRecord) (rest : List DumpRecord) (g h : Bool) → is_written settings true r rest ≡ false
      → (is_node r ≡ true → g ≡ true)
      → MayFollow g h (r ∷ rest) → MayFollow (is_revision_record r || is_node r) h rest
  follow_dropped r rest g h dropped node_ok follows in_group any = cases (is_revision_record r) (is_node r) refl refl
    where
      cases : (v n : Bool) → is_revision_record r ≡ v → is_node r ≡ n → h ≡ true
      cases true n rev node = absurd (dropped_group settings r rest rev dropped any)
      cases false true other node =
          follows (node_ok node)
          (any_cons settings r rest node ∙ or_right (is_kept_node settings r)
          (list_any (is_kept_node settings) (take_while is_node rest)) any)
      cases false false other no_node = absurd (absurd_bool (is_written settings true r rest)
          (rw (other, no_node) refl) dropped)

  order_again : (records : List DumpRecord) (text : List ℕ) (again : List DumpRecord) → AllLawful records
      → AreAmong kept settings records
      → AreReadAgain settings kept records text again → (g h : Bool) (p q : Option ℕ) → AreInOrder g p records
      → IsBelow p q → MayFollow g h records
      → AreInOrder h q again
  order_again [] text again lawful among (none, no_more) g h p q are below follows = subst
      (λ (l : List DumpRecord). AreInOrder h q l) (sym no_more) tt
  order_again (r ∷ rest) text again lawful among (front, behind, is, this) g h p q are below follows =
      cases (is_written settings true r rest) refl this
      (λ more reads g' h' p' q'. order_again rest behind more lawful.1
      (among_rest settings kept r rest among) reads g' h' p' q')
    where
      Later : Type 0
      Later = (more : List DumpRecord) → AreReadAgain settings kept rest behind more → (g' h' : Bool) (p' q' : Option ℕ)
          → AreInOrder g' p' rest
          → IsBelow p' q' → MayFollow g' h' rest → AreInOrder h' q' more

      rise_again : (s : DumpRecord) → IsReadAgain settings kept r rest front s → is_revision_record s ≡ true
          → (q' : Option ℕ) → IsBelow p q' → RisesFrom q' (revision_number s)
      rise_again s read rev None under = tt
      rise_again s read rev (Some m) under =
          let old_rev : is_revision_record r ≡ true = sym read.revision ∙ rev in
          subst (λ (n : ℕ). m < n) (sym (read.number old_rev)) (under (revision_number r) (are.1 old_rev))

      by_written : (s : DumpRecord) (more : List DumpRecord) → is_written settings true r rest ≡ true → again ≡ s ∷ more
          → IsReadAgain settings kept r rest front s
          → AreReadAgain settings kept rest behind more → Later → AreInOrder h q again
      by_written s more written same read reads later =
          let lone = alone lawful.0.0 r lawful.0.1 in
          let node_ok : is_node s ≡ true → h ≡ true = λ node.
          (let old_node : is_node r ≡ true = sym read.node ∙ node in follows (are.0 old_node)
          (node_written r rest lone written old_node)) in
          let kinds : (is_revision_record s || is_node s) ≡
          (is_revision_record r || is_node r) = λ i. read.revision i || read.node i in
          subst (λ (l : List DumpRecord). AreInOrder h q l) (sym same) (
            node_ok,
            (λ rev. rise_again s read rev q below),
            later more reads (is_revision_record r || is_node r) (is_revision_record s || is_node s)
                (present_behind p r) (present_behind q s) are.2
                (below_written r s rest p q front written among read below) (λ in_group any. kinds ∙ in_group),
          )

      cases : (w : Bool) → is_written settings true r rest ≡ w
          → IsFirstAgain settings kept r rest front (AreReadAgain settings kept rest behind) again w
          → Later → AreInOrder h q again
      cases true written (s, more, same, read, reads) later = by_written s more written same read reads later
      cases false dropped (none, reads) later =
          later again reads (is_revision_record r || is_node r) h (present_behind p r) q are.2
          (below_dropped r p q are.1 below) (follow_dropped r rest g h dropped are.0 follows)

-- the content of the written records

clean_each : (settings : Settings) (kept : KeptRevisions) (records : List DumpRecord) (text : List ℕ)
    (again : List DumpRecord) → AreReadAgain settings kept records text again
    → (before after : List DumpRecord) (s : DumpRecord) → again ≡ before ++ s ∷ after → IsClean s
clean_each settings kept [] text again (none, no_more) before after s is = absurd
    (none_within before after s (sym no_more ∙ is))
clean_each settings kept (r ∷ rest) text again (front, behind, cut, this) before after s is =
    cases (is_written settings true r rest) this before is
    (λ more reads b at. clean_each settings kept rest behind more reads b after s at)
  where
    Later : Type 0
    Later = (more : List DumpRecord) → AreReadAgain settings kept rest behind more → (b : List DumpRecord)
        → more ≡ b ++ s ∷ after → IsClean s

    cases : (w : Bool) → IsFirstAgain settings kept r rest front (AreReadAgain settings kept rest behind) again w
        → (b : List DumpRecord) → again ≡ b ++ s ∷ after → Later → IsClean s
    cases true (x, more, same, read, reads) [] at later =
        let whole : x ∷ more ≡ s ∷ after = sym same ∙ at in
        let first : x ≡ s = cc in
        subst IsClean first read.clean
    cases true (x, more, same, read, reads) (y ∷ b) at later =
        later more reads b (tail-eq x y more (b ++ s ∷ after) (sym same ∙ at))
    cases false (none, reads) b at later = later again reads b at

-- no fault is left

no_fault : (before : List DumpRecord) (s : DumpRecord) → ¬ HoldsOfRecord keep_all before s faults.Order → IsClean s
    → (kind : FaultKind) → ¬ HoldsOfRecord keep_all before s kind
no_fault before s order clean faults.HeaderCut h = h
no_fault before s order clean faults.Header h = h
no_fault before s order clean faults.Kind h = h
no_fault before s order clean faults.Version h = h
no_fault before s order clean faults.Number h = h
no_fault before s order clean faults.Lengths h = h
no_fault before s order clean faults.ContentCut h = h
no_fault before s order clean faults.Order h = order h
no_fault before s order clean faults.Props h = clean.props h
no_fault before s order clean faults.Md5 h = clean.md5 h
no_fault before s order clean faults.Sha1 h = clean.sha1 h
no_fault before s order clean faults.CopySource h = none (is_kept_node keep_all s) (is_copy s) (not (is_whole_file s)) h
  where
    none : (a b c : Bool) → (a && (b && false) && c) ≡ true → ⊥
    none true true c e = cc
    none true false c e = cc
    none false b c e = cc
no_fault before s order clean faults.CopyRevision h = let bad : false ≡ true = h.0 in cc
no_fault before s order clean faults.MergeInfo h = clean.merge h
no_fault before s order clean faults.MergeSource (value, of, missing) = let bad : true ≡ false = missing.5 in cc
no_fault before s order clean faults.MergeRange (value, of, foreign) = let bad : false ≡ true = foreign.0 in cc

-- the records that are read again have no fault if everything is kept
pub free_again : (settings : Settings) (records : List DumpRecord) (text : List ℕ) (again : List DumpRecord)
    → AllLawful records → AreFaultFree settings records
    → AreReadAgain settings (kept_revisions settings records) records text again → AreFaultFree keep_all again
free_again settings records text again lawful free read before after s is =
    let order = order_again settings (kept_revisions settings records) records text again lawful
    (λ n has. has) read false false None None (in_order settings records free) tt (λ g any. g) in
    no_fault before s (order_fits again order before after s is)
    (clean_each settings (kept_revisions settings records) records text again read before after s is)
