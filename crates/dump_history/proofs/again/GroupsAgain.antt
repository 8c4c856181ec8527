-- The groups of what is written, read again: those of the kept groups, with their kept nodes.
use Rattle.dump_history.proofs.Prelude.{◌≡◌, ◌==◌, Bool, true, ◌&&◌, ◌||◌, refl, sym, ap, ◌∙◌, subst, take_while, if◌then◌else◌, MatchBool, list_any, take_while-cons, first_false, second_false, absurd_bool, DumpRecord, is_lawful, Settings, KeptRevisions, is_revision_record, is_node, is_kept_node, Group, group_of, groups, group_number, is_bare, has_kept_node, keeps_empty, keeps_group, is_written, alone, AllLawful, IsReadAgain, AreReadAgain}
use Rattle.std.proofs.Common.{ℕ, false, List, [], ◌∷◌}
use Rattle.std.proofs.Math.Bool.{and-true}

module _ (settings : Settings) (kept : KeptRevisions) where
  -- the second record is what is written of the first one, read again
  abbrev pub IsAgain : DumpRecord → DumpRecord → Type 0
  IsAgain r s = (after : List DumpRecord) × (front : List ℕ) × IsReadAgain settings kept r after front s

  -- the second nodes are what is written of the kept nodes, read again
  abbrev pub AreNodesAgain : List DumpRecord → List DumpRecord → Type 0
  AreNodesAgain [] again = again ≡ []
  AreNodesAgain (r ∷ nodes) again =
      MatchBool (is_kept_node settings r)
      ((s : DumpRecord) × (rest : List DumpRecord) × (again ≡ s ∷ rest) × IsAgain r s × AreNodesAgain nodes rest)
      (AreNodesAgain nodes again)

  -- the second group is what is written of the kept first group, read again
  pub record IsGroupAgain (g h : Group) : Type 0 where
    pub after : List DumpRecord
    pub whole : group_of g.revision after ≡ g
    pub front : List ℕ
    pub revision : IsReadAgain settings kept g.revision after front h.revision
    pub nodes : AreNodesAgain g.nodes h.nodes

  -- the second groups are what is written of the kept groups, read again
  abbrev pub AreGroupsAgain : List Group → List Group → Type 0
  AreGroupsAgain [] again = again ≡ []
  AreGroupsAgain (g ∷ gs) again =
      MatchBool (keeps_group settings g)
      ((h : Group) × (rest : List Group) × (again ≡ h ∷ rest) × IsGroupAgain g h × AreGroupsAgain gs rest)
      (AreGroupsAgain gs again)

  -- the nodes at the beginning of the records

  node_first : (s : DumpRecord) (more : List DumpRecord) (b : Bool) → is_node s ≡ b
      → take_while is_node (s ∷ more) ≡ (if b then s ∷ take_while is_node more else [])
  node_first s more b is = take_while-cons is_node s more
      ∙ ap (λ c. if c then s ∷ take_while is_node more else []) is

  -- whether one of the nodes at the beginning is kept
  abbrev pub keeps_first : List DumpRecord → Bool
  keeps_first records = list_any (is_kept_node settings) (take_while is_node records)

  -- a node at the beginning is kept, or one after it
  pub keeps_first-node : (r : DumpRecord) (records : List DumpRecord) (b : Bool) → is_node r ≡ b
      → keeps_first (r ∷ records) ≡ (if b then is_kept_node settings r || keeps_first records else false)
  keeps_first-node r records true is = ap (list_any (is_kept_node settings)) (node_first r records true is)
  keeps_first-node r records false is = ap (list_any (is_kept_node settings)) (node_first r records false is)

  -- whether a record is written

  is_written-revision : (r : DumpRecord) (after : List DumpRecord) → is_revision_record r ≡ true
      → is_written settings true r after ≡ keeps_group settings (group_of r after)
  is_written-revision r after rev = rw rev (and-true (keeps_group settings (group_of r after)))

  is_written-other : (r : DumpRecord) (after : List DumpRecord) → is_revision_record r ≡ false
      → is_written settings true r after ≡ (if is_node r then is_kept_node settings r else true)
  is_written-other r after other = rw other refl

  -- a group that isn't kept has no kept node
  none_kept : (g : Group) → keeps_group settings g ≡ false → has_kept_node settings g ≡ false
  none_kept g dropped =
      second_false (group_number g == 0) (has_kept_node settings g)
      (first_false ((group_number g == 0) || has_kept_node settings g)
      (keeps_empty settings.empty (is_bare g)) dropped)

  -- no node is at the beginning if none is kept

  -- if a record that is no node isn't written, none of the nodes that directly follow it is kept
  pub dropped_behind : (r : DumpRecord) (after : List DumpRecord) → is_node r ≡ false
      → is_written settings true r after ≡ false → keeps_first after ≡ false
  dropped_behind r after no_node dropped = cases (is_revision_record r) refl
    where
      cases : (b : Bool) → is_revision_record r ≡ b → keeps_first after ≡ false
      cases true rev = none_kept (group_of r after) (sym (is_written-revision r after rev) ∙ dropped)
      cases false other =
          let written : is_written settings true r after ≡ true =
          is_written-other r after other ∙ ap (λ b. if b then is_kept_node settings r else true) no_node in
          absurd (absurd_bool (is_written settings true r after) written dropped)

  -- a node is written if it is kept
  pub node_written : (r : DumpRecord) (after : List DumpRecord) (number : ℕ) → is_lawful number r.headers ≡ true
      → is_node r ≡ true → is_written settings true r after ≡ is_kept_node settings r
  node_written r after number lawful node = is_written-other r after (alone number r lawful node)
      ∙ ap (λ b. if b then is_kept_node settings r else true) node

  -- what is read again of a record, written or not, and of the records after it
  abbrev pub Reads : DumpRecord → List DumpRecord → List ℕ → List ℕ → List DumpRecord → Bool → Type 0
  Reads r after front rest again written =
      MatchBool written
      ((s : DumpRecord) × (more : List DumpRecord) × (again ≡ s ∷ more) × IsReadAgain settings kept r after front s
      × AreReadAgain settings kept after rest more)
      ((front ≡ []) × AreReadAgain settings kept after rest again)

  no_node_first : (records : List DumpRecord) (text : List ℕ) (again : List DumpRecord) → AllLawful records
      → keeps_first records ≡ false → AreReadAgain settings kept records text again → take_while is_node again ≡ []
  no_node_first [] text again lawful none (empty, same) = ap (take_while is_node) same
  no_node_first (r ∷ after) text again lawful none (front, rest, at, this) =
      by_node (is_node r) refl (is_written settings true r after) refl this
      (λ fewer reads. no_node_first after rest again lawful.1 fewer reads)
    where
      by_node : (n : Bool) → is_node r ≡ n → (w : Bool) → is_written settings true r after ≡ w
          → Reads r after front rest again w
          → (keeps_first after ≡ false → AreReadAgain settings kept after rest again → take_while is_node again ≡ [])
          → take_while is_node again ≡ []
      by_node true node true written reads later =
          let keep = sym (node_written r after lawful.0.0 lawful.0.1 node) ∙ written in
          let not_kept = first_false (is_kept_node settings r) (keeps_first after)
          (sym (keeps_first-node r after true node) ∙ none) in
          absurd (absurd_bool (is_kept_node settings r) keep not_kept)
      by_node true node false dropped (empty, reads) later =
          later (second_false (is_kept_node settings r) (keeps_first after)
          (sym (keeps_first-node r after true node) ∙ none)) reads
      by_node false other true written (s, more, same, read, reads) later =
          ap (take_while is_node) same ∙ node_first s more false (read.node ∙ other)
      by_node false other false dropped (empty, reads) later = later (dropped_behind r after other dropped) reads

  abbrev LaterNodes : List ℕ → List DumpRecord → Type 0
  LaterNodes text records = (again : List DumpRecord) → AreReadAgain settings kept records text again
      → AreNodesAgain (take_while is_node records) (take_while is_node again)

  -- the nodes at the beginning are the earlier ones without those that aren't kept
  nodes_again : (records : List DumpRecord) (text : List ℕ) (again : List DumpRecord) → AllLawful records
      → AreReadAgain settings kept records text again
      → AreNodesAgain (take_while is_node records) (take_while is_node again)
  nodes_again [] text again lawful (empty, same) = ap (take_while is_node) same
  nodes_again (r ∷ after) text again lawful (front, rest, at, this) =
      by_node (is_node r) refl (λ more reads. nodes_again after rest more lawful.1 reads)
    where
      by_written : is_node r ≡ true → (w : Bool) → is_kept_node settings r ≡ w → Reads r after front rest again w
          → LaterNodes rest after → AreNodesAgain (r ∷ take_while is_node after) (take_while is_node again)
      by_written node true keep (s, more, same, read, reads) later =
          rw keep (
            s,
            take_while is_node more,
            ap (take_while is_node) same ∙ node_first s more true (read.node ∙ node),
            (after, front, read),
            later more reads,
          )
      by_written node false drop (empty, reads) later = rw drop (later again reads)

      by_node : (n : Bool) → is_node r ≡ n → LaterNodes rest after
          → AreNodesAgain (take_while is_node (r ∷ after)) (take_while is_node again)
      by_node true node later =
          subst (λ (nodes : List DumpRecord). AreNodesAgain nodes (take_while is_node again))
          (sym (node_first r after true node))
          (by_written node (is_kept_node settings r) refl
          (subst (Reads r after front rest again) (node_written r after lawful.0.0 lawful.0.1 node) this) later)
      by_node false other later =
          subst (λ (nodes : List DumpRecord). AreNodesAgain nodes (take_while is_node again))
          (sym (node_first r after false other))
          (no_node_first (r ∷ after) text again lawful (keeps_first-node r after false other) (front, rest, at, this))

  abbrev Later : List ℕ → List DumpRecord → Type 0
  Later text records = (again : List DumpRecord) → AreReadAgain settings kept records text again
      → AreGroupsAgain (groups records) (groups again)

  -- the groups of what is read again are those of the kept groups
  pub groups_again : (records : List DumpRecord) (text : List ℕ) (again : List DumpRecord) → AllLawful records
      → AreReadAgain settings kept records text again → AreGroupsAgain (groups records) (groups again)
  groups_again [] text again lawful (empty, same) = ap groups same
  groups_again (r ∷ after) text again lawful (front, rest, at, this) =
      by_revision (is_revision_record r) refl (λ more reads. groups_again after rest more lawful.1 reads)
    where
      revision_first : (s : DumpRecord) (more : List DumpRecord) → is_revision_record s ≡ true
          → groups (s ∷ more) ≡ group_of s more ∷ groups more
      revision_first s more rev = rw rev refl

      other_first : (s : DumpRecord) (more : List DumpRecord) → is_revision_record s ≡ false
          → groups (s ∷ more) ≡ groups more
      other_first s more other = rw other refl

      by_kept : is_revision_record r ≡ true → (w : Bool) → keeps_group settings (group_of r after) ≡ w
          → Reads r after front rest again w → Later rest after
          → AreGroupsAgain (group_of r after ∷ groups after) (groups again)
      by_kept rev true keep (s, more, same, read, reads) later =
          rw keep (
            group_of s more,
            groups more,
            ap groups same ∙ revision_first s more (read.revision ∙ rev),
            record {
              after = after;
              whole = refl;
              front = front;
              revision = read;
              nodes = nodes_again after rest more lawful.1 reads;
            },
            later more reads,
          )
      by_kept rev false drop (empty, reads) later = rw drop (later again reads)

      by_other : is_revision_record r ≡ false → (w : Bool) → Reads r after front rest again w → Later rest after
          → AreGroupsAgain (groups after) (groups again)
      by_other other true (s, more, same, read, reads) later =
          subst (AreGroupsAgain (groups after))
          (sym (ap groups same ∙ other_first s more (read.revision ∙ other))) (later more reads)
      by_other other false (empty, reads) later = later again reads

      by_revision : (b : Bool) → is_revision_record r ≡ b → Later rest after
          → AreGroupsAgain (groups (r ∷ after)) (groups again)
      by_revision true rev later =
          subst (λ (gs : List Group). AreGroupsAgain gs (groups again)) (sym (revision_first r after rev))
          (by_kept rev (keeps_group settings (group_of r after)) refl
          (subst (Reads r after front rest again) (is_written-revision r after rev) this) later)
      by_revision false other later =
          subst (λ (gs : List Group). AreGroupsAgain gs (groups again)) (sym (other_first r after other))
          (by_other other (is_written settings true r after) this later)
