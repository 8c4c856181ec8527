-- The records that are read again are in order: their nodes are in revisions.
use Rattle.dump_history.proofs.Prelude.{◌≡◌, Bool, true, not, ◌||◌, refl, sym, ap, ◌∙◌, subst, or-true, first_true, second_true, and_from, absurd_bool, DumpRecord, Settings, KeptRevisions, is_revision_record, is_node, is_written, AllLawful, AreReadAgain, has_ordered_nodes}
use Rattle.std.proofs.Common.{ℕ, false, List, [], ◌∷◌}
use Rattle.dump_history.proofs.again.GroupsAgain.{Reads, keeps_first, keeps_first-node, dropped_behind, node_written}

module _ (settings : Settings) (kept : KeptRevisions) where
  -- if no node may follow, no node at the beginning is kept, since there is none
  pub none_behind : (records : List DumpRecord) → has_ordered_nodes false records ≡ true
      → keeps_first settings kept records ≡ false
  none_behind [] fine = refl
  none_behind (r ∷ records) fine = cases (is_node r) refl
    where
      cases : (b : Bool) → is_node r ≡ b → keeps_first settings kept (r ∷ records) ≡ false
      cases true node = absurd (absurd_bool (not (is_node r) || false)
          (first_true (not (is_node r) || false) (has_ordered_nodes (is_revision_record r || is_node r) records) fine)
          (rw node refl))
      cases false other = keeps_first-node settings kept r records false other

  -- the records that are read again are in order if the dump's are, and a node may follow them if it may follow the
  -- dump's
  pub order_again : (may_follow may_again : Bool) (records : List DumpRecord) (text : List ℕ) (again : List DumpRecord)
      → AllLawful records → has_ordered_nodes may_follow records ≡ true
      → (keeps_first settings kept records ≡ true → may_again ≡ true)
      → AreReadAgain settings kept records text again → has_ordered_nodes may_again again ≡ true
  order_again may_follow may_again [] text again lawful order may (empty, same) =
      ap (has_ordered_nodes may_again) same
  order_again may_follow may_again (r ∷ after) text again lawful order may (front, rest, at, this) =
      by_node (is_node r) refl (is_written settings true r after) refl this
      (λ now more allowed reads. order_again (is_revision_record r || is_node r) now after rest more lawful.1
      (second_true (not (is_node r) || may_follow) (has_ordered_nodes (is_revision_record r || is_node r) after) order)
      allowed reads)
    where
      here : (not (is_node r) || may_follow) ≡ true
      here = first_true (not (is_node r) || may_follow)
          (has_ordered_nodes (is_revision_record r || is_node r) after) order

      later_order : has_ordered_nodes (is_revision_record r || is_node r) after ≡ true
      later_order = second_true (not (is_node r) || may_follow)
          (has_ordered_nodes (is_revision_record r || is_node r) after) order

      by_node : (n : Bool) → is_node r ≡ n → (w : Bool) → is_written settings true r after ≡ w
          → Reads settings kept r after front rest again w
          → ((now : Bool) (more : List DumpRecord) → (keeps_first settings kept after ≡ true → now ≡ true)
          → AreReadAgain settings kept after rest more → has_ordered_nodes now more ≡ true)
          → has_ordered_nodes may_again again ≡ true
      by_node true node true written (s, more, same, read, reads) later =
          let keep = sym (node_written settings kept r after lawful.0.0 lawful.0.1 node) ∙ written in
          let allowed = may (keeps_first-node settings kept r after true node
          ∙ ap (λ b. b || keeps_first settings kept after) keep) in
          ap (has_ordered_nodes may_again) same
          ∙ and_from (not (is_node s) || may_again) (has_ordered_nodes (is_revision_record s || is_node s) more)
          (ap (λ b. not (is_node s) || b) allowed ∙ or-true (not (is_node s)))
          (later (is_revision_record s || is_node s) more
          (λ first. ap (λ b. is_revision_record s || b) (read.node ∙ node)
          ∙ or-true (is_revision_record s)) reads)
      by_node true node false dropped (empty, reads) later =
          let drop = sym (node_written settings kept r after lawful.0.0 lawful.0.1 node) ∙ dropped in
          later may_again again
          (λ first. may (keeps_first-node settings kept r after true node
          ∙ ap (λ b. b || keeps_first settings kept after) drop ∙ first)) reads
      by_node false other true written (s, more, same, read, reads) later =
          ap (has_ordered_nodes may_again) same
          ∙ and_from (not (is_node s) || may_again) (has_ordered_nodes (is_revision_record s || is_node s) more)
          (ap (λ b. not b || may_again) (read.node ∙ other))
          (later (is_revision_record s || is_node s) more (λ first. now_open (is_revision_record r) refl first) reads)
        where
          now_open : (v : Bool) → is_revision_record r ≡ v → keeps_first settings kept after ≡ true
              → (is_revision_record s || is_node s) ≡ true
          now_open true rev first = ap (λ b. b || is_node s) (read.revision ∙ rev)
          now_open false plain first =
              let closed = subst (λ (b : Bool). has_ordered_nodes b after ≡ true)
              (ap (λ b. b || is_node r) plain ∙ other) later_order in
              absurd (absurd_bool (keeps_first settings kept after) first (none_behind after closed))
      by_node false other false dropped (empty, reads) later =
          later may_again again (λ first. absurd (absurd_bool (keeps_first settings kept after) first
          (dropped_behind settings kept r after other dropped))) reads
