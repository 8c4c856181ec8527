-- Groups and what is written, where a list is cut before a record that is no node.
use Rattle.dump_filter.proofs.Prelude.{◌≡◌, ℕ, suc, ◌+◌, Bool, true, false, not, ◌&&◌, ◌||◌, ◌==◌, List, [], ◌∷◌, ◌++◌, take, take_while, refl, sym, ap, ◌∙◌, subst, arith, append_assoc, MatchBool, or-false, and-false, and-true, list_all, list_any, prefix_len, list_all-append, list_any-append, DumpRecord, block_text, Settings, KeptRevisions, is_revision_record, is_node, is_kept_node, Group, group_of, groups, group_number, has_kept_node, is_bare, is_pad, is_padded, keeps_group, keeps_empty, revision_number, revision_text, IsRevisionOutput, IsNodeOutput, IsOutput, is_plain, first_true, second_true, first_false, second_false, not-true, is_open, is_written, AreOutputs}
use Rattle.std.proofs.lemmas.List.{append-nil}

-- what is taken from a list begins with its first record
pub take_cons : (n : ℕ) (x : DumpRecord) (xs : List DumpRecord) → take (1 + n) (x ∷ xs) ≡ x ∷ take n xs
take_cons n x xs = let e : 1 + n ≡ suc n = omega arith in ap (λ m. take m (x ∷ xs)) e

-- the nodes at the front end before a record that is no node
nodes_before : (xs zs : List DumpRecord) (y : DumpRecord) → is_node y ≡ false
    → take_while is_node (xs ++ y ∷ zs) ≡ take_while is_node xs
nodes_before [] zs y other = rw other refl
nodes_before (x ∷ xs) zs y other = cases (is_node x) refl (nodes_before xs zs y other)
  where
    cases : (b : Bool) → is_node x ≡ b → take_while is_node (xs ++ y ∷ zs) ≡ take_while is_node xs
        → take_while is_node (x ∷ (xs ++ y ∷ zs)) ≡ take_while is_node (x ∷ xs)
    cases true is more = rw is
        (take_cons (prefix_len is_node (xs ++ y ∷ zs)) x (xs ++ y ∷ zs) ∙ ap (λ (t : List DumpRecord). x ∷ t) more
        ∙ sym (take_cons (prefix_len is_node xs) x xs))
    cases false is more = rw is refl

pub group_before : (x : DumpRecord) (xs zs : List DumpRecord) (y : DumpRecord) → is_node y ≡ false
    → group_of x (xs ++ y ∷ zs) ≡ group_of x xs
group_before x xs zs y other = ap (λ (ns : List DumpRecord). record { revision = x; nodes = ns })
    (nodes_before xs zs y other)

-- a record that is no node ends the groups before it
pub groups_before : (xs zs : List DumpRecord) (y : DumpRecord) → is_node y ≡ false
    → groups (xs ++ y ∷ zs) ≡ groups xs ++ groups (y ∷ zs)
groups_before [] zs y other = refl
groups_before (x ∷ xs) zs y other = cases (is_revision_record x) refl (groups_before xs zs y other)
  where
    cases : (b : Bool) → is_revision_record x ≡ b → groups (xs ++ y ∷ zs) ≡ groups xs ++ groups (y ∷ zs)
        → groups (x ∷ (xs ++ y ∷ zs)) ≡ groups (x ∷ xs) ++ groups (y ∷ zs)
    cases true is more = rw is (ap (λ (g : Group). g ∷ groups (xs ++ y ∷ zs)) (group_before x xs zs y other)
        ∙ ap (λ (gs : List Group). group_of x xs ∷ gs) more)
    cases false is more = rw is more

-- what is a node and nothing else is a node
pub plain_node : (r : DumpRecord) → is_plain r ≡ true → is_node r ≡ true
plain_node r h = first_true (is_node r) (not (is_revision_record r)) h

-- what is a node and nothing else is no revision
pub plain_other : (r : DumpRecord) → is_plain r ≡ true → is_revision_record r ≡ false
plain_other r h = not-true (is_revision_record r) (second_true (is_node r) (not (is_revision_record r)) h)

pub all_nodes : (ns : List DumpRecord) → list_all is_plain ns ≡ true → list_all is_node ns ≡ true
all_nodes [] all = refl
all_nodes (n ∷ ns) all =
    let one = plain_node n (first_true (is_plain n) (list_all is_plain ns) all) in
    let more = all_nodes ns (second_true (is_plain n) (list_all is_plain ns) all) in
    rw (one, more) refl

pub take_nodes : (ns : List DumpRecord) → list_all is_plain ns ≡ true → take_while is_node ns ≡ ns
take_nodes [] all = refl
take_nodes (n ∷ ns) all =
    let one = plain_node n (first_true (is_plain n) (list_all is_plain ns) all) in
    rw one (take_cons (prefix_len is_node ns) n ns
    ∙ ap (λ (t : List DumpRecord). n ∷ t) (take_nodes ns (second_true (is_plain n) (list_all is_plain ns) all)))

pub no_groups : (ns : List DumpRecord) → list_all is_plain ns ≡ true → groups ns ≡ []
no_groups [] all = refl
no_groups (n ∷ ns) all =
    let other = plain_other n (first_true (is_plain n) (list_all is_plain ns) all) in
    rw other (no_groups ns (second_true (is_plain n) (list_all is_plain ns) all))

-- the group of a revision and nodes after it
pub own_group : (y : DumpRecord) (ns : List DumpRecord) → list_all is_plain ns ≡ true
    → group_of y ns ≡ record { revision = y; nodes = ns }
own_group y ns all = ap (λ (t : List DumpRecord). record { revision = y; nodes = t }) (take_nodes ns all)

-- a revision and its nodes are one group
pub groups_revision : (y : DumpRecord) (ns : List DumpRecord) → is_revision_record y ≡ true
    → list_all is_plain ns ≡ true → groups (y ∷ ns) ≡ record { revision = y; nodes = ns } ∷ []
groups_revision y ns is all = rw is (ap (λ (g : Group). g ∷ groups ns) (own_group y ns all)
    ∙ ap (λ (gs : List Group). record { revision = y; nodes = ns } ∷ gs) (no_groups ns all))

-- a record that is no revision, alone, is no group
pub groups_other : (y : DumpRecord) → is_revision_record y ≡ false → groups (y ∷ []) ≡ []
groups_other y is = rw is refl

-- nodes and nothing else, with one more, are so still
pub plain_more : (ns : List DumpRecord) (r : DumpRecord) → list_all is_plain ns ≡ true → is_plain r ≡ true
    → list_all is_plain (ns ++ r ∷ []) ≡ true
plain_more ns r all one = list_all-append is_plain ns (r ∷ []) ∙ rw (all, one) refl

-- of nodes and one more some is kept exactly where one of them is, or that one
pub any_more : (settings : Settings) (ns : List DumpRecord) (r : DumpRecord)
    → list_any (is_kept_node settings) (ns ++ r ∷ []) ≡ (list_any (is_kept_node settings) ns || is_kept_node settings r)
any_more settings ns r = list_any-append (is_kept_node settings) ns (r ∷ [])
    ∙ ap (λ b. list_any (is_kept_node settings) ns || b) (or-false (is_kept_node settings r))

module _ (settings : Settings) (k : KeptRevisions) where
  -- a record before one that is no node is written as if the dump had ended
  written_before : (ended : Bool) (x : DumpRecord) (xs zs : List DumpRecord) (y : DumpRecord) → is_node y ≡ false
      → is_written settings ended x (xs ++ y ∷ zs) ≡ is_written settings true x xs
  written_before ended x xs zs y other = cases (is_revision_record x) refl
    where
      closed : is_open (xs ++ y ∷ zs) ≡ false
      closed = list_all-append is_node xs (y ∷ zs) ∙ rw other (and-false (list_all is_node xs))

      either : (a b c : Bool) → (a && ((b || true) || c)) ≡ (a && true)
      either true true c = refl
      either true false c = refl
      either false b c = refl

      cases : (b : Bool) → is_revision_record x ≡ b → is_written settings ended x
          (xs ++ y ∷ zs) ≡ is_written settings true x xs
      cases true is = rw is
          (ap (λ (g : Group). keeps_group settings g &&
          (ended || not (is_open (xs ++ y ∷ zs)) || has_kept_node settings g)) (group_before x xs zs y other)
          ∙ ap (λ b. keeps_group settings (group_of x xs) &&
          (ended || not b || has_kept_node settings (group_of x xs))) closed
          ∙ either (keeps_group settings (group_of x xs)) ended (has_kept_node settings (group_of x xs)))
      cases false is = rw is refl

  -- what is written of a record, if it is
  abbrev IfWritten : DumpRecord → List DumpRecord → List ℕ → Bool → Type 0
  IfWritten r after text written = MatchBool written (IsOutput settings k r after text) (text ≡ [])

  -- what is written of a record, by its group
  abbrev OutputBy : DumpRecord → Group → List ℕ → Type 0
  OutputBy r g text = MatchBool (is_revision_record r) (IsRevisionOutput settings k g text)
      (MatchBool (is_node r) (IsNodeOutput settings k r text) (text ≡ block_text r.headers))

  -- the group of a record that is no revision doesn't matter
  plain_output : (r : DumpRecord) (g h : Group) (text : List ℕ) → is_revision_record r ≡ false → OutputBy r g text
      → OutputBy r h text
  plain_output r g h text other out =
      subst (λ (b : Bool). MatchBool b (IsRevisionOutput settings k h text)
      (MatchBool (is_node r) (IsNodeOutput settings k r text) (text ≡ block_text r.headers))) (sym other)
      (subst (λ (b : Bool). MatchBool b (IsRevisionOutput settings k g text)
      (MatchBool (is_node r) (IsNodeOutput settings k r text) (text ≡ block_text r.headers))) other out)

  abbrev WrittenBy : Bool → DumpRecord → Group → List ℕ → Type 0
  WrittenBy b r g text = MatchBool b (OutputBy r g text) (text ≡ [])

  moved_output : (b c : Bool) (r : DumpRecord) (g h : Group) (text : List ℕ) → b ≡ c → g ≡ h → WrittenBy b r g text
      → WrittenBy c r h text
  moved_output b c r g h text same group out =
      subst (λ (d : Bool). WrittenBy d r h text) same (subst (λ (i : Group). WrittenBy b r i text) group out)

  plain_written : (b c : Bool) (r : DumpRecord) (g h : Group) (text : List ℕ) → is_revision_record r ≡ false → b ≡ c
      → WrittenBy b r g text → WrittenBy c r h text
  plain_written b c r g h text other same out = subst (λ (d : Bool). WrittenBy d r h text) same (by_case b out)
    where
      by_case : (d : Bool) → WrittenBy d r g text → WrittenBy d r h text
      by_case true own = plain_output r g h text other own
      by_case false none = none

  pub outputs_cut : (ended : Bool) (xs zs : List DumpRecord) (y : DumpRecord) (text : List ℕ) → is_node y ≡ false
      → AreOutputs settings ended k (xs ++ y ∷ zs) text
      → (front rest : List ℕ) × (text ≡ front ++ rest) × AreOutputs settings true k xs front
      × AreOutputs settings ended k (y ∷ zs) rest
  outputs_cut ended [] zs y text other out = ([], text, refl, refl, out)
  outputs_cut ended (x ∷ xs) zs y text other (front, rest, is, this, more) =
      let left = outputs_cut ended xs zs y rest other more in (
        front ++ left.0,
        left.1,
        is ∙ ap (λ t. front ++ t) left.2 ∙ sym (append_assoc front left.0 left.1),
        (
          front,
          left.0,
          refl,
          moved_output _ _ x (group_of x (xs ++ y ∷ zs)) (group_of x xs) front (written_before ended x xs zs y other)
              (group_before x xs zs y other) this,
          left.3,
        ),
        left.4,
      )

  pub outputs_join : (ended : Bool) (xs zs : List DumpRecord) (y : DumpRecord) (front rest : List ℕ) → is_node y ≡ false
      → AreOutputs settings true k xs front → AreOutputs settings ended k (y ∷ zs) rest
      → AreOutputs settings ended k (xs ++ y ∷ zs) (front ++ rest)
  outputs_join ended [] zs y front rest other none behind =
      subst (λ (t : List ℕ). AreOutputs settings ended k (y ∷ zs) t) (ap (λ t. t ++ rest) (sym none)) behind
  outputs_join ended (x ∷ xs) zs y front rest other (first, more, is, this, out) behind = (
    first,
    more ++ rest,
    ap (λ t. t ++ rest) is ∙ append_assoc first more rest,
    moved_output _ _ x (group_of x xs) (group_of x (xs ++ y ∷ zs)) first (sym (written_before ended x xs zs y other))
        (sym (group_before x xs zs y other)) this,
    outputs_join ended xs zs y more rest other out behind,
  )

  -- what is written of a node
  abbrev pub OwnOutput : DumpRecord → List ℕ → Type 0
  OwnOutput r text = MatchBool (is_kept_node settings r) (IsNodeOutput settings k r text) (text ≡ [])

  node_written : (ended : Bool) (r : DumpRecord) (after : List DumpRecord) → is_plain r ≡ true
      → is_written settings ended r after ≡ is_kept_node settings r
  node_written ended r after plain = rw (plain_other r plain, plain_node r plain) refl

  node_output : (r : DumpRecord) (after : List DumpRecord) (text : List ℕ) → is_plain r ≡ true → OwnOutput r text
      → (ended : Bool) → IfWritten r after text (is_written settings ended r after)
  node_output r after text plain own ended = subst (IfWritten r after text) (sym (node_written ended r after plain))
      (rw (plain_other r plain, plain_node r plain) (rw (plain_node r plain) at own))

  -- one more node after nodes
  pub nodes_more : (ended last : Bool) (ns : List DumpRecord) (r : DumpRecord) (text own : List ℕ)
      → list_all is_plain ns ≡ true → is_plain r ≡ true → AreOutputs settings ended k ns text → OwnOutput r own
      → AreOutputs settings last k (ns ++ r ∷ []) (text ++ own)
  nodes_more ended last [] r text own all plain none mine =
      (own, [], ap (λ t. t ++ own) none ∙ sym (append-nil own), node_output r [] own plain mine last, refl)
  nodes_more ended last (n ∷ ns) r text own all plain (front, rest, is, this, more) mine =
      let one = first_true (is_plain n) (list_all is_plain ns) all in (
        front,
        rest ++ own,
        ap (λ t. t ++ own) is ∙ append_assoc front rest own,
        plain_written _ _ n (group_of n ns) (group_of n (ns ++ r ∷ [])) front (plain_other n one)
            (node_written ended n ns one ∙ sym (node_written last n (ns ++ r ∷ []) one)) this,
        nodes_more ended last ns r rest own (second_true (is_plain n) (list_all is_plain ns) all) plain more mine,
      )

  -- nodes after which the dump ends
  pub nodes_end : (ended last : Bool) (ns : List DumpRecord) (text : List ℕ) → list_all is_plain ns ≡ true
      → AreOutputs settings ended k ns text → AreOutputs settings last k ns text
  nodes_end ended last [] text all none = none
  nodes_end ended last (n ∷ ns) text all (front, rest, is, this, more) =
      let one = first_true (is_plain n) (list_all is_plain ns) all in (
        front,
        rest,
        is,
        plain_written _ _ n (group_of n ns) (group_of n ns) front (plain_other n one)
            (node_written ended n ns one ∙ sym (node_written last n ns one)) this,
        nodes_end ended last ns rest (second_true (is_plain n) (list_all is_plain ns) all) more,
      )

  -- nothing is written of nodes of which none is kept
  pub nodes_dropped : (ended : Bool) (ns : List DumpRecord) (text : List ℕ) → list_all is_plain ns ≡ true
      → list_any (is_kept_node settings) ns ≡ false
      → AreOutputs settings ended k ns text → text ≡ []
  nodes_dropped ended [] text all none out = out
  nodes_dropped ended (n ∷ ns) text all none (front, rest, is, this, more) =
      let one = first_true (is_plain n) (list_all is_plain ns) all in
      let no_own = first_false (is_kept_node settings n) (list_any (is_kept_node settings) ns) none in
      let nothing : front ≡ [] = subst (IfWritten n ns front) (node_written ended n ns one ∙ no_own) this in
      is ∙ ap (λ t. t ++ rest) nothing
      ∙ nodes_dropped ended ns rest (second_true (is_plain n) (list_all is_plain ns) all)
      (second_false (is_kept_node settings n) (list_any (is_kept_node settings) ns) none) more

  -- a revision whose group has a kept node is written
  rev_kept : (ended : Bool) (y : DumpRecord) (ns : List DumpRecord) → is_revision_record y ≡ true
      → list_all is_plain ns ≡ true → list_any (is_kept_node settings) ns ≡ true → is_written settings ended y ns ≡ true
  rev_kept ended y ns rev all some =
      rw rev
      (ap (λ (g : Group). keeps_group settings g && (ended || not (is_open ns) || has_kept_node settings g))
      (own_group y ns all)
      ∙ ap (λ b. (group_number (record { revision = y; nodes = ns }) == 0 || b || keeps_empty settings.empty
      (is_bare (record { revision = y; nodes = ns }))) && (ended || not (is_open ns) || b)) some
      ∙ all_true (revision_number y == 0) (keeps_empty settings.empty
      (is_bare (record { revision = y; nodes = ns }))) ended (not (is_open ns)))
    where
      all_true : (a e b c : Bool) → (((a || true) || e) && ((b || c) || true)) ≡ true
      all_true true e true c = refl
      all_true true e false true = refl
      all_true true e false false = refl
      all_true false e true c = refl
      all_true false e false true = refl
      all_true false e false false = refl

  -- one without waits while the dump may go on
  rev_waits : (y : DumpRecord) (ns : List DumpRecord) → is_revision_record y ≡ true → list_all is_plain ns ≡ true
      → list_any (is_kept_node settings) ns ≡ false → is_written settings false y ns ≡ false
  rev_waits y ns rev all none =
      rw rev
      (ap (λ (g : Group). keeps_group settings g && (false || not (is_open ns) || has_kept_node settings g))
      (own_group y ns all)
      ∙ ap (λ b. keeps_group settings (record { revision = y; nodes = ns }) && (not (is_open ns) || b)) none
      ∙ ap (λ b. keeps_group settings (record { revision = y; nodes = ns }) && (not b || false)) (all_nodes ns all)
      ∙ and-false (keeps_group settings (record { revision = y; nodes = ns })))

  -- and is written at the end where the options keep it
  rev_ends : (y : DumpRecord) (ns : List DumpRecord) → is_revision_record y ≡ true → list_all is_plain ns ≡ true
      → is_written settings true y ns ≡ keeps_group settings (record { revision = y; nodes = ns })
  rev_ends y ns rev all =
      rw rev
      (ap (λ (g : Group). keeps_group settings g && true) (own_group y ns all)
      ∙ and-true (keeps_group settings (record { revision = y; nodes = ns })))

  -- what is written of a revision, by its group
  own_output : (y : DumpRecord) (ns : List DumpRecord) (text : List ℕ) → is_revision_record y ≡ true
      → list_all is_plain ns ≡ true
      → IsRevisionOutput settings k (record { revision = y; nodes = ns }) text → IsOutput settings k y ns text
  own_output y ns text rev all out = rw rev (subst (λ (g : Group). IsRevisionOutput settings k g text)
      (sym (own_group y ns all)) out)

  output_own : (y : DumpRecord) (ns : List DumpRecord) (text : List ℕ) → is_revision_record y ≡ true
      → list_all is_plain ns ≡ true
      → IsOutput settings k y ns text → IsRevisionOutput settings k (record { revision = y; nodes = ns }) text
  output_own y ns text rev all out = subst (λ (g : Group). IsRevisionOutput settings k g text) (own_group y ns all)
      (rw rev at out)

  -- a revision with a kept node isn't padded, whatever other nodes follow
  pub unpadded : (y : DumpRecord) (ns : List DumpRecord) → list_any (is_kept_node settings) ns ≡ true
      → is_padded settings (record { revision = y; nodes = ns }) ≡ false
  unpadded y ns some = ap
      (λ b. not
      (is_bare (record { revision = y; nodes = ns })) && not b && is_pad settings.empty && not settings.preserve) some
      ∙ none (is_bare (record { revision = y; nodes = ns })) (is_pad settings.empty) (not settings.preserve)
    where
      none : (a c d : Bool) → (not a && false && c && d) ≡ false
      none true c d = refl
      none false c d = refl

  passed_output : (y : DumpRecord) (ns ms : List DumpRecord) (text : List ℕ) → is_revision_record y ≡ true
      → list_all is_plain ns ≡ true → list_all is_plain ms ≡ true
      → list_any (is_kept_node settings) ns ≡ true → list_any (is_kept_node settings) ms ≡ true
      → IsOutput settings k y ns text → IsOutput settings k y ms text
  passed_output y ns ms text rev all all' some some' out =
      let own = output_own y ns text rev all out in
      own_output y ms text rev all' (
        own.0,
        own.1,
        own.2 ∙ ap (λ b. revision_text settings k b y own.0)
            (unpadded y ns some ∙ sym (unpadded y ms some')),
      )

-- a list that ends with the group of a revision
module _ (settings : Settings) (k : KeptRevisions) (closed ns : List DumpRecord) (y : DumpRecord) (text : List ℕ)
    (other : is_node y ≡ false) (rev : is_revision_record y ≡ true) (all : list_all is_plain ns ≡ true)
    (out : AreOutputs settings false k (closed ++ y ∷ ns) text) where
  -- what is written before the group, of its revision, and of its nodes
  record Parts : Type 0 where
    before : List ℕ
    own : List ℕ
    nodes : List ℕ
    is : text ≡ before ++ (own ++ nodes)
    closed_out : AreOutputs settings true k closed before
    own_out : IfWritten settings k y ns own (is_written settings false y ns)
    nodes_out : AreOutputs settings false k ns nodes

  parts : Parts
  parts =
      let cut = outputs_cut settings k false closed ns y text other out in
      let group = cut.4 in
      record {
        before = cut.0;
        own = group.0;
        nodes = group.1;
        is = cut.2 ∙ ap (λ t. cut.0 ++ t) group.2;
        closed_out = cut.3;
        own_out = group.3;
        nodes_out = group.4;
      }

  -- the group with other outputs
  joined : (ended : Bool) (ms : List DumpRecord) (own nodes new : List ℕ)
      → IfWritten settings k y ms own (is_written settings ended y ms)
      → AreOutputs settings ended k ms nodes
      → new ≡ parts.before ++ (own ++ nodes)
      → AreOutputs settings ended k (closed ++ y ∷ ms) new
  joined ended ms own nodes new own_out nodes_out is =
      subst (AreOutputs settings ended k (closed ++ y ∷ ms)) (sym is)
      (outputs_join settings k ended closed ms y parts.before (own ++ nodes) other parts.closed_out
      (own, nodes, refl, own_out, nodes_out))

  -- after a kept node a node adds what is written of it
  pub passed_more : (r : DumpRecord) (own : List ℕ) → is_plain r ≡ true → list_any (is_kept_node settings) ns ≡ true
      → OwnOutput settings k r own → AreOutputs settings false k (closed ++ y ∷ (ns ++ r ∷ [])) (text ++ own)
  passed_more r own plain some mine =
      let p = parts in
      let more : list_any (is_kept_node settings) (ns ++ r ∷ []) ≡ true =
      any_more settings ns r ∙ ap (λ b. b || is_kept_node settings r) some in
      joined false (ns ++ r ∷ []) p.own (p.nodes ++ own) (text ++ own)
      (subst (IfWritten settings k y (ns ++ r ∷ []) p.own)
      (sym (rev_kept settings k false y (ns ++ r ∷ []) rev (plain_more ns r all plain) more))
      (passed_output settings k y ns (ns ++ r ∷ []) p.own rev all (plain_more ns r all plain) some more
      (subst (IfWritten settings k y ns p.own) (rev_kept settings k false y ns rev all some) p.own_out)))
      (nodes_more settings k false false ns r p.nodes own all plain p.nodes_out mine)
      (ap (λ t. t ++ own) p.is ∙ append_assoc p.before (p.own ++ p.nodes) own
      ∙ ap (λ t. p.before ++ t) (append_assoc p.own p.nodes own))

  -- and the end adds nothing
  pub passed_end : list_any (is_kept_node settings) ns ≡ true → AreOutputs settings true k (closed ++ y ∷ ns) text
  passed_end some =
      let p = parts in
      joined true ns p.own p.nodes text
      (subst (IfWritten settings k y ns p.own)
      (rev_kept settings k false y ns rev all some ∙ sym (rev_kept settings k true y ns rev all some)) p.own_out)
      (nodes_end settings k false true ns p.nodes all p.nodes_out)
      p.is

  -- while the revision waits nothing of its group is written
  nothing : list_any (is_kept_node settings) ns ≡ false → text ≡ parts.before
  nothing none =
      let p = parts in
      let no_own : p.own ≡ [] = subst (IfWritten settings k y ns p.own)
      (rev_waits settings k y ns rev all none) p.own_out in
      let no_nodes : p.nodes ≡ [] = nodes_dropped settings k false ns p.nodes all none p.nodes_out in
      p.is ∙ ap (λ t. p.before ++ (t ++ p.nodes)) no_own ∙ ap (λ t. p.before ++ t) no_nodes ∙ append-nil p.before

  empty_nodes : list_any (is_kept_node settings) ns ≡ false → AreOutputs settings false k ns []
  empty_nodes none = subst (AreOutputs settings false k ns)
      (nodes_dropped settings k false ns parts.nodes all none parts.nodes_out) parts.nodes_out

  rev_output : (ended : Bool) (ms : List DumpRecord) (rt : List ℕ) → list_all is_plain ms ≡ true
      → is_written settings ended y ms ≡ true
      → IsRevisionOutput settings k (record { revision = y; nodes = ms }) rt
      → IfWritten settings k y ms rt (is_written settings ended y ms)
  rev_output ended ms rt all' is mine = subst (IfWritten settings k y ms rt)
      (sym is) (own_output settings k y ms rt rev all' mine)

  -- the first kept node brings the revision with it
  pub waits_more : (r : DumpRecord) (rt own : List ℕ) → is_plain r ≡ true → list_any (is_kept_node settings) ns ≡ false
      → is_kept_node settings r ≡ true → IsRevisionOutput settings k (record { revision = y; nodes = ns ++ r ∷ [] }) rt
      → IsNodeOutput settings k r own
      → AreOutputs settings false k (closed ++ y ∷ (ns ++ r ∷ [])) (text ++ (rt ++ own))
  waits_more r rt own plain none kept first mine =
      let p = parts in
      let more : list_any (is_kept_node settings) (ns ++ r ∷ []) ≡ true =
      any_more settings ns r ∙ ap (λ b. b || is_kept_node settings r) none ∙ kept in
      let mine' : OwnOutput settings k r own =
      subst (λ (b : Bool). MatchBool b (IsNodeOutput settings k r own) (own ≡ [])) (sym kept) mine in
      joined false (ns ++ r ∷ []) rt own (text ++ (rt ++ own))
      (rev_output false (ns ++ r ∷ []) rt (plain_more ns r all plain)
      (rev_kept settings k false y (ns ++ r ∷ []) rev (plain_more ns r all plain) more) first)
      (nodes_more settings k false false ns r [] own all plain (empty_nodes none) mine')
      (ap (λ t. t ++ (rt ++ own)) (nothing none))

  -- a dropped one adds nothing
  pub waits_on : (r : DumpRecord) → is_plain r ≡ true → list_any (is_kept_node settings) ns ≡ false
      → is_kept_node settings r ≡ false
      → AreOutputs settings false k (closed ++ y ∷ (ns ++ r ∷ [])) text
  waits_on r plain none dropped =
      let p = parts in
      let more : list_any (is_kept_node settings) (ns ++ r ∷ []) ≡ false =
      any_more settings ns r ∙ ap (λ b. b || is_kept_node settings r) none ∙ dropped in
      let mine : OwnOutput settings k r [] =
      subst (λ (b : Bool). MatchBool b (IsNodeOutput settings k r []) (◌≡◌ {A = List ℕ} [] [])) (sym dropped) refl in
      joined false (ns ++ r ∷ []) [] [] text
      (subst (IfWritten settings k y (ns ++ r ∷ []) [])
      (sym (rev_waits settings k y (ns ++ r ∷ []) rev (plain_more ns r all plain) more)) refl)
      (nodes_more settings k false false ns r [] [] all plain (empty_nodes none) mine)
      (nothing none ∙ sym (append-nil p.before))

  -- the end brings the revision where the options keep it
  pub waits_kept : (rt : List ℕ) → list_any (is_kept_node settings) ns ≡ false
      → keeps_group settings (record { revision = y; nodes = ns }) ≡ true
      → IsRevisionOutput settings k (record { revision = y; nodes = ns }) rt
      → AreOutputs settings true k (closed ++ y ∷ ns) (text ++ rt)
  waits_kept rt none keep mine =
      joined true ns rt [] (text ++ rt)
      (rev_output true ns rt all (rev_ends settings k y ns rev all ∙ keep) mine)
      (nodes_end settings k false true ns [] all (empty_nodes none))
      (ap (λ t. t ++ rt) (nothing none) ∙ ap (λ t. parts.before ++ t) (sym (append-nil rt)))

  -- where the last group has no kept node and isn't kept, what was written is all
  pub waits_dropped : list_any (is_kept_node settings) ns ≡ false
      → keeps_group settings (record { revision = y; nodes = ns }) ≡ false
      → AreOutputs settings true k (closed ++ y ∷ ns) text
  waits_dropped none drop =
      joined true ns [] [] text
      (subst (IfWritten settings k y ns []) (sym (rev_ends settings k y ns rev all ∙ drop)) refl)
      (nodes_end settings k false true ns [] all (empty_nodes none))
      (nothing none ∙ sym (append-nil parts.before))

module _ (settings : Settings) (k : KeptRevisions) where
  -- a list that ends with a version or UUID record ends unchanged
  pub idle_end : (closed : List DumpRecord) (y : DumpRecord) (text : List ℕ) → is_node y ≡ false
      → is_revision_record y ≡ false
      → AreOutputs settings false k (closed ++ y ∷ []) text → AreOutputs settings true k (closed ++ y ∷ []) text
  idle_end closed y text other no_rev out =
      let cut = outputs_cut settings k false closed [] y text other out in
      let group = cut.4 in
      let same : is_written settings false y [] ≡ is_written settings true y [] = rw (no_rev, other) refl in
      subst (AreOutputs settings true k (closed ++ y ∷ [])) (sym cut.2)
      (outputs_join settings k true closed [] y cut.0 cut.1 other cut.3 (
        group.0,
        group.1,
        group.2,
        subst (IfWritten settings k y [] group.0) same group.3,
        group.4,
      ))

  -- a revision after ended records waits
  pub revision_more : (before : List DumpRecord) (r : DumpRecord) (text : List ℕ) → is_node r ≡ false
      → is_revision_record r ≡ true
      → AreOutputs settings true k before text → AreOutputs settings false k (before ++ r ∷ []) text
  revision_more before r text other rev out =
      subst (AreOutputs settings false k (before ++ r ∷ [])) (append-nil text)
      (outputs_join settings k false before [] r text [] other out (
        [],
        [],
        refl,
        subst (IfWritten settings k r [] []) (sym (rev_waits settings k r [] rev refl refl)) refl,
        refl,
      ))

  -- a version or UUID record is written unchanged
  pub other_more : (before : List DumpRecord) (r : DumpRecord) (text : List ℕ) → is_node r ≡ false
      → is_revision_record r ≡ false
      → AreOutputs settings true k before text → AreOutputs settings false k (before ++ r ∷ [])
      (text ++ block_text r.headers)
  other_more before r text other no_rev out =
      let bytes = block_text r.headers in
      let written : is_written settings false r [] ≡ true = rw (no_rev, other) refl in
      outputs_join settings k false before [] r text bytes other out (
        bytes,
        [],
        sym (append-nil bytes),
        subst (IfWritten settings k r [] bytes) (sym written) (rw (no_rev, other) refl),
        refl,
      )
