-- A change that replaces does what a deletion and the change do.
use Rattle.dump_history.proofs.Prelude.{◌≡◌, true, ◌++◌, refl, sym, ap, ◌∙◌, subst, inl, inr, cond, Option, None, option_and_then, NodePath, Settings, Tree, Change}
use Rattle.std.proofs.Common.{false, List, [], ◌∷◌, Some}
use Rattle.dump_trees.specs.Changes.{History, copied, deleted, made_in, props_set, text_set, step, steps}
use Rattle.dump_trees.specs.Separation.{Separates}
use Rattle.dump_trees.specs.Revisions.{AllSeparate}
use Rattle.dump_trees.specs.steps.Branches.{Branch}
use Rattle.dump_trees.specs.steps.WritingOut.{copy_of, directory_of, file_of, WritesOut}
use Rattle.dump_trees.specs.steps.Expansions.{Expands}
use Rattle.dump_trees.specs.steps.ExpansionCases.{deletion_of}
use Rattle.dump_trees.proofs.expansions.CaseLemmas.{kept_copy}
use Rattle.dump_history.specs.steps.WrittenNodes.{replacing}
use Rattle.dump_history.specs.steps.Replacing.{KeptCopyReplaces}

module _ (settings : Settings) (history : History) (c : Change) (adds : c.deletes ≡ false) where
  -- a deletion alone
  deletion_step : (tree : Tree) → step history tree (deletion_of c.path) ≡ deleted true c.path tree
  deletion_step tree = cases (deleted true c.path tree)
    where
      cases : (o : Option Tree) → option_and_then (λ t. text_set None c.path t)
          (option_and_then (λ t. props_set None c.path t) (option_and_then (λ t. made_in history None c.path t) o)) ≡ o
      cases None = refl
      cases (Some t) = refl

  -- what replaces deletes first
  replacing_step : (tree : Tree) → step history tree (replacing true c)
      ≡ option_and_then (λ t. step history t c) (deleted true c.path tree)
  replacing_step tree = cases (deleted true c.path tree)
    where
      cases : (o : Option Tree) → option_and_then (λ t. text_set c.text c.path t)
          (option_and_then (λ t. props_set c.props c.path t) (option_and_then (λ t. made_in history c.made c.path t) o))
          ≡ option_and_then (λ t. step history t c) o
      cases None = refl
      cases (Some t) = sym (ap (λ b. option_and_then (λ t. text_set c.text c.path t)
          (option_and_then (λ t. props_set c.props c.path t)
          (option_and_then (λ t. made_in history c.made c.path t) (deleted b c.path t)))) adds)

  two_steps : (changes : List Change) (tree : Tree)
      → steps history tree (deletion_of c.path ∷ c ∷ changes) ≡ steps history tree (replacing true c ∷ changes)
  two_steps changes tree =
      ap (option_and_then (λ t. steps history t (c ∷ changes))) (deletion_step tree)
      ∙ cases (deleted true c.path tree)
      ∙ sym (ap (option_and_then (λ t. steps history t changes)) (replacing_step tree))
    where
      cases : (o : Option Tree) → option_and_then (λ t. steps history t (c ∷ changes)) o
          ≡ option_and_then (λ t. steps history t changes) (option_and_then (λ t. step history t c) o)
      cases None = refl
      cases (Some t) = refl

  -- it is separated if both are
  both_separate : (before middle after : Tree) → Separates settings history before (deletion_of c.path) middle
      → Separates settings history middle c after → Separates settings history before (replacing true c) after
  both_separate before middle after first second = record {
    copy = λ keep. second.copy keep;
    plain = λ keep number source made lost. ((second.plain keep number source made lost).0, refl);
    dropped = λ left path keep. second.dropped left path keep ∙ first.dropped left path keep;
  }

  then_separate : (changes : List Change) (tree : Tree)
      → AllSeparate settings history tree (deletion_of c.path ∷ c ∷ changes)
      → AllSeparate settings history tree (replacing true c ∷ changes)
  then_separate changes tree apart = λ after is.
      cases after (deleted true c.path tree) refl (sym (replacing_step tree) ∙ is)
    where
      cases : (after : Tree) (o : Option Tree) → deleted true c.path tree ≡ o
          → option_and_then (λ t. step history t c) o ≡ Some after
          → Separates settings history tree (replacing true c) after × AllSeparate settings history after changes
      cases after None gone at = cc
      cases after (Some middle) there at =
          let (first, later) = apart middle (deletion_step tree ∙ there) in
          let (second, more) = later after at in
          (both_separate tree middle after first second, more)

  -- so if changes that begin with these two lead to a tree, the changes with it in their place lead there too
  replacing_expands : (before : Tree) (d : Change) (changes : List Change)
      → Expands settings history before d (deletion_of c.path ∷ c ∷ changes)
      → Expands settings history before d (replacing true c ∷ changes)
  replacing_expands before d changes expands after is =
      let leads = expands after is in record {
        same = sym (two_steps changes before) ∙ leads.same;
        apart = then_separate changes before leads.apart;
      }

-- what is written out over something

-- it begins with a change at the path, which deletes nothing
begins_there : (settings : Settings) (history : History) (path : NodePath) (branch : Branch) (first : Change)
    (changes : List Change) → WritesOut settings history path branch (first ∷ changes)
    → (first.path ≡ path) × (first.deletes ≡ false)
begins_there settings history path (Branch.Directory props inside) first changes (inl copied) =
    let same : first ≡ copy_of copied.number copied.source path =
    (let both : first ∷ changes ≡ copy_of copied.number copied.source path ∷ [] = copied.one in cc) in
    (ap (λ (d : Change). d.path) same, ap (λ (d : Change). d.deletes) same)
begins_there settings history path (Branch.Directory props inside) first changes (inr (entries, rest, is, made, more)) =
    let same : first ≡ directory_of path entries =
    (let both : first ∷ changes ≡ directory_of path entries ∷ rest = is in cc) in
    (ap (λ (d : Change). d.path) same, ap (λ (d : Change). d.deletes) same)
begins_there settings history path (Branch.File props text) first changes (inl copied) =
    let same : first ≡ copy_of copied.number copied.source path =
    (let both : first ∷ changes ≡ copy_of copied.number copied.source path ∷ [] = copied.one in cc) in
    (ap (λ (d : Change). d.path) same, ap (λ (d : Change). d.deletes) same)
begins_there settings history path (Branch.File props text) first changes (inr (entries, is, made)) =
    let same : first ≡ file_of path entries text =
    (let both : first ∷ changes ≡ file_of path entries text ∷ [] = is in cc) in
    (ap (λ (d : Change). d.path) same, ap (λ (d : Change). d.deletes) same)

pub kept_copy_replaces : KeptCopyReplaces
kept_copy_replaces settings history before old c number source branch made first changes directories stands kept is there
    has apart makes out =
    let (at, adds) = begins_there settings history c.path made first changes out in
    replacing_expands settings history first adds before c changes
    (subst (λ p. Expands settings history before c (deletion_of p ∷ first ∷ changes)) (sym at)
    (subst (λ b. Expands settings history before c (cond b (deletion_of c.path ∷ []) [] ++ first ∷ changes)) stands
    (kept_copy settings history before old c number source branch made (first ∷ changes) directories kept is there has apart
    makes out)))
