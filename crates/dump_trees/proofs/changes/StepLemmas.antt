-- One change.
use Rattle.dump_trees.proofs.Prelude.{◌≡◌, not, ◌||◌, IsTrue, IsFalse, refl, sym, ap, ◌∙◌, subst, IfSome, and_parts, Settings, NodePath, keeps, Node, Tree, HasDirectories, Made, PropertyChange, TextChange, Change, History, deleted, node_put, copied, made_in, props_set, text_set, step, edits_props, sets_whole_text, NewProperty, KeepsEntries, IsNewNode, AreNewProps, NewNumber, IsNewMade, IsRestricted, IsNewChange, has_no_props, Separates, AllHaveDirectories, AreRestricted, IsMade, IsRenumbered, KeptStepRestricts, DroppedStepRestricts, EachStepRestricts}
use Rattle.std.proofs.Common.{ℕ, Bool, true, false, ◌&&◌, List, [], ◌++◌, Option, Some, None, option_and_then, is_some, is_none}
use Rattle.dump_trees.proofs.changes.StageLemmas.{Follows, follows_then, deleted_follows, node_put_follows, copied_follows, props_follow, text_follows}
use Rattle.dump_trees.proofs.changes.PlainLemmas.{all_gone, plain_follows}

-- the stages of a change, by its parts
abbrev stages : History → NodePath → Bool → Option Made → Option PropertyChange → Option TextChange → Tree → Option Tree
stages history top deletes made props text tree =
    option_and_then (λ t. text_set text top t)
    (option_and_then (λ t. props_set props top t)
    (option_and_then (λ t. made_in history made top t)
    (deleted deletes top tree)))

module _ (settings : Settings) (IsNew : NewProperty) (IsNumber : NewNumber) (entries : KeepsEntries IsNew)
    (history others : History)
    (directories : AllHaveDirectories history) (same : AreRestricted settings IsNew IsNumber history others)
    (top : NodePath) (is : IsTrue (keeps settings top)) where
  -- a copy of a kept path
  copy_follows : (number written : ℕ) (source : NodePath) → IsTrue (keeps settings source) → IsNumber number written
      → ((tree : Tree) → history number ≡ Some tree → (rest : NodePath) (node : Node)
      → tree (source ++ rest) ≡ Some node
      → keeps settings (top ++ rest) ≡ keeps settings (source ++ rest))
      → (old new : Tree) → IsRestricted settings IsNew old new
      → Follows settings IsNew (made_in history (Some (Made.Copied number source)) top old)
      (made_in others (Some (Made.Copied written source)) top new)
  copy_follows number written source is_source numbered apart old new r = cases (history number) refl
    where
      cases : (o : Option Tree) → history number ≡ o
          → Follows settings IsNew (option_and_then (λ tree. copied source top old tree) o)
          (option_and_then (λ tree. copied source top new tree) (others written))
      cases None at = tt
      cases (Some tree) at =
          let there = same number written tree numbered at in
          subst (λ o. Follows settings IsNew (copied source top old tree)
          (option_and_then (λ tree. copied source top new tree) o)) (sym there.1)
          (copied_follows settings IsNew source top tree there.0 there.2 is_source is (apart tree at) old new r)

  module _ (deletes : Bool) (props others_props : Option PropertyChange) (both : AreNewProps IsNew props others_props)
      (text : Option TextChange) (old new : Tree) (r : IsRestricted settings IsNew old new) where
    -- all stages, if what is made follows
    through : (made written : Option Made)
        → ((t u : Tree) → IsRestricted settings IsNew t u
        → Follows settings IsNew (made_in history made top t) (made_in others written top u))
        → Follows settings IsNew (stages history top deletes made props text old)
        (stages others top deletes written others_props text new)
    through made written making =
        follows_then settings IsNew (λ t. text_set text top t) (λ t. text_set text top t)
        (option_and_then (λ t. props_set props top t)
        (option_and_then (λ t. made_in history made top t) (deleted deletes top old)))
        (option_and_then (λ t. props_set others_props top t)
        (option_and_then (λ t. made_in others written top t) (deleted deletes top new)))
        (follows_then settings IsNew (λ t. props_set props top t) (λ t. props_set others_props top t)
        (option_and_then (λ t. made_in history made top t) (deleted deletes top old))
        (option_and_then (λ t. made_in others written top t) (deleted deletes top new))
        (follows_then settings IsNew (λ t. made_in history made top t) (λ t. made_in others written top t)
        (deleted deletes top old) (deleted deletes top new)
        (deleted_follows settings IsNew deletes top old new is r) making)
        (λ t u s. props_follow settings IsNew entries props others_props top t u is both s))
        (λ t u s. text_follows settings IsNew text top t u is s)

    -- a copy that becomes a plain file
    plain : (number : ℕ) (source : NodePath) → HasDirectories old
        → ((tree : Tree) → history number ≡ Some tree → IsTrue (is_some props || has_no_props (tree source)))
        → IsTrue (deletes || is_none (old top)) → IsTrue (sets_whole_text text && not (edits_props props))
        → Follows settings IsNew (stages history top deletes (Some (Made.Copied number source)) props text old)
        (stages others top deletes (Some Made.NewFile) others_props text new)
    plain number source has_directories bare free whole =
        parts text (and_parts (sets_whole_text text) (not (edits_props props)) whole).0 (deleted deletes top old)
        (deleted deletes top new)
        (deleted_follows settings IsNew deletes top old new is r) (all_gone deletes top old has_directories free)
      where
        -- both sets of properties, as the entries that replace the old ones
        replacing : (t : List ℕ) (a b tree : Tree) → history number ≡ Some tree → IsRestricted settings IsNew a b
            → ((rest : NodePath) → a (top ++ rest) ≡ None) → (ps qs : Option PropertyChange)
            → not (edits_props ps) ≡ true → AreNewProps IsNew ps qs
            → IsTrue (is_some ps || has_no_props (tree source))
            → Follows settings IsNew
            (option_and_then (λ u. text_set (Some (TextChange.Replaced t)) top u)
            (option_and_then (λ u. props_set ps top u) (copied source top a tree)))
            (option_and_then (λ u. text_set (Some (TextChange.Replaced t)) top u)
            (option_and_then (λ u. props_set qs top u) (node_put (Node.File [] []) top b)))
        replacing t a b tree at s gone None None apart pair none =
            plain_follows settings IsNew entries source top tree a b None None t pair none is
            (directories number tree at) gone s
        replacing t a b tree at s gone None (Some q) apart pair none = absurd pair
        replacing t a b tree at s gone (Some (PropertyChange.Replaced es)) None apart pair none = absurd pair
        replacing t a b tree at s gone (Some (PropertyChange.Replaced es)) (Some (PropertyChange.Edited fs)) apart pair
            none =
            absurd pair
        replacing t a b tree at s gone (Some (PropertyChange.Replaced es)) (Some (PropertyChange.Replaced fs)) apart
            pair none =
            plain_follows settings IsNew entries source top tree a b (Some es) (Some fs) t pair none is
            (directories number tree at) gone s
        replacing t a b tree at s gone (Some (PropertyChange.Edited es)) qs apart pair none =
            absurd (let bad : false ≡ true = apart in cc)

        copying : (t : List ℕ) (a b : Tree) → IsRestricted settings IsNew a b
            → ((rest : NodePath) → a (top ++ rest) ≡ None) → (o : Option Tree) → history number ≡ o
            → Follows settings IsNew
            (option_and_then (λ u. text_set (Some (TextChange.Replaced t)) top u)
            (option_and_then (λ u. props_set props top u) (option_and_then (λ tree. copied source top a tree) o)))
            (option_and_then (λ u. text_set (Some (TextChange.Replaced t)) top u)
            (option_and_then (λ u. props_set others_props top u) (node_put (Node.File [] []) top b)))
        copying t a b s gone None at = tt
        copying t a b s gone (Some tree) at =
            replacing t a b tree at s gone props others_props
            (and_parts (sets_whole_text text) (not (edits_props props)) whole).1 both (bare tree at)

        parts : (t : Option TextChange) → sets_whole_text t ≡ true → (a b : Option Tree) → Follows settings IsNew a b
            → IfSome a (λ after. (rest : NodePath) → after (top ++ rest) ≡ None)
            → Follows settings IsNew
            (option_and_then (λ u. text_set t top u) (option_and_then (λ u. props_set props top u)
            (option_and_then (λ u. made_in history (Some (Made.Copied number source)) top u) a)))
            (option_and_then (λ u. text_set t top u) (option_and_then (λ u. props_set others_props top u)
            (option_and_then (λ u. made_in others (Some Made.NewFile) top u) b)))
        parts None some_text a b s gone = absurd (let bad : false ≡ true = some_text in cc)
        parts (Some (TextChange.Patched patch)) some_text a b s gone =
            absurd (let bad : false ≡ true = some_text in cc)
        parts (Some (TextChange.Replaced t)) some_text None b s gone = tt
        parts (Some (TextChange.Replaced t)) some_text (Some a) None s gone = absurd s
        parts (Some (TextChange.Replaced t)) some_text (Some a) (Some b) s gone =
            copying t a b s gone (history number) refl

    -- each kind of kept change
    pub kept_follows : (made written : Option Made) →
        IsNewMade settings IsNumber (sets_whole_text text && not (edits_props props)) made written
        → HasDirectories old
        → ((number : ℕ) (source : NodePath) → made ≡ Some (Made.Copied number source) → IsTrue (keeps settings source)
        → (tree : Tree) → history number ≡ Some tree → (rest : NodePath) (node : Node)
        → tree (source ++ rest) ≡ Some node
        → keeps settings (top ++ rest) ≡ keeps settings (source ++ rest))
        → ((number : ℕ) (source : NodePath) → made ≡ Some (Made.Copied number source) → IsFalse (keeps settings source)
        → ((tree : Tree) → history number ≡ Some tree → IsTrue (is_some props || has_no_props (tree source)))
        × IsTrue (deletes || is_none (old top)))
        → Follows settings IsNew (stages history top deletes made props text old)
        (stages others top deletes written others_props text new)
    kept_follows None None m has_directories apart alone = through None None (λ t u s. s)
    kept_follows None (Some w) m has_directories apart alone = absurd m
    kept_follows (Some Made.NewDirectory) None m has_directories apart alone = absurd m
    kept_follows (Some Made.NewFile) None m has_directories apart alone = absurd m
    kept_follows (Some (Made.Copied number source)) None m has_directories apart alone = absurd m
    kept_follows (Some Made.NewDirectory) (Some Made.NewDirectory) m has_directories apart alone =
        through (Some Made.NewDirectory) (Some Made.NewDirectory)
        (λ t u s. node_put_follows settings IsNew (Node.Directory []) top t u is tt s)
    kept_follows (Some Made.NewDirectory) (Some Made.NewFile) m has_directories apart alone = absurd m
    kept_follows (Some Made.NewDirectory) (Some (Made.Copied w q)) m has_directories apart alone = absurd m
    kept_follows (Some Made.NewFile) (Some Made.NewDirectory) m has_directories apart alone = absurd m
    kept_follows (Some Made.NewFile) (Some Made.NewFile) m has_directories apart alone =
        through (Some Made.NewFile) (Some Made.NewFile)
        (λ t u s. node_put_follows settings IsNew (Node.File [] []) top t u is (tt, refl) s)
    kept_follows (Some Made.NewFile) (Some (Made.Copied w q)) m has_directories apart alone = absurd m
    kept_follows (Some (Made.Copied number source)) (Some Made.NewDirectory) m has_directories apart alone = absurd m
    kept_follows (Some (Made.Copied number source)) (Some Made.NewFile) m has_directories apart alone =
        let free = alone number source refl m.0 in
        plain number source has_directories free.0 free.1 m.1
    kept_follows (Some (Made.Copied number source)) (Some (Made.Copied w q)) m has_directories apart alone =
        subst
        (λ p. Follows settings IsNew (stages history top deletes (Some (Made.Copied number source)) props text old)
        (stages others top deletes (Some (Made.Copied w p)) others_props text new)) (sym m.2)
        (through (Some (Made.Copied number source)) (Some (Made.Copied w source))
        (copy_follows number w source m.0 m.1 (apart number source refl m.0)))

-- what follows, as a tree
pub followed : (settings : Settings) (IsNew : NewProperty) (a b : Option Tree) → Follows settings IsNew a b
    → (old : Tree)
    → a ≡ Some old → (new : Tree) × (b ≡ Some new) × IsRestricted settings IsNew old new
followed settings IsNew None b f old at = absurd (let bad : None ≡ Some old = at in cc)
followed settings IsNew (Some t) None f old at = absurd f
followed settings IsNew (Some t) (Some u) f old at =
    let same : t ≡ old = (let both : Some t ≡ Some old = at in cc) in
    (u, refl, subst (λ v. IsRestricted settings IsNew v u) same f)

-- a kept change
pub change_follows : (settings : Settings) (IsNew : NewProperty) (IsNumber : NewNumber) → KeepsEntries IsNew
    → (history others : History) (before after restricted : Tree) (c d : Change)
    → AllHaveDirectories history → AreRestricted settings IsNew IsNumber history others
    → HasDirectories before → IsRestricted settings IsNew before restricted
    → Separates settings history before c after → IsTrue (keeps settings c.path)
    → IsNewChange settings IsNew IsNumber c d
    → Follows settings IsNew (step history before c) (step others restricted d)
change_follows settings IsNew IsNumber entries history others before after restricted c d all same directories r apart is
    new =
    let moved = ap (λ p. stages others p d.deletes d.made d.props d.text restricted) new.path
    ∙ (ap (λ b. stages others c.path b d.made d.props d.text restricted) new.deletes
    ∙ ap (λ t. stages others c.path c.deletes d.made d.props t restricted) new.text) in
    subst (λ o. Follows settings IsNew (step history before c) o) (sym moved)
    (kept_follows settings IsNew IsNumber entries history others all same c.path is c.deletes c.props d.props new.props
    c.text before restricted r c.made d.made new.made directories (apart.copy is) (apart.plain is))

-- the law of a kept change, for each relation of new properties and of new numbers
pub kept_step : (settings : Settings) (IsNew : NewProperty) (IsNumber : NewNumber) → KeepsEntries IsNew
    → KeptStepRestricts settings IsNew IsNumber
kept_step settings IsNew IsNumber entries history others before after restricted c d all same directories r at apart is
    new =
    followed settings IsNew (step history before c) (step others restricted d)
    (change_follows settings IsNew IsNumber entries history others before after restricted c d all same directories r apart
    is new) after at

-- a dropped change
pub dropped_step : (settings : Settings) (IsNew : NewProperty) → DroppedStepRestricts settings IsNew
dropped_step settings IsNew history before after restricted c r at apart is = record {
  kept =
      λ path kept. subst (λ o. IsNewNode IsNew o (restricted path)) (sym (apart.dropped is path kept))
      (r.kept path kept);
  left = r.left;
}

-- the law of one change, as the contract states it
pub each_step : EachStepRestricts
each_step settings make renumber entries =
    (kept_step settings (IsMade make) (IsRenumbered renumber) entries, dropped_step settings (IsMade make))
