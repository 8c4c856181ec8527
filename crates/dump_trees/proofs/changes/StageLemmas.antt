-- The stages of a change, each taken by the restricted tree as by the whole one.
use Rattle.dump_trees.proofs.Prelude.{◌≡◌, not, option_map, cond, IsTrue, refl, sym, ap, ◌∙◌, subst, both_ways, and_parts, and_from, AllZip, Property, Settings, NodePath, keeps, parent_of, Node, Tree, grafted, put, empty_tree, PropertyChange, TextChange, has_directory, deleted, node_put, copied, new_props, with_props, new_text, with_text, props_put, props_set, text_set, NewProperty, KeepsEntries, IsNewNode, AreNewProps, IsRestricted}
use Rattle.std.proofs.Common.{ℕ, Bool, true, false, ◌&&◌, List, [], ◌∷◌, ◌++◌, Option, Some, None, option_and_then, is_some, is_none}
use Rattle.dump_trees.proofs.changes.EditLemmas.{edits_new}
use Rattle.dump_trees.proofs.paths.KeptPaths.{gives_nothing}
use Rattle.dump_trees.proofs.changes.TreeLemmas.{same_presence, RestrictedAt, nothing_restricted, graft_restricts, put_restricts, directory_restricted}

module _ (settings : Settings) (IsNew : NewProperty) where
  -- if the whole load continues, the filtered one does too, with the restricted tree
  abbrev pub Follows : Option Tree → Option Tree → Type 0
  Follows None new = Rattle.std.specs.Prelude.⊤
  Follows (Some old) None = ⊥
  Follows (Some old) (Some new) = IsRestricted settings IsNew old new

  -- one stage after another
  pub follows_then : (f g : Tree → Option Tree) (a b : Option Tree) → Follows a b
      → ((old new : Tree) → IsRestricted settings IsNew old new → Follows (f old) (g new))
      → Follows (option_and_then f a) (option_and_then g b)
  follows_then f g None b first then = tt
  follows_then f g (Some old) None first then = absurd first
  follows_then f g (Some old) (Some new) first then = then old new first

  -- the same if it continues under a condition
  pub follows_if : (b c : Bool) (old new : Tree) → (b ≡ true → c ≡ true) → IsRestricted settings IsNew old new
      → Follows (cond b (Some old) None) (cond c (Some new) None)
  follows_if false c old new same r = tt
  follows_if true true old new same r = r
  follows_if true false old new same r = absurd (both_ways false refl (same refl))

  -- a deletion
  pub deleted_follows : (deletes : Bool) (top : NodePath) (old new : Tree) → IsTrue (keeps settings top)
      → IsRestricted settings IsNew old new → Follows (deleted deletes top old) (deleted deletes top new)
  deleted_follows false top old new is r = r
  deleted_follows true top old new is r =
      follows_if (is_some (parent_of top) && is_some (old top)) (is_some (parent_of top) && is_some (new top))
      (grafted top empty_tree old) (grafted top empty_tree new)
      (λ both. ap (λ b. is_some (parent_of top) && b) (sym (same_presence IsNew (old top) (new top) (r.kept top is)))
      ∙ both)
      (graft_restricts settings IsNew top empty_tree empty_tree old new r
      (λ rest. (λ kept. tt, λ left. sym (gives_nothing settings top rest is left))))

  -- a new node
  pub node_put_follows : (n : Node) (top : NodePath) (old new : Tree) → IsTrue (keeps settings top)
      → IsNewNode IsNew (Some n) (Some n) → IsRestricted settings IsNew old new
      → Follows (node_put n top old) (node_put n top new)
  node_put_follows n top old new is node r =
      follows_if (is_none (old top) && has_directory old top) (is_none (new top) && has_directory new top)
      (put top n old) (put top n new)
      (λ both. let parts = and_parts (is_none (old top)) (has_directory old top) both in
      and_from (is_none (new top)) (has_directory new top)
      (ap not (sym (same_presence IsNew (old top) (new top) (r.kept top is))) ∙ parts.0)
      (directory_restricted settings IsNew old new r top is parts.1))
      (put_restricts settings IsNew top n n old new is node r)

  -- a copy of a kept path
  module _ (source top : NodePath) (from others : Tree) (r : IsRestricted settings IsNew from others)
      (is_source : IsTrue (keeps settings source)) (is : IsTrue (keeps settings top))
      (same : (rest : NodePath) (node : Node) → from (source ++ rest) ≡ Some node
      → keeps settings (top ++ rest) ≡ keeps settings (source ++ rest)) where
    copy_restricted : (rest : NodePath)
        → RestrictedAt settings IsNew (top ++ rest) (from (source ++ rest)) (others (source ++ rest))
    copy_restricted rest = cases (from (source ++ rest)) refl
      where
        cases : (o : Option Node) → from (source ++ rest) ≡ o
            → RestrictedAt settings IsNew (top ++ rest) (from (source ++ rest)) (others (source ++ rest))
        cases None at =
            let none = nothing_restricted settings IsNew from others r source rest is_source at in (
              λ kept. subst (λ o. IsNewNode IsNew o (others (source ++ rest))) (sym at)
                  (subst (λ o. IsNewNode IsNew None o) (sym none) tt),
              λ left. none ∙ sym (gives_nothing settings top rest is left),
            )
        cases (Some node) at = (
          λ kept. r.kept (source ++ rest) (sym (same rest node at) ∙ kept),
          λ left. r.left (source ++ rest) (sym (same rest node at) ∙ left)
              ∙ (gives_nothing settings source rest is_source (sym (same rest node at) ∙ left)
              ∙ sym (gives_nothing settings top rest is left)),
        )

    -- the copy is made if the whole load makes it, and it is the restricted one
    pub copied_follows : (old new : Tree) → IsRestricted settings IsNew old new
        → Follows (copied source top old from) (copied source top new others)
    copied_follows old new s =
        follows_if (is_some (from source) && has_directory old top) (is_some (others source) && has_directory new top)
        (grafted top (λ rest. from (source ++ rest)) old) (grafted top (λ rest. others (source ++ rest)) new)
        (λ both. let parts = and_parts (is_some (from source)) (has_directory old top) both in
        and_from (is_some (others source)) (has_directory new top)
        (sym (same_presence IsNew (from source) (others source) (r.kept source is_source)) ∙ parts.0)
        (directory_restricted settings IsNew old new s top is parts.1))
        (graft_restricts settings IsNew top (λ rest. from (source ++ rest)) (λ rest. others (source ++ rest)) old new s
        copy_restricted)

  -- properties that are changed in the same way
  puts_follow : (change other : PropertyChange) (top : NodePath) (old new : Tree) → IsTrue (keeps settings top)
      → ((ps qs : List Property) → AllZip IsNew ps qs → AllZip IsNew (new_props change ps) (new_props other qs))
      → IsRestricted settings IsNew old new → Follows (props_put change top old) (props_put other top new)
  puts_follow change other top old new is alike r = cases (old top) (new top) (r.kept top is)
    where
      cases : (a b : Option Node) → IsNewNode IsNew a b
          → Follows (option_map (λ node. put top (with_props change node) old) a)
          (option_map (λ node. put top (with_props other node) new) b)
      cases None b node = tt
      cases (Some (Node.Directory ps)) None node = absurd node
      cases (Some (Node.File ps text)) None node = absurd node
      cases (Some (Node.Directory ps)) (Some (Node.File qs same)) node = absurd node
      cases (Some (Node.File ps text)) (Some (Node.Directory qs)) node = absurd node
      cases (Some (Node.Directory ps)) (Some (Node.Directory qs)) node =
          put_restricts settings IsNew top (Node.Directory (new_props change ps))
          (Node.Directory (new_props other qs)) old new is
          (alike ps qs node) r
      cases (Some (Node.File ps text)) (Some (Node.File qs same)) node =
          put_restricts settings IsNew top (Node.File (new_props change ps) text) (Node.File (new_props other qs) same)
          old new is (alike ps qs node.0, node.1) r

  -- properties
  pub props_follow : KeepsEntries IsNew → (props others : Option PropertyChange) (top : NodePath) (old new : Tree)
      → IsTrue (keeps settings top)
      → AreNewProps IsNew props others → IsRestricted settings IsNew old new
      → Follows (props_set props top old) (props_set others top new)
  props_follow entries None None top old new is both r = r
  props_follow entries None (Some other) top old new is both r = absurd both
  props_follow entries (Some (PropertyChange.Replaced es)) None top old new is both r = absurd both
  props_follow entries (Some (PropertyChange.Edited es)) None top old new is both r = absurd both
  props_follow entries (Some (PropertyChange.Replaced es)) (Some (PropertyChange.Edited fs)) top old new is both r =
      absurd both
  props_follow entries (Some (PropertyChange.Edited es)) (Some (PropertyChange.Replaced fs)) top old new is both r =
      absurd both
  props_follow entries (Some (PropertyChange.Replaced es)) (Some (PropertyChange.Replaced fs)) top old new is both r =
      puts_follow (PropertyChange.Replaced es) (PropertyChange.Replaced fs) top old new is
      (λ ps qs all. edits_new IsNew entries es fs [] [] both tt) r
  props_follow entries (Some (PropertyChange.Edited [])) (Some (PropertyChange.Edited [])) top old new is both r = r
  props_follow entries (Some (PropertyChange.Edited [])) (Some (PropertyChange.Edited (f ∷ fs))) top old new is both r =
      absurd both
  props_follow entries (Some (PropertyChange.Edited (e ∷ es))) (Some (PropertyChange.Edited [])) top old new is both r =
      absurd both
  props_follow entries (Some (PropertyChange.Edited (e ∷ es))) (Some (PropertyChange.Edited (f ∷ fs))) top old new is
      both r =
      puts_follow (PropertyChange.Edited (e ∷ es)) (PropertyChange.Edited (f ∷ fs)) top old new is
      (λ ps qs all. edits_new IsNew entries (e ∷ es) (f ∷ fs) ps qs both all) r

  -- the tree with a file of this new text, if there is one
  abbrev texted : NodePath → List Property → Tree → Option (List ℕ) → Option Tree
  texted top props tree o = option_map (λ node. put top node tree) (option_map (λ t. Node.File props t) o)

  -- a text
  pub text_follows : (text : Option TextChange) (top : NodePath) (old new : Tree) → IsTrue (keeps settings top)
      → IsRestricted settings IsNew old new → Follows (text_set text top old) (text_set text top new)
  text_follows None top old new is r = r
  text_follows (Some change) top old new is r = cases (old top) (new top) (r.kept top is)
    where
      cases : (a b : Option Node) → IsNewNode IsNew a b
          → Follows (option_map (λ node. put top node old) (option_and_then (λ node. with_text change node) a))
          (option_map (λ node. put top node new) (option_and_then (λ node. with_text change node) b))
      cases None b node = tt
      cases (Some (Node.Directory ps)) b node = tt
      cases (Some (Node.File ps other)) None node = absurd node
      cases (Some (Node.File ps other)) (Some (Node.Directory qs)) node = absurd node
      cases (Some (Node.File ps text)) (Some (Node.File qs same)) node =
          subst (λ t. Follows (texted top ps old (new_text change text)) (texted top qs new (new_text change t)))
          (sym node.1)
          (by_text (new_text change text))
        where
          by_text : (o : Option (List ℕ)) → Follows (texted top ps old o) (texted top qs new o)
          by_text None = tt
          by_text (Some t) =
              put_restricts settings IsNew top (Node.File ps t) (Node.File qs t) old new is (node.0, refl) r
