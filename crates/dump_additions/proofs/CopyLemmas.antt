-- The parts in place of a copy of a dump that loads do the same as the copy.
use Rattle.std.proofs.Common.{◌≡◌, ℕ, true, List, [], ◌∷◌, ◌++◌, map, Option, Some, None, option_map, is_some, refl, sym, ap, ap₂, ◌∙◌, subst, append-nil, inr}
use Rattle.std.specs.Prelude.{slice_get}
use Rattle.dump_text.specs.PropertyList.{Property}
use Rattle.dump_filter.specs.FilterLaws.{keep_all}
use Rattle.dump_trees.specs.steps.Branches.{Branch, Branches, HasBranch, is_distinct}
use Rattle.dump_trees.specs.Changes.{Change, Made, PropertyChange, TextChange, edited_with, new_props, new_text, step}
use Rattle.dump_trees.specs.steps.ComingBack.{properties_of}
use Rattle.dump_trees.specs.steps.ExpansionCases.{branch_made, branch_with_props, branch_with_text}
use Rattle.dump_trees.specs.steps.Expansions.{Expands}
use Rattle.dump_trees.specs.steps.Looking.{end_of, placed_from}
use Rattle.dump_trees.specs.Paths.{NodePath}
use Rattle.dump_trees.specs.Revisions.{loaded_over}
use Rattle.dump_trees.specs.Trees.{Node, Tree, root_alone}
use Rattle.dump_trees.specs.steps.WritingOut.{file_of, directory_of}
use Rattle.dump_trees.proofs.expansions.EveryLemmas.{copies_something}
use Rattle.dump_trees.proofs.expansions.CaseLemmas.{copy_makes}
use Rattle.dump_trees.proofs.expansions.FiniteLemmas.{Stands}
use Rattle.dump_trees.proofs.expansions.FiniteSteps.{AllFinite, IsFinite, finite_directories, finite_stands}
use Rattle.dump_trees.proofs.expansions.StandingLemmas.{copy_has_tree}
use Rattle.dump_trees.proofs.histories.KeptNumbers.{get_before}
use Rattle.dump_history.specs.steps.WrittenNodes.{replacing}
use Rattle.dump_index.specs.steps.Children.{AreChildren, is_child_named}
use Rattle.dump_index.specs.steps.IndexLaws.{AreListed}
use Rattle.dump_index.specs.steps.InOrder.{are_in_order}
use Rattle.dump_index.specs.steps.Kinds.{kind_look, node_kind}
use Rattle.dump_index.specs.steps.Listed.{Listed, all_placed, listed_of}
use Rattle.dump_index.specs.declared.change.NodeChange.{NodeChange}
use Rattle.dump_index.specs.declared.change.NodeKind.TheVariants as kinds
use Rattle.dump_index.proofs.LawLemmas.{end_same}
use Rattle.dump_index.proofs.PlainLemmas.{children_of_trees, kinds_of_trees}
use Rattle.dump_additions.specs.declared.parts.Form.{Form}
use Rattle.dump_additions.specs.declared.parts.Form.TheVariants.{Copy, Directory, File}
use Rattle.dump_additions.specs.steps.Parts.{ArePartsOf, PartMeant, kind_in}
use Rattle.dump_additions.specs.steps.WrittenParts.{AreChangesFor, IsDirectoryWritten, props_made}
use Rattle.dump_additions.proofs.ExpandLemmas.{directory_expands, made_of, written_expands}
use Rattle.dump_additions.proofs.RootLemmas.{root_made}
use Rattle.dump_additions.proofs.TopLemmas.{file_alone}
use Rattle.dump_additions.proofs.WrittenLemmas.{top_written}

-- what a change makes of a file is a file
file_stays : (change : Option PropertyChange) (props : List Property) (text : List ℕ)
    → (new : List Property) × (branch_with_props change (Branch.File props text) ≡ Branch.File new text)
file_stays None props text = (props, refl)
file_stays (Some change) props text = (new_props change props, refl)

no_directory : (change : Option TextChange) (branch : Branch) (others : List Property) (inside : Branches) {text : List ℕ}
    → (new : List Property) × (branch ≡ Branch.File new text)
    → branch_with_text change branch ≡ Some (Branch.Directory others inside) → ⊥
no_directory change branch others inside {text} (new, same) is =
    cases change (sym (ap (branch_with_text change) same) ∙ is)
  where
    cases : (change : Option TextChange)
        → branch_with_text change (Branch.File new text) ≡ Some (Branch.Directory others inside) → ⊥
    cases None is =
        let bad : Branch.File new text ≡ Branch.Directory others inside =
        (let both : Some (Branch.File new text) ≡ Some (Branch.Directory others inside) = is in cc) in cc
    cases (Some change) is = by (new_text change text) is
      where
        by : (o : Option (List ℕ)) → option_map (λ t. Branch.File new t) o ≡ Some (Branch.Directory others inside) → ⊥
        by None is = let bad : None ≡ Some (Branch.Directory others inside) = is in cc
        by (Some t) is =
            let bad : Branch.File new t ≡ Branch.Directory others inside =
            (let both : Some (Branch.File new t) ≡ Some (Branch.Directory others inside) = is in cc) in cc

module _ (changes : List NodeChange) (revisions : List (List Change)) (trees : List Tree)
    (ordered : are_in_order 0 changes ≡ true) (are_listed : AreListed changes (placed_from 1 revisions))
    (loads : loaded_over root_alone revisions ≡ Some trees) where
  abbrev listed : List Listed
  listed = map listed_of changes

  -- what the index says about the tree of a revision
  kinds_at : (number : ℕ) (old : Tree) → slice_get trees number ≡ Some old → (p : NodePath)
      → kind_look listed (end_of (all_placed listed) number) p ≡ option_map node_kind (old p)
  kinds_at number old there p =
      ap (λ n. kind_look listed n p) (sym (end_same listed (placed_from 1 revisions) are_listed number))
      ∙ kinds_of_trees changes revisions trees number old p ordered are_listed loads there

  names_at : (number : ℕ) (old : Tree) → slice_get trees number ≡ Some old → (p : NodePath) (names : List (List ℕ))
      → AreChildren listed (end_of (all_placed listed) number) p names
      → (name : List ℕ) → is_child_named names name ≡ is_some (old (p ++ name ∷ []))
  names_at number old there p names are name =
      children_of_trees changes revisions trees number old p names name ordered are_listed loads there
      (subst (λ n. AreChildren listed n p names) (sym (end_same listed (placed_from 1 revisions) are_listed number)) are)

  -- a change of one of the revisions, which copies
  module _ (older more : List Tree) (joined : trees ≡ older ++ more) (all : AllFinite (slice_get older))
      (before after : Tree) (finite : IsFinite before) (c : Change) (at : step (slice_get older) before c ≡ Some after)
      (number : ℕ) (source : NodePath) (makes : c.made ≡ Some (Made.Copied number source)) where
    pub early : (old : Tree) × (slice_get older number ≡ Some old)
    early = copy_has_tree (slice_get older) before after c number source makes at

    pub in_trees : slice_get trees number ≡ Some early.0
    in_trees = ap (λ ts. slice_get ts number) joined ∙ get_before older more number early.0 early.1

    exists : (node : Node) × (early.0 source ≡ Some node)
    exists = copies_something (slice_get older) before after early.0 c number source makes early.1 at

    -- the change writes what the copy leaves at its path: a directory with these properties, or a file with its text too
    abbrev pub WritesRoot : List Property → Form → Change → Type 0
    WritesRoot own Copy root = ⊥
    WritesRoot own Directory root = (c.text ≡ None) × (root ≡ directory_of c.path own)
    WritesRoot own File root = (text : List ℕ) × (root ≡ file_of c.path own text)
        × ((props : List Property) (its : List ℕ) → after c.path ≡ Some (Node.File props its) → its ≡ text)

    module _ (excluded : List NodePath) (parts : List PartMeant) (own : List Property) (inner : List Change)
        (writes : AreChangesFor early.0 number c.path source parts inner)
        (own_is : (node : Node) → after c.path ≡ Some node → edited_with own [] ≡ properties_of node) where
      abbrev Expanded : Change → Type 0
      Expanded root = Expands keep_all (slice_get older) before c (replacing (is_some (before c.path)) root ∷ inner)

      -- the properties of the directory that the copy makes
      own_made : c.text ≡ None → (w : IsDirectoryWritten (slice_get older) early.0 c.path source own inner)
          → edited_with own [] ≡ props_made c.props w.props
      own_made none w =
          own_is (Node.Directory (props_made c.props w.props))
          (root_made (slice_get older) before after early.0 c number source (Branch.Directory w.props w.inside)
          (Branch.Directory (props_made c.props w.props) w.inside) makes early.1 at w.exists (made_of c none w.props w.inside))

      of_directory : ArePartsOf listed excluded number c.path source [] (record { form = Directory; rest = [] } ∷ parts)
          → c.text ≡ None → Expanded (directory_of c.path own)
      of_directory are none =
          let w = top_written listed excluded number c.path source (slice_get older) early.0 early.1
          (all number early.0 early.1) (kinds_at number early.0 in_trees) (names_at number early.0 in_trees) parts own inner are
          (ap is_some exists.1) writes in
          directory_expands (slice_get older) before early.0 c number source own inner (finite_directories before finite) makes early.1
          none w (own_made none w)

      -- a file has nothing below it
      no_changes : parts ≡ [] → inner ≡ []
      no_changes none = cases inner (subst (λ ps. AreChangesFor early.0 number c.path source ps inner) none writes)
        where
          cases : (cs : List Change) → AreChangesFor early.0 number c.path source [] cs → cs ≡ []
          cases [] are = refl
          cases (x ∷ cs) are = absurd are

      of_file : ArePartsOf listed excluded number c.path source [] (record { form = File; rest = [] } ∷ parts)
          → (text : List ℕ)
          → ((props : List Property) (its : List ℕ) → after c.path ≡ Some (Node.File props its) → its ≡ text)
          → Expanded (file_of c.path own text)
      of_file are text text_is =
          let top = file_alone listed excluded number c.path source [] parts are in
          let made = copy_makes (slice_get older) c number source early.0 s.branch makes early.1 s.has before after at in
          cases s.branch s.has s.whole.apart (sym (kinds_at number early.0 in_trees source)
          ∙ (ap (kind_in listed number) (sym (append-nil source)) ∙ top.1)) made.0 made.1 (no_changes top.0)
        where
          s : Stands early.0 source
          s = finite_stands early.0 (all number early.0 early.1) source exists.0 exists.1

          cases : (branch : Branch) → HasBranch early.0 source branch → is_distinct branch ≡ true
              → option_map node_kind (early.0 source) ≡ Some kinds.File → (made : Branch) → branch_made c branch ≡ Some made
              → inner ≡ [] → Expanded (file_of c.path own text)
          cases (Branch.Directory props inside) has apart kind made is none =
              absurd (let bad : Some kinds.Directory ≡ Some kinds.File =
              sym (ap (option_map node_kind) (ap early.0 (sym (append-nil source)) ∙ has [])) ∙ kind in cc)
          cases (Branch.File props old) has apart kind (Branch.Directory others inside) is none =
              absurd (no_directory c.text (branch_with_props c.props (Branch.File props old)) others inside
              (file_stays c.props props old) is)
          cases (Branch.File props old) has apart kind (Branch.File new its) is none =
              let left = root_made (slice_get older) before after early.0 c number source (Branch.File props old)
              (Branch.File new its) makes early.1 at has is in
              written_expands (slice_get older) before early.0 c number source (Branch.File props old) (Branch.File new its)
              (file_of c.path own text) inner (finite_directories before finite) makes early.1 has apart is
              (inr (
                own,
                ap₂ (λ t cs. file_of c.path own t ∷ cs) (sym (text_is new its left)) none,
                own_is (Node.File new its) left,
              )) refl

      pub copy_expands : (form : Form)
          → ArePartsOf listed excluded number c.path source [] (record { form = form; rest = [] } ∷ parts) → (root : Change)
          → WritesRoot own form root → Expanded root
      copy_expands Copy are root is = absurd is
      copy_expands Directory are root (none, is) = subst Expanded (sym is) (of_directory are none)
      copy_expands File are root (text, is, text_is) = subst Expanded (sym is) (of_file are text text_is)
