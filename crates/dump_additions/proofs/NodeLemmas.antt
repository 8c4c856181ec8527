-- Nodes, and the parts that they write.
use Rattle.std.proofs.Common.{◌≡◌, ℕ, ◌+◌, ◌<◌, ◌≤◌, ◌-◌, length, take, drop, get_or, arith, true, false, List, [], ◌∷◌, ◌++◌, map, Option, Some, None, refl, sym, ap, ◌∙◌, subst, append_assoc, append-nil, inl, inr}
use Rattle.std.specs.Prelude.{unwrap_or, Err, Ok, Result}
use Rattle.std.specs.List.{Contains, list_all}
use Rattle.std.proofs.lemmas.List.{get_or-map, length-map, map-append, take_all, take_more}
use Rattle.std.proofs.lemmas.List.Elements.{Contains-get_or}
use Rattle.dump_trees.specs.Paths.{NodePath, names_of, path_of}
use Rattle.dump_trees.specs.Changes.{Made}
use Rattle.dump_trees.specs.steps.ExpansionCases.{deletion_of}
use Rattle.dump_trees.specs.Siblings.{has_node_names}
use Rattle.dump_trees.proofs.paths.SiblingLemmas.{both_names}
use Rattle.dump_history.specs.WrittenNodes.{WrittenNode, can_be_written}
use Rattle.dump_index.specs.steps.Listed.{Listed}
use Rattle.dump_index.specs.declared.change.NodeKind.{NodeKind}
use Rattle.dump_index.specs.declared.change.NodeKind.TheVariants as kinds
use Rattle.dump_changes.specs.steps.FileTexts.{ToldText}
use Rattle.dump_changes.specs.declared.no_text.NoText.{NoText}
use Rattle.dump_index.specs.steps.InOrder.{ends_in_slash}
use Rattle.dump_index.specs.steps.Touching.{joined_text}
use Rattle.dump_index.proofs.SlashLemmas.{names_joined}
use Rattle.dump_cut.proofs.ParentLemmas.{ends_named}
use Rattle.dump_expansion.specs.steps.GivenSteads.{GivenStead}
use Rattle.dump_expansion.specs.steps.NewNodes.{written_kind}
use Rattle.dump_expansion.specs.declared.expanding.Stead as code
use Rattle.dump_additions.specs.steps.Additions.{AreNodesOf, BringsNone, IsAddition, IsCleared, IsNodeOf, IsRootOf, SaysKind, copies_over}
use Rattle.dump_additions.specs.steps.FirstNotAdded.{BringsSome, CannotBeAdded, HasNoText, IsReason}
use Rattle.dump_additions.specs.steps.Nodes.{AddsNodes, IsAdditionOr, IsClearingOr, IsNodeOrNoText, IsRootOr, IsSteadFor, IsSteadOr}
use Rattle.dump_additions.specs.declared.not_added.Reason.{Reason}
use Rattle.dump_additions.specs.declared.not_added.Reason.TheVariants.{Text, NoLoad, NotWritable}
use Rattle.dump_additions.specs.declared.parts.Form.{Form}
use Rattle.dump_additions.specs.declared.parts.Form.TheVariants.{Copy, Directory, File}
use Rattle.dump_additions.specs.declared.parts.Part.{Part}
use Rattle.dump_additions.specs.steps.Parts.{part_meant, ArePartsOf, IsFormAt, PartMeant, TakesSomeBack, kind_in}
use Rattle.dump_additions.proofs.TopLemmas.{first_form}
use Rattle.dump_cut.proofs.FoundDeletes.{named_bare}

-- a rest, joined to a path
module _ (text top rest : List ℕ) (is : text ≡ joined_text top rest) (top_named : has_node_names (names_of top) ≡ true)
    (rest_named : has_node_names (names_of rest) ≡ true) where
  pub joined_is : names_of text ≡ names_of top ++ names_of rest
  joined_is = ap names_of is ∙ names_joined top rest

  joined_named : has_node_names (names_of text) ≡ true
  joined_named = ap has_node_names joined_is ∙ both_names (names_of top) (names_of rest) top_named rest_named

  pub joined_path : path_of text ≡ names_of top ++ names_of rest
  joined_path = named_bare text joined_named ∙ joined_is

  pub joined_bare : ends_in_slash text ≡ false
  joined_bare = ends_named text joined_named

-- a copy names the given kind, or another one if no kind is given
pub says_kind : (here : Option NodeKind) (other : NodeKind) (number : ℕ) (source path : List ℕ)
    → SaysKind here (WrittenNode.Copy (written_kind (unwrap_or here other)) number source path)
says_kind None other number source path = tt
says_kind (Some kinds.Directory) other number source path = refl
says_kind (Some kinds.File) other number source path = refl

-- parts one after the other
module _ (blocks : List (List ℕ)) (texts : List ToldText) (listed : List Listed) (excluded : List NodePath) (number : ℕ)
    (path source : NodePath) where
  abbrev Nodes : List PartMeant → List WrittenNode → Type 0
  Nodes = AreNodesOf blocks texts listed excluded number path source

  nodes_pushed : (parts : List PartMeant) (nodes : List WrittenNode) (part : PartMeant) (w : WrittenNode) → Nodes parts nodes
      → IsNodeOf blocks texts listed excluded number path source part w → Nodes (parts ++ part ∷ []) (nodes ++ w ∷ [])
  nodes_pushed [] [] part w are is = (is, tt)
  nodes_pushed [] (n ∷ nodes) part w are is = absurd are
  nodes_pushed (p ∷ parts) [] part w are is = absurd are
  nodes_pushed (p ∷ parts) (n ∷ nodes) part w (one, are) is = (one, nodes_pushed parts nodes part w are is)

  pub one_node_more : (parts : List Part) (k : ℕ) (d : Part) → k < length parts → (first old new : List WrittenNode)
      (w : WrittenNode) → new ≡ old ++ w ∷ []
      → AddsNodes blocks texts listed excluded number path source (map part_meant (take k parts)) first old None
      → IsNodeOf blocks texts listed excluded number path source (part_meant (get_or parts k d)) w
      → AddsNodes blocks texts listed excluded number path source (map part_meant (take (k + 1) parts)) first new None
  one_node_more parts k d low first old new w new_is (more, old_is, are) is = (
    more ++ w ∷ [],
    new_is ∙ (ap (λ (ws : List WrittenNode). ws ++ w ∷ []) old_is ∙ append_assoc first more (w ∷ [])),
    subst (λ ps. Nodes ps (more ++ w ∷ []))
        (sym (ap (map part_meant) (take_more parts k d low) ∙ map-append part_meant (take k parts) (get_or parts k d ∷ [])))
        (nodes_pushed (map part_meant (take k parts)) more (part_meant (get_or parts k d)) w are is),
  )

  -- if each text can be made, the nodes are added
  pub all_added : (parts : List PartMeant) (old new : List WrittenNode) (found : Option NoText)
      → ((why : NoText) → found ≡ Some why → ⊥)
      → AddsNodes blocks texts listed excluded number path source parts old new found
      → AddsNodes blocks texts listed excluded number path source parts old new None
  all_added parts old new None none adds = adds
  all_added parts old new (Some why) none adds = absurd (none why refl)

  -- a part that is a file whose text can't be made
  pub no_text_there : (parts : List Part) (k : ℕ) (d : Part) → k < length parts → (why : NoText)
      → IsNodeOrNoText blocks texts listed excluded number path source (part_meant (get_or parts k d)) (Err why)
      → HasNoText blocks texts listed excluded number path source (map part_meant parts) why
  no_text_there parts k d low why (is, none) = (
    names_of (get_or parts k d).rest.items,
    subst (Contains (map part_meant parts))
        (get_or-map part_meant parts k d (part_meant d) low
        ∙ ap (λ f. record { form = f; rest = names_of (get_or parts k d).rest.items }) is)
        (Contains-get_or (map part_meant parts) k (part_meant d)
        (subst (λ n. k < n) (sym (length-map parts part_meant)) low)),
    none,
  )

-- what is in place of a change, or why nothing can be written
module _ (blocks : List (List ℕ)) (texts : List ToldText) (listed : List Listed) (excluded : List NodePath) (place : ℕ)
    (l : Listed) (number : ℕ) (source : NodePath) (copies : l.made ≡ Some (Made.Copied number source)) where
  abbrev Parts : List PartMeant → Type 0
  Parts parts = ArePartsOf listed excluded number (names_of l.path) source [] parts

  module _ (form : Form) (inside : List PartMeant) (are : Parts (record { form = form; rest = [] } ∷ inside)) where
    refused : (reason : Reason)
        → IsReason blocks texts listed excluded place l number source (record { form = form; rest = [] } ∷ inside) reason
        → CannotBeAdded blocks texts listed excluded place l reason
    refused reason why = record {
      number = number;
      source = source;
      copies = copies;
      parts = record { form = form; rest = [] } ∷ inside;
      are_parts = are;
      why = why;
    }

    -- the form of what is at the source
    its_form : IsFormAt listed excluded number (names_of l.path) source [] (Some form)
    its_form =
        (first_form listed excluded number (names_of l.path) source [] (record { form = form; rest = [] } ∷ inside) inside
        (record { form = form; rest = [] }) are refl).1

    directory_there : form ≡ Directory → kind_in listed number source ≡ Some kinds.Directory
    directory_there is =
        ap (kind_in listed number) (sym (append-nil source))
        ∙ (subst (λ f. IsFormAt listed excluded number (names_of l.path) source [] (Some f)) is its_form).1

    -- the root can't be written
    pub root_refused : (reason : Reason) → IsRootOr blocks texts listed excluded place l form (Err reason)
        → CannotBeAdded blocks texts listed excluded place l reason
    root_refused (Text why) (is, none) = refused (Text why) (form, inside, refl, inl (is, none))
    root_refused NoLoad (is, text) = refused NoLoad (inr (directory_there is, text))
    root_refused NotWritable is = absurd is

    -- nor can a file below it
    pub inside_refused : (why : NoText) → HasNoText blocks texts listed excluded number (names_of l.path) source inside why
        → CannotBeAdded blocks texts listed excluded place l (Text why)
    inside_refused why has = refused (Text why) (form, inside, refl, inr has)

    pub stead_made : (root : WrittenNode) → IsRootOf blocks texts listed excluded place l form root
        → (first new : List WrittenNode) → first ≡ root ∷ []
        → AddsNodes blocks texts listed excluded number (names_of l.path) source inside first new None
        → IsAddition blocks texts listed excluded place l (record { number = l.record_number; nodes = new; keeps = false })
    stead_made root is_root first new first_is (nodes, new_is, are_nodes) = record {
      number = number;
      source = source;
      copies = copies;
      form = form;
      parts = inside;
      are_parts = are;
      root = root;
      is_root = is_root;
      nodes = nodes;
      are_nodes = are_nodes;
      given = ap (λ ns. record { number = l.record_number; nodes = ns; keeps = false })
          (new_is ∙ ap (λ (ns : List WrittenNode). ns ++ nodes) first_is);
    }

    not_written : (g : GivenStead) → IsAddition blocks texts listed excluded place l g
        → list_all can_be_written g.nodes ≡ false → CannotBeAdded blocks texts listed excluded place l NotWritable
    not_written g addition isnt = refused NotWritable (g, addition, isnt)

    pub stead_or : (new : List WrittenNode)
        → IsAddition blocks texts listed excluded place l (record { number = l.record_number; nodes = new; keeps = false })
        → (made : Result code.Stead Reason) → IsSteadFor l.record_number new false made
        → IsSteadOr blocks texts listed excluded place l made
    stead_or new addition (Ok stead) (same, ok) =
        subst (λ (g : GivenStead). IsAddition blocks texts listed excluded place l g × (list_all can_be_written g.nodes ≡ true))
        (sym same) (addition, ok)
    stead_or new addition (Err reason) (is, isnt) =
        subst (CannotBeAdded blocks texts listed excluded place l) (sym is) (not_written _ addition isnt)

  module _ (parts inside : List PartMeant) (form : Form) (rest : NodePath)
      (same : parts ≡ record { form = form; rest = rest } ∷ inside) (are : Parts parts) where
    top : (rest ≡ []) × IsFormAt listed excluded number (names_of l.path) source [] (Some form)
    top = first_form listed excluded number (names_of l.path) source [] parts inside (record { form = form; rest = rest }) are same

    -- nodes are made of these parts
    pub parts_apart : Parts (record { form = form; rest = [] } ∷ inside)
    parts_apart = subst Parts (same ∙ ap (λ r. record { form = form; rest = r } ∷ inside) top.0) are

    -- something comes back with it
    some_back : (form ≡ Copy → ⊥) → BringsSome blocks texts listed excluded (names_of l.path) l.made
    some_back isnt =
        subst (BringsSome blocks texts listed excluded (names_of l.path)) (sym copies) (by form isnt top.1)
      where
        by : (f : Form) → (f ≡ Copy → ⊥) → IsFormAt listed excluded number (names_of l.path) source [] (Some f)
            → TakesSomeBack listed excluded number (names_of l.path) source []
        by Copy isnt is = absurd (isnt refl)
        by Directory isnt is = is.0
        by File isnt is = is.0

    -- or nothing comes back, and it may be over something
    pub stays : form ≡ Copy → (found : Result (Option code.Stead) Reason) → IsClearingOr listed place l found
        → IsAdditionOr blocks texts listed excluded place l found
    stays is found clears =
        cases (subst (BringsNone blocks texts listed excluded (names_of l.path)) (sym copies)
        (subst (λ f. IsFormAt listed excluded number (names_of l.path) source [] (Some f)) is top.1)) found clears
      where
        cases : BringsNone blocks texts listed excluded (names_of l.path) l.made → (found : Result (Option code.Stead) Reason)
            → IsClearingOr listed place l found → IsAdditionOr blocks texts listed excluded place l found
        cases none (Ok None) over = (none, over)
        cases none (Ok (Some stead)) clears = inr (none, clears)
        cases none (Err reason) (over, why, its) = inr (none, over, why, its)

    pub refused_back : (form ≡ Copy → ⊥) → (reason : Reason) → CannotBeAdded blocks texts listed excluded place l reason
        → IsAdditionOr blocks texts listed excluded place l (Err reason)
    refused_back isnt reason why = inl (some_back isnt, why)

-- the node that deletes what exists at the path of a change
module _ (listed : List Listed) (place : ℕ) (l : Listed) (named : has_node_names (names_of l.path) ≡ true)
    (over : copies_over listed place l ≡ true) (text : List ℕ) (is : text ≡ l.path) (nodes : List WrittenNode)
    (nodes_are : nodes ≡ WrittenNode.Deletion text ∷ []) where
  abbrev its : GivenStead
  its = record { number = l.record_number; nodes = nodes; keeps = true }

  cleared : IsCleared l its
  cleared = (
    WrittenNode.Deletion text,
    ap deletion_of (named_bare text (ap (λ t. has_node_names (names_of t)) is ∙ named) ∙ ap names_of is),
    ap (λ ns. record { number = l.record_number; nodes = ns; keeps = true }) nodes_are,
  )

  pub cleared_by : (stead : code.Stead) → IsSteadFor l.record_number nodes true (Ok stead)
      → IsClearingOr listed place l (Ok (Some stead))
  cleared_by stead (same, ok) =
      subst (λ (g : GivenStead). (copies_over listed place l ≡ true) × IsCleared l g × (list_all can_be_written g.nodes ≡ true))
      (sym same) (over, cleared, ok)

  pub not_cleared : (reason : Reason) → IsSteadFor l.record_number nodes true (Err reason)
      → IsClearingOr listed place l (Err reason)
  not_cleared reason (same, isnt) = (over, same, (its, cleared, isnt))

-- a list that isn't empty
pub first_part : (slice items : List Part) (d item : Part) → slice ≡ items → 1 ≤ length slice → item ≡ get_or slice 0 d
    → map part_meant items ≡ part_meant item ∷ map part_meant (take (length slice - 1) (drop 1 slice))
first_part [] items d item same some is = absurd (omega (arith, some))
first_part (p ∷ slice) items d item same some is =
    ap (map part_meant) (sym same)
    ∙ (ap (λ (x : Part). part_meant x ∷ map part_meant slice) (sym is)
    ∙ ap (λ ps. part_meant item ∷ map part_meant ps)
    (sym (take_all (length (p ∷ slice) - 1) slice (let low : length slice ≤ length (p ∷ slice) - 1 = omega arith in low))))
