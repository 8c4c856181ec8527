-- The first part of what a copy takes: all of it.
use Rattle.std.proofs.Common.{◌≡◌, ℕ, Bool, true, false, drop, List, [], ◌∷◌, ◌++◌, Some, Option, sym, ap, subst, refl}
use Rattle.dump_trees.specs.Paths.{NodePath}
use Rattle.dump_index.specs.steps.Listed.{Listed}
use Rattle.dump_index.specs.declared.change.NodeKind.TheVariants as kinds
use Rattle.dump_additions.specs.declared.parts.Form.{Form}
use Rattle.dump_additions.specs.declared.parts.Form.TheVariants.{Copy, Directory, File}
use Rattle.dump_additions.specs.steps.Parts.{Copied, NoPart, Opened, WrittenFile, ArePartsOf, IsFormAt, PartMeant, kind_in}

-- whether the first part is a file
abbrev is_file_form : Form → Bool
is_file_form Copy = false
is_file_form Directory = false
is_file_form File = true

abbrev is_file : List PartMeant → Bool
is_file [] = false
is_file (part ∷ parts) = is_file_form part.form

module _ (listed : List Listed) (excluded : List NodePath) (number : ℕ) (path source : NodePath) where
  abbrev Parts : NodePath → List PartMeant → Type 0
  Parts = ArePartsOf listed excluded number path source

  abbrev FormAt : NodePath → Option Form → Type 0
  FormAt = IsFormAt listed excluded number path source

  -- the first part is all that is copied, in its form
  pub first_form : (rest : NodePath) (parts inside : List PartMeant) (top : PartMeant) → Parts rest parts
      → parts ≡ top ∷ inside → (top.rest ≡ rest) × FormAt rest (Some top.form)
  first_form rest _ inside top (NoPart _ form) same = absurd (let bad : [] ≡ top ∷ inside = same in cc)
  first_form rest _ inside top (Copied _ form) same =
      let is : record { form = Copy; rest = rest } ≡ top = cc in
      (ap (λ (p : PartMeant). p.rest) (sym is), subst (λ (p : PartMeant). FormAt rest (Some p.form)) is form)
  first_form rest _ inside top (WrittenFile _ form) same =
      let is : record { form = File; rest = rest } ≡ top = cc in
      (ap (λ (p : PartMeant). p.rest) (sym is), subst (λ (p : PartMeant). FormAt rest (Some p.form)) is form)
  first_form rest _ inside top (Opened _ names parts form are more) same =
      let is : record { form = Directory; rest = rest } ≡ top = cc in
      (ap (λ (p : PartMeant). p.rest) (sym is), subst (λ (p : PartMeant). FormAt rest (Some p.form)) is form)

  -- no part is in a file
  pub file_alone : (rest : NodePath) (parts : List PartMeant) → Parts rest (record { form = File; rest = rest } ∷ parts)
      → (parts ≡ []) × (kind_in listed number (source ++ rest) ≡ Some kinds.File)
  file_alone rest parts are = cases are refl
    where
      cases : {all : List PartMeant} → Parts rest all → all ≡ record { form = File; rest = rest } ∷ parts
          → (parts ≡ []) × (kind_in listed number (source ++ rest) ≡ Some kinds.File)
      cases (NoPart _ form) same = absurd (let bad : false ≡ true = ap is_file same in cc)
      cases (Copied _ form) same = absurd (let bad : false ≡ true = ap is_file same in cc)
      cases (WrittenFile _ form) same = (ap (drop 1) (sym same), form.1)
      cases (Opened _ names inner form children more) same = absurd (let bad : false ≡ true = ap is_file same in cc)
