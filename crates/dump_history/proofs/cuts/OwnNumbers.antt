-- If no revision is dropped, each has its own number.
use Rattle.dump_history.proofs.Prelude.{◌≡◌, suc, ◌==◌, Bool, true, ◌||◌, length, refl, sym, ap, ◌∙◌, subst, cond, MatchBool, AllZip, list_all, and_from, or_left, or_right, Pad, DropEmptied, DropAll, Property, Settings, HasPropertyList, property_list_once, Group, groups, group_number, has_kept_node, is_bare, is_padded, keeps_empty, keeps_group, revision_properties, KeepsProperties, HasNamingNode, HasNamingNodeBehind, KeepsNamedNumbers, keeps_numbering}
use Rattle.std.proofs.Common.{false, not, ◌&&◌, List, [], ◌∷◌, filter}
use Rattle.dump_rules.specs.declared.options.Empty.{Empty}
use Rattle.dump_filter.specs.Groups.{is_pad, is_emptied}
use Rattle.dump_history.specs.steps.CutDumps.{NumbersAreKept}

or_ends : (a b : Bool) → (a || b || true) ≡ true
or_ends true true = refl
or_ends true false = refl
or_ends false true = refl
or_ends false false = refl

pad_is : (e : Empty) → is_pad e ≡ true → e ≡ Pad
pad_is Pad is = refl
pad_is DropEmptied is = absurd (let bad : false ≡ true = is in cc)
pad_is DropAll is = absurd (let bad : false ≡ true = is in cc)

module _ (settings : Settings) (pad : settings.empty ≡ Pad) where
  -- if empty revisions are padded, each revision is kept
  all_kept : (g : Group) → keeps_group settings g ≡ true
  all_kept g = ap (λ e. group_number g == 0 || has_kept_node settings g || keeps_empty e (is_bare g)) pad
      ∙ or_ends (group_number g == 0) (has_kept_node settings g)

  groups_kept : (gs : List Group) → list_all (keeps_group settings) gs ≡ true
  groups_kept [] = refl
  groups_kept (g ∷ gs) = and_from (keeps_group settings g) (list_all (keeps_group settings) gs) (all_kept g) (groups_kept gs)

  pub filter_same : (gs : List Group) → filter (keeps_group settings) gs ≡ gs
  filter_same [] = refl
  filter_same (g ∷ gs) =
      ap (λ b. cond b (g ∷ filter (keeps_group settings) gs) (filter (keeps_group settings) gs)) (all_kept g)
      ∙ ap (λ hs. g ∷ hs) (filter_same gs)

  none_behind : (gs : List Group) → HasNamingNodeBehind settings gs → ⊥
  none_behind [] has = has
  none_behind (g ∷ gs) has =
      none_behind gs (subst (λ b. MatchBool b (HasNamingNodeBehind settings gs) (HasNamingNode settings gs)) (all_kept g)
      has)

-- so no number is lost
pub numbers_are_kept : NumbersAreKept
numbers_are_kept settings records no_gap = cases settings.renumber refl
  where
    Named : Bool → Type 0
    Named b = MatchBool b Rattle.std.specs.Prelude.⊤ (HasNamingNodeBehind settings (groups records) → ⊥)

    cases : (b : Bool) → settings.renumber ≡ b
        → KeepsNamedNumbers settings records × (keeps_numbering settings records ≡ true)
    cases true is = (
      subst Named (sym is) tt,
      or_left settings.renumber (list_all (keeps_group settings) (groups records)) is,
    )
    cases false is =
        let pad = pad_is settings.empty (sym (ap (λ b. b || is_pad settings.empty) is) ∙ no_gap) in (
          subst Named (sym is) (none_behind settings pad (groups records)),
          or_right settings.renumber (list_all (keeps_group settings) (groups records))
              (groups_kept settings pad (groups records)),
        )

-- lists

pub zip_length : {A B : Type 0} (R : A → B → Type 0) (xs : List A) (ys : List B) → AllZip R xs ys
    → length xs ≡ length ys
zip_length R [] [] all = refl
zip_length R [] (y ∷ ys) all = absurd all
zip_length R (x ∷ xs) [] all = absurd all
zip_length R (x ∷ xs) (y ∷ ys) all = ap suc (zip_length R xs ys all.1)

-- properties

-- if no revision is padded, each has its properties
pub same_properties : (settings : Settings) → settings.preserve ≡ true → (gs hs : List Group)
    → AllZip (KeepsProperties settings) gs hs → (props : List (List Property))
    → AllZip (λ (g : Group) ps. HasPropertyList g.revision ps) gs props
    → AllZip (λ (g : Group) ps. HasPropertyList g.revision ps) hs props
same_properties settings preserve [] [] all [] have = tt
same_properties settings preserve [] [] all (ps ∷ props) have = absurd have
same_properties settings preserve [] (h ∷ hs) all props have = absurd all
same_properties settings preserve (g ∷ gs) [] all props have = absurd all
same_properties settings preserve (g ∷ gs) (h ∷ hs) all [] have = absurd have
same_properties settings preserve (g ∷ gs) (h ∷ hs) ((qs, old, new), all) (ps ∷ props) (first, have) = (
  subst (λ list. HasPropertyList h.revision list)
      (ap (λ b. revision_properties b qs) unpadded ∙ property_list_once g.revision qs ps old first) new,
  same_properties settings preserve gs hs all props have,
)
  where
    and_ends : (a b : Bool) → (a && b && false) ≡ false
    and_ends true true = refl
    and_ends true false = refl
    and_ends false true = refl
    and_ends false false = refl

    unpadded : is_padded settings g ≡ false
    unpadded = ap (λ p. is_emptied settings g && is_pad settings.empty && not p) preserve
        ∙ and_ends (is_emptied settings g) (is_pad settings.empty)
