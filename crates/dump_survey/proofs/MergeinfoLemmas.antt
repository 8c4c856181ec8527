-- Whether mergeinfo is one of the properties, property by property.
use Rattle.dump_survey.proofs.Prelude.{◌≡◌, ◌↔◌, ℕ, Bool, true, false, IsTrue, ◌||◌, List, ◌∷◌, sym, ap, ◌∙◌, subst, list_any, Property, IsPropertyBlock, Props, props_bytes, DumpRecord, is_mergeinfo, HasPropertyBlock, SetsMergeinfo}

pub merge_stops : (ps qs : List Property) (p : Property) → ps ≡ p ∷ qs → is_mergeinfo p ≡ true
    → list_any is_mergeinfo ps ≡ true
merge_stops ps qs p is merges = ap (list_any is_mergeinfo) is ∙ ap (λ b. b || list_any is_mergeinfo qs) merges

pub merge_goes : (ps qs : List Property) (p : Property) → ps ≡ p ∷ qs → is_mergeinfo p ≡ false
    → list_any is_mergeinfo ps ≡ list_any is_mergeinfo qs
merge_goes ps qs p is other = ap (list_any is_mergeinfo) is ∙ ap (λ b. b || list_any is_mergeinfo qs) other

-- if the block can be read, its properties say whether the node sets mergeinfo
pub merges_read : (r : DumpRecord) (props : Props) (sets : Bool) → HasPropertyBlock r → props_bytes props ≡ r.props
    → ((ps : List Property) → IsPropertyBlock (props_bytes props) ps → sets ≡ list_any is_mergeinfo ps)
    → IsTrue sets ↔ SetsMergeinfo r
merges_read r props sets (ps, list) same read = (
  λ so. (ps, list, sym (read ps (block ps list.0)) ∙ so),
  λ (qs, other, set). read qs (block qs other.0) ∙ set,
)
  where
    block : (qs : List Property) → IsPropertyBlock r.props qs → IsPropertyBlock (props_bytes props) qs
    block qs is = subst (λ (bytes : List ℕ). IsPropertyBlock bytes qs) (sym same) is

-- if the block can't be read, the node doesn't set mergeinfo
pub merges_unread : (r : DumpRecord) → ¬ HasPropertyBlock r → IsTrue false ↔ SetsMergeinfo r
merges_unread r unread = (λ bad. cc, λ (ps, list, set). absurd (unread (ps, list)))
