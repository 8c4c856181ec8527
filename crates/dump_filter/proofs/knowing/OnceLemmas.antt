-- What is written for a list is one text.
use Rattle.dump_filter.proofs.Prelude.{◌≡◌, ℕ, Bool, true, false, List, [], ◌∷◌, ◌++◌, refl, sym, ap, ap₂, ◌∙◌, subst, Some, MatchBool, codes, same_Some, spelled_number, copy_revision_name, Header, with_header_value, block_text, Property, property-eq, DumpRecord, Settings, KeptRevisions, image, one_new_value, is_revision_record, is_node, is_mergeinfo, value_of, Group, group_of, is_padded, becomes_plain, without_copy_headers, IsWrittenCopyNumber, IsNewCopy, is_copy, new_block, AreNewProperties, revision_text, whole_text, IsRevisionOutput, IsNodeOutput, IsOutput, is_written, AreOutputs, property_list_once}
use Rattle.dump_filter.proofs.written.CopyLemmas.{AreCopyLines}
use Rattle.dump_filter.proofs.written.PropertyOutput.{IsNewValue}

same_number : (settings : Settings) (k : KeptRevisions) (old a b : ℕ) → IsWrittenCopyNumber settings k old a
    → IsWrittenCopyNumber settings k old b → a ≡ b
same_number settings k old a b = cases settings.renumber
  where
    cases : (c : Bool) → MatchBool c (image k old ≡ Some a) (a ≡ old) → MatchBool c (image k old ≡ Some b) (b ≡ old)
        → a ≡ b
    cases true x y = let same : Some a ≡ Some b = sym x ∙ y in cc
    cases false x y = x ∙ sym y

copy_once : (settings : Settings) (k : KeptRevisions) (r : DumpRecord) (g h : List Header) → IsNewCopy settings k r g
    → IsNewCopy settings k r h → g ≡ h
copy_once settings k r g h = by_plain (becomes_plain settings r)
  where
    by_copy : (c : Bool) → AreCopyLines settings k r.headers c g → AreCopyLines settings k r.headers c h → g ≡ h
    by_copy true (old, new, at, is, lines) (old', new', at', is', lines') =
        let olds : old' ≡ old = same_Some old' old (sym at' ∙ at) in
        let numbers : new ≡ new' = same_number settings k old new new' is
        (subst (λ n. IsWrittenCopyNumber settings k n new') olds is') in
        lines ∙ ap (λ n. with_header_value copy_revision_name (spelled_number n) r.headers) numbers ∙ sym lines'
    by_copy false a b = a ∙ sym b

    by_plain : (b : Bool)
        → MatchBool b (g ≡ without_copy_headers r.headers) (AreCopyLines settings k r.headers (is_copy r) g)
        → MatchBool b (h ≡ without_copy_headers r.headers) (AreCopyLines settings k r.headers (is_copy r) h) → g ≡ h
    by_plain true a b = a ∙ sym b
    by_plain false a b = by_copy (is_copy r) a b

properties_once : (settings : Settings) (k : KeptRevisions) (old a b : List Property)
    → AreNewProperties settings k old a → AreNewProperties settings k old b → a ≡ b
properties_once settings k [] [] [] x y = refl
properties_once settings k [] [] (q ∷ b) x y = absurd y
properties_once settings k [] (p ∷ a) b x y = absurd x
properties_once settings k (o ∷ old) [] b x y = absurd x
properties_once settings k (o ∷ old) (p ∷ a) [] x y = absurd y
properties_once settings k (o ∷ old) (p ∷ a) (q ∷ b) ((name, value), all) ((name', value'), all') =
    ap₂ (λ (x : Property) (xs : List Property). x ∷ xs)
    (property-eq p q (name ∙ sym name') (by_case (is_mergeinfo o) value value'))
    (properties_once settings k old a b all all')
  where
    by_case : (c : Bool) → IsNewValue settings k o p.value c → IsNewValue settings k o q.value c → p.value ≡ q.value
    by_case true (v, set, x) (w, set', y) = set ∙ ap (λ (t : List ℕ). Some t)
        (one_new_value settings k (value_of o) v w x y) ∙ sym set'
    by_case false x y = x ∙ sym y

node_once : (settings : Settings) (k : KeptRevisions) (r : DumpRecord) (x y : List ℕ) → IsNodeOutput settings k r x
    → IsNodeOutput settings k r y → x ≡ y
node_once settings k r x y (g, old, new, copy, block, props, is) (h, old', new', copy', block', props', is') =
    let olds : old' ≡ old = property_list_once r old' old block' block in
    let news : new ≡ new' = properties_once settings k old new new' props
    (subst (λ (l : List Property). AreNewProperties settings k l new') olds props') in
    is ∙ ap₂ (λ (l : List Header) (ps : List Property). whole_text l (new_block false r ps) r.text ++ codes "\n\n")
    (copy_once settings k r g h copy copy') news ∙ sym is'

revision_once : (settings : Settings) (k : KeptRevisions) (g : Group) (x y : List ℕ) → IsRevisionOutput settings k g x
    → IsRevisionOutput settings k g y → x ≡ y
revision_once settings k g x y (ps, block, is) (qs, block', is') =
    is ∙ ap (λ (l : List Property). revision_text settings k (is_padded settings g) g.revision l)
    (property_list_once g.revision ps qs block block') ∙ sym is'

output_once : (settings : Settings) (k : KeptRevisions) (r : DumpRecord) (after : List DumpRecord) (x y : List ℕ)
    → IsOutput settings k r after x → IsOutput settings k r after y → x ≡ y
output_once settings k r after x y = cases (is_revision_record r) (is_node r)
  where
    cases : (v n : Bool) → MatchBool v (IsRevisionOutput settings k (group_of r after) x)
        (MatchBool n (IsNodeOutput settings k r x) (x ≡ block_text r.headers))
        → MatchBool v (IsRevisionOutput settings k (group_of r after) y)
        (MatchBool n (IsNodeOutput settings k r y) (y ≡ block_text r.headers)) → x ≡ y
    cases true n a b = revision_once settings k (group_of r after) x y a b
    cases false true a b = node_once settings k r x y a b
    cases false false a b = a ∙ sym b

-- what is written for the same records is the same text
pub outputs_once : (settings : Settings) (ended : Bool) (k : KeptRevisions) (rs : List DumpRecord) (x y : List ℕ)
    → AreOutputs settings ended k rs x → AreOutputs settings ended k rs y → x ≡ y
outputs_once settings ended k [] x y a b = a ∙ sym b
outputs_once settings ended k (r ∷ rs) x y (front, rest, is, this, more) (front', rest', is', this', more') =
    let later = outputs_once settings ended k rs rest rest' more more' in
    is ∙ ap (λ t. front ++ t) later ∙ ap (λ t. t ++ rest') (cases (is_written settings ended r rs) this this') ∙ sym is'
  where
    cases : (b : Bool) → MatchBool b (IsOutput settings k r rs front) (front ≡ [])
        → MatchBool b (IsOutput settings k r rs front') (front' ≡ []) → front ≡ front'
    cases true a b = output_once settings k r rs front front' a b
    cases false a b = a ∙ sym b
