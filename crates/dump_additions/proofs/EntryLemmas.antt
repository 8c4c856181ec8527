-- If the properties of a node are set as entries, the result is exactly these properties.
use Rattle.std.proofs.Common.{◌≡◌, Bool, true, false, not, ◌&&◌, ◌||◌, cond, List, [], ◌∷◌, ◌++◌, ℕ, is_some, bytes_eq, refl, sym, ap, ap₂, ◌∙◌, append_assoc, append-nil}
use Rattle.std.specs.List.{filter, list_any}
use Rattle.std.proofs.lemmas.Bool.{and_from, and_parts, not-true, or_parts}
use Rattle.dump_text.specs.PropertyList.{Property}
use Rattle.dump_trees.specs.Changes.{edited_with, with_entry}
use Rattle.dump_trees.proofs.expansions.FiniteLemmas.{other_side}

-- whether one of the properties has the name
abbrev is_set : List ℕ → List Property → Bool
is_set name props = list_any (λ (p : Property). bytes_eq p.name name) props

-- whether each property has a value and a name of its own
abbrev are_set : List Property → Bool
are_set [] = true
are_set (p ∷ props) = is_some p.value && (not (is_set p.name props) && are_set props)

-- the properties without those of one name

fewer_set : (name other : List ℕ) (props : List Property) → is_set other props ≡ false
    → is_set other (filter (λ (p : Property). not (bytes_eq p.name name)) props) ≡ false
fewer_set name other [] none = refl
fewer_set name other (p ∷ props) none =
    cases (fewer_set name other props (or_parts (bytes_eq p.name other) (is_set other props) none).1) (not (bytes_eq p.name name))
  where
    parts : (bytes_eq p.name other ≡ false) × (is_set other props ≡ false)
    parts = or_parts (bytes_eq p.name other) (is_set other props) none

    cases : is_set other (filter (λ (q : Property). not (bytes_eq q.name name)) props) ≡ false
        → (b : Bool) → is_set other (cond b (p ∷ filter (λ (q : Property). not (bytes_eq q.name name)) props)
        (filter (λ (q : Property). not (bytes_eq q.name name)) props)) ≡ false
    cases further true = ap₂ (λ a b. a || b) parts.0 further
    cases further false = further

fewer_are_set : (name : List ℕ) (props : List Property) → are_set props ≡ true
    → are_set (filter (λ (p : Property). not (bytes_eq p.name name)) props) ≡ true
fewer_are_set name [] all = refl
fewer_are_set name (p ∷ props) all =
    cases
    (fewer_are_set name props
    (and_parts (not (is_set p.name props)) (are_set props)
    (and_parts (is_some p.value) (not (is_set p.name props) && are_set props) all).1).1)
    (not (bytes_eq p.name name))
  where
    parts : (is_some p.value ≡ true) × ((not (is_set p.name props) && are_set props) ≡ true)
    parts = and_parts (is_some p.value) (not (is_set p.name props) && are_set props) all

    more : (not (is_set p.name props) ≡ true) × (are_set props ≡ true)
    more = and_parts (not (is_set p.name props)) (are_set props) parts.1

    cases : are_set (filter (λ (q : Property). not (bytes_eq q.name name)) props) ≡ true
        → (b : Bool) → are_set (cond b (p ∷ filter (λ (q : Property). not (bytes_eq q.name name)) props)
        (filter (λ (q : Property). not (bytes_eq q.name name)) props)) ≡ true
    cases further true =
        and_from _ _ parts.0 (and_from _ _ (ap not (fewer_set name p.name props (not-true _ more.0))) further)
    cases further false = further

none_left : (name : List ℕ) (props : List Property)
    → is_set name (filter (λ (p : Property). not (bytes_eq p.name name)) props) ≡ false
none_left name [] = refl
none_left name (p ∷ props) = cases (none_left name props) (bytes_eq p.name name) refl
  where
    cases : is_set name (filter (λ (q : Property). not (bytes_eq q.name name)) props) ≡ false
        → (b : Bool) → bytes_eq p.name name ≡ b
        → is_set name (cond (not b) (p ∷ filter (λ (q : Property). not (bytes_eq q.name name)) props)
        (filter (λ (q : Property). not (bytes_eq q.name name)) props)) ≡ false
    cases further true is = further
    cases further false isnt = ap₂ (λ a b. a || b) isnt further

-- one more property

pushed_set : (name : List ℕ) (props : List Property) (e : Property) → is_set name props ≡ false
    → bytes_eq e.name name ≡ false → is_set name (props ++ e ∷ []) ≡ false
pushed_set name [] e none isnt = ap₂ (λ a b. a || b) isnt refl
pushed_set name (p ∷ props) e none isnt =
    let parts = or_parts (bytes_eq p.name name) (is_set name props) none in
    ap₂ (λ a b. a || b) parts.0 (pushed_set name props e parts.1 isnt)

pushed_are_set : (props : List Property) (e : Property) → are_set props ≡ true → is_set e.name props ≡ false
    → is_some e.value ≡ true → are_set (props ++ e ∷ []) ≡ true
pushed_are_set [] e all none some = and_from _ _ some refl
pushed_are_set (p ∷ props) e all none some =
    let parts = and_parts (is_some p.value) (not (is_set p.name props) && are_set props) all in
    let more = and_parts (not (is_set p.name props)) (are_set props) parts.1 in
    let other = or_parts (bytes_eq p.name e.name) (is_set e.name props) none in
    and_from _ _ parts.0
    (and_from _ _ (ap not (pushed_set p.name props e (not-true _ more.0) (other_side p.name e.name other.0)))
    (pushed_are_set props e more.1 other.1 some))

entry_are_set : (e : Property) (props : List Property) → are_set props ≡ true → are_set (with_entry e props) ≡ true
entry_are_set e props all = cases (is_some e.value) refl
  where
    left : List Property
    left = filter (λ (p : Property). not (bytes_eq p.name e.name)) props

    cases : (b : Bool) → is_some e.value ≡ b
        → are_set (filter (λ (p : Property). not (bytes_eq p.name e.name)) props ++ cond b (e ∷ []) []) ≡ true
    cases true some =
        pushed_are_set (filter (λ (p : Property). not (bytes_eq p.name e.name)) props) e (fewer_are_set e.name props all)
        (none_left e.name props) some
    cases false none =
        ap are_set (append-nil (filter (λ (p : Property). not (bytes_eq p.name e.name)) props))
        ∙ fewer_are_set e.name props all

edited_are_set : (entries props : List Property) → are_set props ≡ true → are_set (edited_with entries props) ≡ true
edited_are_set [] props all = all
edited_are_set (e ∷ entries) props all = edited_are_set entries (with_entry e props) (entry_are_set e props all)

-- setting the properties again

-- no property before a property has its name
front_apart : (done : List Property) (p : Property) (rest : List Property) → are_set (done ++ p ∷ rest) ≡ true
    → filter (λ (q : Property). not (bytes_eq q.name p.name)) done ≡ done
front_apart [] p rest all = refl
front_apart (d ∷ done) p rest all =
    ap (λ b. cond (not b) (d ∷ filter (λ (q : Property). not (bytes_eq q.name p.name)) done)
    (filter (λ (q : Property). not (bytes_eq q.name p.name)) done)) (other_side p.name d.name (among done (not-true _ more.0)))
    ∙ ap (λ ps. d ∷ ps) (front_apart done p rest more.1)
  where
    parts : (is_some d.value ≡ true) × ((not (is_set d.name (done ++ p ∷ rest)) && are_set (done ++ p ∷ rest)) ≡ true)
    parts = and_parts (is_some d.value) (not (is_set d.name (done ++ p ∷ rest)) && are_set (done ++ p ∷ rest)) all

    more : (not (is_set d.name (done ++ p ∷ rest)) ≡ true) × (are_set (done ++ p ∷ rest) ≡ true)
    more = and_parts (not (is_set d.name (done ++ p ∷ rest))) (are_set (done ++ p ∷ rest)) parts.1

    among : (xs : List Property) → is_set d.name (xs ++ p ∷ rest) ≡ false → bytes_eq p.name d.name ≡ false
    among [] none = (or_parts (bytes_eq p.name d.name) (is_set d.name rest) none).0
    among (x ∷ xs) none = among xs (or_parts (bytes_eq x.name d.name) (is_set d.name (xs ++ p ∷ rest)) none).1

own_value : (done : List Property) (p : Property) (rest : List Property) → are_set (done ++ p ∷ rest) ≡ true
    → is_some p.value ≡ true
own_value [] p rest all = (and_parts (is_some p.value) (not (is_set p.name rest) && are_set rest) all).0
own_value (d ∷ done) p rest all =
    own_value done p rest
    (and_parts (not (is_set d.name (done ++ p ∷ rest))) (are_set (done ++ p ∷ rest))
    (and_parts (is_some d.value) (not (is_set d.name (done ++ p ∷ rest)) && are_set (done ++ p ∷ rest)) all).1).1

set_behind : (props done : List Property) → are_set (done ++ props) ≡ true → edited_with props done ≡ done ++ props
set_behind [] done all = sym (append-nil done)
set_behind (p ∷ props) done all =
    ap (edited_with props)
    (ap₂ (λ (front : List Property) b. front ++ cond b (p ∷ []) []) (front_apart done p props all) (own_value done p props all))
    ∙ (set_behind props (done ++ p ∷ []) (ap are_set (append_assoc done (p ∷ []) props) ∙ all)
    ∙ append_assoc done (p ∷ []) props)

-- if entries have made some properties, these properties make themselves
pub set_again : (entries props : List Property) → edited_with entries [] ≡ props → edited_with props [] ≡ props
set_again entries props made =
    set_behind props [] (ap are_set (sym made) ∙ edited_are_set entries [] refl)
