-- What is in place of the changes that a dump makes, by its revisions.
use Rattle.std.proofs.Common.{◌≡◌, ℕ, zero, suc, ◌+◌, ◌≤◌, Bool, true, false, not, ◌&&◌, ◌||◌, ◌==◌, cond, List, [], ◌∷◌, length, map, take, drop, refl, sym, ap, ap₂, ◌∙◌, subst, arith}
use Rattle.std.specs.Prelude.{if◌then◌else◌}
use Rattle.std.specs.List.{AllZip, take_while}
use Rattle.std.proofs.lemmas.Bool.{and_parts, eqb-true, false_from_ne_true}
use Rattle.std.proofs.lemmas.List.Sums.{take_while-cons}
use Rattle.dump_records.specs.RecordText.{DumpRecord}
use Rattle.dump_digest.specs.RecordParts.{is_node, is_revision_record}
use Rattle.dump_filter.specs.Groups.{Group, group_of, groups}
use Rattle.dump_filter.proofs.groups.KindLemmas.{alone}
use Rattle.dump_filter.proofs.knowing.Answered.{AllLawful, all_lawful}
use Rattle.dump_trees.specs.Changes.{Change}
use Rattle.dump_history.specs.DumpChanges.{MakeChanges, has_ordered_nodes}
use Rattle.dump_history.specs.steps.ExpandedDumps.{Stead}
use Rattle.dump_history.specs.steps.ExpandedText.{expanded_changes, expanded_revisions, node_steads, stead_groups}
use Rattle.dump_history.specs.RecordChanges.{MakesChange, Patching}
use Rattle.dump_changes.specs.steps.NodeProperties.{node_numbers}
use Rattle.dump_expansion.specs.steps.ByChanges.{SteadsAreByChanges, are_given_for, expanded_by, steads_for}
use Rattle.dump_expansion.specs.steps.GivenSteads.{GivenStead, left_alone, own_form, stead_at, steads_in}

-- the number of the next record, as the definitions write it
next_is : (number : ℕ) → suc number ≡ number + 1
next_is number = omega arith

-- what is in place of the nodes alone

-- what is in place of the nodes among records; each of the records has something in its place
abbrev pub of_nodes : List DumpRecord → List Stead → List Stead
of_nodes [] steads = []
of_nodes (r ∷ records) [] = []
of_nodes (r ∷ records) (stead ∷ steads) =
    cond (is_node r) (stead ∷ of_nodes records steads) (of_nodes records steads)

of_node : (r : DumpRecord) (records : List DumpRecord) (stead : Stead) (steads : List Stead) → is_node r ≡ true
    → of_nodes (r ∷ records) (stead ∷ steads) ≡ stead ∷ of_nodes records steads
of_node r records stead steads is = ap (λ b. cond b (stead ∷ of_nodes records steads) (of_nodes records steads)) is

of_other : (r : DumpRecord) (records : List DumpRecord) (stead : Stead) (steads : List Stead) → is_node r ≡ false
    → of_nodes (r ∷ records) (stead ∷ steads) ≡ of_nodes records steads
of_other r records stead steads isnt = ap (λ b. cond b (stead ∷ of_nodes records steads) (of_nodes records steads)) isnt

-- nothing is given for an earlier number
given_later : (number : ℕ) (records : List DumpRecord) (g : GivenStead) (given : List GivenStead)
    → are_given_for (node_numbers number records) (g ∷ given) ≡ true → number ≤ g.number
given_later number [] g given for = absurd cc
given_later number (r ∷ records) g given for =
    by_node (is_node r) (λ more. given_later (suc number) records g given more) for
  where
    by_same : (b : Bool) → (g.number == number) ≡ b
        → (are_given_for (node_numbers (suc number) records) (g ∷ given) ≡ true → suc number ≤ g.number)
        → (if b then are_given_for (node_numbers (suc number) records) given
        else are_given_for (node_numbers (suc number) records) (g ∷ given)) ≡ true → number ≤ g.number
    by_same true same further more = let is = eqb-true g.number number same in omega (arith, is)
    by_same false other further more = let far = further more in omega (arith, far)

    by_node : (b : Bool)
        → (are_given_for (node_numbers (suc number) records) (g ∷ given) ≡ true → suc number ≤ g.number)
        → are_given_for (cond b (number ∷ node_numbers (suc number) records) (node_numbers (suc number) records))
        (g ∷ given) ≡ true → number ≤ g.number
    by_node true further more = by_same (g.number == number) refl further more
    by_node false further more = let far = further more in omega (arith, far)

-- the nodes among the records from this number on have what is given for them, if it is for these nodes
abbrev HaveGiven : ℕ → ℕ → List DumpRecord → List GivenStead → Type 0
HaveGiven number first records given = are_given_for (node_numbers number records) given ≡ true
    → of_nodes records (steads_in first records given) ≡ steads_for (node_numbers number records) given

none_for : (numbers : List ℕ) → are_given_for numbers [] ≡ true
none_for [] = refl
none_for (n ∷ numbers) = refl

-- each node has what is given for it
nodes_given : (number : ℕ) (records : List DumpRecord) (given : List GivenStead)
    → HaveGiven number number records given
nodes_given number [] given for = refl
nodes_given number (r ∷ records) [] for =
    cases (is_node r)
    (subst (λ n. HaveGiven (suc number) n records []) (next_is number) (nodes_given (suc number) records [])
    (none_for (node_numbers (suc number) records)))
  where
    cases : (b : Bool)
        → of_nodes records (steads_in (number + 1) records []) ≡ steads_for (node_numbers (suc number) records) []
        → cond b (left_alone ∷ of_nodes records (steads_in (number + 1) records []))
        (of_nodes records (steads_in (number + 1) records []))
        ≡ steads_for (cond b (number ∷ node_numbers (suc number) records) (node_numbers (suc number) records)) []
    cases true further = ap (λ (ss : List Stead). left_alone ∷ ss) further
    cases false further = further
nodes_given number (r ∷ records) (g ∷ given) for =
    by_node (is_node r) refl for
    (subst (λ n. HaveGiven (suc number) n records given) (next_is number) (nodes_given (suc number) records given))
    (subst (λ n. HaveGiven (suc number) n records (g ∷ given)) (next_is number)
    (nodes_given (suc number) records (g ∷ given)))
  where
    Result : Bool → Type 0
    Result b = of_nodes (r ∷ records) (steads_in number (r ∷ records) (g ∷ given))
        ≡ steads_for (cond b (number ∷ node_numbers (suc number) records) (node_numbers (suc number) records)) (g ∷ given)

    by_same : (b : Bool) → (g.number == number) ≡ b → is_node r ≡ true
        → (if b then are_given_for (node_numbers (suc number) records) given
        else are_given_for (node_numbers (suc number) records) (g ∷ given)) ≡ true
        → HaveGiven (suc number) (number + 1) records given → HaveGiven (suc number) (number + 1) records (g ∷ given)
        → Result true
    by_same true same node more here later =
        rw same (rw node (ap (λ (ss : List Stead). record { nodes = g.nodes; own = own_form g.keeps } ∷ ss) (here more)))
    by_same false other node more here later =
        rw other (rw node (ap (λ (ss : List Stead). left_alone ∷ ss) (later more)))

    by_node : (b : Bool) → is_node r ≡ b
        → are_given_for (cond b (number ∷ node_numbers (suc number) records) (node_numbers (suc number) records))
        (g ∷ given) ≡ true
        → HaveGiven (suc number) (number + 1) records given → HaveGiven (suc number) (number + 1) records (g ∷ given)
        → Result b
    by_node true node more here later = by_same (g.number == number) refl node more here later
    by_node false no_node more here later =
        let far = given_later (suc number) records g given more in
        let other : (g.number == number) ≡ false =
        false_from_ne_true (g.number == number)
        (λ same. let is = eqb-true g.number number same in omega (arith, far, is)) in
        rw other (rw no_node (later more))

-- each record has something in its place
all_placed : (number : ℕ) (records : List DumpRecord) (given : List GivenStead)
    → length (steads_in number records given) ≡ length records
all_placed number [] given = refl
all_placed number (r ∷ records) [] = ap suc (all_placed (number + 1) records [])
all_placed number (r ∷ records) (g ∷ given) =
    cases (g.number == number) (all_placed (number + 1) records given) (all_placed (number + 1) records (g ∷ given))
  where
    cases : (b : Bool) → length (steads_in (number + 1) records given) ≡ length records
        → length (steads_in (number + 1) records (g ∷ given)) ≡ length records
        → length (if b then stead_at r g ∷ steads_in (number + 1) records given
        else left_alone ∷ steads_in (number + 1) records (g ∷ given)) ≡ suc (length records)
    cases true here later = ap suc here
    cases false here later = ap suc later

-- by revisions

-- the parts of a list that have these lengths
abbrev cut_by : {A : Type 0} → List ℕ → List A → List (List A)
cut_by [] xs = []
cut_by (n ∷ lengths) xs = take n xs ∷ cut_by lengths (drop n xs)

-- the number of nodes at the beginning of the records
abbrev nodes_first : List DumpRecord → ℕ
nodes_first records = length (take_while is_node records)

-- the number of nodes of each revision
abbrev sizes_of : List Group → List ℕ
sizes_of gs = map (λ (g : Group). length g.nodes) gs

first_node : (r : DumpRecord) (records : List DumpRecord) → is_node r ≡ true
    → nodes_first (r ∷ records) ≡ suc (nodes_first records)
first_node r records is =
    ap length (take_while-cons is_node r records ∙ ap (λ b. cond b (r ∷ take_while is_node records) []) is)

first_other : (r : DumpRecord) (records : List DumpRecord) → is_node r ≡ false → nodes_first (r ∷ records) ≡ 0
first_other r records isnt =
    ap length (take_while-cons is_node r records ∙ ap (λ b. cond b (r ∷ take_while is_node records) []) isnt)

-- no node comes first if none may
none_first : (records : List DumpRecord) → has_ordered_nodes false records ≡ true → nodes_first records ≡ 0
none_first [] order = refl
none_first (r ∷ records) order = cases (is_node r) refl
  where
    cases : (b : Bool) → is_node r ≡ b → nodes_first (r ∷ records) ≡ 0
    cases false isnt = first_other r records isnt
    cases true is =
        let first = (and_parts (not (is_node r) || false)
        (has_ordered_nodes (is_revision_record r || is_node r) records) order).0 in
        absurd (let bad : false ≡ true = sym (ap (λ b. not b || false) is) ∙ first in cc)

take_none : (n : ℕ) → [] ≡ take {A = Stead} n []
take_none zero = refl
take_none (suc n) = refl

-- the nodes at the beginning of the records
front_steads : (records : List DumpRecord) (steads : List Stead)
    → node_steads records steads ≡ take (nodes_first records) (of_nodes records steads)
front_steads [] steads = refl
front_steads (r ∷ records) [] = take_none (nodes_first (r ∷ records))
front_steads (r ∷ records) (stead ∷ steads) = cases (is_node r) refl (front_steads records steads)
  where
    cases : (b : Bool) → is_node r ≡ b
        → node_steads records steads ≡ take (nodes_first records) (of_nodes records steads)
        → node_steads (r ∷ records) (stead ∷ steads)
        ≡ take (nodes_first (r ∷ records)) (of_nodes (r ∷ records) (stead ∷ steads))
    cases true is further =
        ap (λ b. if b then stead ∷ node_steads records steads else []) is
        ∙ (ap (λ (ss : List Stead). stead ∷ ss) further
        ∙ sym (ap₂ (λ n (ss : List Stead). take n ss) (first_node r records is) (of_node r records stead steads is)))
    cases false isnt further =
        ap (λ b. if b then stead ∷ node_steads records steads else []) isnt
        ∙ sym (ap₂ (λ n (ss : List Stead). take n ss) (first_other r records isnt) (of_other r records stead steads isnt))

-- each revision has what is in place of its nodes
grouped_steads : (open_group : Bool) (records : List DumpRecord) (steads : List Stead)
    → length steads ≡ length records → AllLawful records → has_ordered_nodes open_group records ≡ true
    → stead_groups records steads
    ≡ cut_by (sizes_of (groups records)) (drop (nodes_first records) (of_nodes records steads))
grouped_steads open_group [] steads size lawful order = refl
grouped_steads open_group (r ∷ records) [] size lawful order = absurd cc
grouped_steads open_group (r ∷ records) (stead ∷ steads) size lawful order =
    cases (is_node r) (is_revision_record r) refl refl
    (λ other more. grouped_steads other records steads (omega (arith, size)) lawful.1 more)
  where
    Further : Type 0
    Further = (other : Bool) → has_ordered_nodes other records ≡ true
        → stead_groups records steads
        ≡ cut_by (sizes_of (groups records)) (drop (nodes_first records) (of_nodes records steads))

    order_after : (node revision : Bool) → is_node r ≡ node → is_revision_record r ≡ revision
        → has_ordered_nodes (revision || node) records ≡ true
    order_after node revision one two =
        (and_parts (not node || open_group) (has_ordered_nodes (revision || node) records)
        (sym (ap₂ (λ a b. (not a || open_group) && has_ordered_nodes (b || a) records) one two) ∙ order)).1

    both_kinds : is_node r ≡ true → is_revision_record r ≡ true → ⊥
    both_kinds one two =
        let bad : true ≡ false = sym two ∙ alone lawful.0.0 r lawful.0.1 one in cc

    its_groups : (b : Bool) → is_revision_record r ≡ b
        → groups (r ∷ records) ≡ (if b then group_of r records ∷ groups records else groups records)
    its_groups b is = ap (λ c. if c then group_of r records ∷ groups records else groups records) is

    its_steads : (b : Bool) → is_revision_record r ≡ b
        → stead_groups (r ∷ records) (stead ∷ steads)
        ≡ (if b then node_steads records steads ∷ stead_groups records steads else stead_groups records steads)
    its_steads b is =
        ap (λ c. if c then node_steads records steads ∷ stead_groups records steads else stead_groups records steads) is

    its_parts : (first : ℕ) (of_all : List Stead) (gs : List Group) → nodes_first (r ∷ records) ≡ first
        → of_nodes (r ∷ records) (stead ∷ steads) ≡ of_all → groups (r ∷ records) ≡ gs
        → cut_by (sizes_of (groups (r ∷ records)))
        (drop (nodes_first (r ∷ records)) (of_nodes (r ∷ records) (stead ∷ steads)))
        ≡ cut_by (sizes_of gs) (drop first of_all)
    its_parts first of_all gs one two three =
        ap₂ (λ (groups : List Group) (ss : List Stead). cut_by (sizes_of groups) ss) three
        (ap₂ (λ n (ss : List Stead). drop n ss) one two)

    cases : (node revision : Bool) → is_node r ≡ node → is_revision_record r ≡ revision → Further
        → stead_groups (r ∷ records) (stead ∷ steads)
        ≡ cut_by (sizes_of (groups (r ∷ records)))
        (drop (nodes_first (r ∷ records)) (of_nodes (r ∷ records) (stead ∷ steads)))
    cases true true its is further = absurd (both_kinds its is)
    cases false true its is further =
        its_steads true is
        ∙ (ap₂ (λ (p : List Stead) (ps : List (List Stead)). p ∷ ps) (front_steads records steads)
        (further true (order_after false true its is))
        ∙ sym (its_parts 0 (of_nodes records steads) (group_of r records ∷ groups records) (first_other r records its)
        (of_other r records stead steads its) (its_groups true is)))
    cases true false its isnt further =
        its_steads false isnt
        ∙ (further true (order_after true false its isnt)
        ∙ sym (its_parts (suc (nodes_first records)) (stead ∷ of_nodes records steads) (groups records)
        (first_node r records its) (of_node r records stead steads its) (its_groups false isnt)))
    cases false false its isnt further =
        let order_then = order_after false false its isnt in
        its_steads false isnt
        ∙ (further false order_then
        ∙ (ap (λ n. cut_by (sizes_of (groups records)) (drop n (of_nodes records steads))) (none_first records order_then)
        ∙ sym (its_parts 0 (of_nodes records steads) (groups records) (first_other r records its)
        (of_other r records stead steads its) (its_groups false isnt))))

-- the revisions have as many nodes as they have changes
sizes_made : (patched : Patching) (gs : List Group) (revisions : List (List Change))
    → AllZip (MakeChanges patched) gs revisions → sizes_of gs ≡ map length revisions
sizes_made patched [] [] make = refl
sizes_made patched [] (changes ∷ revisions) make = absurd make
sizes_made patched (g ∷ gs) [] make = absurd make
sizes_made patched (g ∷ gs) (changes ∷ revisions) make =
    ap₂ (λ (n : ℕ) (ns : List ℕ). n ∷ ns) (as_many g.nodes changes make.0) (sizes_made patched gs revisions make.1)
  where
    as_many : (nodes : List DumpRecord) (cs : List Change) → AllZip (MakesChange patched) nodes cs
        → length nodes ≡ length cs
    as_many [] [] make = refl
    as_many [] (c ∷ cs) make = absurd make
    as_many (r ∷ nodes) [] make = absurd make
    as_many (r ∷ nodes) (c ∷ cs) make = ap suc (as_many nodes cs make.1)

-- parts that are as long as the changes of the revisions make what all make together
made_by_parts : (steads : List Stead) (revisions : List (List Change))
    → expanded_revisions (cut_by (map length revisions) steads) revisions ≡ expanded_by steads revisions
made_by_parts steads [] = refl
made_by_parts steads (changes ∷ revisions) =
    ap (λ (rest : List (List Change)). expanded_changes (take (length changes) steads) changes ∷ rest)
    (made_by_parts (drop (length changes) steads) revisions)

pub steads_by_changes : SteadsAreByChanges
steads_by_changes patched dump records revisions given has makes for =
    let steads = steads_in 0 records given in
    let grouped = grouped_steads false records steads (all_placed 0 records given)
    (all_lawful 0 0 dump has.0 records has.1) makes.ordered in
    ap (λ groups. expanded_revisions (drop 1 groups) revisions)
    (grouped
    ∙ ap₂ (λ n (ns : List ℕ). cut_by ns (drop n (of_nodes records steads))) (none_first records makes.ordered)
    (sizes_made patched (groups records) ([] ∷ revisions) makes.changes))
    ∙ ap (λ (ss : List Stead). expanded_revisions (cut_by (map length revisions) ss) revisions)
    (nodes_given 0 records given for)
    ∙ made_by_parts (steads_for (node_numbers 0 records) given) revisions
