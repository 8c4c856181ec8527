-- Deletes after the nodes of a dump, by its revisions.
use Rattle.std.proofs.Common.{◌≡◌, ℕ, suc, ◌+◌, ◌≤◌, Bool, true, false, not, ◌&&◌, ◌||◌, cond, List, [], ◌∷◌, length, map, take, drop, refl, sym, ap, ap₂, ◌∙◌, arith}
use Rattle.std.specs.Prelude.{if◌then◌else◌}
use Rattle.std.specs.List.{AllZip, take_while}
use Rattle.std.proofs.lemmas.Bool.{and_parts}
use Rattle.std.proofs.lemmas.List.Sums.{take_while-cons}
use Rattle.dump_records.specs.RecordText.{DumpRecord}
use Rattle.dump_digest.specs.RecordParts.{is_node, is_revision_record}
use Rattle.dump_filter.specs.Groups.{Group, group_of, groups}
use Rattle.dump_filter.proofs.groups.KindLemmas.{alone}
use Rattle.dump_filter.proofs.knowing.Answered.{AllLawful}
use Rattle.dump_trees.specs.Changes.{Change}
use Rattle.dump_history.specs.DumpChanges.{has_ordered_nodes, MakeChanges}
use Rattle.dump_history.specs.RecordChanges.{Patching, MakesChange}
use Rattle.dump_history.specs.steps.TrimmedDumps.{node_parts, part_groups}
use Rattle.dump_history.specs.WrittenNodes.{WrittenNode}
use Rattle.dump_cut.specs.TrimmedCopies.{delete_nodes, deletes_behind}

-- the parts of a list that have these lengths
abbrev pub parts_of : {A : Type 0} → List ℕ → List A → List (List A)
parts_of [] xs = []
parts_of (n ∷ lengths) xs = take n xs ∷ parts_of lengths (drop n xs)

-- the number of nodes at the beginning of the records
abbrev pub front_nodes : List DumpRecord → ℕ
front_nodes records = length (take_while is_node records)

-- the number of nodes of each revision
abbrev pub group_sizes : List Group → List ℕ
group_sizes gs = map (λ (g : Group). length g.nodes) gs

-- the number of all nodes
abbrev pub all_sizes : List ℕ → ℕ
all_sizes [] = 0
all_sizes (n ∷ lengths) = n + all_sizes lengths

behind_node : (r : DumpRecord) (records : List DumpRecord) (paths : List (List ℕ)) (deletes : List (List (List ℕ)))
    → is_node r ≡ true
    → deletes_behind (r ∷ records) (paths ∷ deletes) ≡ delete_nodes paths ∷ deletes_behind records deletes
behind_node r records paths deletes is =
    ap (λ b. if b then delete_nodes paths ∷ deletes_behind records deletes
    else [] ∷ deletes_behind records (paths ∷ deletes)) is

behind_other : (r : DumpRecord) (records : List DumpRecord) (deletes : List (List (List ℕ))) → is_node r ≡ false
    → deletes_behind (r ∷ records) deletes ≡ [] ∷ deletes_behind records deletes
behind_other r records [] isnt = refl
behind_other r records (paths ∷ deletes) isnt =
    ap (λ b. if b then delete_nodes paths ∷ deletes_behind records deletes
    else [] ∷ deletes_behind records (paths ∷ deletes)) isnt

front_node : (r : DumpRecord) (records : List DumpRecord) → is_node r ≡ true
    → front_nodes (r ∷ records) ≡ suc (front_nodes records)
front_node r records is =
    ap length (take_while-cons is_node r records ∙ ap (λ b. cond b (r ∷ take_while is_node records) []) is)

front_other : (r : DumpRecord) (records : List DumpRecord) → is_node r ≡ false → front_nodes (r ∷ records) ≡ 0
front_other r records isnt =
    ap length (take_while-cons is_node r records ∙ ap (λ b. cond b (r ∷ take_while is_node records) []) isnt)

-- no node comes first if none may
pub none_first : (records : List DumpRecord) → has_ordered_nodes false records ≡ true → front_nodes records ≡ 0
none_first [] order = refl
none_first (r ∷ records) order = cases (is_node r) refl
  where
    cases : (b : Bool) → is_node r ≡ b → front_nodes (r ∷ records) ≡ 0
    cases false isnt = front_other r records isnt
    cases true is =
        let first = (and_parts (not (is_node r) || false)
        (has_ordered_nodes (is_revision_record r || is_node r) records) order).0 in
        absurd (let bad : false ≡ true = sym (ap (λ b. not b || false) is) ∙ first in cc)

-- the nodes at the beginning of the records have the first deletes
front_parts : (records : List DumpRecord) (deletes : List (List (List ℕ))) → front_nodes records ≤ length deletes
    → node_parts records (deletes_behind records deletes) ≡ map delete_nodes (take (front_nodes records) deletes)
front_parts [] deletes low = refl
front_parts (r ∷ records) deletes low =
    cases (is_node r) refl deletes low (λ ds fits. front_parts records ds fits)
  where
    cases : (b : Bool) → is_node r ≡ b → (ds : List (List (List ℕ))) → front_nodes (r ∷ records) ≤ length ds
        → ((more : List (List (List ℕ))) → front_nodes records ≤ length more
        → node_parts records (deletes_behind records more) ≡ map delete_nodes (take (front_nodes records) more))
        → node_parts (r ∷ records) (deletes_behind (r ∷ records) ds)
        ≡ map delete_nodes (take (front_nodes (r ∷ records)) ds)
    cases true is [] low further = absurd (let size = front_node r records is in omega (arith, low, size))
    cases true is (paths ∷ ds) low further =
        let size = front_node r records is in
        ap (node_parts (r ∷ records)) (behind_node r records paths ds is)
        ∙ (ap (λ b. if b then delete_nodes paths ∷ node_parts records (deletes_behind records ds) else []) is
        ∙ (ap (λ ps. delete_nodes paths ∷ ps)
        (further ds (let fits : front_nodes records ≤ length ds = omega (arith, low, size) in fits))
        ∙ sym (ap (λ n. map delete_nodes (take n (paths ∷ ds))) size)))
    cases false isnt ds low further =
        ap (node_parts (r ∷ records)) (behind_other r records ds isnt)
        ∙ (ap (λ b. if b then [] ∷ node_parts records (deletes_behind records ds) else []) isnt
        ∙ sym (ap (λ n. map delete_nodes (take n ds)) (front_other r records isnt)))

-- each revision has its deletes
pub grouped_parts : (open_group : Bool) (records : List DumpRecord) (deletes : List (List (List ℕ)))
    → AllLawful records → has_ordered_nodes open_group records ≡ true
    → front_nodes records + all_sizes (group_sizes (groups records)) ≤ length deletes
    → part_groups records (deletes_behind records deletes)
    ≡ map (map delete_nodes) (parts_of (group_sizes (groups records)) (drop (front_nodes records) deletes))
grouped_parts open_group [] deletes lawful order low = refl
grouped_parts open_group (r ∷ records) deletes lawful order low =
    cases (is_node r) (is_revision_record r) refl refl deletes order low
    (λ other ds more fits. grouped_parts other records ds lawful.1 more fits)
  where
    Result : Bool → List (List (List ℕ)) → Type 0
    Result other ds = has_ordered_nodes other records ≡ true
        → front_nodes records + all_sizes (group_sizes (groups records)) ≤ length ds
        → part_groups records (deletes_behind records ds)
        ≡ map (map delete_nodes) (parts_of (group_sizes (groups records)) (drop (front_nodes records) ds))

    order_behind : (revision node : Bool) → is_revision_record r ≡ revision → is_node r ≡ node
        → has_ordered_nodes open_group (r ∷ records) ≡ true → has_ordered_nodes (revision || node) records ≡ true
    order_behind revision node one two all =
        (and_parts (not node || open_group) (has_ordered_nodes (revision || node) records)
        (sym (ap₂ (λ a b. (not b || open_group) && has_ordered_nodes (a || b) records) one two) ∙ all)).1

    both_kinds : is_node r ≡ true → is_revision_record r ≡ true → ⊥
    both_kinds one two =
        let bad : true ≡ false = sym two ∙ alone lawful.0.0 r lawful.0.1 one in cc

    its_groups : (b : Bool) → is_revision_record r ≡ b
        → groups (r ∷ records) ≡ (if b then group_of r records ∷ groups records else groups records)
    its_groups b is = ap (λ c. if c then group_of r records ∷ groups records else groups records) is

    cases : (node revision : Bool) → is_node r ≡ node → is_revision_record r ≡ revision → (ds : List (List (List ℕ)))
        → has_ordered_nodes open_group (r ∷ records) ≡ true
        → front_nodes (r ∷ records) + all_sizes (group_sizes (groups (r ∷ records))) ≤ length ds
        → ((other : Bool) (more : List (List (List ℕ))) → Result other more)
        → part_groups (r ∷ records) (deletes_behind (r ∷ records) ds)
        ≡ map (map delete_nodes) (parts_of (group_sizes (groups (r ∷ records))) (drop (front_nodes (r ∷ records)) ds))
    cases true true its is ds order low further = absurd (both_kinds its is)
    cases false true its is ds order low further =
        let none = front_other r records its in
        let sizes = ap group_sizes (its_groups true is) in
        let all = ap all_sizes sizes in
        let fits : front_nodes records + all_sizes (group_sizes (groups records)) ≤ length ds =
        omega (arith, low, none, all) in
        ap (part_groups (r ∷ records)) (behind_other r records ds its)
        ∙ (ap (λ b. if b then node_parts records (deletes_behind records ds) ∷ part_groups records (deletes_behind records ds)
        else part_groups records (deletes_behind records ds)) is
        ∙ (ap₂ (λ (p : List (List WrittenNode)) (ps : List (List (List WrittenNode))). p ∷ ps)
        (front_parts records ds (let front : front_nodes records ≤ length ds = omega (arith, fits) in front))
        (further true ds (order_behind true false is its order) fits)
        ∙ sym (ap₂ (λ n (ns : List ℕ). map (map delete_nodes) (parts_of ns (drop n ds))) none sizes)))
    cases true false its isnt [] order low further =
        absurd (let size = front_node r records its in omega (arith, low, size))
    cases true false its isnt (paths ∷ ds) order low further =
        let size = front_node r records its in
        let same = its_groups false isnt in
        let all = ap (λ gs. all_sizes (group_sizes gs)) same in
        ap (part_groups (r ∷ records)) (behind_node r records paths ds its)
        ∙ (ap (λ b. if b then node_parts records (deletes_behind records ds) ∷ part_groups records (deletes_behind records ds)
        else part_groups records (deletes_behind records ds)) isnt
        ∙ (further true ds (order_behind false true isnt its order)
        (let fits : front_nodes records + all_sizes (group_sizes (groups records)) ≤ length ds =
        omega (arith, low, size, all) in fits)
        ∙ sym (ap₂ (λ n gs. map (map delete_nodes) (parts_of (group_sizes gs) (drop n (paths ∷ ds)))) size same)))
    cases false false its isnt ds order low further =
        let none = front_other r records its in
        let same = its_groups false isnt in
        let all = ap (λ gs. all_sizes (group_sizes gs)) same in
        let behind = order_behind false false isnt its order in
        let first = none_first records behind in
        ap (part_groups (r ∷ records)) (behind_other r records ds its)
        ∙ (ap (λ b. if b then node_parts records (deletes_behind records ds) ∷ part_groups records (deletes_behind records ds)
        else part_groups records (deletes_behind records ds)) isnt
        ∙ (further false ds behind
        (let fits : front_nodes records + all_sizes (group_sizes (groups records)) ≤ length ds =
        omega (arith, low, none, all, first) in fits)
        ∙ sym (ap₂ (λ n gs. map (map delete_nodes) (parts_of (group_sizes gs) (drop n ds))) (none ∙ sym first) same)))

-- the groups have as many nodes as their revisions have changes
pub sizes_made : (patched : Patching) (gs : List Group) (revisions : List (List Change))
    → AllZip (MakeChanges patched) gs revisions → group_sizes gs ≡ map length revisions
sizes_made patched [] [] make = refl
sizes_made patched [] (changes ∷ revisions) make = absurd make
sizes_made patched (g ∷ gs) [] make = absurd make
sizes_made patched (g ∷ gs) (changes ∷ revisions) make =
    ap₂ (λ (n : ℕ) (ns : List ℕ). n ∷ ns) (as_many g.nodes changes make.0) (sizes_made patched gs revisions make.1)
  where
    as_many : (nodes : List DumpRecord) (cs : List Change) → AllZip (MakesChange patched) nodes cs
        → length nodes ≡ length cs
    as_many [] [] make = refl
    as_many [] (c ∷ cs) make = absurd make
    as_many (r ∷ nodes) [] make = absurd make
    as_many (r ∷ nodes) (c ∷ cs) make = ap suc (as_many nodes cs make.1)
