-- Worked values of what status 0 means, of an example dump: r1 makes /trunk, r2 /other, and r3 copies /trunk to /trunk/b.
use Rattle.std.proofs.Common.{◌≡◌, ◌<◌, ◌^◌, ◌||◌, not, ℕ, zero, suc, Bool, true, false, Contains, List, [], ◌∷◌, ◌++◌, codes, length, map, take, is_some, Option, Some, None, Ok, refl, sym, ap, ◌∙◌, subst, inl, inr, append-nil, arith, lit<}
use Rattle.std.specs.List.{All, AllZip, slice_get}
use Rattle.std.specs.Io.KnownBytes.{Appends}
use Rattle.dump_text.specs.PropertyList.{Property}
use Rattle.dump_records.specs.DumpText.{Ending, HasRecords}
use Rattle.dump_records.specs.RecordText.{DumpRecord}
use Rattle.dump_rules.specs.Renumbering.{image}
use Rattle.dump_rules.specs.declared.options.Side.{Side}
use Rattle.dump_rules.specs.declared.options.Side.TheVariants.{Exclude, Include}
use Rattle.dump_filter.specs.Groups.{groups, kept_revisions, revision_numbers}
use Rattle.dump_trees.specs.Changes.{Change, Made}
use Rattle.dump_trees.specs.Following.{Way, Copies, Covers, IsInClosure}
use Rattle.dump_trees.specs.Paths.{keeps, path_text, NodePath, below, path_of}
use Rattle.dump_trees.specs.Trees.{Node, Tree, at_or_below, empty_tree, grafted, root_alone}
use Rattle.dump_history.specs.DumpChanges.{HaveRevisionProperties, LoadsAs, MakeChanges, counts_from}
use Rattle.dump_history.specs.KeptChanges.{ComesOfKept}
use Rattle.dump_history.specs.RecordChanges.{Patching}
use Rattle.dump_trees.specs.Revisions.{IsWrittenNumber}
use Rattle.dump_trees.proofs.cuts.CoveredPaths.{contains_cases, contains_none}
use Rattle.dump_trees.proofs.paths.SiblingLemmas.{excluded_match}
use Rattle.dump_filter.specs.NewContent.{IsNewProperty}
use Rattle.dump_rules.specs.Settings.{Settings}
use Rattle.dump_rules.specs.PlainSettings.{plain_settings}
use Rattle.dump_history.proofs.restricted.LoadsOnce.{later_once, trees_once, whole_records_once}
use Rattle.dump_history.proofs.values.WorkedDump as worked
use Rattle.dump_cut.specs.LaterParts.{IsFirstPart, IsLaterPart, KeepsVersion, head_part, part_from, part_up_to}
use Rattle.dump_cut.proofs.LaterLaw.{dumps_load_in_parts}
use Rattle.cli_support.specs.declared.info.Info.TheVariants.{Version}
use Rattle.svndiff.specs.Svndiff.{patch}
use Rattle.dump_changes.specs.TextDeltas.{AgreesWithSvndiff}
use Rattle.cut_cli.specs.Headline.{IfLoads, IfLoadsBySvndiff, IsCut, IsCutTree, IsDroppedCut, IsKept, IsNamed, IsOfKept, IsRestOfCut, IsSameNode, IsSameProperty, IsTreeAsAsked, ZeroIsCut, ZeroIsDroppedCut, ZeroIsOfKept, ZeroIsRest, ZeroPromises}
use Rattle.cut_cli.specs.Words.{CutMeaning}
use Rattle.cut_cli.proofs.PlainCall.{plain_call}

abbrev call : Side → (follow : Bool) → List ℕ → CutMeaning
call side follow prefix = record (plain_call side (prefix ∷ [])) { follow = follow }

abbrev without_other : CutMeaning
without_other = call Exclude false (codes "other")

abbrev all_of_it : CutMeaning
all_of_it = call Include false (codes "/")

abbrev from : Option ℕ → CutMeaning
from after = record all_of_it { after = after }

abbrev trunk : NodePath
trunk = path_of (codes "trunk")

abbrev branch : NodePath
branch = path_of (codes "trunk/b")

abbrev other : NodePath
other = path_of (codes "other")

-- IsNamed

-- a prefix is read as a path, also if it isn't canonical
named : IsNamed Way.ToCopies (call Exclude false (codes "/other/.")) worked.trees worked.revisions (other ++ other)
named = refl

not_named : ¬ IsNamed Way.ToCopies without_other worked.trees worked.revisions trunk
not_named is = let bad : false ≡ true = is in cc

the_copy : Copies worked.trees worked.revisions branch trunk worked.second_tree
the_copy = record {
  changes = worked.directory (codes "trunk/b") _ ∷ [];
  change = worked.directory (codes "trunk/b") _;
  number = 2;
  among = (2, omega arith, refl);
  there = (0, omega arith, refl);
  at = refl;
  copies = refl;
  tree = refl;
}

-- the source of the copy is named if copies are followed, and only then
followed : IsNamed Way.ToSources (call Include true (codes "trunk/b")) worked.trees worked.revisions trunk
followed = IsInClosure.Followed branch trunk [] worked.second_tree the_copy refl (IsInClosure.Given branch (0, omega arith, refl))

not_followed : ¬ IsNamed Way.ToSources (call Include false (codes "trunk/b")) worked.trees worked.revisions trunk
not_followed is = let bad : false ≡ true = is in cc

-- IsKept

others_are_kept : IsKept Exclude without_other worked.trees worked.revisions trunk
others_are_kept = not_named

not_what_is_excluded : ¬ IsKept Exclude without_other worked.trees worked.revisions other
not_what_is_excluded keep = keep refl

parents_are_kept : IsKept Include (call Include false (codes "trunk/b")) worked.trees worked.revisions trunk
parents_are_kept = inr (codes "b" ∷ [], refl)

root_is_kept : IsKept Include (call Include false (codes "trunk/b")) worked.trees worked.revisions []
root_is_kept = inl refl

not_beside : ¬ IsKept Include (call Include false (codes "trunk/b")) worked.trees worked.revisions other
not_beside (inl is) = cc
not_beside (inr (rest, is)) = let bad : false ≡ true = is in cc

-- IsSameProperty

abbrev log : List ℕ → Property
log value = record { name = codes "svn:log"; value = Some value }

abbrev merged : List ℕ → Property
merged value = record { name = codes "svn:mergeinfo"; value = Some value }

same_log : IsSameProperty (log (codes "a")) (log (codes "a"))
same_log = inl refl

new_mergeinfo : IsSameProperty (merged (codes "/a:1")) (merged [])
new_mergeinfo = inr (refl, refl)

not_another_log : ¬ IsSameProperty (log (codes "a")) (log (codes "b"))
not_another_log (inl is) =
    let values : Some (codes "b") ≡ Some (codes "a") = ap (λ (p : Property). p.value) is in
    let bad : codes "b" ≡ codes "a" = cc in
    absurd (let worse : 98 ≡ 97 = ap (λ t. first_byte t) bad in omega (arith, worse))
  where
    first_byte : List ℕ → ℕ
    first_byte [] = 0
    first_byte (b ∷ text) = b
not_another_log (inr (one, two)) = let bad : false ≡ true = one in cc

-- IsSameNode

same_file : IsSameNode (Some (Node.File (merged [] ∷ []) (codes "x"))) (Some (Node.File (merged (codes "/a:1") ∷ []) (codes "x")))
same_file = ((inr (refl, refl), tt), refl)

no_property_is_lost : ¬ IsSameNode (Some (Node.Directory (merged [] ∷ []))) (Some (Node.Directory []))
no_property_is_lost is = is

nothing_is_lost : ¬ IsSameNode (Some (Node.Directory [])) None
nothing_is_lost is = is

not_a_file : ¬ IsSameNode (Some (Node.Directory [])) (Some (Node.File [] []))
not_a_file is = is

same_properties : (props : List Property) → AllZip IsSameProperty props props
same_properties [] = tt
same_properties (p ∷ props) = (inl refl, same_properties props)

same_itself : (node : Option Node) → IsSameNode node node
same_itself None = tt
same_itself (Some (Node.Directory props)) = same_properties props
same_itself (Some (Node.File props text)) = (same_properties props, refl)

-- IsCutTree, IsTreeAsAsked

-- the tree without /other
abbrev cut_third : Tree
cut_third = grafted other empty_tree worked.third_tree

cut_tree : IsTreeAsAsked without_other worked.trees worked.revisions worked.third_tree cut_third
cut_tree = record {
  kept = λ path keep. kept path (below other path) refl keep;
  gone = λ path none. gone path (below other path) refl none;
}
  where
    is_there : Option NodePath → Bool
    is_there o = is_some o || false

    cut_at : NodePath → Option NodePath → Option Node
    cut_at path o = at_or_below o empty_tree (worked.third_tree path)

    kept : (path : NodePath) (o : Option NodePath) → below other path ≡ o → (¬ Covers (other ∷ []) path)
        → IsSameNode (worked.third_tree path) (cut_third path)
    kept path None at keep =
        subst (λ node. IsSameNode (worked.third_tree path) node) (sym (ap (cut_at path) at)) (same_itself (worked.third_tree path))
    kept path (Some rest) at keep = absurd (keep (ap is_there at))

    gone : (path : NodePath) (o : Option NodePath) → below other path ≡ o → (¬ (¬ Covers (other ∷ []) path))
        → cut_third path ≡ root_alone path
    gone path None at none =
        absurd (none (λ is. let bad : false ≡ true = sym (ap is_there at) ∙ is in cc))
    gone [] (Some rest) at none = absurd (let bad : None ≡ Some rest = at in cc)
    gone (name ∷ path) (Some rest) at none = ap (cut_at (name ∷ path)) at

-- the root stays, and nothing else
all_gone : IsTreeAsAsked (call Exclude false (codes "/")) worked.trees worked.revisions worked.third_tree root_alone
all_gone = record {
  kept = λ path keep. absurd (keep refl);
  gone = λ path none. refl;
}

not_without_a_root : ¬ IsTreeAsAsked (call Exclude false (codes "/")) worked.trees worked.revisions worked.third_tree empty_tree
not_without_a_root cut = let bad : None ≡ Some (Node.Directory []) = cut.gone [] (λ keep. keep refl) in cc

not_the_old_tree : ¬ IsTreeAsAsked without_other worked.trees worked.revisions worked.third_tree worked.third_tree
not_the_old_tree cut = let bad : Some (Node.Directory []) ≡ None = cut.gone other (λ keep. keep refl) in cc

not_an_older_tree : ¬ IsCutTree (IsKept Exclude without_other worked.trees worked.revisions) worked.third_tree worked.first_tree
not_an_older_tree cut = cut.kept branch (λ is. let bad : false ≡ true = is in cc)

not_a_new_repository : ¬ IsCutTree (IsKept Exclude without_other worked.trees worked.revisions) worked.third_tree root_alone
not_a_new_repository cut = cut.kept trunk not_named

-- if everything is included, each tree is its own cut
whole_tree : (tree : Tree) → IsTreeAsAsked all_of_it worked.trees worked.revisions tree tree
whole_tree tree = record {
  kept = λ path keep. same_itself (tree path);
  gone = λ path none. absurd (none (inr ([], refl)));
}

-- IsCut, IfLoads, IfLoadsBySvndiff

module _ (patched : Patching) where
  whole_cut : IsCut all_of_it patched worked.records worked.revisions worked.trees worked.dump
  whole_cut = record {
    again = worked.records;
    written = worked.revisions;
    others = worked.trees;
    is_dump = worked.whole;
    loads = worked.loads patched;
    cut = (
      whole_tree root_alone,
      (whole_tree worked.first_tree, (whole_tree worked.second_tree, (whole_tree worked.third_tree, tt))),
    );
    same = λ props have. have;
  }

  -- the dump has only one list of trees
  module _ (again : List DumpRecord) (written : List (List Change)) (others : List Tree)
      (has : HasRecords worked.dump again Ending.Whole) (loads : LoadsAs patched root_alone again written others) where
    same_records : worked.records ≡ again
    same_records = whole_records_once worked.dump worked.records again worked.whole has

    same_trees : worked.trees ≡ others
    same_trees =
        let its = subst (λ (rs : List DumpRecord). LoadsAs patched root_alone rs worked.revisions worked.trees) same_records
        (worked.loads patched) in
        trees_once root_alone worked.revisions written worked.trees others
        (later_once patched (groups again) [] worked.revisions written its.makes.changes loads.makes.changes)
        its.loads loads.loads

  not_the_dump : ¬ IsCut without_other patched worked.records worked.revisions worked.trees worked.dump
  not_the_dump cut =
      let all = subst (AllZip (IsTreeAsAsked without_other worked.trees worked.revisions) worked.trees)
      (sym (same_trees cut.again cut.written cut.others cut.is_dump cut.loads)) cut.cut in
      not_the_old_tree all.1.1.1.0

not_for_each_load : ¬ IfLoads (λ patched records revisions trees text. ⊥) worked.dump worked.dump
not_for_each_load holds =
    holds (λ delta old. None) worked.records worked.revisions worked.trees worked.whole (worked.loads (λ delta old. None))

-- svndiff agrees with itself; so the premise of the headline can be met, and an untrue end is not reached
patch_agrees : AgreesWithSvndiff patch
patch_agrees delta old text is = is

not_for_each_svndiff : ¬ IfLoadsBySvndiff (λ patched records revisions trees text. ⊥) worked.dump worked.dump
not_for_each_svndiff holds = holds patch worked.records worked.revisions worked.trees worked.whole (worked.loads patch) patch_agrees

whole_if_loads : (after : Option ℕ) → IfLoads (IsCut (from after)) worked.dump worked.dump
whole_if_loads after patched records revisions trees has loads = record {
  again = records;
  written = revisions;
  others = trees;
  is_dump = has;
  loads = loads;
  cut = all_zip trees;
  same = λ props have. have;
}
  where
    all_zip : (ts : List Tree) → AllZip (IsTreeAsAsked (from after) trees revisions) ts ts
    all_zip [] = tt
    all_zip (t ∷ ts) = (
      record {
        kept = λ path keep. same_itself (t path);
        gone = λ path none. absurd (none (inr ([], refl)));
      },
      all_zip ts,
    )

-- ZeroIsCut

zero_is_cut : ZeroIsCut all_of_it worked.dump (Some []) (Some worked.dump)
zero_is_cut wet stays all = (
  worked.dump,
  refl,
  λ short patched records revisions trees has loads agrees. whole_if_loads None patched records revisions trees has loads,
)

not_zero : ¬ ZeroIsCut without_other worked.dump (Some []) (Some worked.dump)
not_zero holds =
    let (text, is, cut) = holds refl refl refl in
    let same : worked.dump ≡ text = is in
    not_the_dump patch
    (subst (IsCut without_other patch worked.records worked.revisions worked.trees) (sym same)
    (cut (subst (λ t. length t < 10 ^ 18) same (lit< tt)) patch worked.records worked.revisions worked.trees
    worked.whole (worked.loads patch) patch_agrees))

-- IsDroppedCut, ZeroIsDroppedCut

four : (props : List (List Property)) → HaveRevisionProperties worked.records props
    → map (slice_get props) (0 ∷ 1 ∷ 2 ∷ 3 ∷ []) ≡ map (λ ps. Some ps) props
four [] have = absurd have
four (p ∷ []) have = absurd have.1
four (p ∷ q ∷ []) have = absurd have.1.1
four (p ∷ q ∷ r ∷ []) have = absurd have.1.1.1
four (p ∷ q ∷ r ∷ s ∷ []) have = refl
four (p ∷ q ∷ r ∷ s ∷ u ∷ props) have = absurd have.1.1.1.1

dropped_cut : (patched : Patching) → IsDroppedCut all_of_it patched worked.records worked.revisions worked.trees worked.dump
dropped_cut patched = record {
  kept = record { first = 0; numbers = 0 ∷ 1 ∷ 2 ∷ 3 ∷ [] };
  again = worked.records;
  written = worked.revisions;
  others = worked.trees;
  is_dump = worked.whole;
  loads = worked.loads patched;
  rising = refl;
  inside = refl;
  count = refl;
  cut = images;
  same = λ props have. (props, have, four props have);
}
  where
    images : (number : ℕ) (tree : Tree) → slice_get worked.trees number ≡ Some tree → (new : ℕ) × (o : Tree)
        × (image (record { first = 0; numbers = 0 ∷ 1 ∷ 2 ∷ 3 ∷ [] }) number ≡ Some new)
        × (slice_get worked.trees new ≡ Some o) × IsTreeAsAsked all_of_it worked.trees worked.revisions tree o
    images zero tree at = (0, tree, refl, at, whole_tree tree)
    images (suc zero) tree at = (1, tree, refl, at, whole_tree tree)
    images (suc (suc zero)) tree at = (2, tree, refl, at, whole_tree tree)
    images (suc (suc (suc zero))) tree at = (3, tree, refl, at, whole_tree tree)
    images (suc (suc (suc (suc n)))) tree at = absurd (let bad : None ≡ Some tree = at in cc)

-- none of the trees is the cut of the last one
no_cut : (new : ℕ) (o : Tree) → slice_get worked.trees new ≡ Some o
    → ¬ IsTreeAsAsked without_other worked.trees worked.revisions worked.third_tree o
no_cut zero o at cut =
    let both : Some root_alone ≡ Some o = at in
    let same : root_alone ≡ o = cc in
    not_a_new_repository (subst (IsTreeAsAsked without_other worked.trees worked.revisions worked.third_tree) (sym same) cut)
no_cut (suc zero) o at cut =
    let both : Some worked.first_tree ≡ Some o = at in
    let same : worked.first_tree ≡ o = cc in
    not_an_older_tree (subst (IsTreeAsAsked without_other worked.trees worked.revisions worked.third_tree) (sym same) cut)
no_cut (suc (suc zero)) o at cut =
    let both : Some worked.second_tree ≡ Some o = at in
    let same : worked.second_tree ≡ o = cc in
    (subst (IsTreeAsAsked without_other worked.trees worked.revisions worked.third_tree) (sym same) cut).kept branch
    (λ is. let bad : false ≡ true = is in cc)
no_cut (suc (suc (suc zero))) o at cut =
    let both : Some worked.third_tree ≡ Some o = at in
    let same : worked.third_tree ≡ o = cc in
    not_the_old_tree (subst (IsTreeAsAsked without_other worked.trees worked.revisions worked.third_tree) (sym same) cut)
no_cut (suc (suc (suc (suc n)))) o at cut = absurd (let bad : None ≡ Some o = at in cc)

not_dropped : (patched : Patching)
    → ¬ IsDroppedCut without_other patched worked.records worked.revisions worked.trees worked.dump
not_dropped patched cut =
    let (new, o, image_is, at, is_cut) = cut.cut 3 worked.third_tree refl in
    no_cut new o
    (ap (λ ts. slice_get ts new) (same_trees patched cut.again cut.written cut.others cut.is_dump cut.loads) ∙ at) is_cut

not_zero_dropped : ¬ ZeroIsDroppedCut (record without_other { drop = true }) worked.dump (Some []) (Some worked.dump)
not_zero_dropped holds =
    let (text, is, cut) = holds refl refl refl in
    let same : worked.dump ≡ text = is in
    no_dropped patch
    (subst (IsDroppedCut (record without_other { drop = true }) patch worked.records worked.revisions worked.trees)
    (sym same) (cut (subst (λ t. length t < 10 ^ 18) same (lit< tt)) patch worked.records worked.revisions
    worked.trees worked.whole (worked.loads patch) patch_agrees))
  where
    no_dropped : (patched : Patching) → ¬ IsDroppedCut (record without_other { drop = true }) patched worked.records
        worked.revisions worked.trees worked.dump
    no_dropped patched cut =
        let (new, o, image_is, at, is_cut) = cut.cut 3 worked.third_tree refl in
        no_cut new o
        (ap (λ ts. slice_get ts new) (same_trees patched cut.again cut.written cut.others cut.is_dump cut.loads) ∙ at) is_cut

-- IsRestOfCut, ZeroIsRest

-- the parts up to r1, and after it
abbrev first_part : List ℕ
first_part = part_up_to 1 worked.dump worked.records

abbrev later_part : List ℕ
later_part = head_part worked.dump worked.records ++ part_from 1 worked.dump worked.records

is_first : IsFirstPart 1 worked.dump first_part
is_first records has =
    ap (part_up_to 1 worked.dump) (whole_records_once worked.dump worked.records records worked.whole has)

is_later : IsLaterPart 1 worked.dump later_part
is_later records has =
    ap (λ (rs : List DumpRecord). head_part worked.dump rs ++ part_from 1 worked.dump rs)
    (whole_records_once worked.dump worked.records records worked.whole has)

rest : (patched : Patching) → IsRestOfCut all_of_it 1 worked.dump patched worked.records worked.revisions worked.trees
    later_part
unfolding whole_cut
rest patched = record {
  is_cut = whole_cut patched;
  parts = λ keeps first is_first. dumps_load_in_parts patched 1 worked.dump first later_part worked.records worked.revisions
      worked.trees worked.whole (worked.loads patched) (lit< tt) keeps is_first is_later;
}

-- the whole dump isn't a part that can be loaded over r1
not_the_whole : (patched : Patching) → ¬ IsRestOfCut all_of_it 1 worked.dump patched worked.records worked.revisions
    worked.trees worked.dump
not_the_whole patched r =
    let c = r.is_cut in
    let records_are = same_records patched c.again c.written c.others c.is_dump c.loads in
    let trees_are = same_trees patched c.again c.written c.others c.is_dump c.loads in
    let parts = r.parts (subst (KeepsVersion 1) records_are refl) first_part is_first in
    let others_are = whole_records_once worked.dump worked.records parts.others worked.whole parts.has_others in
    let counts = parts.loads_later.numbered in
    let bad : false ≡ true =
    subst (λ (rs : List DumpRecord). counts_from 2 (revision_numbers rs) ≡ true) (sym others_are)
    (subst (λ (ts : List Tree). counts_from (length (take 2 ts)) (revision_numbers parts.others) ≡ true) (sym trees_are)
    counts) in
    cc

rest_if_loads : IfLoads (IsRestOfCut (from (Some 1)) 1 worked.dump) worked.dump later_part
unfolding whole_if_loads
rest_if_loads patched records revisions trees has loads = record {
  is_cut = whole_if_loads (Some 1) patched records revisions trees has loads;
  parts = λ keeps first first_is. dumps_load_in_parts patched 1 worked.dump first later_part records revisions trees has loads
      (subst (λ (ts : List Tree). 1 < length ts) (same_trees patched records revisions trees has loads) (lit< tt)) keeps
      first_is is_later;
}

zero_is_rest : ZeroIsRest (from (Some 1)) worked.dump (Some []) (Some later_part)
zero_is_rest number wet stays after =
    let both : Some 1 ≡ Some number = after in
    let same : 1 ≡ number = cc in
    subst (λ n. (text whole : List ℕ) × Appends (Some []) (Some later_part) text × IsLaterPart n whole text
    × IfLoadsBySvndiff (IsRestOfCut (from (Some 1)) n whole) worked.dump text) same (
      later_part,
      worked.dump,
      refl,
      is_later,
      λ patched records revisions trees has loads agrees. rest_if_loads patched records revisions trees has loads,
    )

-- what was written before isn't lost
not_zero_rest : ¬ ZeroIsRest (from (Some 1)) worked.dump (Some (10 ∷ [])) (Some [])
not_zero_rest holds =
    let (text, whole, is, later, cut) = holds 1 refl refl refl in
    let bad : [] ≡ 10 ∷ text = is in
    cc

-- IsOfKept, ZeroIsOfKept

-- the changes
abbrev one : Change
one = worked.directory (codes "trunk") (Some Made.NewDirectory)

abbrev two : Change
two = worked.directory (codes "other") (Some Made.NewDirectory)

abbrev three : Change
three = worked.directory (codes "trunk/b") (Some (Made.Copied 2 trunk))

abbrev excluding : Settings
excluding = record (plain_settings Exclude (path_text other ∷ [])) { preserve = true; skip_missing = true }

of_kept : (patched : Patching)
    → IsOfKept without_other patched worked.records worked.revisions worked.trees worked.dump
of_kept patched = (
  excluding,
  λ path are keep named.
      let bad : true ≡ false =
      sym keep ∙ excluded_match excluding (other ∷ []) path (record { side = refl; prefixes = refl }) refl are ∙ ap not named in
      cc,
  (
    worked.records,
    worked.revisions,
    worked.whole,
    (worked.loads patched).makes,
    each,
    λ side path over. over,
  ),
)
  where
    new : (path : List ℕ) → ComesOfKept excluding worked.revisions (IsNewProperty excluding (kept_revisions excluding worked.records))
        (IsWrittenNumber excluding (kept_revisions excluding worked.records)) (worked.directory path (Some Made.NewDirectory))
    new path = record {
      props = λ k d low. absurd (omega (arith, low));
      text = λ change is. absurd (let bad : None ≡ Some change = is in cc);
      copies = λ number source is.
          absurd (let bad : Some Made.NewDirectory ≡ Some (Made.Copied number source) = is in cc);
    }

    alone : (c : Change) → ComesOfKept excluding worked.revisions
        (IsNewProperty excluding (kept_revisions excluding worked.records))
        (IsWrittenNumber excluding (kept_revisions excluding worked.records)) c
        → All (ComesOfKept excluding worked.revisions (IsNewProperty excluding (kept_revisions excluding worked.records))
        (IsWrittenNumber excluding (kept_revisions excluding worked.records))) (c ∷ [])
    alone c is zero d low = is
    alone c is (suc k) d low = absurd (omega (arith, low))

    copied : ComesOfKept excluding worked.revisions (IsNewProperty excluding (kept_revisions excluding worked.records))
        (IsWrittenNumber excluding (kept_revisions excluding worked.records))
        (worked.directory (codes "trunk/b") (Some (Made.Copied 2 trunk)))
    copied = record {
      props = λ k d low. absurd (omega (arith, low));
      text = λ change is. absurd (let bad : None ≡ Some change = is in cc);
      copies = λ number source is. (
        number,
        refl,
        record {
          changes = worked.directory (codes "trunk/b") (Some (Made.Copied 2 trunk)) ∷ [];
          change = worked.directory (codes "trunk/b") (Some (Made.Copied 2 trunk));
          among = (2, omega arith, refl);
          there = (0, omega arith, refl);
          kept = refl;
          does = (source, [], is, refl, sym (append-nil source));
        },
      );
    }

    each : All (All (ComesOfKept excluding worked.revisions
        (IsNewProperty excluding (kept_revisions excluding worked.records))
        (IsWrittenNumber excluding (kept_revisions excluding worked.records)))) worked.revisions
    each zero d low = alone one (new (codes "trunk"))
    each (suc zero) d low = alone two (new (codes "other"))
    each (suc (suc zero)) d low = alone three copied
    each (suc (suc (suc k))) d low = absurd (omega (arith, low))

-- what is copied by an excluded change alone isn't of a kept one
not_of_kept : (patched : Patching)
    → ¬ IsOfKept (call Exclude false (codes "trunk")) patched worked.records worked.revisions worked.trees worked.dump
not_of_kept patched (settings, apart, (parts, written, has, makes, all, over)) =
    let parts_are = whole_records_once worked.dump worked.records parts worked.whole has in
    let written_are = later_once patched (groups parts) [] worked.revisions written
    (subst (λ (rs : List DumpRecord). AllZip (MakeChanges patched) (groups rs) ([] ∷ worked.revisions)) parts_are
    (worked.loads patched).makes.changes) makes.changes in
    let each = subst (All (All (ComesOfKept settings worked.revisions
    (IsNewProperty settings (kept_revisions settings worked.records))
    (IsWrittenNumber settings (kept_revisions settings worked.records))))) (sym written_are) all in
    let (old, number_is, some) = (each 2 [] (lit< tt) 0 three (lit< tt)).copies 2 trunk refl in
    let (top, rest, made, path, source) = some.does in
    by_change old top some.changes some.change some.among some.there made some.kept
  where
    by_last : (old : ℕ) (top : NodePath) (c : Change) → worked.directory (codes "trunk/b") (Some (Made.Copied 2 trunk)) ≡ c
        → keeps settings c.path ≡ true → ⊥
    by_last old top c is kept = apart branch refl (subst (λ (d : Change). keeps settings d.path ≡ true) (sym is) kept) refl

    not_new : (path : List ℕ) (old : ℕ) (top : NodePath) (c : Change)
        → worked.directory path (Some Made.NewDirectory) ≡ c → c.made ≡ Some (Made.Copied old top) → ⊥
    not_new path old top c is made =
        let bad : Some Made.NewDirectory ≡ Some (Made.Copied old top) = ap (λ (d : Change). d.made) is ∙ made in cc

    one_in : (d c : Change) (changes : List Change) → d ∷ [] ≡ changes → Contains changes c → d ≡ c
    one_in d c changes is there =
        elim (contains_cases d [] c (subst (λ cs. Contains cs c) (sym is) there)) [
          | inl same ↦ same
          | inr more ↦ absurd (contains_none c more)
        ]

    by_change : (old : ℕ) (top : NodePath) (changes : List Change) (c : Change) → Contains worked.revisions changes
        → Contains changes c → c.made ≡ Some (Made.Copied old top) → keeps settings c.path ≡ true → ⊥
    by_change old top changes c among there made kept =
        elim (contains_cases (one ∷ []) ((two ∷ []) ∷ (three ∷ []) ∷ []) changes among) [
          | inl first ↦ not_new (codes "trunk") old top c (one_in one c changes first there) made
          | inr others ↦ elim (contains_cases (two ∷ []) ((three ∷ []) ∷ []) changes others) [
            | inl second ↦ not_new (codes "other") old top c (one_in two c changes second there) made
            | inr last ↦ elim (contains_cases (three ∷ []) [] changes last) [
              | inl third ↦ by_last old top c (one_in three c changes third there) kept
              | inr none ↦ absurd (contains_none changes none)
            ]
          ]
        ]

zero_is_of_kept : ZeroIsOfKept all_of_it worked.dump (Some []) (Some [])
zero_is_of_kept side unkept wet all = absurd (let bad : Include ≡ Exclude = side in cc)

-- what was written before isn't lost
not_zero_of_kept : ¬ ZeroIsOfKept without_other worked.dump (Some (10 ∷ [])) (Some [])
not_zero_of_kept holds =
    let (text, is, kept) = holds refl refl refl refl in
    let bad : [] ≡ 10 ∷ text = is in
    cc

-- ZeroPromises

-- another status promises nothing
no_promise : ZeroPromises (λ m dump old new. ⊥) (λ name. None) None (Ok all_of_it) (Some worked.dump) (Some []) (Some []) 1
no_promise m dump is none means known = absurd (omega (arith, is))

-- nor does a help text
no_promise_of_help : ZeroPromises (λ m dump old new. ⊥) (λ name. None) (Some Version) (Ok all_of_it) (Some worked.dump)
    (Some []) (Some []) 0
no_promise_of_help m dump is none means known = absurd (let bad : Some Version ≡ None = none in cc)

not_promised : ¬ ZeroPromises (λ m dump old new. ⊥) (λ name. None) None (Ok all_of_it) (Some worked.dump) (Some []) (Some []) 0
not_promised holds = (holds all_of_it worked.dump refl refl refl refl).2
