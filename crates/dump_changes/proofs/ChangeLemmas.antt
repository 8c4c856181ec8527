-- Which change a node makes, as determined by what is read of it.
use Rattle.dump_changes.proofs.Prelude.{◌≡◌, Bool, true, false, not, ◌&&◌, cond, List, Option, Some, None, refl, sym, ap, ◌∙◌, and_parts, and_from, HasPropertyBlock, HasPropertyList, node_path, DumpRecord, IsReadBlock, Patching, MakesChange, Property, Props, path_of}
use Rattle.std.proofs.Common.{IsSome, ◌↔◌}
use Rattle.dump_trees.specs.Changes.{Change}
use Rattle.dump_history.specs.RecordChanges.{has_known_action, has_undefined_delta, loads_as_written, deletes, made_of, property_change_of, text_change_of}
use Rattle.dump_changes.specs.steps.Nodes.{is_told}

-- the change of a node with these properties
abbrev pub told_change : Patching → DumpRecord → List Property → Change
told_change patched r ps = record {
  path = path_of (node_path r);
  deletes = deletes r;
  made = made_of r;
  props = property_change_of r ps;
  text = text_change_of patched r;
}

-- a node whose change is modelled makes it
pub makes_told : (patched : Patching) (r : DumpRecord) (ps : List Property) → HasPropertyList r ps → is_told r (Some ps) ≡ true
    → MakesChange patched r (told_change patched r ps)
makes_told patched r ps has told =
    let odd = and_parts (not (has_undefined_delta r)) (has_known_action r && loads_as_written r ps) told in
    let known = and_parts (has_known_action r) (loads_as_written r ps) odd.1 in (
      ps,
      has,
      known.1,
      ap (λ b. cond b (Some (told_change patched r ps)) None)
          (and_from (has_known_action r) (not (has_undefined_delta r)) known.0 odd.0),
    )

-- a node that makes a change is modelled
pub told_if_makes : (patched : Patching) (r : DumpRecord) (c : Change) → MakesChange patched r c
    → (ps : List Property) × HasPropertyList r ps × (is_told r (Some ps) ≡ true)
told_if_makes patched r c (ps, has, plain, is) =
    let both = and_parts (has_known_action r) (not (has_undefined_delta r))
    (some (has_known_action r && not (has_undefined_delta r)) is) in (
      ps,
      has,
      and_from (not (has_undefined_delta r)) (has_known_action r && loads_as_written r ps) both.1
          (and_from (has_known_action r) (loads_as_written r ps) both.0 plain),
    )
  where
    some : (b : Bool) → cond b (Some (told_change patched r ps)) None ≡ Some c → b ≡ true
    some true is = refl
    some false is = absurd (let bad : None ≡ Some c = is in cc)

-- the properties of such a node can be read
pub told_block : (r : DumpRecord) (props : Option Props) (told : Bool) → IsSome props ↔ HasPropertyBlock r
    → ((ps : Option (List Property)) → IsReadBlock r ps → told ≡ is_told r ps) → told ≡ true → HasPropertyBlock r
told_block r None told found is true_is = absurd (let bad : false ≡ true = sym (is None (λ has. absurd (let worse : false ≡ true = found.1 has in cc))) ∙ true_is in cc)
told_block r (Some props) told found is true_is = found.0 refl
