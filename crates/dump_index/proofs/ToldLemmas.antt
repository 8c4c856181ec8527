-- An index says what exists.
use Rattle.std.proofs.Common.{◌≡◌, true, not, List, [], ◌∷◌, map, Option, Some, None, is_some, option_map, refl, sym, ◌∙◌}
use Rattle.std.specs.List.{AllZip}
use Rattle.dump_trees.specs.Trees.{Node, root_alone}
use Rattle.dump_trees.specs.Changes.{PropertyChange, TextChange}
use Rattle.dump_trees.specs.steps.Looking.{Placed, look}
use Rattle.dump_trees.specs.steps.LoadCheck.{kind_of_node, patches_text, HasSameKinds}
use Rattle.dump_trees.proofs.cuts.PlainLooks.{plain_looks_tell_kinds}
use Rattle.dump_index.specs.steps.Listed.{Listed, listed_of, placed_of, all_placed, plain_props, plain_text}
use Rattle.dump_index.specs.steps.Kinds.{node_kind}
use Rattle.dump_index.specs.steps.IndexLaws.{HasProps, HasText, IsListed}
use Rattle.dump_index.specs.steps.ToldKinds.{kind_meant, IndexTellsKinds}
use Rattle.dump_index.specs.declared.change.Setting.{Setting}
use Rattle.dump_index.specs.declared.change.Setting.TheVariants.{Keeps, Replaces, Edits, EditsNothing}

same_props : (s : Setting) (props : Option PropertyChange) → HasProps s props
    → is_some (plain_props s) ≡ is_some props
same_props Keeps None has = refl
same_props Keeps (Some change) has = absurd has
same_props Replaces None has = absurd has
same_props Replaces (Some change) has = refl
same_props Edits None has = absurd has
same_props Edits (Some change) has = refl
same_props EditsNothing None has = absurd has
same_props EditsNothing (Some change) has = refl

same_text : (s : Setting) (text : Option TextChange) → HasText s text → is_some (plain_text s) ≡ is_some text
same_text Keeps None has = refl
same_text Keeps (Some change) has = absurd has
same_text Replaces None has = absurd has
same_text Replaces (Some change) has = refl
same_text Edits None has = absurd has
same_text Edits (Some change) has = refl
same_text EditsNothing text has = absurd has

no_delta : (s : Setting) → not (patches_text (plain_text s)) ≡ true
no_delta Keeps = refl
no_delta Replaces = refl
no_delta Edits = refl
no_delta EditsNothing = refl

same_one : (l : Listed) (p : Placed) → IsListed l p → HasSameKinds p (placed_of l)
same_one l p is = record {
  revision = sym is.revision;
  path = sym is.path;
  deletes = sym is.deletes;
  made = sym is.made;
  props = same_props l.props p.change.props is.props;
  text = same_text l.text p.change.text is.text;
  whole = no_delta l.text;
}

all_same : (listed : List Listed) (placed : List Placed) → AllZip IsListed listed placed
    → AllZip HasSameKinds placed (all_placed listed)
all_same [] [] zip = tt
all_same [] (p ∷ placed) zip = absurd zip
all_same (l ∷ listed) [] zip = absurd zip
all_same (l ∷ listed) (p ∷ placed) zip = (same_one l p zip.0, all_same listed placed zip.1)

meant : (o : Option Node) → option_map kind_meant (option_map node_kind o) ≡ option_map kind_of_node o
meant None = refl
meant (Some (Node.Directory props)) = refl
meant (Some (Node.File props text)) = refl

pub index_tells_kinds : IndexTellsKinds
index_tells_kinds changes placed zip front behind trees tree path same late is there =
    meant (look root_alone (all_placed (map listed_of changes)) _ path)
    ∙ plain_looks_tell_kinds root_alone placed (all_placed (map listed_of changes))
    (all_same (map listed_of changes) placed zip) front behind trees tree path same late is there
