use Rattle.dump_records.proofs.Prelude.{◌≡◌, ℕ, List, None, true, false, ap, sym, ◌∙◌, refl, is_some, version_name, revision_name, path_name, copy_path_name, Header, has_header, header_value, has_bad_kind, KindParts, IsKindOf, is_version, is_uuid, is_revision, is_copied_node, version_in, revision_in, path_in, dump_of, lines_of}
use Rattle.dump_records.proofs.HeaderLemmas.{deciding, revision_there, no_number, no_value, place_there}
use Rattle.dump_records.proofs.header.parts_of.Goals as goal

-- lines with a path are those of a node, which is copied or not
node_says : (dump : List ℕ) (headers : List Header) (parts : KindParts)
    → has_bad_kind headers ≡ false → has_header path_name headers ≡ true
    → is_version parts ≡ false → is_uuid parts ≡ false → is_revision parts ≡ false
    → version_in parts ≡ None → revision_in parts ≡ None → path_in dump parts ≡ header_value path_name headers
    → is_copied_node parts ≡ has_header copy_path_name headers → IsKindOf dump headers parts
node_says dump headers parts kind node version uuid revision no_version no_revision path copied =
    let others = (deciding headers kind).node node in
    record {
      version = version ∙ sym others.0;
      uuid = uuid ∙ sym others.1;
      revision = revision ∙ sym others.2;
      version_number = no_version ∙ no_number version_name headers others.0;
      number = no_revision ∙ no_number revision_name headers others.2;
      path = path;
      copied = copied ∙ sym (rw node refl);
    }

pub returns-then-has : goal.returns-then-has
returns-then-has c =
    let lines = lines_of c.args.headers.now in
    let node : has_header path_name lines ≡ true =
    place_there path_name (dump_of c.args.headers.now) lines _ c.place_of-path.ensures
    ∙ sym c.is_there.ensures ∙ c.if-is_there.true in
    node_says _ lines _ c.requires.kind node refl refl refl refl refl c.place_of-path.ensures
    (sym c.if-has.true ∙ c.has.ensures)

pub returns-else-has : goal.returns-else-has
returns-else-has c =
    let lines = lines_of c.args.headers.now in
    let node : has_header path_name lines ≡ true =
    place_there path_name (dump_of c.args.headers.now) lines _ c.place_of-path.ensures
    ∙ sym c.is_there.ensures ∙ c.if-is_there.true in
    node_says _ lines _ c.requires.kind node refl refl refl refl refl c.place_of-path.ensures
    (sym c.if-has.false ∙ c.has.ensures)

pub returns-in-Some : goal.returns-in-Some
returns-in-Some c =
    let lines = lines_of c.args.headers.now in
    let is = sym c.requires.numbers.revision ∙ c.in-Some.is in
    let there : has_header revision_name lines ≡ true = revision_there lines c.requires.number ∙ ap is_some is in
    let others = (deciding lines c.requires.kind).revision there in
    record {
      version = sym others.0;
      uuid = sym others.1;
      revision = sym there;
      version_number = no_number version_name lines others.0;
      number = sym is;
      path = no_value path_name lines others.2;
      copied = sym (let none = others.2 in rw none refl);
    }

pub returns-in-Some-version : goal.returns-in-Some-version
returns-in-Some-version c =
    let lines = lines_of c.args.headers.now in
    let is = sym c.requires.numbers.version ∙ c.in-Some-version.is in
    let there : has_header version_name lines ≡ true = sym c.requires.version ∙ ap is_some c.in-Some-version.is in
    let others = (deciding lines c.requires.kind).version there in
    record {
      version = sym there;
      uuid = sym others.0;
      revision = sym others.1;
      version_number = sym is;
      number = no_number revision_name lines others.1;
      path = no_value path_name lines others.2;
      copied = sym (let none = others.2 in rw none refl);
    }

pub returns : goal.returns
returns c =
    let lines = lines_of c.args.headers.now in
    let is = sym c.requires.numbers.revision ∙ c.in_default.is in
    let no_revision : has_header revision_name lines ≡ false = revision_there lines c.requires.number ∙ ap is_some is in
    let no_node : has_header path_name lines ≡ false =
    place_there path_name (dump_of c.args.headers.now) lines _ c.place_of-path.ensures
    ∙ sym c.is_there.ensures ∙ c.if-is_there.false in
    let no_version : has_header version_name lines ≡ false =
    sym c.requires.version ∙ ap is_some c.in_default-version.is in
    record {
      version = sym no_version;
      uuid = sym ((deciding lines c.requires.kind).left no_version no_revision no_node);
      revision = sym no_revision;
      version_number = no_number version_name lines no_version;
      number = sym is;
      path = no_value path_name lines no_node;
      copied = sym (rw no_node refl);
    }
