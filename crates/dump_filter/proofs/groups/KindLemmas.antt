-- What a record is, by its deciding names, of which exactly one is there.
use Rattle.dump_filter.proofs.Prelude.{◌≡◌, ℕ, Bool, true, false, refl, sym, ◌∙◌, subst, IsTrue, version_name, uuid_name, revision_name, path_name, has_header, has_bad_kind, kind_of, RecordKind, DumpRecord, Record, record_item, record_number, is_lawful, OneKind, deciding, keeps, is_revision_record, is_node, false_from_ne_true, false_true, absurd_bool}
use Rattle.dump_records.specs.declared.kind.RecordKind.TheVariants as kinds

-- a record is of this kind, and of no other
abbrev pub IsOfKind : DumpRecord → RecordKind → Type 0
IsOfKind r kinds.Version = (is_node r ≡ false) × (is_revision_record r ≡ false)
IsOfKind r kinds.Uuid = (is_node r ≡ false) × (is_revision_record r ≡ false)
IsOfKind r kinds.Revision = (is_node r ≡ false) × (is_revision_record r ≡ true)
IsOfKind r kinds.Node = (is_node r ≡ true) × (is_revision_record r ≡ false)

-- the kind that the lines of a lawful record give is its own
pub of_kind : (number : ℕ) (r : DumpRecord) → IsTrue (is_lawful number r.headers) → IsOfKind r (kind_of r.headers)
of_kind number r lawful =
    cases (has_header version_name r.headers) (has_header uuid_name r.headers) (has_header revision_name r.headers)
    refl refl refl
  where
    one : OneKind (has_header version_name r.headers) (has_header uuid_name r.headers)
        (has_header revision_name r.headers) (has_header path_name r.headers)
    one = deciding r.headers (false_from_ne_true (has_bad_kind r.headers) (keeps number r.headers lawful).kind)

    is_kind : (which : RecordKind) → kind_of r.headers ≡ which → IsOfKind r which → IsOfKind r (kind_of r.headers)
    is_kind which e of = subst (IsOfKind r) (sym e) of

    cases : (v u s : Bool) → has_header version_name r.headers ≡ v → has_header uuid_name r.headers ≡ u
        → has_header revision_name r.headers ≡ s → IsOfKind r (kind_of r.headers)
    cases true u s is-v is-u is-s = let no = one.version is-v in is_kind kinds.Version (rw is-v refl) (no.2, no.1)
    cases false true s is-v is-u is-s =
        let no = one.uuid is-u in is_kind kinds.Uuid (rw (is-v, is-u) refl) (no.2, no.1)
    cases false false true is-v is-u is-s =
        is_kind kinds.Revision (rw (is-v, is-u, is-s) refl) ((one.revision is-s).2, is-s)
    cases false false false is-v is-u is-s =
        is_kind kinds.Node (rw (is-v, is-u, is-s) refl) (node (is_node r) refl, is-s)
      where
        node : (b : Bool) → is_node r ≡ b → b ≡ true
        node true is = refl
        node false is = absurd (absurd_bool (has_header uuid_name r.headers) (one.left is-v is-s is) is-u)

-- a record whose lines give this kind is of this kind
pub found_kind : {item same : Record} {which : RecordKind} → item ≡ same → kind_of (record_item item).headers ≡ which
    → IsOfKind (record_item same) which
found_kind {item} {same} {which} e is =
    subst (λ (x : Record). IsOfKind (record_item x) which) e
    (subst (IsOfKind (record_item item)) is (of_kind (record_number item) (record_item item) item.stands.lawful))

-- a node is no revision
pub alone : (number : ℕ) (r : DumpRecord) → IsTrue (is_lawful number r.headers) → is_node r ≡ true
    → is_revision_record r ≡ false
alone number r lawful node = by_kind (kind_of r.headers) (of_kind number r lawful)
  where
    by_kind : (which : RecordKind) → IsOfKind r which → is_revision_record r ≡ false
    by_kind kinds.Version (other, no_rev) = no_rev
    by_kind kinds.Uuid (other, no_rev) = no_rev
    by_kind kinds.Revision (other, rev) = absurd (false_true (sym other ∙ node))
    by_kind kinds.Node (same, no_rev) = no_rev
