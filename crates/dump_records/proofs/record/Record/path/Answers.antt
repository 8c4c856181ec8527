use Rattle.dump_records.proofs.Prelude.{◌≡◌, ◌⊎◌, List, ℕ, ap, sym, ◌∙◌, inl, inr, path_name, value_at, ValuePlace, KindParts, Node, Copy, path_in}
use Rattle.dump_records.proofs.RecordLemmas.{copy_in_block}
use Rattle.dump_records.proofs.record.Record.path.Goals as goal

-- a node's path is at its place, whether it is copied or not
path_at : (dump : List ℕ) (parts : KindParts) (path : ValuePlace)
    → (parts ≡ Node path) ⊎ (parts ≡ Copy path)
    → value_at dump path ≡ path_in dump parts
path_at dump parts path (inl is) = sym (ap (path_in dump) is)
path_at dump parts path (inr is) = sym (ap (path_in dump) is)

pub returns-in-Node-clause-lent : goal.returns-in-Node-clause-lent
returns-in-Node-clause-lent c =
    let r = c.args.self.now in
    copy_in_block r path_name c.value_at.result
    (c.value_at.ensures ∙ path_at r.block.dump.now r.header.parts c.in-Node.path c.in-Node.is ∙ r.says.kind.path)
