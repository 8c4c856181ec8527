use Rattle.dump_text.proofs.Prelude.{◌≡◌, drop, bytes_eq, find, name_text}
use Rattle.dump_text.proofs.names.find_name.Given as goal

abbrev pub invariant-loop-name : goal.invariant-loop-name
invariant-loop-name l = find (λ name. bytes_eq l.bytes (name_text name)) l.names
    ≡ find (λ name. bytes_eq l.bytes (name_text name)) (drop l.name-index l.names)
