-- The bytes of a text while it is made.
use Rattle.std.specs.Prelude.{ℕ, List}
use Rattle.dump_changes.specs.declared.text_bytes.TextBytes.{TextBytes}
use Rattle.dump_changes.specs.declared.text_bytes.TextBytes.TheVariants.{Lent, Made}

abbrev pub bytes_of : TextBytes → List ℕ
bytes_of (Lent text) = text.now
bytes_of (Made text) = text.items
