-- Laws of reading and writing: what is written is read as what it was, and as nothing else.
use Rattle.std.specs.Prelude.{◌≡◌, ℕ, ◌<◌, ◌^◌, List, ◌++◌, length, IsTrue}
use Rattle.dump_text.specs.HeaderLine.{Header}
use Rattle.dump_text.specs.HeaderBlock.{is_block, block_text, BeginsWithBlock}
use Rattle.dump_text.specs.PropertyList.{Property, IsPropertyBlock, property_block_text}

-- a text that begins with lawful lines begins with the block of these lines, and of no others
abbrev pub BlocksAreReadAsWritten : Type 0
BlocksAreReadAsWritten = (headers : List Header) (rest : List ℕ) → IsTrue (is_block headers)
    → BeginsWithBlock (block_text headers ++ rest) headers rest
    × ((others : List Header) (more : List ℕ) → BeginsWithBlock (block_text headers ++ rest) others more
    → (others ≡ headers) × (more ≡ rest))

-- what is written of properties is a property block of these properties, and of no others
abbrev pub PropertiesAreReadAsWritten : Type 0
PropertiesAreReadAsWritten = (ps : List Property) → length (property_block_text ps) < 10 ^ 18
    → IsPropertyBlock (property_block_text ps) ps
    × ((others : List Property) → IsPropertyBlock (property_block_text ps) others → others ≡ ps)
