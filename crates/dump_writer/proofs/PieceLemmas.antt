-- Lemmas on a piece that is cut inside one of its chunks.
use Rattle.std.proofs.Common.{◌≡◌, ℕ, ◌+◌, ◌-◌, ◌^◌, ◌<◌, ◌≤◌, ◌++◌, ◌∷◌, min, List, Option, length, take, drop, get_or, suc, refl, arith, length-append, sym, ap, ap₂, ◌∙◌, subst, drop-cons}
use Rattle.std.proofs.lemmas.List.{take-append-drop, take-append-le, take_at, drop_at}
use Rattle.std.proofs.lemmas.Grind.{flat_map-append}
use Rattle.std.specs.Io.KnownBytes.{Appends}
use Rattle.std.proofs.KnownBytes.{Appends-trans}
use Rattle.dump_writer.specs.declared.piece.Chunk.{Chunk}
use Rattle.dump_writer.specs.steps.ChunkBytes.{chunk_bytes, bytes_of_chunks}
use Rattle.dump_writer.specs.SinkWords.{capped}
use Rattle.dump_writer.specs.steps.SinkCalls.{TakesOnlyFirst}
use Rattle.dump_writer.proofs.SinkLemmas.{take-add}

-- the first bytes end inside the second of three parts
take-inside : (done bytes rest : List ℕ) (n : ℕ) → n ≤ length bytes
    → take (length done + n) (done ++ (bytes ++ rest)) ≡ done ++ take n bytes
take-inside done bytes rest n inside =
    take-add (length done) n (done ++ (bytes ++ rest))
    ∙ ap₂ (λ front back. front ++ take n back) (take_at done (bytes ++ rest) (length done) refl)
    (drop_at done (bytes ++ rest) (length done) refl)
    ∙ ap (λ back. done ++ back) (take-append-le n bytes rest inside)

-- a piece is the chunks before one, that one, and the chunks after it
bytes_of_chunks-at : (chunks : List Chunk) (i : ℕ) (chunk : Chunk) → i < length chunks → chunk ≡ get_or chunks i chunk
    → bytes_of_chunks chunks ≡ bytes_of_chunks (take i chunks) ++
    (chunk_bytes chunk ++ bytes_of_chunks (drop (suc i) chunks))
bytes_of_chunks-at chunks i chunk inside is =
    ap bytes_of_chunks (sym (take-append-drop i chunks))
    ∙ flat_map-append chunk_bytes (take i chunks) (drop i chunks)
    ∙ ap (λ back. bytes_of_chunks (take i chunks) ++ bytes_of_chunks back)
    (drop-cons chunks i chunk inside ∙ ap (λ head. head ∷ drop (suc i) chunks) (sym is))

-- the chunks before one were taken, and the first bytes of that one
pub TakesOnlyFirst-chunk : (chunks : List Chunk) (text : List ℕ) (i : ℕ) (chunk : Chunk) (bytes : List ℕ)
    (a b c : Option (List ℕ)) (written part total : ℕ)
    → bytes_of_chunks chunks ≡ text → i < length chunks → chunk ≡ get_or chunks i chunk → bytes ≡ chunk_bytes chunk
    → Appends a b (bytes_of_chunks (take i chunks)) → written ≡ capped (length (bytes_of_chunks (take i chunks)))
    → part < length bytes → Appends b c (take part bytes) → total ≡ min (written + part) (2 ^ 64 - 1)
    → TakesOnlyFirst a c text total
TakesOnlyFirst-chunk chunks text i chunk bytes a b c written part total all inside is same before counted short after sum =
    let done = bytes_of_chunks (take i chunks) in
    let rest = bytes_of_chunks (drop (suc i) chunks) in
    let whole : text ≡ done ++ (bytes ++ rest) = sym all ∙ bytes_of_chunks-at chunks i chunk inside is
    ∙ ap (λ middle. done ++ (middle ++ rest)) (sym same) in
    subst (λ t. TakesOnlyFirst a c t total) (sym whole) (
      length done + part,
      omega (arith, short, length-append done (bytes ++ rest), length-append bytes rest),
      subst
          (Appends a c) (sym (take-inside done bytes rest part (omega arith))) (Appends-trans a b c _ _ before after),
      omega (arith, sum, counted),
    )
