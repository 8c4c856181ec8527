use Rattle.dump_pipeline.proofs.Prelude.{◌≡◌, take, length, capped, bytes_of_chunks}
use Rattle.dump_pipeline.proofs.count.piece_len.Given as goal

abbrev pub invariant-loop-chunk : goal.invariant-loop-chunk
invariant-loop-chunk l = l.count ≡ capped (length (bytes_of_chunks (take l.chunk-index l.chunks)))
