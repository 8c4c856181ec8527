-- Worked values of the definitions, computed and proved by the kernel.
use Rattle.dump_pipeline.proofs.Prelude.{◌≡◌, ◌+◌, refl, ap, ◌∙◌, [], ◌∷◌, length, Some, codes, inl, inr, arith, lit<, lit≤, block_some, no_block, AreFaultFree, report_of, padding, version, version_text, clean, Clean, Fault, Failed, HasFirstFault, IsFilterAnswer, IsFilterPrefix, IsRunAnswer, SinkFailsOnly, ThreadsFailFirst, RunLeaves, IsInRange}
use Rattle.std.proofs.Common.{length-append}
use Rattle.dump_text.specs.declared.fault.FaultKind.TheVariants as faults
use Rattle.dump_pipeline.specs.declared.answer.Failure.TheVariants as failures

-- FilterAnswer

no_records : AreFaultFree padding []
no_records before after r e =
    let same : 0 ≡ length before + length (r ∷ after) = ap length e ∙ length-append before (r ∷ after) in
    absurd (omega arith)

-- an empty dump has no record, and so a fault at its end
empty_dump : HasFirstFault padding [] [] faults.HeaderCut 0
empty_dump = (
  no_records,
  inr (
    [],
    (0, refl, refl),
    tt,
    (inr refl, refl, no_block 0 [] (λ (headers, rest, is). block_some headers rest is)),
  ),
)

-- an empty dump's answer is a fault: its header is cut
pub empty_answer : IsFilterAnswer padding [] [] (Fault faults.HeaderCut 0 0)
empty_answer = ([], empty_dump, refl, refl)

-- a dump that is a version record alone stays as it is
clean_answer : IsFilterAnswer padding version_text version_text (Clean (report_of padding (version ∷ [])))
clean_answer = (version ∷ [], clean, refl)

-- a failure is no answer of the filter
no_failure : ¬ IsFilterAnswer padding [] [] (Failed failures.Sink 0)
no_failure is = is

-- RunAnswer

empty_prefix : IsFilterPrefix padding [] []
empty_prefix = ([], Fault faults.HeaderCut 0 0, empty_answer, ([], refl))

empty_run : IsRunAnswer padding [] [] (Fault faults.HeaderCut 0 0)
empty_run = empty_answer

failed_at_once : IsRunAnswer padding [] [] (Failed failures.Memory 0)
failed_at_once = (empty_prefix, refl)

-- the count is that of the bytes received
failed_later : ¬ IsRunAnswer padding [] [] (Failed failures.Memory 1)
failed_later (_, e) = omega arith

sink_failed : SinkFailsOnly 0 1 (Failed failures.Sink 7)
sink_failed = inl (lit< tt)

sink_did_not_fail : ¬ SinkFailsOnly 0 0 (Failed failures.Sink 7)
sink_did_not_fail (inl less) = omega arith
sink_did_not_fail (inr e) = omega arith

memory_alone : SinkFailsOnly 3 3 (Failed failures.Memory 7)
memory_alone = refl

no_count_for_memory : ¬ SinkFailsOnly 3 4 (Failed failures.Memory 7)
no_count_for_memory e = omega arith

no_thread : ThreadsFailFirst (Failed failures.Threads 0)
no_thread = refl

bytes_without_a_thread : ¬ ThreadsFailFirst (Failed failures.Threads 1)
bytes_without_a_thread e = omega arith

empty_leaves : RunLeaves padding [] (Some (codes "x")) (Some (codes "x")) (Fault faults.HeaderCut 0 0)
empty_leaves = record { received = []; appended = refl; answered = empty_answer }

-- PlanViews

least : IsInRange 1 1
least = (lit≤ tt, lit≤ tt, lit≤ tt, lit≤ tt)

most : IsInRange 64 4096
most = (lit≤ tt, lit≤ tt, lit≤ tt, lit≤ tt)

no_worker : ¬ IsInRange 0 1
no_worker (some, _, _, _) = omega arith

too_wide : ¬ IsInRange 1 4097
too_wide (_, _, _, within) = omega arith
