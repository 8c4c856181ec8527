-- What is sent to the output of what the filter writes.
use Rattle.std.specs.Prelude.{◌≡◌, ◌<◌, ◌^◌, ℕ, List, [], ◌∷◌, length, Option, None, Some, codes, decimal}
use Rattle.std.specs.List.{concat}
use Rattle.dump_text.specs.FaultTable.{fault_code}
use Rattle.dump_text.specs.declared.fault.FaultKind.{FaultKind}
use Rattle.dump_rules.specs.Settings.{Settings}
use Rattle.dump_pipeline.specs.RunAnswer.{IsRunAnswer}
use Rattle.dump_pipeline.specs.declared.answer.Answer.{Answer}
use Rattle.dump_pipeline.specs.declared.answer.Answer.TheVariants.{Clean, Fault, Failed}
use Rattle.dump_cut.specs.LaterParts.{IsLaterPart}
use Rattle.dump_cut.specs.TrimmedCopies.{IsTrimmedBy}

-- the line after the records before a fault: no reader of dumps takes it for a record
abbrev pub stop_line : FaultKind → List ℕ
stop_line kind = concat (codes "svndumpcut stopped here because of fault " ∷ decimal (fault_code kind) ∷ codes "\n" ∷ [])

-- what is written after the filter's text
abbrev pub stop_line_of : Answer → List ℕ
stop_line_of (Clean _) = []
stop_line_of (Fault kind _ _) = stop_line kind
stop_line_of (Failed _ _) = []

-- the text is what the filter writes, with the deletes behind its nodes, if there are some
abbrev pub IsTrimmedIf : Option (List (List (List ℕ))) → List ℕ → List ℕ → Type 0
IsTrimmedIf None filtered text = text ≡ filtered
IsTrimmedIf (Some deletes) filtered text = IsTrimmedBy deletes filtered text

-- the text is what is written of a cut: all of it, or its part after a revision
abbrev pub IsPartIf : Option ℕ → List ℕ → List ℕ → Type 0
IsPartIf None cut text = text ≡ cut
IsPartIf (Some number) cut text = IsLaterPart number cut text

-- what is written of what the filter wrote, by its answer: the cut, with deletes after its nodes, or its part after a revision,
-- if no length in it can be too large to be read again; or nothing
abbrev pub IsKeptOf : Option (List (List (List ℕ))) → Option ℕ → List ℕ → List ℕ → Answer → Type 0
IsKeptOf deletes after filtered sent (Clean _) =
    (cut : List ℕ) × (length filtered < 10 ^ 18) × IsTrimmedIf deletes filtered cut × IsPartIf after cut sent
IsKeptOf deletes after filtered sent (Fault _ _ _) = sent ≡ []
IsKeptOf deletes after filtered sent (Failed _ _) = sent ≡ []

-- a run on the input gives the answer, and these bytes are what it sends; or what is written of that, if there are deletes, or a
-- part is to be written
abbrev pub IsSent : Settings → Option (List (List (List ℕ))) → Option ℕ → List ℕ → List ℕ → Answer → Type 0
IsSent settings None None dump sent answer = IsRunAnswer settings dump sent answer
IsSent settings None (Some number) dump sent answer =
    (filtered : List ℕ) × IsRunAnswer settings dump filtered answer × IsKeptOf None (Some number) filtered sent answer
IsSent settings (Some deletes) after dump sent answer =
    (filtered : List ℕ) × IsRunAnswer settings dump filtered answer × IsKeptOf (Some deletes) after filtered sent answer
