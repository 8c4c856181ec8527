-- What is written for a record, from its parts.
use Rattle.dump_filter.proofs.Prelude.{◌≡◌, ℕ, Bool, false, List, ◌++◌, ap, sym, ◌∙◌, subst, append_assoc, codes, Some, None, revision_name, Header, block_text, Property, DumpRecord, CopyChange, Same, Changes, with_lengths, revision_properties, new_block, AreLengths, new_record, whole_text, copied_headers, revision_own, node_own, put_all}
use Rattle.dump_filter.proofs.written.LineLemmas.{lengths_are}

-- the lines, and what follows them
pub lines_out : (old lines props text end one new : List ℕ) → one ≡ old ++ lines → new ≡ one ++ (props ++ text ++ end)
    → new ≡ old ++ (lines ++ props ++ text ++ end)
lines_out old lines props text end one new one_is new_is =
    new_is ∙ ap (λ t. t ++ (props ++ text ++ end)) one_is ∙ append_assoc old lines (props ++ text ++ end)
    ∙ ap (λ t. old ++ t)
    (sym (append_assoc lines (props ++ text) end) ∙ ap (λ t. t ++ end) (sym (append_assoc lines props text)))

-- a record whose lines have the lengths of what follows them
record_is : (c : Changes) (r : DumpRecord) (lines : List Header) (bytes props text : List ℕ)
    → put_all revision_name c.revision (copied_headers c.copy r.headers) ≡ lines
    → AreLengths bytes text c → text ≡ r.text → bytes ≡ props
    → new_record c r.headers bytes r.text ≡ whole_text lines props r.text
record_is c r lines bytes props text lines_are lengths text_is bytes_are =
    ap (λ (h : List Header). block_text h ++ bytes ++ r.text)
    (lengths_are c r.headers bytes r.text (subst (λ t. AreLengths bytes t c) text_is lengths)
    ∙ ap (with_lengths bytes r.text) lines_are)
    ∙ ap (λ b. whole_text lines b r.text) bytes_are

-- a revision's changed lines, new properties and text are the revision under its new number
pub revision_is : (c : Changes) (r : DumpRecord) (number : ℕ) (padded : Bool) (bytes text : List ℕ) (ps : List Property)
    → c.revision ≡ Some number → c.copy ≡ Same → AreLengths bytes text c → text ≡ r.text
    → bytes ≡ new_block padded r (revision_properties padded ps)
    → new_record c r.headers bytes r.text ++ codes "\n" ≡ revision_own r number padded ps
revision_is c r number padded bytes text ps revision copy lengths text_is bytes_are =
    ap (λ t. t ++ codes "\n")
    (record_is c r _ bytes _ text (λ i. put_all revision_name (revision i) (copied_headers (copy i) r.headers))
    lengths text_is bytes_are)

-- a node's changed lines, new properties and text are the node with its new copy source
pub node_is : (c : Changes) (r : DumpRecord) (copy : CopyChange) (bytes text : List ℕ) (ps : List Property)
    → c.revision ≡ None → c.copy ≡ copy → AreLengths bytes text c → text ≡ r.text → bytes ≡ new_block false r ps
    → new_record c r.headers bytes r.text ++ codes "\n\n" ≡ node_own r copy ps
node_is c r copy bytes text ps revision copy_is lengths text_is bytes_are =
    ap (λ t. t ++ codes "\n\n")
    (record_is c r _ bytes _ text (λ i. put_all revision_name (revision i) (copied_headers (copy_is i) r.headers))
    lengths text_is bytes_are)
