-- The bytes of written nodes, and which of them can be written.
use Rattle.std.proofs.Common.{◌≡◌, ℕ, false, not, ◌&&◌, List, [], ◌∷◌, ◌++◌, map, refl, sym, ap, ◌∙◌, append-nil, append_assoc}
use Rattle.std.proofs.lemmas.Grind.{flat_map-append}
use Rattle.std.proofs.lemmas.List.Folds.{list_all-map}
use Rattle.std.specs.List.{list_all}
use Rattle.dump_text.specs.HeaderBlock.{block_text, lines_bytes}
use Rattle.dump_text.specs.HeaderLine.{Header, has_byte, header_text}
use Rattle.dump_text.specs.PropertyList.{Property, has_deletes}
use Rattle.dump_history.specs.WrittenNodes.{are_plain_entries}
use Rattle.dump_changes.specs.steps.ChangedProperties.{as_property}
use Rattle.dump_changes.specs.declared.property_edit.NodeProperty.{NodeProperty}
use Rattle.std.proofs.Math.Bool.{and-true}

-- properties that are set are plain if their names are
none_deleted : (entries : List NodeProperty) → has_deletes (map as_property entries) ≡ false
none_deleted [] = refl
none_deleted (entry ∷ entries) = none_deleted entries

pub plain_entries : (entries : List NodeProperty) → are_plain_entries (map as_property entries)
    ≡ list_all (λ (entry : NodeProperty). not (has_byte 0 entry.name.now)) entries
plain_entries entries =
    ap (λ b. list_all (λ (p : Property). not (has_byte 0 p.name)) (map as_property entries) && not b)
    (none_deleted entries)
    ∙ and-true (list_all (λ (p : Property). not (has_byte 0 p.name)) (map as_property entries))
    ∙ list_all-map (λ (p : Property). not (has_byte 0 p.name)) as_property entries

-- the bytes of a line
abbrev pub line_bytes : Header → List ℕ
line_bytes h = header_text h ++ 10 ∷ []

-- five lines that are added one after another
pub five_added : (text t1 t2 t3 t4 more : List ℕ) (a b c d e : Header)
    → t1 ≡ text ++ line_bytes a → t2 ≡ t1 ++ line_bytes b → t3 ≡ t2 ++ line_bytes c → t4 ≡ t3 ++ line_bytes d
    → more ≡ t4 ++ line_bytes e
    → more ≡ text ++ lines_bytes (a ∷ b ∷ c ∷ d ∷ e ∷ [])
five_added text t1 t2 t3 t4 more a b c d e first second third fourth last =
    last
    ∙ ap (λ t. t ++ line_bytes e) (fourth ∙ ap (λ t. t ++ line_bytes d)
    (third ∙ ap (λ t. t ++ line_bytes c) (second ∙ ap (λ t. t ++ line_bytes b) first)))
    ∙ joined text (line_bytes a) (line_bytes b) (line_bytes c) (line_bytes d) (line_bytes e)
  where
    joined : (t a b c d e : List ℕ) → ((((t ++ a) ++ b) ++ c) ++ d) ++ e
        ≡ t ++ (a ++ (b ++ (c ++ (d ++ (e ++ [])))))
    joined t a b c d e = simp (append_assoc, append-nil)

-- five lines and an empty line are a block
pub five_lines : (text t1 t2 t3 t4 t5 more : List ℕ) (a b c d e : Header)
    → t1 ≡ text ++ line_bytes a → t2 ≡ t1 ++ line_bytes b → t3 ≡ t2 ++ line_bytes c → t4 ≡ t3 ++ line_bytes d
    → t5 ≡ t4 ++ line_bytes e → more ≡ t5 ++ 10 ∷ []
    → more ≡ text ++ block_text (a ∷ b ∷ c ∷ d ∷ e ∷ [])
five_lines text t1 t2 t3 t4 t5 more a b c d e first second third fourth fifth last =
    last
    ∙ ap (λ t. t ++ 10 ∷ []) (five_added text t1 t2 t3 t4 t5 a b c d e first second third fourth fifth)
    ∙ append_assoc text (lines_bytes (a ∷ b ∷ c ∷ d ∷ e ∷ [])) (10 ∷ [])

-- lines, perhaps lines of digests, one more, an empty one, properties and a text are the text of a file
pub file_added : (out t1 t2 t3 t4 t5 t6 more : List ℕ) (first md5 sha1 : List Header) (last : Header) (props text : List ℕ)
    → t1 ≡ out ++ lines_bytes first → t2 ≡ t1 ++ lines_bytes md5 → t3 ≡ t2 ++ lines_bytes sha1
    → t4 ≡ t3 ++ line_bytes last → t5 ≡ t4 ++ 10 ∷ [] → t6 ≡ t5 ++ props → more ≡ t6 ++ text
    → more ≡ out ++ (block_text (first ++ md5 ++ sha1 ++ last ∷ []) ++ props ++ text)
file_added out t1 t2 t3 t4 t5 t6 more first md5 sha1 last props text one two three four five six seven =
    seven
    ∙ ap (λ t. t ++ text) (six ∙ ap (λ t. t ++ props) (five ∙ ap (λ t. t ++ 10 ∷ [])
    (four ∙ ap (λ t. t ++ line_bytes last) (three ∙ ap (λ t. t ++ lines_bytes sha1)
    (two ∙ ap (λ t. t ++ lines_bytes md5) one)))))
    ∙ joined out (lines_bytes first) (lines_bytes md5) (lines_bytes sha1) (line_bytes last) (10 ∷ []) props text
    ∙ sym (ap (λ ls. out ++ (ls ++ 10 ∷ [] ++ props ++ text)) lines)
  where
    joined : (t a b c d e f g : List ℕ) → ((((((t ++ a) ++ b) ++ c) ++ d) ++ e) ++ f) ++ g
        ≡ t ++ ((((((a ++ b) ++ c) ++ (d ++ [])) ++ e) ++ f) ++ g)
    joined t a b c d e f g = simp (append_assoc, append-nil)

    lines : lines_bytes (first ++ md5 ++ sha1 ++ last ∷ [])
        ≡ lines_bytes first ++ lines_bytes md5 ++ lines_bytes sha1 ++ (line_bytes last ++ [])
    lines =
        flat_map-append line_bytes (first ++ md5 ++ sha1) (last ∷ [])
        ∙ ap (λ ls. ls ++ (line_bytes last ++ []))
        (flat_map-append line_bytes (first ++ md5) sha1
        ∙ ap (λ ls. ls ++ lines_bytes sha1) (flat_map-append line_bytes first md5))
