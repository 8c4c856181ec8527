use Rattle.std.proofs.Common.{◌≡◌, ◌+◌, ℕ, List, ◌++◌, ◌∷◌, [], length, Option, ap, ◌∙◌, subst}
use Rattle.dump_text.specs.HeaderBlock.{block_text, lines_bytes}
use Rattle.dump_text.specs.Names.{content_length_name, md5_name, sha1_name}
use Rattle.dump_text.specs.Number.{spelled_number}
use Rattle.dump_history.specs.WrittenNodes.{line, line_of_some, number_line}
use Rattle.dump_changes.specs.steps.MadeTexts.{told_of_file}
use Rattle.dump_expansion.specs.steps.NodeTexts.{file_lines}
use Rattle.dump_expansion.proofs.NodeLemmas.{file_added, line_bytes}
use Rattle.dump_expansion.proofs.written_node.push_file.Goals as goal

pub returns : goal.returns
returns c = λ entries is.
    let props = c.args.block.now in
    let its = told_of_file c.args.text.now in
    let text = its.text in
    let out = c.args.out.now.items in
    let size_is : c.size-text_size.result ≡ length text = c.size-text_size.ensures.size in
    let first = λ (p : List ℕ). file_lines c.args.replaces c.args.path.now (length p) (length text) in
    let md5 = line_of_some md5_name its.md5 in
    let sha1 = line_of_some sha1_name its.sha1 in
    let last = λ (p : List ℕ). number_line content_length_name (length p + length text) in
    subst (λ (p : List ℕ). c.write.new.out.items
    ≡ out ++ (block_text (first p ++ md5 ++ sha1 ++ last p ∷ []) ++ p ++ text)) is
    (file_added out c.push_file_lines.new.out.items c.push_digest.new.out.items c.push_digest-2.new.out.items
    c.push_header.new.out.items c.extend_from_slice.new.self.items c.extend_from_slice-2.new.self.items
    c.write.new.out.items (first props) md5 sha1 (last props) props text
    (c.in_ok-push_file_lines.ensures
    ∙ ap (λ n. out ++ lines_bytes (file_lines c.args.replaces c.args.path.now (length props) n)) size_is)
    (c.in_ok-push_digest.ensures
    ∙ ap (λ (d : Option (List ℕ)). c.push_file_lines.new.out.items ++ lines_bytes (line_of_some md5_name d)) c.md5.ensures)
    (c.in_ok-push_digest-2.ensures
    ∙ ap (λ (d : Option (List ℕ)). c.push_digest.new.out.items ++ lines_bytes (line_of_some sha1_name d)) c.sha1.ensures)
    (c.in_ok-push_header.ensures
    ∙ ap (λ n. c.push_digest-2.new.out.items
    ++ line_bytes (line n (spelled_number (length props + c.size-text_size.result)))) c.bytes.ensures
    ∙ ap (λ n. c.push_digest-2.new.out.items ++ line_bytes (line content_length_name (spelled_number (length props + n)))) size_is)
    c.in_ok-extend_from_slice.ensures.items
    c.in_ok-extend_from_slice-2.ensures.items
    c.in_ok-write.ensures)
