use Rattle.std.proofs.Common.{◌≡◌, ℕ, List, ◌++◌, ◌∷◌, [], length, codes, sym, ap, ◌∙◌, subst, append_assoc, append-nil}
use Rattle.dump_text.specs.HeaderBlock.{block_text}
use Rattle.dump_text.specs.Names.{path_name, node_kind_name, action_name, property_length_name, content_length_name}
use Rattle.dump_text.specs.Number.{spelled_number}
use Rattle.dump_history.specs.WrittenNodes.{line, making_word, number_line}
use Rattle.dump_expansion.proofs.NodeLemmas.{five_lines, line_bytes}
use Rattle.dump_expansion.proofs.written_node.push_directory.Goals as goal

pub returns : goal.returns
returns c = λ entries is.
    let path = c.args.path.now in
    let word = making_word c.args.replaces in
    let props = c.args.block.now in
    let text = c.args.out.now.items in
    let lines = λ (p : List ℕ). line path_name path ∷ line node_kind_name (codes "dir") ∷ line action_name word
    ∷ number_line property_length_name (length p) ∷ number_line content_length_name (length p) ∷ [] in
    subst (λ (p : List ℕ). c.extend_from_slice-2.new.self.items ≡ text ++ ((block_text (lines p) ++ p) ++ [])) is
    (c.in_ok-extend_from_slice-2.ensures.items
    ∙ ap (λ t. t ++ props)
    (five_lines text c.push_line.new.out.items c.push_line-2.new.out.items c.push_line-3.new.out.items
    c.push_header.new.out.items c.push_header-2.new.out.items c.extend_from_slice.new.self.items
    (line path_name path) (line node_kind_name (codes "dir")) (line action_name word)
    (number_line property_length_name (length props)) (number_line content_length_name (length props))
    c.in_ok-push_line.ensures
    c.in_ok-push_line-2.ensures
    (c.in_ok-push_line-3.ensures
    ∙ ap (λ w. c.push_line-2.new.out.items ++ line_bytes (line action_name w)) c.making_word.ensures)
    (c.in_ok-push_header.ensures
    ∙ ap (λ n. c.push_line-3.new.out.items ++ line_bytes (line n (spelled_number (length props)))) c.bytes.ensures)
    (c.in_ok-push_header-2.ensures
    ∙ ap (λ n. c.push_header.new.out.items ++ line_bytes (line n (spelled_number (length props)))) c.bytes-2.ensures)
    c.in_ok-extend_from_slice.ensures.items)
    ∙ append_assoc text (block_text (lines props)) props
    ∙ sym (ap (λ t. text ++ t) (append-nil (block_text (lines props) ++ props))))
