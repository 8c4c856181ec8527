use Rattle.std.proofs.Common.{◌++◌, codes, ap, ◌∙◌}
use Rattle.dump_text.specs.Names.{path_name, node_kind_name, action_name, property_length_name, text_length_name}
use Rattle.dump_text.specs.Number.{spelled_number}
use Rattle.dump_history.specs.WrittenNodes.{line, making_word, number_line}
use Rattle.dump_expansion.proofs.NodeLemmas.{five_added, line_bytes}
use Rattle.dump_expansion.proofs.written_node.push_file_lines.Goals as goal

pub returns : goal.returns
returns c =
    let path = c.args.path.now in
    let word = making_word c.args.replaces in
    let props = c.args.block_size in
    let text = c.args.text_size in
    five_added c.args.out.now.items c.push_line.new.out.items c.push_line-2.new.out.items c.push_line-3.new.out.items
    c.push_header.new.out.items c.push_header-2.new.out.items
    (line path_name path) (line node_kind_name (codes "file")) (line action_name word)
    (number_line property_length_name props) (number_line text_length_name text)
    c.in_ok-push_line.ensures
    c.in_ok-push_line-2.ensures
    (c.in_ok-push_line-3.ensures
    ∙ ap (λ w. c.push_line-2.new.out.items ++ line_bytes (line action_name w)) c.making_word.ensures)
    (c.in_ok-push_header.ensures
    ∙ ap (λ n. c.push_line-3.new.out.items ++ line_bytes (line n (spelled_number props))) c.bytes.ensures)
    (c.in_ok-push_header-2.ensures
    ∙ ap (λ n. c.push_header.new.out.items ++ line_bytes (line n (spelled_number text))) c.bytes-2.ensures)
