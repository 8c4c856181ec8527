use Rattle.std.proofs.Common.{◌++◌, [], codes, sym, ap, ◌∙◌, append-nil}
use Rattle.dump_text.specs.HeaderBlock.{block_text}
use Rattle.dump_text.specs.Names.{path_name, node_kind_name, action_name, copy_revision_name, copy_path_name}
use Rattle.dump_text.specs.Number.{spelled_number}
use Rattle.dump_history.specs.WrittenNodes.{WrittenNode, kind_word, line, node_lines, number_line}
use Rattle.dump_expansion.specs.steps.NewNodes.{written_kind}
use Rattle.dump_expansion.proofs.NodeLemmas.{five_lines, line_bytes}
use Rattle.dump_expansion.proofs.written_node.push_copy.Goals as goal

pub returns : goal.returns
returns c =
    let path = c.args.path.now in
    let source = c.args.source.now in
    let kind = written_kind c.args.kind in
    let block = block_text (node_lines (WrittenNode.Copy kind c.args.revision source path)) in
    five_lines c.args.out.now.items c.push_line.new.out.items c.push_line-2.new.out.items c.push_line-3.new.out.items
    c.push_header.new.out.items c.push_line-4.new.out.items c.extend_from_slice.new.self.items
    (line path_name path) (line node_kind_name (kind_word kind)) (line action_name (codes "add"))
    (number_line copy_revision_name c.args.revision) (line copy_path_name source)
    c.in_ok-push_line.ensures
    (c.in_ok-push_line-2.ensures
    ∙ ap (λ w. c.push_line.new.out.items ++ line_bytes (line node_kind_name w)) c.kind_word.ensures)
    c.in_ok-push_line-3.ensures
    (c.in_ok-push_header.ensures
    ∙ ap (λ n. c.push_line-3.new.out.items ++ line_bytes (line n (spelled_number c.args.revision))) c.bytes.ensures)
    c.in_ok-push_line-4.ensures
    c.in_ok-extend_from_slice.ensures.items
    ∙ sym (ap (λ t. c.args.out.now.items ++ t) (append-nil (block ++ []) ∙ append-nil block))
