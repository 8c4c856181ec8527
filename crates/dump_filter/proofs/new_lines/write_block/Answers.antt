use Rattle.dump_filter.proofs.Prelude.{rules, ◌≡◌, ◌∷◌, [], List, ◌++◌, sym, ap, ◌∙◌, flat_map-append, property_length_name, content_length_name, Header, header_text, lines_bytes, record_item, renewed_lines, added, new_headers}
use Rattle.dump_filter.proofs.written.LineLemmas.{lines_are}
use Rattle.dump_filter.proofs.new_lines.write_block.Goals as goal

lines_append : (hs ks : List Header) → lines_bytes (hs ++ ks) ≡ lines_bytes hs ++ lines_bytes ks
lines_append hs ks = flat_map-append (λ h. header_text h ++ 10 ∷ []) hs ks

pub returns : goal.returns
returns c =
    let headers = (record_item c.args.item.now).headers in
    let changes = c.args.changes.now in
    let old = renewed_lines changes headers in
    let props = added property_length_name changes.props headers in
    let content = added content_length_name changes.content headers in
    let front : lines_bytes old ≡ c.loop-line.out.items = search rules in
    let out : c.push_missing-2.new.out.items ≡ lines_bytes (new_headers changes headers) =
    c.in_ok-push_missing-2.ensures headers c.has_content.ensures
    ∙ ap (λ t. t ++ lines_bytes content) (c.in_ok-push_missing.ensures headers c.has_props.ensures
    ∙ ap (λ t. t ++ lines_bytes props) (sym front) ∙ sym (lines_append old props))
    ∙ sym (lines_append (old ++ props) content) ∙ ap lines_bytes (sym (lines_are changes headers)) in
    c.in_ok-extend_from_slice.ensures.items ∙ ap (λ t. t ++ 10 ∷ []) out
