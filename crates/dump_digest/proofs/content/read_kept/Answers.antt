use Rattle.dump_digest.proofs.Prelude.{◌∙◌, ◌↔◌, Bool, IsFalse, subst, sym, record_item, first_true, is_node, HasBadMergeinfo}
use Rattle.dump_digest.proofs.VerdictLemmas.{kept_verdict, found_properties}
use Rattle.dump_digest.proofs.SaidLemmas.{merge_told, values_told, asked_kept, said_read, same_mergeinfo}
use Rattle.dump_digest.proofs.content.read_kept.Goals as goal

pub has_lost_source-requires : goal.has_lost_source-requires
has_lost_source-requires c = first_true (is_node (record_item c.args.item.now)) _ c.requires

pub returns : goal.returns
returns c =
    let s = c.args.options.now in
    let r = record_item c.args.item.now in
    let kept = c.requires in
    let found = c.properties_of-props.result in
    let read = c.properties_of-props.ensures in
    let said = c.mergeinfo_of-mergeinfo.ensures in
    let told = merge_told s r found c.mergeinfo_of-mergeinfo.result kept read.found read.bytes said.some said.none in
    record {
      verdict_is = kept_verdict s r _ kept
          (found_properties r found c.is_some.result c.is_some.ensures read.found)
          c.text_check-text.ensures.md5
          c.text_check-text.ensures.sha1
          (subst (λ (b : Bool). IsFalse b ↔ ∥ HasBadMergeinfo s r ∥₁) (sym c.is_some-2.ensures) told)
          c.text_check-text.ensures.checked;
      kept_is = sym kept;
      asked = asked_kept s r c.reading_of.result c.is_some.result kept (c.is_some.ensures ∙ sym c.reading_of.ensures.found);
      reading = c.reading_of.ensures.reading r.props read.bytes;
      said = λ k ok ps block. said_read s ps c.mergeinfo_of-mergeinfo.result c.none.result _
          (values_told s r found c.mergeinfo_of-mergeinfo.result read.found read.bytes said.some ps block)
          (sym c.is_some-2.ensures ∙ ok)
          (same_mergeinfo c.unwrap_or-said.result c.misses_source.result c.numbers.result c.misses_source.ensures c.numbers.ensures
          ∙ c.unwrap_or-said.ensures);
      lost = λ k. c.has_lost_source.ensures;
    }
