use Rattle.dump_digest.proofs.Prelude.{◌≡◌, ◌||◌, ◌++◌, ◌∷◌, ℕ, Bool, true, false, Option, List, [], sym, ap, subst, ◌∙◌, inr, MatchOption, Property, IsPropertyBlock, IsEntry, Settings, Merged, entry_property, entry_parts, left_of, property_block_once, Mergeinfo, properties_read, IsSaidBy, is_outside, value_misses, value_foreign, value_reads}
use Rattle.dump_digest.proofs.SaidLemmas.{entry_value, IsSaidUpTo, said_at_first, said_of_other, said_of_value, not_said, said_at_last, unread_value, reads_value}
use Rattle.dump_digest.proofs.node_mergeinfo.Mergeinfo.of.Goals as goal

pub loop-entry-init : goal.loop-entry-init
loop-entry-init c = (
  tt,
  tt,
  λ ps is. (
    ps,
    c.entries-entries.ensures.properties ps is,
    said_at_first c.args.options.now ps c.new-said.result c.new-said.ensures,
  ),
)

pub returns-in_err-said : goal.returns-in_err-said
returns-in_err-said c = λ ps is.
    let p = entry_property c.in-Some.entry in
    let (qs, here, up) = c.loop-entry.invariant.2 ps is in
    let (text, cut, one) = c.in-Some.ensures.steps in
    let left = left_of _ p _ qs (entry_parts _ text _ p cut one) here in
    let named = sym c.is_mergeinfo.ensures ∙ c.if-is_mergeinfo.true in
    let bad = ap value_reads (entry_value c.in-Some.entry)
    ∙ unread_value c.in-Some.entry.value.now c.with.result c.with.ensures.read c.in_err-said.was in
    subst (λ (o : Option Mergeinfo). MatchOption o (properties_read ps ≡ false) (λ m. IsSaidBy c.args.options.now ps m))
    (sym c.from_residual.ensures)
    (not_said c.args.options.now ps qs left.others p c.loop-entry.found c.loop-entry.said left.list named bad up)

-- the result for the properties up to an entry is extended by that entry
said_behind : (s : Settings) (ps : List Property) (text entry rest : List ℕ) (p : Property) (found now : Bool)
    (said next : Merged)
    → text ≡ entry ++ rest → IsEntry entry p
    → ((qs others : List Property) → qs ≡ p ∷ others → IsSaidUpTo s ps qs found said → IsSaidUpTo s ps others now next)
    → (qs : List Property) × IsPropertyBlock text qs × IsSaidUpTo s ps qs found said
    → (qs : List Property) × IsPropertyBlock rest qs × IsSaidUpTo s ps qs now next
said_behind s ps text entry rest p found now said next cut one on (qs, here, up) =
    let left = left_of text p rest qs (entry_parts text entry rest p cut one) here in
    (left.others, inr left.entries, on qs left.others left.list up)

pub loop-entry-preserved-then-is_mergeinfo : goal.loop-entry-preserved-then-is_mergeinfo
loop-entry-preserved-then-is_mergeinfo c =
    let s = c.args.options.now in
    let (text, cut, one) = c.in-Some.ensures.steps in
    let named = sym c.is_mergeinfo.ensures ∙ c.if-is_mergeinfo.true in
    let same = entry_value c.in-Some.entry in
    let reads = ap value_reads same
    ∙ reads_value c.in-Some.entry.value.now c.with.result c.in_ok-said.said c.with.ensures.read c.in_ok-said.was in (
      tt,
      tt,
      λ ps is. said_behind s ps _ text _ (entry_property c.in-Some.entry) _ true _ _ cut one
          (λ qs others list. said_of_value s ps qs others _ _ _ _ list named reads
          (c.in_ok-said.ensures.sources ∙ ap (λ v. c.loop-entry.said.misses || value_misses s v) (sym same))
          (λ first present. c.in_ok-said.ensures.numbers first present
          ∙ ap (λ v. is_outside s first present c.loop-entry.said.numbers || value_foreign s first present v) (sym same)))
          (c.loop-entry.invariant.2 ps is),
    )

pub loop-entry-preserved : goal.loop-entry-preserved
loop-entry-preserved c =
    let s = c.args.options.now in
    let (text, cut, one) = c.in-Some.ensures.steps in
    let other = sym c.is_mergeinfo.ensures ∙ c.if-is_mergeinfo.false in (
      tt,
      tt,
      λ ps is. said_behind s ps _ text _ (entry_property c.in-Some.entry) _ _ _ _ cut one
          (λ qs others list. said_of_other s ps qs others _ _ _ list other) (c.loop-entry.invariant.2 ps is),
    )

pub returns : goal.returns
returns c = λ ps is.
    let (qs, here, up) = c.loop-entry.invariant.2 ps is in
    let none : qs ≡ [] = property_block_once _ qs [] here c.in_default.ensures.steps.0 in
    said_at_last c.args.options.now ps c.loop-entry.found c.loop-entry.said
    (subst (λ (l : List Property). IsSaidUpTo c.args.options.now ps l c.loop-entry.found c.loop-entry.said) none up)
