use Rattle.dump_filter.proofs.Prelude.{◌≡◌, sym, ap, ◌∙◌, record_number, done_record, FilterState}
use Rattle.dump_filter.proofs.knowing.FilterLemmas.{holds, has_room, fault_told, never_refuses, is_read, node_is_read, held_is_revision, accepts, next_knows, knows_as}
use Rattle.dump_filter.proofs.filter.Filter.step.Goals as goal

pub returns-in-Err-clause-rule : goal.returns-in-Err-clause-rule
returns-in-Err-clause-rule c kind =
    let h = holds c.self.inside c.args.self.now c.self.invariant c.self.view_is c.if-not-self.false in
    let (there, back) = fault_told h c.args.done c.requires.options c.in-Err.kind
    (λ ps of. sym c.in-Err.is ∙ c.decide.ensures ps of) kind in (
      (λ is. there (let same : c.in-Err.kind ≡ kind = cc in same)),
      λ bad. let same = back bad in cc,
    )

pub returns-in_default-clause-rule : goal.returns-in_default-clause-rule
returns-in_default-clause-rule c kind =
    let h = holds c.self.inside c.args.self.now c.self.invariant c.self.view_is c.if-not-self.false in
    let none = never_refuses h c.args.done c.requires.options c.in-Ok.fate
    (λ ps of. sym c.in-Ok.is ∙ c.decide.ensures ps of) kind in (
      (λ is. absurd (let bad = is in cc)),
      λ (active, bad). absurd (none bad),
    )

pub returns-clause-rule : goal.returns-clause-rule
returns-clause-rule c kind =
    let h = holds c.self.inside c.args.self.now c.self.invariant c.self.view_is c.if-not-self.false in
    let none = never_refuses h c.args.done c.requires.options c.in-Ok.fate
    (λ ps of. sym c.in-Ok.is ∙ c.decide.ensures ps of) kind in (
      (λ is. absurd (let bad = is in cc)),
      λ (active, bad). absurd (none bad),
    )

pub advance-requires-clause-room : goal.advance-requires-clause-room
advance-requires-clause-room c =
    let h = holds c.self.inside c.args.self.now c.self.invariant c.self.view_is c.if-not-self.false in
    has_room h (record_number (done_record c.args.done)) c.requires.number (done_record c.args.done).counted

pub decide-requires-clause-options : goal.decide-requires-clause-options
decide-requires-clause-options c = c.requires.options ∙ ap (λ (f : FilterState). f.settings) (sym c.self.view_is)

pub advance-requires-clause-node : goal.advance-requires-clause-node
advance-requires-clause-node c =
    let h = holds c.self.inside c.args.self.now c.self.invariant c.self.view_is c.if-not-self.false in
    node_is_read h c.args.done c.requires.options c.in-Ok.fate (λ ps of. sym c.in-Ok.is ∙ c.decide.ensures ps of)

pub advance-requires-clause-revision : goal.advance-requires-clause-revision
advance-requires-clause-revision c =
    let h = holds c.self.inside c.args.self.now c.self.invariant c.self.view_is c.if-not-self.false in
    held_is_revision h c.args.done c.requires.options c.in-Ok.fate (λ ps of. sym c.in-Ok.is ∙ c.decide.ensures ps of)

pub advance-requires-clause-read : goal.advance-requires-clause-read
advance-requires-clause-read c =
    let h = holds c.self.inside c.args.self.now c.self.invariant c.self.view_is c.if-not-self.false in
    is_read h c.args.done c.requires.options c.in-Ok.fate (λ ps of. sym c.in-Ok.is ∙ c.decide.ensures ps of)

pub returns-clause-piece : goal.returns-clause-piece
returns-clause-piece c =
    let h = holds c.self.inside c.args.self.now c.self.invariant c.self.view_is c.if-not-self.false in
    accepts h c.args.done c.requires.options c.in-Ok.fate (λ ps of. sym c.in-Ok.is ∙ c.decide.ensures ps of)
    c.in-Ok-advance.piece c.in-Ok-advance.ensures.piece

pub invariant_of-self-in-Ok-advance : goal.invariant_of-self-in-Ok-advance
invariant_of-self-in-Ok-advance c active =
    let h = holds c.self.inside c.args.self.now c.self.invariant c.self.view_is c.if-not-self.false in
    let next = next_knows h c.args.done c.requires.options c.in-Ok.fate
    (λ ps of. sym c.in-Ok.is ∙ c.decide.ensures ps of)
    c.in-Ok-advance.piece c.in-Ok-advance.ensures.piece c.requires.dump c.requires.number in
    knows_as c.self.inside.options.now _ c.advance.new.self.last _ _ next
    c.in-Ok-advance.ensures.last c.in-Ok-advance.ensures.state
