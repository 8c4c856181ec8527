use Rattle.std.proofs.Common.{◌≡◌, List, None, Some, true, map, sym, subst}
use Rattle.std.specs.List.{list_all}
use Rattle.dump_index.specs.steps.Listed.{listed_of}
use Rattle.dump_index.specs.declared.change.NodeChange.{NodeChange}
use Rattle.dump_cut.specs.steps.NamedPaths.{has_named_paths}
use Rattle.cut_cli.proofs.FrontLemmas.{taken_named}
use Rattle.cut_cli.specs.declared.read.Unread.TheVariants as unread
use Rattle.cut_cli.proofs.read.in_order.Goals as goal

pub returns-in-Some-clause-known : goal.returns-in-Some-clause-known
returns-in-Some-clause-known c dump known = record {
  named = subst (λ (cs : List NodeChange). list_all has_named_paths (map listed_of cs) ≡ true) (sym c.truncate.ensures.items)
      (taken_named c.args.known.changes.items c.in-Some.place known.named);
  whole = λ none. absurd (let bad : Some (unread.LaterCopy c.index.result.now.record_number) ≡ None = none in cc);
}
