use Rattle.std.proofs.Common.{◌||◌, [], bytes_eq, map, ap, sym, ◌∙◌}
use Rattle.std.specs.List.{list_any}
use Rattle.std.proofs.lemmas.Iterator.Consumers.{YieldsList-end, YieldsList-from_rest}
use Rattle.std.proofs.lemmas.List.Filters.{dedup_is}
use Rattle.dump_index.specs.steps.Children.{is_child_named}
use Rattle.dump_index.specs.steps.Effects.{goes_on}
use Rattle.dump_index.specs.steps.Names.{texts_of}
use Rattle.dump_index.proofs.ChildLemmas.{dedup_named, moved_named}
use Rattle.dump_cut.proofs.DirectoryLemmas.{above_texts, once_ordered}
use Rattle.dump_cut.proofs.RangeLemmas.{shown_twice}
use Rattle.dump_cut.proofs.excluded.Excluded.directories_above.Goals as goal

pub returns-clause-above : goal.returns-clause-above
returns-clause-above c directory =
    let all = YieldsList-end (YieldsList-from_rest c.self.inside.paths.keys c.into_iter-path-iterator.ensures.into_iter_gives.0)
    c.loop-path.yielded _ c.loop-path.yielded_by _ _ c.in-None.is c.next.ensures.steps in
    ap (λ items. is_child_named (texts_of items) directory) (dedup_is _ _ _ c.dedup.ensures.filtered)
    ∙ (dedup_named c.sort_unstable.new.self.items directory
    ∙ (sym (moved_named c.loop-path.directories.items c.sort_unstable.new.self.items c.sort_unstable.ensures.permutation directory)
    ∙ (c.loop-path.invariant directory
    ∙ (ap (λ texts. bytes_eq [] directory || list_any (goes_on directory) texts)
    (shown_twice (λ path. path.items) (λ path. path.now) c.loop-path.yielded
    ∙ (ap (map (λ path. path.items)) all.0 ∙ c.self.view_is))
    ∙ sym (above_texts directory c.args.self.now)))))

pub returns-clause-ordered : goal.returns-clause-ordered
returns-clause-ordered c =
    once_ordered c.sort_unstable.new.self.items c.dedup.new.self.items c.sort_unstable.ensures.sorted
    (dedup_is _ _ _ c.dedup.ensures.filtered)
