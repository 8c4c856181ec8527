use Rattle.std.proofs.Common.{refl}
use Rattle.cut_cli.proofs.examine.prepare.Goals as goal

pub returns : goal.returns
returns g c = (
  record {
    copies = rw c.in-Ok.is at c.in_ok-deletes.ensures;
    apart = c.in_ok-options.ensures.apart;
    excludes = c.in_ok-options.ensures.excludes;
    have_names = c.in_ok-options.ensures.named;
    empties = c.in_ok-options.ensures.revisions.0;
    numbers = c.in_ok-options.ensures.revisions.1;
    preserves = c.in_ok-options.ensures.revisions.2;
    skips = c.in_ok-options.ensures.skips;
  },
  refl,
)
