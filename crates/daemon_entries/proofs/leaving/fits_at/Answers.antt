-- The one at the place is one of them.
use Rattle.std.proofs.Common.{sym, ◌∙◌}
use Rattle.persist_store.specs.Entries.{entry_meant}
use Rattle.daemon_entries.specs.LeftOut.{fits}
use Rattle.daemon_entries.proofs.AnyLemmas.{any_at}
use Rattle.daemon_entries.proofs.leaving.fits_at.Goals as goal

pub returns-then-at-kept : goal.returns-then-at-kept
returns-then-at-kept c = λ is.
    any_at (fits (entry_meant c.args.entry.now)) entry_meant c.args.kept.now c.args.at _ c.if-at-kept.true (sym c.fits.ensures ∙ is)
