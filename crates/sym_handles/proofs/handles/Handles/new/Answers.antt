-- Nothing is kept.
use Rattle.std.proofs.Common.{List, [], sym, ap, subst}
use Rattle.sym_handles.specs.declared.entries.Entry.{Entry}
use Rattle.sym_handles.specs.Kept.{Kept, KeptHandle}
use Rattle.sym_handles.specs.History.{Represents}
use Rattle.sym_handles.specs.Records.{all_held}
use Rattle.sym_handles.proofs.Histories.{represents_nothing}
use Rattle.sym_handles.proofs.handles.Handles.new.Goals as goal

pub returns-clause-nothing : goal.returns-clause-nothing
returns-clause-nothing c =
    subst (λ (es : List Entry). Represents (record { granted = 0; handles = all_held c.new.result.slots es }) []) (sym c.new-2.ensures.items) represents_nothing

pub returns-clause-kept : goal.returns-clause-kept
returns-clause-kept c = ap (λ (es : List Entry). kept_of (all_held c.new.result.slots es)) c.new-2.ensures.items
  where
    kept_of : List KeptHandle → Kept
    kept_of hs = record { granted = 0; handles = hs }
