-- Counts that do not fall, call by call; and some cases of an answer.
use Rattle.std.proofs.Common.{◌≡◌, ◌≤◌, ◌∙◌, refl, Option, Some, None}
use Rattle.std.proofs.Math.Nat.{le_refl, le_trans}
use Rattle.std.specs.Prelude.{Result, Ok, Err, IfOk, MatchOption}
use Rattle.ads_base.specs.declared.no_memory.NoMemory.{NoMemory}
use Rattle.ads_outside.specs.LinkState.{LinkState, LinkNeverFalls}
use Rattle.ads_outside.specs.SinkState.{SinkState, NeverFalls}
use Rattle.sample_store.specs.Keeper.{KeeperState}
use Rattle.client_loop.specs.Outlets.{Outlets, outlets, IsLater}
use Rattle.client_loop.specs.declared.turning.Turned.{Turned}

pub link_same : (a : LinkState) → LinkNeverFalls a a
link_same a = record { moment = le_refl a.history.moment; faults = le_refl a.faults }

pub link_then : (a b c : LinkState) → LinkNeverFalls a b → LinkNeverFalls b c → LinkNeverFalls a c
link_then a b c x y = record { moment = le_trans x.moment y.moment; faults = le_trans x.faults y.faults }

pub sink_same : (a : SinkState) → NeverFalls a a
sink_same a = record { faults = le_refl a.faults; wants = le_refl a.wants }

pub sink_then : (a b c : SinkState) → NeverFalls a b → NeverFalls b c → NeverFalls a c
sink_then a b c x y = record { faults = le_trans x.faults y.faults; wants = le_trans x.wants y.wants }

pub out_same : (a : Outlets) → IsLater a a
out_same a = record { sink = sink_same a.sink; keeper = le_refl a.keeper.faults; names = refl }

pub out_then : (a b c : Outlets) → IsLater a b → IsLater b c → IsLater a c
out_then a b c x y = record { sink = sink_then a.sink b.sink c.sink x.sink y.sink; keeper = le_trans x.keeper y.keeper; names = y.names ∙ x.names }

-- only the sink, or only the keeper, was called
pub sink_later : (a b : SinkState) (k : KeeperState) → NeverFalls a b → IsLater (outlets a k) (outlets b k)
sink_later a b k x = record { sink = x; keeper = le_refl k.faults; names = refl }

pub keeper_later : (a : SinkState) (j k : KeeperState) → j.faults ≤ k.faults → k.names ≡ j.names → IsLater (outlets a j) (outlets a k)
keeper_later a j k x same = record { sink = sink_same a; keeper = x; names = same }

-- a number that fell, whatever is told
pub falls_told : (result : Result (Option Turned) NoMemory) (P : Type 0) → P → IfOk result (λ told. MatchOption told P (λ turned. Unit {0}))
falls_told (Ok None) P p = p
falls_told (Ok (Some t)) P p = tt
falls_told (Err e) P p = tt
