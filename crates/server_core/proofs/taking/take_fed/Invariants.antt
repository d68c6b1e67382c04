use Rattle.std.proofs.Common.{◌≡◌, length, false}
use Rattle.server_core.specs.Served.{ServedExchange}
use Rattle.server_core.specs.Stands.{Stands, conn_of}
use Rattle.server_core.specs.HoldsWorld.{HoldsWorld, IsConnected}
use Rattle.connections.specs.Clear.{IsClear}
use Rattle.server_core.specs.Taking.{TakesSome, KeepsDevice}
use Rattle.server_core.proofs.taking.take_fed.Given as goal

abbrev pub invariant-loop : goal.invariant-loop
invariant-loop l = record {
  device : KeepsDevice l.initial.device l.device;
  connected : IsConnected l.device l.session;
  queue : IsClear l.queue;
  opened : l.closes ≡ false;
  takes : (x : ServedExchange) → HoldsWorld l.initial.device x.world
      → Stands x.world.plant (conn_of l.initial.stream l.initial.session l.initial.queue l.initial.closes) x.connection
      → TakesSome (conn_of l.stream l.session l.queue l.closes) l.device l.initial.summary l.summary x;
}

abbrev pub decreases-loop : goal.decreases-loop
decreases-loop l = length l.stream.rest
