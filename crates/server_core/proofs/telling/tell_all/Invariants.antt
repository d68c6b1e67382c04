use Rattle.std.proofs.Common.{◌≡◌, ◌<◌, ◌≤◌, ℕ, length, get_or}
use Rattle.spec_machine.specs.World.{World}
use Rattle.spec_machine.specs.Reloads.{client_reloaded}
use Rattle.server_core.specs.declared.turned.Turned.{Turned}
use Rattle.server_core.specs.Asked.{IsAsked}
use Rattle.session.specs.Reloading.{AreMoves}
use Rattle.server_core.proofs.telling.tell_all.Given as goal

abbrev pub invariant-loop-i : goal.invariant-loop-i
invariant-loop-i l = record {
  many : length l.list ≡ length l.initial.list;
  others : (k : ℕ) (d : Turned) → l.i ≤ k → get_or l.list k d ≡ get_or l.initial.list k d;
  asked : (w v : World) → AreMoves w.plant v.plant l.moves l.ports → w.plant.net ≡ l.net.bytes
      → (k : ℕ) (d : Turned) → k < l.i → IsAsked w.plant v.plant (client_reloaded l.time w v) (get_or l.initial.list k d) (get_or l.list k d);
}
