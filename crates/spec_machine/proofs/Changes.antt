-- What a move does to the connection of a number: nothing, or a change of that connection.
use Rattle.std.proofs.Common.{◌≡◌, ◌≢◌, ℕ, List, [], ◌∷◌, ◌++◌, true, false, cond, refl, sym, ◌∙◌, subst}
use Rattle.std.specs.Prelude.{Option, Some, None, ◌+◌}
use Rattle.ads_outside.specs.declared.moves.Move.{Move}
use Rattle.spec_machine.specs.Connection.{Connection, connection_of}
use Rattle.spec_machine.specs.MachineState.{MachineState, Exchange, exchange_of, after_exchange}
use Rattle.spec_machine.specs.Moves.{EventStep, with_gone, with_took, state_after_move, state_after}
use Rattle.spec_machine.proofs.Find.{number_of_found, connection_of-put_same, connection_of-put_other}

-- a change of an exchange that leaves the connection's number
abbrev pub KeepsNumber : {W C : Type 0} → (Exchange W C → Exchange W C) → Type 0
KeepsNumber {W} {C} f = (x : Exchange W C) → (f x).connection.number ≡ x.connection.number

-- the connection of a number after an exchange with it
pub exchange_own : {W C : Type 0} (c : ℕ) (f : Exchange W C → Exchange W C) → KeepsNumber f → (s : MachineState W C) (k : Connection C)
    → connection_of c s.connections ≡ Some k
    → connection_of c (after_exchange (connection_of c s.connections) f s).connections ≡ Some (f (exchange_of s k)).connection
exchange_own {W} {C} c f same s k e =
    let P : Option (Connection C) → Type 0 = λ o. connection_of c (after_exchange o f s).connections ≡ Some (f (exchange_of s k)).connection in
    subst P (sym e) (connection_of-put_same c (f (exchange_of s k)).connection k s.connections e (same (exchange_of s k) ∙ number_of_found c k s.connections e))

-- after an exchange with another
pub exchange_other : {W C : Type 0} (c n : ℕ) (f : Exchange W C → Exchange W C) → KeepsNumber f → n ≢ c → (s : MachineState W C)
    → connection_of c (after_exchange (connection_of n s.connections) f s).connections ≡ connection_of c s.connections
exchange_other {W} {C} c n f same ne s = go (connection_of n s.connections) refl
  where
    go : (o : Option (Connection C)) → connection_of n s.connections ≡ o → connection_of c (after_exchange o f s).connections ≡ connection_of c s.connections
    go None e = refl
    go (Some k) e =
        let m = number_of_found n k s.connections e in
        connection_of-put_other c (f (exchange_of s k)).connection s.connections (λ x. ne (sym m ∙ sym (same (exchange_of s k)) ∙ x))

-- no connection of that number is there
pub exchange_none : {W C : Type 0} (n : ℕ) (f : Exchange W C → Exchange W C) (s : MachineState W C)
    → connection_of n s.connections ≡ None → after_exchange (connection_of n s.connections) f s ≡ s
exchange_none {W} {C} n f s e =
    let P : Option (Connection C) → Type 0 = λ o. after_exchange o f s ≡ s in
    subst P (sym e) refl

pub with_gone-number : {W C : Type 0} → KeepsNumber {W = W} {C = C} with_gone
with_gone-number x = refl

pub with_took-number : {W C : Type 0} (n : ℕ) → KeepsNumber {W = W} {C = C} (with_took n)
with_took-number {W} {C} n x = go x.connection.gone
  where
    go : (b : _) → (cond b x (record x { connection = record x.connection { bytes_taken = x.connection.bytes_taken + n } })).connection.number
        ≡ x.connection.number
    go true = refl
    go false = refl

pub state_after-append : {W C : Type 0} (step : EventStep W C) (ms ns : List Move) (s : MachineState W C)
    → state_after step s (ms ++ ns) ≡ state_after step (state_after step s ms) ns
unfolding state_after
state_after-append step [] ns s = refl
state_after-append step (m ∷ ms) ns s = state_after-append step ms ns (state_after_move step s m)
