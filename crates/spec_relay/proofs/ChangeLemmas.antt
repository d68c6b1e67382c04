-- What a change of one connection does to the connection of a number.
use Rattle.std.proofs.Common.{◌≡◌, ◌≢◌, ℕ, List, [], ◌∷◌, ◌++◌, Bool, true, false, cond, refl, sym, subst, ◌∙◌, ap, inl, inr}
use Rattle.std.specs.Prelude.{Option, Some, None, option_map, ◌==◌}
use Rattle.std.proofs.lemmas.Bool.{cases_eq}
use Rattle.spec_machine.specs.Connection.{connection_of}
use Rattle.spec_machine.specs.MachineState.{Exchange, after_exchange}
use Rattle.spec_machine.proofs.Changes.{KeepsNumber, exchange_own, exchange_other, exchange_none}
use Rattle.spec_machine.proofs.Find.{or_else, connection_of-append}
use Rattle.spec_relay.specs.RelayState.{RelayWorld, Owned, RelayConnection, RelayState}
use Rattle.spec_relay.specs.Routing.{at_connection}

-- a view of the connection of a number that a change keeps
pub exchange-keeps : {V : Type 0} (view : Option RelayConnection → V) (n d : ℕ) (f : Exchange RelayWorld Owned → Exchange RelayWorld Owned) → KeepsNumber f
    → ((x : Exchange RelayWorld Owned) → view (Some (f x).connection) ≡ view (Some x.connection)) → (s : RelayState)
    → view (connection_of d (after_exchange (connection_of n s.connections) f s).connections) ≡ view (connection_of d s.connections)
exchange-keeps {V} view n d f same keeps s = elim (cases_eq n d) [
  | inr ne ↦ ap view (exchange_other d n f same ne s)
  | inl q ↦
      let P : ℕ → Type 0 = λ i. view (connection_of d (after_exchange (connection_of i s.connections) f s).connections)
      ≡ view (connection_of d s.connections) in
      subst P (sym q) (own (connection_of d s.connections) refl)
]
  where
    own : (o : Option RelayConnection) → connection_of d s.connections ≡ o
        → view (connection_of d (after_exchange (connection_of d s.connections) f s).connections) ≡ view (connection_of d s.connections)
    own None e = ap (λ (u : RelayState). view (connection_of d u.connections)) (exchange_none d f s e)
    own (Some k) e = ap view (exchange_own d f same s k e) ∙ keeps (record { world = s.world; connection = k }) ∙ ap view (sym e)

-- the connection that is changed, and any other
pub changed-own : (d : ℕ) (change : RelayConnection → RelayConnection) → ((k : RelayConnection) → (change k).number ≡ k.number) → (s : RelayState)
    → connection_of d (at_connection d change s).connections ≡ option_map change (connection_of d s.connections)
changed-own d change same s = own (connection_of d s.connections) refl
  where
    f : Exchange RelayWorld Owned → Exchange RelayWorld Owned
    f x = record x { connection = change x.connection }

    same_number : KeepsNumber f
    same_number x = same x.connection

    own : (o : Option RelayConnection) → connection_of d s.connections ≡ o → connection_of d (at_connection d change s).connections ≡ option_map change o
    own None e = ap (λ (u : RelayState). connection_of d u.connections) (exchange_none d f s e) ∙ e
    own (Some k) e = exchange_own d f same_number s k e

pub changed-other : (n d : ℕ) (change : RelayConnection → RelayConnection) → ((k : RelayConnection) → (change k).number ≡ k.number) → n ≢ d → (s : RelayState)
    → connection_of d (at_connection n change s).connections ≡ connection_of d s.connections
changed-other n d change same ne s =
    exchange_other d n (λ (x : Exchange RelayWorld Owned). record x { connection = change x.connection }) (λ x. same x.connection) ne s

pub change-keeps : {V : Type 0} (view : Option RelayConnection → V) (n d : ℕ) (change : RelayConnection → RelayConnection)
    → ((k : RelayConnection) → (change k).number ≡ k.number)
    → ((k : RelayConnection) → view (Some (change k)) ≡ view (Some k)) → (s : RelayState)
    → view (connection_of d (at_connection n change s).connections) ≡ view (connection_of d s.connections)
change-keeps view n d change same keeps s =
    exchange-keeps view n d (λ (x : Exchange RelayWorld Owned). record x { connection = change x.connection })
    (λ x. same x.connection) (λ x. keeps x.connection) s

-- a change of a connection is none of the world
pub world-exchange : (n : ℕ) (f : Exchange RelayWorld Owned → Exchange RelayWorld Owned) → ((x : Exchange RelayWorld Owned) → (f x).world ≡ x.world)
    → (s : RelayState) → (after_exchange (connection_of n s.connections) f s).world ≡ s.world
world-exchange n f same s = go (connection_of n s.connections)
  where
    go : (o : Option RelayConnection) → (after_exchange o f s).world ≡ s.world
    go None = refl
    go (Some k) = same (record { world = s.world; connection = k })

pub world-change : (n : ℕ) (change : RelayConnection → RelayConnection) (s : RelayState) → (at_connection n change s).world ≡ s.world
world-change n change s = world-exchange n (λ (x : Exchange RelayWorld Owned). record x { connection = change x.connection }) (λ x. refl) s

-- a view that a fresh connection shares with none
pub opened-keeps : {V : Type 0} (view : Option RelayConnection → V) (d : ℕ) (ks : List RelayConnection) (fresh : RelayConnection)
    → view (Some fresh) ≡ view None → view (connection_of d (ks ++ fresh ∷ [])) ≡ view (connection_of d ks)
unfolding connection_of
opened-keeps {V} view d ks fresh same = ap view (connection_of-append d ks (fresh ∷ [])) ∙ go (connection_of d ks)
  where
    one : (b : Bool) → view (cond b (Some fresh) None) ≡ view None
    one true = same
    one false = refl

    go : (o : Option RelayConnection) → view (or_else o (connection_of d (fresh ∷ []))) ≡ view o
    go (Some k) = refl
    go None = one (fresh.number == d)
