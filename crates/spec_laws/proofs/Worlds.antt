-- Two runs that a connection sees alike: its own alone, and that with all others. Each kind of move of the connection is
-- made in both (`own`), a move of another in the second alone (`other`); `runs` is the induction over the log.
use Rattle.std.proofs.Common.{◌≡◌, ◌≢◌, ℕ, List, [], ◌∷◌, ◌++◌, map, refl, sym, ◌∙◌, ap, subst, inl, inr}
use Rattle.std.specs.Prelude.{Option, Some, None, ◌==◌, option_map}
use Rattle.std.proofs.lemmas.Bool.{cases_Bool}
use Rattle.spec_plant.specs.World.{ByteName}
use Rattle.spec_machine.specs.Connection.{Connection, fresh_connection, connection_of}
use Rattle.spec_machine.specs.MachineState.{MachineState, Exchange, exchange_of, after_exchange}
use Rattle.spec_machine.specs.Piece.{after_piece}
use Rattle.spec_machine.specs.Moves.{with_gone, with_took}
use Rattle.spec_machine.specs.World.{World}
use Rattle.spec_machine.specs.Client.{Client, new_client}
use Rattle.spec_machine.specs.Acts.{reads_of_acts, writes_of_acts}
use Rattle.spec_machine.specs.AdsDevice.{DescriptionReading, ads_device}
use Rattle.spec_machine.specs.Projection.{acts_at}
use Rattle.spec_machine.proofs.Find.{or_else, test_other, connection_of-append, connection_of-map}
use Rattle.spec_machine.proofs.Growth.{after_piece-grows}
use Rattle.spec_machine.proofs.Changes.{KeepsNumber, exchange_own, exchange_other, exchange_none}
use Rattle.spec_laws.proofs.Memory.{Agree, agree-back}
use Rattle.spec_laws.proofs.Footprints.{Each, Not}
use Rattle.spec_laws.proofs.Exchanges.{WatchesIn, with_memory, Same, over, piece-same, Passes, piece-outside}

-- the connection watches names of R alone
abbrev MaybeIn : (ByteName → Type 0) → Option (Connection Client) → Type 0
MaybeIn R None = Unit {0}
MaybeIn R (Some k) = WatchesIn R k.client

-- a is the run of the connection alone, s that with all others: the worlds differ in bytes that are not of R
pub record SameForClient (R : ByteName → Type 0) (c : ℕ) (a s : MachineState World Client) : Type 0 where
  pub world : s.world ≡ with_memory s.world.memory a.world
  pub moment : s.moment ≡ a.moment
  pub memory : Agree R a.world.memory s.world.memory
  pub connection : connection_of c a.connections ≡ connection_of c s.connections
  pub watches : MaybeIn R (connection_of c a.connections)

-- a move of one connection

-- what two changes make of one connection in the two worlds
abbrev SameChange : (ByteName → Type 0) → (Exchange World Client → Exchange World Client)
    → (Exchange World Client → Exchange World Client) → MachineState World Client → MachineState World Client → Connection Client → Type 0
SameChange R f g a s k = WatchesIn R k.client → Same R (f (exchange_of a k)) (g (exchange_of s k))

abbrev SeenBoth : (ByteName → Type 0) → ℕ → (Exchange World Client → Exchange World Client)
    → (Exchange World Client → Exchange World Client) → MachineState World Client → MachineState World Client → Type 0
SeenBoth R c f g a s = SameForClient R c (after_exchange (connection_of c a.connections) f a) (after_exchange (connection_of c s.connections) g s)

at-same : (R : ByteName → Type 0) (c : ℕ) (f g : Exchange World Client → Exchange World Client)
    → KeepsNumber f → KeepsNumber g → (a s : MachineState World Client) → SameForClient R c a s
    → ((k : Connection Client) → connection_of c a.connections ≡ Some k → SameChange R f g a s k) → SeenBoth R c f g a s
at-same R c f g p q a s e h = go (connection_of c a.connections) refl
  where
    both : MachineState World Client → MachineState World Client → Type 0
    both x y = SameForClient R c x y

    go : (o : Option (Connection Client)) → connection_of c a.connections ≡ o → SeenBoth R c f g a s
    go None is =
        let fa = exchange_none c f a is in
        let gs = exchange_none c g s (sym e.connection ∙ is) in
        subst (λ x. both x (after_exchange (connection_of c s.connections) g s)) (sym fa) (subst (both a) (sym gs) e)
    go (Some k) is =
        let is_too = sym e.connection ∙ is in
        let x = h k is (subst (MaybeIn R) is e.watches) in
        let P : Option (Connection Client) → Option (Connection Client) → Type 0 = λ o u. SameForClient R c (after_exchange o f a) (after_exchange u g s) in
        let fa = exchange_own c f p a k is in
        let gs = exchange_own c g q s k is_too in
        let la = subst (λ (o : Option (Connection Client)). connection_of c (after_exchange o f a).connections ≡ Some (f (exchange_of a k)).connection) is fa in
        let ls = subst (λ (o : Option (Connection Client)). connection_of c (after_exchange o g s).connections ≡ Some (g (exchange_of s k)).connection)
        is_too gs in
        subst (λ o. P o (connection_of c s.connections)) (sym is) (subst (P (Some k)) (sym is_too) (record {
          world = x.world;
          moment = e.moment;
          memory = x.memory;
          connection = la ∙ ap (λ l. Some l) x.connection ∙ sym ls;
          watches = subst (MaybeIn R) (sym la) x.watches;
        }))

pub at-own : (R : ByteName → Type 0) (c n : ℕ) (f g : Exchange World Client → Exchange World Client)
    → KeepsNumber f → KeepsNumber g → n ≡ c → (a s : MachineState World Client) → SameForClient R c a s
    → ((k : Connection Client) → connection_of n a.connections ≡ Some k → SameChange R f g a s k)
    → SameForClient R c (after_exchange (connection_of n a.connections) f a) (after_exchange (connection_of n s.connections) g s)
at-own R c n f g p q same a s e =
    let H : ℕ → Type 0 = λ m. (k : Connection Client) → connection_of m a.connections ≡ Some k → SameChange R f g a s k in
    let P : ℕ → Type 0 = λ m. H m
    → SameForClient R c (after_exchange (connection_of m a.connections) f a) (after_exchange (connection_of m s.connections) g s) in
    subst P (sym same) (λ h. at-same R c f g p q a s e h)

-- what a change of another connection leaves of the world
abbrev PassesChange : (ByteName → Type 0) → (Exchange World Client → Exchange World Client)
    → MachineState World Client → MachineState World Client → Connection Client → Type 0
PassesChange R f a s k = Passes R s.world (f (exchange_of s k)).world a.world.memory

pub at-other : (R : ByteName → Type 0) (c n : ℕ) (f : Exchange World Client → Exchange World Client)
    → KeepsNumber f → n ≢ c → (a s : MachineState World Client) → SameForClient R c a s
    → ((k : Connection Client) → connection_of n s.connections ≡ Some k → PassesChange R f a s k)
    → SameForClient R c a (after_exchange (connection_of n s.connections) f s)
at-other R c n f p ne a s e h = go (connection_of n s.connections) refl
  where
    found : connection_of c a.connections ≡ connection_of c (after_exchange (connection_of n s.connections) f s).connections
    found = e.connection ∙ sym (exchange_other c n f p ne s)

    go : (o : Option (Connection Client)) → connection_of n s.connections ≡ o → SameForClient R c a (after_exchange (connection_of n s.connections) f s)
    go None is = subst (SameForClient R c a) (sym (exchange_none n f s is)) e
    go (Some k) is =
        let x = h k is in
        let m = (f (exchange_of s k)).world.memory in
        let P : Option (Connection Client) → Type 0 = λ o. connection_of c a.connections ≡ connection_of c (after_exchange o f s).connections
        → SameForClient R c a (after_exchange o f s) in
        subst P (sym is) (λ seen. record {
          world = x.world ∙ ap (with_memory m) e.world;
          moment = e.moment;
          memory = agree-back R m a.world.memory x.memory;
          connection = seen;
          watches = e.watches;
        }) found

-- two exchanges of the states are over one another
over_world : (a s : MachineState World Client) → s.world ≡ with_memory s.world.memory a.world
    → (k : Connection Client) → over s.world.memory (exchange_of a k) ≡ exchange_of s k
over_world a s e k = ap (λ (w : World). let x : Exchange World Client = record { world = w; connection = k } in x) (sym e)

pub gone-same : (R : ByteName → Type 0) (c : ℕ) (a s : MachineState World Client)
    → SameForClient R c a s → (k : Connection Client) → SameChange R with_gone with_gone a s k
gone-same R c a s e k w = record { connection = refl; world = e.world; memory = e.memory; watches = w }

pub took-same : (R : ByteName → Type 0) (c n : ℕ) (a s : MachineState World Client)
    → SameForClient R c a s → (k : Connection Client) → SameChange R (with_took n) (with_took n) a s k
took-same R c n a s e k w =
    elim (cases_Bool k.gone) [
      | inl b ↦ rw b (record { connection = refl; world = e.world; memory = e.memory; watches = w })
      | inr b ↦ rw b (record { connection = refl; world = e.world; memory = e.memory; watches = w })
    ]

pub took-passes : (R : ByteName → Type 0) (c n : ℕ) (a s : MachineState World Client)
    → SameForClient R c a s → (k : Connection Client) → PassesChange R (with_took n) a s k
took-passes R c n a s e k =
    elim (cases_Bool k.gone) [
      | inl b ↦ rw b (record { world = refl; memory = agree-back R a.world.memory s.world.memory e.memory })
      | inr b ↦ rw b (record { world = refl; memory = agree-back R a.world.memory s.world.memory e.memory })
    ]

pub piece-own : (reading : DescriptionReading) (R : ByteName → Type 0) (c n : ℕ) (bytes : List ℕ)
    → n ≡ c → (a s : MachineState World Client) → SameForClient R c a s
    → Each R (reads_of_acts (acts_at reading a bytes (connection_of n a.connections)))
    → SameForClient R c (after_exchange (connection_of n a.connections) (after_piece (ads_device reading) bytes) a)
    (after_exchange (connection_of n s.connections) (after_piece (ads_device reading) bytes) s)
piece-own reading R c n bytes same a s e i =
    let f = after_piece (ads_device reading) bytes in
    let number : KeepsNumber f = λ x. (after_piece-grows (ads_device reading) bytes x).number in
    let Q : Option (Connection Client) → Type 0 = λ o. Each R (reads_of_acts (acts_at reading a bytes o)) in
    at-own R c n f f number number same a s e
    (λ k is w. subst (λ (y : Exchange World Client). Same R (f (exchange_of a k)) (f y)) (over_world a s e.world k)
    (piece-same reading R bytes (exchange_of a k) s.world.memory e.memory w (subst Q is i)))

pub piece-other : (reading : DescriptionReading) (R : ByteName → Type 0) (c n : ℕ) (bytes : List ℕ)
    → n ≢ c → (a s : MachineState World Client) → SameForClient R c a s
    → Each (Not R) (writes_of_acts (acts_at reading s bytes (connection_of n s.connections)))
    → SameForClient R c a (after_exchange (connection_of n s.connections) (after_piece (ads_device reading) bytes) s)
piece-other reading R c n bytes ne a s e i =
    let f = after_piece (ads_device reading) bytes in
    let Q : Option (Connection Client) → Type 0 = λ o. Each (Not R) (writes_of_acts (acts_at reading s bytes o)) in
    at-other R c n f (λ x. (after_piece-grows (ads_device reading) bytes x).number) ne a s e
    (λ k is. piece-outside reading R bytes (exchange_of s k) a.world.memory (agree-back R a.world.memory s.world.memory e.memory) (subst Q is i))

opened-in : (R : ByteName → Type 0) (c n : ℕ) (o : Option (Connection Client))
    → MaybeIn R o → MaybeIn R (or_else o (connection_of c (fresh_connection new_client n ∷ [])))
unfolding connection_of
opened-in R c n (Some k) w = w
opened-in R c n None w = elim (cases_Bool (n == c)) [ inl b ↦ rw b tt | inr b ↦ rw b tt ]

pub opened-own : (R : ByteName → Type 0) (c n : ℕ) (a s : MachineState World Client) → SameForClient R c a s
    → SameForClient R c (record a { connections = a.connections ++ fresh_connection new_client n ∷ [] })
    (record s { connections = s.connections ++ fresh_connection new_client n ∷ [] })
opened-own R c n a s e =
    let new = fresh_connection new_client n in
    let fa = connection_of-append c a.connections (new ∷ []) in
    record {
      world = e.world;
      moment = e.moment;
      memory = e.memory;
      connection = fa ∙ ap (λ o. or_else o (connection_of c (new ∷ []))) e.connection ∙ sym (connection_of-append c s.connections (new ∷ []));
      watches = subst (MaybeIn R) (sym fa) (opened-in R c n (connection_of c a.connections) e.watches);
    }

or_else-none : (o : Option (Connection Client)) → or_else o None ≡ o
or_else-none None = refl
or_else-none (Some k) = refl

pub opened-other : (R : ByteName → Type 0) (c n : ℕ) → n ≢ c → (a s : MachineState World Client) → SameForClient R c a s
    → SameForClient R c a (record s { connections = s.connections ++ fresh_connection new_client n ∷ [] })
unfolding connection_of
opened-other R c n ne a s e =
    let new : Connection Client = fresh_connection new_client n in
    let t = test_other n c ne in
    let nobody : connection_of c (new ∷ []) ≡ None = rw t refl in
    record {
      world = e.world;
      moment = e.moment;
      memory = e.memory;
      connection = e.connection
          ∙ sym (connection_of-append c s.connections (new ∷ [])
          ∙ ap (λ o. or_else (connection_of c s.connections) o) nobody ∙ or_else-none (connection_of c s.connections));
      watches = e.watches;
    }

-- a change of every connection
pub mapped : (R : ByteName → Type 0) (c : ℕ) (f g : Connection Client → Connection Client) (ks ls : List (Connection Client))
    → ((k : Connection Client) → (f k).number ≡ k.number) → ((k : Connection Client) → (g k).number ≡ k.number)
    → ((k : Connection Client) → WatchesIn R k.client → f k ≡ g k) → connection_of c ks ≡ connection_of c ls
    → MaybeIn R (connection_of c ks) → connection_of c (map f ks) ≡ connection_of c (map g ls)
mapped R c f g ks ls p q same e w = connection_of-map c f p ks ∙ one (connection_of c ks) w ∙ ap (option_map g) e ∙ sym (connection_of-map c g q ls)
  where
    one : (o : Option (Connection Client)) → MaybeIn R o → option_map f o ≡ option_map g o
    one None w = refl
    one (Some k) w = ap (λ l. Some l) (same k w)

pub mapped-in : (R : ByteName → Type 0) (c : ℕ) (f : Connection Client → Connection Client) (ks : List (Connection Client))
    → ((k : Connection Client) → (f k).number ≡ k.number) → ((k : Connection Client) → WatchesIn R k.client → WatchesIn R (f k).client)
    → MaybeIn R (connection_of c ks) → MaybeIn R (connection_of c (map f ks))
mapped-in R c f ks p h w = subst (MaybeIn R) (sym (connection_of-map c f p ks)) (one (connection_of c ks) w)
  where
    one : (o : Option (Connection Client)) → MaybeIn R o → MaybeIn R (option_map f o)
    one None w = tt
    one (Some k) w = h k w
