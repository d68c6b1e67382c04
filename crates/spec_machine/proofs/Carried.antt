-- What each move keeps of a connection stands after a whole log: output grows at its end, and a
-- connection that is closing or gone stays at rest.
use Rattle.std.proofs.Common.{◌≡◌, ℕ, ◌+◌, List, [], ◌∷◌, ◌++◌, map, Bool, true, cond, refl, sym, ◌∙◌, ap, subst, inl, inr, append_assoc}
use Rattle.std.specs.Prelude.{Option, Some, None, ◌==◌, length, option_map}
use Rattle.std.proofs.lemmas.Bool.{cases_Bool, cases_eq, or_right, le-leb, lt-leb}
use Rattle.std.proofs.lemmas.List.{append-nil}
use Rattle.ads_outside.specs.declared.event.Event.{Event}
use Rattle.ads_outside.specs.declared.event.Event.TheVariants as event
use Rattle.ads_outside.specs.declared.moves.Move.{Move}
use Rattle.ads_outside.specs.declared.moves.Move.TheVariants as move
use Rattle.spec_machine.specs.Device.{Device, Reloading, Accepted, Refused}
use Rattle.spec_machine.specs.Connection.{Connection, fresh_connection, connection_of, is_deaf, bytes_of_all}
use Rattle.spec_machine.specs.MachineState.{MachineState, Exchange, exchange_of, after_exchange, output_of_connection}
use Rattle.spec_machine.specs.Piece.{after_piece}
use Rattle.spec_machine.specs.Moves.{with_gone, with_took, state_after_move, state_after}
use Rattle.spec_machine.specs.Events.{moment_of_tick, connection_after_tick, connection_after_reload, after_reload, state_after_event}
use Rattle.spec_machine.specs.Delivery.{IsPrefix}
use Rattle.spec_machine.specs.Output.{OutputGrows, IsAtRest, ClosingEnds, LimitsQueue}
use Rattle.spec_machine.specs.Connection.{produce, queued_of, bytes_of}
use Rattle.spec_machine.proofs.Find.{or_else, connection_of-append, connection_of-map}
use Rattle.spec_machine.proofs.Growth.{Grows, bytes_of_grown, after_piece-grows, connection_after_tick-grows, connection_after_reload-grows}
use Rattle.spec_machine.proofs.Changes.{KeepsNumber, exchange_own, exchange_other, exchange_none, with_gone-number, with_took-number}

-- what every event keeps of the connection of a number
pub record EventsCarry {W C : Type 0} (device : Device W C) (P : Option (Connection C) → Type 0) : Type 0 where
  pub fresh : (n : ℕ) → P None → P (Some (fresh_connection device.new_client n))
  pub piece : (bytes : List ℕ) (x : Exchange W C) → P (Some x.connection) → P (Some (after_piece device bytes x).connection)
  pub tick : (moment : ℕ) (world : W) (k : Connection C) → P (Some k) → P (Some (connection_after_tick device moment world k))
  pub reload : (moment : ℕ) (old new : W) (k : Connection C) → P (Some k) → P (Some (connection_after_reload device moment old new k))
  pub gone : (x : Exchange W C) → P (Some x.connection) → P (Some (with_gone x).connection)

-- what every move keeps of it
pub record Carries {W C : Type 0} (device : Device W C) (P : Option (Connection C) → Type 0) : Type 0 where
  pub events : EventsCarry device P
  pub took : (n : ℕ) (x : Exchange W C) → P (Some x.connection) → P (Some (with_took n x).connection)

local-carried : {W C : Type 0} (P : Option (Connection C) → Type 0) (c n : ℕ) (f : Exchange W C → Exchange W C)
    → KeepsNumber f → ((x : Exchange W C) → P (Some x.connection) → P (Some (f x).connection)) → (s : MachineState W C)
    → P (connection_of c s.connections) → P (connection_of c (after_exchange (connection_of n s.connections) f s).connections)
local-carried {W} {C} P c n f same keeps s g =
    elim (cases_eq n c) [
      | inr ne ↦ subst P (sym (exchange_other c n f same ne s)) g
      | inl q ↦
          let Q : ℕ → Type 0 = λ i. P (connection_of c (after_exchange (connection_of i s.connections) f s).connections) in
          subst Q (sym q) (own (connection_of c s.connections) refl)
    ]
  where
    own : (o : Option (Connection C)) → connection_of c s.connections ≡ o → P (connection_of c (after_exchange (connection_of c s.connections) f s).connections)
    own None e = subst (λ (u : MachineState W C). P (connection_of c u.connections)) (sym (exchange_none c f s e)) g
    own (Some k) e = subst P (sym (exchange_own c f same s k e)) (keeps (exchange_of s k) (subst P e g))

mapped-carried : {C : Type 0} (P : Option (Connection C) → Type 0) (c : ℕ) (f : Connection C → Connection C)
    → ((k : Connection C) → (f k).number ≡ k.number) → ((k : Connection C) → P (Some k) → P (Some (f k)))
    → (ks : List (Connection C)) → P (connection_of c ks) → P (connection_of c (map f ks))
mapped-carried {C} P c f same keeps ks g = subst P (sym (connection_of-map c f same ks)) (one (connection_of c ks) g)
  where
    one : (o : Option (Connection C)) → P o → P (option_map f o)
    one None h = h
    one (Some k) h = keeps k h

opened-carried : {W C : Type 0} (device : Device W C) (P : Option (Connection C) → Type 0) → EventsCarry device P
    → (c n : ℕ) (ks : List (Connection C)) → P (connection_of c ks) → P (connection_of c (ks ++ fresh_connection device.new_client n ∷ []))
unfolding connection_of
opened-carried {W} {C} device P keeps c n ks g =
    subst P (sym (connection_of-append c ks (fresh_connection device.new_client n ∷ []))) (one (connection_of c ks) g)
  where
    one : (o : Option (Connection C)) → P o → P (or_else o (connection_of c (fresh_connection device.new_client n ∷ [])))
    one (Some k) h = h
    one None h = elim (cases_Bool (n == c)) [ inl b ↦ rw b (keeps.fresh n h) | inr b ↦ rw b h ]

reload-carried : {W C : Type 0} (device : Device W C) (P : Option (Connection C) → Type 0) → EventsCarry device P
    → (c : ℕ) (r : Reloading W) (s : MachineState W C) → P (connection_of c s.connections) → P (connection_of c (after_reload device r s).connections)
reload-carried device P keeps c (Refused fault) s g = g
reload-carried device P keeps c (Accepted version world) s g =
    mapped-carried P c (connection_after_reload device s.moment s.world world)
    (λ k. (connection_after_reload-grows device s.moment s.world world k).number) (keeps.reload s.moment s.world world) s.connections g

pub event-carried : {W C : Type 0} (device : Device W C) (P : Option (Connection C) → Type 0) → EventsCarry device P
    → (c : ℕ) (e : Event) (s : MachineState W C) → P (connection_of c s.connections) → P (connection_of c (state_after_event device s e).connections)
unfolding state_after_event
event-carried device P keeps c (event.Opened n) s g = opened-carried device P keeps c n s.connections g
event-carried device P keeps c (event.Piece n bytes) s g =
    local-carried P c n (after_piece device bytes) (λ x. (after_piece-grows device bytes x).number) (keeps.piece bytes) s g
event-carried device P keeps c (event.Closed n) s g = local-carried P c n with_gone with_gone-number keeps.gone s g
event-carried device P keeps c (event.Tick now) s g =
    let world = device.world_after_tick s.world in
    let moment = moment_of_tick now s in
    mapped-carried P c (connection_after_tick device moment world)
    (λ k. (connection_after_tick-grows device moment world k).number) (keeps.tick moment world) s.connections g
event-carried device P keeps c (event.Reload bytes) s g = reload-carried device P keeps c (device.reload bytes s.world) s g
event-carried device P keeps c (event.Writable n) s g = g

pub move-carried : {W C : Type 0} (device : Device W C) (P : Option (Connection C) → Type 0) → Carries device P
    → (c : ℕ) (m : Move) (s : MachineState W C) → P (connection_of c s.connections)
    → P (connection_of c (state_after_move (state_after_event device) s m).connections)
unfolding state_after_move
move-carried device P keeps c (move.Event e) s g = event-carried device P keeps.events c e s g
move-carried device P keeps c (move.Took n offered bytes) s g =
    local-carried P c n (with_took (length bytes)) (with_took-number (length bytes)) (keeps.took (length bytes)) s g
move-carried device P keeps c (move.Lost n) s g = local-carried P c n with_gone with_gone-number keeps.events.gone s g
move-carried device P keeps c (move.Shut n) s g = local-carried P c n with_gone with_gone-number keeps.events.gone s g

pub log-carried : {W C : Type 0} (device : Device W C) (P : Option (Connection C) → Type 0) → Carries device P
    → (c : ℕ) (log : List Move) (s : MachineState W C) → P (connection_of c s.connections)
    → P (connection_of c (state_after (state_after_event device) s log).connections)
unfolding state_after
log-carried device P keeps c [] s g = g
log-carried device P keeps c (m ∷ ms) s g =
    log-carried device P keeps c ms (state_after_move (state_after_event device) s m) (move-carried device P keeps c m s g)

-- with_took changes one count, or nothing
pub took-cases : {W C : Type 0} (P : Connection C → Type 0) (n : ℕ) (x : Exchange W C) → P x.connection
    → P (record x.connection { bytes_taken = x.connection.bytes_taken + n }) → P (with_took n x).connection
took-cases {W} {C} P n x same more = elim (cases_Bool x.connection.gone) [
  | inl b ↦ let Q : Bool → Type 0 =
      λ t. P (cond t x (record x { connection = record x.connection { bytes_taken = x.connection.bytes_taken + n } })).connection in subst Q (sym b) same
  | inr b ↦ let Q : Bool → Type 0 =
      λ t. P (cond t x (record x { connection = record x.connection { bytes_taken = x.connection.bytes_taken + n } })).connection in subst Q (sym b) more
]

prefix-grows : {C : Type 0} (t : List ℕ) (k l : Connection C) → Grows k l → IsPrefix t (bytes_of_all k.produced) → IsPrefix t (bytes_of_all l.produced)
prefix-grows t k l g (rest, e) =
    (rest ++ bytes_of_all g.more, bytes_of_grown k l g ∙ ap (λ xs. xs ++ bytes_of_all g.more) e ∙ append_assoc t rest (bytes_of_all g.more))

output-carries : {W C : Type 0} (device : Device W C) (t : List ℕ) → Carries device (λ o. IsPrefix t (output_of_connection o))
output-carries {W} {C} device t = record {
  events = record {
    fresh = λ n h. h;
    piece = λ bytes x h. prefix-grows t x.connection (after_piece device bytes x).connection (after_piece-grows device bytes x) h;
    tick = λ moment world k h. prefix-grows t k _ (connection_after_tick-grows device moment world k) h;
    reload = λ moment old new k h. prefix-grows t k _ (connection_after_reload-grows device moment old new k) h;
    gone = λ x h. h;
  };
  took = λ n x h. took-cases (λ (k : Connection C). IsPrefix t (bytes_of_all k.produced)) n x h h;
}

pub output_grows : (W C : Type 0) → OutputGrows W C
output_grows W C device s c log =
    let t = output_of_connection (connection_of c s.connections) in
    log-carried device (λ o. IsPrefix t (output_of_connection o)) (output-carries device t) c log s ([], sym (append-nil t))

-- a connection at rest, closing or gone still
abbrev Rests : {C : Type 0} → Connection C → Option (Connection C) → Type 0
Rests {C} k o = (l : Connection C) × (o ≡ Some l) × IsAtRest k l × (is_deaf l ≡ true)

deaf-cond : {C : Type 0} (k l m : Connection C) → is_deaf l ≡ true → Rests k (Some l) → Rests k (Some (cond (is_deaf l) l m))
deaf-cond {C} k l m d h = let Q : Bool → Type 0 = λ b. Rests k (Some (cond b l m)) in subst Q (sym d) h

rests-deaf : {C : Type 0} (k l : Connection C) → Rests k (Some l) → is_deaf l ≡ true
rests-deaf {C} k l (m, e, r, d) = let same : l ≡ m = cc in ap (λ (x : Connection C). is_deaf x) same ∙ d

rests-rest : {C : Type 0} (k l : Connection C) → Rests k (Some l) → IsAtRest k l
rests-rest {C} k l (m, e, r, d) = let same : m ≡ l = cc in subst (IsAtRest k) same r

deaf-piece : {W C : Type 0} (device : Device W C) (bytes : List ℕ) (x : Exchange W C) → is_deaf x.connection ≡ true → after_piece device bytes x ≡ x
unfolding after_piece
deaf-piece device bytes x d = rw d refl

deaf-tick : {W C : Type 0} (device : Device W C) (moment : ℕ) (world : W) (k : Connection C)
    → is_deaf k ≡ true → connection_after_tick device moment world k ≡ k
unfolding connection_after_tick
deaf-tick device moment world k d = rw d refl

deaf-reload : {W C : Type 0} (device : Device W C) (moment : ℕ) (old new : W) (k : Connection C)
    → is_deaf k ≡ true → connection_after_reload device moment old new k ≡ k
unfolding connection_after_reload
deaf-reload device moment old new k d = rw d refl

rest-carries : {W C : Type 0} (device : Device W C) (k : Connection C) → Carries device (Rests k)
rest-carries {W} {C} device k = record {
  events = record {
    fresh = λ n h. none h.1;
    piece = λ bytes x h. subst (λ (y : Exchange W C). Rests k (Some y.connection)) (sym (deaf-piece device bytes x (rests-deaf k x.connection h))) h;
    tick = λ moment world l h. subst (λ (m : Connection C). Rests k (Some m)) (sym (deaf-tick device moment world l (rests-deaf k l h))) h;
    reload = λ moment old new l h. subst (λ (m : Connection C). Rests k (Some m)) (sym (deaf-reload device moment old new l (rests-deaf k l h))) h;
    gone = λ x h.
        let r = rests-rest k x.connection h in (
          (with_gone x).connection,
          refl,
          record { received = r.received; frames_taken = r.frames_taken; client = r.client; produced = r.produced },
          or_right x.connection.closing true refl,
        );
  };
  took = λ n x h. took-cases (λ (l : Connection C). Rests k (Some l)) n x h (more n x h);
}
  where
    none : {P : Type 0} {l : Connection C} → None ≡ Some l → P
    none e = cc

    more : (n : ℕ) (x : Exchange W C) → Rests k (Some x.connection) → Rests k (Some (record x.connection { bytes_taken = x.connection.bytes_taken + n }))
    more n x h =
        let r = rests-rest k x.connection h in (
          record x.connection { bytes_taken = x.connection.bytes_taken + n },
          refl,
          record { received = r.received; frames_taken = r.frames_taken; client = r.client; produced = r.produced },
          rests-deaf k x.connection h,
        )

pub closing_ends : (W C : Type 0) → ClosingEnds W C
closing_ends W C device s c log k e d =
    let r = log-carried device (Rests k) (rest-carries device k) c log s
    (k, e, record { received = refl; frames_taken = refl; client = refl; produced = refl }, d) in
    (r.0, r.1, r.2)

pub limits_queue : (C : Type 0) → LimitsQueue C
unfolding produce
limits_queue C f k open_ = record {
  fits = λ h. let t = le-leb (queued_of k + length (bytes_of f)) 4194304 h in rw (open_, t) refl;
  over = λ h. let t = lt-leb (queued_of k + length (bytes_of f)) 4194304 h in rw (open_, t) refl;
}
