-- A piece of a connection comes in.
use Rattle.std.proofs.Common.{◌≡◌, ℕ, zero, suc, ◌<◌, List, [], ◌∷◌, get_or, set, length, false, refl, sym, ap, ◌∙◌, arith}
use Rattle.std.specs.Prelude.{Some, remove, slice_get, option_map}
use Rattle.std.proofs.lemmas.List.{length-map, map-set}
use Rattle.std.proofs.lemmas.Option.{slice_get-get_or, slice_get-map}
use Rattle.connections.specs.Carries.{IsEntryOf, IsStreamOf}
use Rattle.connections.specs.Entries.{IsEntry}
use Rattle.connections.specs.Outlets.{closing_at, is_closing, test_in}
use Rattle.connections.specs.Present.{present}
use Rattle.connections.proofs.ColumnLemmas.{each_length, each_read}
use Rattle.session.specs.SessionState.{SessionState}
use Rattle.server_core.specs.declared.turned.Turned.{Turned}
use Rattle.server_core.specs.HoldsWorld.{IsConnected}
use Rattle.server_core.specs.ServerView.{ServerView, sessions_of}
use Rattle.server_core.specs.Serves.{IsServing}
use Rattle.server_core.specs.Stands.{IsClientOf}
use Rattle.server_core.proofs.ServeLemmas.{served_at}

-- a place of an outlet is one of each column
pub record IsInside (v : ServerView) (ts : List Turned) (i : ℕ) : Type 0 where
  pub streams : i < length v.streams
  pub sessions : i < length ts

pub inside : (v : ServerView) (ts : List Turned) (n i : ℕ) → IsServing v → v.sessions ≡ sessions_of ts → IsEntry v.outlets n i → IsInside v ts i
inside v ts n i serving same place =
    let x = serving.some.state in
    let s = serving.some.serves in
    let ps = present x.state.connections in
    let all = each_length IsEntryOf v.outlets ps s.outlets.each in
    let streams = each_length IsStreamOf v.streams ps s.streams in
    let sessions = sym (ap (λ (ss : List SessionState). length ss) same ∙ length-map ts (λ (t : Turned). t.session))
    ∙ each_length (IsClientOf x.state.world.plant) v.sessions ps s.clients in
    record { streams = omega (arith, place.within, all, streams); sessions = omega (arith, place.within, all, sessions) }

-- an element that was read at a place
pub stream_read : {X : Type 0} (xs : List X) (i : ℕ) (x : X) → i < length xs → x ≡ get_or xs i x → slice_get xs i ≡ Some x
stream_read xs i x below read = slice_get-get_or xs i x below ∙ ap (λ y. Some y) (sym read)

pub session_read : (ts : List Turned) (i : ℕ) (t : Turned) → i < length ts → t ≡ get_or ts i t → slice_get (sessions_of ts) i ≡ Some t.session
session_read ts i t below read =
    slice_get-map (λ (u : Turned). u.session) ts i ∙ ap (option_map (λ (u : Turned). u.session)) (stream_read ts i t below read)

-- a session takes the place of another
pub session_set : (ts : List Turned) (i : ℕ) (t : Turned) → sessions_of (set ts i t) ≡ set (sessions_of ts) i t.session
session_set ts i t = map-set (λ (u : Turned). u.session) ts i t

-- or goes
pub session_removed : (ts : List Turned) (i : ℕ) → sessions_of (remove ts i) ≡ remove (sessions_of ts) i
session_removed [] zero = refl
session_removed [] (suc i) = refl
session_removed (t ∷ ts) zero = refl
session_removed (t ∷ ts) (suc i) = ap (λ ss. t.session ∷ ss) (session_removed ts i)

-- a session whose connection is not closing is connected
pub is_connected : (v : ServerView) (n i : ℕ) (session : SessionState) → IsServing v → IsEntry v.outlets n i
    → slice_get v.sessions i ≡ Some session → closing_at v.outlets i ≡ false → IsConnected v.device session
is_connected v n i session serving place read closing =
    let x = serving.some.state in
    let s = serving.some.serves in
    let plant = x.state.world.plant in
    let at = served_at v serving.waves x n i s place in
    let client = each_read (IsClientOf plant) v.sessions (present x.state.connections) i session at.k s.clients read at.machine in
    record {
      world = x.state.world;
      client = at.k.client;
      held = s.device.world;
      stands = client (sym at.stands.closing ∙ sym (ap (test_in is_closing) at.outlet) ∙ closing);
    }
