-- Outlets stand for the connections of a relay after a change of one.
use Rattle.std.proofs.Common.{◌≡◌, ℕ, zero, suc, ◌<◌, ◌≤◌, List, [], ◌∷◌, length, Bool, true, false, not, refl, sym, ap, ◌∙◌, subst, inl, inr, arith}
use Rattle.std.specs.Prelude.{Option, Some, None, slice_get, ◌||◌, ◌==◌}
use Rattle.std.specs.Map.{keys_of}
use Rattle.std.proofs.lemmas.Bool.{cond-true, cond-false}
use Rattle.spec_machine.proofs.Find.{test_same, test_other}
use Rattle.ads_outside.specs.declared.moves.Move.TheVariants as move
use Rattle.spec_machine.specs.Connection.{connection_of, with_closing, put_back}
use Rattle.spec_machine.specs.MachineState.{after_exchange}
use Rattle.spec_machine.specs.Running.{Running, running_after}
use Rattle.spec_relay.specs.RelayState.{RelayWorld, Owned, RelayConnection, RelayState, is_heard_among}
use Rattle.spec_relay.specs.RelayMoves.{relay_after_event}
use Rattle.spec_relay.specs.Routing.{at_connection}
use Rattle.connections.specs.Carries.{Carries}
use Rattle.connections.specs.Entries.{IsEntry, IsNoEntry}
use Rattle.connections.specs.Outlets.{Outlets, closing_at, test_in, is_closing, change_at, change_of, closed, taken, offer_among}
use Rattle.connections.specs.declared.outlet.Outlet.{Outlet}
use Rattle.connections.proofs.CarryLemmas.{AtNumber, at_number, IsNotThere, absent_is, changed_by, KeepsOutput, quiet_of}
use Rattle.connections.proofs.EntryLemmas.{HasEntry, entry_or_not, entry_behind}
use Rattle.connections.proofs.MoveLemmas.{took_one}
use Rattle.connections.proofs.OutletLemmas.{read_at, read_absent, changed_at, unchanged_of, keys_changed}
use Rattle.connections.proofs.OutputLemmas.{closed_stands}
use Rattle.ams_relay.specs.Peers.{is_open}
use Rattle.ams_relay.proofs.OwnerLemmas.{some_same}
use Rattle.ams_relay.proofs.RequestLemmas.{heard_found, heard_none, deaf_gone}

-- something stands at a place before the end
pub value_there : {X : Type 0} (xs : List X) (i : ℕ) → i < length xs → (x : X) × (slice_get xs i ≡ Some x)
value_there [] i within = absurd (omega (arith, within))
value_there (x ∷ xs) zero within = (x, refl)
value_there (x ∷ xs) (suc i) within = value_there xs i (omega (arith, within))

-- whoever has no entry is gone, or was never there
pub unseated : (es : Outlets) (b : List ℕ) (ks : List RelayConnection) (n : ℕ) → Carries es b ks → IsNoEntry es n
    → (k : RelayConnection) → connection_of n ks ≡ Some k → k.gone ≡ true
unseated es b ks n h none k found = by (absent_is es b ks n h none)
  where
    by : IsNotThere n ks → k.gone ≡ true
    by (inl nobody) = absurd (let no : ◌≡◌ {A = Option RelayConnection} None (Some k) = sym nobody ∙ found in cc)
    by (inr one) = ap (λ (x : RelayConnection). x.gone) (some_same k one.k (sym found ∙ one.found)) ∙ one.gone

-- whoever is there has an entry
pub has_seat : (es : Outlets) (b : List ℕ) (ks : List RelayConnection) (n : ℕ) (k : RelayConnection) → Carries es b ks
    → connection_of n ks ≡ Some k → k.gone ≡ false → HasEntry es n
has_seat es b ks n k h found there = elim (entry_or_not es n) [
  | inl at ↦ at
  | inr none ↦ absurd (let no : true ≡ false = sym (unseated es b ks n h none k found) ∙ there in cc)
]

pub closing_is : (es : Outlets) (n i : ℕ) (b : List ℕ) (ks : List RelayConnection) → (at : AtNumber es b ks n i) → at.k.closing ≡ closing_at es i
closing_is es n i b ks at = sym at.stands.closing ∙ sym (ap (test_in is_closing) at.outlet)

-- who is heard, in the code and in the machine
pub open_is : (es : Outlets) (b : List ℕ) (ks : List RelayConnection) (n : ℕ) → Carries es b ks → is_open es n ≡ is_heard_among n ks
open_is es b ks n h = elim (entry_or_not es n) [
  | inl has ↦
      let at = at_number es b ks n has.i h has.place in
      read_at (λ (o : Outlet). not o.closing) false es n has.i at.o has.place at.outlet
      ∙ ap not at.stands.closing ∙ sym (ap (λ g. not (at.k.closing || g)) at.there ∙ or_none at.k.closing)
      ∙ sym (heard_found n at.k ks at.found)
  | inr none ↦ read_absent (λ (o : Outlet). not o.closing) false es n none ∙ absent none (connection_of n ks) refl
]
  where
    or_none : (c : Bool) → not (c || false) ≡ not c
    or_none true = refl
    or_none false = refl

    absent : IsNoEntry es n → (o : Option RelayConnection) → connection_of n ks ≡ o → false ≡ is_heard_among n ks
    absent none None e = sym (heard_none n ks e)
    absent none (Some k) e = sym (heard_found n k ks e ∙ deaf_gone k (unseated es b ks n h none k e))

-- a change that leaves what waits, and whether the connection is there or closing
pub carry_quiet : (n : ℕ) (f : RelayConnection → RelayConnection) (b : List ℕ) (es : Outlets) (s : RelayState) → KeepsOutput f → Carries es b s.connections
    → Carries es b (at_connection n f s).connections
carry_quiet n f b es s keeps h = quiet_of f keeps es b s n h

-- a connection is closing
pub carry_closed : (n i : ℕ) (b : List ℕ) (es : Outlets) (s : RelayState) → IsEntry es n i → Carries es b s.connections
    → Carries (change_at closed i es) b (at_connection n with_closing s).connections
carry_closed n i b es s place h =
    let at = at_number es b s.connections n i h place in
    let moved : at_connection n with_closing s ≡ record s { connections = put_back (with_closing at.k) s.connections } =
    ap (λ o. after_exchange o (λ x. record x { connection = with_closing x.connection }) s) at.found in
    subst (λ (t : RelayState). Carries (change_at closed i es) b t.connections) (sym moved)
    (changed_by closed es b b s.connections n i (with_closing at.k) h at (closed_stands at.o at.k at.stands) at.number at.there (λ m other. refl) at.mark)

-- bytes of its offer are taken
pub carry_took : (n m : ℕ) (left bytes : List ℕ) (es : Outlets) (x : Running RelayWorld Owned) → offer_among es n ≡ Some left → length bytes ≡ m
    → m ≤ length left → Carries es x.blocked x.state.connections
    → (let y = running_after relay_after_event x (move.Took n (length left) bytes) in Carries (change_of (taken m) n es) y.blocked y.state.connections)
carry_took n m left bytes es x offered count fits h =
    let y = running_after relay_after_event x (move.Took n (length left) bytes) in
    subst (λ (j : ℕ). Carries (change_of (taken j) n es) y.blocked y.state.connections) count
    (took_one relay_after_event es x n left bytes h offered (omega (arith, count, fits)))

-- no change of an outlet changes numbers
pub numbers_of : (f : Outlet → Outlet) (n : ℕ) (es : Outlets) → keys_of (change_of f n es) ≡ keys_of es
numbers_of f n es = elim (entry_or_not es n) [
  | inl e ↦ ap keys_of (changed_at f es n e.i e.place) ∙ keys_changed f es e.i
  | inr none ↦ ap keys_of (unchanged_of f es n none)
]

-- whether the connection of an entry is open, at its place
pub open_at : (es : Outlets) (n i : ℕ) → IsEntry es n i → not (closing_at es i) ≡ is_open es n
open_at [] n i at = absurd (omega (arith, at.within))
open_at (e ∷ es) n zero at = sym (cond-true (e.0 == n) (not e.1.closing) (is_open es n) (test_same e.0 n (at.number 0)))
open_at (e ∷ es) n (suc i) at =
    open_at es n i (entry_behind e es n i at)
    ∙ sym (cond-false (e.0 == n) (not e.1.closing) (is_open es n) (test_other e.0 n (at.first 0 0 (omega arith))))

pub open_absent : (es : Outlets) (n : ℕ) → IsNoEntry es n → false ≡ is_open es n
open_absent es n none = sym (read_absent (λ (o : Outlet). not o.closing) false es n none)
