-- A control that is accepted sets the state words of its port.
use Rattle.std.proofs.Common.{◌≡◌, ◌≢◌, ℕ, ◌<◌, List, [], ◌∷◌, map, length, Bool, true, false, cond, refl, sym, ◌∙◌, ap, subst, arith}
use Rattle.std.specs.Prelude.{Option, Some, None, option_map, unwrap_or, ◌==◌, ◌||◌, not}
use Rattle.spec_plant.specs.World.{PlantPort, StatePart, ByteName, Block, byte_at}
use Rattle.spec_plant.proofs.BlockLemmas.{byte_at-same, byte_at-other}
use Rattle.spec_formats.specs.Codes.{no_error, not_permitted, invalid_value}
use Rattle.spec_formats.specs.Request.{Request, WriteControl}
use Rattle.spec_machine.specs.World.{Setup, RUN, STOP, own_name, state_names, state_bytes, FIRST_VERSION}
use Rattle.spec_machine.specs.Access.{WholeByte, values_at, Put, puts_of, memory_after_put, memory_after_puts}
use Rattle.spec_machine.specs.Acts.{Act, Refusal, Outcome, writing, outcome_of, memory_after}
use Rattle.spec_machine.specs.Requests.{plain_act, act_of}
use Rattle.spec_machine.specs.SumLaws.{Party, single_outcome}
use Rattle.spec_machine.specs.Writes.{Asker, may_control, control_act}
use Rattle.spec_laws.proofs.FirstMemory.{first-own, there_by_length}
use Rattle.spec_promises.specs.Asked.{Asked}
use Rattle.spec_promises.specs.Written.{StatesAreSet, IsControlled}
use Rattle.spec_promises.proofs.Seen.{Sees}

abbrev put_byte : ByteName → ℕ → Put
put_byte n b = record { place = WholeByte n; value = b }

abbrev with_put : List Block → ByteName → ℕ → List Block
with_put m n b = memory_after_put m (put_byte n b)

put_here : (m : List Block) (n : ByteName) (b : ℕ) → byte_at m n ≢ None → byte_at (with_put m n b) n ≡ Some b
put_here m n b there = byte_at-same m n (λ old. b) ∙ some (byte_at m n) there
  where
    some : (o : Option ℕ) → o ≢ None → option_map (λ (old : ℕ). b) o ≡ Some b
    some None ne = absurd (ne refl)
    some (Some x) ne = refl

-- a word's byte behind a put of another
put_beside : (m : List Block) (p : PlantPort) (i j b : ℕ) → i ≢ j → byte_at (with_put m (own_name p.number i) b) (own_name p.number j)
    ≡ byte_at m (own_name p.number j)
put_beside m p i j b ne = byte_at-other m (own_name p.number i) (own_name p.number j) (λ old. b) (λ e. ne (ap (λ (x : ByteName). x.index) e))

four : (a b c d x y z w : ℕ) → a ≡ x → b ≡ y → c ≡ z → d ≡ w → ◌≡◌ {A = List ℕ} (a ∷ b ∷ c ∷ d ∷ []) (x ∷ y ∷ z ∷ w ∷ [])
four a b c d x y z w p q r s = cc

states-read : (m : List Block) (p : PlantPort) → ((k : ℕ) → k < 4 → byte_at m (own_name p.number k) ≢ None) → (bytes : List ℕ) → length bytes ≡ 4
    → values_at (memory_after_puts m (puts_of (map WholeByte (state_names p)) bytes)) (map WholeByte (state_names p)) ≡ bytes
unfolding memory_after_puts
states-read m p there (x ∷ (y ∷ (z ∷ (w ∷ [])))) l =
    let m1 : List Block = with_put m (own_name p.number 0) x in
    let m2 : List Block = with_put m1 (own_name p.number 1) y in
    let m3 : List Block = with_put m2 (own_name p.number 2) z in
    let m4 : List Block = with_put m3 (own_name p.number 3) w in
    let there1 : byte_at m1 (own_name p.number 1) ≢ None = λ e. there 1 (omega arith) (sym (put_beside m p 0 1 x (λ q. omega (arith, q))) ∙ e) in
    let there2 : byte_at m2 (own_name p.number 2) ≢ None =
    λ e. there 2 (omega arith) (sym (put_beside m p 0 2 x (λ q. omega (arith, q))) ∙ sym (put_beside m1 p 1 2 y (λ q. omega (arith, q))) ∙ e) in
    let there3 : byte_at m3 (own_name p.number 3) ≢ None =
    λ e. there 3 (omega arith) (sym (put_beside m p 0 3 x (λ q. omega (arith, q))) ∙ sym (put_beside m1 p 1 3 y (λ q. omega (arith, q)))
    ∙ sym (put_beside m2 p 2 3 z (λ q. omega (arith, q))) ∙ e) in
    let e0 : byte_at m4 (own_name p.number 0) ≡ Some x =
    put_beside m3 p 3 0 w (λ q. omega (arith, q)) ∙ put_beside m2 p 2 0 z (λ q. omega (arith, q)) ∙ put_beside m1 p 1 0 y (λ q. omega (arith, q))
    ∙ put_here m (own_name p.number 0) x (there 0 (omega arith)) in
    let e1 : byte_at m4 (own_name p.number 1) ≡ Some y = put_beside m3 p 3 1 w (λ q. omega (arith, q)) ∙ put_beside m2 p 2 1 z (λ q. omega (arith, q))
    ∙ put_here m1 (own_name p.number 1) y there1 in
    let e2 : byte_at m4 (own_name p.number 2) ≡ Some z = put_beside m3 p 3 2 w (λ q. omega (arith, q)) ∙ put_here m2 (own_name p.number 2) z there2 in
    let e3 : byte_at m4 (own_name p.number 3) ≡ Some w = put_here m3 (own_name p.number 3) w there3 in
    let value : Option ℕ → ℕ = λ o. unwrap_or o 0 in
    four _ _ _ _ x y z w (ap value e0) (ap value e1) (ap value e2) (ap value e3)
states-read m p there bytes l = absurd (omega (arith, l))

-- what a control does: it is refused by a code other than 0, or it puts the state words
record ControlCase (k : Asker) (ads device : ℕ) (m : List Block) (a : Act) : Type 0 where
  done : (outcome_of m a).code ≡ no_error → a ≡ writing (puts_of (map WholeByte (state_names k.port)) (state_bytes ads device))

refused : (k : Asker) (ads device : ℕ) (m : List Block) (code : ℕ) → code ≢ no_error → ControlCase k ads device m (Refusal code)
refused k ads device m code ne = record { done = λ e. absurd (ne e) }

case_if : (k : Asker) (ads device : ℕ) (m : List Block) (b : Bool) (x y : Act) → ControlCase k ads device m x → ControlCase k ads device m y
    → ControlCase k ads device m (cond b x y)
case_if k ads device m true x y p q = p
case_if k ads device m false x y p q = q

control-case : (k : Asker) (ads device : ℕ) (m : List Block) → ControlCase k ads device m (control_act k ads device)
unfolding control_act
control-case k ads device m =
    case_if k ads device m (not (may_control k.rights)) _ _ (refused k ads device m not_permitted (λ e. cc))
    (case_if k ads device m ((ads == RUN) || (ads == STOP)) _ _ (record { done = λ e. refl }) (refused k ads device m invalid_value (λ e. cc)))

control-done : (d : Setup) (k : Asker) (p : Party) → ((i : ℕ) → i < 4 → byte_at p.memory (own_name k.port.number i) ≢ None) → (ads device : ℕ) (bytes : List ℕ)
    → (single_outcome d k p (WriteControl ads device bytes)).code ≡ no_error
    → StatesAreSet (record { setup = d; asker = k; before = p; request = WriteControl ads device bytes }) ads device
unfolding act_of plain_act
control-done d k p there ads device bytes h =
    let act = (control-case k ads device p.memory).done h in
    let read = states-read p.memory k.port there (state_bytes ads device) refl in
    let values : values_at (memory_after p.memory (control_act k ads device)) (map WholeByte (state_names k.port)) ≡ state_bytes ads device =
    subst (λ a. values_at (memory_after p.memory a) (map WholeByte (state_names k.port)) ≡ state_bytes ads device) (sym act) read in
    record { holds = values; read = ap outcome values }
  where
    outcome : List ℕ → Outcome
    outcome xs = record { code = no_error; bytes = xs }

pub control_is_done : (a : Asked) → Sees a → IsControlled a
control_is_done a s ads device bytes e h =
    let there : (i : ℕ) → i < 4 → byte_at a.before.memory (own_name a.asker.port.number i) ≢ None = λ i l.
    let n = own_name a.asker.port.number i in
    let same = s.memory.same a.asker.port.number StatePart in
    let long = first-own FIRST_VERSION a.asker.port.number a.asker.port a.setup.plant.ports s.asked.found in
    there_by_length a.before.memory n (omega (arith, same, long, l)) in
    let asked : Request → Asked = λ r. record { setup = a.setup; asker = a.asker; before = a.before; request = r } in
    subst (λ r. (single_outcome a.setup a.asker a.before r).code ≡ no_error → StatesAreSet (asked r) ads device) (sym e)
    (control-done a.setup a.asker a.before there ads device bytes) h
