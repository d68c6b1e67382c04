-- An accepted write by a live handle writes the first bytes of its place, and nothing else.
use Rattle.std.proofs.Common.{◌≡◌, ◌≢◌, ◌⊎◌, ℕ, ◌+◌, ◌<◌, ◌≤◌, List, [], ◌∷◌, map, length, Bool, true, false, cond, refl, sym, ◌∙◌, ap, subst, inl, inr, arith}
use Rattle.std.specs.Prelude.{Option, Some, None, option_map, unwrap_or, nat_lt, Ok}
use Rattle.std.proofs.lemmas.Bool.{cases_Bool, ltb-false}
use Rattle.spec_plant.specs.World.{ByteName, Block, SymbolPart, byte_at}
use Rattle.spec_formats.specs.Groups.{Group, ValueByHandle, value_by_handle}
use Rattle.spec_machine.specs.World.{numbers_from, symbol_names}
use Rattle.spec_machine.specs.Access.{Addressed, WholeByte, values_at, Put, memory_after_put, memory_after_puts, puts_of}
use Rattle.spec_machine.specs.Handles.{HandleStatus, Live, kept_status}
use Rattle.spec_machine.specs.Client.{Place, names_of_place, Client}
use Rattle.spec_machine.specs.Acts.{Access, Act, Refusal, Allowed, writing}
use Rattle.spec_machine.specs.Answers.{answered_group, WRITE}
use Rattle.spec_machine.specs.Reach.{addressed_in_place, addressed_by_status, reach_of}
use Rattle.spec_machine.specs.Writes.{Asker, may_write, are_writable, write_act, write_group}
use Rattle.spec_machine.specs.Requests.{plain_act, act_of}
use Rattle.spec_laws.specs.Isolation.{IsAmong}
use Rattle.spec_laws.specs.Soundness.{Each}
use Rattle.spec_laws.specs.ExactWrites.{WritesPlace, WritesByHandle}
use Rattle.spec_laws.proofs.Memory.{byte_at-same, byte_at-other, cases_name}
use Rattle.spec_laws.proofs.Refused.{by_handle}

abbrev put_byte : ByteName → ℕ → Put
put_byte n b = record { place = WholeByte n; value = b }

-- bytes under the names of so many bytes of a symbol, from a first one on
abbrev puts_at : ℕ → List ℕ → ℕ → List ℕ → List Put
puts_at port symbol first bytes = puts_of (map WholeByte (symbol_names port symbol first (length bytes))) bytes

abbrev symbol_byte : ℕ → List ℕ → ℕ → ByteName
symbol_byte port symbol k = record { port = port; part = SymbolPart symbol; index = k }

-- other names keep their bytes
puts-others : (port : ℕ) (symbol : List ℕ) (bytes : List ℕ) (first : ℕ) (m : List Block) (n : ByteName)
    → (IsAmong n (symbol_names port symbol first (length bytes)) → ⊥)
    → byte_at (memory_after_puts m (puts_at port symbol first bytes)) n ≡ byte_at m n
unfolding memory_after_puts numbers_from
puts-others port symbol [] first m n h = refl
puts-others port symbol (b ∷ bs) first m n h =
    puts-others port symbol bs (first + 1) (memory_after_put m (put_byte (symbol_byte port symbol first) b)) n (λ i. h (inr i))
    ∙ byte_at-other m (symbol_byte port symbol first) n (λ old. b) (λ e. h (inl (sym e)))

-- an earlier byte is none of these
earlier : (port : ℕ) (symbol : List ℕ) (count first i : ℕ) → i < first → IsAmong (symbol_byte port symbol i) (symbol_names port symbol first count) → ⊥
unfolding numbers_from
earlier port symbol Rattle.std.proofs.Common.zero first i l h = h
earlier port symbol (Rattle.std.proofs.Common.suc count) first i l (inl e) = let same = ap (λ (x : ByteName). x.index) e in omega (arith, l, same)
earlier port symbol (Rattle.std.proofs.Common.suc count) first i l (inr h) = earlier port symbol count (first + 1) i (omega (arith, l)) h

-- names that held bytes hold some after a put
still_there : (m : List Block) (n x : ByteName) (b : ℕ) → byte_at m x ≢ None → byte_at (memory_after_put m (put_byte n b)) x ≢ None
still_there m n x b there e =
    elim (cases_name n x) [
      | inl same ↦
          let P : ByteName → Type 0 = λ y. byte_at (memory_after_put m (put_byte n b)) y ≡ None in
          let here : byte_at (memory_after_put m (put_byte n b)) n ≡ None = subst P (sym same) e in
          let Q : ByteName → Type 0 = λ y. byte_at m y ≢ None in
          some (byte_at m n) (subst Q (sym same) there) (sym (byte_at-same m n (λ old. b)) ∙ here)
      | inr ne ↦ there (sym (byte_at-other m n x (λ old. b) ne) ∙ e)
    ]
  where
    some : (o : Option ℕ) → o ≢ None → option_map (λ (old : ℕ). b) o ≡ None → ⊥
    some None ne e = ne refl
    some (Some y) ne e = cc

all_still_there : (m : List Block) (n : ByteName) (b : ℕ) (ns : List ByteName)
    → Each (λ x. byte_at m x ≢ None) ns → Each (λ x. byte_at (memory_after_put m (put_byte n b)) x ≢ None) ns
all_still_there m n b [] e = tt
all_still_there m n b (x ∷ xs) e = (still_there m n x b (e.0), all_still_there m n b xs (e.1))

-- and what was put is read there
puts-read : (port : ℕ) (symbol : List ℕ) (bytes : List ℕ) (first : ℕ) (m : List Block)
    → Each (λ n. byte_at m n ≢ None) (symbol_names port symbol first (length bytes))
    → values_at (memory_after_puts m (puts_at port symbol first bytes)) (map WholeByte (symbol_names port symbol first (length bytes))) ≡ bytes
unfolding memory_after_puts numbers_from
puts-read port symbol [] first m there = refl
puts-read port symbol (b ∷ bs) first m there =
    let n = symbol_byte port symbol first in
    let w : List Block = memory_after_put m (put_byte n b) in
    let here : byte_at (memory_after_puts w (puts_at port symbol (first + 1) bs)) n ≡ Some b =
    puts-others port symbol bs (first + 1) w n (earlier port symbol (length bs) (first + 1) first (omega arith))
    ∙ byte_at-same m n (λ old. b) ∙ put_there (byte_at m n) (there.0) in
    let front = ap (λ (o : Option ℕ). unwrap_or o 0) here in
    let back = puts-read port symbol bs (first + 1) w (all_still_there m n b (symbol_names port symbol (first + 1) (length bs)) (there.1)) in
    rw (front, back) refl
  where
    put_there : (o : Option ℕ) → o ≢ None → option_map (λ (old : ℕ). b) o ≡ Some b
    put_there None ne = absurd (ne refl)
    put_there (Some x) ne = refl

-- what an accepted write by a handle of this status writes
record WritesAt (port : ℕ) (place : Place) (bytes : List ℕ) (access : Access) : Type 0 where
  fits : length bytes ≤ place.len
  writes : access.writes ≡ puts_at port place.symbol place.first bytes

act-writes : (k : Asker) (port : ℕ) (place : Place) (bytes : List ℕ) (access : Access)
    → write_act k bytes (addressed_in_place port place (length bytes)) ≡ Allowed access → WritesAt port place bytes access
act-writes k port place bytes access e =
    elim (cases_Bool (nat_lt place.len (length bytes))) [
      | inl t ↦ let f : Refusal _ ≡ Allowed access = rw t at e in cc
      | inr t ↦
          let places : List Addressed = map WholeByte (names_of_place port place (length bytes)) in
          let f : write_act k bytes (Ok places) ≡ Allowed access = rw t at e in
          let l = ltb-false place.len (length bytes) t in
          elim (cases_Bool (are_writable k.address.net k.port places)) [
            | inr u ↦ let g : Refusal _ ≡ Allowed access = rw u at f in cc
            | inl u ↦
                let g : writing (puts_of places bytes) ≡ Allowed access = rw u at f in
                record { fits = omega (arith, l); writes = sym (ap writes_in g) }
          ]
    ]
  where
    writes_in : Act → List Put
    writes_in (Refusal code) = []
    writes_in (Allowed a) = a.writes

group-writes : (c : Client) (k : Asker) (handle : ℕ) (place : Place) (bytes : List ℕ) (access : Access)
    → kept_status c.handles handle k.port.number ≡ Live place
    → (g : Option Group) → (g ≡ Some ValueByHandle) ⊎ (g ≡ None) → write_group c k g handle bytes ≡ Allowed access → WritesAt k.port.number place bytes access
unfolding write_group reach_of
group-writes c k handle place bytes access live g (inr none) e =
    let f : Refusal _ ≡ Allowed access = rw none at e in cc
group-writes c k handle place bytes access live g (inl some) e =
    let P : HandleStatus Place → Type 0 = λ s. write_act k bytes (addressed_by_status k.port.number s (length bytes)) ≡ Allowed access in
    let f = rw some at e in
    elim (cases_Bool (may_write k.rights)) [
      | inr t ↦ let h : Refusal _ ≡ Allowed access = rw t at f in cc
      | inl t ↦
          let h : write_act k bytes (addressed_by_status k.port.number (kept_status c.handles handle k.port.number) (length bytes)) ≡ Allowed access =
          rw t at f in
          act-writes k k.port.number place bytes access (subst P live h)
    ]

pub writes_by_handle : WritesByHandle
unfolding act_of plain_act
writes_by_handle d c k handle place bytes access memory live accepted =
    let w = group-writes c k handle place bytes access live (answered_group WRITE value_by_handle) (by_handle WRITE) accepted in
    let P : List Put → Type 0 = λ ps. WritesPlace k.port.number place bytes memory (memory_after_puts memory ps) in
    subst P (sym w.writes)
    (record {
      fits = w.fits;
      written = λ there. puts-read k.port.number place.symbol bytes place.first memory there;
      others = λ n ne. puts-others k.port.number place.symbol bytes place.first memory n ne;
    })
