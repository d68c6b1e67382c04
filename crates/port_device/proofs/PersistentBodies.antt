-- What is appended of the ports that hold a world is the body text of the world's persistent symbols.
use Rattle.std.proofs.Common.{◌≡◌, ℕ, ◌<◌, ◌^◌, List, ◌++◌, length, true, sym, ◌∙◌, ap, subst}
use Rattle.std.specs.Prelude.{Result, Ok, Err, OnOk, is_some}
use Rattle.std.specs.List.{All}
use Rattle.ads_base.specs.declared.no_memory.NoMemory.{NoMemory}
use Rattle.spec_machine.specs.World.{World}
use Rattle.spec_store.specs.BodyText.{FitsEntry, body_text, is_body_text}
use Rattle.spec_store.proofs.BodyLemmas.{body_texts_are_read}
use Rattle.spec_persistent.specs.Persistent.{body_of}
use Rattle.port_device.specs.PortMemory.{PortsMemory}
use Rattle.port_device.specs.Holds.{HoldsPorts}
use Rattle.port_device.specs.PersistentRows.{ports_entries, HasNumber}
use Rattle.port_device.proofs.PersistentLemmas.{ports-held}
use Rattle.port_device.proofs.PersistentCounts.{few-entries}

-- the body text of their entries, where a body text can count these
abbrev pub AppendsBody : PortsMemory → List ℕ → List ℕ → Type 0
AppendsBody m old new = length (ports_entries m.ports) < 2 ^ 32 → new ≡ old ++ body_text (ports_entries m.ports)

pub body-of-world : (w : World) (m : PortsMemory) (old new : List ℕ) → All HasNumber m.ports → AppendsBody m old new → HoldsPorts w m
    → new ≡ old ++ body_of w.plant w.memory
unfolding body_of
body-of-world w m old new numbers appended h =
    appended (few-entries w m h numbers) ∙ ap (λ es. old ++ body_text es) (ports-held w m h)

pub text-of-world : (w : World) (m : PortsMemory) → All HasNumber m.ports → All FitsEntry (ports_entries m.ports) → HoldsPorts w m
    → is_body_text (body_of w.plant w.memory) ≡ true
unfolding body_of
text-of-world w m numbers fit h =
    let read = body_texts_are_read (ports_entries m.ports) fit (few-entries w m h numbers) in
    subst (λ es. is_body_text (body_text es) ≡ true) (ports-held w m h) (ap is_some read)

-- an answer that passes on another, behind which the bytes stay where it is Ok
pub body-put : (r put : Result (Unit {0}) NoMemory) (m : PortsMemory) (old mid new : List ℕ) → r ≡ put → OnOk put (new ≡ mid)
    → OnOk put (AppendsBody m old mid) → All HasNumber m.ports
    → OnOk r ((w : World) → HoldsPorts w m → new ≡ old ++ body_of w.plant w.memory)
body-put r put m old mid new e same appended numbers = subst P (sym e) (by_put put same appended)
  where
    P : Result (Unit {0}) NoMemory → Type 0
    P x = OnOk x ((w : World) → HoldsPorts w m → new ≡ old ++ body_of w.plant w.memory)

    by_put : (x : Result (Unit {0}) NoMemory) → OnOk x (new ≡ mid) → OnOk x (AppendsBody m old mid) → P x
    by_put (Ok done) s a = λ w h. s ∙ body-of-world w m old mid numbers a h
    by_put (Err no_memory) s a = tt

pub text-put : (r put : Result (Unit {0}) NoMemory) (m : PortsMemory) → r ≡ put → OnOk put (All FitsEntry (ports_entries m.ports)) → All HasNumber m.ports
    → OnOk r ((w : World) → HoldsPorts w m → is_body_text (body_of w.plant w.memory) ≡ true)
text-put r put m e fit numbers = subst P (sym e) (by_put put fit)
  where
    P : Result (Unit {0}) NoMemory → Type 0
    P x = OnOk x ((w : World) → HoldsPorts w m → is_body_text (body_of w.plant w.memory) ≡ true)

    by_put : (x : Result (Unit {0}) NoMemory) → OnOk x (All FitsEntry (ports_entries m.ports)) → P x
    by_put (Ok done) f = λ w h. text-of-world w m numbers f h
    by_put (Err no_memory) f = tt
