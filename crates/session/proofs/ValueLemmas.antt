-- What is read and written of a value by its handle, by what was looked up of the handle.
use Rattle.std.proofs.Common.{◌≡◌, ℕ, List, refl, sym, ◌∙◌, ap, subst}
use Rattle.std.specs.Prelude.{Result, Ok, Err, IfOk}
use Rattle.ads_base.specs.declared.no_memory.NoMemory.{NoMemory}
use Rattle.return_codes.specs.declared.code.Code.{Code}
use Rattle.return_codes.specs.Code.{number_of}
use Rattle.spec_plant.specs.World.{PlantPort}
use Rattle.spec_machine.specs.World.{World}
use Rattle.spec_machine.specs.Client as client
use Rattle.spec_machine.specs.Handles.{Handle, HandleStatus, Never, Released, Outdated, Live, kept_status}
use Rattle.spec_machine.specs.Reach.{addressed_by_status}
use Rattle.spec_machine.specs.Reads.{read_act}
use Rattle.symbol_table.specs.declared.place.Place.{Place}
use Rattle.sym_handles.specs.Kept.{Kept}
use Rattle.port_device.specs.PortMemory.{PortMemory}
use Rattle.port_device.specs.Holds.{HoldsPort}
use Rattle.port_device.specs.Answers.{AnswersAct, IsNamed, place_read_act}
use Rattle.session.specs.Asking.{Asking}
use Rattle.session.specs.Asks.{Asks, LooksUp}
use Rattle.session.specs.StandsFor.{KeptFor}
use Rattle.session.proofs.LookLemmas.{port-number}

-- what was looked up of a handle, for every client
abbrev pub LookedUp : ℕ → ℕ → Kept → Result Place Code → Type 0
LookedUp number handle kept answer = (ports : List PlantPort) (hs : List (Handle client.Place)) → KeptFor ports hs kept
    → LooksUp ports number (kept_status hs handle number) answer

-- and for one who asks
pub looked-by : (a : Asking) (m : PortMemory) (kept : Kept) (number handle : ℕ) (answer : Result Place Code) → Asks a m kept → number ≡ m.number
    → LookedUp number handle kept answer
    → LooksUp a.world.plant.ports a.asker.port.number (kept_status a.client.handles handle a.asker.port.number) answer
looked-by a m kept number handle answer asks is looked =
    let same : number ≡ a.asker.port.number = is ∙ port-number a.world a.asker.port m asks.held in
    let P : ℕ → Type 0 = λ n. LooksUp a.world.plant.ports n (kept_status a.client.handles handle n) answer in
    subst P same (looked a.world.plant.ports a.client.handles asks.handles)

pub read-live : (w : World) (p : PlantPort) (m : PortMemory) (place : Place) (len : ℕ)
    (s : HandleStatus client.Place) (answer : Result (Unit {0}) Code) (old new : List ℕ)
    → HoldsPort w p m → LooksUp w.plant.ports p.number s (Ok place)
    → ((v : World) (q : PlantPort) (named : client.Place) → HoldsPort v q m
    → IsNamed v q place named → AnswersAct v (place_read_act q named len) answer old new)
    → AnswersAct w (read_act (addressed_by_status p.number s len)) answer old new
read-live w p m place len (Live named) answer old new h looks said = said w p named h looks
read-live w p m place len Never answer old new h looks said = absurd looks
read-live w p m place len Released answer old new h looks said = absurd looks
read-live w p m place len Outdated answer old new h looks said = absurd looks

pub value-read : (m : PortMemory) (kept : Kept) (number handle len : ℕ) (place : Place) (r : Result (Result (Unit {0}) Code) NoMemory) (old new : List ℕ)
    → number ≡ m.number → LookedUp number handle kept (Ok place)
    → IfOk r (λ answer. (v : World) (q : PlantPort) (named : client.Place) → HoldsPort v q m → IsNamed v q place named
    → AnswersAct v (place_read_act q named len) answer old new)
    → IfOk r (λ answer. (a : Asking) → Asks a m kept
    → AnswersAct a.world (read_act (addressed_by_status a.asker.port.number (kept_status a.client.handles handle a.asker.port.number) len)) answer old new)
value-read m kept number handle len place (Err no_memory) old new is looked said = tt
value-read m kept number handle len place (Ok answer) old new is looked said = λ a asks.
    read-live a.world a.asker.port m place len (kept_status a.client.handles handle a.asker.port.number) answer old new asks.held
    (looked-by a m kept number handle (Ok place) asks is looked) said

read-dead : (w : World) (ports : List PlantPort) (port len : ℕ) (s : HandleStatus client.Place) (code : Code) (out : List ℕ)
    → LooksUp ports port s (Err code) → AnswersAct w (read_act (addressed_by_status port s len)) (Err code) out out
read-dead w ports port len Never code out looks = (ap number_of (sym looks), refl)
read-dead w ports port len Released code out looks = (ap number_of (sym looks), refl)
read-dead w ports port len Outdated code out looks = (ap number_of (sym looks), refl)
read-dead w ports port len (Live named) code out looks = absurd looks

pub value-refused : (m : PortMemory) (kept : Kept) (number handle len : ℕ) (code : Code) (out : List ℕ) → number ≡ m.number
    → LookedUp number handle kept (Err code) → (a : Asking) → Asks a m kept
    → AnswersAct a.world (read_act (addressed_by_status a.asker.port.number (kept_status a.client.handles handle a.asker.port.number) len)) (Err code) out out
value-refused m kept number handle len code out is looked a asks =
    read-dead a.world a.world.plant.ports a.asker.port.number len (kept_status a.client.handles handle a.asker.port.number) code out
    (looked-by a m kept number handle (Err code) asks is looked)
