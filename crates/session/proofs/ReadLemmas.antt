-- Which act a single Read is, and how many bytes it gives.
use Rattle.std.proofs.Common.{◌≡◌, ℕ, ◌+◌, ◌≤◌, List, length, true, false, refl, sym, ap, subst, arith, length-append}
use Rattle.std.specs.Prelude.{Option, Some, option_and_then, Result, Ok, Err, IfOk, OnOk}
use Rattle.std.proofs.lemmas.Bool.{false≢true}
use Rattle.ads_base.specs.declared.no_memory.NoMemory.{NoMemory}
use Rattle.return_codes.specs.declared.code.Code.{Code}
use Rattle.spec_plant.specs.World.{PlantPort}
use Rattle.spec_formats.specs.Groups.{Group, ValueByHandle, group_of}
use Rattle.spec_formats.specs.Request.{Read}
use Rattle.spec_laws.proofs.ShortActs.{no_more_than_asked}
use Rattle.spec_machine.specs.World.{World, Setup, setup_of}
use Rattle.spec_machine.specs.Acts.{Act, Outcome, outcome_of}
use Rattle.spec_machine.specs.Answers.{if_answered, answered_group, READ}
use Rattle.spec_machine.specs.Client as client
use Rattle.spec_machine.specs.Handles.{kept_status}
use Rattle.spec_machine.specs.Reach.{reach_of, addressed_by_status}
use Rattle.spec_machine.specs.Reads.{read_act, read_group}
use Rattle.spec_machine.specs.Requests.{plain_act}
use Rattle.sym_handles.specs.Kept.{Kept}
use Rattle.port_device.specs.Answers.{Answers, AnswersAct}
use Rattle.port_device.specs.Groups.{without_handles}
use Rattle.port_device.specs.Holds.{HoldsPort}
use Rattle.port_device.specs.PortMemory.{PortMemory}
use Rattle.session.specs.Asking.{Asking, act_asked, plain_asked}
use Rattle.session.specs.Asks.{Asks, SomeAsks}
use Rattle.session.specs.HandleGroups.{is_value_by_handle}

handle-group : (d : Setup) (c : client.Client) (p : PlantPort) (g : Option Group) (offset len : ℕ) → is_value_by_handle g ≡ true
    → read_group d c p (option_and_then (if_answered READ) g) offset len
    ≡ read_act (addressed_by_status p.number (kept_status c.handles offset p.number) len)
unfolding read_group reach_of
handle-group d c p (Some ValueByHandle) offset len is = refl
handle-group d c p g offset len is = absurd (false≢true is)

port-group : (d : Setup) (c : client.Client) (p : PlantPort) (g : Option Group) (offset len : ℕ) → is_value_by_handle g ≡ false
    → read_group d c p (option_and_then (if_answered READ) g) offset len ≡ read_group d c p (without_handles g) offset len
unfolding read_group reach_of
port-group d c p (Some ValueByHandle) offset len is = absurd (false≢true (sym is))
port-group d c p g offset len is = refl

pub read-by-handle : (a : Asking) (group offset len : ℕ) → is_value_by_handle (group_of group) ≡ true
    → plain_asked a (Read group offset len)
    ≡ read_act (addressed_by_status a.asker.port.number (kept_status a.client.handles offset a.asker.port.number) len)
unfolding plain_act answered_group
read-by-handle a group offset len is = handle-group (setup_of a.world) a.client a.asker.port (group_of group) offset len is

pub read-by-port : (a : Asking) (group offset len : ℕ) → is_value_by_handle (group_of group) ≡ false
    → plain_asked a (Read group offset len)
    ≡ read_group (setup_of a.world) a.client a.asker.port (without_handles (group_of group)) offset len
unfolding plain_act answered_group
read-by-port a group offset len is = port-group (setup_of a.world) a.client a.asker.port (group_of group) offset len is

-- an answer to another name of the same act, for every client who asks
pub answer-along : (m : PortMemory) (kept : Kept) (act other : Asking → Act) (r : Result (Result (Unit {0}) Code) NoMemory) (old new : List ℕ)
    → ((a : Asking) → other a ≡ act a)
    → IfOk r (λ answer. (a : Asking) → Asks a m kept → AnswersAct a.world (act a) answer old new)
    → IfOk r (λ answer. (a : Asking) → Asks a m kept → AnswersAct a.world (other a) answer old new)
answer-along m kept act other (Err no_memory) old new same said = tt
answer-along m kept act other (Ok answer) old new same said = λ a asks.
    let P : Act → Type 0 = λ x. AnswersAct a.world x answer old new in subst P (sym (same a)) (said a asks)

-- what a port answers to every client, and so to one who asks
pub port-answer : (m : PortMemory) (kept : Kept) (act : World → client.Client → PlantPort → Act)
    (r : Result (Result (Unit {0}) Code) NoMemory) (old new : List ℕ)
    → IfOk r (λ answer. (w : World) (c : client.Client) (p : PlantPort) → HoldsPort w p m → AnswersAct w (act w c p) answer old new)
    → IfOk r (λ answer. (a : Asking) → Asks a m kept → AnswersAct a.world (act a.world a.client a.asker.port) answer old new)
port-answer m kept act (Err no_memory) old new said = tt
port-answer m kept act (Ok answer) old new said = λ a asks. said a.world a.client a.asker.port asks.held

-- an answer is no longer than what the act gives
pub answered-len : (o : Outcome) (answer : Result (Unit {0}) Code) (old new : List ℕ) (most : ℕ) → Answers o answer old new → length o.bytes ≤ most
    → length new ≤ length old + most
answered-len o (Ok done) old new most h short = omega (arith, ap length h.1, length-append old o.bytes, short)
answered-len o (Err code) old new most h short = omega (arith, ap length h.1)

pub read-asked : (m : PortMemory) (kept : Kept) (group offset len : ℕ) (r : Result (Result (Unit {0}) Code) NoMemory) (old new : List ℕ) → SomeAsks m kept
    → IfOk r (λ answer. (a : Asking) → Asks a m kept → AnswersAct a.world (act_asked a (Read group offset len)) answer old new)
    → OnOk r (length new ≤ length old + len)
read-asked m kept group offset len (Err no_memory) old new some said = tt
read-asked m kept group offset len (Ok answer) old new some said =
    let a = some.asking in
    let short = (no_more_than_asked (setup_of a.world) a.client a.asker a.world.memory).read group offset len in
    answered-len (outcome_of a.world.memory (act_asked a (Read group offset len))) answer old new len (said a some.asks) short
