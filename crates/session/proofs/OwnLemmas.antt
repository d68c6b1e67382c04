-- A Read of a port's state words, and one of a group that every port has.
use Rattle.std.proofs.Common.{◌≡◌, ℕ, List, true, false, refl, sym, ap, ◌∙◌, subst}
use Rattle.std.specs.Prelude.{unwrap_or, None, Option, Result, Ok, Err, IfOk, ◌==◌}
use Rattle.std.proofs.lemmas.Bool.{false≢true}
use Rattle.ads_base.specs.declared.no_memory.NoMemory.{NoMemory}
use Rattle.return_codes.specs.declared.code.Code.{Code}
use Rattle.spec_plant.specs.World.{PlantPort}
use Rattle.spec_formats.specs.GroupNumbers.{process_bytes}
use Rattle.spec_formats.specs.Request.{Request, Read}
use Rattle.spec_machine.specs.Manner.{Manner, Strict, Wide}
use Rattle.spec_machine.specs.Acts.{Act}
use Rattle.spec_machine.specs.MoreActs.{device_data, states_reach, more_read}
use Rattle.spec_machine.specs.Reads.{read_act}
use Rattle.spec_machine.specs.Requests.{act_of}
use Rattle.spec_machine.specs.World.{World}
use Rattle.sym_handles.specs.Kept.{Kept}
use Rattle.port_device.specs.Answers.{AnswersAct}
use Rattle.port_device.specs.Holds.{HoldsPort}
use Rattle.port_device.specs.PortMemory.{PortMemory}
use Rattle.session.specs.Asking.{Asking, act_asked, plain_asked, meant_in}
use Rattle.session.specs.Asks.{Asks}
use Rattle.session.specs.HandleGroups.{reads_states}

states-more : (x : Manner) (port group offset len : ℕ) (plain : Act) → reads_states x group ≡ true
    → unwrap_or (more_read x port group offset len) plain ≡ read_act (states_reach port offset len)
states-more Strict port group offset len plain t = absurd (false≢true t)
states-more Wide port group offset len plain t = rw t refl

no-states-more : (x : Manner) (port group offset len : ℕ) (plain : Act) → reads_states x group ≡ false
    → unwrap_or (more_read x port group offset len) plain ≡ plain
no-states-more Strict port group offset len plain f = refl
no-states-more Wide port group offset len plain f = rw f refl

-- a Read of the state words
pub states-asked : (a : Asking) (m : PortMemory) (kept : Kept) (group offset len : ℕ) → Asks a m kept → reads_states m.manner group ≡ true
    → act_asked a (Read group offset len) ≡ read_act (states_reach a.asker.port.number offset len)
unfolding act_of
states-asked a m kept group offset len asks t =
    states-more a.world.profile.manner a.asker.port.number group offset len (plain_asked a (meant_in a (Read group offset len)))
    (ap (λ x. reads_states x group) (sym asks.held.manner) ∙ t)

-- the group of the bytes of data is none of the state words
pub data-is-no-state : (x : Manner) (group : ℕ) → group ≡ process_bytes → reads_states x group ≡ false
data-is-no-state x group e = subst (λ (n : ℕ). reads_states x n ≡ false) (sym e) (of_manner x)
  where
    of_manner : (y : Manner) → reads_states y process_bytes ≡ false
    of_manner Strict = refl
    of_manner Wide = refl

-- another one is taken as it is meant
pub meant-asked : (a : Asking) (m : PortMemory) (kept : Kept) (group offset len : ℕ) → Asks a m kept → reads_states m.manner group ≡ false
    → act_asked a (Read group offset len) ≡ plain_asked a (meant_in a (Read group offset len))
unfolding act_of
meant-asked a m kept group offset len asks f =
    no-states-more a.world.profile.manner a.asker.port.number group offset len (plain_asked a (meant_in a (Read group offset len)))
    (ap (λ x. reads_states x group) (sym asks.held.manner) ∙ f)

-- what answers an act that the request is answers the request
pub act-answers : (m : PortMemory) (kept : Kept) (asked : Request) (act : Asking → Act) (r : Result (Result (Unit {0}) Code) NoMemory) (old new : List ℕ)
    → ((a : Asking) → Asks a m kept → act_asked a asked ≡ act a)
    → IfOk r (λ answer. (a : Asking) → Asks a m kept → AnswersAct a.world (act a) answer old new)
    → IfOk r (λ answer. (a : Asking) → Asks a m kept → AnswersAct a.world (act_asked a asked) answer old new)
act-answers m kept asked act (Err no_memory) old new is said = tt
act-answers m kept asked act (Ok answer) old new is said = λ a asks.
    let P : Act → Type 0 = λ x. AnswersAct a.world x answer old new in subst P (sym (is a asks)) (said a asks)

-- what a port answers is what it answers to one who asks
pub states-answer : (m : PortMemory) (kept : Kept) (offset len : ℕ) (r : Result (Result (Unit {0}) Code) NoMemory) (old new : List ℕ)
    → IfOk r (λ answer. (w : World) (p : PlantPort) → HoldsPort w p m → AnswersAct w (read_act (states_reach p.number offset len)) answer old new)
    → IfOk r (λ answer. (a : Asking) → Asks a m kept → AnswersAct a.world (read_act (states_reach a.asker.port.number offset len)) answer old new)
states-answer m kept offset len (Err no_memory) old new said = tt
states-answer m kept offset len (Ok answer) old new said = λ a asks. said a.world a.asker.port asks.held

-- what is done of a request as it is meant
pub plain-answers : (m : PortMemory) (kept : Kept) (asked meant : Request) (r : Result (Result (Unit {0}) Code) NoMemory) (old new : List ℕ)
    → ((a : Asking) → Asks a m kept → meant ≡ meant_in a asked)
    → IfOk r (λ answer. (a : Asking) → Asks a m kept → AnswersAct a.world (plain_asked a meant) answer old new)
    → IfOk r (λ answer. (a : Asking) → Asks a m kept → AnswersAct a.world (plain_asked a (meant_in a asked)) answer old new)
plain-answers m kept asked meant (Err no_memory) old new is said = tt
plain-answers m kept asked meant (Ok answer) old new is said = λ a asks.
    let P : Request → Type 0 = λ x. AnswersAct a.world (plain_asked a x) answer old new in subst P (is a asks) (said a asks)
