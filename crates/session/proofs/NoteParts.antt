-- Additions and deletions as parts of a sum: what is said of them in the words of a service.
use Rattle.std.proofs.Common.{◌≡◌, ℕ, List, sym, ◌∙◌, ap}
use Rattle.std.specs.Prelude.{Result, Ok, Err, IfOk, OnOk, OnErr}
use Rattle.ads_base.specs.declared.no_memory.NoMemory.{NoMemory}
use Rattle.return_codes.specs.declared.code.Code.{Code}
use Rattle.ams_header.specs.Header.{address_of}
use Rattle.spec_formats.specs.Request.{Request, AddDeviceNotification, DeleteDeviceNotification}
use Rattle.spec_machine.specs.Acts.{Outcome}
use Rattle.sum_commands.specs.Parts.{GivesHandle, code_in}
use Rattle.notify_table.specs.Table.{WatchTable}
use Rattle.session.specs.Asking.{Asking, act_asked, outcome_asked}
use Rattle.session.specs.Asks.{Asks}
use Rattle.session.specs.declared.single.Single.{Single}
use Rattle.session.specs.Single.{SumState, IsSingle, MayLeave, part_outcome, state_after}
use Rattle.session.specs.Watching.{NotesFor, AnswersNumber, AddsAs, DeletesAs}
use Rattle.session.proofs.LookLemmas.{port-number}
use Rattle.session.proofs.RunLemmas.{changed-asks, nothing-code}

-- the notifications that are lent, as they are now
abbrev with_watches : Single → WatchTable → Single
with_watches s t = let w = s.watches in record s { watches = record w { now = t } }

gives-handle : (o : Outcome) (answer : Result ℕ Code) → AnswersNumber o answer → GivesHandle o answer
gives-handle o (Ok handle) is = record { code = sym (ap (λ (x : Outcome). x.code) is); bytes = ap (λ (x : Outcome). x.bytes) is }
gives-handle o (Err code) is = record { code = sym (ap (λ (x : Outcome). x.code) is); bytes = ap (λ (x : Outcome). x.bytes) is }

-- what an addition says, of those for whom the service stands
abbrev Adds : Single → (group offset len mode cycle : ℕ) → WatchTable → Result ℕ Code → Type 0
Adds s group offset len mode cycle t answer = (a : Asking) (delay : ℕ) → Asks a s.port.now s.handles.now
    → NotesFor a.world.plant.ports a.client s.watches.now → a.asker.address ≡ address_of s.asker.source
    → AddsAs a (act_asked a (AddDeviceNotification group offset len mode delay cycle)) answer t

pub adds-give : (s : Single) (group offset len mode delay cycle : ℕ) (t : WatchTable) (r : Result (Result ℕ Code) NoMemory)
    → IfOk r (λ answer. Adds s group offset len mode cycle t answer)
    → IfOk r (λ answer. (x : SumState) → IsSingle s x
    → GivesHandle (part_outcome x (AddDeviceNotification group offset len mode delay cycle)) answer)
adds-give s group offset len mode delay cycle t (Ok answer) adds = λ x h.
    gives-handle (outcome_asked x.asking (AddDeviceNotification group offset len mode delay cycle)) answer
    (adds x.asking delay h.asks h.notes h.address).ends
adds-give s group offset len mode delay cycle t (Err no_memory) adds = tt

pub adds-leave : (s : Single) (group offset len mode delay cycle : ℕ) (t : WatchTable) (r : Result (Result ℕ Code) NoMemory)
    → IfOk r (λ answer. Adds s group offset len mode cycle t answer)
    → OnOk r ((x : SumState) → IsSingle s x
    → IsSingle (with_watches s t) (state_after x (AddDeviceNotification group offset len mode delay cycle)))
adds-leave s group offset len mode delay cycle t (Ok answer) adds = λ x h.
    let r = AddDeviceNotification group offset len mode delay cycle in
    let changes = (adds x.asking delay h.asks h.notes h.address).changes in
    record {
      asks = changed-asks x.asking (act_asked x.asking r) s.port.now s.handles.now t h.asks changes;
      asker = h.asker;
      address = h.address;
      lent = record { handles = h.lent.handles; watches = h.lent.watches; port = h.lent.port; keeps = h.lent.keeps };
      notes = changes.notes;
    }
adds-leave s group offset len mode delay cycle t (Err no_memory) adds = tt

pub adds-want : (s : Single) (request : Request) (t : WatchTable) (r : Result (Result ℕ Code) NoMemory)
    → OnErr r ((x : SumState) → IsSingle s x → MayLeave x request (with_watches s t))
adds-want s request t (Ok answer) = tt
adds-want s request t (Err no_memory) = λ x h.
    record { handles = h.lent.handles; watches = h.lent.watches; port = h.lent.port; keeps = h.lent.keeps }

-- what a deletion at the port with a number says, of those for whom the service stands
abbrev Deletes : Single → (number handle : ℕ) → WatchTable → Result (Unit {0}) Code → Type 0
Deletes s number handle t answer = (a : Asking) → NotesFor a.world.plant.ports a.client s.watches.now → number ≡ a.asker.port.number
    → DeletesAs a (act_asked a (DeleteDeviceNotification handle)) answer t

deletes-as : (s : Single) (number handle : ℕ) (t : WatchTable) (answer : Result (Unit {0}) Code) → number ≡ s.port.now.number
    → Deletes s number handle t answer → (x : SumState) → IsSingle s x
    → DeletesAs x.asking (act_asked x.asking (DeleteDeviceNotification handle)) answer t
deletes-as s number handle t answer is deletes x h =
    deletes x.asking h.notes (is ∙ port-number x.asking.world x.asking.asker.port s.port.now h.asks.held)

pub deletes-code : (s : Single) (number handle : ℕ) (t : WatchTable) (answer : Result (Unit {0}) Code) → number ≡ s.port.now.number
    → Deletes s number handle t answer → (x : SumState) → IsSingle s x
    → code_in answer ≡ (part_outcome x (DeleteDeviceNotification handle)).code
deletes-code s number handle t answer is deletes x h =
    nothing-code (outcome_asked x.asking (DeleteDeviceNotification handle)) answer (deletes-as s number handle t answer is deletes x h).ends

pub deletes-leave : (s : Single) (number handle : ℕ) (t : WatchTable) (answer : Result (Unit {0}) Code) → number ≡ s.port.now.number
    → Deletes s number handle t answer → (x : SumState) → IsSingle s x
    → IsSingle (with_watches s t) (state_after x (DeleteDeviceNotification handle))
deletes-leave s number handle t answer is deletes x h =
    let changes = (deletes-as s number handle t answer is deletes x h).changes in
    record {
      asks = changed-asks x.asking (act_asked x.asking (DeleteDeviceNotification handle)) s.port.now s.handles.now t h.asks changes;
      asker = h.asker;
      address = h.address;
      lent = record { handles = h.lent.handles; watches = h.lent.watches; port = h.lent.port; keeps = h.lent.keeps };
      notes = changes.notes;
    }
