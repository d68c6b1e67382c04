-- Single requests as parts of a sum: what is said of them in the words of a service.
use Rattle.std.proofs.Common.{◌≡◌, ℕ, List, [], ◌∷◌, length, true, false, refl, sym, ◌∙◌, ap}
use Rattle.std.specs.Borrow.{Bor}
use Rattle.std.specs.Prelude.{Bool, Option, Some, None, Result, Ok, Err, IfOk, IfSome, OnOk, OnErr, ◌==◌, nat_lt, if◌then◌else◌}
use Rattle.std.proofs.lemmas.Bool.{false≢true}
use Rattle.std.proofs.Common.{eq-eqb}
use Rattle.std.proofs.lemmas.List.{append-nil}
use Rattle.ads_base.specs.declared.no_memory.NoMemory.{NoMemory}
use Rattle.return_codes.specs.declared.code.Code.{Code}
use Rattle.return_codes.specs.declared.code.Code.TheVariants.{C6}
use Rattle.return_codes.specs.Code.{number_of}
use Rattle.std.specs.Int.{w32, to_le_bytes}
use Rattle.spec_plant.specs.Description.{size_in}
use Rattle.spec_plant.specs.World.{PlantPort, Block}
use Rattle.spec_formats.specs.Codes.{no_error, invalid_size}
use Rattle.spec_formats.specs.Groups.{Group, AreaSize, SymbolVersion, SymbolUpload, UploadInfo, TypeUpload, UploadInfoWithTypes}
use Rattle.spec_formats.specs.Ranges.{greatest_len}
use Rattle.spec_formats.specs.Request.{Request, Read}
use Rattle.spec_machine.specs.World.{World, Setup, setup_of}
use Rattle.spec_machine.specs.Access.{Addressed}
use Rattle.spec_machine.specs.Acts.{Act, Refusal, Allowed, fixed_data, outcome_of}
use Rattle.spec_machine.specs.Answers.{answered_group, READ}
use Rattle.spec_machine.specs.Meanings.{read_len_in}
use Rattle.spec_machine.specs.MoreActs.{states_reach, more_read}
use Rattle.spec_machine.proofs.MoreActs.{of_more, read-more}
use Rattle.spec_machine.specs.Client.{Client}
use Rattle.spec_machine.specs.Reach.{reach_of}
use Rattle.spec_machine.specs.Reads.{fixed_reply, read_act, read_group}
use Rattle.spec_machine.specs.Entries.{symbol_upload_of, type_upload_of, upload_info_of, upload_info_with_types_of}
use Rattle.spec_machine.specs.Requests.{plain_act, act_of}
use Rattle.sum_commands.specs.Parts.{Gives, code_in}
use Rattle.sym_handles.specs.Kept.{Kept}
use Rattle.port_device.specs.PortMemory.{PortMemory}
use Rattle.port_device.specs.Answers.{AnswersAct}
use Rattle.port_device.specs.Endings.{HasCode, KeepsDescription}
use Rattle.session.specs.Asking.{Asking, act_asked, outcome_asked, asking_after}
use Rattle.session.specs.Asks.{Asks, SomeAsks}
use Rattle.session.specs.declared.single.Single.{Single}
use Rattle.session.specs.Single.{SumState, IsSingle, part_outcome, state_after}
use Rattle.session.proofs.GrantLemmas.{IsIdle, idle-leaves}

pub on-ok : {T E : Type 0} (r : Result T E) (P : Type 0) → P → OnOk r P
on-ok (Ok x) P h = h
on-ok (Err e) P h = tt

pub not-zero : (code : Code) → (number_of code == 0) ≡ false
not-zero C6 = refl
not-zero code = refl

gives-err : (memory : List Block) (act : Act) (code : Code) (old new : List ℕ) → (outcome_of memory act).code ≡ number_of code → new ≡ old
    → Gives {X = Unit {0}} (outcome_of memory act) (Err code) old new
gives-err memory (Refusal n) code old new is same = record { code = sym is; bytes = same ∙ sym (append-nil old) }
gives-err memory (Allowed access) code old new is same =
    absurd (false≢true (sym (not-zero code) ∙ eq-eqb (number_of code) 0 (sym is)))

pub gives-answer : (w : World) (act : Act) (answer : Result (Unit {0}) Code) (old new : List ℕ) → AnswersAct w act answer old new
    → Gives (outcome_of w.memory act) answer old new
gives-answer w act (Ok done) old new h = record { code = sym h.0; bytes = h.1 }
gives-answer w act (Err code) old new h = gives-err w.memory act code old new h.0 h.1

answer-refused : (w : World) (act : Act) (answer : Result (Unit {0}) Code) (old new : List ℕ) → AnswersAct w act answer old new → OnErr answer (new ≡ old)
answer-refused w act (Ok done) old new h = tt
answer-refused w act (Err code) old new h = h.1

-- a refusal appends nothing
pub refused-asked : (m : PortMemory) (kept : Kept) (r : Request) (answered : Result (Result (Unit {0}) Code) NoMemory) (old new : List ℕ) → SomeAsks m kept
    → IfOk answered (λ answer. (a : Asking) → Asks a m kept → AnswersAct a.world (act_asked a r) answer old new)
    → IfOk answered (λ answer. OnErr answer (new ≡ old))
refused-asked m kept r (Err no_memory) old new some said = tt
refused-asked m kept r (Ok answer) old new some said =
    answer-refused some.asking.world (act_asked some.asking r) answer old new (said some.asking some.asks)

pub code-ends : (n : ℕ) (answer : Result (Unit {0}) Code) → HasCode n answer → code_in answer ≡ n
code-ends n (Ok done) h = sym h
code-ends n (Err code) h = sym h

-- a read leaves all as it was

if-idle : (b : Bool) (act : Act) → IsIdle act → IsIdle (if b then Refusal invalid_size else act)
if-idle true act idle = tt
if-idle false act idle = idle

fixed-idle : (len : ℕ) (bytes : List ℕ) → IsIdle (fixed_reply len bytes)
fixed-idle len bytes = if-idle (nat_lt len (length bytes)) (fixed_data bytes) (refl, refl)

pub reached-idle : (r : Result (List Addressed) ℕ) → IsIdle (read_act r)
reached-idle (Err code) = tt
reached-idle (Ok places) = (refl, refl)

pub read-idle : (d : Setup) (c : Client) (p : PlantPort) (g : Option Group) (offset len : ℕ) → IsIdle (read_group d c p g offset len)
unfolding read_group
read-idle d c p (Some (AreaSize area)) offset len = fixed-idle len (to_le_bytes w32 (size_in p.sizes area))
read-idle d c p (Some SymbolVersion) offset len = fixed-idle len (d.version ∷ [])
read-idle d c p (Some SymbolUpload) offset len = fixed-idle len (symbol_upload_of d.profile.manner p)
read-idle d c p (Some UploadInfo) offset len = fixed-idle len (upload_info_of d.profile.manner p)
read-idle d c p (Some TypeUpload) offset len =
    if-idle (nat_lt greatest_len (length (type_upload_of d.plant))) (fixed_reply len (type_upload_of d.plant)) (fixed-idle len (type_upload_of d.plant))
read-idle d c p (Some UploadInfoWithTypes) offset len = fixed-idle len (upload_info_with_types_of d.profile.manner d.plant p)
read-idle d c p g offset len = reached-idle (reach_of c p g offset len)

pub read-act-idle : (a : Asking) (group offset len : ℕ) → IsIdle (act_asked a (Read group offset len))
unfolding act_of plain_act
read-act-idle a group offset len =
    let d = setup_of a.world in
    let meant = read_len_in d.profile.manner a.client a.asker.port (answered_group READ group) offset len in
    of_more IsIdle (more_read d.profile.manner a.asker.port.number group offset len)
    (read_group d a.client a.asker.port (answered_group READ group) offset meant)
    (read-more IsIdle d.profile.manner a.asker.port.number group offset len (reached-idle (states_reach a.asker.port.number offset len)))
    (read-idle d a.client a.asker.port (answered_group READ group) offset meant)

pub read-leaves : (a : Asking) (group offset len : ℕ) (m : PortMemory) (kept : Kept) → Asks a m kept → Asks (asking_after a (Read group offset len)) m kept
read-leaves a group offset len m kept asks =
    idle-leaves a (act_asked a (Read group offset len)) m kept (read-act-idle a group offset len) asks

-- only bytes are others, twice
pub keeps-both : (first second third : PortMemory) → KeepsDescription first second → KeepsDescription second third → KeepsDescription first third
keeps-both first second third one two =
    let b = third.bytes in two ∙ ap (λ (m : PortMemory). record m { bytes = record b { version = m.bytes.version } }) one

-- what is given to one who asks is given in every state that the service stands for
pub gives-all : (s : Single) (r : Request) (answered : Result (Result (Unit {0}) Code) NoMemory) (old new : List ℕ)
    → IfOk answered (λ answer. (a : Asking) → Asks a s.port.now s.handles.now → AnswersAct a.world (act_asked a r) answer old new)
    → IfOk answered (λ answer. (x : SumState) → IsSingle s x → Gives (part_outcome x r) answer old new)
gives-all s r (Err no_memory) old new said = tt
gives-all s r (Ok answer) old new said = λ x h. gives-answer x.asking.world (act_asked x.asking r) answer old new (said x.asking h.asks)

-- bytes that are lent to one who asks are what he is given, in every state that the service stands for
pub lent-all : (s : Single) (r : Request) (lent : Option (Bor (List ℕ)))
    → IfSome lent (λ bytes. (a : Asking) (kept : Kept) → Asks a s.port.now kept → outcome_asked a r ≡ record { code = no_error; bytes = bytes.now })
    → IfSome lent (λ bytes. (x : SumState) → IsSingle s x → part_outcome x r ≡ record { code = no_error; bytes = bytes.now })
lent-all s r None said = tt
lent-all s r (Some bytes) said = λ x h. said x.asking s.handles.now h.asks

pub on-some : {X : Type 0} (r : Option X) (P : Type 0) → P → IfSome r (λ _. P)
on-some None P h = tt
on-some (Some x) P h = h

pub leaves-all : (s s' : Single) (r : Request) (answered : Result (Result (Unit {0}) Code) NoMemory)
    → ((x : SumState) → IsSingle s x → Asks (asking_after x.asking r) s'.port.now s'.handles.now → IsSingle s' (state_after x r))
    → OnOk answered ((a : Asking) → Asks a s.port.now s.handles.now → Asks (asking_after a r) s'.port.now s'.handles.now)
    → OnOk answered ((x : SumState) → IsSingle s x → IsSingle s' (state_after x r))
leaves-all s s' r (Err no_memory) make said = tt
leaves-all s s' r (Ok answer) make said = λ x h. make x h (said x.asking h.asks)

pub wants-all : (s : Single) (answered : Result (Result (Unit {0}) Code) NoMemory) (P : SumState → Type 0) → ((x : SumState) → IsSingle s x → P x)
    → OnErr answered ((x : SumState) → IsSingle s x → P x)
wants-all s (Ok answer) P h = tt
wants-all s (Err no_memory) P h = h
