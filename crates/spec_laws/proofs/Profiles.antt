-- The profile of every state, and what each profile makes of requests.
use Rattle.std.proofs.Common.{◌≡◌, ℕ, List, [], ◌∷◌, length, refl, ◌∙◌, ap, arith, false, inl, inr}
use Rattle.std.specs.Prelude.{Option, Some, None, Result, Ok, Err, min, nat_lt, unwrap_or}
use Rattle.std.specs.Option.{option_or}
use Rattle.std.proofs.lemmas.Bool.{cases_Bool, ltb-true}
use Rattle.spec_plant.specs.Description.{Description}
use Rattle.spec_plant.specs.Sizes.{type_size}
use Rattle.ads_outside.specs.declared.event.Event.{Event}
use Rattle.ads_outside.specs.declared.event.Event.TheVariants as event
use Rattle.ads_outside.specs.declared.moves.Move.{Move}
use Rattle.ads_outside.specs.declared.moves.Move.TheVariants as move
use Rattle.spec_formats.specs.Groups.{group_in, group_of}
use Rattle.spec_machine.specs.Device.{DescriptionFault}
use Rattle.spec_machine.specs.Connection.{Connection, connection_of}
use Rattle.spec_machine.specs.MachineState.{MachineState, Exchange, exchange_of, after_exchange}
use Rattle.spec_machine.specs.Piece.{after_piece}
use Rattle.spec_machine.specs.Moves.{with_gone, with_took, state_after_move, state_after}
use Rattle.spec_machine.specs.Events.{after_reload, state_after_event}
use Rattle.spec_machine.specs.Manner.{Manner, Strict, Wide}
use Rattle.spec_machine.specs.World.{World, Setup}
use Rattle.spec_machine.specs.Client.{Client}
use Rattle.spec_machine.specs.Answers.{answered_group, READ_WRITE}
use Rattle.spec_machine.specs.Writes.{Asker}
use Rattle.spec_machine.specs.Reach.{reach_of}
use Rattle.spec_machine.specs.Reads.{read_group}
use Rattle.spec_machine.specs.ByName.{read_write_group}
use Rattle.spec_machine.specs.Meanings.{meant_by}
use Rattle.spec_machine.specs.Requests.{plain_act, act_of}
use Rattle.spec_machine.specs.Decisions.{Decision}
use Rattle.spec_machine.specs.Sums.{SumRequest}
use Rattle.spec_machine.specs.MoreSums.{sum_told_read, sum_short_read, sum_add, sum_delete, wide_sums, sums_in_manner}
use Rattle.spec_machine.specs.SumPackets.{sum_of_group, decide_read_write, decide_request}
use Rattle.spec_machine.specs.Ticks.{world_after_tick}
use Rattle.spec_machine.specs.Reloads.{world_after_reload}
use Rattle.spec_machine.specs.AdsDevice.{DescriptionReading, reloading, ads_device, server_step}
use Rattle.spec_machine.proofs.Meanings.{meant-strict}
use Rattle.spec_machine.proofs.MoreActs.{more_act-strict}
use Rattle.spec_laws.specs.Isolation.{start_in}
use Rattle.spec_laws.specs.Profiles.{KeepsProfile, StrictIsPlain, WritesArePlain, WideReadsByHandle, WideReadsByName, WideModes, WideTypes, StrictSums}
use Rattle.spec_laws.specs.Profiles.{WideSums}
use Rattle.spec_laws.proofs.EveryState.{Goes, piece-goes, took-goes, gone-goes}

-- the profile of every state

exchange-profile : (f : Exchange World Client → Exchange World Client)
    → ((x : Exchange World Client) → Goes x (f x)) → (s : MachineState World Client) (o : Option (Connection Client))
    → (after_exchange o f s).world.profile ≡ s.world.profile
exchange-profile f goes s None = refl
exchange-profile f goes s (Some k) = (goes (exchange_of s k)).profile

reload-profile : (reading : DescriptionReading) (r : Result Description DescriptionFault) (s : MachineState World Client)
    → (after_reload (ads_device reading) (reloading s.world r) s).world.profile ≡ s.world.profile
unfolding world_after_reload
reload-profile reading (Err fault) s = refl
reload-profile reading (Ok d) s = refl

event-profile : (reading : DescriptionReading) (s : MachineState World Client) (e : Event)
    → (state_after_event (ads_device reading) s e).world.profile ≡ s.world.profile
unfolding state_after_event world_after_tick
event-profile reading s (event.Opened n) = refl
event-profile reading s (event.Piece n bytes) =
    exchange-profile (after_piece (ads_device reading) bytes) (piece-goes reading bytes) s (connection_of n s.connections)
event-profile reading s (event.Closed n) = exchange-profile with_gone gone-goes s (connection_of n s.connections)
event-profile reading s (event.Tick t) = refl
event-profile reading s (event.Reload bytes) = reload-profile reading (reading bytes (length s.world.signals)) s
event-profile reading s (event.Writable n) = refl

move-profile : (reading : DescriptionReading) (s : MachineState World Client) (m : Move)
    → (state_after_move (server_step reading) s m).world.profile ≡ s.world.profile
unfolding state_after_move
move-profile reading s (move.Event e) = event-profile reading s e
move-profile reading s (move.Took n offered bytes) =
    exchange-profile (with_took (length bytes)) (took-goes (length bytes)) s (connection_of n s.connections)
move-profile reading s (move.Lost n) = exchange-profile with_gone gone-goes s (connection_of n s.connections)
move-profile reading s (move.Shut n) = exchange-profile with_gone gone-goes s (connection_of n s.connections)

log-profile : (reading : DescriptionReading) (log : List Move) (s : MachineState World Client)
    → (state_after (server_step reading) s log).world.profile ≡ s.world.profile
unfolding state_after
log-profile reading [] s = refl
log-profile reading (m ∷ ms) s = log-profile reading ms (state_after_move (server_step reading) s m) ∙ move-profile reading s m

pub keeps_profile : KeepsProfile
keeps_profile reading profile d signals log = log-profile reading log (start_in profile d signals)

-- what is made of requests

pub strict_is_plain : StrictIsPlain
unfolding act_of
strict_is_plain d c k r strict =
    ap (λ o. unwrap_or o (plain_act d c k (meant_by d.profile c k.port r))) (more_act-strict d c k r strict)
    ∙ ap (plain_act d c k) (meant-strict d.profile c k.port r strict)

pub writes_are_plain : WritesArePlain
unfolding act_of plain_act
writes_are_plain d c k group offset bytes = refl

at_most : (len most : ℕ) → nat_lt most (min len most) ≡ false
at_most len most = elim (cases_Bool (nat_lt most (min len most))) [
  | inl t ↦ absurd (let l = ltb-true most (min len most) t in omega (arith, l))
  | inr t ↦ t
]

pub wide_reads_by_handle : WideReadsByHandle
unfolding act_of plain_act answered_group group_of group_in read_group reach_of
wide_reads_by_handle d c k handle len place wide live =
    let fits = at_most len place.len in
    rw (wide, live, fits) refl

pub wide_reads_by_name : WideReadsByName
unfolding act_of plain_act answered_group group_of group_in read_write_group
wide_reads_by_name d c k offset len name f wide found =
    let fits = at_most len (type_size f.part.type) in
    rw (wide, found, fits) refl

pub wide_types : WideTypes
unfolding act_of
wide_types d c k offset len text wide = rw wide refl

pub wide_modes : WideModes
unfolding act_of plain_act
wide_modes d c k group offset len delay cycle wide = (rw wide refl, rw wide refl)

-- what a ReadWrite is decided to be where these sums are known besides
abbrev decided : Setup → Client → Asker → ℕ → ℕ → ℕ → List ℕ → Option (ℕ → List ℕ → SumRequest) → Decision
decided d c k group offset len bytes o =
    decide_read_write d c k (option_or o (sum_of_group (answered_group READ_WRITE group))) group offset len bytes

more-strict : (d : Setup) (c : Client) (k : Asker) (group offset len : ℕ) (bytes : List ℕ) (x : Manner) → x ≡ Strict
    → decided d c k group offset len bytes (sums_in_manner x group) ≡ decided d c k group offset len bytes None
more-strict d c k group offset len bytes x strict = ap (λ (y : Manner). decided d c k group offset len bytes (sums_in_manner y group)) strict

pub strict_sums : StrictSums
unfolding decide_request
strict_sums d c k group offset len bytes strict = more-strict d c k group offset len bytes d.profile.manner strict

more-wide : (d : Setup) (c : Client) (k : Asker) (group offset len : ℕ) (bytes : List ℕ) (x : Manner) → x ≡ Wide
    → decided d c k group offset len bytes (sums_in_manner x group) ≡ decided d c k group offset len bytes (wide_sums group)
more-wide d c k group offset len bytes x wide = ap (λ (y : Manner). decided d c k group offset len bytes (sums_in_manner y group)) wide

pub wide_sums_are : WideSums
unfolding decide_request
wide_sums_are d c k n len bytes wide = (
  more-wide d c k sum_told_read n len bytes d.profile.manner wide,
  more-wide d c k sum_short_read n len bytes d.profile.manner wide,
  more-wide d c k sum_add n len bytes d.profile.manner wide,
  more-wide d c k sum_delete n len bytes d.profile.manner wide,
)
