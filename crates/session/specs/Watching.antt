-- What a notification is to watch, and how its addition and its deletion end.
use Rattle.std.specs.Prelude.{◌≡◌, true, false, ℕ, ◌+◌, ◌<◌, List, [], Bool, Option, Some, Result, Ok, Err, unwrap_or}
use Rattle.std.specs.Int.{w32, to_le_bytes}
use Rattle.return_codes.specs.declared.code.Code.{Code}
use Rattle.return_codes.specs.Code.{number_of}
use Rattle.spec_plant.specs.World.{PlantPort}
use Rattle.spec_formats.specs.Codes.{no_error}
use Rattle.spec_formats.specs.Groups.{Group, AreaBytes, AreaBit}
use Rattle.spec_machine.specs.Access.{Addressed}
use Rattle.spec_machine.specs.Acts.{Act, Refusal, Outcome, outcome_of, memory_after, effect_of}
use Rattle.spec_machine.specs.Answers.{answered_group, ADD_DEVICE_NOTIFICATION}
use Rattle.spec_machine.specs.Client.{Client, client_after}
use Rattle.spec_machine.specs.HandleLaws.{AgreeingWatch, AgreeingWatches}
use Rattle.spec_machine.specs.Manner.{Manner, Strict, Wide}
use Rattle.spec_machine.specs.MoreActs.{own_reach}
use Rattle.spec_machine.specs.Reach.{reach_of}
use Rattle.spec_machine.specs.Requests.{add_watch}
use Rattle.spec_machine.specs.Watches.{Watch}
use Rattle.spec_machine.specs.WatchedRanges.{is_same_watched}
use Rattle.notify_table.specs.declared.spec.Watched.{Watched}
use Rattle.notify_table.specs.declared.spec.Spec.{Spec}
use Rattle.notify_table.specs.Specs.{new_watch, watched_meant}
use Rattle.notify_table.specs.Table.{WatchTable}
use Rattle.session.specs.Asking.{Asking}

-- the groups of bytes and bits of an area
abbrev pub is_byte_or_bit : Option Group → Bool
is_byte_or_bit (Some (AreaBytes area)) = true
is_byte_or_bit (Some (AreaBit area)) = true
is_byte_or_bit group = false

-- what an addition reaches of a server of this manner, or the code that refuses it
abbrev pub addition_reach : Manner → Client → PlantPort → ℕ → ℕ → ℕ → Result (List Addressed) ℕ
addition_reach Strict c p group offset len = reach_of c p (answered_group ADD_DEVICE_NOTIFICATION group) offset len
addition_reach Wide c p group offset len =
    unwrap_or (own_reach p.number group offset len) (reach_of c p (answered_group ADD_DEVICE_NOTIFICATION group) offset len)

-- what is watched at a port is what an access addresses, or the code refuses both
abbrev pub IsWatched : List PlantPort → ℕ → ℕ → Result (List Addressed) ℕ → Result Watched Code → Type 0
IsWatched ports port len (Ok named) (Ok watched) = 0 < len → is_same_watched ports port named (watched_meant watched) ≡ true
IsWatched ports port len (Err number) (Err code) = number ≡ number_of code
IsWatched ports port len (Ok named) (Err code) = ⊥
IsWatched ports port len (Err number) (Ok watched) = ⊥

-- a number of 32 bits is answered, or a code
abbrev pub AnswersNumber : Outcome → Result ℕ Code → Type 0
AnswersNumber o (Ok number) = o ≡ record { code = no_error; bytes = to_le_bytes w32 number }
AnswersNumber o (Err code) = o ≡ record { code = number_of code; bytes = [] }

-- nothing is answered, or a code
abbrev pub AnswersNothing : Outcome → Result (Unit {0}) Code → Type 0
AnswersNothing o (Ok done) = o ≡ record { code = no_error; bytes = [] }
AnswersNothing o (Err code) = o ≡ record { code = number_of code; bytes = [] }

-- what is kept of notifications stands for those of a client
pub record NotesFor (ports : List PlantPort) (c : Client) (kept : WatchTable) : Type 0 where
  pub additions : kept.additions ≡ c.additions
  pub watches : AgreeingWatches (is_same_watched ports) c.watches kept.watches

-- it stands for those of the client after an act, which leaves all handles and all bytes as they are
pub record ChangesNotes (a : Asking) (act : Act) (new : WatchTable) : Type 0 where
  pub notes : NotesFor a.world.plant.ports (client_after a.client (effect_of act)) new
  pub handles : (client_after a.client (effect_of act)).handles ≡ a.client.handles
  pub memory : memory_after a.world.memory act ≡ a.world.memory

pub record AddsAs (a : Asking) (act : Act) (answer : Result ℕ Code) (new : WatchTable) : Type 0 where
  pub ends : AnswersNumber (outcome_of a.world.memory act) answer
  pub changes : ChangesNotes a act new

pub record DeletesAs (a : Asking) (act : Act) (answer : Result (Unit {0}) Code) (new : WatchTable) : Type 0 where
  pub ends : AnswersNothing (outcome_of a.world.memory act) answer
  pub changes : ChangesNotes a act new

-- a notification that is asked for: the machine adds one that watches the same
pub record AsksFor (a : Asking) (act : Act) (spec : Spec) : Type 0 where
  pub watch : Watch (List Addressed)
  pub act_is : act ≡ add_watch a.client watch
  pub agrees : AgreeingWatch (is_same_watched a.world.plant.ports) watch (new_watch (a.client.additions + 1) spec)

-- the notification that is asked for, or the code that refuses it before the limits are looked at
abbrev pub IsSpecAsked : Asking → Act → Result Spec Code → Type 0
IsSpecAsked a act (Ok spec) = AsksFor a act spec
IsSpecAsked a act (Err code) = act ≡ Refusal (number_of code)
