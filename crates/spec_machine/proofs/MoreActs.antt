-- What holds of each act that a server of some profile does besides, and of the plain ones, holds of what a request comes to.
use Rattle.std.proofs.Common.{◌≡◌, ℕ, List, Bool, true, false, cond, refl}
use Rattle.std.specs.Prelude.{Option, Some, None, unwrap_or, option_map, Result, ◌==◌}
use Rattle.spec_formats.specs.Request.{Request, Read, AddDeviceNotification, ReadWrite}
use Rattle.spec_formats.specs.Groups.{symbol_version}
use Rattle.spec_machine.specs.Manner.{Manner, Strict, Wide}
use Rattle.spec_machine.specs.World.{Setup}
use Rattle.spec_machine.specs.Access.{Addressed}
use Rattle.spec_machine.specs.Watches.{Mode}
use Rattle.spec_machine.specs.Client.{Client}
use Rattle.spec_machine.specs.Acts.{Act}
use Rattle.spec_machine.specs.Reads.{read_act}
use Rattle.spec_machine.specs.Additions.{mode_of, add_of_reach}
use Rattle.spec_machine.specs.Writes.{Asker}
use Rattle.spec_machine.specs.Meanings.{mode_in, meant_by}
use Rattle.spec_machine.specs.MoreActs.{type_by_text, type_act, more_read_write, more_act}
use Rattle.spec_machine.specs.MoreActs.{device_data, states_reach, version_reach, more_read, more_add}
use Rattle.spec_machine.specs.Requests.{plain_act, act_of}

-- it holds of the act, where there is one
abbrev pub OfMore : (Act → Type 0) → Option Act → Type 0
OfMore P None = Unit {0}
OfMore P (Some a) = P a

-- what the act has where there is one, and what the plain one has
pub of_more : (P : Act → Type 0) (o : Option Act) (plain : Act) → OfMore P o → P plain → P (unwrap_or o plain)
of_more P None plain more h = h
of_more P (Some a) plain more h = more

more_if : (P : Act → Type 0) (b : Bool) (a : Act) → P a → OfMore P (cond b (Some a) None)
more_if P true a h = h
more_if P false a h = tt

pub read_write-more : (P : Act → Type 0) (x : Manner) (d : Setup) (group len : ℕ) (bytes : List ℕ)
    → P (type_act d.plant len bytes) → OfMore P (more_read_write x d group len bytes)
read_write-more P Strict d group len bytes h = tt
read_write-more P Wide d group len bytes h = more_if P (group == type_by_text) (type_act d.plant len bytes) h

pub read-more : (P : Act → Type 0) (x : Manner) (port group offset len : ℕ)
    → P (read_act (states_reach port offset len)) → OfMore P (more_read x port group offset len)
read-more P Strict port group offset len h = tt
read-more P Wide port group offset len h = more_if P (group == device_data) (read_act (states_reach port offset len)) h

-- an addition that reaches the state words, or the version
more_reach : (P : Act → Type 0) (act : Result (List Addressed) ℕ → Act) (a b : Bool) (states version : Result (List Addressed) ℕ)
    → P (act states) → P (act version) → OfMore P (option_map act (cond a (Some states) (cond b (Some version) None)))
more_reach P act true b states version h g = h
more_reach P act false true states version h g = g
more_reach P act false false states version h g = tt

pub add-more : (P : Act → Type 0) (x : Manner) (c : Client) (k : Asker) (group offset len mode cycle : ℕ)
    → ((m : Option Mode) → P (add_of_reach c k len cycle m (states_reach k.port.number offset len)))
    → ((m : Option Mode) → P (add_of_reach c k len cycle m (version_reach k.port.number len)))
    → OfMore P (more_add x c k group offset len mode cycle)
add-more P Strict c k group offset len mode cycle h g = tt
add-more P Wide c k group offset len mode cycle h g =
    let m = mode_of (mode_in Wide mode) in
    more_reach P (add_of_reach c k len cycle m) (group == device_data) (group == symbol_version) (states_reach k.port.number offset len)
    (version_reach k.port.number len) (h m) (g m)

-- what each act besides has, for this setup, client and asker
pub record EachMore (d : Setup) (c : Client) (k : Asker) (P : Act → Type 0) : Type 0 where
  pub states : (offset len : ℕ) → P (read_act (states_reach k.port.number offset len))
  pub watched_states : (offset len cycle : ℕ) (m : Option Mode) → P (add_of_reach c k len cycle m (states_reach k.port.number offset len))
  pub watched_version : (len cycle : ℕ) (m : Option Mode) → P (add_of_reach c k len cycle m (version_reach k.port.number len))
  pub types : (len : ℕ) (bytes : List ℕ) → P (type_act d.plant len bytes)

more-cases : (d : Setup) (c : Client) (k : Asker) (P : Act → Type 0) → EachMore d c k P → (r : Request) → OfMore P (more_act d c k r)
more-cases d c k P each (Read group offset len) = read-more P d.profile.manner k.port.number group offset len (each.states offset len)
more-cases d c k P each (AddDeviceNotification group offset len mode delay cycle) =
    add-more P d.profile.manner c k group offset len mode cycle (each.watched_states offset len cycle) (each.watched_version len cycle)
more-cases d c k P each (ReadWrite group offset len bytes) = read_write-more P d.profile.manner d group len bytes (each.types len bytes)
more-cases d c k P each r = tt

-- what each act besides has, and the plain act of what the request means
pub act-cases : (d : Setup) (c : Client) (k : Asker) (P : Act → Type 0) → EachMore d c k P
    → (r : Request) → P (plain_act d c k (meant_by d.profile c k.port r)) → P (act_of d c k r)
unfolding act_of
act-cases d c k P each r h = of_more P (more_act d c k r) (plain_act d c k (meant_by d.profile c k.port r)) (more-cases d c k P each r) h

-- a group that the wide server does not know, no server does
pub more_read_write-none : (x : Manner) (d : Setup) (group len : ℕ) (bytes : List ℕ)
    → (group == type_by_text) ≡ false → more_read_write x d group len bytes ≡ None
more_read_write-none Strict d group len bytes e = refl
more_read_write-none Wide d group len bytes e = rw e refl

pub more_read-none : (x : Manner) (port group offset len : ℕ) → (group == device_data) ≡ false → more_read x port group offset len ≡ None
more_read-none Strict port group offset len e = refl
more_read-none Wide port group offset len e = rw e refl

pub more_add-none : (x : Manner) (c : Client) (k : Asker) (group offset len mode cycle : ℕ)
    → (group == device_data) ≡ false → (group == symbol_version) ≡ false → more_add x c k group offset len mode cycle ≡ None
more_add-none Strict c k group offset len mode cycle e f = refl
more_add-none Wide c k group offset len mode cycle e f = rw (e, f) refl

-- the strict server does nothing besides
pub more_act-strict : (d : Setup) (c : Client) (k : Asker) (r : Request) → d.profile.manner ≡ Strict → more_act d c k r ≡ None
more_act-strict d c k (Read group offset len) strict = rw strict refl
more_act-strict d c k (AddDeviceNotification group offset len mode delay cycle) strict = rw strict refl
more_act-strict d c k (ReadWrite group offset len bytes) strict = rw strict refl
more_act-strict d c k r strict = refl
