-- What a meaning keeps of a request: it asks no more than is asked, a mode that the strict server knows is itself, and to
-- the strict server each request is what is written.
use Rattle.std.proofs.Common.{◌≡◌, ℕ, ◌≤◌, List, refl, arith, inl, inr}
use Rattle.std.specs.Prelude.{min, ◌==◌, Option, Some, None}
use Rattle.std.proofs.lemmas.Bool.{cases_Bool, eqb-true}
use Rattle.spec_plant.specs.Sizes.{type_size}
use Rattle.spec_plant.specs.World.{PlantPort}
use Rattle.spec_plant.specs.Finding.{Found, found_of}
use Rattle.spec_formats.specs.Request.{Request, ReadDeviceInfo, Read, Write, ReadState, WriteControl}
use Rattle.spec_formats.specs.Request.{AddDeviceNotification, DeleteDeviceNotification, DeviceNotification, ReadWrite}
use Rattle.spec_formats.specs.Groups.{Group, ValueByHandle, ValueByName}
use Rattle.spec_machine.specs.Manner.{Manner, Strict, Wide}
use Rattle.spec_machine.specs.Profile.{Profile}
use Rattle.spec_machine.specs.Handles.{HandleStatus, Never, Released, Outdated, Live, kept_status}
use Rattle.spec_machine.specs.Watches.{Mode}
use Rattle.spec_machine.specs.Client.{Place, Client}
use Rattle.spec_machine.specs.Requests.{mode_of}
use Rattle.spec_machine.specs.Meanings.{len_by_status, len_by_handle, read_len_in, len_found, len_by_name, value_len_in, mode_in, meant_by}

min_less : (a b : ℕ) → min a b ≤ a
min_less a b = omega arith

status_less : (s : HandleStatus Place) (len : ℕ) → len_by_status s len ≤ len
status_less Never len = omega arith
status_less Released len = omega arith
status_less Outdated len = omega arith
status_less (Live place) len = min_less len place.len

handle_less : (c : Client) (p : PlantPort) (g : Option Group) (offset len : ℕ) → len_by_handle c p g offset len ≤ len
handle_less c p (Some ValueByHandle) offset len = status_less (kept_status c.handles offset p.number) len
handle_less c p g offset len = omega arith

pub read_len-less : (x : Manner) (c : Client) (p : PlantPort) (g : Option Group) (offset len : ℕ) → read_len_in x c p g offset len ≤ len
read_len-less Strict c p g offset len = omega arith
read_len-less Wide c p g offset len = handle_less c p g offset len

found_less : (o : Option Found) (len : ℕ) → len_found o len ≤ len
found_less None len = omega arith
found_less (Some f) len = min_less len (type_size f.part.type)

name_less : (p : PlantPort) (g : Option Group) (name : List ℕ) (len : ℕ) → len_by_name p g name len ≤ len
name_less p (Some ValueByName) name len = found_less (found_of p.symbols name) len
name_less p g name len = omega arith

pub value_len-less : (x : Manner) (p : PlantPort) (g : Option Group) (name : List ℕ) (len : ℕ) → value_len_in x p g name len ≤ len
value_len-less Strict p g name len = omega arith
value_len-less Wide p g name len = name_less p g name len

-- the strict server's modes are the wide server's
pub mode-kept : (x : Manner) (number : ℕ) (mode : Mode) → mode_of number ≡ Some mode → mode_of (mode_in x number) ≡ Some mode
mode-kept Strict number mode known = known
mode-kept Wide number mode known =
    elim (cases_Bool (number == 5)) [
      | inl five ↦ let is = eqb-true number 5 five in let none : None ≡ Some mode = rw is at known in cc
      | inr five ↦ elim (cases_Bool (number == 6)) [
        | inl six ↦ let is = eqb-true number 6 six in let none : None ≡ Some mode = rw is at known in cc
        | inr six ↦ rw (five, six) known
      ]
    ]

pub meant-strict : (x : Profile) (c : Client) (p : PlantPort) (r : Request) → x.manner ≡ Strict → meant_by x c p r ≡ r
meant-strict x c p ReadDeviceInfo strict = refl
meant-strict x c p (Read group offset len) strict = rw strict refl
meant-strict x c p (Write group offset bytes) strict = refl
meant-strict x c p ReadState strict = refl
meant-strict x c p (WriteControl ads device bytes) strict = refl
meant-strict x c p (AddDeviceNotification group offset len mode delay cycle) strict = rw strict refl
meant-strict x c p (DeleteDeviceNotification handle) strict = refl
meant-strict x c p (DeviceNotification bytes) strict = refl
meant-strict x c p (ReadWrite group offset len bytes) strict = rw strict refl
