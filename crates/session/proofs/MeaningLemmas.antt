-- What a request means to the port that is asked, and that what is done of it is done of the request.
use Rattle.std.proofs.Common.{◌≡◌, ℕ, ◌<◌, List, [], ◌∷◌, Bool, true, false, cond, length, take, drop, get_or, refl, sym, ap, subst, ◌∙◌, arith, inl, inr}
use Rattle.std.specs.Prelude.{min, ◌==◌, nat_lt, position, unwrap_or, Option, Some, None, option_and_then, Result, Ok, Err, IfOk, OnOk}
use Rattle.std.specs.List.{before_first, position_or_len}
use Rattle.std.proofs.lemmas.Bool.{cases_Bool, false≢true, ltb-false, cond-true, cond-false}
use Rattle.std.proofs.lemmas.List.{take_all}
use Rattle.ads_base.specs.declared.no_memory.NoMemory.{NoMemory}
use Rattle.return_codes.specs.declared.code.Code.{Code}
use Rattle.spec_plant.specs.World.{PlantPort}
use Rattle.spec_plant.specs.Finding.{Found, found_of}
use Rattle.spec_formats.specs.Groups.{Group, HandleByName, ValueByHandle, ValueByName, InfoByName, ExtendedInfoByName, group_of}
use Rattle.spec_formats.specs.Request.{Request, Read, ReadWrite}
use Rattle.spec_machine.specs.Manner.{Manner, Strict, Wide}
use Rattle.spec_machine.specs.World.{World, setup_of}
use Rattle.spec_machine.specs.Acts.{Act}
use Rattle.spec_machine.specs.MoreActs.{type_by_text, type_act, more_read_write, more_act}
use Rattle.port_device.specs.Holds.{HoldsPort}
use Rattle.spec_machine.specs.Answers.{if_answered, answered_group, READ, READ_WRITE}
use Rattle.spec_machine.specs.Client as client
use Rattle.spec_machine.specs.Handles.{HandleStatus, Never, Released, Outdated, Live, kept_status}
use Rattle.spec_machine.specs.ByName.{place_of}
use Rattle.spec_machine.specs.Meanings.{len_by_status, len_by_handle, read_len_in, len_found, len_by_name, behind_stop, meant_name, name_by_group}
use Rattle.spec_machine.specs.Meanings.{without_context, name_in, mode_in, by_name}
use Rattle.spec_machine.specs.Requests.{plain_act, act_of}
use Rattle.spec_machine.proofs.Meanings.{meant-strict}
use Rattle.spec_machine.proofs.MoreActs.{more_act-strict, more_read_write-none}
use Rattle.session.proofs.GrantLemmas.{type_act-idle, leaves-along, idle-leaves}
use Rattle.symbol_table.specs.declared.place.Place.{Place}
use Rattle.sym_handles.specs.Kept.{Kept}
use Rattle.port_device.specs.Answers.{AnswersAct, FindsPlace}
use Rattle.port_device.specs.PortMemory.{PortMemory}
use Rattle.port_device.specs.Manners.{is_wide}
use Rattle.port_device.proofs.PlaceLemmas.{named_len}
use Rattle.session.specs.Asking.{Asking, act_asked, plain_asked, meant_in, after_act, asking_after}
use Rattle.session.specs.Asks.{Asks, LooksUp}
use Rattle.session.specs.HandleGroups.{is_value_by_handle, is_value_by_name, takes_name}

-- the manner that a port tells

wide_is : (x : Manner) → is_wide x ≡ true → Wide ≡ x
wide_is Strict t = absurd (false≢true t)
wide_is Wide t = refl

strict_is : (x : Manner) → is_wide x ≡ false → Strict ≡ x
strict_is Strict f = refl
strict_is Wide f = absurd (false≢true (sym f))

pub wide-world : (a : Asking) (m : PortMemory) (kept : Kept) → Asks a m kept → is_wide m.manner ≡ true → Wide ≡ a.world.profile.manner
wide-world a m kept asks t = wide_is m.manner t ∙ asks.held.manner

pub strict-world : (a : Asking) (m : PortMemory) (kept : Kept) → Asks a m kept → is_wide m.manner ≡ false → Strict ≡ a.world.profile.manner
strict-world a m kept asks f = strict_is m.manner f ∙ asks.held.manner

-- a length by a handle

pub read-strict : (a : Asking) (m : PortMemory) (kept : Kept) (group offset len : ℕ) → Asks a m kept → is_wide m.manner ≡ false
    → len ≡ read_len_in a.world.profile.manner a.client a.asker.port (answered_group READ group) offset len
read-strict a m kept group offset len asks f =
    let P : Manner → Type 0 = λ x. len ≡ read_len_in x a.client a.asker.port (answered_group READ group) offset len in
    subst P (strict-world a m kept asks f) refl

pub read-wide : (a : Asking) (m : PortMemory) (kept : Kept) (group offset len n : ℕ) → Asks a m kept → is_wide m.manner ≡ true
    → n ≡ len_by_handle a.client a.asker.port (answered_group READ group) offset len
    → n ≡ read_len_in a.world.profile.manner a.client a.asker.port (answered_group READ group) offset len
read-wide a m kept group offset len n asks t is =
    let P : Manner → Type 0 = λ x. n ≡ read_len_in x a.client a.asker.port (answered_group READ group) offset len in
    subst P (wide-world a m kept asks t) is

other-group : (c : client.Client) (p : PlantPort) (g : Option Group) (offset len : ℕ) → is_value_by_handle g ≡ false
    → len ≡ len_by_handle c p (option_and_then (if_answered READ) g) offset len
other-group c p (Some ValueByHandle) offset len is = absurd (false≢true (sym is))
other-group c p g offset len is = refl

handle-group : (c : client.Client) (p : PlantPort) (g : Option Group) (offset len : ℕ) → is_value_by_handle g ≡ true
    → len_by_handle c p (option_and_then (if_answered READ) g) offset len ≡ len_by_status (kept_status c.handles offset p.number) len
handle-group c p (Some ValueByHandle) offset len is = refl
handle-group c p g offset len is = absurd (false≢true is)

pub len-other : (c : client.Client) (p : PlantPort) (group offset len : ℕ) → is_value_by_handle (group_of group) ≡ false
    → len ≡ len_by_handle c p (answered_group READ group) offset len
unfolding answered_group
len-other c p group offset len is = other-group c p (group_of group) offset len is

looked_len : (w : World) (p : PlantPort) (s : HandleStatus client.Place) (place : Place) (len : ℕ) → LooksUp w.plant.ports p.number s (Ok place)
    → min len place.len ≡ len_by_status s len
looked_len w p (Live named) place len looks = ap (min len) (named_len w p place named looks)
looked_len w p Never place len looks = absurd looks
looked_len w p Released place len looks = absurd looks
looked_len w p Outdated place len looks = absurd looks

unlooked_len : (w : World) (p : PlantPort) (s : HandleStatus client.Place) (code : Code) (len : ℕ) → LooksUp w.plant.ports p.number s (Err code)
    → len ≡ len_by_status s len
unlooked_len w p (Live named) code len looks = absurd looks
unlooked_len w p Never code len looks = refl
unlooked_len w p Released code len looks = refl
unlooked_len w p Outdated code len looks = refl

pub len-held : (a : Asking) (group handle len : ℕ) (place : Place) → is_value_by_handle (group_of group) ≡ true
    → LooksUp a.world.plant.ports a.asker.port.number (kept_status a.client.handles handle a.asker.port.number) (Ok place)
    → min len place.len ≡ len_by_handle a.client a.asker.port (answered_group READ group) handle len
unfolding answered_group
len-held a group handle len place is looks =
    looked_len a.world a.asker.port (kept_status a.client.handles handle a.asker.port.number) place len looks
    ∙ sym (handle-group a.client a.asker.port (group_of group) handle len is)

pub len-unheld : (a : Asking) (group handle len : ℕ) (code : Code) → is_value_by_handle (group_of group) ≡ true
    → LooksUp a.world.plant.ports a.asker.port.number (kept_status a.client.handles handle a.asker.port.number) (Err code)
    → len ≡ len_by_handle a.client a.asker.port (answered_group READ group) handle len
unfolding answered_group
len-unheld a group handle len code is looks =
    unlooked_len a.world a.asker.port (kept_status a.client.handles handle a.asker.port.number) code len looks
    ∙ sym (handle-group a.client a.asker.port (group_of group) handle len is)

-- a length by a name

other-value : (p : PlantPort) (g : Option Group) (name : List ℕ) (len : ℕ) → is_value_by_name g ≡ false
    → len ≡ len_by_name p (option_and_then (if_answered READ_WRITE) g) name len
other-value p (Some ValueByName) name len is = absurd (false≢true (sym is))
other-value p g name len is = refl

value-group : (p : PlantPort) (g : Option Group) (name : List ℕ) (len : ℕ) → is_value_by_name g ≡ true
    → len_by_name p (option_and_then (if_answered READ_WRITE) g) name len ≡ len_found (found_of p.symbols name) len
value-group p (Some ValueByName) name len is = refl
value-group p g name len is = absurd (false≢true is)

pub value-other : (p : PlantPort) (group len : ℕ) (name : List ℕ) → is_value_by_name (group_of group) ≡ false
    → len ≡ len_by_name p (answered_group READ_WRITE group) name len
unfolding answered_group
value-other p group len name is = other-value p (group_of group) name len is

found_len : (w : World) (p : PlantPort) (o : Option Found) (place : Place) (len : ℕ) → FindsPlace w p o (Ok place) → min len place.len ≡ len_found o len
found_len w p None place len finds = absurd finds
found_len w p (Some f) place len finds = ap (min len) (named_len w p place (place_of f) finds)

unfound_len : (w : World) (p : PlantPort) (o : Option Found) (code : Code) (len : ℕ) → FindsPlace w p o (Err code) → len ≡ len_found o len
unfound_len w p None code len finds = refl
unfound_len w p (Some f) code len finds = absurd finds

pub value-found : (w : World) (p : PlantPort) (group len : ℕ) (name : List ℕ) (place : Place) → is_value_by_name (group_of group) ≡ true
    → FindsPlace w p (found_of p.symbols name) (Ok place) → min len place.len ≡ len_by_name p (answered_group READ_WRITE group) name len
unfolding answered_group
value-found w p group len name place is finds =
    found_len w p (found_of p.symbols name) place len finds ∙ sym (value-group p (group_of group) name len is)

pub value-unfound : (w : World) (p : PlantPort) (group len : ℕ) (name : List ℕ) (code : Code) → is_value_by_name (group_of group) ≡ true
    → FindsPlace w p (found_of p.symbols name) (Err code) → len ≡ len_by_name p (answered_group READ_WRITE group) name len
unfolding answered_group
value-unfound w p group len name code is finds =
    unfound_len w p (found_of p.symbols name) code len finds ∙ sym (value-group p (group_of group) name len is)

-- a name

named-by : (g : Option Group) (bytes : List ℕ) → takes_name g ≡ true
    → meant_name bytes ≡ name_by_group (option_and_then (if_answered READ_WRITE) g) bytes
named-by (Some HandleByName) bytes is = refl
named-by (Some ValueByName) bytes is = refl
named-by (Some InfoByName) bytes is = refl
named-by (Some ExtendedInfoByName) bytes is = refl
named-by g bytes is = absurd (false≢true is)

unnamed-by : (g : Option Group) (bytes : List ℕ) → takes_name g ≡ false
    → bytes ≡ name_by_group (option_and_then (if_answered READ_WRITE) g) bytes
unnamed-by (Some HandleByName) bytes is = absurd (false≢true (sym is))
unnamed-by (Some ValueByName) bytes is = absurd (false≢true (sym is))
unnamed-by (Some InfoByName) bytes is = absurd (false≢true (sym is))
unnamed-by (Some ExtendedInfoByName) bytes is = absurd (false≢true (sym is))
unnamed-by g bytes is = refl

pub is-named : (group : ℕ) (bytes : List ℕ) → takes_name (group_of group) ≡ true → meant_name bytes ≡ name_by_group (answered_group READ_WRITE group) bytes
unfolding answered_group
is-named group bytes is = named-by (group_of group) bytes is

pub is-no-name : (group : ℕ) (bytes : List ℕ) → takes_name (group_of group) ≡ false → bytes ≡ name_by_group (answered_group READ_WRITE group) bytes
unfolding answered_group
is-no-name group bytes is = unnamed-by (group_of group) bytes is

pub at_first : (p : ℕ → Bool) (xs : List ℕ) (i : ℕ) → position p xs ≡ Some i → take i xs ≡ before_first p xs
at_first p xs i e = go (nat_lt (position_or_len p xs) (length xs)) e
  where
    go : (b : Bool) → cond b (Some (position_or_len p xs)) None ≡ Some i → take i xs ≡ before_first p xs
    go true found = let same : position_or_len p xs ≡ i = cc in ap (λ n. take n xs) (sym same)
    go false found = absurd cc

pub before_all : (p : ℕ → Bool) (xs : List ℕ) → position p xs ≡ None → xs ≡ before_first p xs
before_all p xs e = elim (cases_Bool (nat_lt (position_or_len p xs) (length xs))) [
  | inl t ↦ absurd (let some : Some (position_or_len p xs) ≡ None = rw t at e in cc)
  | inr t ↦ let past = ltb-false (position_or_len p xs) (length xs) t in sym (take_all (position_or_len p xs) xs past)
]

pub stop_none : (xs : List ℕ) → length xs ≡ 0 → xs ≡ behind_stop xs
stop_none [] none = refl
stop_none (c ∷ cs) none = absurd (omega (arith, none))

pub stop_other : (xs : List ℕ) → 0 < length xs → (get_or xs 0 0 == 46) ≡ false → xs ≡ behind_stop xs
stop_other [] some other = absurd (omega (arith, some))
stop_other (c ∷ cs) some other = sym (cond-false (c == 46) cs (c ∷ cs) other)

pub stop_first : (xs : List ℕ) → 0 < length xs → (get_or xs 0 0 == 46) ≡ true → drop 1 xs ≡ behind_stop xs
stop_first [] some first = absurd (omega (arith, some))
stop_first (c ∷ cs) some first = sym (cond-true (c == 46) cs (c ∷ cs) first)

-- a mode

pub mode-strict : (x : Manner) (mode : ℕ) → is_wide x ≡ false → mode ≡ mode_in x mode
mode-strict Strict mode f = refl
mode-strict Wide mode f = absurd (false≢true (sym f))

pub mode-wide : (x : Manner) (mode n : ℕ) → is_wide x ≡ true → n ≡ without_context mode → n ≡ mode_in x mode
mode-wide Strict mode n t is = absurd (false≢true t)
mode-wide Wide mode n t is = is

-- the request that is meant

pub read-is-meant : (a : Asking) (group offset len n : ℕ)
    → n ≡ read_len_in a.world.profile.manner a.client a.asker.port (answered_group READ group) offset len
    → Read group offset n ≡ meant_in a (Read group offset len)
read-is-meant a group offset len n is = ap (Read group offset) is

pub is-plain : (a : Asking) (r : Request) (m : PortMemory) (kept : Kept) → Asks a m kept → is_wide m.manner ≡ false → r ≡ meant_in a r
is-plain a r m kept asks f =
    sym (meant-strict a.world.profile a.client a.asker.port r (sym (strict-world a m kept asks f)))

pub read_write-is-meant : (a : Asking) (group offset len : ℕ) (bytes : List ℕ) (n : ℕ) (name : List ℕ) (m : PortMemory) (kept : Kept) → Asks a m kept
    → is_wide m.manner ≡ true → name ≡ name_by_group (answered_group READ_WRITE group) bytes
    → n ≡ len_by_name a.asker.port (answered_group READ_WRITE group) name len
    → ReadWrite group offset n name ≡ meant_in a (ReadWrite group offset len bytes)
read_write-is-meant a group offset len bytes n name m kept asks t named long =
    let g = answered_group READ_WRITE group in
    let P : Manner → Type 0 = λ x. ReadWrite group offset n name ≡ by_name x a.asker.port group offset len (name_in x g bytes) in
    subst P (wide-world a m kept asks t)
    (ap (λ l. ReadWrite group offset l name) long
    ∙ ap (λ b. ReadWrite group offset (len_by_name a.asker.port g b len) b) named)

-- nothing besides is done of it

abbrev pub more_asked : Asking → Request → Option Act
more_asked a r = more_act (setup_of a.world) a.client a.asker r

pub nothing-strict : (a : Asking) (r : Request) (m : PortMemory) (kept : Kept) → Asks a m kept → is_wide m.manner ≡ false → more_asked a r ≡ None
nothing-strict a r m kept asks f = more_act-strict (setup_of a.world) a.client a.asker r (sym (strict-world a m kept asks f))

pub nothing-other : (a : Asking) (group offset len : ℕ) (bytes : List ℕ) → (group == type_by_text) ≡ false
    → more_asked a (ReadWrite group offset len bytes) ≡ None
nothing-other a group offset len bytes e = more_read_write-none a.world.profile.manner (setup_of a.world) group len bytes e

-- an entry of a type, which a wide port gives
pub typed-is : (a : Asking) (group offset len : ℕ) (bytes : List ℕ) (m : PortMemory) (kept : Kept) → Asks a m kept → is_wide m.manner ≡ true
    → (group == type_by_text) ≡ true → act_asked a (ReadWrite group offset len bytes) ≡ type_act a.world.plant len bytes
unfolding act_of
typed-is a group offset len bytes m kept asks t e =
    let d = setup_of a.world in
    let plain = plain_act d a.client a.asker (meant_in a (ReadWrite group offset len bytes)) in
    ap (λ (x : Manner). unwrap_or (more_read_write x d group len bytes) plain) (sym (wide-world a m kept asks t))
    ∙ ap (λ b. unwrap_or (cond b (Some (type_act d.plant len bytes)) None) plain) e

pub typed-answers : (m : PortMemory) (kept : Kept) (group offset len : ℕ) (bytes : List ℕ) (r : Result (Result (Unit {0}) Code) NoMemory) (old new : List ℕ)
    → is_wide m.manner ≡ true → (group == type_by_text) ≡ true
    → IfOk r (λ answer. (w : World) (p : PlantPort) → HoldsPort w p m → AnswersAct w (type_act w.plant len bytes) answer old new)
    → IfOk r (λ answer. (a : Asking) → Asks a m kept → AnswersAct a.world (act_asked a (ReadWrite group offset len bytes)) answer old new)
typed-answers m kept group offset len bytes (Err no_memory) old new t e said = tt
typed-answers m kept group offset len bytes (Ok answer) old new t e said = λ a asks.
    subst (λ (x : Act). AnswersAct a.world x answer old new) (sym (typed-is a group offset len bytes m kept asks t e)) (said a.world a.asker.port asks.held)

pub typed-leaves : (m : PortMemory) (kept : Kept) (group offset len : ℕ) (bytes : List ℕ) (r : Result (Result (Unit {0}) Code) NoMemory)
    → is_wide m.manner ≡ true → (group == type_by_text) ≡ true
    → OnOk r ((a : Asking) → Asks a m kept → Asks (asking_after a (ReadWrite group offset len bytes)) m kept)
typed-leaves m kept group offset len bytes (Err no_memory) t e = tt
typed-leaves m kept group offset len bytes (Ok answer) t e = λ a asks.
    let act = type_act a.world.plant len bytes in
    leaves-along a act (act_asked a (ReadWrite group offset len bytes)) m kept (typed-is a group offset len bytes m kept asks t e)
    (idle-leaves a act m kept (type_act-idle a.world.plant len bytes) asks)

-- what is done of what is meant, where nothing is done besides

pub meant-answers : (m : PortMemory) (kept : Kept) (asked meant : Request) (r : Result (Result (Unit {0}) Code) NoMemory) (old new : List ℕ)
    → ((a : Asking) → Asks a m kept → meant ≡ meant_in a asked) → ((a : Asking) → Asks a m kept → more_asked a asked ≡ None)
    → IfOk r (λ answer. (a : Asking) → Asks a m kept → AnswersAct a.world (plain_asked a meant) answer old new)
    → IfOk r (λ answer. (a : Asking) → Asks a m kept → AnswersAct a.world (act_asked a asked) answer old new)
unfolding act_of
meant-answers m kept asked meant (Err no_memory) old new is none said = tt
meant-answers m kept asked meant (Ok answer) old new is none said = λ a asks.
    let P : Request → Type 0 = λ r. AnswersAct a.world (plain_asked a r) answer old new in
    let Q : Option Act → Type 0 = λ o. AnswersAct a.world (unwrap_or o (plain_asked a (meant_in a asked))) answer old new in
    subst Q (sym (none a asks)) (subst P (is a asks) (said a asks))

pub meant-leaves : (m : PortMemory) (kept kept' : Kept) (asked meant : Request) (r : Result (Result (Unit {0}) Code) NoMemory)
    → ((a : Asking) → Asks a m kept → meant ≡ meant_in a asked) → ((a : Asking) → Asks a m kept → more_asked a asked ≡ None)
    → OnOk r ((a : Asking) → Asks a m kept → Asks (after_act a (plain_asked a meant)) m kept')
    → OnOk r ((a : Asking) → Asks a m kept → Asks (asking_after a asked) m kept')
unfolding act_of
meant-leaves m kept kept' asked meant (Err no_memory) is none said = tt
meant-leaves m kept kept' asked meant (Ok answer) is none said = λ a asks.
    let P : Request → Type 0 = λ r. Asks (after_act a (plain_asked a r)) m kept' in
    let Q : Option Act → Type 0 = λ o. Asks (after_act a (unwrap_or o (plain_asked a (meant_in a asked)))) m kept' in
    subst Q (sym (none a asks)) (subst P (is a asks) (said a asks))
