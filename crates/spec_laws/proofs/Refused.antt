-- A refusal changes nothing, a dead handle touches nothing, and no number is given twice.
use Rattle.std.proofs.Common.{◌≡◌, ◌≢◌, ◌⊎◌, ℕ, ◌<◌, List, [], ◌∷◌, length, Bool, true, false, cond, refl, sym, ◌∙◌, ap, subst, inl, inr, arith}
use Rattle.std.specs.Prelude.{Option, Some, None, option_map, unwrap_or, Result, Ok, Err, nat_lt, ◌==◌, ◌||◌}
use Rattle.std.proofs.lemmas.Bool.{cases_Bool, le-ltb, ltb-false, eq-eqb, false≢true}
use Rattle.spec_plant.specs.World.{PlantPort, Block}
use Rattle.spec_formats.specs.Codes.{no_error, invalid_group, invalid_size, not_permitted, mode_not_supported, watch_too_big}
use Rattle.spec_formats.specs.Groups.{Group, ValueByHandle, value_by_handle, group_in, group_of}
use Rattle.spec_formats.specs.Request.{Request}
use Rattle.spec_machine.specs.Moves.{state_after_move}
use Rattle.spec_machine.specs.Events.{state_after_event}
use Rattle.spec_machine.specs.World.{Setup, setup_of}
use Rattle.spec_machine.specs.Access.{Addressed}
use Rattle.spec_machine.specs.Handles.{HandleStatus, Never, Released, Outdated, Live, kept_status}
use Rattle.spec_machine.specs.Watches.{Mode}
use Rattle.spec_machine.specs.Client.{Place, Client, client_after}
use Rattle.spec_machine.specs.Acts.{Act, Refusal, Allowed, outcomes_of, memory_after_acts, client_after_acts}
use Rattle.spec_machine.specs.Answers.{answered_group, groups_of_command, READ, WRITE, READ_WRITE, ADD_DEVICE_NOTIFICATION}
use Rattle.spec_machine.specs.Reach.{addressed_by_status, reach_of}
use Rattle.spec_machine.specs.Reads.{read_group}
use Rattle.spec_machine.specs.Writes.{Asker, may_write, write_group}
use Rattle.spec_machine.specs.ByName.{read_write_group}
use Rattle.spec_machine.specs.Meanings.{read_len_in, mode_in}
use Rattle.spec_machine.specs.Requests.{MAX_WATCHED, mode_of, add_of_reach, add_act, plain_act, act_of}
use Rattle.spec_machine.proofs.Meanings.{mode-kept}
use Rattle.spec_machine.proofs.MoreActs.{more_read_write-none, more_read-none, more_add-none}
use Rattle.spec_machine.specs.MoreActs.{device_data, states_reach, version_reach, more_read, more_add}
use Rattle.spec_machine.specs.Manner.{Manner, Strict, Wide}
use Rattle.spec_formats.specs.Groups.{symbol_version}
use Rattle.spec_machine.specs.Sums.{SumRequest, sum_of_reads, sum_of_writes, sum_of_read_writes, given_in_turn}
use Rattle.spec_machine.specs.Decisions.{Single, Decision, NoAnswer, EndConnection, AmsError, Perform, acts_in}
use Rattle.spec_machine.specs.SumPackets.{acts_of, decide_single, decide_parts}
use Rattle.spec_machine.specs.Packets.{decide}
use Rattle.spec_machine.specs.Replies.{outcome_in_all, performed}
use Rattle.spec_machine.proofs.DecisionCases.{decide-cases}
use Rattle.spec_laws.specs.Refusals.{RefusalChangesNothing, IsTurnedAway, TurnedAwayChangesNothing}
use Rattle.spec_laws.specs.Refusals.{result_told, ResultChangesNothing, RefusedReloadCounts, dead_code}
use Rattle.spec_laws.specs.Refusals.{IsRefused, IsUnwatched, IsBadAddition, BadAdditionsAreRefused, RefusesHandle, RefusesAnyForm}
use Rattle.spec_laws.specs.Refusals.{DeadHandleTouchesNothing}

pub refusal_changes_nothing : RefusalChangesNothing
unfolding client_after
refusal_changes_nothing memory c (Refusal code) ne = record { memory_stays = refl; client_stays = refl }
refusal_changes_nothing memory c (Allowed a) ne = absurd (ne refl)

no_acts : (x : Decision) → IsTurnedAway x → acts_in x ≡ []
no_acts x (inl e) = ap acts_in e
no_acts x (inr (inl e)) = ap acts_in e
no_acts x (inr (inr (code, e))) = ap acts_in e

pub turned_away_changes_nothing : TurnedAwayChangesNothing
unfolding performed memory_after_acts client_after_acts
turned_away_changes_nothing w c packet away =
    let none = no_acts (decide _ c packet) away in
    record {
      world_stays = ap (λ acts. record w { memory = memory_after_acts w.memory acts }) none;
      client_stays = ap (λ acts. client_after_acts c acts) none;
    }

-- a decision whose reply tells a result other than 0 does nothing
record Refuses (c : Client) (x : Decision) : Type 0 where
  memory : (m : List Block) → result_told x m ≢ no_error → memory_after_acts m (acts_in x) ≡ m
  client : (m : List Block) → result_told x m ≢ no_error → client_after_acts c (acts_in x) ≡ c

-- one that tells no result
tells_none : (c : Client) (x : Decision) → ((m : List Block) → result_told x m ≡ no_error) → Refuses c x
tells_none c x none = record { memory = λ m told. absurd (told (none m)); client = λ m told. absurd (told (none m)) }

one_act : (c : Client) (a : Act) → Refuses c (Perform (a ∷ []) Single)
unfolding outcomes_of outcome_in_all memory_after_acts client_after_acts client_after
one_act c (Refusal code) = record { memory = λ m told. refl; client = λ m told. refl }
one_act c (Allowed a) = record { memory = λ m told. absurd (told refl); client = λ m told. absurd (told refl) }

single-refuses : (d : Setup) (c : Client) (k : Asker) (r : Request) → Refuses c (decide_single d c k r)
unfolding acts_of given_in_turn
single-refuses d c k r = one_act c (act_of d c k r)

parts-refuse : (d : Setup) (c : Client) (k : Asker) (s : SumRequest) (o : Option ℕ) → Refuses c (decide_parts d c k s o)
unfolding outcome_in_all
parts-refuse d c k s (Some code) = one_act c (Refusal code)
parts-refuse d c k s None = tells_none c (decide_parts d c k s None) (λ m. refl)

decide-refuses : (d : Setup) (c : Client) (packet : List ℕ) → Refuses c (decide d c packet)
decide-refuses d c packet =
    decide-cases d c (Refuses c)
    (record {
      silent = tells_none c NoAnswer (λ m. refl);
      ends = tells_none c EndConnection (λ m. refl);
      error = λ code. tells_none c (AmsError code) (λ m. refl);
      refused = λ code. one_act c (Refusal code);
      single = λ k number e r. single-refuses d c k r;
      reads = λ k number e n len bytes. parts-refuse d c k (sum_of_reads n bytes) _;
      writes = λ k number e n len bytes. parts-refuse d c k (sum_of_writes n bytes) _;
      read_writes = λ k number e n len bytes. parts-refuse d c k (sum_of_read_writes n bytes) _;
      more = λ k number e group sum is n len bytes. parts-refuse d c k (sum n bytes) _;
    })
    packet

pub result_changes_nothing : ResultChangesNothing
unfolding performed
result_changes_nothing w c packet told =
    let r = decide-refuses (setup_of w) c packet in
    record {
      world_stays = ap (λ (m : List Block). record w { memory = m }) (r.memory w.memory told);
      client_stays = r.client w.memory told;
    }

pub refused_reload_counts : RefusedReloadCounts
unfolding state_after_move state_after_event
refused_reload_counts reading s bytes fault e = rw e refl

dead-reach : (port : ℕ) (s : HandleStatus Place) (code len : ℕ) → dead_code s ≡ Some code → addressed_by_status port s len ≡ Err code
dead-reach port Never code len e = cc
dead-reach port Released code len e = cc
dead-reach port Outdated code len e = cc
dead-reach port (Live place) code len e = cc

-- a command answers the group of values by handle, or no group of that number
pub by_handle : (command : ℕ) → (answered_group command value_by_handle ≡ Some ValueByHandle) ⊎ (answered_group command value_by_handle ≡ None)
unfolding answered_group group_of group_in
by_handle command =
    elim (cases_Bool (groups_of_command command ValueByHandle)) [
      | inl t ↦ inl (rw t refl)
      | inr t ↦ inr (rw t refl)
    ]

read_group-none : (d : Setup) (c : Client) (p : PlantPort) (offset len : ℕ) → IsRefused (read_group d c p None offset len)
unfolding read_group reach_of
read_group-none d c p offset len = (invalid_group, refl)

reach-none : (c : Client) (p : PlantPort) (offset len : ℕ) → reach_of c p None offset len ≡ Err invalid_group
unfolding reach_of
reach-none c p offset len = refl

-- an addition of no mode, of too many bytes or of none, or of what is refused
abbrev IsBad : ℕ → Option Mode → Result (List Addressed) ℕ → Type 0
IsBad len m r = (m ≡ None) ⊎ ((MAX_WATCHED < len) ⊎ ((len ≡ 0) ⊎ ((code : ℕ) × (r ≡ Err code))))

bad-addition : (c : Client) (k : Asker) (len cycle : ℕ) (m : Option Mode) (r : Result (List Addressed) ℕ)
    → IsBad len m r → IsRefused (add_of_reach c k len cycle m r)
bad-addition c k len cycle None r bad = (mode_not_supported, refl)
bad-addition c k len cycle (Some mode) r bad =
    elim (cases_Bool (nat_lt MAX_WATCHED len)) [
      | inl t ↦ (watch_too_big, rw t refl)
      | inr t ↦ reached r t bad
    ]
  where
    none : (watched : List Addressed) → nat_lt MAX_WATCHED len ≡ false → (len == 0) ≡ false → IsBad len (Some mode) (Ok watched) → ⊥
    none watched t z (inl m) = cc
    none watched t z (inr (inl l)) = let few = ltb-false MAX_WATCHED len t in omega (arith, few, l)
    none watched t z (inr (inr (inl empty))) = false≢true (sym z ∙ eq-eqb len 0 empty)
    none watched t z (inr (inr (inr (code, e)))) = cc

    reached : (x : Result (List Addressed) ℕ) → nat_lt MAX_WATCHED len ≡ false → IsBad len (Some mode) x
        → IsRefused (add_of_reach c k len cycle (Some mode) x)
    reached (Err code) t b = (code, rw t refl)
    reached (Ok watched) t b =
        elim (cases_Bool (len == 0)) [
          | inl z ↦ (invalid_size, rw (t, z) refl)
          | inr z ↦ absurd (none watched t z b)
        ]

add-refused : (c : Client) (k : Asker) (g : Option Group) (offset len cycle code : ℕ) (mode : Option Mode)
    → reach_of c k.port g offset len ≡ Err code → IsRefused (add_act c k g offset len cycle mode)
add-refused c k g offset len cycle code mode e = bad-addition c k len cycle mode (reach_of c k.port g offset len) (inr (inr (inr (code, e))))

pub bad_additions_are_refused : BadAdditionsAreRefused
unfolding act_of plain_act
bad_additions_are_refused d c k group offset len number delay cycle bad = go d.profile.manner bad
  where
    reached : Result (List Addressed) ℕ
    reached = reach_of c k.port (answered_group ADD_DEVICE_NOTIFICATION group) offset len

    plain : Manner → Act
    plain x = add_of_reach c k len cycle (mode_of (mode_in x number)) reached

    refused : answered_group ADD_DEVICE_NOTIFICATION group ≡ None → (code : ℕ) × (reached ≡ Err code)
    refused e = (invalid_group, ap (λ o. reach_of c k.port o offset len) e ∙ reach-none c k.port offset len)

    -- a group that is watched is bad by its mode or its length
    known : (m : Option Mode) (r : Result (List Addressed) ℕ) → (IsUnwatched Wide group → ⊥)
        → (m ≡ None) ⊎ ((MAX_WATCHED < len) ⊎ ((len ≡ 0) ⊎ IsUnwatched Wide group)) → IsBad len m r
    known m r watched (inl e) = inl e
    known m r watched (inr (inl l)) = inr (inl l)
    known m r watched (inr (inr (inl z))) = inr (inr (inl z))
    known m r watched (inr (inr (inr u))) = absurd (watched u)

    other : (m : Option Mode) → (m ≡ None) ⊎ ((MAX_WATCHED < len) ⊎ ((len ≡ 0) ⊎ (answered_group ADD_DEVICE_NOTIFICATION group ≡ None))) → IsBad len m reached
    other m (inl e) = inl e
    other m (inr (inl l)) = inr (inl l)
    other m (inr (inr (inl z))) = inr (inr (inl z))
    other m (inr (inr (inr u))) = inr (inr (inr (refused u)))

    answered : (m : Option Mode) → (m ≡ None) ⊎ ((MAX_WATCHED < len) ⊎ ((len ≡ 0) ⊎ IsUnwatched Wide group))
        → (m ≡ None) ⊎ ((MAX_WATCHED < len) ⊎ ((len ≡ 0) ⊎ (answered_group ADD_DEVICE_NOTIFICATION group ≡ None)))
    answered m (inl e) = inl e
    answered m (inr (inl l)) = inr (inl l)
    answered m (inr (inr (inl z))) = inr (inr (inl z))
    answered m (inr (inr (inr u))) = inr (inr (inr (u.0)))

    wide : (a b : Bool) → (group == device_data) ≡ a → (group == symbol_version) ≡ b → IsBadAddition Wide group len number
        → IsRefused (unwrap_or (option_map (add_of_reach c k len cycle (mode_of (mode_in Wide number)))
        (cond a (Some (states_reach k.port.number offset len)) (cond b (Some (version_reach k.port.number len)) None))) (plain Wide))
    wide true b e f h =
        bad-addition c k len cycle (mode_of (mode_in Wide number)) (states_reach k.port.number offset len)
        (known _ _ (λ u. let g = u.1 in false≢true (sym g ∙ ap (λ (x : Bool). x || (group == symbol_version)) e)) h)
    wide false true e f h =
        bad-addition c k len cycle (mode_of (mode_in Wide number)) (version_reach k.port.number len)
        (known _ _ (λ u. let g = u.1 in false≢true (sym g ∙ ap (λ (x : Bool). x || (group == symbol_version)) e ∙ f)) h)
    wide false false e f h = bad-addition c k len cycle (mode_of (mode_in Wide number)) reached (other _ (answered _ h))

    go : (x : Manner) → IsBadAddition x group len number → IsRefused (unwrap_or (more_add x c k group offset len number cycle) (plain x))
    go Strict h = bad-addition c k len cycle (mode_of (mode_in Strict number)) reached (other _ h)
    go Wide h = wide (group == device_data) (group == symbol_version) refl refl h

read_write-refused : (d : Setup) (c : Client) (p : PlantPort) (g : Option Group) (len : ℕ) (bytes : List ℕ)
    → (g ≡ Some ValueByHandle) ⊎ (g ≡ None) → IsRefused (read_write_group d c p g len bytes)
unfolding read_write_group
read_write-refused d c p g len bytes (inl e) = subst (λ (o : Option Group). IsRefused (read_write_group d c p o len bytes)) (sym e) (invalid_group, refl)
read_write-refused d c p g len bytes (inr e) = subst (λ (o : Option Group). IsRefused (read_write_group d c p o len bytes)) (sym e) (invalid_group, refl)

any_form : (d : Setup) (c : Client) (k : Asker) (handle code : ℕ)
    → dead_code (kept_status c.handles handle k.port.number) ≡ Some code → RefusesAnyForm d c k handle
unfolding act_of plain_act read_group write_group reach_of
any_form d c k handle code dead = record {
  read = λ len. elim (by_handle READ) [
    | inl g ↦ (code, rw (no_read len, g) (let r = reach (read_len_in d.profile.manner c k.port (Some ValueByHandle) handle len) in rw r refl))
    | inr g ↦ (invalid_group, rw (no_read len, g) refl)
  ];
  write = λ bytes. elim (by_handle WRITE) [
    | inl g ↦ elim (cases_Bool (may_write k.rights)) [
      | inl may ↦ (code, rw g (let r = reach (length bytes) in rw (may, r) refl))
      | inr may ↦ (not_permitted, rw g (rw may refl))
    ]
    | inr g ↦ (invalid_group, rw g refl)
  ];
  add = λ len mode delay cycle. rw (no_add len mode cycle) (elim (by_handle ADD_DEVICE_NOTIFICATION) [
    | inl g ↦
        let P : Option Group → Type 0 = λ o. IsRefused (add_act c k o handle len cycle (mode_of (mode_in d.profile.manner mode))) in
        subst P (sym g) (add-refused c k (Some ValueByHandle) handle len cycle code (mode_of (mode_in d.profile.manner mode)) (reach len))
    | inr g ↦
        let P : Option Group → Type 0 = λ o. IsRefused (add_act c k o handle len cycle (mode_of (mode_in d.profile.manner mode))) in
        subst P (sym g) (add-refused c k None handle len cycle invalid_group (mode_of (mode_in d.profile.manner mode)) refl)
  ]);
  read_write = λ len bytes.
      let no_more = more_read_write-none d.profile.manner d value_by_handle len bytes refl in
      rw no_more (read_write-refused d c k.port (answered_group READ_WRITE value_by_handle) _ _ (by_handle READ_WRITE));
}
  where
    reach : (len : ℕ) → addressed_by_status k.port.number (kept_status c.handles handle k.port.number) len ≡ Err code
    reach len = dead-reach k.port.number (kept_status c.handles handle k.port.number) code len dead

    no_read : (len : ℕ) → more_read d.profile.manner k.port.number value_by_handle handle len ≡ None
    no_read len = more_read-none d.profile.manner k.port.number value_by_handle handle len refl

    no_add : (len mode cycle : ℕ) → more_add d.profile.manner c k value_by_handle handle len mode cycle ≡ None
    no_add len mode cycle = more_add-none d.profile.manner c k value_by_handle handle len mode cycle refl refl

refuses_handle : (d : Setup) (c : Client) (k : Asker) (handle code : ℕ)
    → dead_code (kept_status c.handles handle k.port.number) ≡ Some code → RefusesHandle d c k handle code
unfolding act_of plain_act read_group write_group reach_of
refuses_handle d c k handle code dead =
    let reach : (len : ℕ) → addressed_by_status k.port.number (kept_status c.handles handle k.port.number) len ≡ Err code =
    λ len. dead-reach k.port.number (kept_status c.handles handle k.port.number) code len dead in
    record {
      read = λ len g. rw (more_read-none d.profile.manner k.port.number value_by_handle handle len refl, g)
          (let r = reach (read_len_in d.profile.manner c k.port (Some ValueByHandle) handle len) in rw r refl);
      write = λ bytes g may. rw g (let r = reach (length bytes) in rw (may, r) refl);
      write_without_right = λ bytes g may. rw g (rw may refl);
      add = λ len number delay cycle mode g known few.
          let m = mode-kept d.profile.manner number mode known in
          let r = reach len in
          let t = le-ltb MAX_WATCHED len few in
          rw (more_add-none d.profile.manner c k value_by_handle handle len number cycle refl refl, g, m, t, r) refl;
    }

pub dead_handle_touches_nothing : DeadHandleTouchesNothing
dead_handle_touches_nothing d c k handle code dead = (refuses_handle d c k handle code dead, any_form d c k handle code dead)
