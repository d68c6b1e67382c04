-- A sum of a packet: its parts in turn are its acts in turn.
use Rattle.std.proofs.Common.{◌≡◌, ◌+◌, ◌-◌, ◌≤◌, ℕ, List, [], ◌∷◌, ◌++◌, length, take, drop, refl, sym, ◌∙◌, ap, subst, inl, inr, arith, length-append}
use Rattle.std.specs.Prelude.{Option, Some, None, Result, Ok, Err, OnOk, OnErr, IfOk}
use Rattle.std.specs.Option.{option_or}
use Rattle.std.specs.Int.{w32, to_le_bytes}
use Rattle.return_codes.specs.declared.code.Code.{Code}
use Rattle.return_codes.specs.Code.{number_of}
use Rattle.spec_formats.specs.Codes.{no_error}
use Rattle.spec_formats.specs.Groups.{sum_read, sum_write, sum_read_write, group_of, group_in}
use Rattle.spec_formats.specs.Request.{Request, ReadWrite}
use Rattle.spec_machine.specs.World.{setup_of}
use Rattle.spec_machine.specs.Acts.{Act, Refusal, fixed_data, outcome_of, outcomes_of, memory_after_acts, client_after_acts}
use Rattle.spec_machine.specs.Answers.{answered_group, READ_WRITE}
use Rattle.spec_machine.specs.Client.{client_after}
use Rattle.spec_machine.specs.Decisions.{Decision, Perform, Sum, acts_in, refuse}
use Rattle.spec_machine.specs.Replies.{reply_payload, outcome_in_all}
use Rattle.spec_machine.specs.Sums.{SumRequest, given_in_turn, left_in_turn, packed}
use Rattle.spec_machine.specs.Manner.{Manner}
use Rattle.spec_machine.specs.MoreSums.{sum_delete, more_sums}
use Rattle.spec_machine.proofs.MoreSums.{more_sums-none}
use Rattle.spec_machine.specs.SumPackets.{acts_of, sum_of_group, decide_parts, decide_read_write, decide_request}
use Rattle.sum_commands.specs.Parts.{code_in}
use Rattle.sum_commands.specs.Stops.{StopsAmong, Stops, Wants, Done}
use Rattle.sum_commands.specs.SumCommand.{sum_of, refusal_in, refused_by, sum_reply, left_by_sum}
use Rattle.std.proofs.lemmas.List.{append-nil}
use Rattle.port_device.specs.PortMemory.{PortMemory}
use Rattle.session.specs.Asking.{Asking}
use Rattle.session.specs.Asks.{Asks}
use Rattle.session.specs.Watching.{NotesFor}
use Rattle.ams_tcp.specs.Held.{Held}
use Rattle.ams_header.specs.Header.{address_of}
use Rattle.session.specs.Runs.{AsksSession, Runs, IsSumGroup, IsSumOf, decision_of, ending_of, after_acts}
use Rattle.session.specs.SessionState.{SessionState}
use Rattle.session.specs.declared.single.Single as declared
use Rattle.session.specs.Single.{SumState, IsSingle, StillLent, MayLeave, part_outcome, state_after}
use Rattle.sum_commands.specs.Served.{StandsForSome}
use Rattle.type_layout.specs.Descriptions.{rights_of}
use Rattle.ads_base.specs.declared.no_memory.NoMemory.{NoMemory}
use Rattle.session.specs.Plain.{data_payload}
use Rattle.session.proofs.ReplyLemmas.{data-filled, read_write-payload}

-- the acts of parts, each on what those before it left
abbrev pub acts_asked : Asking → List Request → List Act
acts_asked a rs = acts_of (setup_of a.world) a.client a.asker rs

turn-outcomes : (x : SumState) (rs : List Request) → given_in_turn part_outcome state_after x rs ≡ outcomes_of x.asking.world.memory (acts_asked x.asking rs)
unfolding given_in_turn outcomes_of acts_of
turn-outcomes x [] = refl
turn-outcomes x (r ∷ rs) = ap (λ os. part_outcome x r ∷ os) (turn-outcomes (state_after x r) rs)

turn-state : (x : SumState) (rs : List Request)
    → ◌≡◌ {A = SumState} (left_in_turn state_after x rs) (record { asking = after_acts x.asking (acts_asked x.asking rs); begun = x.begun })
unfolding given_in_turn left_in_turn acts_of memory_after_acts client_after_acts
turn-state x [] = refl
turn-state x (r ∷ rs) = turn-state (state_after x r) rs

-- what the sum of a group is decided to be

abbrev Decides : Asking → ℕ → ℕ → List ℕ → ℕ → Type 0
Decides a n len bytes g = decision_of a (ReadWrite g n len bytes)
    ≡ decide_parts (setup_of a.world) a.client a.asker (sum_of g n bytes) (refusal_in (sum_of g n bytes) n (length bytes) len)

decided : (a : Asking) (g n len : ℕ) (bytes : List ℕ) (known : Option (ℕ → List ℕ → SumRequest)) → more_sums a.world.profile g ≡ known
    → decision_of a (ReadWrite g n len bytes)
    ≡ decide_read_write (setup_of a.world) a.client a.asker (option_or known (sum_of_group (answered_group READ_WRITE g))) g n len bytes
unfolding decide_request
decided a g n len bytes known is =
    ap (λ o. decide_read_write (setup_of a.world) a.client a.asker (option_or o (sum_of_group (answered_group READ_WRITE g))) g n len bytes) is

reads-decide : (a : Asking) (n len : ℕ) (bytes : List ℕ) → Decides a n len bytes sum_read
unfolding answered_group group_of group_in
reads-decide a n len bytes = decided a sum_read n len bytes None (more_sums-none a.world.profile sum_read refl)

writes-decide : (a : Asking) (n len : ℕ) (bytes : List ℕ) → Decides a n len bytes sum_write
unfolding answered_group group_of group_in
writes-decide a n len bytes = decided a sum_write n len bytes None (more_sums-none a.world.profile sum_write refl)

read_writes-decide : (a : Asking) (n len : ℕ) (bytes : List ℕ) → Decides a n len bytes sum_read_write
unfolding answered_group group_of group_in
read_writes-decide a n len bytes = decided a sum_read_write n len bytes None (more_sums-none a.world.profile sum_read_write refl)

group-decides : (a : Asking) (group n len : ℕ) (bytes : List ℕ) → IsSumGroup group → Decides a n len bytes group
group-decides a group n len bytes (inl e) = subst (Decides a n len bytes) (sym e) (reads-decide a n len bytes)
group-decides a group n len bytes (inr (inl e)) = subst (Decides a n len bytes) (sym e) (writes-decide a n len bytes)
group-decides a group n len bytes (inr (inr e)) = subst (Decides a n len bytes) (sym e) (read_writes-decide a n len bytes)

sum-decides : (a : Asking) (group n len : ℕ) (bytes : List ℕ) → IsSumOf a.world.profile.manner group → Decides a n len bytes group
sum-decides a group n len bytes (inl is) = group-decides a group n len bytes is
sum-decides a group n len bytes (inr more) = decided a group n len bytes (Some (sum_of group)) more.own

-- a sum that is refused

refused-decision : (a : Asking) (group n len : ℕ) (bytes : List ℕ) (code : Code) → IsSumOf a.world.profile.manner group
    → refused_by {X = Unit {0}} (Err code) ≡ refusal_in (sum_of group n bytes) n (length bytes) len
    → decision_of a (ReadWrite group n len bytes) ≡ refuse (number_of code)
refused-decision a group n len bytes code is said =
    sum-decides a group n len bytes is
    ∙ ap (λ o. decide_parts (setup_of a.world) a.client a.asker (sum_of group n bytes) o) (sym said)

pub refused-runs : (a : Asking) (group n len : ℕ) (bytes : List ℕ) (code : Code)
    (m m' : PortMemory) (s s' : SessionState) (old mid whole new : List ℕ) (start number : ℕ)
    → IsSumOf a.world.profile.manner group → AsksSession a m s → m' ≡ m → s' ≡ s
    → refused_by {X = Unit {0}} (Err code) ≡ refusal_in (sum_of group n bytes) n (length bytes) len
    → whole ≡ mid → number ≡ number_of code → start ≡ length old → length mid ≡ length old + 8 → take (length old) mid ≡ old
    → new ≡ take start whole ++ (to_le_bytes w32 number ++ (to_le_bytes w32 (length whole - (start + 8)) ++ drop (start + 8) whole))
    → Runs a (ReadWrite group n len bytes) old new m' s'
unfolding outcomes_of outcome_in_all memory_after_acts client_after_acts client_after
refused-runs a group n len bytes code m m' s s' old mid whole new start number is h same_m same_s said is_data is_number is_start long begins filled =
    let d : decision_of a (ReadWrite group n len bytes) ≡ refuse (number_of code) = refused-decision a group n len bytes code is said in
    let payload : new ≡ old ++ data_payload (number_of code) [] =
    data-filled old mid whole new [] start number (number_of code) (is_data ∙ sym (append-nil mid)) is_number is_start long begins filled in
    let own : reply_payload 9 (outcome_of a.world.memory (Refusal (number_of code))) ≡ data_payload (number_of code) [] =
    read_write-payload a.world.memory (Refusal (number_of code)) in
    let R : Decision → Type 0 = λ x. new ≡ old ++ reply_payload 9 (ending_of x a.world.memory) in
    let A : Decision → Type 0 = λ x. AsksSession (after_acts a (acts_in x)) m' s' in
    let M : PortMemory → Type 0 = λ k. AsksSession a k s' in
    let S : SessionState → Type 0 = λ k. AsksSession a m k in
    record {
      reply = subst R (sym d) (payload ∙ ap (λ x. old ++ x) (sym own));
      after = subst A (sym d) (subst M (sym same_m) (subst S (sym same_s) h));
    }

-- a sum that runs

ran-decision : (a : Asking) (group n len : ℕ) (bytes : List ℕ) → IsSumOf a.world.profile.manner group
    → refused_by {X = Unit {0}} (Ok tt) ≡ refusal_in (sum_of group n bytes) n (length bytes) len
    → decision_of a (ReadWrite group n len bytes) ≡ Perform (acts_asked a (sum_of group n bytes).parts) (Sum (sum_of group n bytes).form)
ran-decision a group n len bytes is said =
    sum-decides a group n len bytes is
    ∙ ap (λ o. decide_parts (setup_of a.world) a.client a.asker (sum_of group n bytes) o) (sym said)

packed-payload : (bytes : List ℕ) → reply_payload 9 (record { code = no_error; bytes = bytes }) ≡ data_payload no_error bytes
packed-payload bytes =
    ap (λ b. reply_payload 9 (record { code = no_error; bytes = b })) (sym (append-nil bytes)) ∙ read_write-payload [] (fixed_data bytes)
    ∙ ap (λ b. data_payload no_error b) (append-nil bytes)

-- a session of what is lent, behind a stream
abbrev pub session_of : Held → declared.Single → SessionState
session_of stream single = record { stream = stream; handles = single.handles.now; watches = single.watches.now }

pub ran-runs : (a : Asking) (group n len : ℕ) (bytes : List ℕ) (stream : Held) (m' : PortMemory)
    (s' : SessionState) (before single : declared.Single) (old mid whole new : List ℕ) (start : ℕ)
    → IsSumOf a.world.profile.manner group → single.port.now ≡ m' → s' ≡ session_of stream single
    → refused_by {X = Unit {0}} (Ok tt) ≡ refusal_in (sum_of group n bytes) n (length bytes) len
    → whole ≡ mid ++ sum_reply part_outcome state_after (record { asking = a; begun = before }) (sum_of group n bytes)
    → IsSingle single (left_by_sum state_after (record { asking = a; begun = before }) (sum_of group n bytes))
    → start ≡ length old → length mid ≡ length old + 8 → take (length old) mid ≡ old
    → new ≡ take start whole ++ (to_le_bytes w32 0 ++ (to_le_bytes w32 (length whole - (start + 8)) ++ drop (start + 8) whole))
    → Runs a (ReadWrite group n len bytes) old new m' s'
unfolding outcome_in_all
ran-runs a group n len bytes stream m' s' before single old mid whole new start is
    same_m s_is said is_data stands is_start long begins filled =
    let x : SumState = record { asking = a; begun = before } in
    let parts = (sum_of group n bytes).parts in
    let form = (sum_of group n bytes).form in
    let d : decision_of a (ReadWrite group n len bytes) ≡ Perform (acts_asked a parts) (Sum form) = ran-decision a group n len bytes is said in
    let all = packed form (outcomes_of a.world.memory (acts_asked a parts)) in
    let turned : whole ≡ mid ++ all = is_data ∙ ap (λ os. mid ++ packed form os) (turn-outcomes x parts) in
    let payload : new ≡ old ++ data_payload no_error all = data-filled old mid whole new all start 0 no_error turned refl is_start long begins filled in
    let I : SumState → Type 0 = λ y. IsSingle single y in
    let now = subst I (turn-state x parts) stands in
    let b = after_acts a (acts_asked a parts) in
    let own : AsksSession b single.port.now (session_of stream single) = record {
      held = now.asks.held;
      stands = record { handles = now.asks.handles; additions = now.notes.additions; watches = now.notes.watches };
    } in
    let P : PortMemory → Type 0 = λ k. AsksSession b k (session_of stream single) in
    let S : SessionState → Type 0 = λ k. AsksSession b m' k in
    let after = subst S (sym s_is) (subst P same_m own) in
    let R : Decision → Type 0 = λ y. new ≡ old ++ reply_payload 9 (ending_of y a.world.memory) in
    let A : Decision → Type 0 = λ y. AsksSession (after_acts a (acts_in y)) m' s' in
    record {
      reply = subst R (sym d) (payload ∙ ap (λ y. old ++ y) (sym (packed-payload all)));
      after = subst A (sym d) after;
    }

-- after want of memory too only bytes of the port are others
stopped-lent : (rs : List Request) (x : SumState) (single : declared.Single) → StopsAmong IsSingle state_after MayLeave rs x single
    → StillLent x.begun single
stopped-lent rs x single (Stops stands) = stands.lent
stopped-lent (r ∷ rs) x single (Wants leaves) = leaves
stopped-lent (r ∷ rs) x single (Done later) = stopped-lent rs (state_after x r) single later

-- a sum, whether it is refused or runs
pub sum-runs : (a : Asking) (group n len : ℕ) (bytes : List ℕ) (m m' : PortMemory) (s s' : SessionState) (before after : declared.Single)
    (old mid whole new : List ℕ) (start number : ℕ) (answer : Result (Unit {0}) Code)
    → refused_by answer ≡ refusal_in (sum_of group n bytes) n (length bytes) len
    → OnErr answer ((after ≡ before) × (whole ≡ mid))
    → OnOk answer ((x : SumState) → IsSingle before x → whole ≡ mid ++ sum_reply part_outcome state_after x (sum_of group n bytes))
    → OnOk answer ((x : SumState) → IsSingle before x → IsSingle after (left_by_sum state_after x (sum_of group n bytes)))
    → IsSumOf a.world.profile.manner group → AsksSession a m s → IsSingle before (record { asking = a; begun = before })
    → before.port.now ≡ m → session_of s.stream before ≡ s → after.port.now ≡ m' → s' ≡ session_of s.stream after
    → number ≡ code_in answer → start ≡ length old → length mid ≡ length old + 8 → take (length old) mid ≡ old
    → new ≡ take start whole ++ (to_le_bytes w32 number ++ (to_le_bytes w32 (length whole - (start + 8)) ++ drop (start + 8) whole))
    → Runs a (ReadWrite group n len bytes) old new m' s'
sum-runs a group n len bytes m m' s s' before after old mid whole new start number
    (Err code) said err reply leaves is h single port_is session_is port_after s_is is_number is_start long begins filled =
    let same_m : m' ≡ m = sym port_after ∙ ap (λ (x : declared.Single). x.port.now) err.0 ∙ port_is in
    let same_s : s' ≡ s = s_is ∙ ap (session_of s.stream) err.0 ∙ session_is in
    refused-runs a group n len bytes code m m' s s' old mid whole new start number is h same_m same_s said err.1 is_number is_start long begins filled
sum-runs a group n len bytes m m' s s' before after old mid whole new start number
    (Ok done) said err reply leaves is h single port_is session_is port_after s_is is_number is_start long begins filled =
    let x : SumState = record { asking = a; begun = before } in
    ran-runs a group n len bytes s.stream m' s' before after old mid whole new start is port_after s_is
    said (reply x single) (leaves x single) is_start long begins
    (filled ∙ ap (λ k. take start whole ++ (to_le_bytes w32 k ++ (to_le_bytes w32 (length whole - (start + 8)) ++ drop (start + 8) whole))) is_number)

-- what is lent stands for one who asks with these rights and from this address
pub stands-for-some : (s : declared.Single) (a : Asking) → Asks a s.port.now s.handles.now → NotesFor a.world.plant.ports a.client s.watches.now
    → StandsForSome IsSingle s
stands-for-some s a asks notes = record {
  state = record {
    asking = record {
      world = a.world;
      client = a.client;
      asker = record { port = a.asker.port; address = address_of s.asker.source; rights = rights_of s.asker.rights };
    };
    begun = s;
  };
  stands = record {
    asks = record { held = asks.held; handles = asks.handles };
    asker = record { net_is = refl; rights_are = refl };
    address = refl;
    lent = record { handles = refl; watches = refl; port = refl; keeps = refl };
    notes = notes;
  };
}

-- the sum begins now
abbrev pub begun_now : declared.Single → SumState → SumState
begun_now s x = record { asking = x.asking; begun = s }

pub begins-now : (s : declared.Single) (x : SumState) → IsSingle s x → IsSingle s (begun_now s x)
begins-now s x h = record {
  asks = h.asks;
  asker = h.asker;
  address = h.address;
  lent = record { handles = refl; watches = refl; port = refl; keeps = refl };
  notes = h.notes;
}

-- what stands behind a sum is no shorter than what stood there
sum-grows : (before after : declared.Single) (x : SumState) (s : SumRequest) (old new : List ℕ) (answer : Result (Unit {0}) Code) → IsSingle before x
    → OnErr answer ((after ≡ before) × (new ≡ old))
    → OnOk answer ((y : SumState) → IsSingle before y → new ≡ old ++ sum_reply part_outcome state_after y s) → length old ≤ length new
sum-grows before after x s old new (Ok done) single err reply =
    let e = reply x single in omega (arith, ap length e, length-append old (sum_reply part_outcome state_after x s))
sum-grows before after x s old new (Err code) single err reply = omega (arith, ap length err.1)

pub ok-grows : (before after : declared.Single) (x : SumState) (s : SumRequest) (old new : List ℕ) (r : Result (Result (Unit {0}) Code) NoMemory)
    → IsSingle before x
    → IfOk r (λ answer. OnErr answer ((after ≡ before) × (new ≡ old)))
    → IfOk r (λ answer. OnOk answer ((y : SumState) → IsSingle before y → new ≡ old ++ sum_reply part_outcome state_after y s))
    → IfOk r (λ answer. length old ≤ length new)
ok-grows before after x s old new (Ok answer) single err reply = sum-grows before after x s old new answer single err reply
ok-grows before after x s old new (Err no_memory) single err reply = tt

left-lent : (v : declared.Single) (y : SumState) (rs : List Request) → IsSingle v (left_in_turn state_after y rs) → StillLent y.begun v
left-lent v y rs stands = let I : SumState → Type 0 = λ z. IsSingle v z in (subst I (turn-state y rs) stands).lent

-- whether it is refused, runs or wants memory, only bytes of the port are others
pub sum-lent : (before after : declared.Single) (x : SumState) (s : SumRequest) (out out' : List ℕ) (r : Result (Result (Unit {0}) Code) NoMemory)
    → IsSingle before x
    → IfOk r (λ answer. OnErr answer ((after ≡ before) × (out' ≡ out)))
    → IfOk r (λ answer. OnOk answer ((y : SumState) → IsSingle before y → IsSingle after (left_by_sum state_after y s)))
    → OnErr r ((y : SumState) → IsSingle before y → StopsAmong IsSingle state_after MayLeave s.parts y after)
    → StillLent x.begun after
sum-lent before after x s out out' (Ok (Ok done)) single err leaves wants = left-lent after x s.parts (leaves x single)
sum-lent before after x s out out' (Ok (Err code)) single err leaves wants =
    let K : declared.Single → Type 0 = λ v. StillLent x.begun v in subst K (sym err.0) single.lent
sum-lent before after x s out out' (Err no_memory) single err leaves wants = stopped-lent s.parts x after (wants x single)

group-range : (group : ℕ) → IsSumGroup group → (sum_read ≤ group) × (group ≤ sum_delete)
group-range group (inl e) = (omega (arith, e), omega (arith, e))
group-range group (inr (inl e)) = (omega (arith, e), omega (arith, e))
group-range group (inr (inr e)) = (omega (arith, e), omega (arith, e))

pub in-range : (x : Manner) (group : ℕ) → IsSumOf x group → (sum_read ≤ group) × (group ≤ sum_delete)
in-range x group (inl is) = group-range group is
in-range x group (inr more) = (omega (arith, more.from), more.to)
