-- Each answer of the machine to a bounded call, and so all of them.
use Rattle.std.proofs.Common.{◌≡◌, ◌⊎◌, ℕ, zero, suc, ◌+◌, ◌-◌, ◌*◌, ◌<◌, ◌≤◌, ◌^◌, List, [], ◌∷◌, ◌++◌, length, take, drop, max, Bool, true, false, refl}
use Rattle.std.proofs.Common.{sym, ap, ◌∙◌, subst, inl, inr, arith}
use Rattle.std.specs.Prelude.{Some, None, option_map, ◌==◌, ◌||◌, if◌then◌else◌, filter}
use Rattle.std.proofs.lemmas.Bool.{cases_eq, cond-true, cond-false}
use Rattle.std.proofs.lemmas.List.{append-nil, take-append-drop}
use Rattle.std.proofs.Math.Nat.{max-le, min-le_right}
use Rattle.std.proofs.Math.Seq.{drop-append_seam}
use Rattle.ads_base.specs.declared.peer.Peer.TheVariants as broke
use Rattle.ads_outside.specs.declared.event.Event.TheVariants as event
use Rattle.spec_frames.specs.Frame.{frame_bytes}
use Rattle.spec_frames.specs.Division.{front_of, rest_of}
use Rattle.spec_plant.specs.World.{Plant}
use Rattle.spec_formats.specs.Header.{AmsAddress, IsAddress}
use Rattle.spec_machine.proofs.Find.{test_same, test_other, connection_of-append, connection_of-map, or_else}
use Rattle.spec_machine.proofs.Growth.{connection_after_tick-grows}
use Rattle.spec_machine.specs.AdsDevice.{DescriptionReading}
use Rattle.spec_machine.specs.Client as served
use Rattle.spec_machine.specs.Connection.{MAX_QUEUED, connection_of, fresh_connection, bytes_of_all}
use Rattle.spec_machine.specs.Events.{state_after_event, connection_after_tick}
use Rattle.spec_machine.specs.Moves.{state_after_move}
use Rattle.spec_machine.specs.Offers.{is_closing_at}
use Rattle.spec_machine.specs.Running.{is_to_be_shut}
use Rattle.spec_machine.specs.Ticks.{world_after_tick}
use Rattle.spec_machine.specs.World.{World}
use Rattle.spec_client.specs.Calls.{Call}
use Rattle.spec_client.specs.Client.{Client, new_client, next_id, request_frame, client_after_feed, client_after_issue}
use Rattle.spec_client.specs.Conversation.{LinkAnswer, Bytes, Quiet, Closed, LoopEnd, CallEnded, Budget, Conversation, MAX_QUIET, MAX_ANSWERS}
use Rattle.spec_client.specs.Conversation.{runner_after_answer, conversation_after_turns, conversation_after, moment_of}
use Rattle.spec_client.specs.Hearing.{Hearing, next_hearing}
use Rattle.spec_client.specs.Runner.{Send, Turns, turns, is_not_yet, new_runner}
use Rattle.spec_client.specs.Stages.{BadPeer, Stage}
use Rattle.spec_client.specs.Steps.{begun}
use Rattle.spec_client.proofs.TurnsUnfolded.{at}
use Rattle.spec_local.specs.LocalCall.{Cutting, LocalScene, LOCAL_TICK, LAST_MOMENT, next_tick, answered, waiting_or, waiting_bytes, bytes_taken}
use Rattle.spec_local.specs.LocalCall.{answer_after_tick, local_answer, machine_after_pieces, scene_after, answer_in, scene_behind, scene_after_answers}
use Rattle.spec_local.specs.LocalCall.{scene_begun}
use Rattle.spec_local.proofs.Scenes.{over_stays, one_more, scene_stays, scene_goes_on}
use Rattle.spec_cutting.specs.Laws.{ClosesAlone, byte_by_byte}
use Rattle.spec_cutting.proofs.FedTurns.{still, turns_wait}
use Rattle.spec_cutting.proofs.JoinedCalls.{end_cases}
use Rattle.spec_cutting.proofs.LocalCuts.{cuttings_are_one, links_are_one}
use Rattle.spec_cutting.proofs.Takes.{HasOne, taken_by}
use Rattle.spec_local_room.specs.Laws.{is_setting, closed_step, IsLocal, LocalCallsHaveRoom, LocalCallsAreOne, LocalLinksAreOne, EndsAnswered, LocalCallsEnd}
use Rattle.spec_local_room.proofs.Coming.{no_frames, no_rest, none_short, length-frame_bytes}
use Rattle.spec_local_room.proofs.Hearing.{IsSilent, IsSampleOf, tick_keeps, silent_hears}
use Rattle.spec_local_room.proofs.Turning.{sends_one, IsBehind, is_behind, end_so}
use Rattle.spec_local_room.proofs.TickingAll.{KeepsAll, Quiets, Sends, BecomesSo, HasFewSamples, TickedAll, ticked_all}
use Rattle.spec_local_room.proofs.Ticking.{KeepsFew, Ticked, ticked}
use Rattle.spec_client.specs.Recordings.{is_recorded}
use Rattle.spec_local_room.proofs.Leading.{frames_left, awaits_on, begins}
use Rattle.spec_local_room.proofs.Scenes.{Machine, Link, Stands, Talks, Sampling, SamplingAll, Listening, ListeningAll, FRAME, Waits, Rests, Good, issued_is}
use Rattle.spec_local_room.proofs.Scenes.{issued, issued_silent, device, asked, one_more_out}
use Rattle.spec_local_room.proofs.Stepping.{Given, waits_so, StepsTo, step_still, no_end}
use Rattle.spec_local_room.proofs.Running.{take_step}
use Rattle.spec_client.specs.PassedOver.{says_something}

-- what the machine answers

first_answer : (reading : DescriptionReading) (most : ℕ) (s : Machine) (other : Given) (b : ℕ) (bs : List ℕ) → waiting_bytes s ≡ b ∷ bs
    → waiting_or (state_after_event (device reading)) most s other (waiting_bytes s)
    ≡ answered (Bytes (b ∷ take most bs) s.moment) (taken_by (length (b ∷ take most bs)) s)
unfolding bytes_taken state_after_move
first_answer reading most s other b bs waits = ap (waiting_or (state_after_event (device reading)) most s other) waits

other_answer : (reading : DescriptionReading) (most : ℕ) (s : Machine) (other : Given) → waiting_bytes s ≡ []
    → waiting_or (state_after_event (device reading)) most s other (waiting_bytes s) ≡ other
other_answer reading most s other none = ap (waiting_or (state_after_event (device reading)) most s other) none

cut_parts : (most b : ℕ) (bs : List ℕ) → b ∷ bs ≡ (b ∷ take most bs) ++ drop most bs
cut_parts most b bs = ap (λ l. b ∷ l) (sym (take-append-drop most bs))

-- the first bytes of what waits
taken_step : (reading : DescriptionReading) (sets : Bool) (me peer : AmsAddress) (most : ℕ) (s : Machine) (c : Conversation) (other : Given)
    → IsAddress me → IsAddress peer → (x : Waits sets me peer s c)
    → StepsTo reading sets me peer c (waiting_or (state_after_event (device reading)) most s other (waiting_bytes s))
taken_step reading sets me peer most s c other mine theirs x = go x.w refl
  where
    go : (w : List ℕ) → x.w ≡ w → StepsTo reading sets me peer c (waiting_or (state_after_event (device reading)) most s other (waiting_bytes s))
    go [] is = absurd (x.some is)
    go (b ∷ bs) is =
        let bytes = b ∷ take most bs in
        let waits : waiting_bytes s ≡ b ∷ bs = waits_so x.net x.now s x.k x.cl.received x.w x.stands ∙ is in
        let answer = first_answer reading most s other b bs waits ∙ ap (λ n. answered (Bytes bytes n) (taken_by (length bytes) s)) x.stands.moment in
        subst (StepsTo reading sets me peer c) (sym answer)
        (take_step reading sets me peer s c x bytes (drop most bs) mine theirs
        (is ∙ cut_parts most b bs) (λ e. let l = ap (λ y. length y) e in omega (arith, l)))

-- nothing comes

same_client : (cl : Client) → client_after_feed cl [] ≡ cl
same_client cl = ap (λ (l : List ℕ). record cl { received = l }) (append-nil cl.received)

silent_behind : (me peer : AmsAddress) (now : ℕ) (c : Conversation) (cl : Client) (stage : Stage) (a : LinkAnswer) → Talks me peer now c cl stage
    → runner_after_answer c.runner a ≡ at cl stage [] → IsBehind c a (still cl stage) (conversation_after c a)
silent_behind me peer now c cl stage a t is =
    let waits : is_not_yet (next_hearing cl).heard ≡ true = ap (λ (h : Hearing). is_not_yet h.heard) (silent_hears now cl t.silent) in
    is_behind c a (still cl stage) t.on (ap (turns (moment_of a)) is ∙ turns_wait (moment_of a) cl stage t.going waits)

quiet_runner : (me peer : AmsAddress) (now : ℕ) (c : Conversation) (cl : Client) (stage : Stage)
    → Talks me peer now c cl stage → runner_after_answer c.runner (Quiet now) ≡ at cl stage []
quiet_runner me peer now c cl stage t =
    ap (λ r. runner_after_answer r (Quiet now)) t.runner ∙ ap (λ (d : Client). at (client_after_feed d []) stage []) (tick_keeps now cl t.silent.few)
    ∙ ap (λ (d : Client). at d stage []) (same_client cl)

closed_runner : (me peer : AmsAddress) (now : ℕ) (c : Conversation) (cl : Client) (stage : Stage)
    → Talks me peer now c cl stage → runner_after_answer c.runner (Closed now) ≡ at cl stage []
closed_runner me peer now c cl stage t =
    ap (λ r. runner_after_answer r (Closed now)) t.runner ∙ ap (λ (d : Client). at (client_after_feed d []) stage []) (tick_keeps now cl t.silent.few)
    ∙ ap (λ (d : Client). at d stage []) (same_client cl)

-- a quiet answer ends the call, or it goes on
quiet_end : (q n : ℕ) → q < MAX_QUIET → n ≤ MAX_ANSWERS → (let o = if (q + 1 == MAX_QUIET) || (n == MAX_ANSWERS + 1) then Some Budget else None in
    (o ≡ Some Budget) ⊎ ((o ≡ None) × (q + 1 < MAX_QUIET)))
quiet_end q n few some = elim (cases_eq (q + 1) MAX_QUIET) [
  | inl last ↦ inl (rw (test_same (q + 1) MAX_QUIET last) refl)
  | inr other ↦ inr (rw (test_other (q + 1) MAX_QUIET other, test_other n (MAX_ANSWERS + 1) (λ e. omega (arith, e, some))) refl, omega (arith, other, few))
]

quiet_step : (reading : DescriptionReading) (sets : Bool) (me peer : AmsAddress) (net : List ℕ)
    (now : ℕ) (s : Machine) (k : Link) (c : Conversation) (cl : Client) (stage : Stage)
    → Stands net now s k cl.received [] → Talks me peer now c cl stage
    → Listening me peer net k cl stage ⊎ (ListeningAll me peer net k cl stage ⊎ (k.closing ≡ true))
    → c.answers + frames_left stage * FRAME + (MAX_QUEUED + 1 + (MAX_QUIET - c.quiet)) ≤ MAX_ANSWERS → StepsTo reading sets me peer c (answered (Quiet now) s)
quiet_step reading sets me peer net now s k c cl stage stands talks mode room =
    let a = Quiet now in
    let ts = still cl stage in
    let d = conversation_after c a in
    let b = silent_behind me peer now c cl stage a talks (quiet_runner me peer now c cl stage talks) in
    let few = talks.quiet in
    let quiet = b.quiet in
    let more = b.answers in
    let end : d.end ≡ end_so None (c.quiet + 1) (c.answers + 1) a = b.end ∙ ap (λ o. end_so o (c.quiet + 1) (c.answers + 1) a) (no_end stage talks.going) in
    step_still reading sets me peer c (answered a s) ts b refl (elim (quiet_end c.quiet (c.answers + 1) few (omega (arith, room))) [
      | inl over ↦ inr (record { end = Budget; is = end ∙ over; answered = tt; few = omega (arith, more, room) })
      | inr on ↦
          let still_few = on.1 in
          inl (inr (record {
            net = net;
            now = now;
            k = k;
            cl = cl;
            stage = stage;
            stands = stands;
            talks = record {
              on = end ∙ on.0;
              runner = b.runner;
              going = talks.going;
              silent = talks.silent;
              me_is = talks.me_is;
              peer_is = talks.peer_is;
              ids = talks.ids;
              quiet = omega (arith, quiet, still_few);
            };
            mode = mode;
            room = omega (arith, quiet, still_few, more, room);
          }))
    ])

-- the connection is to be shut
closed_so : (reading : DescriptionReading) (sets : Bool) (me peer : AmsAddress) (now : ℕ) (s : Machine) (c : Conversation) (cl : Client) (stage : Stage)
    → Talks me peer now c cl stage → c.answers < MAX_ANSWERS → StepsTo reading sets me peer c (answered (Closed now) s)
closed_so reading sets me peer now s c cl stage talks few =
    let a = Closed now in
    let ts = still cl stage in
    let b = silent_behind me peer now c cl stage a talks (closed_runner me peer now c cl stage talks) in
    let more = b.answers in
    step_still reading sets me peer c (answered a s) ts b refl (inr (record {
      end = CallEnded (BadPeer broke.Closed);
      is = b.end ∙ ap (λ o. end_so o 0 (c.answers + 1) a) (no_end stage talks.going);
      answered = tt;
      few = omega (arith, more, few);
    }))

-- a tick

moment_small : (m : ℕ) → m < 2 ^ 64 → max m (next_tick m) < 2 ^ 64
moment_small m small =
    let next : next_tick m ≤ 18446744073709551615 = min-le_right (m + LOCAL_TICK) LAST_MOMENT in
    let both : max m (next_tick m) ≤ 18446744073709551615 = max-le {a = m} {b = next_tick m} {k = 18446744073709551615} (omega (arith, small)) next in
    omega (arith, both)

abbrev tick_of : DescriptionReading → Machine → Machine
tick_of reading s = state_after_event (device reading) s (event.Tick (next_tick s.moment))

-- the connection behind it
abbrev ticked_link : DescriptionReading → Machine → Link → Link
ticked_link reading s k = connection_after_tick (device reading) (max s.moment (next_tick s.moment)) (world_after_tick s.world) k

same_plant : (w : World) → (world_after_tick w).plant ≡ w.plant
unfolding world_after_tick
same_plant w = refl

tick_one : (reading : DescriptionReading) (s : Machine) (k : Link) → HasOne s k → HasOne (tick_of reading s) (ticked_link reading s k)
unfolding state_after_event
tick_one reading s k one =
    let f : Link → Link = connection_after_tick (device reading) (max s.moment (next_tick s.moment)) (world_after_tick s.world) in
    let grows = connection_after_tick-grows (device reading) (max s.moment (next_tick s.moment)) (world_after_tick s.world) in
    record {
      is = connection_of-map 1 f (λ l. (grows l).number) s.connections ∙ ap (option_map f) one.is;
      there = (grows k).gone ∙ one.there;
    }

tick_moment : (reading : DescriptionReading) (s : Machine) → (tick_of reading s).moment ≡ max s.moment (next_tick s.moment)
unfolding state_after_event
tick_moment reading s = refl

tick_net : (reading : DescriptionReading) (s : Machine) → (tick_of reading s).world.plant.net ≡ s.world.plant.net
unfolding state_after_event
tick_net reading s = ap (λ (p : Plant). p.net) (same_plant s.world)

stands_ticked : (reading : DescriptionReading) (net : List ℕ) (now : ℕ) (s : Machine) (k : Link) (received w : List ℕ) → Stands net now s k received []
    → bytes_of_all (ticked_link reading s k).produced ≡ received ++ w → (ticked_link reading s k).bytes_taken ≡ k.bytes_taken
    → Stands net (max now (next_tick now)) (tick_of reading s) (ticked_link reading s k) received w
stands_ticked reading net now s k received w x out taken = record {
  one = tick_one reading s k x.one;
  moment = tick_moment reading s ∙ ap (λ m. max m (next_tick m)) x.moment;
  time = moment_small now x.time;
  net_is = tick_net reading s ∙ x.net_is;
  out = out;
  taken = taken ∙ x.taken;
}

talks_later : (me peer : AmsAddress) (now later : ℕ) (c : Conversation) (cl : Client) (stage : Stage)
    → cl.unanswered ≡ [] → Talks me peer now c cl stage → Talks me peer later c cl stage
talks_later me peer now later c cl stage none t = record {
  on = t.on;
  runner = t.runner;
  going = t.going;
  silent = record { few = inl none; unbroken = t.silent.unbroken; samples = t.silent.samples; all = t.silent.all };
  me_is = t.me_is;
  peer_is = t.peer_is;
  ids = t.ids;
  quiet = t.quiet;
}

tick_frame_not_nil : (p : List ℕ) → frame_bytes p ≡ [] → ⊥
tick_frame_not_nil p e = let n = ap (λ l. length l) e in let f = length-frame_bytes p in omega (arith, n, f)

-- what a tick brings, or Quiet: what listens, or has such a frame, is told by the caller
tick_step : (reading : DescriptionReading) (sets : Bool) (me peer : AmsAddress) (most : ℕ) (s : Machine) (c : Conversation) (IsSuch : List ℕ → Type 0)
    → IsAddress me → IsAddress peer → (x : Rests sets me peer s c) → x.cl.unanswered ≡ [] → rest_of x.cl.received ≡ []
    → let l = ticked_link reading s x.k in BecomesSo IsSuch x.k l
    → (Quiets x.k l → Listening me peer x.net l x.cl x.stage ⊎ ListeningAll me peer x.net l x.cl x.stage)
    → ((sends : Sends IsSuch x.k l) → rest_of x.cl.received ++ frame_bytes sends.packet ≡ frame_bytes sends.packet → 6 + length sends.packet ≤ MAX_QUEUED
    → Sampling me peer x.net l x.cl x.stage (frame_bytes sends.packet) ⊎ SamplingAll me peer x.net l x.cl x.stage (frame_bytes sends.packet))
    → StepsTo reading sets me peer c (answer_after_tick (state_after_event (device reading)) most (tick_of reading s))
unfolding answer_after_tick
tick_step reading sets me peer most s c IsSuch mine theirs x none rest becomes listens samples =
    let now = x.now in
    let later = max now (next_tick now) in
    let t = tick_of reading s in
    let l = ticked_link reading s x.k in
    let moment : t.moment ≡ later = tick_moment reading s ∙ ap (λ n. max n (next_tick n)) x.stands.moment in
    let talks = talks_later me peer now later c x.cl x.stage none x.talks in
    let quiet = answered (Quiet t.moment) t in
    let quietly : Stands x.net later t l x.cl.received []
    → Listening me peer x.net l x.cl x.stage ⊎ (ListeningAll me peer x.net l x.cl x.stage ⊎ (l.closing ≡ true))
    → StepsTo reading sets me peer c (waiting_or (state_after_event (device reading)) most t quiet (waiting_bytes t))
    = λ stands mode.
    subst (StepsTo reading sets me peer c)
    (sym (other_answer reading most t quiet (waits_so x.net later t l x.cl.received [] stands) ∙ ap (λ n. answered (Quiet n) t) moment))
    (quiet_step reading sets me peer x.net later t l c x.cl x.stage stands talks mode x.room) in
    elim becomes [
      | inl closes ↦ quietly
          (stands_ticked reading x.net now s x.k x.cl.received [] x.stands (ap bytes_of_all closes.produced ∙ x.stands.out) closes.bytes_taken)
          (inr (inr closes.closing))
      | inr (inl quiets) ↦
          quietly (stands_ticked reading x.net now s x.k x.cl.received [] x.stands (ap bytes_of_all quiets.produced ∙ x.stands.out) quiets.bytes_taken)
          (elim (listens quiets) [ inl m ↦ inl m | inr m ↦ inr (inl m) ])
      | inr (inr sends) ↦
          let p = sends.packet in
          let stands = stands_ticked reading x.net now s x.k x.cl.received (frame_bytes p) x.stands
          (ap bytes_of_all sends.produced ∙ one_more_out x.k.produced sends.frame x.cl.received (frame_bytes p) sends.bytes x.stands.out)
          sends.bytes_taken in
          let fits = sends.room in
          let sum = length-frame_bytes p in
          let room = x.room in
          let few = x.talks.quiet in
          taken_step reading sets me peer most t c quiet mine theirs (record {
            net = x.net;
            now = later;
            k = l;
            cl = x.cl;
            stage = x.stage;
            w = frame_bytes p;
            stands = stands;
            talks = talks;
            mode = inr (samples sends (ap (λ r. r ++ frame_bytes p) rest) (omega (arith, fits, sum)));
            some = tick_frame_not_nil p;
            room = omega (arith, room, fits, few);
          })
    ]

later_net : (reading : DescriptionReading) (sets : Bool) (me peer : AmsAddress) (s : Machine) (c : Conversation) (x : Rests sets me peer s c)
    → (world_after_tick s.world).plant.net ≡ x.net
later_net reading sets me peer s c x = ap (λ (p : Plant). p.net) (same_plant s.world) ∙ x.stands.net_is

-- behind a tick a watch and a recording listen, or have samples
listening_step : (reading : DescriptionReading) (sets : Bool) (me peer : AmsAddress) (most : ℕ) (s : Machine) (c : Conversation)
    → IsAddress me → IsAddress peer → (x : Rests sets me peer s c)
    → Listening me peer x.net x.k x.cl x.stage ⊎ ListeningAll me peer x.net x.k x.cl x.stage
    → StepsTo reading sets me peer c (answer_after_tick (state_after_event (device reading)) most (tick_of reading s))
listening_step reading sets me peer most s c mine theirs x (inl m) =
    let world = world_after_tick s.world in
    let l = ticked_link reading s x.k in
    let net = later_net reading sets me peer s c x in
    let time : max s.moment (next_tick s.moment) < 2 ^ 64 = moment_small s.moment (subst (λ n. n < 2 ^ 64) (sym x.stands.moment) x.stands.time) in
    let t : Ticked me peer x.net m.handle x.k l
    = subst (λ n. Ticked me peer n m.handle x.k l) net
    (ticked reading me peer m.handle (max s.moment (next_tick s.moment)) world x.k mine theirs time m.closing x.stands.one.there m.whole
    (subst (λ n. KeepsFew me peer n m.handle x.k.client.watches) (sym net) m.keeps)) in
    tick_step reading sets me peer most s c (IsSampleOf m.handle) mine theirs x m.none m.rest t.becomes
    (λ quiets. inl (record {
      closing = quiets.closing;
      whole = quiets.whole;
      entry = m.entry;
      handle = m.handle;
      left = m.left;
      stage_is = m.stage_is;
      none = m.none;
      rest = m.rest;
      keeps = t.keeps;
    }))
    (λ sends frame size. inl (record {
      closing = sends.closing;
      whole = sends.whole;
      entry = m.entry;
      handle = m.handle;
      left = m.left;
      stage_is = m.stage_is;
      none = m.none;
      p = sends.packet;
      frame = frame;
      size = size;
      sample = sends.such;
      keeps = t.keeps;
    }))
listening_step reading sets me peer most s c mine theirs x (inr m) =
    let world = world_after_tick s.world in
    let l = ticked_link reading s x.k in
    let net = later_net reading sets me peer s c x in
    let time : max s.moment (next_tick s.moment) < 2 ^ 64 = moment_small s.moment (subst (λ n. n < 2 ^ 64) (sym x.stands.moment) x.stands.time) in
    let test = is_recorded m.recording in
    let t : TickedAll me peer x.net test x.k l
    = subst (λ n. TickedAll me peer n test x.k l) net
    (ticked_all reading me peer test (max s.moment (next_tick s.moment)) world x.k mine theirs time m.closing x.stands.one.there m.whole
    (subst (λ n. KeepsAll me peer n test x.k.client.watches) (sym net) m.keeps)) in
    tick_step reading sets me peer most s c (HasFewSamples test (length x.k.client.watches)) mine theirs x m.none m.rest t.becomes
    (λ quiets. inr (record {
      closing = quiets.closing;
      whole = quiets.whole;
      recording = m.recording;
      stage_is = m.stage_is;
      enough = m.enough;
      none = m.none;
      rest = m.rest;
      keeps = t.keeps;
    }))
    (λ sends frame size. inr (record {
      closing = sends.closing;
      whole = sends.whole;
      recording = m.recording;
      stage_is = m.stage_is;
      enough = m.enough;
      none = m.none;
      p = sends.packet;
      frame = frame;
      size = size;
      samples = sends.such.samples;
      keeps = t.keeps;
    }))

shut_so : (s : Machine) (k : Link) → HasOne s k → is_to_be_shut (connection_of 1 s.connections) ≡ k.closing
shut_so s k one = ap is_to_be_shut one.is ∙ rw one.there refl

rest_step : (reading : DescriptionReading) (sets : Bool) (me peer : AmsAddress) (most : ℕ) (s : Machine) (c : Conversation)
    → IsAddress me → IsAddress peer → (x : Rests sets me peer s c)
    → StepsTo reading sets me peer c (local_answer (state_after_event (device reading)) most s)
unfolding local_answer
rest_step reading sets me peer most s c mine theirs x =
    let step = state_after_event (device reading) in
    let later = answer_after_tick step most (tick_of reading s) in
    let other = if is_to_be_shut (connection_of 1 s.connections) then answered (Closed s.moment) s else later in
    let none = waits_so x.net x.now s x.k x.cl.received [] x.stands in
    let shut = shut_so s x.k x.stands.one in
    let room = x.room in
    subst (StepsTo reading sets me peer c) (sym (other_answer reading most s other none)) (elim x.mode [
      | inl m ↦
          subst (StepsTo reading sets me peer c) (sym (cond-false (is_to_be_shut (connection_of 1 s.connections)) _ _ (shut ∙ m.closing)))
          (listening_step reading sets me peer most s c mine theirs x (inl m))
      | inr (inl m) ↦
          subst (StepsTo reading sets me peer c) (sym (cond-false (is_to_be_shut (connection_of 1 s.connections)) _ _ (shut ∙ m.closing)))
          (listening_step reading sets me peer most s c mine theirs x (inr m))
      | inr (inr closing) ↦
          subst (StepsTo reading sets me peer c) (sym (cond-true (is_to_be_shut (connection_of 1 s.connections)) _ _ (shut ∙ closing)))
          (subst (λ n. StepsTo reading sets me peer c (answered (Closed n) s)) (sym x.stands.moment)
          (closed_so reading sets me peer x.now s c x.cl x.stage x.talks (omega (arith, room))))
    ])

good_step : (reading : DescriptionReading) (sets : Bool) (me peer : AmsAddress) (most : ℕ) (s : Machine) (c : Conversation) → IsAddress me → IsAddress peer
    → Waits sets me peer s c ⊎ Rests sets me peer s c → StepsTo reading sets me peer c (local_answer (state_after_event (device reading)) most s)
unfolding local_answer
good_step reading sets me peer most s c mine theirs (inl x) = taken_step reading sets me peer most s c _ mine theirs x
good_step reading sets me peer most s c mine theirs (inr x) = rest_step reading sets me peer most s c mine theirs x

-- all answers

abbrev Scene : Type 0
Scene = LocalScene World served.Client

abbrev IsGood : Bool → AmsAddress → AmsAddress → Scene → Type 0
IsGood sets me peer x = Good sets me peer x.machine x.conversation

goes_on_so : (sets : Bool) (me peer : AmsAddress) (s : Machine) (c : Conversation) → Waits sets me peer s c ⊎ Rests sets me peer s c → c.end ≡ None
goes_on_so sets me peer s c (inl x) = x.talks.on
goes_on_so sets me peer s c (inr x) = x.talks.on

good_behind : (reading : DescriptionReading) (sets : Bool) (me peer : AmsAddress) (cutting : Cutting) (x : Scene) → IsAddress me → IsAddress peer
    → Waits sets me peer x.machine x.conversation ⊎ Rests sets me peer x.machine x.conversation
    → StepsTo reading sets me peer x.conversation (answer_in (closed_step reading) cutting x)
good_behind reading sets me peer cutting x mine theirs going =
    good_step reading sets me peer (cutting x.conversation.answers) x.machine x.conversation mine theirs going

scene_good : (reading : DescriptionReading) (sets : Bool) (me peer : AmsAddress) (cutting : Cutting) (x : Scene)
    → StepsTo reading sets me peer x.conversation (answer_in (closed_step reading) cutting x)
    → IsGood sets me peer (scene_behind (closed_step reading) cutting x)
unfolding scene_after
scene_good reading sets me peer cutting x steps = steps.good

all_good : (reading : DescriptionReading) (sets : Bool) (me peer : AmsAddress) (cutting : Cutting) (n : ℕ) (x : Scene)
    → IsAddress me → IsAddress peer → IsGood sets me peer x
    → IsGood sets me peer (scene_after_answers (closed_step reading) cutting n x)
unfolding scene_after_answers
all_good reading sets me peer cutting zero x mine theirs good = good
all_good reading sets me peer cutting (suc n) x mine theirs (inl going) =
    let on = goes_on_so sets me peer x.machine x.conversation going in
    subst (IsGood sets me peer) (sym (scene_goes_on (closed_step reading) cutting n x on))
    (all_good reading sets me peer cutting n (scene_behind (closed_step reading) cutting x) mine theirs
    (scene_good reading sets me peer cutting x (good_behind reading sets me peer cutting x mine theirs going)))
all_good reading sets me peer cutting (suc n) x mine theirs (inr over) =
    subst (IsGood sets me peer) (sym (scene_stays (closed_step reading) cutting (suc n) x over.end over.is)) (inr over)

-- so it closes alone

same_machine : (reading : DescriptionReading) (cutting : Cutting) (x : Scene) (e : LoopEnd) → x.conversation.end ≡ Some e
    → (scene_behind (closed_step reading) cutting x).machine ≡ (answer_in (closed_step reading) cutting x).machine
unfolding scene_after machine_after_pieces
same_machine reading cutting x e over =
    let c = x.conversation in
    let a = answer_in (closed_step reading) cutting x in
    ap (λ (d : Conversation). machine_after_pieces (closed_step reading) a.machine (drop (length c.sent) d.sent)) (over_stays c e a.answer over)
    ∙ ap (machine_after_pieces (closed_step reading) a.machine) (ap (λ l. drop (length c.sent) l) (sym (append-nil c.sent)) ∙ drop-append_seam c.sent [])

alone_if : (reading : DescriptionReading) (cutting : Cutting) (x : Scene)
    → (scene_behind (closed_step reading) cutting x).machine ≡ (answer_in (closed_step reading) cutting x).machine
    → is_closing_at 1 (answer_in (closed_step reading) cutting x).machine ≡ false
    → is_closing_at 1 (scene_behind (closed_step reading) cutting x).machine ≡ true → ⊥
alone_if reading cutting x same is_open closes = let e : false ≡ true = sym is_open ∙ sym (ap (λ s. is_closing_at 1 s) same) ∙ closes in cc

closes_alone : (reading : DescriptionReading) (sets : Bool) (me peer : AmsAddress) (x : Scene)
    → IsAddress me → IsAddress peer → IsGood sets me peer x → ClosesAlone (closed_step reading) x
closes_alone reading sets me peer x mine theirs (inl going) is_open closes =
    elim (good_behind reading sets me peer byte_by_byte x mine theirs going).alone [
      | inl none ↦ none
      | inr same ↦ absurd (alone_if reading byte_by_byte x same is_open closes)
    ]
closes_alone reading sets me peer x mine theirs (inr over) is_open closes =
    absurd (alone_if reading byte_by_byte x (same_machine reading byte_by_byte x over.end over.is) is_open closes)

few_so : (sets : Bool) (me peer : AmsAddress) (s : Machine) (c : Conversation) → Good sets me peer s c → c.answers ≤ MAX_ANSWERS
few_so sets me peer s c (inl (inl x)) = let room = x.room in omega (arith, room)
few_so sets me peer s c (inl (inr x)) = let room = x.room in omega (arith, room)
few_so sets me peer s c (inr over) = over.few

-- the beginning

new_silent : (me peer : AmsAddress) (now : ℕ) → IsSilent now (new_client me peer)
new_silent me peer now = record {
  few = inl refl;
  unbroken = refl;
  samples = refl;
  all = record {
    taken = sym (ap (λ l. length (filter says_something l)) no_frames);
    front = ap front_of no_rest ∙ none_short;
  };
}

fresh_one : (reading : DescriptionReading) (s : Machine) → connection_of 1 s.connections ≡ None
    → HasOne (state_after_event (device reading) s (event.Opened 1)) (fresh_connection served.new_client 1)
unfolding state_after_event connection_of
fresh_one reading s none = record {
  is = connection_of-append 1 s.connections (fresh_connection served.new_client 1 ∷ [])
      ∙ ap (λ o. or_else o (Some (fresh_connection served.new_client 1))) none;
  there = refl;
}

opened_moment : (reading : DescriptionReading) (s : Machine) → (state_after_event (device reading) s (event.Opened 1)).moment ≡ s.moment
unfolding state_after_event
opened_moment reading s = refl

begun_good : (reading : DescriptionReading) (s : Machine) (me peer : AmsAddress) (call : Call) → IsLocal s me peer call
    → IsGood (is_setting call) me peer (scene_begun (closed_step reading) s me peer call)
unfolding conversation_after_turns machine_after_pieces
begun_good reading s me peer call x =
    let sets = is_setting call in
    let now = s.moment in
    let b = begins call x.bounded in
    let p = begun call in
    let r = b.request in
    let cl = new_client me peer in
    let k : Link = fresh_connection served.new_client 1 in
    let m = state_after_event (device reading) s (event.Opened 1) in
    let silent = new_silent me peer now in
    let waits : is_not_yet (next_hearing (client_after_issue cl r now)).heard ≡ true
    = ap (λ (e : Client). is_not_yet (next_hearing e).heard) (issued_is cl r now refl)
    ∙ ap (λ (y : Hearing). is_not_yet y.heard) (silent_hears now (issued cl r now) (issued_silent cl r now silent)) in
    let on = awaits_on sets p.stage b.awaits in
    let ts : Turns = record { steps = Send (request_frame cl (next_id cl) r) ∷ []; runner = at (client_after_issue cl r now) p.stage [] } in
    let is : turns now (new_runner me peer call) ≡ ts = ap (λ os. turns now (at cl p.stage os)) b.outputs ∙ sends_one now cl p.stage r on waits in
    let begin : Turns → Conversation = λ t. conversation_after_turns (record {
      runner = new_runner me peer call;
      answers = 1;
      quiet = 0;
      sent = [];
      text = [];
      kept = [];
      end = None;
    }) t in
    let few = b.few in
    subst (λ (t : Turns). Good sets me peer (machine_after_pieces (closed_step reading) m (begin t).sent) (begin t)) (sym is)
    (asked sets me peer m.world.plant.net now reading m k cl p.stage r (begin ts) (record {
      stands = record {
        one = fresh_one reading s x.none;
        moment = opened_moment reading s;
        time = x.moment;
        net_is = refl;
        out = refl;
        taken = refl;
      };
      closing = refl;
      whole = record { rest = no_rest; taken = sym (ap (λ l. length l) no_frames) };
      rest = no_rest;
      silent = silent;
      none = refl;
      me_is = refl;
      peer_is = refl;
      ids = omega arith;
      me_fits = x.from;
      peer_fits = x.to;
      awaits = b.awaits;
      short = b.short;
      asks = b.asks;
      had = b.had me peer m.world.plant.net;
    }) (record {
      on = no_end p.stage on;
      runner = ap (λ (e : Client). at e p.stage []) (issued_is cl r now refl);
      quiet = omega arith;
      room = omega (arith, few);
    }))

scenes_good : (reading : DescriptionReading) (cutting : Cutting) (n : ℕ) (s : Machine) (me peer : AmsAddress) (call : Call) → IsLocal s me peer call
    → IsGood (is_setting call) me peer (scene_after_answers (closed_step reading) cutting n (scene_begun (closed_step reading) s me peer call))
scenes_good reading cutting n s me peer call x =
    all_good reading (is_setting call) me peer cutting n (scene_begun (closed_step reading) s me peer call) x.from x.to (begun_good reading s me peer call x)

pub local_calls_have_room : LocalCallsHaveRoom
local_calls_have_room reading s me peer call x = record {
  answers_left = few_so (is_setting call) me peer _ _ (scenes_good reading byte_by_byte MAX_ANSWERS s me peer call x);
  closes_alone = λ n. closes_alone reading (is_setting call) me peer _ x.from x.to (scenes_good reading byte_by_byte n s me peer call x);
}

pub local_calls_are_one : LocalCallsAreOne
local_calls_are_one reading cutting other s me peer call x =
    cuttings_are_one (device reading) cutting other s me peer call (local_calls_have_room reading s me peer call x)

pub local_links_are_one : LocalLinksAreOne
local_links_are_one reading cutting s me peer call to now answers x logs over =
    links_are_one (device reading) cutting s me peer call to now answers x.none logs over (local_calls_have_room reading s me peer call x)

-- and it ends

counted : (reading : DescriptionReading) (cutting : Cutting) (n : ℕ) (x : Scene)
    → (scene_after_answers (closed_step reading) cutting n x).conversation.end ≡ None
    → (scene_after_answers (closed_step reading) cutting n x).conversation.answers ≡ x.conversation.answers + n
unfolding scene_after_answers scene_after
counted reading cutting zero x on = omega arith
counted reading cutting (suc n) x on = elim (end_cases x.conversation.end) [
  | inl goes ↦
      let y = scene_behind (closed_step reading) cutting x in
      let same = scene_goes_on (closed_step reading) cutting n x goes in
      let sum = counted reading cutting n y (sym (ap (λ (z : Scene). z.conversation.end) same) ∙ on) in
      let one = one_more x.conversation (answer_in (closed_step reading) cutting x).answer goes in
      let here = ap (λ (z : Scene). z.conversation.answers) same in
      omega (arith, sum, one, here)
  | inr over ↦
      absurd (let e : Some over.0 ≡ None = sym over.1
      ∙ sym (ap (λ (z : Scene). z.conversation.end) (scene_stays (closed_step reading) cutting (suc n) x over.0 over.1)) ∙ on in cc)
]

going_few : (sets : Bool) (me peer : AmsAddress) (s : Machine) (c : Conversation) → Waits sets me peer s c ⊎ Rests sets me peer s c → c.answers ≤ MAX_ANSWERS
going_few sets me peer s c going = few_so sets me peer s c (inl going)

too_many : (n m : ℕ) → n ≡ 1 + m → n ≤ m → ⊥
too_many n m is few = omega (arith, is, few)

begun_one : (reading : DescriptionReading) (s : Machine) (me peer : AmsAddress) (call : Call)
    → (scene_begun (closed_step reading) s me peer call).conversation.answers ≡ 1
unfolding conversation_after_turns
begun_one reading s me peer call = refl

ends_so : (reading : DescriptionReading) (cutting : Cutting) (n : ℕ) (s : Machine) (me peer : AmsAddress) (call : Call) → n ≡ MAX_ANSWERS
    → IsGood (is_setting call) me peer (scene_after_answers (closed_step reading) cutting n (scene_begun (closed_step reading) s me peer call))
    → EndsAnswered (is_setting call) (scene_after_answers (closed_step reading) cutting n (scene_begun (closed_step reading) s me peer call)).conversation
ends_so reading cutting n s me peer call all (inr over) = record { end = over.end; is = over.is; answered = over.answered }
ends_so reading cutting n s me peer call all (inl going) =
    let x = scene_begun (closed_step reading) s me peer call in
    let y = scene_after_answers (closed_step reading) cutting n x in
    let on = goes_on_so (is_setting call) me peer y.machine y.conversation going in
    let few = going_few (is_setting call) me peer y.machine y.conversation going in
    let count = counted reading cutting n x on ∙ ap (λ k. k + n) (begun_one reading s me peer call) in
    absurd (too_many y.conversation.answers n count (subst (λ k. y.conversation.answers ≤ k) (sym all) few))

pub local_calls_end : LocalCallsEnd
local_calls_end reading cutting s me peer call x =
    ends_so reading cutting MAX_ANSWERS s me peer call refl (scenes_good reading cutting MAX_ANSWERS s me peer call x)
