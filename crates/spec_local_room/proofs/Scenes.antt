-- What stands between a bounded call and its connection: a frame waits, or nothing does. A request that is sent where nothing waits is
-- answered by one frame, or the connection closes.
use Rattle.std.proofs.Common.{◌≡◌, ◌⊎◌, ℕ, ◌+◌, ◌-◌, ◌*◌, ◌<◌, ◌≤◌, ◌^◌, List, [], ◌∷◌, ◌++◌, length, Bool, true, false, refl, sym, ap, ◌∙◌, subst, inl, inr}
use Rattle.std.proofs.Common.{arith}
use Rattle.std.specs.Prelude.{Some, None, ◌==◌, nat_le, suc}
use Rattle.std.proofs.lemmas.Bool.{cases_eq, cond-true, cond-false, leb-true}
use Rattle.std.proofs.lemmas.Grind.{flat_map-append}
use Rattle.std.proofs.lemmas.List.{append-nil}
use Rattle.ads_outside.specs.declared.event.Event.TheVariants as event
use Rattle.spec_frames.specs.Frame.{frame_bytes}
use Rattle.spec_frames.specs.Division.{rest_of}
use Rattle.spec_plant.specs.World.{Plant}
use Rattle.spec_formats.specs.Header.{AmsAddress, IsAddress}
use Rattle.spec_formats.specs.Request.{Request, request_bytes}
use Rattle.spec_machine.proofs.Changes.{exchange_own}
use Rattle.spec_machine.proofs.Find.{test_same, test_other}
use Rattle.spec_machine.specs.Access.{Addressed}
use Rattle.spec_machine.specs.Acts.{client_after_acts}
use Rattle.spec_machine.specs.AdsDevice.{DescriptionReading, ads_device}
use Rattle.spec_machine.specs.Client as served
use Rattle.spec_machine.specs.Connection.{Connection, MAX_QUEUED, connection_of, bytes_of, bytes_of_all, queued_of}
use Rattle.spec_machine.specs.Decisions.{acts_in}
use Rattle.spec_machine.specs.Device.{Device, Produced, Reply, Answered}
use Rattle.spec_machine.specs.Events.{state_after_event}
use Rattle.spec_machine.specs.MachineState.{MachineState, Exchange, exchange_of, with_exchange, after_exchange}
use Rattle.spec_machine.specs.Piece.{after_piece}
use Rattle.spec_machine.specs.Watches.{Watch}
use Rattle.spec_machine.specs.World.{World, setup_of}
use Rattle.spec_client.specs.Client.{Client, is_full, next_id, request_packet, request_frame, client_after_issue}
use Rattle.spec_client.specs.Conversation.{LoopEnd, Conversation, MAX_QUIET, MAX_ANSWERS}
use Rattle.spec_client.specs.Runner.{is_over}
use Rattle.spec_client.specs.Recordings.{is_recorded, has_enough}
use Rattle.spec_client.specs.Stages.{Stage, AwaitsEntry, ToWatch, AwaitsNotification, Watches, Records, Recording, ForEntry, ForNotification, ForSamples}
use Rattle.spec_formats.specs.SymbolEntry.{SymbolEntry}
use Rattle.spec_client.specs.Calls.{entry_request}
use Rattle.spec_client.specs.Unanswered.{Unanswered, MAX_ID, id_after, free_id, outstanding_count}
use Rattle.spec_client.proofs.TurnsUnfolded.{at}
use Rattle.spec_cutting.proofs.Takes.{HasOne, after_piece-number}
use Rattle.spec_local_room.specs.Laws.{IsAnswered}
use Rattle.spec_local_room.proofs.Coming.{length-frame_bytes}
use Rattle.spec_local_room.proofs.Hearing.{IsSilent, IsAnswerTo, IsSampleOf, HasSamples}
use Rattle.spec_local_room.proofs.Pieces.{TakesWhole, Closes, Served, piece_taken, Replies}
use Rattle.spec_local_room.proofs.Deciding.{IsWatch, replied, entry_keeps, addition_adds}
use Rattle.spec_local_room.proofs.Responding.{asking, IsAsked, length-asked, decision, does, replies_so, response_so, asked_one, response_answers}
use Rattle.spec_local_room.proofs.Responding.{GivesHandle, addition_gives, added_watches}
use Rattle.spec_local_room.proofs.TickingAll.{IsWatched, KeepsAll}
use Rattle.spec_local_room.proofs.Leading.{Awaits, frames_left, awaits_on, IsShort, Asks, HadWatches}
use Rattle.spec_local_room.proofs.Ticking.{KeepsFew, is_of}
use Rattle.spec_machine.specs.Replies.{answer_to}

abbrev pub Machine : Type 0
Machine = MachineState World served.Client

abbrev pub Link : Type 0
Link = Connection served.Client

-- connection 1 of a machine, whose bytes are those that came and those that wait
pub record Stands (net : List ℕ) (now : ℕ) (s : Machine) (k : Link) (received w : List ℕ) : Type 0 where
  pub one : HasOne s k
  pub moment : s.moment ≡ now
  pub time : now < 2 ^ 64
  pub net_is : s.world.plant.net ≡ net
  pub out : bytes_of_all k.produced ≡ received ++ w
  pub taken : k.bytes_taken ≡ length received

-- a call that waits, and has heard all that came
pub record Talks (me peer : AmsAddress) (now : ℕ) (c : Conversation) (cl : Client) (stage : Stage) : Type 0 where
  pub on : c.end ≡ None
  pub runner : c.runner ≡ at cl stage []
  pub going : is_over stage ≡ false
  pub silent : IsSilent now cl
  pub me_is : cl.me ≡ me
  pub peer_is : cl.peer ≡ peer
  pub ids : cl.last_id ≤ MAX_ID
  pub quiet : c.quiet < MAX_QUIET

-- the notification that an addition gave, whose answer is this packet
pub record AddedOne (me peer : AmsAddress) (net : List ℕ) (ws : List (Watch (List Addressed))) (p : List ℕ) : Type 0 where
  pub w : Watch (List Addressed)
  pub is : ws ≡ w ∷ []
  pub kept : IsWatched me peer net (is_of w.handle) w
  pub gives : GivesHandle w.handle p

-- one notification more
pub record AddedMore (me peer : AmsAddress) (net : List ℕ) (test : ℕ → Bool) (ws : List (Watch (List Addressed))) (p : List ℕ) : Type 0 where
  pub old : List (Watch (List Addressed))
  pub w : Watch (List Addressed)
  pub is : ws ≡ old ++ w ∷ []
  pub kept : KeepsAll me peer net test old
  pub one : IsWatched me peer net (is_of w.handle) w
  pub gives : GivesHandle w.handle p

-- what is known of the notifications where the answer to a request is this packet
abbrev pub Knows : AmsAddress → AmsAddress → List ℕ → Stage → List (Watch (List Addressed)) → List ℕ → Type 0
Knows me peer net (AwaitsEntry (ToWatch w) name) ws p = ws ≡ []
Knows me peer net (AwaitsNotification e w) ws p = (ws ≡ []) ⊎ AddedOne me peer net ws p
Knows me peer net (Records ForEntry r) ws p = KeepsAll me peer net (is_recorded r) ws
Knows me peer net (Records (ForNotification name) r) ws p =
    KeepsAll me peer net (is_recorded r) ws ⊎ AddedMore me peer net (is_recorded r) ws p
Knows me peer net stage ws p = Unit {0}

-- the answer to the only request waits
pub record Answering (sets : Bool) (me peer : AmsAddress) (net : List ℕ) (now : ℕ) (k : Link) (cl : Client) (stage : Stage) (w : List ℕ) : Type 0 where
  pub closing : k.closing ≡ false
  pub whole : TakesWhole k
  pub awaits : Awaits sets stage
  pub u : Unanswered
  pub one : cl.unanswered ≡ u ∷ []
  pub asked : u.timed_out ≡ None
  pub p : List ℕ
  pub frame : rest_of cl.received ++ w ≡ frame_bytes p
  pub size : 6 + length p ≤ MAX_QUEUED
  pub answer : IsAnswerTo u me peer p
  pub knows : Knows me peer net stage k.client.watches p

-- a sample of the only notification waits
pub record Sampling (me peer : AmsAddress) (net : List ℕ) (k : Link) (cl : Client) (stage : Stage) (w : List ℕ) : Type 0 where
  pub closing : k.closing ≡ false
  pub whole : TakesWhole k
  pub entry : SymbolEntry
  pub handle : ℕ
  pub left : ℕ
  pub stage_is : stage ≡ Watches entry handle (suc left)
  pub none : cl.unanswered ≡ []
  pub p : List ℕ
  pub frame : rest_of cl.received ++ w ≡ frame_bytes p
  pub size : 6 + length p ≤ MAX_QUEUED
  pub sample : IsSampleOf handle p
  pub keeps : KeepsFew me peer net handle k.client.watches

-- nothing waits, and it listens to the only notification
pub record Listening (me peer : AmsAddress) (net : List ℕ) (k : Link) (cl : Client) (stage : Stage) : Type 0 where
  pub closing : k.closing ≡ false
  pub whole : TakesWhole k
  pub entry : SymbolEntry
  pub handle : ℕ
  pub left : ℕ
  pub stage_is : stage ≡ Watches entry handle (suc left)
  pub none : cl.unanswered ≡ []
  pub rest : rest_of cl.received ≡ []
  pub keeps : KeepsFew me peer net handle k.client.watches

-- samples of a recording wait
pub record SamplingAll (me peer : AmsAddress) (net : List ℕ) (k : Link) (cl : Client) (stage : Stage) (w : List ℕ) : Type 0 where
  pub closing : k.closing ≡ false
  pub whole : TakesWhole k
  pub recording : Recording
  pub stage_is : stage ≡ Records ForSamples recording
  pub enough : has_enough recording ≡ false
  pub none : cl.unanswered ≡ []
  pub p : List ℕ
  pub frame : rest_of cl.received ++ w ≡ frame_bytes p
  pub size : 6 + length p ≤ MAX_QUEUED
  pub samples : HasSamples (is_recorded recording) p
  pub keeps : KeepsAll me peer net (is_recorded recording) k.client.watches

-- nothing waits, and a recording listens to its notifications
pub record ListeningAll (me peer : AmsAddress) (net : List ℕ) (k : Link) (cl : Client) (stage : Stage) : Type 0 where
  pub closing : k.closing ≡ false
  pub whole : TakesWhole k
  pub recording : Recording
  pub stage_is : stage ≡ Records ForSamples recording
  pub enough : has_enough recording ≡ false
  pub none : cl.unanswered ≡ []
  pub rest : rest_of cl.received ≡ []
  pub keeps : KeepsAll me peer net (is_recorded recording) k.client.watches

-- what a frame costs at most: its bytes, and the ticks before it
abbrev pub FRAME : ℕ
FRAME = 5194306

pub record Waits (sets : Bool) (me peer : AmsAddress) (s : Machine) (c : Conversation) : Type 0 where
  pub net : List ℕ
  pub now : ℕ
  pub k : Link
  pub cl : Client
  pub stage : Stage
  pub w : List ℕ
  pub stands : Stands net now s k cl.received w
  pub talks : Talks me peer now c cl stage
  pub mode : Answering sets me peer net now k cl stage w ⊎ (Sampling me peer net k cl stage w ⊎ SamplingAll me peer net k cl stage w)
  pub some : w ≡ [] → ⊥
  pub room : c.answers + frames_left stage * FRAME + length w ≤ MAX_ANSWERS

pub record Rests (sets : Bool) (me peer : AmsAddress) (s : Machine) (c : Conversation) : Type 0 where
  pub net : List ℕ
  pub now : ℕ
  pub k : Link
  pub cl : Client
  pub stage : Stage
  pub stands : Stands net now s k cl.received []
  pub talks : Talks me peer now c cl stage
  pub mode : Listening me peer net k cl stage ⊎ (ListeningAll me peer net k cl stage ⊎ (k.closing ≡ true))
  pub room : c.answers + frames_left stage * FRAME + (MAX_QUEUED + 1 + (MAX_QUIET - c.quiet)) ≤ MAX_ANSWERS

-- the call is over
pub record EndsSo (sets : Bool) (c : Conversation) : Type 0 where
  pub end : LoopEnd
  pub is : c.end ≡ Some end
  pub answered : IsAnswered sets end
  pub few : c.answers ≤ MAX_ANSWERS

abbrev pub Good : Bool → AmsAddress → AmsAddress → Machine → Conversation → Type 0
Good sets me peer s c = (Waits sets me peer s c ⊎ Rests sets me peer s c) ⊎ EndsSo sets c

-- a request is issued

id_small : (n : ℕ) → n ≤ MAX_ID → id_after n ≤ MAX_ID
id_small n few = elim (cases_eq n MAX_ID) [
  | inl last ↦ let e : id_after n ≡ 1 = cond-true (n == MAX_ID) _ _ (test_same n MAX_ID last) in omega (arith, e)
  | inr other ↦ let e : id_after n ≡ n + 1 = cond-false (n == MAX_ID) _ _ (test_other n MAX_ID other) in omega (arith, few, e, other)
]

next_is : (cl : Client) → cl.unanswered ≡ [] → next_id cl ≡ id_after cl.last_id
unfolding free_id
next_is cl none = ap (λ (us : List Unanswered). free_id (length us) us (id_after cl.last_id)) none

abbrev pub issued : Client → Request → ℕ → Client
issued cl r now = record cl { last_id = next_id cl; unanswered = asked_one (next_id cl) r now ∷ [] }

pub issued_is : (cl : Client) (r : Request) (now : ℕ) → cl.unanswered ≡ [] → client_after_issue cl r now ≡ issued cl r now
unfolding client_after_issue
issued_is cl r now none =
    let room : is_full cl ≡ false = ap (λ (us : List Unanswered). nat_le 64 (outstanding_count us)) none in
    cond-false (is_full cl) _ _ room
    ∙ ap (λ (us : List Unanswered). record cl { last_id = next_id cl; unanswered = us ++ asked_one (next_id cl) r now ∷ [] }) none

pub issued_silent : (cl : Client) (r : Request) (now : ℕ) → IsSilent now cl → IsSilent now (issued cl r now)
issued_silent cl r now silent = record {
  few = inr (record { u = asked_one (next_id cl) r now; is = refl; asked = (refl, refl) });
  unbroken = silent.unbroken;
  samples = silent.samples;
  all = record { taken = silent.all.taken; front = silent.all.front };
}

-- what the server then knows

added_watch : (me peer : AmsAddress) (id : ℕ) (r : Request) (plant : Plant) (w : Watch (List Addressed)) → IsWatch (asking me peer id r) plant w
    → IsWatched me peer plant.net (is_of w.handle) w
added_watch me peer id r plant w watch = record {
  handle = test_same w.handle w.handle refl;
  small = watch.handle;
  port = watch.port;
  address = watch.address;
  net_is = sym watch.net;
  some = watch.some;
}

-- the notifications behind a request
knows_behind : (reading : DescriptionReading) (me peer : AmsAddress) (world : World)
    (c : served.Client) (id : ℕ) (r : Request) (stage : Stage) (packet : List ℕ) → IsAsked me peer id r
    → Asks stage r → HadWatches me peer world.plant.net stage c.watches → length packet < 2 ^ 32
    → answer_to (asking me peer id r) (decision world c me peer id r) world.memory ≡ Answered packet
    → Knows me peer world.plant.net stage (client_after_acts c (acts_in (decision world c me peer id r))).watches packet
knows_behind reading me peer world c id r (AwaitsEntry (ToWatch w) name) packet a asks had small answer =
    let same : decision world c me peer id r ≡ decision world c me peer id (entry_request name) = ap (decision world c me peer id) asks in
    ap (λ d. (client_after_acts c (acts_in d)).watches) same
    ∙ ap (λ (x : served.Client). x.watches) (entry_keeps (setup_of world) c (asking me peer id (entry_request name)) name refl refl) ∙ had
knows_behind reading me peer world c id r (AwaitsNotification e w) packet a asks had small answer =
    let h = asking me peer id r in
    elim (addition_adds (setup_of world) c h (request_bytes r) refl asks) [
      | inl keeps ↦ inl (ap (λ (x : served.Client). x.watches) keeps ∙ had)
      | inr adds ↦ inr (record {
        w = adds.w;
        is = added_watches c adds.w (decision world c me peer id r) adds.is ∙ ap (λ (ws : List (Watch (List Addressed))). ws ++ adds.w ∷ []) had;
        kept = added_watch me peer id r world.plant adds.w adds.watch;
        gives = addition_gives world c me peer id r packet adds a asks small answer;
      })
    ]
knows_behind reading me peer world c id r (Records ForEntry x) packet a asks had small answer =
    let name = asks.0 in
    let same : decision world c me peer id r ≡ decision world c me peer id (entry_request name) = ap (decision world c me peer id) asks.1 in
    let keeps = entry_keeps (setup_of world) c (asking me peer id (entry_request name)) name refl refl in
    subst (KeepsAll me peer world.plant.net (is_recorded x))
    (sym (ap (λ d. (client_after_acts c (acts_in d)).watches) same ∙ ap (λ (y : served.Client). y.watches) keeps)) had
knows_behind reading me peer world c id r (Records (ForNotification name) x) packet a asks had small answer =
    let h = asking me peer id r in
    elim (addition_adds (setup_of world) c h (request_bytes r) refl asks) [
      | inl keeps ↦ inl (subst (KeepsAll me peer world.plant.net (is_recorded x)) (sym (ap (λ (y : served.Client). y.watches) keeps)) had)
      | inr adds ↦ inr (record {
        old = c.watches;
        w = adds.w;
        is = added_watches c adds.w (decision world c me peer id r) adds.is;
        kept = had;
        one = added_watch me peer id r world.plant adds.w adds.watch;
        gives = addition_gives world c me peer id r packet adds a asks small answer;
      })
    ]
knows_behind reading me peer world c id r stage packet a asks had small answer = tt

abbrev pub device : DescriptionReading → Device World served.Client
device reading = ads_device reading

-- the machine behind a piece
abbrev piece_behind : DescriptionReading → List ℕ → Machine → Link → Exchange World served.Client
piece_behind reading f m k = after_piece (device reading) f (exchange_of m k)

pub piece_step : (reading : DescriptionReading) (f : List ℕ) (m : Machine) (k : Link) → HasOne m k
    → state_after_event (device reading) m (event.Piece 1 f) ≡ with_exchange (after_piece (device reading) f (exchange_of m k)) m
unfolding state_after_event
piece_step reading f m k one = ap (λ o. after_exchange o (after_piece (device reading) f) m) one.is

has_one_behind : (reading : DescriptionReading) (f : List ℕ) (m : Machine) (k : Link) → HasOne m k → (piece_behind reading f m k).connection.gone ≡ k.gone
    → HasOne (with_exchange (piece_behind reading f m k) m) (piece_behind reading f m k).connection
has_one_behind reading f m k one gone = record {
  is = sym (ap (λ o. connection_of 1 (after_exchange o (after_piece (device reading) f) m).connections) one.is)
      ∙ exchange_own 1 (after_piece (device reading) f) (after_piece-number (device reading) f) m k one.is;
  there = gone ∙ one.there;
}

-- what is asked, and by whom
pub record Asking (sets : Bool) (me peer : AmsAddress) (net : List ℕ) (now : ℕ)
    (m : Machine) (k : Link) (cl : Client) (stage : Stage) (r : Request) : Type 0 where
  pub stands : Stands net now m k cl.received []
  pub closing : k.closing ≡ false
  pub whole : TakesWhole k
  pub rest : rest_of cl.received ≡ []
  pub silent : IsSilent now cl
  pub none : cl.unanswered ≡ []
  pub me_is : cl.me ≡ me
  pub peer_is : cl.peer ≡ peer
  pub ids : cl.last_id ≤ MAX_ID
  pub me_fits : IsAddress me
  pub peer_fits : IsAddress peer
  pub awaits : Awaits sets stage
  pub short : IsShort r
  pub asks : Asks stage r
  pub had : HadWatches me peer net stage k.client.watches

-- a conversation behind it
pub record AsksIn (now : ℕ) (cl : Client) (stage : Stage) (r : Request) (d : Conversation) : Type 0 where
  pub on : d.end ≡ None
  pub runner : d.runner ≡ at (issued cl r now) stage []
  pub quiet : d.quiet < MAX_QUIET
  pub room : d.answers + frames_left stage * FRAME + 5194305 ≤ MAX_ANSWERS

asks_talks : (sets : Bool) (me peer : AmsAddress) (net : List ℕ) (now : ℕ)
    (m : Machine) (k : Link) (cl : Client) (stage : Stage) (r : Request) (d : Conversation)
    → Asking sets me peer net now m k cl stage r → AsksIn now cl stage r d → Talks me peer now d (issued cl r now) stage
asks_talks sets me peer net now m k cl stage r d x y = record {
  on = y.on;
  runner = y.runner;
  going = awaits_on sets stage x.awaits;
  silent = issued_silent cl r now x.silent;
  me_is = x.me_is;
  peer_is = x.peer_is;
  ids = subst (λ n. n ≤ MAX_ID) (sym (next_is cl x.none)) (id_small cl.last_id x.ids);
  quiet = y.quiet;
}

-- the connection closes
shuts : (sets : Bool) (me peer : AmsAddress) (net : List ℕ) (now : ℕ) (reading : DescriptionReading)
    (m : Machine) (k : Link) (cl : Client) (stage : Stage) (r : Request) (d : Conversation) (f : List ℕ)
    → Asking sets me peer net now m k cl stage r → AsksIn now cl stage r d → Closes k (piece_behind reading f m k).connection
    → Good sets me peer (with_exchange (piece_behind reading f m k) m) d
shuts sets me peer net now reading m k cl stage r d f x y closes =
    let e = piece_behind reading f m k in
    let room = y.room in
    inl (inr (record {
      net = e.world.plant.net;
      now = now;
      k = e.connection;
      cl = issued cl r now;
      stage = stage;
      stands = record {
        one = has_one_behind reading f m k x.stands.one closes.gone;
        moment = x.stands.moment;
        time = x.stands.time;
        net_is = refl;
        out = ap bytes_of_all closes.produced ∙ x.stands.out;
        taken = closes.bytes_taken ∙ x.stands.taken;
      };
      talks = asks_talks sets me peer net now m k cl stage r d x y;
      mode = inr (inr closes.closing);
      room = omega (arith, room);
    }))

frame_not_nil : (p : List ℕ) → frame_bytes p ≡ [] → ⊥
frame_not_nil p e = let n = ap (λ l. length l) e in let f = length-frame_bytes p in omega (arith, n, f)

pub one_more_out : (produced : List Produced) (frame : Produced) (received bytes : List ℕ) → bytes_of frame ≡ bytes → bytes_of_all produced ≡ received ++ []
    → bytes_of_all (produced ++ frame ∷ []) ≡ received ++ bytes
one_more_out produced frame received bytes is out =
    flat_map-append bytes_of produced (frame ∷ []) ∙ ap (λ l. l ++ (bytes_of frame ++ [])) (out ∙ append-nil received)
    ∙ ap (λ l. received ++ l) (append-nil (bytes_of frame) ∙ is)

answer_size : {C : Type 0} (k : Connection C) (packet : List ℕ)
    → nat_le (queued_of k + length (frame_bytes packet)) MAX_QUEUED ≡ true → 6 + length packet ≤ MAX_QUEUED
answer_size k packet room =
    let le = leb-true (queued_of k + length (frame_bytes packet)) MAX_QUEUED room in
    let sum = length-frame_bytes packet in
    omega (arith, le, sum)

-- a frame answers
answers : (sets : Bool) (me peer : AmsAddress) (net : List ℕ) (now : ℕ) (reading : DescriptionReading)
    (m : Machine) (k : Link) (cl : Client) (stage : Stage) (r : Request) (d : Conversation)
    (f : List ℕ) → (let q = request_packet me peer (next_id cl) r in let o = (device reading).take m.world k.client q in let e = piece_behind reading f m k in
    Asking sets me peer net now m k cl stage r → AsksIn now cl stage r d → IsAsked me peer (next_id cl) r → Served o k e.connection → e.world ≡ o.world
    → Good sets me peer (with_exchange e m) d)
answers sets me peer net now reading m k cl stage r d f x y asked gave world =
    let id = next_id cl in
    let e = piece_behind reading f m k in
    let gives = gave.gives in
    let p = gave.packet in
    let size = answer_size k p gives.room in
    let sum = length-frame_bytes p in
    let small : length p < 2 ^ 32 = omega (arith, size) in
    let did = does reading m.world k.client me peer id r asked in
    let answer = sym did.answer ∙ gave.answer in
    let response = response_so (asking me peer id r) (decision m.world k.client me peer id r) m.world.memory p
    (replied (setup_of m.world) k.client (asking me peer id r) _ refl x.short.other) answer in
    let had = subst (λ n. HadWatches me peer n stage k.client.watches) (sym x.stands.net_is) x.had in
    let knows = knows_behind reading me peer m.world k.client id r stage p asked x.asks had small answer in
    let plant : e.world.plant.net ≡ m.world.plant.net = ap (λ (w : World). w.plant.net) world ∙ ap (λ (pl : Plant). pl.net) did.plant in
    let client : e.connection.client.watches ≡ (client_after_acts k.client (acts_in (decision m.world k.client me peer id r))).watches
    = ap (λ (c : served.Client). c.watches) (gives.client_is ∙ did.client) in
    let room = y.room in
    inl (inl (record {
      net = m.world.plant.net;
      now = now;
      k = e.connection;
      cl = issued cl r now;
      stage = stage;
      w = frame_bytes p;
      stands = record {
        one = has_one_behind reading f m k x.stands.one gives.gone;
        moment = x.stands.moment;
        time = x.stands.time;
        net_is = plant;
        out = ap bytes_of_all gives.produced ∙ one_more_out k.produced (Reply (frame_bytes p)) cl.received (frame_bytes p) refl x.stands.out;
        taken = gives.bytes_taken ∙ x.stands.taken;
      };
      talks = asks_talks sets me peer net now m k cl stage r d x y;
      mode = inl (record {
        closing = gives.closing;
        whole = gives.whole;
        awaits = x.awaits;
        u = asked_one id r now;
        one = refl;
        asked = refl;
        p = p;
        frame = ap (λ l. l ++ frame_bytes p) x.rest;
        size = size;
        answer = response_answers me peer id r now p asked response small;
        knows = subst (λ ws. Knows me peer m.world.plant.net stage ws p) (sym client) knows;
      });
      some = frame_not_nil p;
      room = omega (arith, room, size, sum);
    }))

pub asked : (sets : Bool) (me peer : AmsAddress) (net : List ℕ) (now : ℕ) (reading : DescriptionReading)
    (m : Machine) (k : Link) (cl : Client) (stage : Stage) (r : Request) (d : Conversation)
    → Asking sets me peer net now m k cl stage r → AsksIn now cl stage r d
    → Good sets me peer (state_after_event (device reading) m (event.Piece 1 (request_frame cl (next_id cl) r))) d
asked sets me peer net now reading m k cl stage r d x y =
    let id = next_id cl in
    let q = request_packet me peer id r in
    let f = frame_bytes q in
    let same : request_frame cl id r ≡ f =
    ap (λ (a : AmsAddress). frame_bytes (request_packet a cl.peer id r)) x.me_is
    ∙ ap (λ (a : AmsAddress). frame_bytes (request_packet me a id r)) x.peer_is in
    let few : id ≤ MAX_ID = subst (λ n. n ≤ MAX_ID) (sym (next_is cl x.none)) (id_small cl.last_id x.ids) in
    let is_asked : IsAsked me peer id r =
    record { from = x.me_fits; to = x.peer_fits; small = omega (arith, few); len = x.short.len; command = x.short.command } in
    let did = does reading m.world k.client me peer id r is_asked in
    let replies = subst Replies (sym did.answer) (replies_so (asking me peer id r) (decision m.world k.client me peer id r) m.world.memory
    (replied (setup_of m.world) k.client (asking me peer id r) _ refl x.short.other)) in
    let came = piece_taken (device reading) q (exchange_of m k) (length-asked me peer id r is_asked) x.closing x.stands.one.there x.whole replies in
    subst (λ g. Good sets me peer (state_after_event (device reading) m (event.Piece 1 g)) d) (sym same)
    (subst (λ s. Good sets me peer s d) (sym (piece_step reading f m k x.stands.one))
    (elim came.taken [
      | inl closes ↦ shuts sets me peer net now reading m k cl stage r d f x y closes
      | inr gave ↦ answers sets me peer net now reading m k cl stage r d f x y is_asked gave (came.world gave.gives.closing)
    ]))
