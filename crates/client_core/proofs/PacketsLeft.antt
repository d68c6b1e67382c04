-- The packets that are left to be heard, as the stream gives them.
use Rattle.std.proofs.Common.{◌≡◌, ℕ, zero, suc, ◌+◌, ◌<◌, ◌≤◌, List, [], ◌∷◌, ◌++◌, length, take, drop}
use Rattle.std.proofs.Common.{get_or, Bool, true, false, refl, sym, ap, ◌∙◌, subst, arith, add-one, add-zero}
use Rattle.std.specs.Prelude.{Option, Some, None, Result, Ok, Err, IfOk, OnOk, slice_get, filter, is_some, if◌then◌else◌}
use Rattle.std.proofs.Math.Seq.{drop-cons}
use Rattle.std.proofs.lemmas.List.{length-append, take_more}
use Rattle.std.proofs.lemmas.List.Elements.{filter-append}
use Rattle.ads_base.specs.declared.no_memory.NoMemory.{NoMemory}
use Rattle.spec_frames.specs.Division.{Front, Whole, Open, Broken, frames_of, front_of, left_behind, rest_of}
use Rattle.ams_tcp.specs.Held.{Held}
use Rattle.ams_tcp.specs.History as stream
use Rattle.ams_tcp.specs.History.{answer_of}
use Rattle.ams_tcp.specs.declared.cut.Cut.{Cut}
use Rattle.ams_tcp.specs.declared.cut.Cut.TheVariants as cut
use Rattle.spec_client.specs.Heard as spec
use Rattle.spec_client.specs.PassedOver.{says_something}
use Rattle.spec_client.specs.Client.{Client, packets_left}
use Rattle.spec_client.specs.Hearing.{Hearing, hearing, rest_hearing, with_one_taken, packets_hearing}
use Rattle.client_core.specs.Kept.{Kept, waiting_count}
use Rattle.client_core.specs.Represents.{IsNextFrame, Streams, StandsFor}
use Rattle.client_core.specs.Hears.{hearing_in_frames, with_waiting, IsQuiet, IsAtBroken, CutFor, Cuts}

-- what passes behind the first elements is what is left behind those of them that pass
filter_split : {X : Type 0} (p : X → Bool) (xs : List X) (i : ℕ) → drop (length (filter p (take i xs))) (filter p xs) ≡ filter p (drop i xs)
filter_split p [] zero = refl
filter_split p [] (suc i) = refl
filter_split p (x ∷ xs) zero = refl
filter_split {X} p (x ∷ xs) (suc i) = go (p x) (filter_split p xs i)
  where
    go : (b : Bool) → drop (length (filter p (take i xs))) (filter p xs) ≡ filter p (drop i xs)
        → drop (length (if b then x ∷ filter p (take i xs) else filter p (take i xs))) (if b then x ∷ filter p xs else filter p xs) ≡ filter p (drop i xs)
    go true e = e
    go false e = e

-- an element that is there
record IsAt {X : Type 0} (xs : List X) (i : ℕ) (x : X) : Type 0 where
  within : i < length xs
  is : get_or xs i x ≡ x

some_is : {X : Type 0} (x y : X) → Some x ≡ Some y → x ≡ y
some_is x y e = cc

none_is : {X : Type 0} (x : X) (o : Option X) → o ≡ None → o ≡ Some x → ⊥
none_is x o e f = cc

is_at_place : {X : Type 0} (xs : List X) (i : ℕ) (x : X) → slice_get xs i ≡ Some x → IsAt xs i x
is_at_place [] i x e = absurd (none_is x (slice_get [] i) refl e)
is_at_place (y ∷ ys) zero x e = record { within = omega arith; is = some_is y x e }
is_at_place (y ∷ ys) (suc i) x e = let later = is_at_place ys i x e in record { within = let w = later.within in omega arith; is = later.is }

drop_next : {X : Type 0} (n : ℕ) (xs ys : List X) (y : X) → drop n xs ≡ y ∷ ys → drop (suc n) xs ≡ ys
drop_next zero [] ys y e = cc
drop_next zero (x ∷ xs) ys y e = cc
drop_next (suc n) [] ys y e = cc
drop_next (suc n) (x ∷ xs) ys y e = drop_next n xs ys y e

none_behind : {X : Type 0} (xs : List X) (i : ℕ) → slice_get xs i ≡ None → drop i xs ≡ []
none_behind [] zero e = refl
none_behind [] (suc i) e = refl
none_behind (x ∷ xs) zero e = absurd (none_is x (Some x) e refl)
none_behind (x ∷ xs) (suc i) e = none_behind xs i e

filter_more : {X : Type 0} (p : X → Bool) (xs : List X) (i : ℕ) (x : X) → IsAt xs i x
    → filter p (take (i + 1) xs) ≡ filter p (take i xs) ++ (if p x then x ∷ [] else [])
filter_more p xs i x at =
    let within = at.within in
    let more : take (i + 1) xs ≡ take i xs ++ x ∷ [] = take_more xs i x within ∙ ap (λ y. take i xs ++ y ∷ []) at.is in
    rw (more, filter-append) refl

-- the packets behind those that were cut
left_is : (k : Kept) (c : Client) (s : Streams k c) → packets_left c ≡ filter says_something (drop s.given (frames_of c.received))
left_is k c s = rw (← s.taken) (filter_split says_something (frames_of c.received) s.given)

again : (held : Held) (fed : List ℕ) (n m : ℕ) (told : Bool) → n ≡ m → stream.Represents held (record { fed = fed; given = n; told_broken = told })
    → stream.Represents held (record { fed = fed; given = m; told_broken = held.told_broken })
again held fed n m told e s = record {
  rest = s.rest ∙ ap (λ x. left_behind x fed) e;
  given = subst (λ x. x ≤ length (frames_of fed)) e s.given;
  told_broken = refl;
}

none_next : (w : Option (List ℕ)) (given : ℕ) (received : List ℕ) → w ≡ None → IsNextFrame w given received
none_next w given received e = subst (λ o. IsNextFrame o given received) (sym e) tt

none_counts : (w : Option (List ℕ)) (n : ℕ) → w ≡ None → n ≡ n + waiting_count w
none_counts w n e = rw e (sym (add-zero n))

-- one packet more is cut
one_more : (k : Kept) → k.waiting ≡ None → (c d : Client) (packet : List ℕ) → d.received ≡ c.received → (s : Streams (with_waiting k packet) c)
    → length (filter says_something (take (s.given + 1) (frames_of c.received))) ≡ d.taken → Streams k d
one_more k idle c d packet same s taken = record {
  given = s.given + 1;
  stream = rw same (again k.stream c.received (s.given + 1) (s.given + 1 + waiting_count k.waiting)
      k.stream.told_broken (none_counts k.waiting (s.given + 1) idle) s.stream);
  waiting = none_next k.waiting (s.given + 1) d.received idle;
  taken = rw same taken;
}

-- a packet that says nothing is passed over
pub passed_over : (k : Kept) → k.waiting ≡ None → (c : Client) (packet : List ℕ)
    → says_something packet ≡ false → Streams (with_waiting k packet) c → Streams k c
passed_over k idle c packet silent s =
    let at = is_at_place (frames_of c.received) s.given packet s.waiting in
    let more = filter_more says_something (frames_of c.received) s.given packet at in
    one_more k idle c c packet refl s (rw (more, silent, length-append) (rw add-zero s.taken))

-- one that says something is taken
pub taken_over : (k : Kept) → k.waiting ≡ None → (c : Client) (packet : List ℕ)
    → says_something packet ≡ true → Streams (with_waiting k packet) c → Streams k (with_one_taken c)
taken_over k idle c packet says s =
    let at = is_at_place (frames_of c.received) s.given packet s.waiting in
    let more = filter_more says_something (frames_of c.received) s.given packet at in
    one_more k idle c (with_one_taken c) packet refl s (rw (more, says, length-append) (ap (λ n. n + 1) s.taken))

-- and it is the next packet
pub next_left : (k : Kept) (c : Client) (packet : List ℕ) → says_something packet ≡ true → Streams (with_waiting k packet) c
    → packets_left c ≡ packet ∷ packets_left (with_one_taken c)
next_left k c packet says s =
    let frames = frames_of c.received in
    let at = is_at_place frames s.given packet s.waiting in
    let within = at.within in
    let rest : drop s.given frames ≡ packet ∷ drop (suc s.given) frames =
    drop-cons frames s.given packet within ∙ ap (λ p. p ∷ drop (suc s.given) frames) at.is in
    let here : packets_left c ≡ packet ∷ filter says_something (drop (suc s.given) frames) = left_is (with_waiting k packet) c s ∙ rw (rest, says) refl in
    let behind = drop_next c.taken (filter says_something frames) (filter says_something (drop (suc s.given) frames)) packet here in
    here ∙ ap (λ ps. packet ∷ ps) (sym (rw add-one behind))

not_frame : (f : Front) (packet : List ℕ) → cut.Frame packet ≡ stream.answer_for_rest f → ⊥
not_frame Whole packet e = cc
not_frame Open packet e = cc
not_frame Broken packet e = cc

frame_found : (o : Option (List ℕ)) (rest packet : List ℕ) → cut.Frame packet ≡ stream.answer_for o rest → o ≡ Some packet
frame_found None rest packet e = absurd (not_frame (front_of rest) packet e)
frame_found (Some p) rest packet e = cc

quiet_rest : (c : Client) (f : Front) → cut.NotYet ≡ stream.answer_for_rest f → rest_hearing c f ≡ hearing spec.NotYet c
quiet_rest c Whole e = refl
quiet_rest c Open e = refl
quiet_rest c Broken e = absurd (let h : cut.NotYet ≡ cut.Broken = e in cc)

broken_rest : (f : Front) → cut.Broken ≡ stream.answer_for_rest f → f ≡ Broken
broken_rest Whole e = absurd (let h : cut.Broken ≡ cut.NotYet = e in cc)
broken_rest Open e = absurd (let h : cut.Broken ≡ cut.NotYet = e in cc)
broken_rest Broken e = refl

-- an answer that is no frame comes where no frame is left
record IsRest (o : Option (List ℕ)) (rest : List ℕ) (answer : Cut) : Type 0 where
  none : o ≡ None
  is : answer ≡ stream.answer_for_rest (front_of rest)

not_yet_rest : (o : Option (List ℕ)) (rest : List ℕ) → cut.NotYet ≡ stream.answer_for o rest → IsRest o rest cut.NotYet
not_yet_rest None rest e = record { none = refl; is = e }
not_yet_rest (Some p) rest e = absurd (let h : cut.NotYet ≡ cut.Frame p = e in cc)

at_broken_rest : (o : Option (List ℕ)) (rest : List ℕ) → cut.Broken ≡ stream.answer_for o rest → IsRest o rest cut.Broken
at_broken_rest None rest e = record { none = refl; is = e }
at_broken_rest (Some p) rest e = absurd (let h : cut.Broken ≡ cut.Frame p = e in cc)

-- the history of the bytes while no packet waits
abbrev bytes_of : Kept → Client → ℕ → stream.History
bytes_of k c given = record { fed = c.received; given = given; told_broken = k.stream.told_broken }

abbrev Answers : Kept → Cut → Type 0
Answers k answer = (h : stream.History) → stream.Represents k.stream h → answer ≡ stream.answer_of h

abbrev Steps : Kept → Held → Type 0
Steps k held = (h : stream.History) → stream.Represents k.stream h → stream.Represents held (stream.after_next h)

idle_stream : (k : Kept) → k.waiting ≡ None → (c : Client) (s : Streams k c) → stream.Represents k.stream (bytes_of k c s.given)
idle_stream k idle c s = again k.stream c.received (s.given + waiting_count k.waiting)
    s.given k.stream.told_broken (sym (none_counts k.waiting s.given idle)) s.stream

-- all but the stream stays
restreamed : (k : Kept) (held : Held) (w : Option (List ℕ)) (c : Client) → StandsFor k c → Streams (record k { stream = held; waiting = w }) c
    → StandsFor (record k { stream = held; waiting = w }) c
restreamed k held w c s streams = record {
  me = s.me;
  peer = s.peer;
  last_id = s.last_id;
  unanswered = s.unanswered;
  streams = streams;
  samples = s.samples;
  broken = s.broken;
}

no_packets : (k : Kept) (c : Client) (s : Streams k c) → slice_get (frames_of c.received) s.given ≡ None
    → hearing_in_frames c ≡ rest_hearing c (front_of (rest_of c.received))
unfolding packets_hearing
no_packets k c s none =
    let left : packets_left c ≡ [] = left_is k c s ∙ rw (none_behind (frames_of c.received) s.given none) refl in
    rw left refl

-- nothing was cut
same_place : (k : Kept) (held : Held) (w : Option (List ℕ)) → w ≡ None → (c : Client) (s : Streams k c) (told : Bool)
    → stream.Represents held (record { fed = c.received; given = s.given; told_broken = told }) → Streams (record k { stream = held; waiting = w }) c
same_place k held w idle c s told stands = record {
  given = s.given;
  stream = again held c.received s.given (s.given + waiting_count w) told (none_counts w s.given idle) stands;
  waiting = none_next w s.given c.received idle;
  taken = s.taken;
}

cut_frame : (k : Kept) (held : Held) (w : Option (List ℕ)) (packet : List ℕ) → k.waiting ≡ None → Answers k (cut.Frame packet) → Steps k held
    → (c : Client) → StandsFor k c → CutFor (record k { stream = held; waiting = w }) (cut.Frame packet) c
unfolding answer_of
cut_frame k held w packet idle answers steps c s =
    let h = bytes_of k c s.streams.given in
    let stands = idle_stream k idle c s.streams in
    let e : cut.Frame packet ≡ stream.answer_of h = answers h stands in
    let next : stream.Represents held (stream.after_answer (cut.Frame packet) h) =
    subst (λ (x : Cut). stream.Represents held (stream.after_answer x h)) (sym e) (steps h stands) in
    restreamed k held (Some packet) c s (record {
      given = s.streams.given;
      stream = again held c.received (s.streams.given + 1) (s.streams.given + 1) k.stream.told_broken refl next;
      waiting = frame_found (slice_get (frames_of c.received) s.streams.given) (rest_of c.received) packet e;
      taken = s.streams.taken;
    })

cut_quiet : (k : Kept) (held : Held) (w : Option (List ℕ)) → w ≡ None → k.waiting ≡ None → Answers k cut.NotYet → Steps k held
    → (c : Client) → StandsFor k c → IsQuiet (record k { stream = held; waiting = w }) c
unfolding answer_of
cut_quiet k held w none idle answers steps c s =
    let h = bytes_of k c s.streams.given in
    let stands = idle_stream k idle c s.streams in
    let e : cut.NotYet ≡ stream.answer_of h = answers h stands in
    let rest = not_yet_rest (slice_get (frames_of c.received) s.streams.given) (rest_of c.received) e in
    let next : stream.Represents held (stream.after_answer cut.NotYet h) =
    subst (λ (x : Cut). stream.Represents held (stream.after_answer x h)) (sym e) (steps h stands) in
    record {
      quiet = no_packets k c s.streams rest.none ∙ quiet_rest c (front_of (rest_of c.received)) rest.is;
      stands = restreamed k held w c s (same_place k held w none c s.streams k.stream.told_broken next);
    }

cut_broken : (k : Kept) (held : Held) (w : Option (List ℕ)) → w ≡ None → k.waiting ≡ None → Answers k cut.Broken → Steps k held
    → (c : Client) → StandsFor k c → IsAtBroken (record k { stream = held; waiting = w }) c
unfolding answer_of
cut_broken k held w none idle answers steps c s =
    let h = bytes_of k c s.streams.given in
    let stands = idle_stream k idle c s.streams in
    let e : cut.Broken ≡ stream.answer_of h = answers h stands in
    let rest = at_broken_rest (slice_get (frames_of c.received) s.streams.given) (rest_of c.received) e in
    let next : stream.Represents held (stream.after_answer cut.Broken h) =
    subst (λ (x : Cut). stream.Represents held (stream.after_answer x h)) (sym e) (steps h stands) in
    record {
      broken = no_packets k c s.streams rest.none ∙ ap (λ f. rest_hearing c f) (broken_rest (front_of (rest_of c.received)) rest.is);
      told = next.told_broken;
      stands = restreamed k held w c s (same_place k held w none c s.streams true next);
    }

cut_for : (k : Kept) (held : Held) (w : Option (List ℕ)) → w ≡ None → k.waiting ≡ None → (answer : Cut) → Answers k answer → Steps k held
    → Cuts k (record k { stream = held; waiting = w }) answer
cut_for k held w none idle (cut.Frame packet) answers steps c s = cut_frame k held w packet idle answers steps c s
cut_for k held w none idle cut.NotYet answers steps c s = cut_quiet k held w none idle answers steps c s
cut_for k held w none idle cut.Broken answers steps c s = cut_broken k held w none idle answers steps c s

-- what the stream gives is cut for every client
pub cut_next : (old k : Kept) (w : Option (List ℕ)) (held : Held) → k ≡ old → k.waiting ≡ None → w ≡ None → (r : Result Cut NoMemory)
    → IfOk r (Answers k) → OnOk r (Steps k held) → IfOk r (Cuts old (record k { stream = held; waiting = w }))
cut_next old k w held e idle none (Ok answer) answers steps =
    subst (λ (o : Kept). Cuts o (record k { stream = held; waiting = w }) answer) e (cut_for k held w none idle answer answers steps)
cut_next old k w held e idle none (Err wants) answers steps = tt

-- the packet that waits
pub cut_waiting : (old k : Kept) (w : Option (List ℕ)) (packet : List ℕ) → k ≡ old
    → k.waiting ≡ Some packet → Cuts old (record k { waiting = w }) (cut.Frame packet)
cut_waiting old k w packet e waits c s =
    subst (λ (o : Kept). StandsFor o c) (sym e ∙ ap (λ x. record k { waiting = x }) waits) s
