-- The connections of a state: one in the place of another, a change of one, and one more.
use Rattle.std.proofs.Common.{◌≡◌, ◌≢◌, ℕ, suc, ◌+◌, List, [], ◌∷◌, ◌++◌, true, refl, sym, ap, ◌∙◌, inl, inr, arith}
use Rattle.std.specs.Prelude.{◌==◌, Option, Some, None, map, sum, length}
use Rattle.std.proofs.lemmas.Bool.{cases_eq, cond-true, cond-false}
use Rattle.std.proofs.lemmas.List.Sums.{sum-map, sum_by-cons}
use Rattle.spec_machine.specs.Connection.{connection_of, put_back, with_frame, fresh_connection}
use Rattle.spec_machine.specs.MachineState.{after_exchange}
use Rattle.spec_machine.proofs.Find.{test_same, test_other, or_else, number_of_found, connection_of-append}
use Rattle.connections.proofs.StateLemmas.{connection_of-same, connection_of-other}
use Rattle.connections.proofs.StateLemmas.{put_back-same, put_back-other, put_back-itself, none_of_nil, was_none}
use Rattle.spec_relay.specs.RelayState.{Owned, RelayConnection, RelayState}
use Rattle.spec_relay.specs.Routing.{at_connection, framed}

-- a change that leaves the number, and whether the connection is there
pub record Stays (f : RelayConnection → RelayConnection) : Type 0 where
  pub number : (k : RelayConnection) → (f k).number ≡ k.number
  pub gone : (k : RelayConnection) → (f k).gone ≡ k.gone

-- and its client, and whether it is heard
pub record Quiet (f : RelayConnection → RelayConnection) : Type 0 where
  pub stays : Stays f
  pub client : (k : RelayConnection) → (f k).client ≡ k.client
  pub closing : (k : RelayConnection) → (f k).closing ≡ k.closing

-- a frame that fits leaves who is heard
pub frame_quiet : (packet : List ℕ) → Quiet (with_frame (framed packet))
frame_quiet packet = record { stays = record { number = λ k. refl; gone = λ k. refl }; client = λ k. refl; closing = λ k. refl }

-- a change of one connection, by the list
pub changed-list : (n : ℕ) (f : RelayConnection → RelayConnection) (s : RelayState) (P : List RelayConnection → Type 0)
    → (connection_of n s.connections ≡ None → P s.connections)
    → ((k : RelayConnection) → connection_of n s.connections ≡ Some k → P (put_back (f k) s.connections)) → P (at_connection n f s).connections
changed-list n f s P none some = go (connection_of n s.connections) refl
  where
    go : (o : Option RelayConnection) → connection_of n s.connections ≡ o → P (after_exchange o (λ x. record x { connection = f x.connection }) s).connections
    go None e = none e
    go (Some k) e = some k e

-- a change that changes nothing
pub changed-nothing : (n : ℕ) (f : RelayConnection → RelayConnection) (s : RelayState)
    → ((k : RelayConnection) → connection_of n s.connections ≡ Some k → f k ≡ k) → at_connection n f s ≡ s
changed-nothing n f s same = go (connection_of n s.connections) refl
  where
    go : (o : Option RelayConnection) → connection_of n s.connections ≡ o → after_exchange o (λ x. record x { connection = f x.connection }) s ≡ s
    go None e = refl
    go (Some k) e =
        ap (λ (l : RelayConnection). record s { connections = put_back l s.connections }) (same k e)
        ∙ ap (λ ks. record s { connections = ks }) (put_back-itself n k s.connections e)

-- how many frames were taken, of all
abbrev pub frames_in : List RelayConnection → ℕ
frames_in ks = sum (map (λ (k : RelayConnection). k.frames_taken) ks)

pub frames-cons : (k : RelayConnection) (ks : List RelayConnection) → frames_in (k ∷ ks) ≡ k.frames_taken + frames_in ks
frames-cons k ks =
    sum-map (λ (x : RelayConnection). x.frames_taken) (k ∷ ks) ∙ sum_by-cons (λ (x : RelayConnection). x.frames_taken) k ks
    ∙ ap (λ m. k.frames_taken + m) (sym (sum-map (λ (x : RelayConnection). x.frames_taken) ks))

pub frames-put_back : (n more : ℕ) (l k : RelayConnection) (ks : List RelayConnection)
    → connection_of n ks ≡ Some k → l.number ≡ n → l.frames_taken ≡ k.frames_taken + more
    → frames_in (put_back l ks) ≡ frames_in ks + more
unfolding put_back
frames-put_back n more l k [] found number taken = absurd (let no : ◌≡◌ {A = Option RelayConnection} None (Some k) = sym (none_of_nil n) ∙ found in cc)
frames-put_back n more l k (j ∷ ks) found number taken = elim (cases_eq j.number n) [
  | inl q ↦
      let same : j ≡ k = (let both = sym (connection_of-same n j ks q) ∙ found in cc) in
      let count = ap (λ (x : RelayConnection). x.frames_taken) same in
      let old = frames-cons j ks in
      let new = frames-cons l ks in
      ap frames_in (put_back-same l j ks (q ∙ sym number)) ∙ omega (arith, taken, count, old, new)
  | inr q ↦
      let rest = frames-put_back n more l k ks (sym (connection_of-other n j ks q) ∙ found) number taken in
      let old = frames-cons j ks in
      let new = frames-cons j (put_back l ks) in
      ap frames_in (put_back-other l j ks (λ r. q (r ∙ number))) ∙ omega (arith, rest, old, new)
]

pub length-put_back : (l : RelayConnection) (ks : List RelayConnection) → length (put_back l ks) ≡ length ks
unfolding put_back
length-put_back l [] = refl
length-put_back l (k ∷ ks) = elim (cases_eq k.number l.number) [
  | inl q ↦ ap (λ (xs : List RelayConnection). length xs) (put_back-same l k ks q)
  | inr q ↦ ap (λ (xs : List RelayConnection). length xs) (put_back-other l k ks q) ∙ ap (λ m. suc m) (length-put_back l ks)
]

-- counts of connections and of frames after a change
pub changed-frames : (n : ℕ) (f : RelayConnection → RelayConnection) → ((k : RelayConnection) → (f k).number ≡ k.number)
    → ((k : RelayConnection) → (f k).frames_taken ≡ k.frames_taken) → (s : RelayState)
    → frames_in (at_connection n f s).connections ≡ frames_in s.connections
changed-frames n f number same s =
    changed-list n f s (λ ks. frames_in ks ≡ frames_in s.connections) (λ e. refl)
    (λ k e. frames-put_back n 0 (f k) k s.connections e (number k ∙ number_of_found n k s.connections e) (same k ∙ omega arith) ∙ omega arith)

pub changed-length : (n : ℕ) (f : RelayConnection → RelayConnection) (s : RelayState) → length (at_connection n f s).connections ≡ length s.connections
changed-length n f s = changed-list n f s (λ ks. length ks ≡ length s.connections) (λ e. refl) (λ k e. length-put_back (f k) s.connections)

pub changed-more-frames : (n : ℕ) (f : RelayConnection → RelayConnection) → ((k : RelayConnection) → (f k).number ≡ k.number)
    → ((k : RelayConnection) → (f k).frames_taken ≡ k.frames_taken + 1) → (s : RelayState)
    → (k : RelayConnection) → connection_of n s.connections ≡ Some k → frames_in (at_connection n f s).connections ≡ frames_in s.connections + 1
changed-more-frames n f number more s k found =
    changed-list n f s (λ ks. frames_in ks ≡ frames_in s.connections + 1)
    (λ e. absurd (let no : ◌≡◌ {A = Option RelayConnection} None (Some k) = sym e ∙ found in cc))
    (λ j e. frames-put_back n 1 (f j) j s.connections e (number j ∙ number_of_found n j s.connections e) (more j))

-- whoever was opened is found after a change
pub changed-none : (n m : ℕ) (f : RelayConnection → RelayConnection) → (s : RelayState) → connection_of m (at_connection n f s).connections ≡ None
    → connection_of m s.connections ≡ None
changed-none n m f s e = changed-list n f s (λ ks. connection_of m ks ≡ None → connection_of m s.connections ≡ None)
    (λ none q. q) (λ k some q. was_none m (f k) s.connections q) e

-- a connection is gone
abbrev pub as_gone : RelayConnection → RelayConnection
as_gone k = record k { gone = true }

-- a connection is opened
abbrev pub with_fresh : ℕ → RelayState → RelayState
with_fresh n s = record s { connections = s.connections ++ fresh_connection None n ∷ [] }

fresh_found : (n : ℕ) → connection_of n (fresh_connection {C = Owned} None n ∷ []) ≡ Some (fresh_connection None n)
unfolding connection_of
fresh_found n = cond-true (n == n) (Some (fresh_connection None n)) None (test_same n n refl)

fresh_other : (n m : ℕ) → n ≢ m → connection_of m (fresh_connection {C = Owned} None n ∷ []) ≡ None
unfolding connection_of
fresh_other n m ne = cond-false (n == m) (Some (fresh_connection None n)) None (test_other n m ne)

or_none : (o : Option RelayConnection) → or_else o None ≡ o
or_none None = refl
or_none (Some k) = refl

pub opened_own : (n : ℕ) (ks : List RelayConnection) → connection_of n ks ≡ None
    → connection_of n (ks ++ fresh_connection None n ∷ []) ≡ Some (fresh_connection None n)
opened_own n ks new = connection_of-append n ks (fresh_connection None n ∷ [])
    ∙ ap (λ o. or_else o (connection_of n (fresh_connection None n ∷ []))) new ∙ fresh_found n

pub opened_other : (n m : ℕ) (ks : List RelayConnection) → n ≢ m → connection_of m (ks ++ fresh_connection None n ∷ []) ≡ connection_of m ks
opened_other n m ks ne = connection_of-append m ks (fresh_connection None n ∷ [])
    ∙ ap (λ o. or_else (connection_of m ks) o) (fresh_other n m ne) ∙ or_none (connection_of m ks)
