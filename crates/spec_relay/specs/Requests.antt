-- The requests that the relay remembers. This project's own choice: the last 4,096 of each asker.
use Rattle.std.specs.Prelude.{ℕ, List, [], ◌∷◌, ◌++◌, length, filter, find, Bool, ◌&&◌, ◌==◌, nat_lt}
use Rattle.std.specs.Prelude.{if◌then◌else◌, Option}
use Rattle.spec_formats.specs.Header.{AmsHeader, is_same_address}
use Rattle.spec_relay.specs.RelayState.{Request, RelayState, RelayConnection, is_heard_among}

abbrev pub MAX_REQUESTS : ℕ
MAX_REQUESTS = 4096

-- a request whose asker or asked is closing or gone is dropped
abbrev pub requests_heard : List RelayConnection → List Request → List Request
requests_heard ks requests =
    filter (λ (r : Request). is_heard_among r.asker ks && is_heard_among r.asked ks) requests

abbrev pub with_requests_heard : RelayState → RelayState
with_requests_heard s =
    record s { world = record s.world { requests = requests_heard s.connections s.world.requests } }

-- whether a response of this connection answers a request: the one that it was asked, with the same command and id, and
-- the addresses exchanged
abbrev pub is_answered_by : ℕ → AmsHeader → Request → Bool
is_answered_by c h r =
    (r.asked == c) && (r.command == h.command) && (r.id == h.id)
    && (is_same_address r.source h.target && is_same_address r.target h.source)

-- the oldest request that a response answers
abbrev pub request_answered : ℕ → AmsHeader → List Request → Option Request
request_answered c h requests = find (is_answered_by c h) requests

-- without the first that passes a test
unfoldable pub without_first : (Request → Bool) → List Request → List Request
without_first test [] = []
without_first test (r ∷ rs) = if test r then rs else r ∷ without_first test rs

abbrev pub is_asked_by : ℕ → Request → Bool
is_asked_by c r = r.asker == c

-- one request more: of its asker the last ones are kept
abbrev pub with_request : Request → List Request → List Request
with_request new requests =
    if nat_lt (length (filter (is_asked_by new.asker) requests)) MAX_REQUESTS then requests ++ new ∷ []
    else without_first (is_asked_by new.asker) requests ++ new ∷ []
