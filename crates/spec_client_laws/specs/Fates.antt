-- What becomes of a client's requests, in every history: each is answered at most once, and by a response to it; or it times
-- out at the first tick that comes five seconds or more after it was sent. Beckhoff Information System, "AMS Header".
use Rattle.std.specs.Prelude.{◌≡◌, ◌⊎◌, ℕ, ◌+◌, ◌-◌, List, [], ◌∷◌, ◌++◌, count_by, Bool, true, false, ◌==◌, nat_le, if◌then◌else◌}
use Rattle.std.specs.Prelude.{Option, Some, None, option_map}
use Rattle.spec_frames.specs.Division.{frames_of}
use Rattle.spec_formats.specs.Header.{AmsAddress, AmsHeader, is_same_address, header_of, payload_of}
use Rattle.spec_formats.specs.Request.{Request, command_of}
use Rattle.spec_client.specs.Heard.{Heard, Answered, TimedOut}
use Rattle.spec_client.specs.Unanswered.{Unanswered, TIMEOUT}
use Rattle.spec_client.specs.PassedOver.{is_response}
use Rattle.spec_client.specs.Client.{Client, new_client, Issued, issued_by, client_after_issue}
use Rattle.spec_client.specs.History.{Issue, Tick, ClientHistory, client_after_move, client_after, heard_after, issued_after, all_heard}

-- the first tick that comes five seconds or more after a moment
abbrev pub first_overdue : ℕ → ClientHistory → Option ℕ
first_overdue sent [] = None
first_overdue sent (Tick now ∷ moves) = if nat_le TIMEOUT (now - sent) then Some now else first_overdue sent moves
first_overdue sent (move ∷ moves) = first_overdue sent moves

-- a request was issued in a history under this invoke id, with this command, at this moment; and this is the first tick since
-- that came five seconds or more after it
pub record WasIssued (me peer : AmsAddress) (history : ClientHistory) (id command sent : ℕ) (overdue : Option ℕ) : Type 0 where
  pub before : ClientHistory
  pub request : Request
  pub later : ClientHistory
  pub whole : history ≡ before ++ Issue request sent ∷ later
  pub issued : option_map (λ (i : Issued). i.id) (issued_after me peer before request) ≡ Some id
  pub same_command : command_of request ≡ command
  pub first : first_overdue sent later ≡ overdue

-- a packet is one of these
abbrev pub IsOneOf : List ℕ → List (List ℕ) → Type 0
IsOneOf packet [] = ⊥
IsOneOf packet (p ∷ ps) = (packet ≡ p) ⊎ IsOneOf packet ps

-- a response among the bytes that came, from the peer to the client
pub record IsResponse (me peer : AmsAddress) (received : List ℕ) (id error command : ℕ) (payload : List ℕ) : Type 0 where
  pub packet : List ℕ
  pub came : IsOneOf packet (frames_of received)
  pub header : AmsHeader
  pub read : header_of packet ≡ Some header
  pub response : is_response header ≡ true
  pub from : is_same_address header.source peer ≡ true
  pub to : is_same_address header.target me ≡ true
  pub same_id : header.id ≡ id
  pub same_error : header.error ≡ error
  pub same_command : header.command ≡ command
  pub same_payload : payload_of packet ≡ payload

-- all bytes that came in a history
abbrev pub received_after : AmsAddress → AmsAddress → ClientHistory → List ℕ
received_after me peer history = (client_after (new_client me peer) history).received

-- An answer is a response of the id, the command and the addresses of a request that was issued, and no tick since came
-- five seconds or more after it.
pub record AnswersRequest (me peer : AmsAddress) (history : ClientHistory) (id error command : ℕ) (payload : List ℕ) : Type 0 where
  pub response : IsResponse me peer (received_after me peer history) id error command payload
  pub sent : ℕ
  pub request : WasIssued me peer history id command sent None

abbrev pub AnswersAreOfRequests : Type 0
AnswersAreOfRequests = (me peer : AmsAddress) (history : ClientHistory) (id error command : ℕ) (payload : List ℕ)
    → heard_after me peer history ≡ Answered id error command payload
    → AnswersRequest me peer history id error command payload

-- A timeout that is told is that of a request that was issued at the moment told, by the first tick since that came five
-- seconds or more after it.
pub record TellsTimeout (me peer : AmsAddress) (history : ClientHistory) (id sent now : ℕ) : Type 0 where
  pub command : ℕ
  pub request : WasIssued me peer history id command sent (Some now)

abbrev pub TimeoutsAreOfRequests : Type 0
TimeoutsAreOfRequests = (me peer : AmsAddress) (history : ClientHistory) (id sent now : ℕ)
    → heard_after me peer history ≡ TimedOut id sent now → TellsTimeout me peer history id sent now

-- each of them was issued, and has timed out exactly where such a tick came, and then at the first
abbrev pub AllWereIssued : AmsAddress → AmsAddress → ClientHistory → List Unanswered → Type 0
AllWereIssued me peer history [] = Unit {0}
AllWereIssued me peer history (u ∷ us) =
    WasIssued me peer history u.id u.command u.sent u.timed_out × AllWereIssued me peer history us

-- So it is with each request that is neither answered nor told to have timed out.
abbrev pub WaitingTimeOutInTime : Type 0
WaitingTimeOutInTime = (me peer : AmsAddress) (history : ClientHistory)
    → AllWereIssued me peer history (client_after (new_client me peer) history).unanswered

-- how many requests are issued under an id
abbrev pub issue_of : ℕ → Option Issued → ℕ
issue_of id None = 0
issue_of id (Some i) = if i.id == id then 1 else 0

unfoldable pub issues_of : ℕ → Client → ClientHistory → ℕ
issues_of id c [] = 0
issues_of id c (Issue request now ∷ moves) =
    issue_of id (issued_by c request) + issues_of id (client_after_issue c request now) moves
issues_of id c (move ∷ moves) = issues_of id (client_after_move c move) moves

-- it ends a request of the id: an answer, or a timeout
abbrev pub is_end_of : ℕ → Heard → Bool
is_end_of id (Answered number error command payload) = number == id
is_end_of id (TimedOut number sent now) = number == id
is_end_of id heard = false

-- how many requests of an id wait for an answer, or to be told to have timed out
abbrev pub waiting_of : ℕ → List Unanswered → ℕ
waiting_of id us = count_by (λ (u : Unanswered). u.id == id) us

-- Each request ends at most once: of each id so many were issued as were answered, as were told to have timed out, and as
-- wait.
abbrev pub RequestsEndOnce : Type 0
RequestsEndOnce = (me peer : AmsAddress) (history : ClientHistory) (id : ℕ)
    → issues_of id (new_client me peer) history
    ≡ count_by (is_end_of id) (all_heard (new_client me peer) history)
    + waiting_of id (client_after (new_client me peer) history).unanswered
