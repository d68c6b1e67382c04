-- Which request the code's record of one is, of the connection that keeps it.
use Rattle.std.specs.Prelude.{ℕ, List, map, length, drop, nat_le, if◌then◌else◌}
use Rattle.ams_header.specs.Header.{address_of}
use Rattle.spec_relay.specs.RelayState.{Request}
use Rattle.spec_relay.specs.Requests.{MAX_REQUESTS}
use Rattle.ams_relay.specs.declared.asked.Asked.{Asked}

abbrev pub request_of : ℕ → Asked → Request
request_of asker a = record {
  asker = asker;
  asked = a.asked;
  source = address_of a.source;
  target = address_of a.target;
  command = a.command;
  id = a.id;
}

abbrev pub requests_of : ℕ → List Asked → List Request
requests_of asker asked = map (request_of asker) asked

-- the oldest is let go where there is no room for one more
abbrev pub with_room : List Asked → List Asked
with_room asked = if nat_le MAX_REQUESTS (length asked) then drop 1 asked else asked
