-- Which request of the protocol a value of `Request` is.
use Rattle.std.specs.Prelude.{ℕ, ◌≤◌, List, length}
use Rattle.ads_commands.specs.declared.request.Request.{Request}
use Rattle.ads_commands.specs.declared.request.Request.TheVariants as value
use Rattle.spec_formats.specs.Request as request

abbrev pub request_meant : Request → request.Request
request_meant value.DeviceInfo = request.ReadDeviceInfo
request_meant (value.Read group offset len) = request.Read group offset len
request_meant (value.Write group offset bytes) = request.Write group offset bytes.now
request_meant value.State = request.ReadState
request_meant (value.Control ads device bytes) = request.WriteControl ads device bytes.now
request_meant (value.Add group offset len mode delay cycle) =
    request.AddDeviceNotification group offset len mode delay cycle
request_meant (value.Delete handle) = request.DeleteDeviceNotification handle
request_meant (value.Note bytes) = request.DeviceNotification bytes.now
request_meant (value.ReadWrite group offset read_len bytes) = request.ReadWrite group offset read_len bytes.now

-- the commands of ADS
abbrev pub IsCommand : ℕ → Type 0
IsCommand command = (1 ≤ command) × (command ≤ 9)

-- no request of this command has this payload
abbrev pub IsNoRequest : ℕ → List ℕ → Type 0
IsNoRequest command payload = (r : request.Request) → ¬ (request.IsRequestPayload command payload r)

-- the greatest length of the data of a payload that is written
abbrev pub greatest_data : ℕ
greatest_data = 2_000_000

-- the data is short enough to be written
abbrev pub IsWritable : Request → Type 0
IsWritable (value.Write group offset bytes) = length bytes.now ≤ greatest_data
IsWritable (value.Control ads device bytes) = length bytes.now ≤ greatest_data
IsWritable (value.Note bytes) = length bytes.now ≤ greatest_data
IsWritable (value.ReadWrite group offset read_len bytes) = length bytes.now ≤ greatest_data
IsWritable _ = Unit {0}
