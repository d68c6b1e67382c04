-- What is written is read again.
use Rattle.std.specs.Prelude.{◌≡◌, ◌<◌, ◌^◌, [], replicate, Some, ◌==◌, if◌then◌else◌}
use Rattle.spec_formats.specs.Request as request
use Rattle.spec_formats.specs.Reply as reply

-- a request's payload is read as the request
abbrev pub RequestsComeBack : Type 0
RequestsComeBack = (r : request.Request) → request.FitsRequest r
    → request.request_of (request.command_of r) (request.request_bytes r) ≡ Some r

-- the reply that a refusal is read as: its result, and zeros or no data
abbrev pub refusal_of : reply.Reply → reply.Reply
refusal_of (reply.ReadDeviceInfo result facts) =
    reply.ReadDeviceInfo result (record { major = 0; minor = 0; build = 0; name = replicate 16 0 })
refusal_of (reply.Read result bytes) = reply.Read result []
refusal_of (reply.Write result) = reply.Write result
refusal_of (reply.ReadState result ads device) = reply.ReadState result 0 0
refusal_of (reply.WriteControl result) = reply.WriteControl result
refusal_of (reply.AddDeviceNotification result handle) = reply.AddDeviceNotification result 0
refusal_of (reply.DeleteDeviceNotification result) = reply.DeleteDeviceNotification result
refusal_of (reply.ReadWrite result bytes) = reply.ReadWrite result []

-- a reply with result 0 is read as it was, and any other as its refusal
abbrev pub RepliesComeBack : Type 0
RepliesComeBack = (r : reply.Reply) → reply.result_of r < 2 ^ 32 → reply.FitsFields r
    → reply.reply_of (reply.command_of r) (reply.written_bytes r) ≡ Some (if reply.result_of r == 0 then r else refusal_of r)
