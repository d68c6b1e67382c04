-- Which reply of the protocol a value of `Reply` is.
use Rattle.std.specs.Prelude.{ℕ, ◌≤◌, List, length}
use Rattle.spec_plant.specs.Description.{Facts}
use Rattle.ads_commands.specs.declared.reply.DeviceFacts.{DeviceFacts}
use Rattle.ads_commands.specs.declared.reply.Reply.{Reply}
use Rattle.ads_commands.specs.declared.reply.Reply.TheVariants as value
use Rattle.spec_formats.specs.Reply as reply
use Rattle.ads_commands.specs.Request.{greatest_data}

abbrev pub facts_meant : DeviceFacts → Facts
facts_meant f = record { major = f.major; minor = f.minor; build = f.build; name = f.name }

abbrev pub reply_meant : Reply → reply.Reply
reply_meant (value.Info result facts) = reply.ReadDeviceInfo result (facts_meant facts)
reply_meant (value.Read result bytes) = reply.Read result bytes.now
reply_meant (value.Write result) = reply.Write result
reply_meant (value.State result ads device) = reply.ReadState result ads device
reply_meant (value.Control result) = reply.WriteControl result
reply_meant (value.Add result handle) = reply.AddDeviceNotification result handle
reply_meant (value.Delete result) = reply.DeleteDeviceNotification result
reply_meant (value.ReadWrite result bytes) = reply.ReadWrite result bytes.now

-- no reply of this command has this payload
abbrev pub IsNoReply : ℕ → List ℕ → Type 0
IsNoReply command payload = (r : reply.Reply) → ¬ (reply.IsReplyPayload command payload r)

-- the data is short enough to be written
abbrev pub IsWritableReply : Reply → Type 0
IsWritableReply (value.Read result bytes) = length bytes.now ≤ greatest_data
IsWritableReply (value.ReadWrite result bytes) = length bytes.now ≤ greatest_data
IsWritableReply _ = Unit {0}
