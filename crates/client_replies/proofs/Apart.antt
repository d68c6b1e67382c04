-- Calls that are no recordings end without entries.
use Rattle.std.proofs.Common.{◌≡◌, Bool, true, false, refl}
use Rattle.spec_client.specs.Stages.{CallEnd, Stage, Records, ended, ended_at}
use Rattle.client_replies.specs.Parts.{is_recording}

pub ends_apart : (stage : Stage) (end : CallEnd) → is_recording stage ≡ false → ended_at stage end ≡ ended end
ends_apart (Records wait r) end apart = absurd (let e : true ≡ false = apart in cc)
ends_apart stage end apart = refl
