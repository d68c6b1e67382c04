use Rattle.std.proofs.Common.{◌≡◌, take}
use Rattle.client_replies.proofs.recordings.copies.Given as goal

-- the texts before this one are copied
abbrev pub invariant-loop-text : goal.invariant-loop-text
invariant-loop-text l = l.all.items ≡ take l.text-index l.texts
