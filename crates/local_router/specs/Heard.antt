-- What is heard of a connection before its first frame, byte by byte: packets to the router, and then what waits or passes to the
-- server. What passes begins with no packet to the router; it may be a frame or may be broken, which the server tells.
use Rattle.std.specs.Prelude.{ℕ, List, [], ◌∷◌, ◌++◌}
use Rattle.std.specs.List.{flat_map}
use Rattle.local_router.specs.declared.ask.Ask.{Ask}
use Rattle.local_router.specs.declared.front.Front.{Front}
use Rattle.local_router.specs.declared.front.Front.TheVariants as front
use Rattle.local_router.specs.declared.local.Local.{Local}
use Rattle.local_router.specs.declared.local.Rest.{Rest}
use Rattle.local_router.specs.declared.local.Rest.TheVariants as rest
use Rattle.local_router.specs.Asks.{reply_bytes}
use Rattle.local_router.specs.Fronts.{front_of}

pub record Heard : Type 0 where
  -- the packets to the router, in order
  pub asks : List Ask
  -- what is left behind them
  pub rest : Rest

-- a further packet in front
abbrev pub asked_before : Ask → Heard → Heard
asked_before a h = record h { asks = a ∷ h.asks }

-- by what a text is: what is heard behind it anew, what is heard of it and what follows, and all that is there
abbrev pub heard_at : Front → Heard → Heard → List ℕ → Heard
heard_at (front.Asks a) anew on all = asked_before a anew
heard_at front.Begun anew on all = on
heard_at front.Foreign anew on all = record { asks = []; rest = rest.Passes all }

-- what is heard of a text that waits and the bytes that follow
unfoldable pub heard : List ℕ → List ℕ → Heard
heard text [] = record { asks = []; rest = rest.Waits text }
heard text (b ∷ bs) = heard_at (front_of (text ++ b ∷ [])) (heard [] bs) (heard (text ++ b ∷ []) bs) (text ++ b ∷ bs)

-- what a machine with this NetId answers, and what is left
abbrev pub local_of : List ℕ → Heard → Local
local_of net h = record { reply = flat_map (reply_bytes net) h.asks; rest = h.rest }

-- what was answered before stands in front
abbrev pub answered_before : List ℕ → Local → Local
answered_before reply l = record l { reply = reply ++ l.reply }

-- what is heard of further bytes, behind what was heard
abbrev pub heard_then : List Ask → Rest → List ℕ → Heard
heard_then asks (rest.Waits text) more = record { asks = asks ++ (heard text more).asks; rest = (heard text more).rest }
heard_then asks (rest.Passes bytes) more = record { asks = asks; rest = rest.Passes (bytes ++ more) }

-- what is left, whether it waits or passes
abbrev pub rest_bytes : Rest → List ℕ
rest_bytes (rest.Waits text) = text
rest_bytes (rest.Passes bytes) = bytes
