-- Worked examples, for a machine with the NetId 5.1.2.3.1.1.
use Rattle.std.specs.Prelude.{◌≡◌, ℕ, List, [], ◌∷◌, ◌++◌, refl}
use Rattle.local_router.specs.declared.front.Front.TheVariants as front
use Rattle.local_router.specs.declared.local.Rest.TheVariants as rest
use Rattle.local_router.specs.Fronts.{front_of, agrees}
use Rattle.local_router.specs.Heard.{heard, local_of}

abbrev net : List ℕ
net = 5 ∷ 1 ∷ 2 ∷ 3 ∷ 1 ∷ 1 ∷ []

-- any port is wanted
abbrev connect : List ℕ
connect = 0 ∷ 16 ∷ 2 ∷ 0 ∷ 0 ∷ 0 ∷ 0 ∷ 0 ∷ []

-- port 32768 is given
abbrev connected : List ℕ
connected = 0 ∷ 16 ∷ 8 ∷ 0 ∷ 0 ∷ 0 ∷ 5 ∷ 1 ∷ 2 ∷ 3 ∷ 1 ∷ 1 ∷ 0 ∷ 128 ∷ []

-- the NetId is asked
abbrev ask_net : List ℕ
ask_net = 2 ∷ 16 ∷ 0 ∷ 0 ∷ 0 ∷ 0 ∷ []

abbrev told_net : List ℕ
told_net = 2 ∷ 16 ∷ 6 ∷ 0 ∷ 0 ∷ 0 ∷ 5 ∷ 1 ∷ 2 ∷ 3 ∷ 1 ∷ 1 ∷ []

-- the beginning of a frame
abbrev frame : List ℕ
frame = 0 ∷ 0 ∷ 32 ∷ 0 ∷ 0 ∷ 0 ∷ []

any_port : local_of net (heard [] connect) ≡ record { reply = connected; rest = rest.Waits [] }
unfolding heard front_of agrees
any_port = refl

-- port 851 is wanted
wanted_port : local_of net (heard [] (0 ∷ 16 ∷ 2 ∷ 0 ∷ 0 ∷ 0 ∷ 83 ∷ 3 ∷ []))
    ≡ record { reply = 0 ∷ 16 ∷ 8 ∷ 0 ∷ 0 ∷ 0 ∷ 5 ∷ 1 ∷ 2 ∷ 3 ∷ 1 ∷ 1 ∷ 83 ∷ 3 ∷ []; rest = rest.Waits [] }
unfolding heard front_of agrees
wanted_port = refl

local_net_id : local_of net (heard [] ask_net) ≡ record { reply = told_net; rest = rest.Waits [] }
unfolding heard front_of agrees
local_net_id = refl

two_in_a_piece : local_of net (heard [] (connect ++ ask_net)) ≡ record { reply = connected ++ told_net; rest = rest.Waits [] }
unfolding heard front_of agrees
two_in_a_piece = refl

frame_behind : local_of net (heard [] (connect ++ frame)) ≡ record { reply = connected; rest = rest.Passes frame }
unfolding heard front_of agrees
frame_behind = refl

frame_alone : local_of net (heard [] frame) ≡ record { reply = []; rest = rest.Passes frame }
unfolding heard front_of agrees
frame_alone = refl

-- behind a frame nothing is answered
behind_a_frame : local_of net (heard [] (frame ++ connect)) ≡ record { reply = []; rest = rest.Passes (frame ++ connect) }
unfolding heard front_of agrees
behind_a_frame = refl

-- a wrong length
wrong_length : local_of net (heard [] (0 ∷ 16 ∷ 3 ∷ [])) ≡ record { reply = []; rest = rest.Passes (0 ∷ 16 ∷ 3 ∷ []) }
unfolding heard front_of agrees
wrong_length = refl

-- a port close is no packet that is answered
port_close : local_of net (heard [] (1 ∷ 0 ∷ [])) ≡ record { reply = []; rest = rest.Passes (1 ∷ 0 ∷ []) }
unfolding heard front_of agrees
port_close = refl

-- byte by byte: each beginning waits, and the last byte brings the answer
cut_1 : local_of net (heard [] (0 ∷ [])) ≡ record { reply = []; rest = rest.Waits (0 ∷ []) }
unfolding heard front_of agrees
cut_1 = refl

cut_2 : local_of net (heard (0 ∷ []) (16 ∷ [])) ≡ record { reply = []; rest = rest.Waits (0 ∷ 16 ∷ []) }
unfolding heard front_of agrees
cut_2 = refl

cut_7 : local_of net (heard (0 ∷ 16 ∷ 2 ∷ 0 ∷ 0 ∷ 0 ∷ []) (0 ∷ [])) ≡ record { reply = []; rest = rest.Waits (0 ∷ 16 ∷ 2 ∷ 0 ∷ 0 ∷ 0 ∷ 0 ∷ []) }
unfolding heard front_of agrees
cut_7 = refl

cut_8 : local_of net (heard (0 ∷ 16 ∷ 2 ∷ 0 ∷ 0 ∷ 0 ∷ 0 ∷ []) (0 ∷ [])) ≡ record { reply = connected; rest = rest.Waits [] }
unfolding heard front_of agrees
cut_8 = refl

-- the first byte of a frame waits, and passes with the second
frame_cut : local_of net (heard (0 ∷ []) (0 ∷ 32 ∷ [])) ≡ record { reply = []; rest = rest.Passes (0 ∷ 0 ∷ 32 ∷ []) }
unfolding heard front_of agrees
frame_cut = refl

-- a text that is longer than a packet is none
too_long : front_of (connect ++ 0 ∷ []) ≡ front.Foreign
unfolding front_of agrees
too_long = refl
