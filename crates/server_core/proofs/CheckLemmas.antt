-- Sessions that were asked one after another, or in halves.
use Rattle.std.proofs.Common.{◌≡◌, ℕ, ◌+◌, ◌<◌, List, [], ◌∷◌, ◌++◌, length, take, drop, set, get_or, subst, ◌∙◌, arith}
use Rattle.std.proofs.lemmas.List.{take_more, take_more_set, drop_more, drop-set-lt}
use Rattle.std.proofs.lemmas.Grind.{drop_more_same}
use Rattle.spec_plant.specs.World.{Plant}
use Rattle.spec_machine.specs.Ticks.{client_after_tick}
use Rattle.spec_machine.specs.World.{World}
use Rattle.port_device.specs.Holds.{HoldsPorts}
use Rattle.port_device.specs.PortMemory.{PortsMemory}
use Rattle.server_core.specs.declared.turned.Turned.{Turned}
use Rattle.server_core.specs.Asked.{IsAsked, EachAsked}
use Rattle.server_core.specs.Delivering.{Outcomes}
use Rattle.server_core.specs.Checking.{AreAsked}

asked-append : (old_plant plant : Plant) (o : Outcomes) (ts us xs ys : List Turned) → EachAsked old_plant plant o ts us
    → EachAsked old_plant plant o xs ys → EachAsked old_plant plant o (ts ++ xs) (us ++ ys)
asked-append old_plant plant o [] [] xs ys first second = second
asked-append old_plant plant o (t ∷ ts) (u ∷ us) xs ys first second = (first.0, asked-append old_plant plant o ts us xs ys first.1 second)
asked-append old_plant plant o [] (u ∷ us) xs ys first second = absurd first
asked-append old_plant plant o (t ∷ ts) [] xs ys first second = absurd first

-- none was asked yet
pub none_asked : (ports : PortsMemory) (net : List ℕ) (now : ℕ) → AreAsked ports net now [] []
unfolding AreAsked
none_asked ports net now = λ w holds net_is. tt

-- two halves
pub halves_asked : (ports : PortsMemory) (net : List ℕ) (now : ℕ) (ts us xs ys all : List Turned) → AreAsked ports net now ts us → AreAsked ports net now xs ys
    → ts ++ xs ≡ all → AreAsked ports net now all (us ++ ys)
unfolding AreAsked
halves_asked ports net now ts us xs ys all first second is = λ w holds net_is.
    subst (λ l. EachAsked w.plant w.plant (client_after_tick now w) l (us ++ ys)) is
    (asked-append w.plant w.plant (client_after_tick now w) ts us xs ys (first w holds net_is) (second w holds net_is))

-- the one that is asked next
pub next_is : (i : ℕ) (old list : List Turned) (d : Turned) → i < length old → length list ≡ length old → drop i list ≡ drop i old
    → get_or list i d ≡ get_or old i d
next_is i old list d within len same =
    let here = drop_more list i d (omega arith) in
    let there = drop_more old i d within in
    cc

-- one more
pub one_more_asked : (ports : PortsMemory) (net : List ℕ) (now i : ℕ) (old list : List Turned) (d u : Turned) → i < length old → length list ≡ length old
    → AreAsked ports net now (take i old) (take i list) → drop i list ≡ drop i old
    → ((w : World) → HoldsPorts w ports → w.plant.net ≡ net → IsAsked w.plant w.plant (client_after_tick now w) (get_or list i d) u)
    → AreAsked ports net now (take (i + 1) old) (take (i + 1) (set list i u)) × (drop (i + 1) (set list i u) ≡ drop (i + 1) old)
unfolding AreAsked
one_more_asked ports net now i old list d u within len so_far same one = (
  (λ w holds net_is.
      let here : IsAsked w.plant w.plant (client_after_tick now w) (get_or old i d) u =
      subst (λ t. IsAsked w.plant w.plant (client_after_tick now w) t u) (next_is i old list d within len same) (one w holds net_is) in
      rw (take_more old i d within, take_more_set list i u (omega arith))
      (asked-append w.plant w.plant (client_after_tick now w) (take i old) (take i list) (get_or old i d ∷ []) (u ∷ []) (so_far w holds net_is) (here, tt))),
  drop-set-lt (i + 1) list i u (omega arith) ∙ drop_more_same list old i same,
)
