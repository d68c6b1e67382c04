-- An event of the relay brings no connection but the one that it opens.
use Rattle.std.proofs.Common.{◌≡◌, ◌≢◌, ℕ, [], ◌∷◌, false, refl, ap, ◌∙◌, arith}
use Rattle.std.specs.Prelude.{Bool, Option, Some, None, is_some}
use Rattle.std.proofs.lemmas.Bool.{cond-false}
use Rattle.std.proofs.lemmas.Bool.Decides.{nat_tests}
use Rattle.ads_outside.specs.declared.event.Event.TheVariants as event
use Rattle.spec_machine.specs.Connection.{connection_of, fresh_connection}
use Rattle.spec_machine.specs.Moves.{with_gone}
use Rattle.spec_machine.proofs.Find.{test_other, or_else, connection_of-append}
use Rattle.ads_served.specs.Opened.{OpensAlone, is_opened}
use Rattle.ads_served.proofs.DeviceEvents.{exchange-none}
use Rattle.spec_relay.specs.RelayState.{Owned, RelayConnection}
use Rattle.spec_relay.specs.RelayMoves.{after_piece_of, relay_after_event}
use Rattle.spec_relay.proofs.RelayDelivered.{IsKept, piece-seen}

-- whether a connection is there
abbrev there : Option RelayConnection → Bool
there o = is_some o

there-kept : IsKept there
there-kept = record {
  frames = record { given = λ frame k. refl; closed = λ k. refl; client = λ client k. refl };
  taken = λ k. refl;
  received = λ piece k. refl;
  rest = λ k. refl;
}

none_of : (o : Option RelayConnection) → is_some o ≡ false → o ≡ None
none_of None e = refl
none_of (Some k) e = cc

fresh-none : (n c : ℕ) → c ≢ n → connection_of n (fresh_connection {C = Owned} None c ∷ []) ≡ None
unfolding connection_of
fresh-none n c ne = cond-false _ (Some (fresh_connection None c)) None (test_other c n ne)

among_same : (n c : ℕ) → is_opened n (c ∷ []) ≡ false → c ≡ n → ⊥
among_same n c e same = grind (arith, nat_tests)

pub relay_opens_alone : OpensAlone relay_after_event
unfolding relay_after_event
relay_opens_alone s (event.Opened c) n other none =
    connection_of-append n s.connections (fresh_connection None c ∷ [])
    ∙ ap (λ o. or_else o (connection_of n (fresh_connection None c ∷ []))) none ∙ fresh-none n c (among_same n c other)
relay_opens_alone s (event.Piece c piece) n other none =
    none_of (connection_of n (after_piece_of c piece s (connection_of c s.connections)).connections)
    (piece-seen there there-kept n c piece s (connection_of c s.connections) ∙ ap there none)
relay_opens_alone s (event.Closed c) n other none = exchange-none n (connection_of c s.connections) with_gone s none
relay_opens_alone s (event.Tick t) n other none = none
relay_opens_alone s (event.Reload bytes) n other none = none
relay_opens_alone s (event.Writable c) n other none = none
