-- A log in turns keeps the promises, so the play of a script does; and a log of offers keeps what stands of them.
use Rattle.std.proofs.Common.{◌≡◌, ℕ, List, [], ◌∷◌, ◌++◌, length, refl, sym, ap, ◌∙◌, append-nil, subst}
use Rattle.signals.specs.Wave.{Wave}
use Rattle.ads_outside.specs.declared.moves.Move.{Move}
use Rattle.spec_plant.specs.Description.{Description}
use Rattle.spec_plant.specs.Accepted.{IsAccepted}
use Rattle.spec_plant.specs.World.{byte_at}
use Rattle.spec_machine.specs.MachineState.{MachineState}
use Rattle.spec_machine.specs.Moves.{state_after_move, state_after}
use Rattle.spec_machine.specs.World.{World, world_in}
use Rattle.spec_machine.specs.Client.{Client}
use Rattle.spec_machine.specs.Profile.{Profile, strict}
use Rattle.spec_machine.specs.ScriptLine.{ScriptLine}
use Rattle.spec_machine.specs.Turns.{KeepsTurns}
use Rattle.spec_machine.specs.Delivery.{AreOffers}
use Rattle.spec_machine.proofs.Changes.{state_after-append}
use Rattle.spec_machine.proofs.TurnsKept.{offers_whole, takes_output}
use Rattle.spec_machine.proofs.ServerDelivers.{server_only_adds, server_takes_all}
use Rattle.spec_laws.proofs.Exact.{changes_only_by_writes}
use Rattle.spec_server.specs.Server.{read_description, server_device, server, start_in, server_after_in, server_play}
use Rattle.spec_server.proofs.ServerProofs.{server_plays_in_turns, each_is_isolated, server_refuses_dead_handles}
use Rattle.spec_server.proofs.ServerProofs.{reads_descriptions, server_leaves_all_at_refusals}
use Rattle.spec_promises.proofs.Promised.{each_holds_writes}
use Rattle.spec_promises.proofs.Lives.{each_notifies}
use Rattle.spec_promises.proofs.KeptReads.{each_keeps_handles}
use Rattle.spec_promises.proofs.Promised.{each_handle_is_history}
use Rattle.plant_commands.specs.Promises.{ChangesByWritesIn, HoldsAcceptedIn, HoldsThroughoutIn, KeepsPromisesIn, KeepsPromisesSoFarIn, PlayKeepsPromises}

one_move : (s : MachineState World Client) (m : Move) → state_after server s (m ∷ []) ≡ state_after_move server s m
unfolding state_after
one_move s m = refl

changes_by_writes : (profile : Profile) (d : Description) (waves : List Wave) (before : List Move) (m : Move)
    → ChangesByWritesIn profile d waves before m
changes_by_writes profile d waves before m name not_reload not_written =
    let s = server_after_in profile d waves before in
    let next : server_after_in profile d waves (before ++ m ∷ []) ≡ state_after_move server s m =
    state_after-append server before (m ∷ []) (start_in profile d waves) ∙ one_move s m in
    ap (λ (t : MachineState World Client). byte_at t.world.memory name) next
    ∙ changes_only_by_writes read_description s m name not_reload not_written

pub holds_accepted : (profile : Profile) (d : Description) (waves : List Wave) (log : List Move) → IsAccepted d (length waves)
    → HoldsAcceptedIn profile d waves log
holds_accepted profile d waves log accepted = record {
  held = λ before after m is. each_holds_writes profile d waves accepted before m;
  kept_handles = λ before after bytes is. each_keeps_handles profile d waves accepted before bytes;
}

holds_throughout : (profile : Profile) (d : Description) (waves : List Wave) (log : List Move) → HoldsThroughoutIn profile d waves log
holds_throughout profile d waves log = record {
  writes = λ before after m is. changes_by_writes profile d waves before m;
  refused = server_leaves_all_at_refusals;
  dead_handles = server_refuses_dead_handles;
  handles = λ before after is. each_handle_is_history profile d waves before;
  notified = λ before after is. each_notifies profile d waves before after;
  of_text = λ bytes read. holds_accepted profile d waves log (reads_descriptions bytes (length waves) d read);
}

are_offers : (profile : Profile) (d : Description) (waves : List Wave) (log : List Move) → KeepsTurns server (start_in profile d waves) log
    → AreOffers server (start_in profile d waves) log
are_offers profile d waves log turns =
    offers_whole World Client server (start_in profile d waves) log []
    (subst (λ (l : List Move). KeepsTurns server (start_in profile d waves) l) (sym (append-nil log)) turns)

pub offers_keep_promises : (profile : Profile) (d : Description) (waves : List Wave) (log : List Move)
    → AreOffers server (start_in profile d waves) log → KeepsPromisesSoFarIn profile d waves log
offers_keep_promises profile d waves log offers = record {
  begins = λ c. takes_output World Client server (world_in profile d waves) c log (server_only_adds World Client server_device) offers;
  isolated = λ c untouched. each_is_isolated profile d waves c log untouched;
  throughout = holds_throughout profile d waves log;
}

pub turns_keep_promises : (profile : Profile) (d : Description) (waves : List Wave) (log : List Move)
    → KeepsTurns server (start_in profile d waves) log → KeepsPromisesIn profile d waves log
turns_keep_promises profile d waves log turns = record {
  so_far = offers_keep_promises profile d waves log (are_offers profile d waves log turns);
  turns = turns;
  all = λ c long open_. server_takes_all server_device (world_in profile d waves) c log turns long open_;
}

pub play_keeps_promises : (d : Description) (waves : List Wave) (lines : List ScriptLine) → PlayKeepsPromises d waves lines
play_keeps_promises d waves lines = record {
  kept = turns_keep_promises strict d waves (server_play d waves lines) (server_plays_in_turns d waves lines);
  over_accepted = holds_accepted strict d waves (server_play d waves lines);
  accepted = reads_descriptions;
}
