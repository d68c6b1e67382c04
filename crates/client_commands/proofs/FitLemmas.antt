-- A call over the server in the same process that words ask for is between two addresses, and no greater than words allow.
use Rattle.std.proofs.Common.{◌≡◌, ℕ, List, [], ◌∷◌, subst}
use Rattle.spec_formats.specs.Header.{IsAddress}
use Rattle.spec_local_room.specs.Laws.{HasShortNames, IsBounded}
use Rattle.spec_plant.specs.Description.{Description}
use Rattle.signals.specs.Wave.{Wave}
use Rattle.client_replies.specs.Sound.{AreShort}
use Rattle.cli_words.specs.declared.client_words.ClientWords.{ClientWords}
use Rattle.run_tasks.specs.declared.client_task.ClientTask.{ClientTask}
use Rattle.run_tasks.specs.declared.client_task.ClientTask.TheVariants as ask
use Rattle.run_tasks.specs.declared.record_task.RecordTask.{RecordTask}
use Rattle.run_tasks.specs.Asking.{LocalCalling, call_asked, local_calling, own_address, peer_of_local}
use Rattle.run_tasks.specs.Fits.{FitsClientTask, FitsRecord}
use Rattle.run_tasks.specs.RecordAsked.{call_recorded, local_recording}

pub record FitsCalling (x : LocalCalling) : Type 0 where
  pub from : IsAddress x.me
  pub to : IsAddress (peer_of_local x)
  pub bounded : IsBounded x.call

asked_bounded : (what : ClientTask) → FitsClientTask what → IsBounded (call_asked what)
asked_bounded ask.Info h = tt
asked_bounded ask.State h = tt
asked_bounded ask.List h = tt
asked_bounded (ask.Control ads device) h = tt
asked_bounded (ask.Get name) h = h
asked_bounded (ask.Show name) h = h
asked_bounded (ask.Set name value) h = h.0
asked_bounded (ask.Watch name change cycle count) h = (h.0, h.2, h.3)

short_names : (names : List (List ℕ)) → AreShort names → HasShortNames names
short_names [] h = tt
short_names (name ∷ names) h = (h.0, short_names names h.1)

recorded_bounded : (what : RecordTask) (rows : ℕ) → FitsRecord what → IsBounded (call_recorded what rows)
recorded_bounded what rows fits = (short_names what.names fits.short, fits.named, fits.few, fits.most)

-- the address of the server whose NetId this is
same_net : (net other : List ℕ) (port : ℕ) → net ≡ other → IsAddress (record { net = net; port = port }) → IsAddress (record { net = other; port = port })
same_net net other port same is = let P : List ℕ → Type 0 = λ n. IsAddress (record { net = n; port = port }) in subst P same is

pub calling_fits : (d : Description) (waves : List Wave) (what : ClientTask) (client : ClientWords) (net : List ℕ) → FitsClientTask what → net ≡ d.net
    → IsAddress (own_address client) → IsAddress (record { net = net; port = client.port }) → FitsCalling (local_calling d waves what client)
calling_fits d waves what client net fits same from to =
    record { from = from; to = same_net net d.net client.port same to; bounded = asked_bounded what fits }

pub recording_fits : (d : Description) (waves : List Wave) (what : RecordTask) (net : List ℕ) → FitsRecord what → net ≡ d.net
    → IsAddress (own_address what.client) → IsAddress (record { net = net; port = what.client.port }) → (rows : ℕ)
    → FitsCalling (local_recording d waves what rows)
recording_fits d waves what net fits same from to rows =
    record { from = from; to = same_net net d.net what.client.port same to; bounded = recorded_bounded what rows fits }
