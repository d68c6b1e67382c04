-- A tick gives a connection that has one notification at most one sample of it, or it closes the connection, or nothing comes.
use Rattle.std.proofs.Common.{◌≡◌, ℕ, suc, ◌<◌, ◌≤◌, ◌^◌, List, [], ◌∷◌, length, Bool, false, ap, ◌∙◌, inl, inr, arith}
use Rattle.std.specs.Prelude.{Some, ◌==◌}
use Rattle.std.specs.List.{AllByRecursion}
use Rattle.std.proofs.lemmas.Bool.{eqb-true}
use Rattle.spec_formats.specs.Header.{AmsAddress, IsAddress}
use Rattle.spec_formats.specs.Notification.{Sample}
use Rattle.spec_machine.specs.Access.{Addressed}
use Rattle.spec_machine.specs.AdsDevice.{DescriptionReading, ads_device}
use Rattle.spec_machine.specs.Client.{Client}
use Rattle.spec_machine.specs.Connection.{Connection}
use Rattle.spec_machine.specs.Events.{connection_after_tick}
use Rattle.spec_machine.specs.Watches.{Watch}
use Rattle.spec_machine.specs.World.{World}
use Rattle.spec_local_room.proofs.Hearing.{IsSampleOf, IsAmong}
use Rattle.spec_local_room.proofs.Pieces.{TakesWhole}
use Rattle.spec_local_room.proofs.TickingAll.{KeepsAll, BecomesSo, HasFewSamples, TickedAll, ticked_all}

abbrev pub is_of : ℕ → ℕ → Bool
is_of handle n = n == handle

-- one notification at most, of this handle
abbrev pub KeepsFew : AmsAddress → AmsAddress → List ℕ → ℕ → List (Watch (List Addressed)) → Type 0
KeepsFew me peer net handle ws = KeepsAll me peer net (is_of handle) ws × (length ws ≤ 1)

pub record Ticked (me peer : AmsAddress) (net : List ℕ) (handle : ℕ) (k l : Connection Client) : Type 0 where
  pub becomes : BecomesSo (IsSampleOf handle) k l
  pub keeps : KeepsFew me peer net handle l.client.watches

only_sample : (handle most : ℕ) (first : Sample) (others : List Sample) → AllByRecursion (IsAmong (is_of handle)) (first ∷ others)
    → suc (length others) ≤ most → most ≤ 1 → first ∷ others ≡ record { handle = handle; bytes = first.bytes } ∷ []
only_sample handle most first [] all few one =
    ap (λ n. record { handle = n; bytes = first.bytes } ∷ []) (eqb-true first.handle handle all.0.handle)
only_sample handle most first (s ∷ ss) all few one = absurd (omega (arith, few, one))

one_sample : (handle most : ℕ) (p : List ℕ) → most ≤ 1 → HasFewSamples (is_of handle) most p → IsSampleOf handle p
one_sample handle most p one has =
    let x = has.samples in
    record {
      header = x.header;
      read = x.read;
      len = x.len;
      request = x.request;
      command = x.command;
      time = x.time;
      bytes = x.first.bytes;
      stamps = x.stamps ∙ ap (λ ss. Some (record { time = x.time; samples = ss } ∷ [])) (only_sample handle most x.first x.others x.among has.few one);
    }

becomes_one : (handle : ℕ) (k l : Connection Client) → length k.client.watches ≤ 1
    → BecomesSo (HasFewSamples (is_of handle) (length k.client.watches)) k l → BecomesSo (IsSampleOf handle) k l
becomes_one handle k l one (inl closes) = inl closes
becomes_one handle k l one (inr (inl quiets)) = inr (inl quiets)
becomes_one handle k l one (inr (inr sends)) = inr (inr (record {
  packet = sends.packet;
  closing = sends.closing;
  frame = sends.frame;
  bytes = sends.bytes;
  produced = sends.produced;
  bytes_taken = sends.bytes_taken;
  gone = sends.gone;
  whole = sends.whole;
  room = sends.room;
  such = one_sample handle (length k.client.watches) sends.packet one sends.such;
}))

pub ticked : (reading : DescriptionReading) (me peer : AmsAddress) (handle now : ℕ) (world : World) (k : Connection Client)
    → IsAddress me → IsAddress peer → now < 2 ^ 64
    → k.closing ≡ false → k.gone ≡ false → TakesWhole k → KeepsFew me peer world.plant.net handle k.client.watches
    → Ticked me peer world.plant.net handle k (connection_after_tick (ads_device reading) now world k)
ticked reading me peer handle now world k mine other time is_open there whole few =
    let l = connection_after_tick (ads_device reading) now world k in
    let t : TickedAll me peer world.plant.net (is_of handle) k l
    = ticked_all reading me peer (is_of handle) now world k mine other time is_open there whole few.0 in
    let as_many = t.as_many in
    let one = few.1 in
    record { becomes = becomes_one handle k l few.1 t.becomes; keeps = (t.keeps, omega (arith, as_many, one)) }
