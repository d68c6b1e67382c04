-- A NetId as six decimal bytes joined by full stops.
use Rattle.std.proofs.Common.{◌≡◌, ◌≢◌, ℕ, List, Option, Some, None, refl}
use Rattle.ads_base.specs.NetId.{IsNetId, net_text}
use Rattle.ads_base.specs.declared.net_id.NetId.{NetId}
use Rattle.cli_words.specs.Values.{stopped_bytes, net_id_of}
use Rattle.cli_words.proofs.StoppedLemmas.{AreStopped, stopped_bytes-all, stopped_bytes-some}
use Rattle.cli_words.proofs.ReadingLemmas.{bind_some}

pub net_id_of-text : (net : NetId) (text : List ℕ) → IsNetId net.bytes → text ≡ net_text net.bytes → net_id_of text ≡ Some net
unfolding net_id_of
net_id_of-text net text valid e =
    let stopped : AreStopped 6 net.bytes text = record { counted = valid.six; small = valid.are_bytes; text_is = e } in
    rw (stopped_bytes-all 5 net.bytes text stopped) refl

none_from : (o : Option NetId) → ((net : NetId) → o ≡ Some net → ⊥) → o ≡ None
none_from None h = refl
none_from (Some net) h = absurd (h net refl)

read_bytes : (net : NetId) (text : List ℕ) → net_id_of text ≡ Some net → (bytes : List ℕ) × AreStopped 6 bytes text
unfolding net_id_of
read_bytes net text e =
    let read = bind_some (stopped_bytes 6 text) (λ bytes. Some (record { bytes = bytes })) net e in
    (read.0, stopped_bytes-some 6 read.0 text read.1)

pub net_id_of-none : (text : List ℕ) → ((bytes : List ℕ) → IsNetId bytes → text ≢ net_text bytes) → net_id_of text ≡ None
net_id_of-none text none = none_from (net_id_of text) (λ net e.
    let read = read_bytes net text e in
    none read.0 (record { six = read.1.counted; are_bytes = read.1.small }) read.1.text_is)
