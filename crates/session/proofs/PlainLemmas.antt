-- Plain packets: no check stops them, and their frames are those of the replies.
use Rattle.std.proofs.Common.{◌≡◌, ◌+◌, ◌≤◌, ◌<◌, ◌^◌, ℕ, List, [], ◌∷◌, ◌++◌, length, take, drop, true, false, refl, sym, ◌∙◌, ap, subst, arith}
use Rattle.std.proofs.Common.{eq-eqb}
use Rattle.std.specs.Prelude.{Bool, Option, Some, None, is_none, not, ◌==◌, ◌%◌, bytes_eq, Result}
use Rattle.std.specs.Int.{w16, w32, to_le_bytes}
use Rattle.ads_base.proofs.OctetsLemmas.{Extends-same, Extends-append}
use Rattle.return_codes.specs.declared.code.Code.{Code}
use Rattle.sum_commands.specs.Parts.{code_in}
use Rattle.spec_plant.proofs.SoundLemmas.{port_number}
use Rattle.port_device.specs.Holds.{HoldsPorts}
use Rattle.port_device.specs.PortMemory.{PortMemory, PortsMemory, memory_numbered, with_port}
use Rattle.spec_plant.specs.Description as plant
use Rattle.spec_plant.specs.World.{PlantPort}
use Rattle.spec_formats.specs.Codes.{no_error}
use Rattle.spec_formats.specs.Header.{AmsHeader, header_of, payload_of, request_flags}
use Rattle.spec_formats.specs.Request as format
use Rattle.spec_frames.specs.Frame.{frame_bytes}
use Rattle.spec_machine.specs.Answers.{is_answered, DEVICE_NOTIFICATION}
use Rattle.spec_machine.specs.Client.{Client}
use Rattle.spec_machine.specs.Decisions.{Decision, acts_in}
use Rattle.spec_machine.specs.Packets.{Check, checked, checks_of, source_rights, question, question_of, decide, decide_header, decide_passed}
use Rattle.spec_machine.specs.Replies.{response_packet, reply_payload}
use Rattle.spec_machine.specs.SumPackets.{decide_request}
use Rattle.spec_machine.specs.World.{World, setup_of, port_numbered}
use Rattle.ams_header.specs.Header.{address_of, ams_header_of}
use Rattle.type_layout.specs.Descriptions.{rights_of}
use Rattle.net_routes.specs.Admitted.{Admitted}
use Rattle.session.specs.declared.plain.Plain.{Plain}
use Rattle.session.specs.declared.plain.Plain.TheVariants as plain
use Rattle.session.specs.declared.plain.PlainPacket.{PlainPacket}
use Rattle.session.specs.Answered.{AnswersAsked}
use Rattle.session.specs.Asking.{Asking, act_asked, outcome_asked}
use Rattle.session.specs.Ends.{EndsAct}
use Rattle.session.specs.PacketChecks.{IsAsked}
use Rattle.session.specs.Plain.{IsPlain, plain_meant, RunsWhole}
use Rattle.session.specs.Runs.{AsksSession, IsFrom, Runs, decision_of}
use Rattle.session.specs.SessionState.{SessionState}
use Rattle.session.specs.StandsFor.{StandsFor}
use Rattle.session.specs.Takes.{HasAddress, Takes, outcome_of_packet}
use Rattle.session.specs.declared.taken.Taken.TheVariants as taken
use Rattle.session.proofs.ActPuts.{request-at}
use Rattle.session.proofs.CheckLemmas.{given-are}
use Rattle.session.proofs.FrameLemmas.{behind-old, frame-behind, kept-front}
use Rattle.session.proofs.OtherPorts.{ports-held}
use Rattle.session.proofs.TakeLemmas.{found-port, takes-asked}
use Rattle.session.proofs.RunLemmas.{read-runs, state-runs, state-written, write-runs, write-written}

-- none of these checks stops
abbrev NoneStops : List Check → Type 0
NoneStops [] = Unit {0}
NoneStops (k ∷ cs) = (k.stops ≡ false) × NoneStops cs

-- where no check stops, what follows is decided
none-stops : (cs : List Check) (d : Decision) → NoneStops cs → checked cs d ≡ d
none-stops [] d h = refl
none-stops (k ∷ cs) d h = rw h.0 (none-stops cs d h.1)

-- a plain command is answered, and is no notification
no-note : (kind : Plain) (payload : List ℕ) → (format.command_of (plain_meant kind payload) == DEVICE_NOTIFICATION) ≡ false
no-note plain.Read payload = refl
no-note plain.Write payload = refl
no-note plain.State payload = refl

answered : (kind : Plain) (payload : List ℕ) → is_answered (format.command_of (plain_meant kind payload)) ≡ true
answered plain.Read payload = refl
answered plain.Write payload = refl
answered plain.State payload = refl

-- a plain packet asks its port, where it is there
pub plain-asked : (w : World) (c : Client) (ams net : List ℕ) (admitted : Admitted) (p : PlainPacket) (port : PlantPort)
    → HasAddress w net admitted → IsPlain ams net admitted p → port_numbered p.h.target.port w.plant.ports ≡ Some port
    → IsAsked w c ams (ams_header_of p.h) (record { port = port; address = address_of p.h.source; rights = rights_of p.rights })
    (plain_meant p.kind (payload_of ams))
unfolding decide
plain-asked w c ams net admitted p port address is found =
    let h = ams_header_of p.h in
    let payload = payload_of ams in
    let r = plain_meant p.kind payload in
    let d = setup_of w in
    let rights : source_rights d h ≡ Some (rights_of p.rights) = sym (is.rights_are ∙ given-are w net admitted address h.source.net) in
    let request : format.request_of h.command payload ≡ Some r = is.payload.request_is in
    let command : h.command ≡ format.command_of r = sym is.payload.command_is in
    let own : PlantPort → plant.Rights → format.Request → Decision =
    λ x y z. decide_request d c (record { port = x; address = h.source; rights = y }) z in
    let passed : decide_passed d c (question_of d h payload) ≡ own port (rights_of p.rights) r =
    ap (λ x. decide_passed d c (question h.source x (port_numbered h.target.port w.plant.ports) (format.request_of h.command payload))) rights
    ∙ ap (λ x. decide_passed d c (question h.source (Some (rights_of p.rights)) x (format.request_of h.command payload))) found
    ∙ ap (λ x. decide_passed d c (question h.source (Some (rights_of p.rights)) (Some port) x)) request in
    record {
      found = found;
      command = is.payload.command_is;
      decision = ap (decide_header d c payload) is.header
          ∙ (none-stops (checks_of d h payload) _ (
            ap (λ n. not (n == length payload)) is.passes.len_is ∙ ap not (same (length payload)),
            (
              ap (λ n. n % 2 == 1) is.passes.flags_are,
              (
                ap (λ n. not (n == request_flags)) is.passes.flags_are,
                (
                  ap is_none rights,
                  (
                    ap (λ n. not (bytes_eq h.target.net n)) address.net_is ∙ ap not is.passes.target_is,
                    (
                      ap is_none found,
                      (
                        ap (λ n. n == DEVICE_NOTIFICATION) command ∙ no-note p.kind payload,
                        (
                          ap (λ n. not (is_answered n)) command ∙ ap not (answered p.kind payload),
                          (ap is_none request, tt),
                        ),
                      ),
                    ),
                  ),
                ),
              ),
            ),
          ) ∙ passed);
    }
  where
    same : (n : ℕ) → (n == n) ≡ true
    same n = eq-eqb n n refl

-- a request is run behind room for headers, which are filled in
pub whole-of : (a : Asking) (h : AmsHeader) (r : format.Request) (start : ℕ) (old room out new : List ℕ) (m : PortMemory) (s : SessionState)
    → Runs a r room out m s → start ≡ length old → length room ≡ length old + 38 → take start out ≡ old
    → new ≡ take start out ++ frame_bytes (response_packet h no_error (drop (start + 38) out)) → RunsWhole a h r old new m s
whole-of a h r start old room out new m s runs is_start long kept is_new =
    record { framed = frame-behind h no_error start old room out _ new is_start long runs.reply kept is_new; after = runs.after }

-- and is answered so
pub answers-whole : (a : Asking) (h : AmsHeader) (r : format.Request) (ports : PortsMemory) (number : ℕ)
    (m' : PortMemory) (s' : SessionState) (old new : List ℕ)
    → HoldsPorts a.world ports → port_numbered number a.world.plant.ports ≡ Some a.asker.port → RunsWhole a h r old new m' s'
    → AnswersAsked a h r (taken.Answer (drop (length old) new)) (with_port ports number m') s'
answers-whole a h r ports number m' s' old new held found whole =
    let p = a.asker.port in
    record {
      answered = behind-old old _ new whole.framed;
      held = ports-held a.world ports number p m' (acts_in (decision_of a r)) held found (port_number number a.world.plant.ports p found)
          (request-at (setup_of a.world) a.client a.asker r) whole.after.held;
      stands = whole.after.stands;
    }

-- the payload of a reply that is framed at once
whole-by : (a : Asking) (h : AmsHeader) (r : format.Request) (payload old new : List ℕ) (m : PortMemory) (s : SessionState) → Runs a r [] payload m s
    → new ≡ old ++ frame_bytes (response_packet h no_error payload) → RunsWhole a h r old new m s
whole-by a h r payload old new m s runs is =
    record { framed = is ∙ ap (λ x. old ++ frame_bytes (response_packet h no_error x)) runs.reply; after = runs.after }

pub state-whole : (a : Asking) (h : AmsHeader) (m : PortMemory) (s : SessionState) (ads device : ℕ) (payload old new : List ℕ) → AsksSession a m s
    → ads ≡ m.bytes.ads → device ≡ m.bytes.device → ads < 2 ^ 16 → device < 2 ^ 16
    → payload ≡ to_le_bytes w32 0 ++ (to_le_bytes w16 ads ++ to_le_bytes w16 device)
    → new ≡ old ++ frame_bytes (response_packet h no_error payload) → RunsWhole a h format.ReadState old new m s
state-whole a h m s ads device payload old new asks is is' fits fits' written is_new =
    whole-by a h format.ReadState payload old new m s
    (state-runs a m s ads device [] payload asks is is' fits fits' (written ∙ sym (state-written ads device))) is_new

pub write-whole : (a : Asking) (h : AmsHeader) (r : format.Request) (group offset n : ℕ) (bytes : List ℕ) (answer : Result (Unit {0}) Code)
    (m m' : PortMemory) (s s' : SessionState) (payload old new : List ℕ) → AsksSession a m s → format.Write group offset bytes ≡ r
    → EndsAct a (act_asked a (format.Write group offset bytes)) answer m' s'.handles → s'.watches ≡ s.watches → n ≡ code_in answer
    → payload ≡ to_le_bytes w32 n → new ≡ old ++ frame_bytes (response_packet h no_error payload) → RunsWhole a h r old new m' s'
write-whole a h r group offset n bytes answer m m' s s' payload old new asks meant ends watches is written is_new =
    let R : format.Request → Type 0 = λ x. RunsWhole a h x old new m' s' in
    subst R meant (whole-by a h (format.Write group offset bytes) payload old new m' s'
    (write-runs a group offset n bytes answer m m' s s' [] payload asks ends watches is (written ∙ sym (write-written n))) is_new)

-- a Read whose payload stands behind room for headers
pub read-behind : (a : Asking) (group offset len start : ℕ) (old room out : List ℕ) → start ≡ length old → length room ≡ length old + 38
    → take (length old) room ≡ old → out ≡ room ++ reply_payload 2 (outcome_asked a (format.Read group offset len))
    → (take start out ≡ old) × (start + 38 ≤ length out)
read-behind a group offset len start old room out is_start long begins is =
    let more = Extends-append room room (reply_payload 2 (outcome_asked a (format.Read group offset len))) out (Extends-same room room refl) is in
    (kept-front old room out start is_start long begins more, omega (arith, is_start, long, more.longer))

pub read-whole : (a : Asking) (h : AmsHeader) (r : format.Request) (group offset len start : ℕ) (m : PortMemory) (s : SessionState) (old room out new : List ℕ)
    → AsksSession a m s → format.Read group offset len ≡ r → start ≡ length old → length room ≡ length old + 38 → take (length old) room ≡ old
    → out ≡ room ++ reply_payload 2 (outcome_asked a (format.Read group offset len))
    → new ≡ take start out ++ frame_bytes (response_packet h no_error (drop (start + 38) out)) → RunsWhole a h r old new m s
read-whole a h r group offset len start m s old room out new asks meant is_start long begins is is_new =
    let R : format.Request → Type 0 = λ x. RunsWhole a h x old new m s in
    subst R meant (whole-of a h (format.Read group offset len) start old room out new m s (read-runs a group offset len m s room out asks is)
    is_start long (read-behind a group offset len start old room out is_start long begins is).0 is_new)

-- what comes of a plain packet whose port is there
pub plain-takes : (ams net : List ℕ) (admitted : Admitted) (p : PlainPacket) (ports : PortsMemory) (m m' : PortMemory) (s s' : SessionState) (old new : List ℕ)
    → IsPlain ams net admitted p → memory_numbered p.h.target.port ports.ports ≡ Some m
    → ((a : Asking) → AsksSession a m s → IsFrom a p.h.source p.rights
    → RunsWhole a (ams_header_of p.h) (plain_meant p.kind (payload_of ams)) old new m' s')
    → (w : World) (c : Client) → HoldsPorts w ports → StandsFor w.plant c s → HasAddress w net admitted
    → Takes (outcome_of_packet w c ams) (taken.Answer (drop (length old) new)) (with_port ports p.h.target.port m') s'
plain-takes ams net admitted p ports m m' s s' old new is found runs w c held stands address =
    let h = ams_header_of p.h in
    let r = plain_meant p.kind (payload_of ams) in
    let own = found-port w ports p.h.target.port m held found in
    let a : Asking = record {
      world = w;
      client = c;
      asker = record { port = own.port; address = address_of p.h.source; rights = rights_of p.rights };
    } in
    takes-asked w c ams h a.asker r (taken.Answer (drop (length old) new)) (with_port ports p.h.target.port m') s' is.header
    (plain-asked w c ams net admitted p own.port address is own.found)
    (answers-whole a h r ports p.h.target.port m' s' old new held own.found
    (runs a (record { held = own.held; stands = stands }) (record { address = refl; rights_are = refl })))

-- the header of a packet is one
pub same-header : (ams : List ℕ) (h k : AmsHeader) → header_of ams ≡ Some h → header_of ams ≡ Some k → h ≡ k
same-header ams h k is is' = some-same h k (sym is ∙ is')
  where
    some-same : (a b : AmsHeader) → Some a ≡ Some b → a ≡ b
    some-same a b e = cc
