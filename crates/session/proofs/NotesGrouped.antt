-- Samples that are grouped as text are grouped as the machine groups them.
use Rattle.std.proofs.Common.{◌≡◌, ℕ, zero, suc, ◌<◌, Bool, true, false, List, [], ◌∷◌, ◌++◌, length, map, get_or, refl, sym, ap, ◌∙◌, arith}
use Rattle.std.proofs.Common.{set, nat_lt, Some, None, inl, inr, length-append, append_assoc}
use Rattle.std.specs.List.{All, flat_map, fold, position, position_or_len}
use Rattle.std.proofs.lemmas.Bool.{cases_Bool, ltb-false}
use Rattle.std.proofs.lemmas.List.{append-nil}
use Rattle.std.proofs.lemmas.List.Elements.{All-head, All-tail}
use Rattle.std.proofs.lemmas.Grind.{flat_map-append}
use Rattle.std.proofs.lemmas.List.Quantifiers.{position-Some}
use Rattle.std.proofs.lemmas.List.Sums.{fails_before_first}
use Rattle.std.specs.Int.{w32, w64, to_le_bytes}
use Rattle.spec_formats.specs.Notification.{sample_bytes, stamps_bytes}
use Rattle.spec_frames.specs.Frame.{frame_bytes}
use Rattle.spec_machine.specs.Device.{Produced, Notification}
use Rattle.spec_machine.specs.Watches.{AddressedSample}
use Rattle.spec_machine.specs.Stamps.{SampleGroup, goes_with, with_sample, grouped, group_of_sample}
use Rattle.spec_machine.specs.Stamps.{stamp_payload, notification_packet, notification_frame, frames_of_samples}
use Rattle.session.specs.NoteGroups.{GroupText, is_group_for, groups_with, group_with, no_samples}
use Rattle.session.specs.NoteGroups.{grouped_text, stamp_text, payload_text, frame_of_group}

-- ---- a sample joins a group

joined : (s : AddressedSample) (gs : List GroupText) (i : ℕ) (d : GroupText) → i < length gs
    → is_group_for s.port s.address (get_or gs i d) ≡ true
    → ((k : ℕ) → k < i → is_group_for s.port s.address (get_or gs k d) ≡ false)
    → groups_with s gs ≡ set gs i (group_with s.sample (get_or gs i d))
joined s [] i d within here before = absurd (omega arith)
joined s (g ∷ gs) zero d within here before = rw here refl
joined s (g ∷ gs) (suc i) d within here before =
    rw (before 0 (omega arith))
    (ap (λ (l : List GroupText). g ∷ l) (joined s gs i d (omega arith) here (λ k below. before (suc k) (omega arith))))

-- the group that a sample joins
pub joined_at : (s : AddressedSample) (gs : List GroupText) (i : ℕ) (d : GroupText)
    → position (is_group_for s.port s.address) gs ≡ Some i
    → groups_with s gs ≡ set gs i (group_with s.sample (get_or gs i d))
joined_at s gs i d at =
    let found = position-Some (is_group_for s.port s.address) gs i d at in
    joined s gs i d found.0 found.1 found.2

begun : (s : AddressedSample) (gs : List GroupText) → All (λ g. is_group_for s.port s.address g ≡ false) gs
    → groups_with s gs ≡ gs ++ group_with s.sample (no_samples s.port s.address) ∷ []
begun s [] none = refl
begun s (g ∷ gs) none =
    let other = All-head (λ (h : GroupText). is_group_for s.port s.address h ≡ false) g gs none in
    rw other (ap (λ (l : List GroupText). g ∷ l)
    (begun s gs (All-tail (λ (h : GroupText). is_group_for s.port s.address h ≡ false) g gs none)))

-- where no place was found, none passes
none_at : {X : Type 0} (p : X → Bool) (xs : List X) → position p xs ≡ None → All (λ x. p x ≡ false) xs
none_at p xs missing =
    elim (cases_Bool (nat_lt (position_or_len p xs) (length xs))) [
      | inl there ↦ absurd (let found = rw there at missing in cc)
      | inr past ↦ λ k d below. fails_before_first p xs k d (let far = ltb-false _ _ past in omega arith)
    ]

-- the group that a sample begins
pub joined_none : (s : AddressedSample) (gs : List GroupText)
    → position (is_group_for s.port s.address) gs ≡ None
    → groups_with s gs ≡ gs ++ group_with s.sample (no_samples s.port s.address) ∷ []
joined_none s gs none = begun s gs (none_at (is_group_for s.port s.address) gs none)

-- ---- the machine's groups

abbrev pub text_of : SampleGroup → GroupText
text_of g = record {
  port = g.port;
  address = g.address;
  count = length g.samples;
  text = flat_map sample_bytes g.samples;
}

text_of-begun : (s : AddressedSample) → text_of (group_of_sample s) ≡ group_with s.sample (no_samples s.port s.address)
text_of-begun s = rw (append-nil (sample_bytes s.sample)) refl

text_of-joined : (s : AddressedSample) (g : SampleGroup)
    → text_of (record g { samples = g.samples ++ s.sample ∷ [] }) ≡ group_with s.sample (text_of g)
text_of-joined s g =
    let count = length-append g.samples (s.sample ∷ []) in
    let text : flat_map sample_bytes (g.samples ++ s.sample ∷ []) ≡ flat_map sample_bytes g.samples ++ sample_bytes s.sample =
    flat_map-append sample_bytes g.samples (s.sample ∷ [])
    ∙ ap (λ (l : List ℕ). flat_map sample_bytes g.samples ++ l) (append-nil (sample_bytes s.sample)) in
    rw (count, text) refl

text_of-with_sample : (s : AddressedSample) (gs : List SampleGroup) → map text_of (with_sample gs s) ≡ groups_with s (map text_of gs)
text_of-with_sample s [] = ap (λ (g : GroupText). g ∷ []) (text_of-begun s)
text_of-with_sample s (g ∷ gs) =
    elim (cases_Bool (goes_with s g)) [
      | inl here ↦ rw here (ap (λ (h : GroupText). h ∷ map text_of gs) (text_of-joined s g))
      | inr other ↦ rw other (ap (λ (l : List GroupText). text_of g ∷ l) (text_of-with_sample s gs))
    ]

-- what is told of so many samples, one after another
pub text_of-grouped : (gs : List SampleGroup) (ss : List AddressedSample)
    → map text_of (grouped gs ss) ≡ fold (λ (ts : List GroupText) (s : AddressedSample). groups_with s ts) (map text_of gs) ss
unfolding grouped
text_of-grouped gs [] = refl
text_of-grouped gs (s ∷ ss) =
    text_of-grouped (with_sample gs s) ss
    ∙ ap (λ (ts : List GroupText). fold (λ (us : List GroupText) (t : AddressedSample). groups_with t us) ts ss) (text_of-with_sample s gs)

-- ---- the machine's frames

regroup : (size one moment count text : List ℕ)
    → size ++ (((one ++ moment) ++ count) ++ text) ≡ size ++ (one ++ (((moment ++ count) ++ text) ++ []))
regroup size one moment count text = simp (append_assoc, append-nil)

payload-same : (moment : ℕ) (g : SampleGroup) → payload_text moment (text_of g) ≡ stamp_payload moment g.samples
payload-same moment g =
    let text = flat_map sample_bytes g.samples in
    let len : length (stamp_text moment (text_of g)) ≡ length (stamps_bytes (record { time = moment; samples = g.samples } ∷ [])) =
    omega (arith, ap length (append-nil text)) in
    ap (λ (n : ℕ). to_le_bytes w32 n ++ stamp_text moment (text_of g)) len
    ∙ regroup (to_le_bytes w32 (length (stamps_bytes (record { time = moment; samples = g.samples } ∷ [])))) (to_le_bytes w32 1)
    (to_le_bytes w64 moment) (to_le_bytes w32 (length g.samples)) text

frame-same : (net : List ℕ) (moment : ℕ) (g : SampleGroup) → frame_of_group net moment (text_of g) ≡ notification_frame net moment g
unfolding frame_of_group
frame-same net moment g =
    ap (λ (payload : List ℕ). Notification (length g.samples) (frame_bytes (notification_packet net g payload))) (payload-same moment g)

frames-same : (net : List ℕ) (moment : ℕ) (gs : List SampleGroup)
    → map (frame_of_group net moment) (map text_of gs) ≡ map (notification_frame net moment) gs
frames-same net moment [] = refl
frames-same net moment (g ∷ gs) =
    ap (λ (p : Produced). p ∷ map (frame_of_group net moment) (map text_of gs)) (frame-same net moment g)
    ∙ ap (λ (ps : List Produced). notification_frame net moment g ∷ ps) (frames-same net moment gs)

-- the frames of samples are those of their groups
pub frames_of_groups : (net : List ℕ) (moment : ℕ) (ss : List AddressedSample)
    → map (frame_of_group net moment) (grouped_text ss) ≡ frames_of_samples net moment ss
unfolding frames_of_samples
frames_of_groups net moment ss =
    ap (λ (ts : List GroupText). map (frame_of_group net moment) ts) (sym (text_of-grouped [] ss))
    ∙ frames-same net moment (grouped [] ss)
