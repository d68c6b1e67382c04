-- A queue that is open.
use Rattle.std.proofs.Common.{◌≡◌, ℕ, ◌+◌, ◌-◌, ◌≤◌, List, [], ◌∷◌, ◌++◌, length, take, drop, sum, refl, sym, ◌∙◌, ap, subst, arith}
use Rattle.std.proofs.Common.{length-drop, length-append, length-take-le, take-append-drop, append-nil}
use Rattle.std.proofs.lemmas.List.{take-append-le, drop-append-le, drop_all}
use Rattle.std.proofs.lemmas.List.Sums.{sum_by-cons, sum_by-append}
use Rattle.out_queue.specs.Kept.{left_of, IsTaken, CanStand}
use Rattle.out_queue.specs.Queue.{QUEUE_LIMIT, queued}
use Rattle.out_queue.specs.Runs.{frames_in, AreParts}
use Rattle.out_queue.specs.Open.{whole_frames, end_of, frames_of, tail_of, IsOpen}
use Rattle.out_queue.specs.declared.open_queue.OpenQueue.{OpenQueue}
use Rattle.out_queue.proofs.RunLemmas.{frames_in-append}

-- bytes behind the frames are no part of them
frames_in-more : (lens run more : List ℕ) → sum lens ≤ length run → frames_in lens (run ++ more) ≡ frames_in lens run
frames_in-more [] run more fits = refl
frames_in-more (len ∷ lens) run more fits =
    let all : len + sum lens ≡ sum (len ∷ lens) = sym (sum_by-cons (λ x. x) len lens) in
    let inside : len ≤ length run = omega (arith, all, fits) in
    let rest : sum lens ≤ length (drop len run) = omega (arith, all, fits, length-drop len run) in
    ap (λ x. x ∷ frames_in lens (drop len (run ++ more))) (take-append-le len run more inside)
    ∙ ap (λ x. take len run ∷ frames_in lens x) (drop-append-le len run more inside)
    ∙ ap (λ x. take len run ∷ x) (frames_in-more lens (drop len run) more rest)

whole-more : (lens base more : List ℕ) (gone : ℕ) → gone + sum lens ≤ length base
    → frames_in lens (drop gone (base ++ more)) ≡ frames_in lens (drop gone base)
whole-more lens base more gone fits =
    let inside : gone ≤ length base = omega (arith, fits) in
    let left : sum lens ≤ length (drop gone base) = omega (arith, fits, length-drop gone base) in
    ap (frames_in lens) (drop-append-le gone base more inside) ∙ frames_in-more lens (drop gone base) more left

-- the bytes that wait and those that were taken are all bytes of the frames
whole-queued : (taken : ℕ) (lens run : List ℕ) → sum lens ≤ length run → IsTaken taken (frames_in lens run)
    → taken + queued (left_of taken (frames_in lens run)) ≡ sum lens
whole-queued taken [] run fits none = omega (arith, none)
whole-queued taken (len ∷ lens) run fits some =
    let all : len + sum lens ≡ sum (len ∷ lens) = sym (sum_by-cons (λ x. x) len lens) in
    let inside : len ≤ length run = omega (arith, all, fits) in
    let first : length (take len run) ≡ len = length-take-le len run inside in
    let rest : sum lens ≤ length (drop len run) = omega (arith, all, fits, length-drop len run) in
    let others = lens_queued lens (drop len run) rest in
    let sums = sum_by-cons length (drop taken (take len run)) (frames_in lens (drop len run)) in
    omega (arith, all, first, some, others, sums, length-drop taken (take len run))
  where
    lens_queued : (lens run : List ℕ) → sum lens ≤ length run → queued (frames_in lens run) ≡ sum lens
    lens_queued [] run fits = refl
    lens_queued (len ∷ lens) run fits =
        let all : len + sum lens ≡ sum (len ∷ lens) = sym (sum_by-cons (λ x. x) len lens) in
        let inside : len ≤ length run = omega (arith, all, fits) in
        let first : length (take len run) ≡ len = length-take-le len run inside in
        let rest : sum lens ≤ length (drop len run) = omega (arith, all, fits, length-drop len run) in
        let sums = sum_by-cons length (take len run) (frames_in lens (drop len run)) in
        omega (arith, all, first, lens_queued lens (drop len run) rest, sums)

-- a frame behind those of which the first is taken in part
left_of-append : (taken : ℕ) (frames : List (List ℕ)) (frame : List ℕ) → IsTaken taken frames
    → left_of taken (frames ++ frame ∷ []) ≡ left_of taken frames ++ frame ∷ []
left_of-append taken [] frame none = ap (λ n. drop n frame ∷ []) none
left_of-append taken (first ∷ frames) frame some = refl

taken-append : (taken : ℕ) (frames : List (List ℕ)) (frame : List ℕ) → IsTaken taken frames → IsTaken taken (frames ++ frame ∷ [])
taken-append taken [] frame none = omega (arith, none)
taken-append taken (first ∷ frames) frame some = some

-- a queue is opened
pub record IsOpened (o : OpenQueue) (frames : List (List ℕ)) : Type 0 where
  pub open_ : IsOpen o
  pub frames_ : frames_of o ≡ left_of o.taken frames
  pub tail : tail_of o ≡ []

pub opened : (o : OpenQueue) (frames : List (List ℕ)) → AreParts frames o.bytes o.lens o.gone → CanStand o.taken o.queued frames
    → IsOpened o frames
unfolding frames_of tail_of
opened o frames parts stands =
    let whole : whole_frames o ≡ frames = parts.same in
    let first : IsTaken o.taken (whole_frames o) = subst (IsTaken o.taken) (sym whole) stands.taken in
    let left : sum o.lens ≤ length (drop o.gone o.bytes) = omega (arith, parts.all, length-drop o.gone o.bytes) in
    let counted : o.queued ≡ queued (left_of o.taken (whole_frames o)) = stands.counted ∙ ap (λ fs. queued (left_of o.taken fs)) (sym whole) in
    let waits = whole-queued o.taken o.lens (drop o.gone o.bytes) left first in
    record {
      open_ = record {
        inside = omega (arith, parts.all);
        ends = omega (arith, counted, waits);
        first = first;
        counted = counted;
        room = stands.room;
      };
      frames_ = ap (left_of o.taken) whole;
      tail = drop_all (end_of o) o.bytes (omega (arith, parts.all));
    }

-- other bytes stand behind the same frames
pub record HasTail (o p : OpenQueue) (behind : List ℕ) : Type 0 where
  pub open_ : IsOpen p
  pub frames_ : frames_of p ≡ frames_of o
  pub tail : tail_of p ≡ behind

other_tail : (o p : OpenQueue) (base old new : List ℕ) → IsOpen o → o.bytes ≡ base ++ old → end_of o ≡ length base → p.bytes ≡ base ++ new
    → p.lens ≡ o.lens → p.gone ≡ o.gone → p.taken ≡ o.taken → p.queued ≡ o.queued → HasTail o p new
unfolding frames_of tail_of
other_tail o p base old new st was end is lens gone taken queued_ =
    let same : whole_frames p ≡ whole_frames o =
    ap (λ ls. frames_in ls (drop p.gone p.bytes)) lens ∙ ap (λ g. frames_in o.lens (drop g p.bytes)) gone
    ∙ ap (λ bs. frames_in o.lens (drop o.gone bs)) is ∙ whole-more o.lens base new o.gone (omega (arith, end))
    ∙ sym (whole-more o.lens base old o.gone (omega (arith, end))) ∙ sym (ap (λ bs. frames_in o.lens (drop o.gone bs)) was) in
    let left : left_of p.taken (whole_frames p) ≡ left_of o.taken (whole_frames o) =
    ap (λ t. left_of t (whole_frames p)) taken ∙ ap (left_of o.taken) same in
    let same_end : end_of p ≡ end_of o = ap (λ g. g + sum p.lens) gone ∙ ap (λ ls. o.gone + sum ls) lens in
    let ends = st.ends in
    let room = st.room in
    record {
      open_ = record {
        inside = omega (arith, end, same_end, ap (λ (bs : List ℕ). length bs) is, length-append base new);
        ends = omega (arith, ends, same_end, gone, taken, queued_);
        first = subst (λ t. IsTaken t (whole_frames p)) (sym taken) (subst (IsTaken o.taken) (sym same) st.first);
        counted = queued_ ∙ st.counted ∙ ap queued (sym left);
        room = omega (arith, room, queued_);
      };
      frames_ = left;
      tail = ap (drop (end_of p)) is ∙ drop-append-le (end_of p) base new (omega (arith, end, same_end))
          ∙ ap (λ bs. bs ++ new) (drop_all (end_of p) base (omega (arith, end, same_end)));
    }

-- bytes are written behind the frames
pub written : (o : OpenQueue) (more bytes : List ℕ) → IsOpen o → tail_of o ≡ [] → bytes ≡ o.bytes ++ more → HasTail o (record o { bytes = bytes }) more
unfolding tail_of
written o more bytes st none is =
    let len : length (drop (end_of o) o.bytes) ≡ 0 = ap (λ (bs : List ℕ). length bs) none in
    let behind = st.inside in
    other_tail o (record o { bytes = bytes }) o.bytes [] more st (sym (append-nil o.bytes)) (omega (arith, behind, len, length-drop (end_of o) o.bytes)) is
    refl refl refl refl

-- what is written is cut away
pub cut_away : (o p : OpenQueue) → IsOpen o → p.bytes ≡ take (o.gone + o.taken + o.queued) o.bytes
    → p.lens ≡ o.lens → p.gone ≡ o.gone → p.taken ≡ o.taken → p.queued ≡ o.queued → HasTail o p []
cut_away o p st is lens gone taken queued_ =
    let n = o.gone + o.taken + o.queued in
    let ends = st.ends in
    let inside = st.inside in
    let short : length (take n o.bytes) ≡ n = length-take-le n o.bytes (omega (arith, ends, inside)) in
    other_tail o p (take n o.bytes) (drop n o.bytes) [] st (sym (take-append-drop n o.bytes)) (sym ends ∙ sym short)
    (is ∙ sym (append-nil (take n o.bytes))) lens gone taken queued_

-- so many bytes are written, and so many wait
pub record TailCounts (o : OpenQueue) : Type 0 where
  pub tail : length (tail_of o) + (o.gone + o.taken + o.queued) ≡ length o.bytes
  pub waits : o.queued ≡ queued (frames_of o)
  pub room : o.queued ≤ 4194304

pub tail_counts : (o : OpenQueue) → IsOpen o → TailCounts o
unfolding tail_of
tail_counts o st =
    let ends = st.ends in
    let inside = st.inside in
    record { tail = omega (arith, ends, inside, length-drop (end_of o) o.bytes); waits = st.counted; room = st.room }

-- what is written is a frame
pub record Admits (o p : OpenQueue) : Type 0 where
  pub open_ : IsOpen p
  pub frames_ : frames_of p ≡ frames_of o ++ tail_of o ∷ []
  pub tail : tail_of p ≡ []

frame_behind : (lens bytes : List ℕ) (gone n : ℕ) → gone + sum lens + n ≡ length bytes
    → frames_in (lens ++ n ∷ []) (drop gone bytes) ≡ frames_in lens (drop gone bytes) ++ drop (gone + sum lens) bytes ∷ []
frame_behind lens bytes gone n all =
    let end = gone + sum lens in
    let base = take end bytes in
    let tail = drop end bytes in
    let whole : base ++ tail ≡ bytes = take-append-drop end bytes in
    let short : length base ≡ end = length-take-le end bytes (omega (arith, all)) in
    let some : length tail ≡ n = omega (arith, all, length-drop end bytes) in
    let run : drop gone bytes ≡ drop gone base ++ tail = ap (drop gone) (sym whole) ∙ drop-append-le gone base tail (omega (arith, short)) in
    let left : sum lens ≡ length (drop gone base) = omega (arith, short, length-drop gone base) in
    let before : frames_in lens (drop gone bytes) ≡ frames_in lens (drop gone base) =
    ap (λ bs. frames_in lens (drop gone bs)) (sym whole) ∙ whole-more lens base tail gone (omega (arith, short)) in
    ap (λ k. frames_in (lens ++ k ∷ []) (drop gone bytes)) (sym some)
    ∙ ap (frames_in (lens ++ length tail ∷ [])) run
    ∙ frames_in-append lens (drop gone base) tail left
    ∙ ap (λ fs. fs ++ tail ∷ []) (sym before)

pub admitted : (o p : OpenQueue) (n : ℕ) → IsOpen o → n + (o.gone + o.taken + o.queued) ≡ length o.bytes
    → p.bytes ≡ o.bytes → p.gone ≡ o.gone → p.taken ≡ o.taken → p.lens ≡ o.lens ++ n ∷ [] → p.queued ≡ o.queued + n
    → p.queued ≤ QUEUE_LIMIT → Admits o p
unfolding frames_of tail_of
admitted o p n st all bytes gone taken lens waits room =
    let ends = st.ends in
    let whole : whole_frames p ≡ whole_frames o ++ drop (end_of o) o.bytes ∷ [] =
    ap (λ ls. frames_in ls (drop p.gone p.bytes)) lens ∙ ap (λ g. frames_in (o.lens ++ n ∷ []) (drop g p.bytes)) gone
    ∙ ap (λ bs. frames_in (o.lens ++ n ∷ []) (drop o.gone bs)) bytes
    ∙ frame_behind o.lens o.bytes o.gone n (omega (arith, all, ends)) in
    let frames : left_of p.taken (whole_frames p) ≡ left_of o.taken (whole_frames o) ++ drop (end_of o) o.bytes ∷ [] =
    ap (λ t. left_of t (whole_frames p)) taken ∙ ap (left_of o.taken) whole
    ∙ left_of-append o.taken (whole_frames o) (drop (end_of o) o.bytes) st.first in
    let sums : sum p.lens ≡ sum o.lens + n =
    ap (λ ls. sum ls) lens ∙ sum_by-append (λ x. x) o.lens (n ∷ []) ∙ omega (arith, sum_by-cons (λ x. x) n [], refl_sum) in
    let len : length p.bytes ≡ length o.bytes = ap (λ (bs : List ℕ). length bs) bytes in
    let tail_len = length-drop (end_of o) o.bytes in
    let counted = st.counted in
    let parts = sum_by-append length (left_of o.taken (whole_frames o)) (drop (end_of o) o.bytes ∷ []) in
    let one = sum_by-cons length (drop (end_of o) o.bytes) [] in
    let frames_queued : queued (left_of p.taken (whole_frames p)) ≡ queued (left_of o.taken (whole_frames o)) + length (drop (end_of o) o.bytes) =
    ap queued frames ∙ parts ∙ omega (arith, one, no_frame) in
    record {
      open_ = record {
        inside = omega (arith, all, ends, sums, len, gone);
        ends = omega (arith, ends, sums, gone, taken, waits);
        first = subst (λ t. IsTaken t (whole_frames p)) (sym taken)
            (subst (IsTaken o.taken) (sym whole) (taken-append o.taken (whole_frames o) (drop (end_of o) o.bytes) st.first));
        counted = omega (arith, waits, counted, frames_queued, tail_len, all, ends);
        room = room;
      };
      frames_ = frames;
      tail = drop_all (end_of p) p.bytes (omega (arith, all, ends, sums, len, gone));
    }
  where
    refl_sum : sum [] ≡ 0
    refl_sum = refl

    no_frame : queued [] ≡ 0
    no_frame = refl

pub admitted_at : (o p : OpenQueue) (all : ℕ) → IsOpen o → all ≡ length o.bytes
    → all - (o.gone + o.taken + o.queued) ≤ 4194304 - o.queued
    → p.bytes ≡ o.bytes → p.gone ≡ o.gone → p.taken ≡ o.taken → p.lens ≡ o.lens ++ (all - (o.gone + o.taken + o.queued)) ∷ []
    → p.queued ≡ o.queued + (all - (o.gone + o.taken + o.queued)) → Admits o p
admitted_at o p all st len fits bytes gone taken lens waits =
    let ends = st.ends in
    let inside = st.inside in
    let room = st.room in
    admitted o p (all - (o.gone + o.taken + o.queued)) st (omega (arith, len, ends, inside)) bytes gone taken lens waits
    (omega (arith, fits, waits, room))

-- the parts that a queue keeps
pub opened_parts : (o : OpenQueue) (frames : List (List ℕ)) (run : List ℕ) → AreParts frames run o.lens o.gone
    → IsTaken o.taken frames × (o.queued ≡ queued (left_of o.taken frames)) × (o.queued ≤ QUEUE_LIMIT)
    → o.bytes ≡ run → IsOpened o frames
opened_parts o frames run parts kept bytes =
    opened o frames (subst (λ bs. AreParts frames bs o.lens o.gone) (sym bytes) parts)
    (record { taken = kept.0; counted = kept.1; room = kept.2 })

-- a queue that is closed
pub record IsClosed (o : OpenQueue) : Type 0 where
  pub all : end_of o ≡ length o.bytes
  pub stands : CanStand o.taken o.queued (whole_frames o)
  pub frames_ : left_of o.taken (whole_frames o) ≡ frames_of o

pub closed : (o : OpenQueue) → IsOpen o → tail_of o ≡ [] → IsClosed o
unfolding frames_of tail_of
closed o st none =
    let len : length (drop (end_of o) o.bytes) ≡ 0 = ap (λ (bs : List ℕ). length bs) none in
    let inside = st.inside in
    record {
      all = omega (arith, inside, len, length-drop (end_of o) o.bytes);
      stands = record { taken = st.first; counted = st.counted; room = st.room };
      frames_ = refl;
    }

-- nothing is written behind the frames
pub unwritten : (o : OpenQueue) (bytes : List ℕ) → IsOpen o → tail_of o ≡ [] → bytes ≡ o.bytes → HasTail o (record o { bytes = bytes }) []
unwritten o bytes st none is = written o [] bytes st none (is ∙ sym (append-nil o.bytes))
