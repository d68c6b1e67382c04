use Rattle.std.proofs.Common.{◌≡◌, arith}
use Rattle.spec_frames.specs.Division.{ams_length_of}
use Rattle.spec_frames.proofs.FrontLemmas.{front_of-short, front_of-begun}
use Rattle.ams_tcp.proofs.Headers.{is_header-true, is_header-first, is_header-second, is_header-small, is_header-great, broken_header}
use Rattle.ams_tcp.proofs.PeekLemmas.{is_whole}
use Rattle.ams_tcp.proofs.front.front_at.Goals as goal
use Rattle.ams_tcp.proofs.front.front_at.Goals.{then-text-ne0-via-then-text-ne0}
use Rattle.ams_tcp.proofs.front.front_at.Goals.{then-text-ne0-via-else-text-ne0+then-text-ne0-2}
use Rattle.ams_tcp.proofs.front.front_at.Goals.{then-text-ne0-via-else-text-ne0+else-text-ne0-2+then-len-lt-LEAST_AMS}
use Rattle.ams_tcp.proofs.front.front_at.Goals.{then-text-ne0-via-else-text-ne0+else-text-ne0-2+else-len-lt-LEAST_AMS+then-len-gt-GREATEST_AMS}

pub returns-then-text-lt-HEADER : goal.returns-then-text-lt-HEADER
returns-then-text-lt-HEADER c = front_of-short c.args.text.now c.if-text-lt-HEADER.true

pub returns-then-text-ne0 : goal.returns-then-text-ne0
unfolding ams_length_of
returns-then-text-ne0 c =
    let broken = broken_header c.args.text.now c.if-text-lt-HEADER.false in
    record {
      front = elim c.then-text-ne0.branch [
        | then-text-ne0-via-then-text-ne0 w ↦ broken (is_header-first c.args.text.now w.if-text-ne0.true)
        | then-text-ne0-via-else-text-ne0+then-text-ne0-2 w ↦ broken (is_header-second c.args.text.now w.if-text-ne0-2.true)
        | then-text-ne0-via-else-text-ne0+else-text-ne0-2+then-len-lt-LEAST_AMS w ↦
            broken (is_header-small c.args.text.now (omega (arith, c.get32-len.ensures, w.if-len-lt-LEAST_AMS.true)))
        | then-text-ne0-via-else-text-ne0+else-text-ne0-2+else-len-lt-LEAST_AMS+then-len-gt-GREATEST_AMS w ↦
            broken (is_header-great c.args.text.now (omega (arith, c.get32-len.ensures, w.if-len-gt-GREATEST_AMS.true)))
      ];
      six = c.if-text-lt-HEADER.false;
    }

pub returns-then-text-len : goal.returns-then-text-len
unfolding ams_length_of
returns-then-text-len c =
    let size : c.get32-len.result ≡ ams_length_of c.args.text.now = c.get32-len.ensures in
    let header = is_header-true c.args.text.now c.if-text-ne0.false c.if-text-ne0-2.false
    (omega (arith, size, c.if-len-lt-LEAST_AMS.false)) (omega (arith, size, c.if-len-gt-GREATEST_AMS.false)) in
    front_of-begun c.args.text.now c.if-text-lt-HEADER.false header (omega (arith, size, c.if-text-len.true))

pub returns : goal.returns
unfolding ams_length_of
returns c =
    let size : c.get32-len.result ≡ ams_length_of c.args.text.now = c.get32-len.ensures in
    let header = is_header-true c.args.text.now c.if-text-ne0.false c.if-text-ne0-2.false
    (omega (arith, size, c.if-len-lt-LEAST_AMS.false)) (omega (arith, size, c.if-len-gt-GREATEST_AMS.false)) in
    is_whole c.args.text.now c.get32-len.result
    (record { six = c.if-text-lt-HEADER.false; header = header; all_there = omega (arith, size, c.if-text-len.false) }) size
