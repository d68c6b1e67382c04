use Rattle.std.proofs.Common.{◌≡◌, ◌++◌, List, ℕ, length, drop, ap, ◌∙◌, arith}
use Rattle.std.proofs.lemmas.List.{drop-append-le, length-append}
use Rattle.spec_frames.specs.Division.{front_of}
use Rattle.spec_frames.proofs.FrontLemmas.{front_of-append_broken}
use Rattle.ams_tcp.specs.Held.{Held}
use Rattle.ams_tcp.proofs.HistoryLemmas.{fed_more}
use Rattle.ams_tcp.proofs.splitter.Splitter.feed.Goals as goal

pub invariant_of-self-2 : goal.invariant_of-self-2
invariant_of-self-2 c =
    let old = c.self.inside in
    let piece = c.args.piece.now in
    let items : c.extend_from_slice.new.self.items ≡ old.bytes.items ++ piece = c.in_ok-extend_from_slice.ensures.items in
    let rest = ap (λ bs. drop old.start bs) items ∙ drop-append-le old.start old.bytes.items piece c.self.invariant.0 in (
      omega (arith, ap (λ (bs : List ℕ). length bs) items, length-append old.bytes.items piece, c.self.invariant.0),
      λ told. (
        ap (λ bs. front_of bs) rest ∙ front_of-append_broken (drop old.start old.bytes.items) piece (c.self.invariant.1 told).0,
        omega (arith, ap (λ (bs : List ℕ). length bs) rest, length-append (drop old.start old.bytes.items) piece, (c.self.invariant.1 told).1),
      ),
    )

pub returns-clause-ok : goal.returns-clause-ok
returns-clause-ok c = λ h s.
    let old = c.self.inside in
    let piece = c.args.piece.now in
    let kept = c.self.view_is ∙ c.move_to_front.ensures in
    let items : c.extend_from_slice.new.self.items ≡ old.bytes.items ++ piece = c.in_ok-extend_from_slice.ensures.items in
    let rest = ap (λ bs. drop old.start bs) items ∙ drop-append-le old.start old.bytes.items piece c.self.invariant.0 in
    fed_more c.args.self.now _ h piece (rest ∙ ap (λ (held : Held). held.rest ++ piece) kept) (ap (λ (held : Held). held.told_broken) kept) s
