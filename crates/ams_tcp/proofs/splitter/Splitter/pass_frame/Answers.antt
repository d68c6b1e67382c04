use Rattle.std.proofs.Common.{◌≡◌, ◌+◌, drop, length, refl, sym, ap, ◌∙◌, arith}
use Rattle.std.proofs.lemmas.List.{length-drop}
use Rattle.spec_frames.specs.Division.{front_of, Whole, Broken}
use Rattle.spec_frames.proofs.FrontLemmas.{has_frame}
use Rattle.ams_tcp.specs.Held.{Held}
use Rattle.ams_tcp.proofs.PeekLemmas.{passes_there, room_for, passed_frame}
use Rattle.ams_tcp.proofs.splitter.Splitter.pass_frame.Goals as goal

pub get32-len-requires : goal.get32-len-requires
get32-len-requires c =
    let frame = has_frame c.args.self.now.rest c.requires in
    omega (arith, ap length c.rest.ensures, frame.six)

pub invariant_of-self : goal.invariant_of-self
invariant_of-self c =
    let s = c.self.inside in
    let view : drop s.start s.bytes.items ≡ c.args.self.now.rest = ap (λ (held : Held). held.rest) c.self.view_is in
    let whole = ap (λ t. front_of t) view ∙ c.requires in
    let p = passes_there c.args.self.now s.bytes.items c.rest.result.now s.start c.get32-len.result view c.rest.ensures c.requires c.get32-len.ensures in (
      room_for s.bytes.items s.start c.get32-len.result c.self.invariant.0 p,
      λ told. absurd (let both : Broken ≡ Whole = sym (c.self.invariant.1 told).0 ∙ whole in cc),
    )

pub returns-clause-stands : goal.returns-clause-stands
returns-clause-stands c = λ h stands.
    let s = c.self.inside in
    let view : drop s.start s.bytes.items ≡ c.args.self.now.rest = ap (λ (held : Held). held.rest) c.self.view_is in
    let p = passes_there c.args.self.now s.bytes.items c.rest.result.now s.start c.get32-len.result view c.rest.ensures c.requires c.get32-len.ensures in
    passed_frame c.args.self.now _ h s.bytes.items s.start c.get32-len.result (sym view) p refl (ap (λ (held : Held). held.told_broken) c.self.view_is) stands

pub returns-clause-shorter : goal.returns-clause-shorter
returns-clause-shorter c =
    let s = c.self.inside in
    let view : drop s.start s.bytes.items ≡ c.args.self.now.rest = ap (λ (held : Held). held.rest) c.self.view_is in
    let p = passes_there c.args.self.now s.bytes.items c.rest.result.now s.start c.get32-len.result view c.rest.ensures c.requires c.get32-len.ensures in
    omega (
      arith,
      room_for s.bytes.items s.start c.get32-len.result c.self.invariant.0 p,
      ap length view,
      length-drop s.start s.bytes.items,
      length-drop (s.start + (6 + c.get32-len.result)) s.bytes.items,
    )

pub returns-clause-passed : goal.returns-clause-passed
returns-clause-passed c =
    let s = c.self.inside in
    let view : drop s.start s.bytes.items ≡ c.args.self.now.rest = ap (λ (held : Held). held.rest) c.self.view_is in
    let passed = ap (λ (held : Held). held.passed) c.self.view_is in
    let p = passes_there c.args.self.now s.bytes.items c.rest.result.now s.start c.get32-len.result view c.rest.ensures c.requires c.get32-len.ensures in
    omega (
      arith,
      room_for s.bytes.items s.start c.get32-len.result c.self.invariant.0 p,
      ap length view,
      passed,
      length-drop s.start s.bytes.items,
      length-drop (s.start + (6 + c.get32-len.result)) s.bytes.items,
    )
