use Rattle.std.proofs.Common.{List, ℕ, length, sym, ◌∙◌, ap, subst, arith, length-drop}
use Rattle.session.specs.declared.plain.Plain.TheVariants as plain
use Rattle.session.specs.Plain.{plain_meant}
use Rattle.session.specs.Runs.{AsksSession}
use Rattle.session.specs.SessionState.{SessionState}
use Rattle.session.proofs.DataLemmas.{data-whole}
use Rattle.session.proofs.RunLemmas.{ok-then, asks-of}
use Rattle.session.proofs.session.Session.read_whole.Goals as goal

pub read_in-requires : goal.read_in-requires
read_in-requires c = omega (arith, ap (λ (l : List ℕ). length l) c.payload_in.ensures, length-drop 32 c.args.ams.now, c.requires.long)

pub returns-in-Some-clause-whole : goal.returns-in-Some-clause-whole
returns-in-Some-clause-whole c = ok-then c.put_data_frame.result _ _ (λ said a h is asks.
    let S : SessionState → Type 0 = λ s. AsksSession a c.args.port.now s in
    let x = c.read_in.result in
    let meant = c.read_in.ensures ∙ ap (plain_meant plain.Read) c.payload_in.ensures in
    data-whole a h _ x.group x.offset x.len c.args.port.now c.args.self.now c.in-Some.bytes.now c.args.out.now c.put_data_frame.new.out asks meant
    (c.in-Some.ensures a (asks-of a _ _ (subst S (sym c.self.view_is) asks))) (said h is))
    c.put_data_frame.ensures.frame
