use Rattle.std.proofs.Common.{refl, ◌∙◌, drop}
use Rattle.ads_base.proofs.NetLemmas.{AreLast-all, AreLast-drop, net_text-rest, net_text-none, net_text-one}
use Rattle.ads_base.proofs.net_id.NetId.read.Goals as goal

pub returns-in_err-first-clause-none : goal.returns-in_err-first-clause-none
returns-in_err-first-clause-none c = λ none bytes net e0.
    let bytes0 = bytes in
    let last0 = AreLast-all bytes net in
    net_text-none 4 c.args.text.now bytes0 (c.in_err-first.ensures.none refl) last0 e0

pub returns-in_err-second-clause-none : goal.returns-in_err-second-clause-none
returns-in_err-second-clause-none c = λ none bytes net e0.
    let bytes0 = bytes in
    let last0 = AreLast-all bytes net in
    let e1 = net_text-rest 4 c.args.text.now c.in_ok-first.rest.now bytes0 c.in_ok-first.ensures.only last0 e0 in
    let bytes1 = drop 1 bytes0 in
    let last1 = AreLast-drop 5 bytes0 last0 in
    net_text-none 3 c.in_ok-first.rest.now bytes1 (c.in_err-second.ensures.none refl) last1 e1

pub returns-in_err-third-clause-none : goal.returns-in_err-third-clause-none
returns-in_err-third-clause-none c = λ none bytes net e0.
    let bytes0 = bytes in
    let last0 = AreLast-all bytes net in
    let e1 = net_text-rest 4 c.args.text.now c.in_ok-first.rest.now bytes0 c.in_ok-first.ensures.only last0 e0 in
    let bytes1 = drop 1 bytes0 in
    let last1 = AreLast-drop 5 bytes0 last0 in
    let e2 = net_text-rest 3 c.in_ok-first.rest.now c.in_ok-second.rest.now bytes1 c.in_ok-second.ensures.only last1 e1 in
    let bytes2 = drop 1 bytes1 in
    let last2 = AreLast-drop 4 bytes1 last1 in
    net_text-none 2 c.in_ok-second.rest.now bytes2 (c.in_err-third.ensures.none refl) last2 e2

pub returns-in_err-fourth-clause-none : goal.returns-in_err-fourth-clause-none
returns-in_err-fourth-clause-none c = λ none bytes net e0.
    let bytes0 = bytes in
    let last0 = AreLast-all bytes net in
    let e1 = net_text-rest 4 c.args.text.now c.in_ok-first.rest.now bytes0 c.in_ok-first.ensures.only last0 e0 in
    let bytes1 = drop 1 bytes0 in
    let last1 = AreLast-drop 5 bytes0 last0 in
    let e2 = net_text-rest 3 c.in_ok-first.rest.now c.in_ok-second.rest.now bytes1 c.in_ok-second.ensures.only last1 e1 in
    let bytes2 = drop 1 bytes1 in
    let last2 = AreLast-drop 4 bytes1 last1 in
    let e3 = net_text-rest 2 c.in_ok-second.rest.now c.in_ok-third.rest.now bytes2 c.in_ok-third.ensures.only last2 e2 in
    let bytes3 = drop 1 bytes2 in
    let last3 = AreLast-drop 3 bytes2 last2 in
    net_text-none 1 c.in_ok-third.rest.now bytes3 (c.in_err-fourth.ensures.none refl) last3 e3

pub returns-in_err-fifth-clause-none : goal.returns-in_err-fifth-clause-none
returns-in_err-fifth-clause-none c = λ none bytes net e0.
    let bytes0 = bytes in
    let last0 = AreLast-all bytes net in
    let e1 = net_text-rest 4 c.args.text.now c.in_ok-first.rest.now bytes0 c.in_ok-first.ensures.only last0 e0 in
    let bytes1 = drop 1 bytes0 in
    let last1 = AreLast-drop 5 bytes0 last0 in
    let e2 = net_text-rest 3 c.in_ok-first.rest.now c.in_ok-second.rest.now bytes1 c.in_ok-second.ensures.only last1 e1 in
    let bytes2 = drop 1 bytes1 in
    let last2 = AreLast-drop 4 bytes1 last1 in
    let e3 = net_text-rest 2 c.in_ok-second.rest.now c.in_ok-third.rest.now bytes2 c.in_ok-third.ensures.only last2 e2 in
    let bytes3 = drop 1 bytes2 in
    let last3 = AreLast-drop 3 bytes2 last2 in
    let e4 = net_text-rest 1 c.in_ok-third.rest.now c.in_ok-fourth.rest.now bytes3 c.in_ok-fourth.ensures.only last3 e3 in
    let bytes4 = drop 1 bytes3 in
    let last4 = AreLast-drop 2 bytes3 last3 in
    net_text-none 0 c.in_ok-fourth.rest.now bytes4 (c.in_err-fifth.ensures.none refl) last4 e4

pub returns-in_err-sixth-clause-none : goal.returns-in_err-sixth-clause-none
returns-in_err-sixth-clause-none c = λ none bytes net e0.
    let bytes0 = bytes in
    let last0 = AreLast-all bytes net in
    let e1 = net_text-rest 4 c.args.text.now c.in_ok-first.rest.now bytes0 c.in_ok-first.ensures.only last0 e0 in
    let bytes1 = drop 1 bytes0 in
    let last1 = AreLast-drop 5 bytes0 last0 in
    let e2 = net_text-rest 3 c.in_ok-first.rest.now c.in_ok-second.rest.now bytes1 c.in_ok-second.ensures.only last1 e1 in
    let bytes2 = drop 1 bytes1 in
    let last2 = AreLast-drop 4 bytes1 last1 in
    let e3 = net_text-rest 2 c.in_ok-second.rest.now c.in_ok-third.rest.now bytes2 c.in_ok-third.ensures.only last2 e2 in
    let bytes3 = drop 1 bytes2 in
    let last3 = AreLast-drop 3 bytes2 last2 in
    let e4 = net_text-rest 1 c.in_ok-third.rest.now c.in_ok-fourth.rest.now bytes3 c.in_ok-fourth.ensures.only last3 e3 in
    let bytes4 = drop 1 bytes3 in
    let last4 = AreLast-drop 2 bytes3 last3 in
    let e5 = net_text-rest 0 c.in_ok-fourth.rest.now c.in_ok-fifth.rest.now bytes4 c.in_ok-fifth.ensures.only last4 e4 in
    let bytes5 = drop 1 bytes4 in
    let last5 = AreLast-drop 1 bytes4 last4 in
    c.in_err-sixth.ensures.none refl _ (last5.are_bytes 0) (e5 ∙ net_text-one bytes5 last5)
