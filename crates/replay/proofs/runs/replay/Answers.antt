use Rattle.std.proofs.Common.{◌≡◌, length, ap, ◌∙◌, arith}
use Rattle.std.proofs.lemmas.List.{length-drop, set-get_or}
use Rattle.replay.specs.Books.{machine_of, rules_in}
use Rattle.replay.proofs.Going.{with_place, with_place_length, sofar_more, replayed}
use Rattle.replay.proofs.runs.replay.Goals as goal

pub loop-place-preserved : goal.loop-place-preserved
loop-place-preserved g c =
    let inv = c.loop-place.invariant in
    let sent = c.send-next.ensures.stepped in
    let o = g.O.Policy.rule in
    let s = g.S.Policy.rule in
    let b = c.args.book in
    let same : rules_in o s c.loop-place.book ≡ rules_in o s b = λ k. record { opening = o (inv.0 k); session = s (inv.1 k) } in
    (sent.same_opening ∙ inv.0, sent.same_session ∙ inv.1, sofar_more (rules_in o s b) (rules_in o s c.loop-place.book) (machine_of b) (machine_of c.loop-place.book) (machine_of c.send-next.result.0) (with_place c.args.calls.now c.args.answers.now) c.args.answers.now c.loop-place.answers c.loop-place.place-index c.loop-place.left.now c.in-Some.rest.now c.in-Some.call.now c.send-next.result.1 c.in-Some.ensures.cases.0 (omega (arith, inv.2.long)) same sent.gives inv.2)

pub returns-after-loop-place : goal.returns-after-loop-place
returns-after-loop-place g c =
    let inv = c.loop-place.invariant in
    replayed g.O.Policy.rule g.S.Policy.rule g.met.O.Policy.fair g.met.S.Policy.fair c.args.book c.loop-place.book c.args.calls.now c.args.answers.now c.loop-place.answers c.loop-place.place-index c.loop-place.left.now inv.0 inv.1 inv.2 (omega (arith, inv.2.within, inv.2.long, with_place_length c.args.calls.now c.args.answers.now))

pub returns-in_default : goal.returns-in_default
returns-in_default g c =
    let inv = c.loop-place.invariant in
    let ys = c.loop-place.answers in
    let i = c.loop-place.place-index in
    let all = replayed g.O.Policy.rule g.S.Policy.rule g.met.O.Policy.fair g.met.S.Policy.fair c.args.book c.loop-place.book c.args.calls.now c.args.answers.now ys i c.loop-place.left.now inv.0 inv.1 inv.2 (omega (arith, c.in_default.ensures.cases, ap length inv.2.behind, length-drop i (with_place c.args.calls.now c.args.answers.now), inv.2.within)) in
    rw (set-get_or ys i _) all
