use Rattle.rules.specs.Machine.{made}
use Rattle.replay.specs.Books.{machine_of, rules_in}
use Rattle.replay.proofs.Going.{one_more}
use Rattle.replay.proofs.Lawful.{lawful_from, lawful_call}
use Rattle.replay.proofs.any.AnyBook.send.Goals as goal

pub returns : goal.returns
returns g c =
    let o = g.O.Policy.rule in
    let s = g.S.Policy.rule in
    let b = c.args.self in
    let call = c.args.call in
    let sent = machine_of c.step.result.0 in
    let stepped = c.step.ensures in
    let R = rules_in o s b in
    record {
      stepped = stepped;
      same_rules = λ k. record { opening = o (stepped.same_opening k); session = s (stepped.same_session k) };
      goes_on = λ start cs came. one_more R start (machine_of b) sent cs call came stepped.gives.leaves;
      lawful = λ ladder today last first cs came. lawful_call R (made ladder today last first) (machine_of b) sent cs call c.step.result.1 (lawful_from o s g.met.O.Policy.fair g.met.S.Policy.fair b ladder today last first) came stepped.gives;
    }
