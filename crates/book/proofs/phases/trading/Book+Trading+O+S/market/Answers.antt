use Rattle.std.proofs.Common.{refl}
use Rattle.rules.specs.declared.calls.Answer.TheVariants.{Entered}
use Rattle.rules.specs.Checks.{market_checks}
use Rattle.rules.specs.Steps.{meet, market_incoming}
use Rattle.book.specs.Model.{trading, rules_of}
use Rattle.book.proofs.Verdicts.{call_refused, call_taken}
use Rattle.book.proofs.phases.trading.Book+Trading+O+S.market.Goals as goal

pub returns-in_err-check_market : goal.returns-in_err-check_market
returns-in_err-check_market g c =
    let m = trading c.args.self.now in
    let R = rules_of g.O.Policy.rule g.S.Policy.rule c.args.self.now in
    call_refused Entered c.from_residual.result (market_checks m c.args.e) (meet R m (market_incoming m c.args.e)) refl c.in_err-check_market.ensures c.from_residual.ensures.1

pub returns : goal.returns
returns g c =
    let m = trading c.args.self.now in
    let R = rules_of g.O.Policy.rule g.S.Policy.rule c.args.self.now in
    call_taken (market_checks m c.args.e) (meet R m (market_incoming m c.args.e)) refl c.in_ok-check_market.ensures c.meet.ensures.step c.meet.ensures.policies
