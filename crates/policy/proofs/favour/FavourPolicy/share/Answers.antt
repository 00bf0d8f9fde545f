-- What the policy below gives the first place leaves room for the favour: the law of the bound.
use Rattle.std.proofs.Common.{◌≡◌, ◌-◌, ◌≤◌, true, length, get_or, ap, arith, rules}
use Rattle.policy.specs.Asked.{answered}
use Rattle.policy.specs.Favour.{less}
use Rattle.policy.proofs.Queues.{answered_queue}
use Rattle.policy.specs.Favours.{favoured_le_first, less_queue, first_fits}
use Rattle.policy.proofs.Asking.{taken_shares}
use Rattle.policy.proofs.favour.FavourPolicy.share.Goals as goal

pub add_first-requires : goal.add_first-requires
add_first-requires g c =
    let favour = c.args.self.now in
    let q = c.args.queue.now in
    let given = c.first_gets-given.result in
    let v = c.args.lots - given in
    let yes : answered q (length c.args.shares.now) ≡ true = search rules in
    let queue = answered_queue q (length c.args.shares.now) yes in
    let le : given ≤ get_or q 0 0 = omega (arith, favoured_le_first favour.«cap» favour.minimum q c.args.lots) in
    let fits = first_fits q _ v given queue le (g.met.P.Policy.fair favour.below (less q given) v (less_queue q given queue)) in
    let held : c.take_first.new.places ≡ less q given = search rules in
    let is = taken_shares (g.P.Policy.rule favour.below) c.take_first.new.places v c.args.shares.now c.share.new.shares c.in_ok-share.field-0 c.in_ok-share.ensures in
    let same : c.share.new.shares ≡ g.P.Policy.rule favour.below (less q given) v = cc in
    omega (arith, ap (λ s. get_or s 0 0) same)
