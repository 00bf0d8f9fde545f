use Rattle.std.proofs.Common.{◌≡◌, ℕ, not, ◌&&◌, arith, rules, tests}
use Rattle.arrayvec.proofs.ArrayVecLemmas.{filter-from_retain}
use Rattle.rules.specs.declared.order.Side.TheVariants.{Bid, Offer}
use Rattle.rules.specs.Sides.{is}
use Rattle.table.specs.Tables.{open_orders}
use Rattle.table.proofs.Fit.{fit_retained}
use Rattle.table.proofs.table.Table.withdraw.Goals as goal

pub invariant_of-self : goal.invariant_of-self
invariant_of-self g c =
    let t = c.args.self.now in
    record {
      within = omega (arith, c.retain.ensures.bound, t.within);
      fit = fit_retained _ _ (λ x b f' y k. search rules) (open_orders t) c.retain.new.self.items c.retain.ensures.filtered t.fit;
    }

pub returns-clause-orders : goal.returns-clause-orders
returns-clause-orders g c = λ test tells. filter-from_retain _ (λ o. not (test o)) _ (λ x b f' y k. search (rules, tests, tells)) (open_orders c.args.self.now) c.retain.new.self.items c.retain.ensures.filtered

same_pair : (a b c d : ℕ) → a ≡ c → b ≡ d → ◌≡◌ {A = ℕ × ℕ} (a, b) (c, d)
same_pair a b c d p q = λ k. (p k, q k)

pub returns-clause-lots : goal.returns-clause-lots
returns-clause-lots g c = λ test tells.
    let bids = c.held-bids.ensures.value (λ o. is Bid o.side && test o) (λ o b k. search (rules, tests, tells)) in
    let offers = c.held-offers.ensures.value (λ o. is Offer o.side && test o) (λ o b k. search (rules, tests, tells)) in
    same_pair _ _ _ _ (omega (arith, bids)) (omega (arith, offers))
