use Rattle.std.proofs.Common.{◌≡◌, List, ◌++◌, length, ap, ◌∙◌, arith, rules}
use Rattle.std.specs.List.{refill}
use Rattle.arrayvec.proofs.ArrayVecLemmas.{filter-from_retain}
use Rattle.rules.specs.declared.order.Order.{Order}
use Rattle.rules.specs.Orders.{level}
use Rattle.rules.specs.Trades.{taken, standing, lines}
use Rattle.table.specs.Fits.{all_fit}
use Rattle.table.specs.Tables.{open_orders, tape_lines}
use Rattle.table.proofs.Fit.{fit_traded}
use Rattle.table.proofs.Open.{refilled}
use Rattle.table.proofs.Taking.{taken_length}
use Rattle.table.proofs.table.Table.apply.Goals as goal

pub invariant_of-self : goal.invariant_of-self
invariant_of-self c =
    let t = c.args.self.now in
    let s = c.args.level.side in
    let k = c.args.level.kind in
    let os = open_orders t in
    let shares = c.args.shares.now in
    let after : c.take_off.new.orders ≡ taken s k shares os = c.take_off.ensures.orders ∙ ap (taken s k shares) c.deref_mut.ensures.value in
    let length-after : length c.take_off.new.orders ≡ length os = ap length after ∙ taken_length s k shares os in
    let put = refilled os c.take_off.new.orders length-after in
    let kept : c.retain.new.self.items ≡ standing (refill (length os) os c.take_off.new.orders) = filter-from_retain _ _ _ (λ x b f' y q. search rules) (refill (length os) os c.take_off.new.orders) c.retain.new.self.items c.retain.ensures.filtered in
    let is : c.retain.new.self.items ≡ standing (taken s k shares os) = kept ∙ ap standing (put ∙ after) in
    record {
      within = omega (arith, c.retain.ensures.bound, ap length put, length-after, t.within);
      fit = ap all_fit is ∙ fit_traded s k shares os t.fit;
    }

pub returns : goal.returns
returns c =
    let t = c.args.self.now in
    let s = c.args.level.side in
    let k = c.args.level.kind in
    let os = open_orders t in
    let shares = c.args.shares.now in
    let after : c.take_off.new.orders ≡ taken s k shares os = c.take_off.ensures.orders ∙ ap (taken s k shares) c.deref_mut.ensures.value in
    let put = refilled os c.take_off.new.orders (ap length after ∙ taken_length s k shares os) in
    let kept : c.retain.new.self.items ≡ standing (refill (length os) os c.take_off.new.orders) = filter-from_retain _ _ _ (λ x b f' y q. search rules) (refill (length os) os c.take_off.new.orders) c.retain.new.self.items c.retain.ensures.filtered in
    record {
      orders = kept ∙ ap standing (put ∙ after);
      written = c.take_off.ensures.written ∙ ap (λ (l : List Order). tape_lines c.args.tape.now ++ lines c.args.price (level s k l) shares) c.deref_mut.ensures.value;
    }
