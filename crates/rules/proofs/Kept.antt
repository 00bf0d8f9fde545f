-- The laws above the definitions hold.
use Rattle.std.proofs.Common.{List, refl, arith}
use Rattle.std.proofs.lemmas.Bool.{leb-true}
use Rattle.std.proofs.lemmas.Bool.Decides.{nat_tests}
use Rattle.rules.specs.declared.order.Side.TheVariants.{Bid, Offer}
use Rattle.rules.specs.declared.order.Order.{Order}
use Rattle.rules.specs.declared.tape.Terms.TheVariants.{Opening}
use Rattle.rules.specs.Sides.{better_than, as_good_as}
use Rattle.rules.specs.Trades.{serve, levels}
use Rattle.rules.specs.Laws.{VolumeIsLargest, FillKeepsLots, BetterLevelsFirst, PriceLiesBetween, StepsAsListed}
use Rattle.rules.proofs.Held.{within_ahead}
use Rattle.rules.proofs.Volumes.{never_more, attained}
use Rattle.rules.proofs.Prices.{clears}
use Rattle.rules.proofs.Filled.{fill_account, fill_level, fill_trades}
use Rattle.rules.proofs.Served.{at_level, serve_levels}
use Rattle.rules.proofs.Openings.{upper_better, upper_good, one_left, opening_keeps}

pub volume_is_largest : VolumeIsLargest
volume_is_largest os = record { attained = attained os; never_exceeded = never_more os }

pub fill_keeps_lots : FillKeepsLots
fill_keeps_lots rule fair p s v k m b = record {
  none_lost = λ t. omega (arith, fill_account rule fair (Opening p) s v k m b tt t);
  traded = fill_trades rule fair (Opening p) s v k m b tt;
  left = fill_level rule fair (Opening p) s v k m b;
}

pub better_levels_first : BetterLevelsFirst
better_levels_first rule fair terms s v m b x =
    let left : List Order = (serve rule terms s v (levels s m.orders) m).orders in
    omega (
      arith,
      serve_levels rule fair terms s (better_than s x) (upper_better s x) v m.orders m b (λ y. refl),
      serve_levels rule fair terms s (as_good_as s x) (upper_good s x) v m.orders m b (λ y. refl),
      within_ahead s m.orders x,
      within_ahead s left x,
      at_level s x m.orders,
      at_level s x left,
    )

pub price_lies_between : PriceLiesBetween
price_lies_between rule fair os b p e =
    let k = clears os b.sound p e in
    record {
      bids = λ x i. leb-true x p (one_left rule fair os b p k Bid x i);
      offers = λ x i. leb-true p x (one_left rule fair os b p k Offer x i);
      one_sided = (opening_keeps rule fair os b).one_sided p e;
    }

pub steps_as_listed : StepsAsListed
steps_as_listed = record {
  securities = λ x. grind (arith, nat_tests);
  index = λ x. grind (arith, nat_tests);
  bond = λ x. grind (arith, nat_tests);
}
