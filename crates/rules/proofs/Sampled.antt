-- The nine small books and the three small queues.
use Rattle.std.proofs.Common.{◌≡◌, ℕ, List, [], ◌∷◌, refl, ap, ◌∙◌, arith}
use Rattle.policy.specs.PriceTime.{price_time}
use Rattle.policy.specs.Samples.{SampleQueues}
use Rattle.rules.specs.declared.order.Side.TheVariants.{Bid, Offer}
use Rattle.rules.specs.declared.order.Order.{Order}
use Rattle.rules.specs.declared.ladder.Ladder.{Ladder}
use Rattle.rules.specs.declared.ladder.Ladder.TheVariants.{Bond, Index}
use Rattle.rules.specs.declared.calls.Phase.{Phase}
use Rattle.rules.specs.declared.calls.Phase.TheVariants.{PreOpen}
use Rattle.rules.specs.declared.calls.Call.{Call}
use Rattle.rules.specs.declared.calls.Answer.TheVariants.{Opened}
use Rattle.rules.specs.Orders.{prices, Sound}
use Rattle.rules.specs.Price.{most_of, tradable, price_at}
use Rattle.rules.specs.Opening as opening
use Rattle.rules.specs.Machine.{Machine, made}
use Rattle.rules.specs.Steps.{open_book, only_in}
use Rattle.rules.specs.Samples.{rules, after_calls, bid, offer, on_open, Opens, SampleOpenings, TwelveSamples}
use Rattle.rules.proofs.Volumes.{volume_among_bids}

-- an opening where v lots of limit orders trade
abbrev at_volume : List Order → ℕ → opening.Opened
at_volume os v = opening.opened_at price_time os v (price_at v os)

-- computed by the volume over the prices of the bids
opens : (ladder : Ladder) (entries : List Call) → let m = after_calls (made ladder 1 9 1) entries in m.phase ≡ PreOpen → Sound m.orders → let o = at_volume m.orders (most_of (tradable m.orders) (prices Bid m.orders)) in Opens ladder entries o.price o.volume o.total o.withdrawn o.orders
opens ladder entries e sound =
    let m : Machine = after_calls (made ladder 1 9 1) entries in
    let among = volume_among_bids m.orders sound in
    record {
      answer = ap (λ (phase : Phase). (only_in PreOpen m (open_book rules m) phase).answer) e ∙ ap (λ v. let o = at_volume m.orders v in Opened (record { volume = o.volume; total = o.total; withdrawn = o.withdrawn; price = o.price })) among;
      leaves = ap (λ (phase : Phase). (only_in PreOpen m (open_book rules m) phase).after.orders) e ∙ ap (λ v. (at_volume m.orders v).orders) among;
    }

sample_openings : SampleOpenings
sample_openings = record {
  book_1 = opens Bond (bid 5 102 ∷ offer 5 100 ∷ []) refl (omega arith);
  book_2 = opens Bond (bid 5 103 ∷ offer 5 100 ∷ []) refl (omega arith);
  book_3 = opens Bond (bid 4 103 ∷ offer 3 100 ∷ offer 3 101 ∷ []) refl (omega arith);
  book_4 = opens Bond (bid 3 103 ∷ bid 3 102 ∷ offer 4 100 ∷ []) refl (omega arith);
  book_5 = opens Bond (bid 4 104 ∷ bid 2 100 ∷ offer 4 99 ∷ offer 2 103 ∷ []) refl (omega arith);
  book_6 = opens Bond (bid 1 100 ∷ offer 1 101 ∷ on_open Offer 1 ∷ []) refl (omega arith);
  book_7 = opens Bond (bid 1 100 ∷ on_open Offer 1 ∷ []) refl (omega arith);
  book_8 = opens Bond (bid 1 10 ∷ bid 5 8 ∷ offer 1 8 ∷ on_open Offer 5 ∷ []) refl (omega arith);
  book_9 = opens Index (bid 1 210 ∷ offer 1 205 ∷ on_open Bid 2 ∷ []) refl (omega arith);
}

sample_queues : SampleQueues
sample_queues = (refl, refl, refl)

pub twelve_samples : TwelveSamples
twelve_samples = (sample_openings, sample_queues)
