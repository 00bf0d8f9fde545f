-- What the rules keep, in words of the subject. Assumes nothing.
use Rattle.std.specs.Prelude.{◌≡◌, ℕ, ◌+◌, ◌*◌, ◌<◌, ◌≤◌, min, cond, ◌&&◌, List, [], ◌∷◌, length, take, Decides, count_by, nat_lt, slice_index}
use Rattle.policy.specs.Queue.{Queue}
use Rattle.policy.specs.Fair.{total, Rule, Fairly}
use Rattle.policy.specs.Asked.{answered}
use Rattle.policy.specs.PriceTime.{price_time}
use Rattle.policy.specs.ProRata.{whole, broken, spare, pro_rata}
use Rattle.policy.specs.Favour.{capped, favour}

-- A call is answered just where the list is a queue and the share list is as long.
abbrev pub QueuesAreAnswered : Type 0
QueuesAreAnswered = (queue : List ℕ) (places : ℕ) → Decides (answered queue places) ((places ≡ length queue) × Queue queue)

-- A place gets a lot only if every earlier place is full.
abbrev pub PriceTimeEarliest : Type 0
PriceTimeEarliest = (queue : List ℕ) (v i j : ℕ) → i < j → 0 < slice_index (price_time queue v) j → slice_index (price_time queue v) i ≡ slice_index queue i

-- A share s is less than one lot away from the exact share w * x / t.
pub record Near (t w x s : ℕ) : Type 0 where
  pub not_above : s * t < w * x + t
  pub not_below : w * x < s * t + t

abbrev pub ProRataNear : Type 0
ProRataNear = (queue : List ℕ) (v i : ℕ) → i < length queue → 0 < total queue →
    Near (total queue) (min v (total queue)) (slice_index queue i) (slice_index (pro_rata queue v) i)

-- The share at a place: its whole lots, and one more where the exact share is not whole and fewer such places stand before than lots are left over.
abbrev pub share_at : ℕ → ℕ → List ℕ → ℕ → ℕ
share_at t w queue i =
    whole t w (slice_index queue i) + cond (broken t w (slice_index queue i) && nat_lt (count_by (broken t w) (take i queue)) (spare t w queue)) 1 0

abbrev pub ProRataPlaces : Type 0
ProRataPlaces = (queue : List ℕ) (v i : ℕ) → i < length queue →
    slice_index (pro_rata queue v) i ≡ share_at (total queue) (min v (total queue)) queue i

-- The first place gets its favour where it holds the minimum. Where it does not, or there is none, the policy below shares alone.
pub record FavourFirst : Type 0 where
  pub gets : (limit minimum : ℕ) (below : Rule) → Fairly below → (first : ℕ) (others : List ℕ) (v : ℕ) → Queue (first ∷ others) →
      capped minimum ≤ first → min v (min (capped limit) first) ≤ slice_index (favour limit minimum below (first ∷ others) v) 0
  pub too_small : (limit minimum : ℕ) (below : Rule) (first : ℕ) (others : List ℕ) (v : ℕ) →
      first < capped minimum → favour limit minimum below (first ∷ others) v ≡ below (first ∷ others) v
  pub nobody : (limit minimum : ℕ) (below : Rule) (v : ℕ) → favour limit minimum below [] v ≡ below [] v
