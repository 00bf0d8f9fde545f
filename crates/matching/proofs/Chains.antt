-- What the code's chains come to, in the rules' words.
use Rattle.std.proofs.Common.{◌≡◌, ℕ, ◌+◌, ◌≤◌, min, max, Bool, true, cond, List, [], ◌∷◌, map, Some, None, filter, Option, fold, sum_by, unwrap_or, refl, sym, ap, ◌∙◌, arith}
use denote.Param.Members.{Mut}
use Rattle.std.specs.Fn.{Called}
use Rattle.std.specs.Iterator.{ReducesItems}
use Rattle.std.specs.List.{filter_map, cons_option, reduce}
use Rattle.std.proofs.lemmas.Bool.{cond_both}
use Rattle.std.proofs.lemmas.Fn.{fold_same}
use Rattle.std.proofs.lemmas.Iterator.{YieldsList, items_from_drains}
use Rattle.std.proofs.lemmas.List.{map-id}
use Rattle.std.proofs.lemmas.List.Sums.{sum_by-cons, fold_push}
use Rattle.rules.specs.declared.order.Side.{Side}
use Rattle.rules.specs.declared.order.Side.TheVariants.{Bid, Offer}
use Rattle.rules.specs.declared.order.Kind.{Kind}
use Rattle.rules.specs.declared.order.Kind.TheVariants.{Limit, OnOpen}
use Rattle.rules.specs.declared.order.Order.{Order}
use Rattle.rules.specs.Limits.{lowest_price, highest_price}
use Rattle.rules.specs.Sides.{is}
use Rattle.rules.specs.Orders.{price_of, prices, limit_of}
use Rattle.rules.specs.Price.{most_of, highest, lowest}

-- a sum over what passes
pub kept_sum : {X : Type 0} (F : List X → ℕ) (t : X → Bool) (f : X → ℕ) → F [] ≡ 0 → ((x : X) (xs : List X) → F (x ∷ xs) ≡ cond (t x) (f x) 0 + F xs) → (xs : List X) → F xs ≡ sum_by f (filter t xs)
kept_sum F t f nil cons [] = nil
kept_sum F t f nil cons (x ∷ xs) =
    let rest = kept_sum F t f nil cons xs in
    cons x xs ∙ cond_both (t x) (x ∷ filter t xs) (filter t xs) (λ z. cond (t x) (f x) 0 + F xs ≡ sum_by f z)
    (λ e. rw e (omega (arith, sum_by-cons f x (filter t xs), rest)))
    (λ e. rw e (omega (arith, rest)))

-- `reduce`, where calls leave the closure as it was, and it computes h
pub reduced : {S A F : Type 0} {steps : S → Option A → S → Type 0} {s : S} {all : List A} (g : Mut F (A × (A × Unit {0})) A) (h : A → A → A) {f : F} (r : Option A) → ReducesItems steps g s f r → YieldsList steps (λ x. x) s all → ((a x b : A) (q : F) → Called g f (a, (x, tt)) b q → (q ≡ f) × (b ≡ h a x)) → r ≡ reduce h all
reduced g h None ran e k = ap (reduce h) (items_from_drains [] (ran.1.0, ran.1.1, λ _. (ran.0, ran.1.2)) e)
reduced g h {f} (Some y) (x, xs, q, drained, folded) e k =
    let last = fold_same g (λ zs b. b ≡ fold h x zs) f (λ zs a z b p j call. let m = k a z b p call in (m.1 ∙ ap (λ w. h w z) j ∙ sym (fold_push h x zs z), m.0)) xs x y q refl folded in
    ap Some last ∙ ap (reduce h) (sym (map-id (x ∷ xs)) ∙ items_from_drains (x ∷ xs) (drained.1.0, drained.1.1, λ _. (drained.0, drained.1.2)) e)

-- the prices of a side
one_price : (s s' : Side) (k : Kind) (xs : List ℕ) → cond (is s s') (price_of k xs) xs ≡ cons_option (cond (is s s') (elim k [ Limit x ↦ Some x | OnOpen ↦ None ]) None) xs
one_price Bid Bid (Limit x) xs = refl
one_price Bid Bid OnOpen xs = refl
one_price Bid Offer k xs = refl
one_price Offer Bid k xs = refl
one_price Offer Offer (Limit x) xs = refl
one_price Offer Offer OnOpen xs = refl

pub prices_are : (s : Side) (os : List Order) → filter_map (limit_of s) os ≡ prices s os
prices_are s [] = refl
prices_are s (o ∷ os) = ap (cons_option (limit_of s o)) (prices_are s os) ∙ sym (one_price s o.side o.kind (prices s os))

-- the largest of a function over some prices
most_from : (f : ℕ → ℕ) (a : ℕ) (xs : List ℕ) → fold max a (map f xs) ≡ max a (most_of f xs)
most_from f a [] = omega arith
most_from f a (x ∷ xs) = most_from f (max a (f x)) xs ∙ omega arith

pub most_is : (f : ℕ → ℕ) (xs : List ℕ) → unwrap_or (reduce max (map f xs)) 0 ≡ most_of f xs
most_is f [] = refl
most_is f (x ∷ xs) = most_from f (f x) xs

-- the ends of some prices
highest_from : (a : ℕ) (xs : List ℕ) → lowest_price ≤ a → fold max a xs ≡ max a (highest xs)
highest_from a [] h = omega arith
highest_from a (x ∷ xs) h = highest_from (max a x) xs (omega arith) ∙ omega arith

lowest_from : (a : ℕ) (xs : List ℕ) → a ≤ highest_price → fold min a xs ≡ min a (lowest xs)
lowest_from a [] h = omega arith
lowest_from a (x ∷ xs) h = lowest_from (min a x) xs (omega arith) ∙ omega arith

low_end : (xs : List ℕ) → lowest_price ≤ highest xs
low_end [] = omega arith
low_end (x ∷ xs) = omega (arith, low_end xs)

high_end : (xs : List ℕ) → lowest xs ≤ highest_price
high_end [] = omega arith
high_end (x ∷ xs) = omega (arith, high_end xs)

pub highest_is : (xs : List ℕ) → fold max lowest_price xs ≡ highest xs
highest_is xs = highest_from lowest_price xs (omega arith) ∙ omega (arith, low_end xs)

pub lowest_is : (xs : List ℕ) → fold min highest_price xs ≡ lowest xs
lowest_is xs = lowest_from highest_price xs (omega arith) ∙ omega (arith, high_end xs)

-- all prices pass
pub all_kept : (xs : List ℕ) → filter (λ x. true) xs ≡ xs
all_kept [] = refl
all_kept (x ∷ xs) = ap (λ (l : List ℕ). x ∷ l) (all_kept xs)
