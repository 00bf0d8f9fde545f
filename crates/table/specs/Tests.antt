-- What a closure tells.
use Rattle.std.specs.Prelude.{◌≡◌}

-- Each of its answers is the function's.
abbrev pub Tells : {X A : Type 0} → (X → A → Type 0) → (X → A) → Type 0
Tells {X} {A} answers f = (x : X) (a : A) → answers x a → a ≡ f x
