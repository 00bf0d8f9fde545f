-- Why a call is not taken, and the number of each case.
use Rattle.std.specs.Prelude.{ℕ, Bool, cond, List, [], ◌∷◌, Some, None, Option}
use Rattle.policy.specs.Asked as policies
use Rattle.rules.specs.declared.refusal.Refusal.{Refusal}
use Rattle.rules.specs.declared.refusal.Refusal.TheVariants.{NoSuchId, LineIsDown, PriceNotTaken, VolumeOutOfRange, MinimumOutOfRange, ModifierNotAllowed, DayOutOfRange, BookFull, NumbersUsedUp, NoSuchOrder, HeldByAnother, ReductionOutOfRange, LineIsUp, SuccessorNotAllowed, Policy}

abbrev pub number_of : Refusal → ℕ
number_of NoSuchId = 1
number_of LineIsDown = 2
number_of PriceNotTaken = 3
number_of VolumeOutOfRange = 4
number_of MinimumOutOfRange = 5
number_of ModifierNotAllowed = 6
number_of DayOutOfRange = 7
number_of BookFull = 8
number_of NumbersUsedUp = 9
number_of NoSuchOrder = 10
number_of HeldByAnother = 11
number_of ReductionOutOfRange = 12
number_of LineIsUp = 13
number_of SuccessorNotAllowed = 14
number_of (Policy r) = policies.number_of r

-- A check: whether it fails, and the refusal it then gives.
abbrev pub Check : Type 0
Check = Bool × Refusal

-- The first check that fails, in the order written.
abbrev pub first : List Check → Option Refusal
first [] = None
first (c ∷ cs) = cond c.0 (Some c.1) (first cs)
