-- Sets of names, and of nodes: a set is a yes or no for each number. Document 01 has no section on them. Assumes nothing: these are definitions.
use Rattle.std.specs.Prelude.{ℕ, zero, suc, Bool, true, false, not, ◌&&◌, ◌||◌, cond, List, [], ◌∷◌, ◌++◌, eqb, ltb}

abbrev pub Set : Type 0
Set = ℕ → Bool

unfoldable pub none : Set
none k = false

unfoldable pub only : ℕ → Set
only n k = eqb k n

infixl 64 ◌∪◌
unfoldable pub ◌∪◌ : Set → Set → Set
◌∪◌ a b k = a k || b k

infixl 66 ◌∩◌
unfoldable pub ◌∩◌ : Set → Set → Set
◌∩◌ a b k = a k && b k

infixl 64 ◌∖◌
unfoldable pub ◌∖◌ : Set → Set → Set
◌∖◌ a b k = a k && not (b k)

-- all names below a count
unfoldable pub below : ℕ → Set
below n k = ltb k n

-- every name that is not in the set
unfoldable pub outside : Set → Set
outside a k = not (a k)

-- whether every number below n is in the set
unfoldable pub all_below : ℕ → Set → Bool
all_below zero a = true
all_below (suc n) a = a n && all_below n a

-- the numbers below n that are in the set, ascending
unfoldable pub members : Set → ℕ → List ℕ
members a zero = []
members a (suc n) = members a n ++ cond (a n) (n ∷ []) []
