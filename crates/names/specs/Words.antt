-- The set of names that two words stand for: bit k of the low word is name k, bit k of the high word is name 64 + k. Assumes nothing: these are definitions.
use Rattle.std.specs.Prelude.{ℕ, ◌-◌, ◌/◌, ◌%◌, ◌^◌, Bool, cond, eqb, ltb}
use Rattle.paper.specs.Sets.{Set}
use Rattle.names.specs.declared.Names.{Names}

-- whether bit k of x is 1
unfoldable pub bit : ℕ → ℕ → Bool
bit x k = eqb (x / 2 ^ k % 2) 1

-- the set that two words of a width stand for
unfoldable pub both : ℕ → ℕ → ℕ → Set
both w low high k = cond (ltb k w) (bit low k) (bit high (k - w))

unfoldable pub mem : Names → Set
mem s = both 64 s.lo s.hi
