-- The least number of a set. Assumes nothing: this is a definition.
use Rattle.std.specs.Prelude.{ℕ, zero, suc, cond}
use Rattle.paper.specs.Sets.{Set}

-- the least number below n that is in the set, and n where none is
unfoldable pub least : Set → ℕ → ℕ
least a zero = zero
least a (suc n) = cond (a zero) zero (suc (least (λ k. a (suc k)) n))
