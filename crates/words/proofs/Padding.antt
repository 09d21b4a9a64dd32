-- A name without its padding is what stands before its first zero. Assumes nothing.
use mathlib.Core.Path.{◌≡◌, refl, ap}
use mathlib.Core.Bool.{Bool, true, false, not, cond}
use mathlib.Core.List.{List, [], ◌∷◌}
use Prim.Native.Nat.{ℕ, suc, ◌+◌}
use native.Mathlib.Omega.{arith}
use lib.Dec.{eqb}
use lib.ListN.{take}
use Rattle.std.proofs.lemmas.Grind.{common_steps}
use Rattle.std.proofs.Common.{Some, None}
use Rattle.std.specs.List.{position, position_or_len}
use Rattle.paper.specs.TheList.{trimmed}

abbrev zero : ℕ → Bool
zero x = eqb x 0

trimmed_is : (b : List ℕ) → take (position_or_len zero b) b ≡ trimmed b
unfolding trimmed
trimmed_is [] = refl
trimmed_is (x ∷ xs) = go (eqb x 0) (trimmed_is xs)
  where
    go : (z : Bool) → take (position_or_len zero xs) xs ≡ trimmed xs
        → take (cond (not z) (1 + position_or_len zero xs) 0) (x ∷ xs) ≡ elim z [ true ↦ [] | false ↦ x ∷ trimmed xs ]
    go true e = refl
    go false e = let h : 1 + position_or_len zero xs ≡ suc (position_or_len zero xs) = omega arith in rw h (ap (λ l. x ∷ l) e)

pub before_zero : (b : List ℕ) (n : ℕ) → position zero b ≡ Some n → take n b ≡ trimmed b
before_zero b n e = grind (arith, common_steps, trimmed_is b)

pub no_zero : (b : List ℕ) → position zero b ≡ None → b ≡ trimmed b
no_zero b e = grind (arith, common_steps, trimmed_is b)
