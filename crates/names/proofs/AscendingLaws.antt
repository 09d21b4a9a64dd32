-- The names of a set one after the other: none where there is no least name, and otherwise the least, then those of the set without it. Assumes nothing.
use mathlib.Core.Path.{◌≡◌, ap}
use mathlib.Core.List.{[], ◌∷◌, map}
use Prim.Native.Nat.{ℕ, ◌<◌}
use native.Mathlib.Omega.{arith}
use Rattle.paper.specs.Record.{name_no}
use Rattle.paper.specs.Sets.{Set, only, ◌∖◌}
use Rattle.paper.proofs.SetLaws.{members_none}
use Rattle.names.specs.Least.{least}
use Rattle.names.specs.Ascending.{ascending}
use Rattle.names.proofs.LeastLaws.{least_below, members_least}

pub ascending_none : (s : Set) → least s 128 ≡ 128 → ascending s ≡ []
ascending_none s e = ap (map name_no) (members_none s 128 (λ k h. least_below s 128 k (omega arith)))

pub ascending_first : (s : Set) {x : ℕ} {t : Set} → x < 128 → x ≡ least s 128 → t ≡ s ∖ only x → ascending s ≡ name_no x ∷ ascending t
ascending_first s h d e = rw (e, d) (ap (map name_no) (members_least s 128 (omega arith)))
