-- `most_entries` does not overflow, since a record has few names and few nodes. Assumes nothing.
use Prim.Native.Nat.{ℕ, ◌+◌, ◌*◌, ◌≤◌}
use native.Mathlib.Omega.{arith}
use native.Mathlib.Nat.{le_trans, mul-le-mul_left, mul-le-mul_right}
use Rattle.accepted.proofs.most_entries.Goals as goal

few : (names nodes : ℕ) → names ≤ 128 → nodes ≤ 512 → names * (nodes + 1) ≤ 128 * 513
few names nodes n k = le_trans (mul-le-mul_right {m = names} {n = 128} (nodes + 1) n) (mul-le-mul_left {m = nodes + 1} {n = 513} 128 (omega (arith, k)))

pub overflow_mul-result-2 : goal.overflow_mul-result-2
overflow_mul-result-2 c = let f = few c.args.names c.args.nodes c.requires.0 c.requires.1 in record { fits = omega arith }

pub overflow_add-result-2 : goal.overflow_add-result-2
overflow_add-result-2 c = let f = few c.args.names c.args.nodes c.requires.0 c.requires.1 in let k = c.requires.1 in record { fits = omega arith }
