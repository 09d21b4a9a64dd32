-- Every node that columns hold is reached from the last. Assumes nothing.
use mathlib.Core.Path.{◌≡◌, subst}
use mathlib.Core.List.{List}
use Prim.Native.Nat.{ℕ, zero, suc, ◌+◌, ◌<◌, ◌≤◌}
use native.Mathlib.Omega.{arith}
use native.Mathlib.Decide.{dec_lt}
use lib.ListN.{length, get_or}
use Rattle.paper.specs.declared.Node.TheVariants.{ListEnd}
use Rattle.paper.specs.Record.{Sort}
use Rattle.paper.specs.Shape.{references}
use Rattle.paper.proofs.Walks.{all_at}
use Rattle.paper.proofs.WellFormed.{WellFormed, mentioned}
use Rattle.record.specs.Stored.{held, Formed}
use Rattle.known.specs.Rows.{Refers, Reaches, here, by}

reached_on : {columns : List ℕ} {i p k : ℕ} → Reaches columns i p → Refers columns p k → Reaches columns i k
reached_on here r = by r here
reached_on (by q s) r = by q (reached_on s r)

module _ (columns : List ℕ) (form : Formed columns) (i : ℕ) (last : length (held columns) ≡ i + 1) where
  abbrev formed : WellFormed (record { names = form.names; nodes = held columns })
  formed = form.formed

  -- the node that refers to it
  parent : (k : ℕ) → k < i → (p : ℕ) × (k < p) × (p ≤ i) × Refers columns p k
  parent k h =
      let one = formed.once k (omega arith) in
      let r = mentioned k (held columns) (omega arith) in
      let inside = r.1 in
      let above = all_at (λ (q : Sort × ℕ). q.1 < r.0) (references (get_or (held columns) r.0 ListEnd)) (r.2.0, k) (formed.sound r.0 inside).below r.2.1 in
      (r.0, above, omega arith, r.2)

  steps : (n k : ℕ) → i ≤ k + n → k ≤ i → Reaches columns i k
  steps zero k far h = subst (Reaches columns i) (let z : i ≡ k = omega arith in z) here
  steps (suc n) k far h = go (λ p above. steps n p above) (dec_lt k i)
    where
      go : ((p : ℕ) → i ≤ p + n → p ≤ i → Reaches columns i p) → Dec (k < i) → Reaches columns i k
      go higher (yes l) = let r = parent k l in let a = r.1 in let b = r.2 in reached_on (higher r.0 (omega arith) (omega arith)) r.3
      go higher (no l) = subst (Reaches columns i) (let z : i ≡ k = omega arith in z) here

  pub every_reached : (k : ℕ) → k < length (held columns) → Reaches columns i k
  every_reached k h = steps i k (omega arith) (omega arith)
