-- The end record over the arrays says what the definitions say of it. Assumes nothing.
use mathlib.Core.Path.{◌≡◌, refl, ap₂}
use mathlib.Core.Bool.{Bool, true, false, not, ◌&&◌}
use mathlib.Core.List.{List}
use Prim.Native.Nat.{ℕ, zero, suc, ◌+◌, ◌-◌, ◌<◌, ◌≤◌}
use native.Mathlib.Omega.{arith}
use native.Mathlib.Numerals.{add-one}
use lib.Dec.{eqb}
use lib.ListN.{length, get_or, length-map}
use Rattle.paper.specs.Sets.{Set, all_below}
use Rattle.paper.specs.Record.{pick, condition, fits, two_bytes}
use Rattle.paper.specs.TurnedAway.{Seen, unseen, SoFar, Outcome, verdict, read_end}
use Rattle.memory.specs.Fields.{Marks, Shows}
use Rattle.memory.specs.Ends.{marks, rooted_in, ended_in}

-- ---- all below a number

pub all_next : (i : ℕ) (a : Set) {t : Bool} → t ≡ all_below i a → (a i && t) ≡ all_below (i + 1) a
unfolding all_below
all_next i a e = rw (add-one, e)

all_same : (n : ℕ) (a b : Set) → ((k : ℕ) → k < n → a k ≡ b k) → all_below n a ≡ all_below n b
unfolding all_below
all_same zero a b h = refl
all_same (suc n) a b h = ap₂ ◌&&◌ (h n (omega arith)) (all_same n a b (λ k l. h k (omega arith)))

-- ---- the end

verdict_pick : (t : Bool) (a b : Outcome) → verdict (pick t a b) ≡ pick t (verdict a) (verdict b)
verdict_pick true a b = refl
verdict_pick false a b = refl

pub end_said : (b : List ℕ) (so : SoFar) (ks ds used : List ℕ) → Shows so.nodes ks ds → Marks used so.used → length so.nodes ≤ 512
    → ended_in b so.at (length so.names) (length so.nodes) ks used ≡ verdict (read_end b so)
unfolding ended_in rooted_in read_end verdict
end_said b so ks ds used s m h =
    let n = length so.nodes in
    rw (
      verdict_pick (eqb (two_bytes b) (length so.nodes) && eqb (length b) 2),
      verdict_pick (not (eqb (length so.nodes) 0) && (fits condition (get_or so.nodes (length so.nodes - 1) unseen).kind && all_below (length so.nodes - 1) so.used)),
      s.kind (length so.nodes - 1),
      all_same (length so.nodes - 1) (marks used) so.used (λ k l. m.mark k (omega arith)),
      length-map so.nodes (λ (z : Seen). z.node),
    )
