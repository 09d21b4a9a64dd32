-- `heads::head_of` tells a node that may stand by one test, and asks for any other. Assumes nothing.
use mathlib.Core.Path.{◌≡◌}
use mathlib.Core.Bool.{Bool, true, ◌&&◌}
use Prim.Native.Nat.{ℕ, ◌<◌, ◌≤◌}
use native.Mathlib.Omega.{arith}
use lib.Dec.{eqb, ltb, leb}
use borrow.Author.Tests.{le-leb, lt-leb, eqb-true, ltb-true, leb-true}
use Rattle.std.specs.Prelude.{Ok}
use Rattle.memory.specs.declared.Row.{Row}
use Rattle.memory.specs.declared.Head.TheVariants.{Node}
use Rattle.memory.specs.Heads.{head_by, order_by, full_by, Headed}
use Rattle.memory.proofs.Unnamed.{and_left, and_right}
use Rattle.heads.proofs.heads.head_of.Goals as goal

node : (row : Row) (left : ℕ) (begun : Bool) (names nodes : ℕ) → row.class ≡ 3 → begun ≡ true → nodes < 512 → row.len ≤ left → Headed row left begun names nodes (Ok Node)
unfolding head_by order_by full_by
node row left begun names nodes c b n l = record { is = rw (c, b, le-leb _ _ l, lt-leb _ _ n); allows = (c, n) }

-- what the test says
stands : (class len left nodes : ℕ) (begun : Bool) → ((eqb class 3 && begun) && (ltb nodes 512 && leb len left)) ≡ true
    → (class ≡ 3) × (begun ≡ true) × (nodes < 512) × (len ≤ left)
stands class len left nodes begun e =
    let p = and_left (eqb class 3 && begun) (ltb nodes 512 && leb len left) e in
    let q = and_right (eqb class 3 && begun) (ltb nodes 512 && leb len left) e in (
      eqb-true class 3 (and_left (eqb class 3) begun p),
      and_right (eqb class 3) begun p,
      ltb-true nodes 512 (and_left (ltb nodes 512) (leb len left) q),
      leb-true len left (and_right (ltb nodes 512) (leb len left) q),
    )

pub returns-then-class-begun : goal.returns-then-class-begun
returns-then-class-begun c =
    let s = c.args in
    let t = stands s.row.class c.from-len.result s.left s.nodes s.begun c.if-class-begun.true in
    let fits = t.3 in
    let long = c.from-len.ensures in
    node s.row s.left s.begun s.names s.nodes t.0 t.1 t.2 (omega (arith, fits, long))

pub returns : goal.returns
returns c = c.any_head.ensures
