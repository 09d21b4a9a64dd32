-- `heads::any_head` meets its contract: each return has the tests that led to it. Assumes nothing.
use mathlib.Core.Path.{◌≡◌, sym, ◌∙◌}
use mathlib.Core.Bool.{Bool, true, false, ◌||◌}
use Prim.Native.Nat.{ℕ, ◌<◌, ◌≤◌}
use native.Mathlib.Omega.{arith}
use lib.Dec.{leb}
use borrow.Author.Tests.{le-leb, lt-leb, leb-false, eq-eqb, ne_eqb}
use Rattle.memory.specs.Heads.{head_by, order_by, full_by}
use Rattle.heads.proofs.heads.any_head.Goals as goal
use Rattle.heads.proofs.heads.any_head.Goals.{Else-full}

or_left : (a : Bool) → (a || false) ≡ false → a ≡ false
or_left true e = e
or_left false e = e

name_room : (names nodes : ℕ) → full_by 2 names nodes ≡ false → names < 128
unfolding full_by
name_room names nodes e = leb-false 128 names (or_left (leb 128 names) e)

node_room : (names nodes : ℕ) → full_by 3 names nodes ≡ false → nodes < 512
unfolding full_by
node_room names nodes e = leb-false 512 nodes e

-- what was passed on the way to the last match
module _ (c : Else-full) where
  in_order : order_by c.args.row.class c.args.begun c.args.nodes ≡ true
  in_order = sym c.order.ensures ∙ c.if-not-order.false

  uncut : c.args.row.len ≤ c.args.left
  uncut = rw c.from.ensures at c.if-left-from.false

  space : full_by c.args.row.class c.args.names c.args.nodes ≡ false
  space = sym c.full.ensures ∙ c.if-full.false

pub returns-then-not-order : goal.returns-then-not-order
unfolding head_by
returns-then-not-order c = record { is = simp (sym c.order.ensures ∙ c.if-not-order.true); allows = tt }

pub returns-then-left-from : goal.returns-then-left-from
unfolding head_by
returns-then-left-from c =
    let o = sym c.order.ensures ∙ c.if-not-order.false in
    let l = rw c.from.ensures at (lt-leb _ _ c.if-left-from.true) in
    record { is = simp (o, l); allows = tt }

pub returns-then-full : goal.returns-then-full
unfolding head_by
returns-then-full c =
    let o = sym c.order.ensures ∙ c.if-not-order.false in
    let l = rw c.from.ensures at (le-leb _ _ c.if-left-from.false) in
    record { is = simp (o, l, sym c.full.ensures ∙ c.if-full.true); allows = tt }

pub returns-in-1 : goal.returns-in-1
unfolding head_by
returns-in-1 c =
    record { is = simp (in_order (goal.at.returns-in-1 c).Else-full, le-leb _ _ (uncut (goal.at.returns-in-1 c).Else-full), space (goal.at.returns-in-1 c).Else-full, eq-eqb _ _ c.in-1.is); allows = c.in-1.is }

pub returns-in-2 : goal.returns-in-2
unfolding head_by
returns-in-2 c =
    let e = c.in-2.is in
    record {
      is = simp (in_order (goal.at.returns-in-2 c).Else-full, le-leb _ _ (uncut (goal.at.returns-in-2 c).Else-full), space (goal.at.returns-in-2 c).Else-full, ne_eqb c.args.row.class 1 (λ k. omega arith), eq-eqb _ _ e);
      allows = (e, uncut (goal.at.returns-in-2 c).Else-full, name_room _ _ (rw e at (space (goal.at.returns-in-2 c).Else-full)));
    }

pub returns-in-3 : goal.returns-in-3
unfolding head_by
returns-in-3 c =
    let e = c.in-3.is in
    record {
      is = simp (in_order (goal.at.returns-in-3 c).Else-full, le-leb _ _ (uncut (goal.at.returns-in-3 c).Else-full), space (goal.at.returns-in-3 c).Else-full, ne_eqb c.args.row.class 1 (λ k. omega arith), ne_eqb c.args.row.class 2 (λ k. omega arith), eq-eqb _ _ e);
      allows = (e, node_room _ _ (rw e at (space (goal.at.returns-in-3 c).Else-full)));
    }

pub returns-in_default : goal.returns-in_default
unfolding head_by
returns-in_default c =
    let m = c.in_default.in_default-own.rest in
    record { is = simp (in_order (goal.at.returns-in_default c).Else-full, le-leb _ _ (uncut (goal.at.returns-in_default c).Else-full), space (goal.at.returns-in_default c).Else-full, ne_eqb _ _ m.0.0.1, ne_eqb _ _ m.0.1, ne_eqb _ _ m.1); allows = tt }
