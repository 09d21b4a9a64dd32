use mathlib.Core.Path.{◌≡◌, sym, ap, ◌∙◌}
use Prim.Native.Nat.{ℕ, ◌+◌, ◌-◌}
use native.Mathlib.Omega.{arith}
use lib.ListN.{length, take, drop, length-drop, drop_of_length-le}
use lib.Seq.{take_all}
use Rattle.record.proofs.access.stretch.Goals as goal

pub returns-then-bytes-at : goal.returns-then-bytes-at
returns-then-bytes-at c = sym (ap (take 24) (drop_of_length-le c.args.bytes.now c.if-bytes-at.true))

pub returns-then-bytes-at-le24 : goal.returns-then-bytes-at-le24
returns-then-bytes-at-le24 c = let s = c.args.bytes.now in let a = c.args.at in take_all (length s - a) (drop a s) (simp length-drop (omega arith)) ∙ sym (take_all 24 (drop a s) (simp length-drop (omega arith)))

pub returns : goal.returns
returns c = let a = c.args.at in ap (λ (n : ℕ). take n (drop a c.args.bytes.now)) (let e : a + 24 - a ≡ 24 = omega arith in e)
