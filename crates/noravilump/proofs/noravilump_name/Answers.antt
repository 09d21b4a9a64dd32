-- `noravilump_name` tells a known number by its name's length, and says where the name stands.
use mathlib.Core.Path.{◌≡◌, sym, ap, ap₂, ◌∙◌}
use Prim.Native.Nat.{ℕ, zero, suc, ◌+◌, ◌*◌, ◌<◌}
use native.Mathlib.Omega.{arith}
use lib.ListN.{length, take, drop}
use Rattle.noravilump.specs.Stretched.{stretch}
use Rattle.noravilump.proofs.Stretches.{stretch_known, stretch_unknown, stretch_holds, stretch_empty}
use Rattle.noravilump.proofs.noravilump_name.Goals as goal

some : {a b : ℕ} → a ≡ b → (a ≡ 0 → ⊥) → 0 < b
some {a} {b} e f = go b e
  where
    go : (n : ℕ) → a ≡ n → 0 < n
    go zero e = absurd (f e)
    go (suc n) e = omega arith

pub returns-then-len-eq0 : goal.returns-then-len-eq0
returns-then-len-eq0 c =
    let e = sym (ap length c.name-found.ensures) ∙ c.if-len-eq0.true in
    (sym (ap stretch (stretch_unknown _ _ e)), stretch_empty _ _ e)

pub returns : goal.returns
returns c =
    let bytes = c.args.bytes in
    let n = ap length c.name-found.ensures in
    let h = some n c.if-len-eq0.false in (
      ap₂ (λ (x l : ℕ). stretch (record { at = 3 + 25 * x; len = l })) c.from.ensures n ∙ sym (ap stretch (stretch_known _ _ h)),
      ap₂ (λ (x l : ℕ). take l (drop (3 + 25 * x) bytes.now)) c.from.ensures n ∙ stretch_holds _ _ h,
    )
