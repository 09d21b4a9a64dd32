-- Two sets of names have none in common where the set of their common names is empty, and no name is left where one is within the other. Assumes nothing.
use mathlib.Core.Path.{◌≡◌, refl, sym, ap, ◌∙◌}
use mathlib.Core.Bool.{Bool, true, false, not, ◌&&◌, true≢false}
use Prim.Native.Nat.{ℕ, ◌<◌, ◌^◌}
use native.Mathlib.Omega.{arith}
use native.Mathlib.Decide.{dec_lt}
use Rattle.paper.specs.Sets.{Set, ◌∩◌, outside, all_below}
use Rattle.paper.proofs.SetLaws.{all_get}
use Rattle.names.specs.declared.Names.{Names}
use Rattle.names.specs.Words.{mem}
use Rattle.names.specs.Least.{least}
use Rattle.names.specs.Apart.{Apart}
use Rattle.names.proofs.Bits.{mem_past}
use Rattle.names.proofs.LeastLaws.{least_within, some_least}

module _ (a : Names) (b : Set) (small : a.hi < 2 ^ 64) where
  in_table : (k : ℕ) → mem a k ≡ true → k < 128
  in_table k e = go (dec_lt k 128)
    where
      go : Dec (k < 128) → k < 128
      go (yes h) = h
      go (no h) = absurd (true≢false (sym e ∙ sym (mem_past a k small (omega arith))))

  pub is_apart : {said : Bool} → said ≡ all_below 128 (outside (mem a ∩ b)) → Apart said (mem a) b
  unfolding ◌∩◌ outside
  is_apart {said} e =
      record {
        yes = λ d k g. out (b k) (ap (λ (x : Bool). not (x && b k)) (sym g) ∙ all_get 128 (outside (mem a ∩ b)) (sym e ∙ d) k (in_table k g));
        no = λ d.
            let m = least_within (mem a ∩ b) 128 (some_least (mem a ∩ b) 128 (sym e ∙ d)) in
            let k = least (mem a ∩ b) 128 in
            let p = both (mem a k) (b k) m in
            (k, p.0, p.1);
      }
    where
      out : (x : Bool) → not x ≡ true → x ≡ false
      out true d = absurd (true≢false (sym d))
      out false d = refl

      both : (x y : Bool) → (x && y) ≡ true → (x ≡ true) × (y ≡ true)
      both true y d = (refl, d)
      both false y d = absurd (true≢false (sym d))

-- a set that has no name of the table has none
pub empty_everywhere : (a : Names) → a.hi < 2 ^ 64 → all_below 128 (outside (mem a)) ≡ true → (k : ℕ) → mem a k ≡ false
unfolding outside
empty_everywhere a small e k = go (dec_lt k 128)
  where
    out : (x : Bool) → not x ≡ true → x ≡ false
    out true d = absurd (true≢false (sym d))
    out false d = refl

    go : Dec (k < 128) → mem a k ≡ false
    go (yes h) = out (mem a k) (all_get 128 (outside (mem a)) e k h)
    go (no h) = sym (mem_past a k small (omega arith))
