-- The least number of a set: of one word's bits it is the count of trailing zeros, over every width; of two words it is the low word's, or the high
-- word's where the low one has none; and it is the first of the set's members. Assumes nothing.
use mathlib.Core.Path.{◌≡◌, refl, sym, ap, ap₂, ◌∙◌, fun_ext}
use mathlib.Core.Bool.{Bool, true, false, not, cond, true≢false}
use mathlib.Core.List.{◌∷◌}
use Prim.Native.Nat.{ℕ, zero, suc, ◌+◌, ◌-◌, ◌/◌, ◌%◌, ◌^◌, ◌≤◌, ◌<◌}
use native.Mathlib.Nat.{mod-lt, zero-lt-suc, div-one, div-div-eq-div-mul, pow-succ'}
use native.Mathlib.Omega.{arith}
use native.Mathlib.Decide.{dec_lt}
use lib.Dec.{eqb}
use lib.Count.{count_trailing_zeros, under}
use Rattle.paper.specs.Sets.{Set, only, ◌∖◌, outside, all_below, members}
use Rattle.paper.proofs.SetLaws.{all_put, members_first}
use Rattle.names.specs.declared.Names.{Names}
use Rattle.names.specs.Words.{bit, both, mem}
use Rattle.names.specs.Least.{least}
use Rattle.names.proofs.Bits.{bit_zero, no_bit, in_low, in_high, from_high}

-- ---- of any set

pub least_most : (a : Set) (n : ℕ) → least a n ≤ n
unfolding least
least_most a zero = omega arith
least_most a (suc n) = go (a zero) (least_most (λ k. a (suc k)) n)
  where
    go : (b : Bool) {x : ℕ} → x ≤ n → cond b zero (suc x) ≤ suc n
    go true h = omega arith
    go false h = omega arith

-- no number below it is in the set
pub least_below : (a : Set) (n k : ℕ) → k < least a n → a k ≡ false
unfolding least
least_below a zero k h = absurd (omega arith)
least_below a (suc n) k h = go (a zero) refl k h (least_below (λ j. a (suc j)) n)
  where
    go : (b : Bool) → a zero ≡ b → (k : ℕ) → k < cond b zero (suc (least (λ j. a (suc j)) n)) → ((j : ℕ) → j < least (λ i. a (suc i)) n → a (suc j) ≡ false) → a k ≡ false
    go true e k h f = absurd (omega arith)
    go false e zero h f = e
    go false e (suc k) h f = f k (omega arith)

-- it is in the set, if it is not the bound
pub least_within : (a : Set) (n : ℕ) → least a n < n → a (least a n) ≡ true
unfolding least
least_within a zero h = absurd (omega arith)
least_within a (suc n) h = go (a zero) refl h (least_within (λ k. a (suc k)) n)
  where
    go : (b : Bool) {x : ℕ} → a zero ≡ b → cond b zero (suc x) < suc n → (x < n → a (suc x) ≡ true) → a (cond b zero (suc x)) ≡ true
    go true e h f = e
    go false e h f = f (omega arith)

-- and no other number is like that
least_is : (a : Set) (n x : ℕ) → x ≤ n → (x < n → a x ≡ true) → ((k : ℕ) → k < x → a k ≡ false) → least a n ≡ x
least_is a n x h e f = go (dec_lt (least a n) x) (dec_lt x (least a n))
  where
    most : least a n ≤ n
    most = least_most a n

    go : Dec (least a n < x) → Dec (x < least a n) → least a n ≡ x
    go (yes l) d = let m = most in absurd (true≢false (sym (least_within a n (omega arith)) ∙ f (least a n) l))
    go (no l) (yes g) = let m = most in absurd (true≢false (sym (e (omega arith)) ∙ least_below a n x g))
    go (no l) (no g) = omega arith

pub members_least : (a : Set) (n : ℕ) → least a n < n → members a n ≡ least a n ∷ members (a ∖ only (least a n)) n
members_least a n h = members_first a n (least a n) h (least_within a n h) (least_below a n)

-- a set with a number below the bound has a least one there
pub some_least : (a : Set) (n : ℕ) → all_below n (outside a) ≡ false → least a n < n
unfolding outside
some_least a n e = go (dec_lt (least a n) n)
  where
    go : Dec (least a n < n) → least a n < n
    go (yes h) = h
    go (no h) = absurd (true≢false (sym (all_put n (outside a) (λ k l. ap not (least_below a n k (omega arith)))) ∙ e))

-- ---- of a word's bits: the count of trailing zeros, over the width

bit_first : (x : ℕ) → bit x 0 ≡ eqb (x % 2) 1
unfolding bit
bit_first x = ap (λ (y : ℕ). eqb (y % 2) 1) (div-one x)

bit_half : (x k : ℕ) → bit x (suc k) ≡ bit (x / 2) k
unfolding bit
bit_half x k = ap (λ (y : ℕ). eqb (y % 2) 1) (ap (λ (y : ℕ). x / y) (pow-succ' 2 k) ∙ sym (div-div-eq-div-mul x 2 (2 ^ k)))

pub trailing : (w x : ℕ) → count_trailing_zeros w x ≡ least (bit x) w
unfolding count_trailing_zeros least
trailing zero x = refl
trailing (suc w) x =
    by_digit (x % 2) (count_trailing_zeros w (x / 2)) (mod-lt x (zero-lt-suc 1))
    ∙ ap₂ (λ (b : Bool) (t : ℕ). cond b zero (suc t)) (sym (bit_first x)) (trailing w (x / 2) ∙ ap (λ (a : Set). least a w) (fun_ext (λ k. sym (bit_half x k))))
  where
    by_digit : (d t : ℕ) → d < 2 → under d t ≡ cond (eqb d 1) zero (suc t)
    by_digit zero t h = refl
    by_digit (suc zero) t h = refl
    by_digit (suc (suc d)) t h = absurd (omega arith)

-- a word with a bit has a lowest one
pub some_bit : (w x : ℕ) → x < 2 ^ w → (x ≡ 0 → ⊥) → least (bit x) w < w
some_bit w x l d = go (dec_lt (least (bit x) w) w)
  where
    go : Dec (least (bit x) w < w) → least (bit x) w < w
    go (yes h) = h
    go (no h) = absurd (d (no_bit w x l (λ k g. least_below (bit x) w k (omega arith))))

pub no_least : (w : ℕ) → least (bit 0) w ≡ w
no_least w = least_is (bit 0) w w (omega arith) (λ h. absurd (omega arith)) (λ k h. bit_zero k)

-- ---- of two words

module _ (w low high : ℕ) where
  -- where the low word has a bit
  least_low : low < 2 ^ w → (low ≡ 0 → ⊥) → least (both w low high) (w + w) ≡ least (bit low) w
  least_low l d =
      let h = some_bit w low l d in
      least_is (both w low high) (w + w) (least (bit low) w) (omega arith)
      (λ g. in_low w low high _ h ∙ least_within (bit low) w h)
      (λ k g. in_low w low high k (omega arith) ∙ least_below (bit low) w k g)

  -- where it has none
  least_high : low ≡ 0 → least (both w low high) (w + w) ≡ w + least (bit high) w
  least_high e =
      let m = least_most (bit high) w in
      least_is (both w low high) (w + w) (w + least (bit high) w) (omega arith)
      (λ g. from_high w low high (least (bit high) w) ∙ least_within (bit high) w (omega arith))
      (λ k g. go k g (dec_lt k w))
    where
      go : (k : ℕ) → k < w + least (bit high) w → Dec (k < w) → both w low high k ≡ false
      go k g (yes h) = in_low w low high k h ∙ ap (λ (x : ℕ). bit x k) e ∙ bit_zero k
      go k g (no h) = in_high w low high k (omega arith) ∙ least_below (bit high) w (k - w) (omega arith)

-- ---- the set of 128 names: the laws above at 64

pub mem_least_low : (s : Names) → s.lo < 2 ^ 64 → (s.lo ≡ 0 → ⊥) → least (bit s.lo) 64 ≡ least (mem s) 128
unfolding mem
mem_least_low s l d = sym (least_low 64 s.lo s.hi l d)

pub mem_least_high : (s : Names) → s.lo ≡ 0 → 64 + least (bit s.hi) 64 ≡ least (mem s) 128
unfolding mem
mem_least_high s e = sym (least_high 64 s.lo s.hi e)
