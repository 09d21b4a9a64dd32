-- The laws of one word's bits, each over every bit's place, and of two words that stand for a set, each over the width. Assumes nothing.
use mathlib.Core.Path.{◌≡◌, refl, sym, ap, ap₂, ◌∙◌, fun_ext, subst}
use mathlib.Core.Bool.{Bool, true, false, cond, not, ◌&&◌, ◌||◌, and-true, false≢true}
use Prim.Native.Nat.{ℕ, zero, suc, ◌+◌, ◌-◌, ◌*◌, ◌/◌, ◌%◌, ◌^◌, ◌≤◌, ◌<◌}
use native.Mathlib.Nat.{lt_of_lt_of_le, lt_of_le_of_lt, le_of_eq, zero-div, mod-lt, zero-lt-suc, not-suc-le-zero, le_of_suc-le-suc, div-eq_of_lt, mul-mod_left, pow-suc, one-mul}
use native.Mathlib.Omega.{arith}
use native.Mathlib.Decide.{ℕ_discrete, dec_lt}
use lib.Dec.{eqb, ltb, lit<}
use lib.Bits.{bit_and, bit_or, bit_xor, and_shr, or_shr, xor_shr, and_mod, or_mod, xor_mod, and_mask}
use lib.Pow.{high, low, shr_lt, split, pow_pos, pow_mono, pow-lt, pow-add, shl-shr, shl_exact}
use borrow.Author.Tests.{eq-eqb, ne_eqb, lt-ltb, le-ltb, not-true}
use Rattle.paper.proofs.SetLaws.{all_get, all_put}
use Rattle.names.specs.Words.{bit, both, mem}
use Rattle.paper.specs.Sets.{Set, none, only, ◌∪◌, ◌∩◌, ◌∖◌, outside, all_below}
use Rattle.names.specs.declared.Names.{Names}

-- what holds of 0 and of 1 holds of every digit
digit : (P : ℕ → Type 0) → P 0 → P 1 → (x : ℕ) → x < 2 → P x
digit P p q zero h = p
digit P p q (suc zero) h = q
digit P p q (suc (suc x)) h = absurd (not-suc-le-zero (le_of_suc-le-suc (le_of_suc-le-suc h)))

-- an operation that goes digit by digit: its bits are the operation on the bits
module _ (op : ℕ → ℕ → ℕ) (f : Bool → Bool → Bool)
    (shr : (a b k : ℕ) → op a b / 2 ^ k ≡ op (a / 2 ^ k) (b / 2 ^ k))
    (mods : (a b k : ℕ) → op a b % 2 ^ k ≡ op (a % 2 ^ k) (b % 2 ^ k))
    (digits : (x : ℕ) → x < 2 → (y : ℕ) → y < 2 → eqb (op x y) 1 ≡ f (eqb x 1) (eqb y 1)) where
  bit_op : (a b k : ℕ) → bit (op a b) k ≡ f (bit a k) (bit b k)
  unfolding bit
  bit_op a b k =
      ap (λ (x : ℕ). eqb x 1) (ap (λ (x : ℕ). x % 2) (shr a b k) ∙ mods (a / 2 ^ k) (b / 2 ^ k) 1)
      ∙ digits (a / 2 ^ k % 2) (mod-lt (a / 2 ^ k) (zero-lt-suc 1)) (b / 2 ^ k % 2) (mod-lt (b / 2 ^ k) (zero-lt-suc 1))

digits_by : (op : ℕ → ℕ → ℕ) (f : Bool → Bool → Bool)
    → (eqb (op 0 0) 1 ≡ f false false) → (eqb (op 0 1) 1 ≡ f false true) → (eqb (op 1 0) 1 ≡ f true false) → (eqb (op 1 1) 1 ≡ f true true)
    → (x : ℕ) → x < 2 → (y : ℕ) → y < 2 → eqb (op x y) 1 ≡ f (eqb x 1) (eqb y 1)
digits_by op f p q r s =
    digit (λ x. (y : ℕ) → y < 2 → eqb (op x y) 1 ≡ f (eqb x 1) (eqb y 1))
    (digit (λ y. eqb (op 0 y) 1 ≡ f false (eqb y 1)) p q)
    (digit (λ y. eqb (op 1 y) 1 ≡ f true (eqb y 1)) r s)

pub bit_of_or : (a b k : ℕ) → bit (bit_or a b) k ≡ (bit a k || bit b k)
bit_of_or = bit_op bit_or ◌||◌ or_shr or_mod (digits_by bit_or ◌||◌ refl refl refl refl)

pub bit_of_and : (a b k : ℕ) → bit (bit_and a b) k ≡ (bit a k && bit b k)
bit_of_and = bit_op bit_and ◌&&◌ and_shr and_mod (digits_by bit_and ◌&&◌ refl refl refl refl)

apart : Bool → Bool → Bool
apart true b = not b
apart false b = b

bit_of_xor : (a b k : ℕ) → bit (bit_xor a b) k ≡ apart (bit a k) (bit b k)
unfolding apart
bit_of_xor = bit_op bit_xor apart xor_shr xor_mod (digits_by bit_xor apart refl refl refl refl)

abbrev less : Bool → Bool → Bool
less a b = a && not b

apart_and : (a b : Bool) → apart a (a && b) ≡ less a b
unfolding apart
apart_and true b = refl
apart_and false b = refl

bit_less : (a b k : ℕ) → bit (bit_xor a (bit_and a b)) k ≡ less (bit a k) (bit b k)
bit_less a b k = bit_of_xor a (bit_and a b) k ∙ ap (apart (bit a k)) (bit_of_and a b k) ∙ apart_and (bit a k) (bit b k)

pub bit_zero : (k : ℕ) → bit 0 k ≡ false
unfolding bit
bit_zero k = ap (λ (x : ℕ). eqb (x % 2) 1) (zero-div (2 ^ k))

-- a one at place n: at n, below it and above it
one_at : (n : ℕ) → bit (1 * 2 ^ n) n ≡ true
unfolding bit
one_at n = ap (λ (x : ℕ). eqb (x % 2) 1) (shl-shr 1 n)

one_below : (n k : ℕ) → k < n → bit (1 * 2 ^ n) k ≡ false
unfolding bit
one_below n k h =
    let d : ℕ = n - suc k in
    let e : n ≡ suc d + k = omega arith in
    let p : 1 * 2 ^ n ≡ (2 ^ d * 2) * 2 ^ k = one-mul (2 ^ n) ∙ ap (λ (x : ℕ). 2 ^ x) e ∙ pow-add 2 (suc d) k ∙ ap (λ (x : ℕ). x * 2 ^ k) (pow-suc 2 d) in
    ap (λ (x : ℕ). eqb (x % 2) 1) (ap (λ (x : ℕ). x / 2 ^ k) p ∙ shl-shr (2 ^ d * 2) k) ∙ ap (λ (x : ℕ). eqb x 1) (mul-mod_left (2 ^ d) 2)

one_above : (n k : ℕ) → n < k → bit (1 * 2 ^ n) k ≡ false
unfolding bit
one_above n k h = ap (λ (x : ℕ). eqb (x % 2) 1) (ap (λ (x : ℕ). x / 2 ^ k) (one-mul (2 ^ n)) ∙ div-eq_of_lt (pow-lt h))

bit_one : (n k : ℕ) → bit (1 * 2 ^ n) k ≡ eqb k n
bit_one n k = go (dec_lt k n) (dec_lt n k)
  where
    go : Dec (k < n) → Dec (n < k) → bit (1 * 2 ^ n) k ≡ eqb k n
    go (yes h) d = one_below n k h ∙ sym (ne_eqb k n (omega arith))
    go (no h) (yes g) = one_above n k g ∙ sym (ne_eqb k n (omega arith))
    go (no h) (no g) = let e : k ≡ n = omega arith in ap (bit (1 * 2 ^ n)) e ∙ one_at n ∙ sym (eq-eqb k n e)

-- ---- no bit is past a word's width, and a word without bits is 0

bit_past : (w n k : ℕ) → w < 2 ^ n → n ≤ k → bit w k ≡ false
unfolding bit
bit_past w n k h g = ap (λ (x : ℕ). eqb (x % 2) 1) (div-eq_of_lt (lt_of_lt_of_le h (pow_mono g)))

-- the highest bit is 0: the word fits one bit less
fits_less : (w n : ℕ) → w < 2 ^ suc n → bit w n ≡ false → w < 2 ^ n
unfolding bit
fits_less w n h e =
    go (w / 2 ^ n) refl (shr_lt 1 n (subst (λ (x : ℕ). w < 2 ^ x) (let d : suc n ≡ 1 + n = omega arith in d) h))
  where
    go : (q : ℕ) → w / 2 ^ n ≡ q → w / 2 ^ n < 2 → w < 2 ^ n
    go zero p g = lt_of_le_of_lt (le_of_eq (sym (split w n) ∙ ap (λ (x : ℕ). x * 2 ^ n + w % 2 ^ n) p ∙ zero_mul_add)) (mod-lt w (pow_pos n))
      where
        zero_mul_add : 0 * 2 ^ n + w % 2 ^ n ≡ w % 2 ^ n
        zero_mul_add = omega arith
    go (suc zero) p g = absurd (false≢true (sym e ∙ ap (λ (x : ℕ). eqb (x % 2) 1) p))
    go (suc (suc q)) p g = absurd (omega arith)

pub no_bit : (n w : ℕ) → w < 2 ^ n → ((k : ℕ) → k < n → bit w k ≡ false) → w ≡ 0
no_bit zero w h f = omega arith
no_bit (suc n) w h f = no_bit n w (fits_less w n h (f n (omega arith))) (λ k l. f k (omega arith))

-- a bit is read by a shift and a mask
pub bit_read : (x n : ℕ) → eqb (bit_and (x / 2 ^ n) 1) 1 ≡ bit x n
unfolding bit
bit_read x n = ap (λ (y : ℕ). eqb y 1) (and_mask (x / 2 ^ n) 1)

-- ---- two words of a width

cond_op : (f : Bool → Bool → Bool) (t a b c d : Bool) → cond t (f a b) (f c d) ≡ f (cond t a c) (cond t b d)
cond_op f true a b c d = refl
cond_op f false a b c d = refl

module _ (w : ℕ) where
  pub in_low : (low high k : ℕ) → k < w → both w low high k ≡ bit low k
  unfolding both
  in_low low high k h = ap (λ t. cond t (bit low k) (bit high (k - w))) (lt-ltb k w h)

  pub in_high : (low high k : ℕ) → w ≤ k → both w low high k ≡ bit high (k - w)
  unfolding both
  in_high low high k h = ap (λ t. cond t (bit low k) (bit high (k - w))) (le-ltb k w h)

  pub from_high : (low high k : ℕ) → both w low high (w + k) ≡ bit high k
  from_high low high k = let d : (w + k) - w ≡ k = omega arith in in_high low high (w + k) (omega arith) ∙ ap (bit high) d

  -- an operation that goes bit by bit goes name by name
  both_op : (op : ℕ → ℕ → ℕ) (f : Bool → Bool → Bool) → ((a b k : ℕ) → bit (op a b) k ≡ f (bit a k) (bit b k))
      → (a b c d k : ℕ) → both w (op a b) (op c d) k ≡ f (both w a c k) (both w b d k)
  unfolding both
  both_op op f law a b c d k = ap₂ (cond (ltb k w)) (law a b k) (law c d (k - w)) ∙ cond_op f (ltb k w) _ _ _ _

  both_none : both w 0 0 ≡ none
  unfolding both none
  both_none = fun_ext (λ k. ap₂ (cond (ltb k w)) (bit_zero k) (bit_zero (k - w)) ∙ same (ltb k w))
    where
      same : (t : Bool) → cond t false false ≡ false
      same true = refl
      same false = refl

  -- two words stand for a set if each of them says of each of its places whether the set has it
  both_is : (a : Set) (low high : ℕ) → ((k : ℕ) → k < w → bit low k ≡ a k) → ((k : ℕ) → bit high k ≡ a (w + k)) → both w low high ≡ a
  both_is a low high f g = fun_ext (λ k. go k (dec_lt k w))
    where
      go : (k : ℕ) → Dec (k < w) → both w low high k ≡ a k
      go k (yes h) = in_low low high k h ∙ f k h
      go k (no h) =
          let l : w ≤ k = omega arith in
          let e : w + (k - w) ≡ k = omega arith in
          in_high low high k l ∙ g (k - w) ∙ ap a e

  -- a shift of 1 by less than the width loses nothing
  bit_shl : (n k : ℕ) → n < w → bit (1 * 2 ^ n % 2 ^ w) k ≡ eqb k n
  bit_shl n k h = ap (λ (x : ℕ). bit x k) (shl_exact 1 n w (lit< tt) (omega arith)) ∙ bit_one n k

  only_low : (n : ℕ) → n < w → both w (1 * 2 ^ n % 2 ^ w) 0 ≡ only n
  unfolding only
  only_low n h = both_is (only n) _ 0 (λ k l. bit_shl n k h) (λ k. bit_zero k ∙ sym (ne_eqb (w + k) n (omega arith)))

  -- and by the place of a high name in its word
  bit_shl_high : (n k : ℕ) → w ≤ n → n < w + w → bit (1 * 2 ^ (n - w) % 2 ^ w) k ≡ eqb (w + k) n
  bit_shl_high n k h g = bit_shl (n - w) k (omega arith) ∙ moved (ℕ_discrete k (n - w))
    where
      moved : Dec (k ≡ n - w) → eqb k (n - w) ≡ eqb (w + k) n
      moved (yes e) = eq-eqb k (n - w) e ∙ sym (eq-eqb (w + k) n (omega arith))
      moved (no e) = ne_eqb k (n - w) e ∙ sym (ne_eqb (w + k) n (λ d. e (omega arith)))

  only_high : (n : ℕ) → w ≤ n → n < w + w → both w 0 (1 * 2 ^ (n - w) % 2 ^ w) ≡ only n
  unfolding only
  only_high n h g = both_is (only n) 0 _ (λ k l. bit_zero k ∙ sym (ne_eqb k n (omega arith))) (λ k. bit_shl_high n k h g)

  -- one name less: its bit goes out of its word, and the other word stays
  module _ (low high n : ℕ) where
    out_low : n < w → both w (bit_xor low (bit_and low (1 * 2 ^ n % 2 ^ w))) high ≡ both w low high ∖ only n
    unfolding ◌∖◌ only
    out_low h =
        both_is (both w low high ∖ only n) _ high
        (λ k l. bit_less low _ k ∙ ap₂ less (sym (in_low low high k l)) (bit_shl n k h))
        (λ k. sym (ap₂ less (from_high low high k) (ne_eqb (w + k) n (omega arith)) ∙ and-true (bit high k)))

    out_high : w ≤ n → n < w + w → both w low (bit_xor high (bit_and high (1 * 2 ^ (n - w) % 2 ^ w))) ≡ both w low high ∖ only n
    unfolding ◌∖◌ only
    out_high h g =
        both_is (both w low high ∖ only n) low _
        (λ k l. sym (ap₂ less (in_low low high k l) (ne_eqb k n (omega arith)) ∙ and-true (bit low k)))
        (λ k. bit_less high _ k ∙ ap₂ less (sym (from_high low high k)) (bit_shl_high n k h g))

  module _ (low high : ℕ) (h : high < 2 ^ w) where
    both_past : (k : ℕ) → w + w ≤ k → both w low high k ≡ false
    both_past k g = in_high low high k (omega arith) ∙ bit_past high w (k - w) h (omega arith)

    module _ (l : low < 2 ^ w) where
      low_zero : ((k : ℕ) → k < w + w → both w low high k ≡ false) → low ≡ 0
      low_zero f = no_bit w low l (λ k g. sym (in_low low high k g) ∙ f k (omega arith))

      high_zero : ((k : ℕ) → k < w + w → both w low high k ≡ false) → high ≡ 0
      high_zero f = no_bit w high h (λ k g. sym (from_high low high k) ∙ f (w + k) (omega arith))

      both_empty : (eqb low 0 && eqb high 0) ≡ all_below (w + w) (outside (both w low high))
      unfolding outside none
      both_empty = go (ℕ_discrete low 0) (ℕ_discrete high 0) (all_below (w + w) (outside (both w low high))) refl
        where
          absent : all_below (w + w) (outside (both w low high)) ≡ true → (k : ℕ) → k < w + w → both w low high k ≡ false
          absent e k g = not-true (both w low high k) (all_get (w + w) (outside (both w low high)) e k g)

          go : Dec (low ≡ 0) → Dec (high ≡ 0) → (b : Bool) → all_below (w + w) (outside (both w low high)) ≡ b
              → (eqb low 0 && eqb high 0) ≡ all_below (w + w) (outside (both w low high))
          go (yes p) (yes q) b e =
              ap₂ ◌&&◌ (eq-eqb low 0 p) (eq-eqb high 0 q)
              ∙ sym (ap (λ (a : Set). all_below (w + w) (outside a)) (ap₂ (both w) p q ∙ both_none) ∙ all_put (w + w) (outside none) (λ k g. refl))
          go (no p) d true e = absurd (p (low_zero (absent e)))
          go (no p) d false e = ap (λ (x : Bool). x && eqb high 0) (ne_eqb low 0 p) ∙ sym e
          go (yes p) (no q) true e = absurd (q (high_zero (absent e)))
          go (yes p) (no q) false e = ap₂ ◌&&◌ (eq-eqb low 0 p) (ne_eqb high 0 q) ∙ sym e

-- ---- the set of 128 names: the laws above at 64

pub mem_none : mem (record { lo = 0; hi = 0 }) ≡ none
unfolding mem
mem_none = both_none 64

pub mem_union : (a b : Names) → mem (record { lo = bit_or a.lo b.lo; hi = bit_or a.hi b.hi }) ≡ mem a ∪ mem b
unfolding mem ◌∪◌
mem_union a b = fun_ext (both_op 64 bit_or ◌||◌ bit_of_or a.lo b.lo a.hi b.hi)

pub mem_common : (a b : Names) → mem (record { lo = bit_and a.lo b.lo; hi = bit_and a.hi b.hi }) ≡ mem a ∩ mem b
unfolding mem ◌∩◌
mem_common a b = fun_ext (both_op 64 bit_and ◌&&◌ bit_of_and a.lo b.lo a.hi b.hi)

pub mem_minus : (a b : Names) → mem (record { lo = bit_xor a.lo (bit_and a.lo b.lo); hi = bit_xor a.hi (bit_and a.hi b.hi) }) ≡ mem a ∖ mem b
unfolding mem ◌∖◌
mem_minus a b = fun_ext (both_op 64 (λ x y. bit_xor x (bit_and x y)) less bit_less a.lo b.lo a.hi b.hi)

pub mem_low : (n : ℕ) → n < 64 → mem (record { lo = 1 * 2 ^ n % 2 ^ 64; hi = 0 }) ≡ only n
unfolding mem
mem_low = only_low 64

pub mem_high : (n : ℕ) → 64 ≤ n → n < 128 → mem (record { lo = 0; hi = 1 * 2 ^ (n - 64) % 2 ^ 64 }) ≡ only n
unfolding mem
mem_high = only_high 64

pub mem_out_low : (s : Names) (n : ℕ) → n < 64 → mem (record { lo = bit_xor s.lo (bit_and s.lo (1 * 2 ^ n % 2 ^ 64)); hi = s.hi }) ≡ mem s ∖ only n
unfolding mem
mem_out_low s = out_low 64 s.lo s.hi

pub mem_out_high : (s : Names) (n : ℕ) → 64 ≤ n → n < 128
    → mem (record { lo = s.lo; hi = bit_xor s.hi (bit_and s.hi (1 * 2 ^ (n - 64) % 2 ^ 64)) }) ≡ mem s ∖ only n
unfolding mem
mem_out_high s = out_high 64 s.lo s.hi

pub has_low : (s : Names) (n : ℕ) → n < 64 → eqb (bit_and (s.lo / 2 ^ n) 1) 1 ≡ mem s n
unfolding mem
has_low s n h = bit_read s.lo n ∙ sym (in_low 64 s.lo s.hi n h)

pub has_high : (s : Names) (n : ℕ) → 64 ≤ n → eqb (bit_and (s.hi / 2 ^ (n - 64)) 1) 1 ≡ mem s n
unfolding mem
has_high s n h = bit_read s.hi (n - 64) ∙ sym (in_high 64 s.lo s.hi n h)

pub mem_past : (s : Names) (k : ℕ) → s.hi < 2 ^ 64 → 128 ≤ k → false ≡ mem s k
unfolding mem
mem_past s k h g = sym (both_past 64 s.lo s.hi h k g)

pub mem_empty : (s : Names) → s.lo < 2 ^ 64 → s.hi < 2 ^ 64 → (eqb s.lo 0 && eqb s.hi 0) ≡ all_below 128 (outside (mem s))
unfolding mem
mem_empty s l h = both_empty 64 s.lo s.hi h l
