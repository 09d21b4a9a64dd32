-- Bytes compared as one number: what one byte more adds to two numbers, and what a run of bytes in two names tells of them. Assumes nothing.
use mathlib.Core.Path.{◌≡◌, refl, ◌∙◌}
use mathlib.Core.Bool.{Bool, true, false, ◌&&◌, ◌||◌, and_assoc, or_assoc, and-or_distrib_left}
use mathlib.Core.List.{List, ◌∷◌}
use Prim.Native.Nat.{ℕ, zero, suc, ◌+◌, ◌*◌, ◌<◌}
use native.Mathlib.Nat.{add-suc}
use native.Mathlib.Numerals.{add-one}
use native.Mathlib.Omega.{arith}
use mir.Syntax.{w8}
use mir.Val.{Val}
use denote.Array.{Array}
use denote.Laws.{Is}
use denote.Plain.{UInt}
use borrow.Author.Rules.{elem_Fits}
use borrow.Author.Tests.{eqb-true, eqb-false, ltb-true, ltb-false, eq-eqb, ne_eqb, lt-ltb, le-ltb}
use lib.Dec.{eqb, ltb}
use lib.ListN.{length, get_or, drop}
use lib.Seq.{drop-cons}
use Rattle.words.specs.Eights.{eight}

-- ---- one byte more below two numbers

module _ (p q x y : ℕ) (hx : x < 256) (hy : y < 256) where
  higher_eqb : eqb (256 * p + x) (256 * q + y) ≡ (eqb p q && eqb x y)
  higher_eqb = go (eqb p q) (eqb x y) refl refl
    where
      go : (s t : Bool) → eqb p q ≡ s → eqb x y ≡ t → eqb (256 * p + x) (256 * q + y) ≡ (s && t)
      go true true e f = eq-eqb (256 * p + x) (256 * q + y) (omega (arith, eqb-true))
      go true false e f = ne_eqb (256 * p + x) (256 * q + y) (λ h. eqb-false x y f (omega (arith, eqb-true)))
      go false t e f = ne_eqb (256 * p + x) (256 * q + y) (λ h. eqb-false p q e (omega arith))

  pub higher_ltb : ltb (256 * p + x) (256 * q + y) ≡ (ltb p q || (eqb p q && ltb x y))
  higher_ltb = go (ltb p q) (eqb p q) (ltb x y) refl refl refl
    where
      go : (s t u : Bool) → ltb p q ≡ s → eqb p q ≡ t → ltb x y ≡ u → ltb (256 * p + x) (256 * q + y) ≡ (s || (t && u))
      go true t u d e f = lt-ltb (256 * p + x) (256 * q + y) (omega (arith, ltb-true))
      go false true true d e f = lt-ltb (256 * p + x) (256 * q + y) (omega (arith, eqb-true, ltb-true))
      go false true false d e f = le-ltb (256 * p + x) (256 * q + y) (omega (arith, eqb-true, ltb-false))
      go false false u d e f = le-ltb (256 * p + x) (256 * q + y) (omega (arith, ltb-false p q d, eqb-false p q e))

-- ---- a run of bytes

-- what an array of 24 bytes is known to be
pub record Name (n : List ℕ) : Type 0 where
  pub size : length n ≡ 24
  pub octet : (i : ℕ) → get_or n i 0 < 256

pub typed : (n : List ℕ) (vs : List Val) → Is (Array (UInt w8) 24) n vs → Name n
typed n vs p = record { size = p.1.0.1; octet = λ i. (elem_Fits w8 w8 n p.0 i p.1.1 tt).fits }

-- the bytes of n from place i to place i + k as one number, the first highest
abbrev high_first : ℕ → List ℕ → ℕ → ℕ
high_first zero n i = get_or n i 0
high_first (suc k) n i = 256 * high_first k n i + get_or n (i + suc k) 0

-- The order of names and their being the same both go by the first bytes: `g` holds of them, or they are the same and `f` holds of the rest.
module _ (f : List ℕ → List ℕ → Bool) (g : ℕ → ℕ → Bool) (by_first : (x y : ℕ) (xs ys : List ℕ) → f (x ∷ xs) (y ∷ ys) ≡ (g x y || (eqb x y && f xs ys)))
    (higher : (p q x y : ℕ) → x < 256 → y < 256 → g (256 * p + x) (256 * q + y) ≡ (g p q || (eqb p q && g x y))) {a b : List ℕ} (m : Name a) (n : Name b) where
  one_more : (j : ℕ) → j < 24
      → f (drop j a) (drop j b) ≡ (g (get_or a j 0) (get_or b j 0) || (eqb (get_or a j 0) (get_or b j 0) && f (drop (suc j) a) (drop (suc j) b)))
  one_more j h = rw (drop-cons a j 0 (omega (arith, m.size)), drop-cons b j 0 (omega (arith, n.size))) (by_first _ _ _ _)

  run : (i k : ℕ) → i + k < 24
      → f (drop i a) (drop i b)
      ≡ (g (high_first k a i) (high_first k b i) || (eqb (high_first k a i) (high_first k b i) && f (drop (i + suc k) a) (drop (i + suc k) b)))
  run i zero h = rw add-one (one_more i (omega arith))
  run i (suc k) h =
      let x = m.octet (i + suc k) in
      let y = n.octet (i + suc k) in
      run i k (omega arith)
      ∙ rw (higher _ _ _ _ x y, higher_eqb _ _ _ _ x y, one_more (i + suc k) h, ← add-suc i (suc k)) (simp (and-or_distrib_left, or_assoc, and_assoc))

  -- so the numbers of eight bytes tell what the bytes do
  pub eights : (i : ℕ) → i + 7 < 24 → f (drop i a) (drop i b) ≡ (g (eight a i) (eight b i) || (eqb (eight a i) (eight b i) && f (drop (i + 8) a) (drop (i + 8) b)))
  eights i h =
      let u : high_first 7 a i ≡ eight a i = omega arith in
      let v : high_first 7 b i ≡ eight b i = omega arith in
      rw (← u, ← v) (run i 7 h)
