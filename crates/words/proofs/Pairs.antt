-- Two names walked together, eight bytes at a time: their order, and when they are the same; and a reserved word as a name, its padding written out. Assumes nothing.
use mathlib.Core.Path.{◌≡◌, refl, sym, ap₂, ◌∙◌}
use mathlib.Core.Bool.{Bool, true, false, ◌&&◌, ◌||◌, and-false, or-false}
use mathlib.Core.List.{List, [], ◌∷◌, ◌++◌}
use Prim.Native.Nat.{ℕ, zero, suc, ◌+◌, ◌<◌}
use native.Mathlib.Nat.{le_of_eq}
use native.Mathlib.Omega.{arith}
use borrow.Author.Tests.{eq-eqb, ne_eqb, le-ltb}
use lib.Dec.{eqb, ltb, eqb-zero-suc, eqb-suc-zero, lit≤}
use lib.ListN.{length, drop, drop_of_length-le, replicate}
use lib.Pointwise.{pointwise}
use Rattle.paper.specs.Record.{zeros, precedes}
use Rattle.paper.specs.Scoping.{is_word}
use Rattle.words.specs.Eights.{eight}
use Rattle.words.proofs.Eights.{Name, higher_ltb, eights}

-- three numbers, the first highest
abbrev pub numbers : List ℕ → List ℕ
numbers n = eight n 0 ∷ eight n 8 ∷ eight n 16 ∷ []

module _ {a b : List ℕ} (m : Name a) (n : Name b) where
  pub precedes_end : precedes (drop 24 a) (drop 24 b) ≡ false
  unfolding precedes
  precedes_end = rw (drop_of_length-le a (le_of_eq m.size), drop_of_length-le b (le_of_eq n.size), precedes)

  module _ (i : ℕ) (h : i + 7 < 24) where
    step : precedes (drop i a) (drop i b) ≡ (ltb (eight a i) (eight b i) || (eqb (eight a i) (eight b i) && precedes (drop (i + 8) a) (drop (i + 8) b)))
    unfolding precedes
    step = eights precedes ltb (λ u v us vs. refl) higher_ltb m n i h

    pub precedes_differ : (eight a i ≡ eight b i → ⊥) → precedes (drop i a) (drop i b) ≡ ltb (eight a i) (eight b i)
    precedes_differ d = rw (step, ne_eqb (eight a i) (eight b i) d) (or-false _)

    pub precedes_next : eight a i ≡ eight b i → precedes (drop i a) (drop i b) ≡ precedes (drop (i + 8) a) (drop (i + 8) b)
    precedes_next e = step ∙ rw (le-ltb (eight a i) (eight b i) (le_of_eq (sym e)), eq-eqb (eight a i) (eight b i) e)

  same_end : pointwise eqb (drop 24 a) (drop 24 b) ≡ true
  same_end = rw (drop_of_length-le a (le_of_eq m.size), drop_of_length-le b (le_of_eq n.size)) refl

  pub same_numbers : pointwise eqb (numbers a) (numbers b) ≡ pointwise eqb a b
  same_numbers =
      let step = eights (pointwise eqb) (λ u v. false) (λ u v us vs. refl) (λ r s u v k l. sym (and-false (eqb r s))) m n in
      sym (step 0 (lit≤ tt) ∙ rw (step 8 (lit≤ tt), step 16 (lit≤ tt), same_end) refl)

zero_first : (y : ℕ) → eqb 0 y ≡ eqb y 0
zero_first zero = refl
zero_first (suc y) = eqb-zero-suc y ∙ sym (eqb-suc-zero y)

same_zeros : (k : ℕ) (n : List ℕ) → length n ≡ k → pointwise eqb (replicate k 0) n ≡ zeros n
unfolding zeros
same_zeros zero [] h = refl
same_zeros zero (y ∷ n) h = absurd (omega arith)
same_zeros (suc k) [] h = absurd (omega arith)
same_zeros (suc k) (y ∷ n) h = ap₂ ◌&&◌ (zero_first y) (same_zeros k n (omega arith))

-- a name is a word where it is the word and k zeros
pub same_word : (word : List ℕ) (k : ℕ) (n : List ℕ) → length n ≡ length word + k → pointwise eqb (word ++ replicate k 0) n ≡ is_word word n
unfolding is_word
same_word [] k n h = same_zeros k n (omega arith)
same_word (x ∷ word) k [] h = absurd (omega arith)
same_word (x ∷ word) k (y ∷ n) h = go (eqb x y) (same_word word k n (omega arith))
  where
    go : (b : Bool) → pointwise eqb (word ++ replicate k 0) n ≡ is_word word n
        → (b && pointwise eqb (word ++ replicate k 0) n) ≡ elim b [ true ↦ is_word word n | false ↦ false ]
    go true e = e
    go false e = refl
