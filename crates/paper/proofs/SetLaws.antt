-- Laws of sets. Assumes nothing.
use mathlib.Core.Path.{◌≡◌, refl, sym, ap, ◌∙◌}
use mathlib.Core.Bool.{Bool, true, false, ◌&&◌, and-true, and-false, true≢false}
use mathlib.Core.List.{[], ◌∷◌}
use Prim.Native.Nat.{ℕ, zero, suc, ◌<◌}
use native.Mathlib.Omega.{arith}
use native.Mathlib.Decide.{dec_lt}
use borrow.Author.Tests.{eq-eqb, ne_eqb}
use Rattle.paper.specs.Sets.{Set, only, ◌∖◌, all_below, members}

-- what holds of all below n holds of each
pub all_get : (n : ℕ) (a : Set) → all_below n a ≡ true → (k : ℕ) → k < n → a k ≡ true
unfolding all_below
all_get zero a e k h = absurd (omega arith)
all_get (suc n) a e k h = go (a n) (all_below n a) refl refl e (λ q l. all_get n a q k l) (dec_lt k n)
  where
    go : (x y : Bool) → a n ≡ x → all_below n a ≡ y → (x && y) ≡ true → (all_below n a ≡ true → k < n → a k ≡ true) → Dec (k < n) → a k ≡ true
    go true true p q r f (yes l) = f q l
    go true true p q r f (no l) = let d : k ≡ n = omega arith in ap a d ∙ p
    go true false p q r f d = absurd (true≢false (sym r))
    go false y p q r f d = absurd (true≢false (sym r))

-- and what holds of each below n holds of all
pub all_put : (n : ℕ) (a : Set) → ((k : ℕ) → k < n → a k ≡ true) → all_below n a ≡ true
unfolding all_below
all_put zero a f = refl
all_put (suc n) a f = rw (f n (omega arith), all_put n a (λ k h. f k (omega arith)))

-- a set with no name below n has no member there
pub members_none : (a : Set) (n : ℕ) → ((k : ℕ) → k < n → a k ≡ false) → members a n ≡ []
unfolding members
members_none a zero f = refl
members_none a (suc n) f = rw (members_none a n (λ k h. f k (omega arith)), f n (omega arith))

-- without x, every other number is in the set as before, and x is not
other_stays : (a : Set) (x k : ℕ) → (k ≡ x → ⊥) → (a ∖ only x) k ≡ a k
unfolding ◌∖◌ only
other_stays a x k h = rw (ne_eqb k x h) (and-true (a k))

taken_out : (a : Set) (x : ℕ) → (a ∖ only x) x ≡ false
unfolding ◌∖◌ only
taken_out a x = rw (eq-eqb x x refl) (and-false (a x))

-- the least number of a set is the first of its members, and the others are those of the set without it
pub members_first : (a : Set) (n x : ℕ) → x < n → a x ≡ true → ((k : ℕ) → k < x → a k ≡ false) → members a n ≡ x ∷ members (a ∖ only x) n
unfolding members
members_first a zero x h e f = absurd (omega arith)
members_first a (suc n) x h e f = go (λ l. members_first a n x l e f) (dec_lt x n)
  where
    go : (x < n → members a n ≡ x ∷ members (a ∖ only x) n) → Dec (x < n) → members a (suc n) ≡ x ∷ members (a ∖ only x) (suc n)
    go earlier (yes l) = rw (earlier l, other_stays a x n (λ d. omega arith))
    go earlier (no l) =
        let d : n ≡ x = omega arith in
        let left = members_none (a ∖ only x) x (λ k g. other_stays a x k (λ q. omega arith) ∙ f k g) in
        rw (d, members_none a x f, e, left, taken_out a x)
