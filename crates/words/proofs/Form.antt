-- A name's form, tested with no branch on its bytes: what one byte more of the walk asks. Assumes nothing.
use mathlib.Core.Path.{◌≡◌, refl, sym, ap, ◌∙◌}
use mathlib.Core.Bool.{Bool, true, false, not, ◌&&◌, ◌||◌, and-true, and_assoc}
use mathlib.Core.List.{List, [], ◌∷◌}
use Prim.Native.Nat.{ℕ, suc, ◌+◌, ◌≤◌, ◌<◌}
use native.Mathlib.Numerals.{add-one}
use native.Mathlib.Omega.{arith}
use borrow.Author.Tests.{eqb-true}
use lib.Dec.{eqb}
use lib.ListN.{length, get_or, drop, drop_of_length-le}
use lib.Seq.{drop-cons}
use Rattle.paper.specs.Record.{pick, letter, digit, zeros, name_rest, is_name}

-- a test joined to those before it
pub joined : (ok test rest : Bool) {all : Bool} → all ≡ (test && rest) → (ok && all) ≡ ((ok && test) && rest)
joined ok test rest e = ap (λ x. ok && x) e ∙ sym (and_assoc ok test rest)

pub none_left : (ok : Bool) {all : Bool} → all ≡ true → (ok && all) ≡ ok
none_left ok e = ap (λ x. ok && x) e ∙ and-true ok

-- what may follow the byte `last` of a name
abbrev pub after : ℕ → List ℕ → Bool
after last xs = pick (eqb last 0) (zeros xs) (name_rest xs)

one_more : (ended zero word padding rest : Bool)
    → pick ended (zero && padding) (pick zero padding (word && rest)) ≡ ((zero || (word && not ended)) && pick zero padding rest)
one_more true true word padding rest = refl
one_more true false true padding rest = refl
one_more true false false padding rest = refl
one_more false true word padding rest = refl
one_more false false true padding rest = refl
one_more false false false padding rest = refl

pub after_step : (n : List ℕ) (i : ℕ) → i < length n → (last : ℕ)
    → after last (drop i n)
    ≡ ((eqb (get_or n i 0) 0 || ((letter (get_or n i 0) || digit (get_or n i 0)) && not (eqb last 0))) && after (get_or n i 0) (drop (i + 1) n))
unfolding zeros name_rest
after_step n i h last =
    rw (add-one, drop-cons n i 0 h)
    (one_more (eqb last 0) (eqb (get_or n i 0) 0) (letter (get_or n i 0) || digit (get_or n i 0)) (zeros (drop (suc i) n)) (name_rest (drop (suc i) n)))

pub after_end : (n : List ℕ) (i : ℕ) → length n ≤ i → (last : ℕ) → after last (drop i n) ≡ true
unfolding zeros name_rest
after_end n i h last = rw (drop_of_length-le n {i = i} h) (go (eqb last 0))
  where
    go : (b : Bool) → pick b true true ≡ true
    go true = refl
    go false = refl

letter_zero : (x : ℕ) → letter x ≡ true → eqb x 0 ≡ true → ⊥
letter_zero x p q =
    let e : letter 0 ≡ true = rw (eqb-true x 0 q) at p in
    let z : ◌≡◌ {A = ℕ} 0 1 = cc in
    omega arith

-- a first byte is a letter, so it may also stand where any byte of a name may
pub is_name_start : (n : List ℕ) → 0 < length n → is_name n ≡ (letter (get_or n 0 0) && after 1 n)
unfolding is_name name_rest
is_name_start [] h = absurd (omega arith)
is_name_start (x ∷ xs) h = go (letter x) (eqb x 0) (digit x) (letter_zero x)
  where
    go : (l z d : Bool) → (l ≡ true → z ≡ true → ⊥) → (l && name_rest xs) ≡ (l && pick z (zeros xs) ((l || d) && name_rest xs))
    go true true d f = absurd (f refl refl)
    go true false d f = refl
    go false z d f = refl
