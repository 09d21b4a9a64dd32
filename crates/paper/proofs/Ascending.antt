-- Ascending lists, and document order: two ascending lists with the same members are one, and so are two lists that hold exactly what is unmet.
-- Assumes nothing.
use mathlib.Core.Path.{◌≡◌, refl, sym, ap, ◌∙◌, subst}
use mathlib.Core.Logic.{⊎_elim}
use mathlib.Core.List.Memᴰ
use mathlib.Core.List.{
  List,
  [],
  ◌∷◌,
  ◌++◌,
  map,
  Memᴰ,
}
use Prim.Native.Nat.{ℕ, ◌<◌}
use native.Mathlib.Omega.{arith}
use Rattle.paper.specs.declared.Finding.{Finding}
use Rattle.paper.specs.Places.{Entry, Before, Earlier, Located, Precedes, Ascending, Exactly}

-- ---- ascending lists

pub asc_append : {A : Type 0} (R : A → A → Type 0) (a b : List A) → Ascending R a → Ascending R b
    → ((x y : A) → Memᴰ x a → Memᴰ y b → R x y) → Ascending R (a ++ b)
asc_append R [] b p q h = q
asc_append R (x ∷ a) b p q h = (
  λ y m. ⊎_elim (p.0 y) (λ k. h x y (Memᴰ.head refl) k) (Memᴰ.append_cases a m),
  asc_append R a b p.1 q (λ u v m. h u v (Memᴰ.tail m)),
)

pub asc_map : {A B : Type 0} (R : A → A → Type 0) (S : B → B → Type 0) (f : A → B) → ((x y : A) → R x y → S (f x) (f y))
    → (l : List A) → Ascending R l → Ascending S (map f l)
asc_map R S f up [] p = tt
asc_map R S f up (x ∷ l) p =
    (λ b m. let w = Memᴰ.of_map f l m in subst (λ (z : _). S (f x) z) w.2 (up x w.0 (p.0 w.0 w.1)), asc_map R S f up l p.1)

asc_head : {A : Type 0} (R : A → A → Type 0) → ((x y : A) → R x y → R y x → ⊥) → (x y : A) (l m : List A) → Ascending R (x ∷ l)
    → Ascending R (y ∷ m) → Memᴰ x (y ∷ m) → Memᴰ y (x ∷ l) → x ≡ y
asc_head R asym x y l m p q f g =
    ⊎_elim (λ e. e) (λ k. ⊎_elim (λ e. sym e) (λ j. absurd (asym x y (p.0 y j) (q.0 x k))) (Memᴰ.cases_cons g)) (Memᴰ.cases_cons f)

asc_tail : {A : Type 0} (R : A → A → Type 0) → ((x y : A) → R x y → R y x → ⊥) → (x y : A) (l m : List A) → x ≡ y → Ascending R (x ∷ l)
    → ((b : A) → Memᴰ b (x ∷ l) → Memᴰ b (y ∷ m)) → (b : A) → Memᴰ b l → Memᴰ b m
asc_tail {A} R asym x y l m e p f b k =
    ⊎_elim (λ (d : b ≡ y). let r : R b b = subst (λ (z : A). R z b) (e ∙ sym d) (p.0 b k) in absurd (asym b b r r)) (λ j. j)
    (Memᴰ.cases_cons (f b (Memᴰ.tail k)))

pub asc_unique : {A : Type 0} (R : A → A → Type 0) → ((x y : A) → R x y → R y x → ⊥) → (l m : List A) → Ascending R l → Ascending R m
    → ((b : A) → Memᴰ b l → Memᴰ b m) → ((b : A) → Memᴰ b m → Memᴰ b l) → l ≡ m
asc_unique R asym [] [] p q f g = refl
asc_unique R asym [] (y ∷ m) p q f g = absurd (Memᴰ.not-nil (g y (Memᴰ.head refl)))
asc_unique R asym (x ∷ l) [] p q f g = absurd (Memᴰ.not-nil (f x (Memᴰ.head refl)))
asc_unique {A} R asym (x ∷ l) (y ∷ m) p q f g =
    let e : x ≡ y = asc_head R asym x y l m p q (f x (Memᴰ.head refl)) (g y (Memᴰ.head refl)) in
    let r : l ≡ m = asc_unique R asym l m p.1 q.1 (asc_tail R asym x y l m e p f) (asc_tail R asym y x m l (sym e) q g) in
    cc

-- ---- document order is strict

before_asym : (p q : List ℕ) → Before p q → Before q p → ⊥
before_asym [] [] h k = h
before_asym [] (j ∷ q) h k = k
before_asym (i ∷ p) [] h k = h
before_asym (i ∷ p) (j ∷ q) h k =
    ⊎_elim (λ (a : i < j). ⊎_elim (λ (b : j < i). omega arith) (λ (b : (j ≡ i) × Before q p). omega arith) k)
    (λ (a : (i ≡ j) × Before p q). ⊎_elim (λ (b : j < i). omega arith) (λ (b : (j ≡ i) × Before q p). before_asym p q a.1 b.1) k) h

before_irr : (p q : List ℕ) → p ≡ q → Before p q → ⊥
before_irr p q e h = before_asym p q h (subst (λ (z : List ℕ). Before z p) e (subst (λ (z : List ℕ). Before p z) (sym e) h))

earlier_asym : (a b : Entry) → Earlier a b → Earlier b a → ⊥
earlier_asym a b h k =
    ⊎_elim
    (λ (p : a.finding.rule < b.finding.rule).
    ⊎_elim (λ (q : b.finding.rule < a.finding.rule). omega arith) (λ (q : (b.finding.rule ≡ a.finding.rule) × (b.rank < a.rank)). omega arith) k)
    (λ (p : (a.finding.rule ≡ b.finding.rule) × (a.rank < b.rank)).
    ⊎_elim (λ (q : b.finding.rule < a.finding.rule). omega arith) (λ (q : (b.finding.rule ≡ a.finding.rule) × (b.rank < a.rank)). omega arith) k)
    h

precedes_asym : (a b : Located) → Precedes a b → Precedes b a → ⊥
precedes_asym a b h k =
    ⊎_elim (λ p. ⊎_elim (λ q. before_asym a.path b.path p q) (λ q. before_irr a.path b.path (sym q.0) p) k)
    (λ p. ⊎_elim (λ q. before_irr b.path a.path (sym p.0) q) (λ q. earlier_asym a.item b.item p.1 q.1) k) h

-- any list that holds exactly what is unmet is this one
pub exactly_one : (Holds : List ℕ → Entry → Type 0) (es fs : List Finding) → Exactly Holds es → Exactly Holds fs → es ≡ fs
exactly_one Holds es fs a b =
    let e : a.located ≡ b.located =
    asc_unique Precedes precedes_asym a.located b.located a.sorted b.sorted (λ c m. b.complete c (a.sound c m)) (λ c m. a.complete c (b.sound c m)) in
    sym a.findings ∙ ap (λ (l : List Located). map (λ (c : Located). c.item.finding) l) e ∙ b.findings
