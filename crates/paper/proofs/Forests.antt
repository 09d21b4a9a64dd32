-- The trees of a row of nodes, and what the trees that no node refers to weigh together: as much as all nodes. Assumes nothing.
use mathlib.Core.Path.{◌≡◌, refl, sym, ap, ap₂, ◌∙◌, fun_ext}
use mathlib.Core.Bool.{Bool, true, false, ◌&&◌, ◌||◌, true≢false, or-false}
use mathlib.Core.List.{List, [], ◌∷◌, ◌++◌}
use Prim.Native.Nat.{ℕ, zero, suc, ◌+◌, ◌*◌, ◌<◌, ◌≤◌}
use native.Mathlib.Omega.{arith}
use native.Mathlib.Decide.{ℕ_discrete}
use native.Mathlib.Nat.{zero-mul, suc-mul}
use lib.Dec.{eqb}
use lib.ListN.{length, get_or, get_or-append}
use borrow.Author.Tests.{eq-eqb, ne_eqb}
use Rattle.paper.specs.declared.Node.{Node}
use Rattle.paper.specs.declared.Node.TheVariants.{ListEnd}
use Rattle.paper.specs.Sets.{Set, only, ◌∪◌, all_below}
use Rattle.paper.specs.Record.{pick, Sort, node_no}
use Rattle.paper.specs.Tree.{Tree, planted, trees, tree_at}
use Rattle.paper.proofs.Walks.{All}
use Rattle.paper.proofs.Fields.{New}
use Rattle.paper.proofs.Weights.{tree_weight, weight_as, of_sort, at_home, total}

-- ---- trees

module _ (ns : List Node) (n k : ℕ) where
  chosen : Bool → Tree
  chosen t = elim t [ true ↦ planted (trees ns n) (node_no n) (get_or ns n ListEnd) | false ↦ trees ns n k ]

  trees_here : eqb k n ≡ true → trees ns (suc n) k ≡ planted (trees ns n) (node_no n) (get_or ns n ListEnd)
  unfolding trees chosen
  trees_here e = ap chosen e

  trees_before : eqb k n ≡ false → trees ns (suc n) k ≡ trees ns n k
  unfolding trees chosen
  trees_before e = ap chosen e

-- a tree is planted from the trees before it
pub tree_step : (ns : List Node) (n : ℕ) → tree_at ns n ≡ planted (trees ns n) (node_no n) (get_or ns n ListEnd)
unfolding tree_at
tree_step ns n = trees_here ns n n (eq-eqb n n refl)

-- and stays as it is
pub tree_same : (ns : List Node) (n k : ℕ) → k < n → trees ns n k ≡ tree_at ns k
unfolding tree_at
tree_same ns zero k h = absurd (omega arith)
tree_same ns (suc n) k h = go (tree_same ns n k) (ℕ_discrete k n)
  where
    go : (k < n → trees ns n k ≡ trees ns (suc k) k) → Dec (k ≡ n) → trees ns (suc n) k ≡ trees ns (suc k) k
    go f (yes e) = ap (λ (m : ℕ). trees ns (suc m) k) (sym e)
    go f (no e) = trees_before ns n k (ne_eqb k n e) ∙ f (omega arith)

-- more nodes change none of the trees before them
pub trees_more : (ns ms : List Node) (n : ℕ) → n ≤ length ns → (k : ℕ) → trees (ns ++ ms) n k ≡ trees ns n k
trees_more ns ms zero h k = unfold trees in refl
trees_more ns ms (suc n) h k = go (fun_ext (trees_more ns ms n (omega arith))) (ℕ_discrete k n)
  where
    go : trees (ns ++ ms) n ≡ trees ns n → Dec (k ≡ n) → trees (ns ++ ms) (suc n) k ≡ trees ns (suc n) k
    go e (yes d) =
        trees_here (ns ++ ms) n k (eq-eqb k n d)
        ∙ ap₂ (λ (f : ℕ → Tree) (m : Node). planted f (node_no n) m) e (get_or-append ns ms ListEnd n (omega arith)) ∙ sym (trees_here ns n k (eq-eqb k n d))
    go e (no d) = trees_before (ns ++ ms) n k (ne_eqb k n d) ∙ ap (λ (f : ℕ → Tree). f k) e ∙ sym (trees_before ns n k (ne_eqb k n d))

pub tree_more : (ns ms : List Node) (k : ℕ) → k < length ns → tree_at (ns ++ ms) k ≡ tree_at ns k
unfolding tree_at
tree_more ns ms k h = trees_more ns ms (suc k) h k

-- ---- sums

-- of the first n numbers
unfoldable pub sum : (ℕ → ℕ) → ℕ → ℕ
sum w zero = 0
sum w (suc n) = w n + sum w n

pub sum_same : (x n : ℕ) → sum (λ k. x) n ≡ n * x
unfolding sum
sum_same x zero = sym (zero-mul x)
sum_same x (suc n) = let h = sum_same x n in let z = suc-mul n x in omega arith

-- of those among them that are not in the set
unfoldable pub spare : (ℕ → ℕ) → ℕ → Set → ℕ
spare f zero u = 0
spare f (suc n) u = pick (u n) 0 (f n) + spare f n u

pub spare_same : (f g : ℕ → ℕ) (n : ℕ) (u : Set) → ((k : ℕ) → k < n → f k ≡ g k) → spare f n u ≡ spare g n u
unfolding spare
spare_same f g zero u h = refl
spare_same f g (suc n) u h = ap₂ ◌+◌ (ap (pick (u n) 0) (h n (omega arith))) (spare_same f g n u (λ k l. h k (omega arith)))

-- a number that joins the set is no longer counted
spare_out : (f : ℕ → ℕ) (n : ℕ) (u : Set) (k : ℕ) → n ≤ k → spare f n (u ∪ only k) ≡ spare f n u
unfolding spare ◌∪◌ only
spare_out f zero u k h = refl
spare_out f (suc n) u k h =
    ap₂ ◌+◌ (ap (λ (t : Bool). pick t 0 (f n)) (ap (λ (t : Bool). u n || t) (ne_eqb n k (λ e. omega arith)) ∙ or-false (u n))) (spare_out f n u k (omega arith))

spare_one : (f : ℕ → ℕ) (n : ℕ) (u : Set) (k : ℕ) → k < n → u k ≡ false → spare f n u ≡ f k + spare f n (u ∪ only k)
unfolding spare
spare_one f zero u k h e = absurd (omega arith)
spare_one f (suc n) u k h e = go (spare_one f n u k) (ℕ_discrete k n)
  where
    go : (k < n → u k ≡ false → spare f n u ≡ f k + spare f n (u ∪ only k)) → Dec (k ≡ n)
        → pick (u n) 0 (f n) + spare f n u ≡ f k + (pick ((u ∪ only k) n) 0 (f n) + spare f n (u ∪ only k))
    go g (yes d) =
        let a : u n ≡ false = ap u (sym d) ∙ e in
        let b : (u ∪ only k) n ≡ true = joined n d a in
        let c = spare_out f n u k (omega arith) in
        rw (a, b, c, d) (omega arith)
      where
        joined : (n : ℕ) → k ≡ n → u n ≡ false → (u ∪ only k) n ≡ true
        joined n d a = unfold ◌∪◌ only in rw (a, eq-eqb n k (sym d))
    go g (no d) =
        let a : (u ∪ only k) n ≡ u n = other (λ z. d (sym z)) in
        let c = g (omega arith) e in
        rw (a, c) (omega arith)
      where
        other : (n ≡ k → ⊥) → (u ∪ only k) n ≡ u n
        other d = unfold ◌∪◌ only in rw (ne_eqb n k d) (or-false (u n))

-- ---- references that are new

module _ (ns : List Node) (n : ℕ) (w : ℕ → ℕ) where
  abbrev pub weight_at : ℕ → ℕ
  weight_at k = tree_weight (tree_at ns k) w

  -- a reference to a tree before n, of its sort
  abbrev pub Home : Sort × ℕ → Type 0
  Home p = (p.1 < n) × (of_sort p.0 (tree_at ns p.1) ≡ true)

  pub new_total : (ps : List (Sort × ℕ)) (u v : Set) → All Home ps → New u ps v → spare weight_at n u ≡ total (trees ns n) ps w + spare weight_at n v
  unfolding total
  new_total [] u v a e = ap (spare weight_at n) e ∙ (let z : spare weight_at n v ≡ 0 + spare weight_at n v = omega arith in z)
  new_total (p ∷ ps) u v a e =
      let x = spare_one weight_at n u p.1 a.0.0 e.0 in
      let y = new_total ps (u ∪ only p.1) v a.1 e.1 in
      let z : weight_as p.0 (trees ns n p.1) w ≡ weight_at p.1 =
      ap (λ (t : Tree). weight_as p.0 t w) (tree_same ns n p.1 a.0.0) ∙ at_home p.0 (tree_at ns p.1) w a.0.1 in
      omega arith

-- ---- all but the last are in the set

pub spare_last : (f : ℕ → ℕ) (n : ℕ) (u : Set) → all_below n u ≡ true → spare f n u ≡ 0
unfolding spare all_below
spare_last f zero u e = refl
spare_last f (suc n) u e = go (u n) (all_below n u) refl refl e (spare_last f n u)
  where
    go : (x y : Bool) → u n ≡ x → all_below n u ≡ y → (x && y) ≡ true → (all_below n u ≡ true → spare f n u ≡ 0) → pick (u n) 0 (f n) + spare f n u ≡ 0
    go true true p q r g = rw (p, g q)
    go true false p q r g = absurd (true≢false (sym r))
    go false y p q r g = absurd (true≢false (sym r))
