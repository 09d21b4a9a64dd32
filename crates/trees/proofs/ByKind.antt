-- A planted node at a place of its sort, by its kind: what is shown for each kind that fits the place, and for what stands there for any other, holds of
-- every node. A walk's arm for all other kinds (`_`) cites these. Assumes nothing.
use mathlib.Core.Path.{◌≡◌, refl, sym, ap, ◌∙◌}
use mathlib.Core.Logic.{inl, inr}
use mathlib.Core.Bool.{Bool, true, false, ◌&&◌, true≢false}
use mathlib.Core.List.{List, [], ◌∷◌}
use Prim.Native.Nat.{ℕ}
use types.Run.{OneOf}
use denote.Enum.Declared.{tag_of}
use mir.Val.{has_key}
use Rattle.paper.specs.contracts.Node.{the_type}
use Rattle.paper.specs.declared.NodeNo.{NodeNo}
use Rattle.paper.specs.declared.NameNo.{NameNo}
use Rattle.paper.specs.declared.Slot.{Slot}
use Rattle.paper.specs.declared.Node.{Node}
use Rattle.paper.specs.declared.Node.TheVariants as node
use Rattle.paper.specs.Record.{node_no}
use Rattle.paper.specs.Tree.{Condition, Term, Arguments, Items, Binders, Tree, as_condition, as_term, as_arguments, as_items, as_binders, planted}
use Rattle.paper.specs.Tree.Condition.{And, Or, Not, Past, Since, Exists, Comparison, Predicate, Refine, Tp, Opaque}
use Rattle.paper.specs.Tree.Term.{Var, Wildcard, Value, Sigil, Array, Arith, Sum, Count, AggregateCall}
use Rattle.paper.specs.Tree.Arguments.{no_argument, argument}
use Rattle.paper.specs.Tree.Items.{item}
use Rattle.paper.specs.Tree.Binders.{no_binder, binder}
use Rattle.trees.specs.Trees.{in_terms}

-- the kinds that fit a place, by their places in the declaration of `Node`
abbrev pub condition_kinds : List ℕ
condition_kinds = 0 ∷ 1 ∷ 2 ∷ 3 ∷ 4 ∷ 5 ∷ 6 ∷ 7 ∷ 8 ∷ 9 ∷ 10 ∷ 11 ∷ 12 ∷ []

abbrev pub term_kinds : List ℕ
term_kinds = 13 ∷ 14 ∷ 15 ∷ 16 ∷ 17 ∷ 18 ∷ 19 ∷ 20 ∷ 21 ∷ 22 ∷ 23 ∷ 24 ∷ []

abbrev pub binder_kinds : List ℕ
binder_kinds = 25 ∷ 28 ∷ []

abbrev pub kinds_in_terms : List ℕ
kinds_in_terms = 13 ∷ 14 ∷ 15 ∷ 16 ∷ 17 ∷ 18 ∷ 19 ∷ 20 ∷ 21 ∷ 22 ∷ 23 ∷ 24 ∷ 26 ∷ 27 ∷ []

-- a kind among some of them is none of the others
abbrev all_in : List ℕ → List ℕ → Bool
all_in ls [] = true
all_in ls (k ∷ ks) = has_key ls k && all_in ls ks

pub no_other : (ks ls : List ℕ) (x : ℕ) → all_in ls ks ≡ true → OneOf ks x → has_key ls x ≡ false → ⊥
no_other [] ls x e h f = h
no_other (k ∷ []) ls x e h f = go (has_key ls k) refl e
  where
    go : (b : Bool) → has_key ls k ≡ b → (b && true) ≡ true → ⊥
    go true d e = true≢false (sym d ∙ ap (has_key ls) (sym h) ∙ f)
    go false d e = true≢false (sym e)
no_other (k ∷ l ∷ ks) ls x e h f = go (λ e h. no_other (l ∷ ks) ls x e h f) (has_key ls k) refl e h
  where
    go : (all_in ls (l ∷ ks) ≡ true → OneOf (l ∷ ks) x → ⊥) → (b : Bool) → has_key ls k ≡ b → (b && all_in ls (l ∷ ks)) ≡ true → OneOf (k ∷ l ∷ ks) x → ⊥
    go later true d e (inl h) = true≢false (sym d ∙ ap (has_key ls) (sym h) ∙ f)
    go later true d e (inr h) = later e h
    go later false d e h = true≢false (sym e)

-- every kind by itself
module _ (P : Node → Type 0)
    (and : (l r : NodeNo) → P (node.And l r))
    (or : (l r : NodeNo) → P (node.Or l r))
    (not : (b : NodeNo) → P (node.Not b))
    (formerly : (b : NodeNo) (w : ℕ) → P (node.Formerly b w))
    (previous : (b : NodeNo) (w : ℕ) → P (node.Previous b w))
    (since : (l r : NodeNo) (w : ℕ) → P (node.Since l r w))
    (exists : (s : Slot) (y : ℕ) (b : NodeNo) → P (node.Exists s y b))
    (comparison : (o : ℕ) (l r : NodeNo) → P (node.Comparison o l r))
    (predicate : (a : ℕ) (l : NodeNo) → P (node.Predicate a l))
    (refine : (b l : NodeNo) → P (node.Refine b l))
    (tp : (s : Slot) → P (node.Tp s))
    (call : (y : ℕ) → P (node.Call y))
    (sigil_ref : (y : ℕ) → P (node.SigilRef y))
    (var : (x : NameNo) → P (node.Var x))
    (wildcard : P node.Wildcard)
    (literal : (y : ℕ) → P (node.Literal y))
    (scope : (y : ℕ) → P (node.ScopeField y))
    (context : (y : ℕ) → P (node.ContextField y))
    (param : (k : ℕ) → P (node.ParamRef k))
    (binder_ref : (k : ℕ) → P (node.BinderRef k))
    (array : (l : NodeNo) → P (node.Array l))
    (arith : (o : ℕ) (l r : NodeNo) → P (node.Arith o l r))
    (sum : (s : Slot) (l b : NodeNo) → P (node.Sum s l b))
    (count : (l b : NodeNo) → P (node.Count l b))
    (agg : (y : ℕ) → P (node.AggregateCall y))
    (end : P node.ListEnd)
    (arg : (f : ℕ) (x l : NodeNo) → P (node.ArgumentCell f x l))
    (item : (x l : NodeNo) → P (node.ItemCell x l))
    (cell : (s : Slot) (y : ℕ) (l : NodeNo) → P (node.BinderCell s y l)) where
  pub by_kind : (m : Node) → P m
  by_kind (node.And l r) = and l r
  by_kind (node.Or l r) = or l r
  by_kind (node.Not b) = not b
  by_kind (node.Formerly b w) = formerly b w
  by_kind (node.Previous b w) = previous b w
  by_kind (node.Since l r w) = since l r w
  by_kind (node.Exists s y b) = exists s y b
  by_kind (node.Comparison o l r) = comparison o l r
  by_kind (node.Predicate a l) = predicate a l
  by_kind (node.Refine b l) = refine b l
  by_kind (node.Tp s) = tp s
  by_kind (node.Call y) = call y
  by_kind (node.SigilRef y) = sigil_ref y
  by_kind (node.Var x) = var x
  by_kind node.Wildcard = wildcard
  by_kind (node.Literal y) = literal y
  by_kind (node.ScopeField y) = scope y
  by_kind (node.ContextField y) = context y
  by_kind (node.ParamRef k) = param k
  by_kind (node.BinderRef k) = binder_ref k
  by_kind (node.Array l) = array l
  by_kind (node.Arith o l r) = arith o l r
  by_kind (node.Sum s l b) = sum s l b
  by_kind (node.Count l b) = count l b
  by_kind (node.AggregateCall y) = agg y
  by_kind node.ListEnd = end
  by_kind (node.ArgumentCell f x l) = arg f x l
  by_kind (node.ItemCell x l) = item x l
  by_kind (node.BinderCell s y l) = cell s y l

-- a condition
module _ (t : ℕ → Tree) (n : NodeNo) (P : Node → Condition → Type 0)
    (and : (l : NodeNo) (r : NodeNo) → P (node.And l r) (And n (as_condition (t l.0)) (as_condition (t r.0))))
    (or : (l : NodeNo) (r : NodeNo) → P (node.Or l r) (Or n (as_condition (t l.0)) (as_condition (t r.0))))
    (not : (b : NodeNo) → P (node.Not b) (Not n (as_condition (t b.0))))
    (formerly : (b : NodeNo) (w : ℕ) → P (node.Formerly b w) (Past n 0x13 (as_condition (t b.0)) w))
    (previous : (b : NodeNo) (w : ℕ) → P (node.Previous b w) (Past n 0x14 (as_condition (t b.0)) w))
    (since : (l : NodeNo) (r : NodeNo) (w : ℕ) → P (node.Since l r w) (Since n (as_condition (t l.0)) (as_condition (t r.0)) w))
    (exists : (s : Slot) (y : ℕ) (b : NodeNo) → P (node.Exists s y b) (Exists n s y (as_condition (t b.0))))
    (comparison : (o : ℕ) (l : NodeNo) (r : NodeNo) → P (node.Comparison o l r) (Comparison n o (as_term (t l.0)) (as_term (t r.0))))
    (predicate : (a : ℕ) (l : NodeNo) → P (node.Predicate a l) (Predicate n a (as_arguments (t l.0))))
    (refine : (b : NodeNo) (l : NodeNo) → P (node.Refine b l) (Refine n (as_condition (t b.0)) (as_arguments (t l.0))))
    (tp : (s : Slot) → P (node.Tp s) (Tp n s))
    (call : (y : ℕ) → P (node.Call y) (Opaque n 0x1B y))
    (sigil_ref : (y : ℕ) → P (node.SigilRef y) (Opaque n 0x1C y))
    (other : (m : Node) → has_key condition_kinds (tag_of the_type m) ≡ false → P m (Predicate (node_no 0) 0 (no_argument (node_no 0)))) where
  pub condition_cases : (m : Node) → P m (as_condition (planted t n m))
  unfolding planted as_condition
  condition_cases =
      by_kind (λ (m : Node). P m (as_condition (planted t n m)))
      and or not formerly previous since exists comparison predicate refine tp call sigil_ref (λ x. other _ refl) (other _ refl) (λ y. other _ refl)
      (λ y. other _ refl) (λ y. other _ refl) (λ k. other _ refl) (λ k. other _ refl) (λ l. other _ refl) (λ o l r. other _ refl)
      (λ s l b. other _ refl) (λ l b. other _ refl) (λ y. other _ refl) (other _ refl) (λ f x l. other _ refl) (λ x l. other _ refl)
      (λ s y l. other _ refl)

-- a term
module _ (t : ℕ → Tree) (n : NodeNo) (P : Node → Term → Type 0)
    (var : (x : NameNo) → P (node.Var x) (Var n x))
    (wildcard : P node.Wildcard (Wildcard n))
    (literal : (y : ℕ) → P (node.Literal y) (Value n 0x22 y))
    (scope : (y : ℕ) → P (node.ScopeField y) (Value n 0x23 y))
    (context : (y : ℕ) → P (node.ContextField y) (Value n 0x24 y))
    (param : (k : ℕ) → P (node.ParamRef k) (Sigil n 0x25 k))
    (binder_ref : (k : ℕ) → P (node.BinderRef k) (Sigil n 0x26 k))
    (array : (l : NodeNo) → P (node.Array l) (Array n (as_items (t l.0))))
    (arith : (o : ℕ) (l : NodeNo) (r : NodeNo) → P (node.Arith o l r) (Arith n o (as_term (t l.0)) (as_term (t r.0))))
    (sum : (s : Slot) (l : NodeNo) (b : NodeNo) → P (node.Sum s l b) (Sum n s (as_binders (t l.0)) (as_condition (t b.0))))
    (count : (l : NodeNo) (b : NodeNo) → P (node.Count l b) (Count n (as_binders (t l.0)) (as_condition (t b.0))))
    (agg : (y : ℕ) → P (node.AggregateCall y) (AggregateCall n y))
    (other : (m : Node) → has_key term_kinds (tag_of the_type m) ≡ false → P m (Value (node_no 0) 0 0)) where
  pub term_cases : (m : Node) → P m (as_term (planted t n m))
  unfolding planted as_term
  term_cases =
      by_kind (λ (m : Node). P m (as_term (planted t n m)))
      (λ l r. other _ refl) (λ l r. other _ refl) (λ b. other _ refl) (λ b w. other _ refl) (λ b w. other _ refl) (λ l r w. other _ refl)
      (λ s y b. other _ refl) (λ o l r. other _ refl) (λ a l. other _ refl) (λ b l. other _ refl) (λ s. other _ refl) (λ y. other _ refl)
      (λ y. other _ refl) var wildcard literal scope context param binder_ref array arith sum count agg (other _ refl) (λ f x l. other _ refl)
      (λ x l. other _ refl) (λ s y l. other _ refl)

-- a list of binders
module _ (t : ℕ → Tree) (n : NodeNo) (P : Node → Binders → Type 0)
    (end : P node.ListEnd (no_binder n))
    (cell : (s : Slot) (y : ℕ) (l : NodeNo) → P (node.BinderCell s y l) (binder n s y (as_binders (t l.0))))
    (other : (m : Node) → has_key binder_kinds (tag_of the_type m) ≡ false → P m (no_binder (node_no 0))) where
  pub binders_cases : (m : Node) → P m (as_binders (planted t n m))
  unfolding planted as_binders
  binders_cases =
      by_kind (λ (m : Node). P m (as_binders (planted t n m)))
      (λ l r. other _ refl) (λ l r. other _ refl) (λ b. other _ refl) (λ b w. other _ refl) (λ b w. other _ refl) (λ l r w. other _ refl)
      (λ s y b. other _ refl) (λ o l r. other _ refl) (λ a l. other _ refl) (λ b l. other _ refl) (λ s. other _ refl) (λ y. other _ refl)
      (λ y. other _ refl) (λ x. other _ refl) (other _ refl) (λ y. other _ refl) (λ y. other _ refl) (λ y. other _ refl) (λ k. other _ refl)
      (λ k. other _ refl) (λ l. other _ refl) (λ o l r. other _ refl) (λ s l b. other _ refl) (λ l b. other _ refl) (λ y. other _ refl) end
      (λ f x l. other _ refl) (λ x l. other _ refl) cell

-- a term, or the terms of a list
module _ {A : Type 0} (f : Term → A) (g : Arguments → A) (h : Items → A) (v : A) (t : ℕ → Tree) (n : NodeNo) (P : Node → A → Type 0)
    (var : (x : NameNo) → P (node.Var x) (f (Var n x)))
    (wildcard : P node.Wildcard (f (Wildcard n)))
    (literal : (y : ℕ) → P (node.Literal y) (f (Value n 0x22 y)))
    (scope : (y : ℕ) → P (node.ScopeField y) (f (Value n 0x23 y)))
    (context : (y : ℕ) → P (node.ContextField y) (f (Value n 0x24 y)))
    (param : (k : ℕ) → P (node.ParamRef k) (f (Sigil n 0x25 k)))
    (binder_ref : (k : ℕ) → P (node.BinderRef k) (f (Sigil n 0x26 k)))
    (array : (l : NodeNo) → P (node.Array l) (f (Array n (as_items (t l.0)))))
    (arith : (o : ℕ) (l : NodeNo) (r : NodeNo) → P (node.Arith o l r) (f (Arith n o (as_term (t l.0)) (as_term (t r.0)))))
    (sum : (s : Slot) (l : NodeNo) (b : NodeNo) → P (node.Sum s l b) (f (Sum n s (as_binders (t l.0)) (as_condition (t b.0)))))
    (count : (l : NodeNo) (b : NodeNo) → P (node.Count l b) (f (Count n (as_binders (t l.0)) (as_condition (t b.0)))))
    (agg : (y : ℕ) → P (node.AggregateCall y) (f (AggregateCall n y)))
    (arg : (k : ℕ) (x : NodeNo) (l : NodeNo) → P (node.ArgumentCell k x l) (g (argument n k (as_term (t x.0)) (as_arguments (t l.0)))))
    (item : (x : NodeNo) (l : NodeNo) → P (node.ItemCell x l) (h (item n (as_term (t x.0)) (as_items (t l.0)))))
    (other : (m : Node) → has_key kinds_in_terms (tag_of the_type m) ≡ false → P m v) where
  pub in_terms_cases : (m : Node) → P m (in_terms f g h v (planted t n m))
  unfolding planted in_terms
  in_terms_cases =
      by_kind (λ (m : Node). P m (in_terms f g h v (planted t n m)))
      (λ l r. other _ refl) (λ l r. other _ refl) (λ b. other _ refl) (λ b w. other _ refl) (λ b w. other _ refl) (λ l r w. other _ refl)
      (λ s y b. other _ refl) (λ o l r. other _ refl) (λ a l. other _ refl) (λ b l. other _ refl) (λ s. other _ refl) (λ y. other _ refl)
      (λ y. other _ refl) var wildcard literal scope context param binder_ref array arith sum count agg (other _ refl) arg item
      (λ s y l. other _ refl)
