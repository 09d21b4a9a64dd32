-- What an equality ties, or why nothing (document 02, W-205): some pairs of terms, computed; what a comparison breaks; and that an equality ties what document 01's binding
-- equality gives and nothing else. Assumes nothing.
use Prim.Native.Nat.{ℕ}
use mathlib.Core.Path.{◌≡◌, refl, sym, ◌∙◌}
use mathlib.Core.Bool.{Bool, true, false, ◌||◌, true≢false}
use mathlib.Core.List.{[], ◌∷◌, map}
use native.Mathlib.Omega.{arith}
use Rattle.std.specs.Prelude.{Option, Some, None}
use Rattle.paper.specs.declared.NodeNo.{NodeNo}
use Rattle.paper.specs.declared.NameNo.{NameNo}
use Rattle.paper.specs.declared.Reason.{Reason}
use Rattle.paper.specs.declared.Reason.TheVariants as reason
use Rattle.paper.specs.declared.Equality.{Equality}
use Rattle.paper.specs.declared.Equality.TheVariants.{Left, Right, Nothing}
use Rattle.paper.specs.Record.{pick, node_no, name_no}
use Rattle.paper.specs.Sets.{Set, ◌∖◌}
use Rattle.paper.specs.Tree.{Term}
use Rattle.paper.specs.Tree.Condition.{Predicate}
use Rattle.paper.specs.Tree.Term.{Var, Wildcard, Value, Sigil, Array, Arith, Sum, Count, AggregateCall}
use Rattle.paper.specs.Tree.Arguments.{no_argument, argument}
use Rattle.paper.specs.Tree.Items.{no_item, item}
use Rattle.paper.specs.Tree.Binders.{no_binder}
use Rattle.paper.specs.FreeAndRestricted.{term_free, has_wildcard, bare, unless, by_bare, equality, is_equality}
use Rattle.paper.specs.Places.{Broken, for_names}
use Rattle.paper.specs.Demands.{equality_broken, other_broken, comparison_broken}

-- ---- the six answers, computed

-- a node's number has no part in it
abbrev nil : NodeNo
nil = node_no 0

abbrev x : Term
x = Var nil (name_no 0)

abbrev y : Term
y = Var nil (name_no 1)

abbrev one : Term
one = Value nil 0 1

abbrev any : Term
any = Wildcard nil

abbrev sigil : Term
sigil = Sigil nil 0 0

abbrev array : Term → Term
array t = Array nil (item nil t (no_item nil))

infixl 64 ◌plus◌
abbrev ◌plus◌ : Term → Term → Term
◌plus◌ l r = Arith nil 0 l r

-- count where P{a: *}
abbrev counted : Term
counted = Count nil (no_binder nil) (Predicate nil 0 (argument nil 0 any (no_argument nil)))

abbrev ask : Term × Term → Equality
ask p = equality p.0 p.1

pub answers :
    map ask
    ((x, one)
    ∷ (x, sigil)
    ∷ (x, array any)
    ∷ (x, array (one plus any))
    ∷ (x, one plus counted)
    ∷ (one, y)
    ∷ (array (one plus any), y)
    ∷ (x, y)
    ∷ (x, x)
    ∷ (any, one)
    ∷ (x plus one, one)
    ∷ (x, any)
    ∷ (any, y)
    ∷ (x, one plus any)
    ∷ (x, one plus array (one plus any))
    ∷ ((one plus array (array any)) plus one, y)
    ∷ [])
    ≡ (Left (name_no 0)
    ∷ Left (name_no 0)
    ∷ Left (name_no 0)
    ∷ Left (name_no 0)
    ∷ Left (name_no 0)
    ∷ Right (name_no 1)
    ∷ Right (name_no 1)
    ∷ Nothing reason.BothBare
    ∷ Nothing reason.BothBare
    ∷ Nothing reason.NeitherBare
    ∷ Nothing reason.NeitherBare
    ∷ Nothing reason.Wildcard
    ∷ Nothing reason.Wildcard
    ∷ Nothing reason.Arithmetic
    ∷ Nothing reason.Arithmetic
    ∷ Nothing reason.Arithmetic
    ∷ [])
unfolding equality by_bare unless bare has_wildcard
answers = refl

-- ---- what a comparison breaks is one of three

pub broken_cases : (P : Broken → Type 0) (n : NodeNo) (o : ℕ) (l r : Term) (names : Set) → P (for_names 30 n (term_free r ∖ names)) → P (for_names 30 n (term_free l ∖ names))
    → P (other_broken n l r names) → P (comparison_broken n o l r names)
broken_cases P n o l r names of_left of_right of_other = go (is_equality o) (equality l r)
  where
    go : (b : Bool) (e : Equality) → P (pick b (equality_broken n l r names e) (other_broken n l r names))
    go true (Left x) = of_left
    go true (Right x) = of_right
    go true (Nothing why) = of_other
    go false e = of_other

-- ---- document 01's binding equality

pub no_name : {x : NameNo} → None ≡ Some x → ⊥
no_name e = let z : ◌≡◌ {A = ℕ} 0 1 = cc in omega arith

-- "a wildcard or arithmetic containing one at any depth through arithmetic and arrays", each the reason of its name
pub data Open : Reason → Term → Type 0 where
  wildcard : {n : NodeNo} → Open reason.Wildcard (Wildcard n)
  arithmetic : {n : NodeNo} {o : ℕ} {l r : Term} → has_wildcard (Arith n o l r) ≡ true → Open reason.Arithmetic (Arith n o l r)

-- "an equality with exactly one bare variable gives it, unless the other side is .."
pub record Binding (variable other : Term) (x : NameNo) : Type 0 where
  pub is_bare : bare variable ≡ Some x
  pub exactly_one : bare other ≡ None
  pub unless_open : (why : Reason) → Open why other → ⊥

-- one side is a bare variable, and the other is open
pub data Opposed (why : Reason) (l r : Term) : Type 0 where
  on_right : {x : NameNo} → bare l ≡ Some x → Open why r → Opposed why l r
  on_left : {x : NameNo} → bare r ≡ Some x → Open why l → Opposed why l r

abbrev pub Means : Term → Term → Equality → Type 0
Means l r (Left x) = Binding l r x
Means l r (Right x) = Binding r l x
Means l r (Nothing reason.BothBare) = (x : NameNo) × (y : NameNo) × (bare l ≡ Some x) × (bare r ≡ Some y)
Means l r (Nothing reason.NeitherBare) = (bare l ≡ None) × (bare r ≡ None)
Means l r (Nothing reason.Wildcard) = Opposed reason.Wildcard l r
Means l r (Nothing reason.Arithmetic) = Opposed reason.Arithmetic l r

contained : {why : Reason} {n : NodeNo} {o : ℕ} {l r : Term} → Open why (Arith n o l r) → has_wildcard (Arith n o l r) ≡ true
contained (arithmetic e) = e

-- only a wildcard and arithmetic can be open
abbrev MayBeOpen : Term → Type 0
MayBeOpen (Var n x) = ⊥
MayBeOpen (Wildcard n) = Unit {0}
MayBeOpen (Value n k y) = ⊥
MayBeOpen (Sigil n k i) = ⊥
MayBeOpen (Array n l) = ⊥
MayBeOpen (Arith n o l r) = Unit {0}
MayBeOpen (Sum n s l b) = ⊥
MayBeOpen (Count n l b) = ⊥
MayBeOpen (AggregateCall n y) = ⊥

may_be_open : (why : Reason) (t : Term) → Open why t → MayBeOpen t
may_be_open why t o = elim o as (λ why t _. MayBeOpen t) [ wildcard ↦ tt | arithmetic e ↦ tt ]

-- the side opposite a bare variable leaves what the equality gives, or is open and says why not
module _ (P : Equality → Type 0) {gives : Equality} where
  pub unless_cases : (t : Term) → (((why : Reason) → Open why t → ⊥) → P gives) → ((why : Reason) → Open why t → P (Nothing why)) → P (unless t gives)
  unfolding unless has_wildcard
  unless_cases (Var n x) tied untied = tied (λ why o. may_be_open why (Var n x) o)
  unless_cases (Wildcard n) tied untied = untied reason.Wildcard wildcard
  unless_cases (Value n k y) tied untied = tied (λ why o. may_be_open why (Value n k y) o)
  unless_cases (Sigil n k i) tied untied = tied (λ why o. may_be_open why (Sigil n k i) o)
  unless_cases (Array n l) tied untied = tied (λ why o. may_be_open why (Array n l) o)
  unless_cases (Arith n o l r) tied untied = go (has_wildcard l || has_wildcard r) refl
    where
      go : (b : Bool) → (has_wildcard l || has_wildcard r) ≡ b → P (pick b (Nothing reason.Arithmetic) gives)
      go true e = untied reason.Arithmetic (arithmetic e)
      go false e = tied (λ why d. true≢false (sym (contained d) ∙ e))
  unless_cases (Sum n s l b) tied untied = tied (λ why o. may_be_open why (Sum n s l b) o)
  unless_cases (Count n l b) tied untied = tied (λ why o. may_be_open why (Count n l b) o)
  unless_cases (AggregateCall n y) tied untied = tied (λ why o. may_be_open why (AggregateCall n y) o)

-- each answer means what its name says, and the first two are document 01's binding equality
pub means : (l r : Term) → Means l r (equality l r)
unfolding equality by_bare
means l r = go (bare l) (bare r) refl refl
  where
    -- the other two reasons are never those of an open side
    opposed : (why : Reason) {t : Term} → Open why t → Opposed why l r → Means l r (Nothing why)
    opposed reason.BothBare {t = t} o p = elim o [ ]
    opposed reason.NeitherBare {t = t} o p = elim o [ ]
    opposed reason.Wildcard o p = p
    opposed reason.Arithmetic o p = p

    go : (p q : Option NameNo) → bare l ≡ p → bare r ≡ q → Means l r (by_bare p q l r)
    go (Some x) (Some y) e d = (x, y, e, d)
    go (Some x) None e d = unless_cases (Means l r) r (λ shut. record { is_bare = e; exactly_one = d; unless_open = shut }) (λ why o. opposed why o (on_right e o))
    go None (Some y) e d = unless_cases (Means l r) l (λ shut. record { is_bare = d; exactly_one = e; unless_open = shut }) (λ why o. opposed why o (on_left d o))
    go None None e d = (e, d)

-- and document 01's binding equality is one of them
binds_unless : (t : Term) (gives : Equality) → ((why : Reason) → Open why t → ⊥) → unless t gives ≡ gives
binds_unless t gives shut = unless_cases (λ (e : Equality). e ≡ gives) t (λ d. refl) (λ why o. absurd (shut why o))

pub binds_left : (l r : Term) {x : NameNo} → Binding l r x → equality l r ≡ Left x
unfolding equality by_bare
binds_left l r b = rw (b.is_bare, b.exactly_one) (binds_unless r _ b.unless_open)

pub binds_right : (l r : Term) {x : NameNo} → Binding r l x → equality l r ≡ Right x
unfolding equality by_bare
binds_right l r b = rw (b.is_bare, b.exactly_one) (binds_unless l _ b.unless_open)
