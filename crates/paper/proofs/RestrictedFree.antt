-- Every restricted name is free (document 01, 'Free and restricted names'):
--     restricted_free    what a condition restricts is free in it
-- Assumes nothing.
use mathlib.Core.Path.{◌≡◌, refl, sym, ap, ◌∙◌, subst}
use mathlib.Core.Bool.{Bool, true, false, not, ◌&&◌, ◌||◌, true≢false}
use Prim.Native.Nat.{ℕ}
use Rattle.std.specs.Prelude.{Option, Some}
use Rattle.paper.specs.declared.NameNo.{NameNo}
use Rattle.paper.specs.declared.Equality.{Equality}
use Rattle.paper.specs.declared.Equality.TheVariants.{Left, Right, Nothing}
use Rattle.paper.specs.Sets.{Set, none, only, ◌∪◌, ◌∖◌}
use Rattle.paper.specs.Tree.{Condition, Term, Arguments}
use Rattle.paper.specs.Tree.Condition.{And, Or, Not, Past, Since, Exists, Comparison, Predicate, Refine, Tp, Opaque}
use Rattle.paper.specs.Tree.Term.{Var, Wildcard, Value, Sigil, Array, Arith, Sum, Count, AggregateCall}
use Rattle.paper.specs.Tree.Arguments.{no_argument, argument}
use Rattle.paper.specs.FreeAndRestricted.{free, term_free, arguments_free, bare, about, equality, tied_name, is_equality, direct, restricted}
use Rattle.paper.proofs.Walks.{picked}
use Rattle.paper.proofs.Equalities.{Means, means}

-- ---- sets within sets

abbrev pub Within : Set → Set → Type 0
Within a b = (k : ℕ) → a k ≡ true → b k ≡ true

pub none_within : (a : Set) → Within none a
unfolding none
none_within a k e = absurd (true≢false (sym e))

left_within : (a b c : Set) → Within a b → Within a (b ∪ c)
unfolding ◌∪◌
left_within a b c f k e = ap (λ (x : Bool). x || c k) (f k e)

right_within : (a b c : Set) → Within a c → Within a (b ∪ c)
unfolding ◌∪◌
right_within a b c f k e = go (b k) (f k e)
  where
    go : (x : Bool) → c k ≡ true → (x || c k) ≡ true
    go true g = refl
    go false g = g

pub both_within : (a b c : Set) → Within a c → Within b c → Within (a ∪ b) c
unfolding ◌∪◌
both_within a b c f g k e = go (a k) refl e
  where
    go : (x : Bool) → a k ≡ x → (x || b k) ≡ true → c k ≡ true
    go true d e = f k d
    go false d e = g k e

minus_get : (a c : Set) (k : ℕ) → (a ∖ c) k ≡ true → a k ≡ true
unfolding ◌∖◌
minus_get a c k e = go (a k) e
  where
    go : (x : Bool) → (x && not (c k)) ≡ true → x ≡ true
    go true d = refl
    go false d = d

pub minus_within : (a b c : Set) → Within a b → Within (a ∖ c) b
minus_within a b c f k e = f k (minus_get a c k e)

less_within : (a b c : Set) → Within a b → Within (a ∖ c) (b ∖ c)
unfolding ◌∖◌
less_within a b c f k e = let d = minus_get a c k e in ap (λ (x : Bool). x && not (c k)) (f k d ∙ sym d) ∙ e

-- ---- terms

bare_free : (t : Term) → Within (about (bare t)) (term_free t)
unfolding bare about term_free
bare_free (Var n x) = λ k e. e
bare_free (Wildcard n) = none_within _
bare_free (Value n y z) = none_within _
bare_free (Sigil n y z) = none_within _
bare_free (Array n l) = none_within _
bare_free (Arith n o l r) = none_within _
bare_free (Sum n s l b) = none_within _
bare_free (Count n l b) = none_within _
bare_free (AggregateCall n y) = none_within _

direct_free : (l : Arguments) → Within (direct l) (arguments_free l)
unfolding direct term_free
direct_free (no_argument n) = λ k e. e
direct_free (argument n f t l) =
    both_within (about (bare t)) (direct l) _ (left_within _ (term_free t) (arguments_free l) (bare_free t))
    (right_within _ (term_free t) (arguments_free l) (direct_free l))

-- a tied name is a bare variable of one side
named_free : (t : Term) {x : NameNo} → bare t ≡ Some x → Within (only x.0) (term_free t)
unfolding about
named_free t e = subst (λ (s : Option NameNo). Within (about s) (term_free t)) e (bare_free t)

tied_free : (l r : Term) → Within (tied_name (equality l r)) (term_free l ∪ term_free r)
unfolding tied_name
tied_free l r = go (equality l r) (means l r)
  where
    go : (e : Equality) → Means l r e → Within (tied_name e) (term_free l ∪ term_free r)
    go (Left x) b = left_within _ (term_free l) (term_free r) (named_free l b.is_bare)
    go (Right x) b = right_within _ (term_free l) (term_free r) (named_free r b.is_bare)
    go (Nothing why) m = none_within _

-- ---- the theorem

pub restricted_free : (c : Condition) → Within (restricted c) (free c)
unfolding restricted free
restricted_free (And n l r) =
    both_within (restricted l) (restricted r) _ (left_within _ (free l) (free r) (restricted_free l)) (right_within _ (free l) (free r) (restricted_free r))
restricted_free (Or n l r) = none_within _
restricted_free (Not n b) = none_within _
restricted_free (Past n k b w) = restricted_free b
restricted_free (Since n l r w) = right_within _ (free l) (free r) (restricted_free r)
restricted_free (Exists n s y b) = less_within _ _ _ (restricted_free b)
restricted_free (Comparison n o l r) = picked (λ (a : Set). Within a (term_free l ∪ term_free r)) (is_equality o) _ _ (tied_free l r) (none_within _)
restricted_free (Predicate n a l) = direct_free l
restricted_free (Refine n b l) =
    both_within (restricted b) (direct l) _ (left_within _ (free b) (arguments_free l) (restricted_free b)) (right_within _ (free b) (arguments_free l) (direct_free l))
restricted_free (Tp n s) = λ k e. e
restricted_free (Opaque n k y) = none_within _
