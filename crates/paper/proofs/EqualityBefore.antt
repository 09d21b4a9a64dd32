-- What a comparison restricts and owes is what it was before an equality told the reason (document 02, W-205: "all lists stay equal"). The rule of before is kept here for
-- this purpose alone. Assumes nothing.
use Prim.Native.Nat.{ℕ}
use mathlib.Core.Path.{◌≡◌, refl, sym, ap, ◌∙◌}
use mathlib.Core.Bool.{Bool, true, false, not, ◌||◌}
use Rattle.std.specs.Prelude.{Option, Some, None}
use Rattle.paper.specs.declared.NodeNo.{NodeNo}
use Rattle.paper.specs.declared.NameNo.{NameNo}
use Rattle.paper.specs.declared.Reason.TheVariants.{Arithmetic}
use Rattle.paper.specs.declared.Equality.{Equality}
use Rattle.paper.specs.declared.Equality.TheVariants.{Left, Right, Nothing}
use Rattle.paper.specs.Record.{pick}
use Rattle.paper.specs.Sets.{Set, none, only, ◌∪◌, ◌∖◌}
use Rattle.paper.specs.Tree.{Term}
use Rattle.paper.specs.Tree.Condition.{Comparison}
use Rattle.paper.specs.Tree.Term.{Var, Wildcard, Value, Sigil, Array, Arith, Sum, Count, AggregateCall}
use Rattle.paper.specs.FreeAndRestricted.{term_free, has_wildcard, bare, unless, by_bare, equality, tied_name, is_equality, restricted}
use Rattle.paper.specs.Places.{Broken, for_names}
use Rattle.paper.specs.Demands.{equality_broken, other_broken, comparison_broken}
use Rattle.paper.proofs.Equalities.{no_name}

-- ---- the rule of before

pub data Before : Type 0 where
  left right : NameNo → Before
  neither : Before

abbrev pub ties : Term → Bool
ties (Var n x) = false
ties (Wildcard n) = false
ties (Value n k y) = true
ties (Sigil n k i) = true
ties (Array n l) = true
ties (Arith n o l r) = not (has_wildcard l || has_wildcard r)
ties (Sum n s l b) = true
ties (Count n l b) = true
ties (AggregateCall n y) = true

abbrev pub by_sides : Option NameNo → Option NameNo → Bool → Bool → Before
by_sides (Some x) (Some y) s t = neither
by_sides (Some x) None s t = pick t (left x) neither
by_sides None (Some y) s t = pick s (right y) neither
by_sides None None s t = neither

abbrev pub before : ℕ → Term → Term → Before
before op l r = pick (is_equality op) (by_sides (bare l) (bare r) (ties l) (ties r)) neither

abbrev pub name_before : Before → Set
name_before (left x) = only x.0
name_before (right x) = only x.0
name_before neither = none

abbrev pub broken_before : NodeNo → Term → Term → Set → Before → Broken
broken_before n l r names (left x) = for_names 30 n (term_free r ∖ names)
broken_before n l r names (right x) = for_names 30 n (term_free l ∖ names)
broken_before n l r names neither = for_names 31 n ((term_free l ∪ term_free r) ∖ names)

-- ---- the answer without its reason

abbrev plain : Equality → Before
plain (Left x) = left x
plain (Right x) = right x
plain (Nothing why) = neither

same_opposite : (t : Term) (gives : Equality) → bare t ≡ None → plain (unless t gives) ≡ pick (ties t) (plain gives) neither
unfolding unless bare
same_opposite (Var n x) gives e = absurd (no_name (sym e))
same_opposite (Wildcard n) gives e = refl
same_opposite (Value n k y) gives e = refl
same_opposite (Sigil n k i) gives e = refl
same_opposite (Array n l) gives e = refl
same_opposite (Arith n o l r) gives e = go (has_wildcard l || has_wildcard r)
  where
    go : (b : Bool) → plain (pick b (Nothing Arithmetic) gives) ≡ pick (not b) (plain gives) neither
    go true = refl
    go false = refl
same_opposite (Sum n s l b) gives e = refl
same_opposite (Count n l b) gives e = refl
same_opposite (AggregateCall n y) gives e = refl

same_answer : (l r : Term) → plain (equality l r) ≡ by_sides (bare l) (bare r) (ties l) (ties r)
unfolding equality by_bare
same_answer l r = go (bare l) (bare r) refl refl
  where
    go : (p q : Option NameNo) → bare l ≡ p → bare r ≡ q → plain (by_bare p q l r) ≡ by_sides p q (ties l) (ties r)
    go (Some x) (Some y) e d = refl
    go (Some x) None e d = same_opposite r (Left x) d
    go None (Some y) e d = same_opposite l (Right y) e
    go None None e d = refl

-- ---- the theorems

name_plain : (e : Equality) → tied_name e ≡ name_before (plain e)
unfolding tied_name
name_plain (Left x) = refl
name_plain (Right x) = refl
name_plain (Nothing why) = refl

broken_plain : (n : NodeNo) (l r : Term) (names : Set) (e : Equality) → equality_broken n l r names e ≡ broken_before n l r names (plain e)
broken_plain n l r names (Left x) = refl
broken_plain n l r names (Right x) = refl
broken_plain n l r names (Nothing why) = refl

pub restricted_as_before : (n : NodeNo) (o : ℕ) (l r : Term) → restricted (Comparison n o l r) ≡ name_before (before o l r)
unfolding restricted
restricted_as_before n o l r = go (is_equality o)
  where
    go : (b : Bool) → pick b (tied_name (equality l r)) none ≡ name_before (pick b (by_sides (bare l) (bare r) (ties l) (ties r)) neither)
    go true = name_plain (equality l r) ∙ ap name_before (same_answer l r)
    go false = refl

pub broken_as_before : (n : NodeNo) (o : ℕ) (l r : Term) (names : Set) → comparison_broken n o l r names ≡ broken_before n l r names (before o l r)
broken_as_before n o l r names = go (is_equality o)
  where
    go : (b : Bool)
        → pick b (equality_broken n l r names (equality l r)) (other_broken n l r names) ≡ broken_before n l r names (pick b (by_sides (bare l) (bare r) (ties l) (ties r)) neither)
    go true = broken_plain n l r names (equality l r) ∙ ap (broken_before n l r names) (same_answer l r)
    go false = refl
