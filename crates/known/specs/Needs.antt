-- What can be found below a condition, told before a walk goes there, so that a walk enters only where there is something to find. Each of these may say too much,
-- and then a walk enters for nothing; none may say too little. Assumes nothing: these are definitions.
use Rattle.std.specs.Prelude.{Bool, true, false, not, ◌||◌, ◌&&◌}
use Rattle.paper.specs.declared.Slot.{Slot}
use Rattle.paper.specs.declared.Slot.TheVariants as slot
use Rattle.paper.specs.declared.Equality.{Equality}
use Rattle.paper.specs.declared.Equality.TheVariants.{Left, Right, Nothing}
use Rattle.paper.specs.Record.{pick}
use Rattle.paper.specs.Sets.{Set, none, ◌∪◌, ◌∖◌, outside, all_below}
use Rattle.paper.specs.Tree.{Condition, Term, Arguments, Items, Binders}
use Rattle.paper.specs.Tree.Condition.{And, Or, Not, Past, Since, Exists, Comparison, Predicate, Refine, Tp, Opaque}
use Rattle.paper.specs.Tree.Term.{Var, Wildcard, Value, Sigil, Array, Arith, Sum, Count, AggregateCall}
use Rattle.paper.specs.Tree.Arguments.{no_argument, argument}
use Rattle.paper.specs.Tree.Items.{no_item, item}
use Rattle.paper.specs.Tree.Binders.{no_binder, binder}
use Rattle.paper.specs.FreeAndRestricted.{named, is_sigil, binder_names, free, term_free, restricted, equality, is_equality, holds_sigil}
use Rattle.paper.specs.Scoping.{binder_sigil}

-- ---- binders

-- whether a slot has a name, and it is one of these
unfoldable pub slot_in : Slot → Set → Bool
slot_in (slot.Name x) s = s x.0
slot_in (slot.Param k) s = false
slot_in (slot.Binder k) s = false

-- whether one of an aggregate's binders has
unfoldable pub binder_in : Binders → Set → Bool
binder_in (no_binder n) s = false
binder_in (binder n b y l) s = slot_in b s || binder_in l s

-- whether a set has a name of the table
unfoldable pub has_none : Set → Bool
has_none s = all_below 128 (outside s)

unfoldable pub has_some : Set → Bool
has_some s = not (has_none s)

-- ---- demands: 30 to 32

-- what an equality owes, from the free names of its sides: those of the side that ties the other, or all
unfoldable pub owes : Equality → Set → Set → Set
owes (Left x) left right = right
owes (Right x) left right = left
owes (Nothing why) left right = left ∪ right

-- NEED: the names that may be unmet below where nothing is tied above. A name that is tied above is met, and so is one that is tied on the way down.
unfoldable mutual
  pub need : Condition → Set
  need (And n l r) = need l ∪ (need r ∖ restricted l)
  need (Or n l r) = need l ∪ need r
  need (Not n b) = need b ∪ free b
  need (Past n k b w) = need b
  need (Since n l r w) = need r ∪ ((need l ∪ free l) ∖ restricted r)
  need (Exists n s y b) = need b ∖ named s
  need (Comparison n o l r) = pick (is_equality o) (owes (equality l r) (term_free l) (term_free r)) (term_free l ∪ term_free r) ∪ (term_need l ∪ term_need r)
  need (Predicate n a l) = none
  need (Refine n b l) = need b
  need (Tp n s) = none
  need (Opaque n k y) = none

  -- of an operand
  pub term_need : Term → Set
  term_need (Var n x) = none
  term_need (Wildcard n) = none
  term_need (Value n k y) = none
  term_need (Sigil n k i) = none
  term_need (Array n l) = none
  term_need (Arith n o l r) = term_need l ∪ term_need r
  term_need (Sum n s l b) = need b ∖ binder_names l
  term_need (Count n l b) = need b ∖ binder_names l
  term_need (AggregateCall n y) = none

-- HARD: a binder below has its own name in its body's need. Nothing that is tied above helps, since the binder takes the name out.
unfoldable mutual
  pub hard : Condition → Bool
  hard (And n l r) = hard l || hard r
  hard (Or n l r) = hard l || hard r
  hard (Not n b) = hard b
  hard (Past n k b w) = hard b
  hard (Since n l r w) = hard l || hard r
  hard (Exists n s y b) = hard b || slot_in s (need b)
  hard (Comparison n o l r) = term_hard l || term_hard r
  hard (Predicate n a l) = false
  hard (Refine n b l) = hard b
  hard (Tp n s) = false
  hard (Opaque n k y) = false

  pub term_hard : Term → Bool
  term_hard (Var n x) = false
  term_hard (Wildcard n) = false
  term_hard (Value n k y) = false
  term_hard (Sigil n k i) = false
  term_hard (Array n l) = false
  term_hard (Arith n o l r) = term_hard l || term_hard r
  term_hard (Sum n s l b) = hard b || binder_in l (need b)
  term_hard (Count n l b) = hard b || binder_in l (need b)
  term_hard (AggregateCall n y) = false

-- ---- scoping: 20 to 27

-- COMPUTED: an aggregate or arithmetic, which may not stand where a term is searched for it, through arrays
unfoldable mutual
  pub computed : Term → Bool
  computed (Var n x) = false
  computed (Wildcard n) = false
  computed (Value n k y) = false
  computed (Sigil n k i) = false
  computed (Array n l) = items_computed l
  computed (Arith n o l r) = true
  computed (Sum n s l b) = true
  computed (Count n l b) = true
  computed (AggregateCall n y) = true

  pub items_computed : Items → Bool
  items_computed (no_item n) = false
  items_computed (item n t l) = computed t || items_computed l

unfoldable pub arguments_computed : Arguments → Bool
arguments_computed (no_argument n) = false
arguments_computed (argument n f t l) = computed t || arguments_computed l

-- of a condition: whether an argument or an operand of it is
unfoldable pub reckoned : Condition → Bool
reckoned (And n l r) = reckoned l || reckoned r
reckoned (Or n l r) = reckoned l || reckoned r
reckoned (Not n b) = reckoned b
reckoned (Past n k b w) = reckoned b
reckoned (Since n l r w) = reckoned l || reckoned r
reckoned (Exists n s y b) = reckoned b
reckoned (Comparison n o l r) = computed l || computed r
reckoned (Predicate n a l) = arguments_computed l
reckoned (Refine n b l) = reckoned b
reckoned (Tp n s) = false
reckoned (Opaque n k y) = false

-- an aggregate's own 24, 26 and 27, whatever is in scope: a summed name that no binder has, or a binder that the body does not restrict. One that is not free
-- is not restricted either.
unfoldable pub unfit : Slot → Binders → Condition → Bool
unfit s l b = slot_in s (outside (binder_names l)) || binder_in l (outside (restricted b))

-- BROKEN: one of 20, 21, 23, 24, 26 and 27 stands below, whatever is in scope and whatever is reserved
unfoldable mutual
  pub broken : Condition → Bool
  broken (And n l r) = broken l || broken r
  broken (Or n l r) = broken l || broken r
  broken (Not n b) = broken b
  broken (Past n k b w) = broken b
  broken (Since n l r w) = broken l || broken r
  broken (Exists n s y b) = broken b || (not (holds_sigil b) && slot_in s (outside (restricted b)))
  broken (Comparison n o l r) = term_broken l || term_broken r
  broken (Predicate n a l) = arguments_computed l
  broken (Refine n b l) = broken b
  broken (Tp n s) = false
  broken (Opaque n k y) = false

  -- of an operand
  pub term_broken : Term → Bool
  term_broken (Var n x) = false
  term_broken (Wildcard n) = false
  term_broken (Value n k y) = false
  term_broken (Sigil n k i) = false
  term_broken (Array n l) = items_computed l
  term_broken (Arith n o l r) = term_broken l || term_broken r
  term_broken (Sum n s l b) = not (is_sigil s || binder_sigil l) && (broken b || unfit s l b)
  term_broken (Count n l b) = not (binder_sigil l) && (broken b || binder_in l (outside (restricted b)))
  term_broken (AggregateCall n y) = false

-- BINDS: an exists, a tp or an aggregate that is entered stands below, where a name can be a reserved one: 22
unfoldable mutual
  pub binds : Condition → Bool
  binds (And n l r) = binds l || binds r
  binds (Or n l r) = binds l || binds r
  binds (Not n b) = binds b
  binds (Past n k b w) = binds b
  binds (Since n l r w) = binds l || binds r
  binds (Exists n s y b) = true
  binds (Comparison n o l r) = term_binds l || term_binds r
  binds (Predicate n a l) = false
  binds (Refine n b l) = binds b
  binds (Tp n s) = true
  binds (Opaque n k y) = false

  pub term_binds : Term → Bool
  term_binds (Var n x) = false
  term_binds (Wildcard n) = false
  term_binds (Value n k y) = false
  term_binds (Sigil n k i) = false
  term_binds (Array n l) = false
  term_binds (Arith n o l r) = term_binds l || term_binds r
  term_binds (Sum n s l b) = not (is_sigil s || binder_sigil l)
  term_binds (Count n l b) = not (binder_sigil l)
  term_binds (AggregateCall n y) = false

-- UNCLOSED: an aggregate that is entered has a free name, which has to be in scope: 25
unfoldable mutual
  pub unclosed : Condition → Bool
  unclosed (And n l r) = unclosed l || unclosed r
  unclosed (Or n l r) = unclosed l || unclosed r
  unclosed (Not n b) = unclosed b
  unclosed (Past n k b w) = unclosed b
  unclosed (Since n l r w) = unclosed l || unclosed r
  unclosed (Exists n s y b) = unclosed b
  unclosed (Comparison n o l r) = term_unclosed l || term_unclosed r
  unclosed (Predicate n a l) = false
  unclosed (Refine n b l) = unclosed b
  unclosed (Tp n s) = false
  unclosed (Opaque n k y) = false

  pub term_unclosed : Term → Bool
  term_unclosed (Var n x) = false
  term_unclosed (Wildcard n) = false
  term_unclosed (Value n k y) = false
  term_unclosed (Sigil n k i) = false
  term_unclosed (Array n l) = false
  term_unclosed (Arith n o l r) = term_unclosed l || term_unclosed r
  term_unclosed (Sum n s l b) = not (is_sigil s || binder_sigil l) && (unclosed b || has_some (free b ∖ binder_names l))
  term_unclosed (Count n l b) = not (binder_sigil l) && (unclosed b || has_some (free b ∖ binder_names l))
  term_unclosed (AggregateCall n y) = false

-- ---- what a walk asks before it goes down

-- with these names tied, no demand below is unmet
unfoldable pub met : Set → Bool → Set → Bool
met needs hard ties = not hard && has_none (needs ∖ ties)

-- with these words reserved and these names in scope, no rule of scoping is broken below
unfoldable pub sound : Bool → Bool → Bool → Set → Set → Set → Bool
sound broken binds unclosed free words scope = not broken && ((not binds || has_none words) && (not unclosed || has_none (free ∖ scope)))
