-- Document 01, 'Free and restricted names', and what it means that a condition holds a sigil. Assumes nothing: these are definitions.
use Rattle.std.specs.Prelude.{ℕ, Bool, true, false, ◌||◌, eqb, Option, Some, None}
use Rattle.paper.specs.declared.NameNo.{NameNo}
use Rattle.paper.specs.declared.Slot.{Slot}
use Rattle.paper.specs.declared.Slot.TheVariants as slot
use Rattle.paper.specs.declared.Reason.TheVariants as reason
use Rattle.paper.specs.declared.Equality.{Equality}
use Rattle.paper.specs.declared.Equality.TheVariants.{Left, Right, Nothing}
use Rattle.paper.specs.Record.{pick}
use Rattle.paper.specs.Sets.{Set, none, only, ◌∪◌, ◌∖◌}
use Rattle.paper.specs.Tree.{Condition, Term, Arguments, Items, Binders}
use Rattle.paper.specs.Tree.Condition.{And, Or, Not, Past, Since, Exists, Comparison, Predicate, Refine, Tp, Opaque}
use Rattle.paper.specs.Tree.Term.{Var, Wildcard, Value, Sigil, Array, Arith, Sum, Count, AggregateCall}
use Rattle.paper.specs.Tree.Arguments.{no_argument, argument}
use Rattle.paper.specs.Tree.Items.{no_item, item}
use Rattle.paper.specs.Tree.Binders.{no_binder, binder}

-- ---- slots

-- the name of a slot, if it is one
unfoldable pub named : Slot → Set
named (slot.Name x) = only x.0
named (slot.Param k) = none
named (slot.Binder k) = none

unfoldable pub is_sigil : Slot → Bool
is_sigil (slot.Name x) = false
is_sigil (slot.Param k) = true
is_sigil (slot.Binder k) = true

-- the named binders of an aggregate's list
unfoldable pub binder_names : Binders → Set
binder_names (no_binder n) = none
binder_names (binder n s y l) = named s ∪ binder_names l

-- ---- free

-- "variables anywhere in terms (arrays, arithmetic, predicate arguments, refinement fields), named tp slots; exists removes its named
-- binder; an aggregate gives its body's free names less its named binders. The summed slot adds nothing. Calls and sigils give none."
unfoldable mutual
  pub free : Condition → Set
  free (And n l r) = free l ∪ free r
  free (Or n l r) = free l ∪ free r
  free (Not n b) = free b
  free (Past n k b w) = free b
  free (Since n l r w) = free l ∪ free r
  free (Exists n s y b) = free b ∖ named s
  free (Comparison n o l r) = term_free l ∪ term_free r
  free (Predicate n a l) = arguments_free l
  free (Refine n b l) = free b ∪ arguments_free l
  free (Tp n s) = named s
  free (Opaque n k y) = none

  pub term_free : Term → Set
  term_free (Var n x) = only x.0
  term_free (Wildcard n) = none
  term_free (Value n k y) = none
  term_free (Sigil n k i) = none
  term_free (Array n l) = items_free l
  term_free (Arith n o l r) = term_free l ∪ term_free r
  term_free (Sum n s l b) = free b ∖ binder_names l
  term_free (Count n l b) = free b ∖ binder_names l
  term_free (AggregateCall n y) = none

  pub arguments_free : Arguments → Set
  arguments_free (no_argument n) = none
  arguments_free (argument n f t l) = term_free t ∪ arguments_free l

  pub items_free : Items → Set
  items_free (no_item n) = none
  items_free (item n t l) = term_free t ∪ items_free l

-- ---- the binding equality

-- a wildcard "at any depth through arithmetic and arrays"
unfoldable mutual
  pub has_wildcard : Term → Bool
  has_wildcard (Var n x) = false
  has_wildcard (Wildcard n) = true
  has_wildcard (Value n k y) = false
  has_wildcard (Sigil n k i) = false
  has_wildcard (Array n l) = items_wildcard l
  has_wildcard (Arith n o l r) = has_wildcard l || has_wildcard r
  has_wildcard (Sum n s l b) = false
  has_wildcard (Count n l b) = false
  has_wildcard (AggregateCall n y) = false

  pub items_wildcard : Items → Bool
  items_wildcard (no_item n) = false
  items_wildcard (item n t l) = has_wildcard t || items_wildcard l

-- a bare variable: one that is the whole term
unfoldable pub bare : Term → Option NameNo
bare (Var n x) = Some x
bare (Wildcard n) = None
bare (Value n k y) = None
bare (Sigil n k i) = None
bare (Array n l) = None
bare (Arith n o l r) = None
bare (Sum n s l b) = None
bare (Count n l b) = None
bare (AggregateCall n y) = None

unfoldable pub about : Option NameNo → Set
about (Some x) = only x.0
about None = none

-- "unless the other side is a wildcard or arithmetic containing one": what the equality gives, by the side that is no bare variable. `x == ?p` gives x
unfoldable pub unless : Term → Equality → Equality
unless (Var n x) gives = gives
unless (Wildcard n) gives = Nothing reason.Wildcard
unless (Value n k y) gives = gives
unless (Sigil n k i) gives = gives
unless (Array n l) gives = gives
unless (Arith n o l r) gives = pick (has_wildcard l || has_wildcard r) (Nothing reason.Arithmetic) gives
unless (Sum n s l b) gives = gives
unless (Count n l b) gives = gives
unless (AggregateCall n y) gives = gives

-- "an equality with exactly one bare variable gives it": the bare variables of the two sides, and the sides
unfoldable pub by_bare : Option NameNo → Option NameNo → Term → Term → Equality
by_bare (Some x) (Some y) l r = Nothing reason.BothBare
by_bare (Some x) None l r = unless r (Left x)
by_bare None (Some y) l r = unless l (Right y)
by_bare None None l r = Nothing reason.NeitherBare

-- document 02, W-205: "which side is tied, or which of four reasons holds: both bare, neither bare, wildcard, arithmetic with a wildcard"
unfoldable pub equality : Term → Term → Equality
equality l r = by_bare (bare l) (bare r) l r

unfoldable pub tied_name : Equality → Set
tied_name (Left x) = only x.0
tied_name (Right x) = only x.0
tied_name (Nothing why) = none

-- "op 0 is equality, 1 to 5 the others, all treated alike"
abbrev pub is_equality : ℕ → Bool
is_equality op = eqb op 0

-- ---- restricted

-- "direct Var arguments"
unfoldable pub direct : Arguments → Set
direct (no_argument n) = none
direct (argument n f t l) = about (bare t) ∪ direct l

-- "And joins both sides; Not and Or give none; a predicate's direct Var arguments; a named tp; Formerly and Previous their body;
-- Since its right; Exists its body less the binder; Refine its base plus direct Var fields; an equality .."
unfoldable pub restricted : Condition → Set
restricted (And n l r) = restricted l ∪ restricted r
restricted (Or n l r) = none
restricted (Not n b) = none
restricted (Past n k b w) = restricted b
restricted (Since n l r w) = restricted r
restricted (Exists n s y b) = restricted b ∖ named s
restricted (Comparison n o l r) = pick (is_equality o) (tied_name (equality l r)) none
restricted (Predicate n a l) = direct l
restricted (Refine n b l) = restricted b ∪ direct l
restricted (Tp n s) = named s
restricted (Opaque n k y) = none

-- ---- "holds a sigil"

-- "Call, SigilRef, aggregate Call, ParamRef, BinderRef anywhere, or a sigil tp slot. Sigil slots of exists, binder cells and sums don't count."
unfoldable mutual
  pub holds_sigil : Condition → Bool
  holds_sigil (And n l r) = holds_sigil l || holds_sigil r
  holds_sigil (Or n l r) = holds_sigil l || holds_sigil r
  holds_sigil (Not n b) = holds_sigil b
  holds_sigil (Past n k b w) = holds_sigil b
  holds_sigil (Since n l r w) = holds_sigil l || holds_sigil r
  holds_sigil (Exists n s y b) = holds_sigil b
  holds_sigil (Comparison n o l r) = term_sigil l || term_sigil r
  holds_sigil (Predicate n a l) = arguments_sigil l
  holds_sigil (Refine n b l) = holds_sigil b || arguments_sigil l
  holds_sigil (Tp n s) = is_sigil s
  holds_sigil (Opaque n k y) = true

  pub term_sigil : Term → Bool
  term_sigil (Var n x) = false
  term_sigil (Wildcard n) = false
  term_sigil (Value n k y) = false
  term_sigil (Sigil n k i) = true
  term_sigil (Array n l) = items_sigil l
  term_sigil (Arith n o l r) = term_sigil l || term_sigil r
  term_sigil (Sum n s l b) = holds_sigil b
  term_sigil (Count n l b) = holds_sigil b
  term_sigil (AggregateCall n y) = true

  pub arguments_sigil : Arguments → Bool
  arguments_sigil (no_argument n) = false
  arguments_sigil (argument n f t l) = term_sigil t || arguments_sigil l

  pub items_sigil : Items → Bool
  items_sigil (no_item n) = false
  items_sigil (item n t l) = term_sigil t || items_sigil l
