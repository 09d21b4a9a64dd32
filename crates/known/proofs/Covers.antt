-- When some names are covered by others, as far as the table goes; what follows from binders that have none of some names, and how that is told. Assumes nothing.
use mathlib.Core.Path.{◌≡◌, refl, sym, ap, ◌∙◌}
use mathlib.Core.Bool.{Bool, true, false, not, ◌||◌, ◌&&◌, true≢false}
use mathlib.Core.List.{[]}
use Prim.Native.Nat.{ℕ, ◌<◌}
use borrow.Author.Tests.{eqb-true, eq-eqb}
use Rattle.paper.specs.declared.Slot.{Slot}
use Rattle.paper.specs.declared.Slot.TheVariants as slot
use Rattle.paper.specs.Sets.{Set, none, only, ◌∪◌, ◌∖◌, outside, members}
use Rattle.paper.specs.Tree.{Binders}
use Rattle.paper.specs.Tree.Binders.{no_binder, binder}
use Rattle.paper.specs.FreeAndRestricted.{named, binder_names}
use Rattle.paper.proofs.SetLaws.{all_get, members_none}
use Rattle.names.specs.Apart.{Apart}
use Rattle.known.specs.Needs.{slot_in, binder_in, has_none}

pub or_none : (a b : Bool) → (a || b) ≡ false → (a ≡ false) × (b ≡ false)
or_none true b e = absurd (true≢false e)
or_none false b e = (refl, e)

abbrev pub Covers : Set → Set → Type 0
Covers s ties = (k : ℕ) → k < 128 → s k ≡ true → ties k ≡ true

pub or_left : (a b : Bool) → a ≡ true → (a || b) ≡ true
or_left true b e = refl
or_left false b e = absurd (true≢false (sym e))

pub or_right : (a b : Bool) → b ≡ true → (a || b) ≡ true
or_right true b e = refl
or_right false b e = e

less : (a b : Bool) → a ≡ true → b ≡ false → (a && not b) ≡ true
less a b e f = rw (e, f)

pub covers_left : (a b ties : Set) → Covers (a ∪ b) ties → Covers a ties
unfolding ◌∪◌
covers_left a b ties f k h e = f k h (or_left (a k) (b k) e)

pub covers_right : (a b ties : Set) → Covers (a ∪ b) ties → Covers b ties
unfolding ◌∪◌
covers_right a b ties f k h e = f k h (or_right (a k) (b k) e)

-- what is given need not be tied
pub covers_eased : (a given ties : Set) → Covers (a ∖ given) ties → Covers a (ties ∪ given)
unfolding ◌∪◌ ◌∖◌
covers_eased a given ties f k h e = go (given k) refl
  where
    go : (b : Bool) → given k ≡ b → (ties k || given k) ≡ true
    go true g = or_right (ties k) (given k) g
    go false g = or_left (ties k) (given k) (f k h (less (a k) (given k) e g))

-- below a binder, if its names are not among those that have to be covered
pub covers_bound : (a own ties : Set) → Covers (a ∖ own) ties → ((k : ℕ) → own k ≡ true → a k ≡ false) → Covers a (ties ∖ own)
unfolding ◌∖◌
covers_bound a own ties f out k h e = go (own k) refl
  where
    go : (b : Bool) → own k ≡ b → (ties k && not (own k)) ≡ true
    go true g = absurd (true≢false (sym e ∙ out k g))
    go false g = less (ties k) (own k) (f k h (less (a k) (own k) e g)) g

-- none of the names is left
pub none_left : (a ties : Set) → Covers a ties → members (a ∖ ties) 128 ≡ []
unfolding ◌∖◌
none_left a ties f = members_none _ 128 (λ k h. go k h (a k) refl)
  where
    go : (k : ℕ) → k < 128 → (b : Bool) → a k ≡ b → (a k && not (ties k)) ≡ false
    go k h true e = rw (e, f k h e)
    go k h false e = rw e

-- what a test of a set says
pub has_none_covers : (a ties : Set) → has_none (a ∖ ties) ≡ true → Covers a ties
unfolding has_none outside ◌∖◌
has_none_covers a ties e k h g = go (ties k) (rw_all (all_get 128 _ e k h))
  where
    rw_all : not (a k && not (ties k)) ≡ true → not (not (ties k)) ≡ true
    rw_all d = ap (λ (b : Bool). not (b && not (ties k))) (sym g) ∙ d

    go : (b : Bool) → not (not b) ≡ true → b ≡ true
    go true d = refl
    go false d = d

-- ---- binders that have none of some names

pub slot_out : (s : Slot) (a : Set) → slot_in s a ≡ false → (k : ℕ) → named s k ≡ true → a k ≡ false
unfolding slot_in named only none
slot_out (slot.Name x) a e k g = ap a (eqb-true k x.0 g) ∙ e
slot_out (slot.Param p) a e k g = absurd (true≢false (sym g))
slot_out (slot.Binder p) a e k g = absurd (true≢false (sym g))

pub binder_out : (l : Binders) (a : Set) → binder_in l a ≡ false → (k : ℕ) → binder_names l k ≡ true → a k ≡ false
unfolding binder_in binder_names none ◌∪◌
binder_out (no_binder n) a e k g = absurd (true≢false (sym g))
binder_out (binder n s y l) a e k g = let p = or_none (slot_in s a) (binder_in l a) e in go (slot_out s a p.0 k) (binder_out l a p.1 k) (named s k) refl
  where
    go : (named s k ≡ true → a k ≡ false) → (binder_names l k ≡ true → a k ≡ false) → (b : Bool) → named s k ≡ b → a k ≡ false
    go here below true d = here d
    go here below false d = below (ap (λ (z : Bool). z || binder_names l k) (sym d) ∙ g)

-- ---- what a test of binders says

slot_none : (s : Slot) (a : Set) → ((k : ℕ) → named s k ≡ true → a k ≡ false) → slot_in s a ≡ false
unfolding slot_in named only
slot_none (slot.Name x) a f = f x.0 (eq-eqb x.0 x.0 refl)
slot_none (slot.Param p) a f = refl
slot_none (slot.Binder p) a f = refl

binder_none : (l : Binders) (a : Set) → ((k : ℕ) → binder_names l k ≡ true → a k ≡ false) → binder_in l a ≡ false
unfolding binder_in binder_names ◌∪◌
binder_none (no_binder n) a f = refl
binder_none (binder n s y l) a f =
    rw (
      slot_none s a (λ k e. f k (or_left (named s k) (binder_names l k) e)),
      binder_none l a (λ k e. f k (or_right (named s k) (binder_names l k) e)),
    )

-- over whatever binds names: `held` says whether one of some names is among them
said_of : {names : Set} (a : Set) (held : Bool) → (((k : ℕ) → names k ≡ true → a k ≡ false) → held ≡ false)
    → (held ≡ false → (k : ℕ) → names k ≡ true → a k ≡ false) → {said : Bool} → Apart said names a → not said ≡ held
said_of a held none out {said} p = go said refl held refl
  where
    go : (x : Bool) → said ≡ x → (y : Bool) → held ≡ y → not said ≡ held
    go true e y d = ap not e ∙ sym (none (p.yes e))
    go false e true d = ap not e ∙ sym d
    go false e false d = let q = p.no e in absurd (true≢false (sym q.2 ∙ out d q.0 q.1))

pub slot_said : (s : Slot) (a : Set) {said : Bool} → Apart said (named s) a → not said ≡ slot_in s a
slot_said s a p = said_of a (slot_in s a) (slot_none s a) (slot_out s a) p

pub binder_said : (l : Binders) (a : Set) {said : Bool} → Apart said (binder_names l) a → not said ≡ binder_in l a
binder_said l a p = said_of a (binder_in l a) (binder_none l a) (binder_out l a) p
