-- What slots are, and what is said of a list of binders at a node, whatever is asked of it. Assumes nothing.
use mathlib.Core.Path.{◌≡◌, refl, sym, ap, ◌∙◌, subst, fun_ext}
use Rattle.std.specs.Prelude.{Option, None, Some}
use mathlib.Core.Bool.{Bool, true, false, ◌||◌}
use Rattle.std.specs.List.{list_any}
use mathlib.Core.List.{List, [], ◌∷◌}
use Prim.Native.Nat.{ℕ, zero, suc, ◌<◌}
use native.Mathlib.Omega.{arith}
use lib.ListN.{get_or}
use types.Run.{OneOf, miss}
use denote.Enum.Declared.{tag_of}
use Rattle.paper.specs.contracts.Slot.{the_type as slot_type}
use Rattle.paper.specs.declared.NodeNo.{NodeNo}
use Rattle.paper.specs.declared.Slot.{Slot}
use Rattle.paper.specs.declared.Slot.TheVariants.{Name, Param, Binder}
use Rattle.paper.specs.declared.Node.{Node}
use Rattle.paper.specs.declared.Node.TheVariants as node
use Rattle.paper.specs.Sets.{Set, none, ◌∪◌}
use Rattle.paper.specs.Record.{node_no}
use Rattle.paper.specs.Tree.{Binders, Tree, as_binders, planted}
use Rattle.paper.specs.Tree.Binders.{no_binder, binder}
use Rattle.paper.specs.Shape.{slot_names}
use Rattle.paper.specs.FreeAndRestricted.{named, is_sigil, binder_names}
use Rattle.paper.specs.Scoping.{binder_sigil}
use Rattle.paper.proofs.Walks.{All}
use Rattle.record.specs.Stored.{held, Has}
use Rattle.trees.specs.Trees.{tree_of, binders_of}
use Rattle.trees.proofs.Arms.{Arm, arm}
use Rattle.trees.proofs.ByKind.{by_kind, binders_cases}
use Rattle.trees.specs.Terms.{Tabled}
use Rattle.slots.specs.Binders.{binder_of, slots_of}

pub sigil_slot : (s : Slot) → OneOf (1 ∷ 2 ∷ []) (tag_of slot_type s) → is_sigil s ≡ true
unfolding is_sigil
sigil_slot (Name x) h = absurd (miss (1 ∷ 2 ∷ []) 0 tt h)
sigil_slot (Param k) h = refl
sigil_slot (Binder k) h = refl

-- a slot's name is in the table where the slot's names are
pub slot_tabled : (s : Slot) → All (λ x. x < 128) (slot_names s) → Tabled s
slot_tabled (Name x) a = a.0
slot_tabled (Param k) a = tt
slot_tabled (Binder k) a = tt

pub unnamed_slot : (s : Slot) → OneOf (1 ∷ 2 ∷ []) (tag_of slot_type s) → named s ≡ none
unfolding named
unnamed_slot (Name x) h = absurd (miss (1 ∷ 2 ∷ []) 0 tt h)
unnamed_slot (Param k) h = refl
unnamed_slot (Binder k) h = refl

module _ {columns : List ℕ} {i : ℕ} where
  pub in_cells : {A : Type 0} (f : Binders → A) {m : Node} → Arm columns i m → f (binders_of columns i) ≡ f (as_binders (planted (tree_of columns) (node_no i) m))
  in_cells f a = ap (λ (t : Tree). f (as_binders t)) a.tree

  pub sigil_cell : {s : Slot} {y : ℕ} {l : NodeNo} → Arm columns i (node.BinderCell s y l)
      → binder_sigil (binders_of columns i) ≡ (is_sigil s || binder_sigil (binders_of columns l.0))
  unfolding planted as_binders binder_sigil
  sigil_cell a = in_cells binder_sigil a

  pub binders_cell : {s : Slot} {y : ℕ} {l : NodeNo} → Arm columns i (node.BinderCell s y l)
      → binder_names (binders_of columns i) ≡ named s ∪ binder_names (binders_of columns l.0)
  unfolding planted as_binders binder_names
  binders_cell a = in_cells binder_names a

-- ---- a binder cell, as it is read

-- what is read as a cell is one
cell_no_end : {c : Slot × NodeNo} → Some c ≡ None → ⊥
cell_no_end e = let z : ◌≡◌ {A = ℕ} 0 1 = cc in omega arith

cell_read : ℕ → Option (Slot × NodeNo) → Node
cell_read y None = node.ListEnd
cell_read y (Some c) = node.BinderCell c.0 y c.1

cell_same : {s t : Slot} {l r : NodeNo} (y : ℕ) → ◌≡◌ {A = Option (Slot × NodeNo)} (Some (s, l)) (Some (t, r)) → node.BinderCell t y r ≡ node.BinderCell s y l
unfolding cell_read
cell_same y e = sym (ap (cell_read y) e)

cell_is : {s : Slot} {l : NodeNo} (m : Node) → Some (s, l) ≡ binder_of m → (y : ℕ) × (m ≡ node.BinderCell s y l)
unfolding binder_of
cell_is {s} {l} =
    by_kind (λ m. Some (s, l) ≡ binder_of m → (y : ℕ) × (m ≡ node.BinderCell s y l))
    (λ l r e. absurd (cell_no_end e)) (λ l r e. absurd (cell_no_end e)) (λ b e. absurd (cell_no_end e)) (λ b w e. absurd (cell_no_end e))
    (λ b w e. absurd (cell_no_end e)) (λ l r w e. absurd (cell_no_end e)) (λ s y b e. absurd (cell_no_end e)) (λ o l r e. absurd (cell_no_end e))
    (λ a l e. absurd (cell_no_end e)) (λ b l e. absurd (cell_no_end e)) (λ s e. absurd (cell_no_end e)) (λ y e. absurd (cell_no_end e))
    (λ y e. absurd (cell_no_end e)) (λ x e. absurd (cell_no_end e)) (λ e. absurd (cell_no_end e)) (λ y e. absurd (cell_no_end e))
    (λ y e. absurd (cell_no_end e)) (λ y e. absurd (cell_no_end e)) (λ k e. absurd (cell_no_end e)) (λ k e. absurd (cell_no_end e))
    (λ l e. absurd (cell_no_end e)) (λ o l r e. absurd (cell_no_end e)) (λ s l b e. absurd (cell_no_end e)) (λ l b e. absurd (cell_no_end e))
    (λ y e. absurd (cell_no_end e)) (λ e. absurd (cell_no_end e)) (λ f x l e. absurd (cell_no_end e)) (λ x l e. absurd (cell_no_end e))
    (λ t y r e. (y, cell_same y e))

-- what is said of a list without a cell
no_cell : {A : Type 0} (f : Binders → A) (v : A) → ((n : NodeNo) → f (no_binder n) ≡ v) → (t : ℕ → Tree) (n : NodeNo) (m : Node)
    → None ≡ binder_of m → f (as_binders (planted t n m)) ≡ v
unfolding binder_of
no_cell f v e t n =
    binders_cases t n (λ m z. None ≡ binder_of m → f z ≡ v) (λ h. e n) (λ s y l h. absurd (cell_no_end (sym h))) (λ m d h. e _)

module _ {columns : List ℕ} {i : ℕ} {b : Option (Slot × NodeNo)} (h : Has columns i) (e : b ≡ binder_of (get_or (held columns) i node.ListEnd)) where
  pub cell_arm : {s : Slot} {l : NodeNo} → b ≡ Some (s, l) → (y : ℕ) × Arm columns i (node.BinderCell s y l)
  cell_arm p = let c = cell_is _ (sym p ∙ e) in (c.0, arm columns i _ _ h refl c.1)

  pub at_end : {A : Type 0} (f : Binders → A) {v : A} → ((n : NodeNo) → f (no_binder n) ≡ v) → b ≡ None → f (binders_of columns i) ≡ v
  at_end f z p = in_cells f (arm columns i _ _ h refl refl) ∙ no_cell f _ z _ _ _ (sym p ∙ e)

pub sigil_end : (n : NodeNo) → binder_sigil (no_binder n) ≡ false
unfolding binder_sigil
sigil_end n = refl

pub binders_end : (n : NodeNo) → binder_names (no_binder n) ≡ none
unfolding binder_names
binders_end n = refl

-- ---- the slots of a list, one after the other

pub slots_end : (n : NodeNo) → slots_of (no_binder n) ≡ []
unfolding slots_of
slots_end n = refl

pub slots_cell : {columns : List ℕ} {i : ℕ} {s : Slot} {y : ℕ} {l : NodeNo} → Arm columns i (node.BinderCell s y l)
    → slots_of (binders_of columns i) ≡ s ∷ slots_of (binders_of columns l.0)
unfolding planted as_binders slots_of
slots_cell a = in_cells slots_of a

-- their names are in the table
tabled_below : (columns : List ℕ) (n i : ℕ) → i < n → Has columns i → All Tabled (slots_of (binders_of columns i))
tabled_below columns zero i h g = absurd (omega arith)
tabled_below columns (suc n) i h g = go (λ k l. tabled_below columns n k l) (binder_of (get_or (held columns) i node.ListEnd)) refl
  where
    go : ((k : ℕ) → k < n → Has columns k → All Tabled (slots_of (binders_of columns k))) → (b : Option (Slot × NodeNo)) → b ≡ binder_of (get_or (held columns) i node.ListEnd) → All Tabled (slots_of (binders_of columns i))
    go below None e = subst (All Tabled) (sym (at_end g e slots_of slots_end refl)) tt
    go below (Some (s, l)) e =
        let a = (cell_arm g e refl).1 in
        let f = a.children.0.falls in
        subst (All Tabled) (sym (slots_cell a)) (slot_tabled s a.tabled, below l.0 (omega arith) a.children.0.has)

pub slots_tabled : (columns : List ℕ) (i : ℕ) → Has columns i → All Tabled (slots_of (binders_of columns i))
slots_tabled columns i h = tabled_below columns (suc i) i (omega arith) h

-- the names of some slots, and whether one is a sigil
abbrev pub names_of : List Slot → Set
names_of [] = none
names_of (s ∷ l) = named s ∪ names_of l

pub names_are : (l : Binders) → names_of (slots_of l) ≡ binder_names l
unfolding slots_of binder_names
names_are (no_binder n) = refl
names_are (binder n s y l) = ap (λ (a : Set). named s ∪ a) (names_are l)

pub sigils_are : (l : Binders) → list_any is_sigil (slots_of l) ≡ binder_sigil l
unfolding slots_of binder_sigil
sigils_are (no_binder n) = refl
sigils_are (binder n s y l) = ap (λ b. is_sigil s || b) (sigils_are l)

-- ---- unions, of which these are made

pub union_none : (a : Set) → a ∪ none ≡ a
unfolding ◌∪◌ none
union_none a = fun_ext (λ k. or_false (a k))
  where
    or_false : (b : Bool) → (b || false) ≡ b
    or_false true = refl
    or_false false = refl

pub union_assoc : (a b c : Set) → (a ∪ b) ∪ c ≡ a ∪ (b ∪ c)
unfolding ◌∪◌
union_assoc a b c = fun_ext (λ k. or_assoc (a k) (b k) (c k))
  where
    or_assoc : (x y z : Bool) → ((x || y) || z) ≡ (x || (y || z))
    or_assoc true y z = refl
    or_assoc false y z = refl
