-- An aggregate: its cells, and its five rules as the code writes them. Assumes nothing.
use mathlib.Core.Path.{◌≡◌, refl, sym, ap, ap₂, ◌∙◌}
use mathlib.Core.Bool.{Bool, true, false, not, ◌&&◌, ◌||◌}
use mathlib.Core.List.{List, [], ◌∷◌, ◌++◌, append-nil}
use Prim.Native.Nat.{ℕ}
use types.Run.{OneOf, miss}
use denote.Enum.Declared.{tag_of}
use borrow.Author.Tests.{eq-eqb}
use Rattle.paper.specs.contracts.Node.{the_type}
use Rattle.paper.specs.contracts.Slot.{the_type as slot_type}
use Rattle.paper.specs.declared.NodeNo.{NodeNo}
use Rattle.paper.specs.declared.Finding.{Finding}
use Rattle.paper.specs.declared.Slot.{Slot}
use Rattle.paper.specs.declared.Slot.TheVariants.{Name, Param, Binder}
use Rattle.paper.specs.declared.Node.{Node}
use Rattle.paper.specs.declared.Node.TheVariants as node
use Rattle.paper.specs.Record.{node_no}
use Rattle.paper.specs.Sets.{Set, none, only, ◌∪◌, ◌∖◌, outside}
use Rattle.paper.specs.Tree.{Condition, Binders, Tree, as_term, as_binders, planted}
use Rattle.paper.specs.Tree.Binders.{no_binder, binder}
use Rattle.paper.specs.FreeAndRestricted.{named, binder_names, free, restricted}
use Rattle.paper.specs.Places.{Cell, for_names, at_cells, gather, at_cell, findings}
use Rattle.paper.specs.Scoping.{cell_of, cells}
use Rattle.trees.specs.Trees.{tree_of, condition_of, term_of, binders_of}
use Rattle.trees.proofs.Arms.{Arm}
use Rattle.trees.proofs.ByKind.{term_cases}
use Rattle.slots.proofs.SlotLaws.{in_cells}
use Rattle.known.proofs.SoundLaws.{gather_both}
use Rattle.cells.specs.Aggregates.{five, five_of}

-- ---- cells

pub cells_append : (rule : ℕ) (s : Set) (a b : List Cell) → findings (at_cells rule s (a ++ b)) ≡ findings (at_cells rule s a) ++ findings (at_cells rule s b)
unfolding findings
cells_append rule s a b = gather_both (at_cell rule s) a b

module _ {columns : List ℕ} {i : ℕ} where
  pub next_cell : {s : Slot} {y : ℕ} {l : NodeNo} → Arm columns i (node.BinderCell s y l)
      → cells (binders_of columns i) ≡ cell_of (node_no i) s ++ cells (binders_of columns l.0)
  unfolding planted as_binders cells
  next_cell a = in_cells cells a

pub cells_end : (n : NodeNo) → cells (no_binder n) ≡ []
unfolding cells
cells_end n = refl

pub no_entry_at_no_cell : (rule : ℕ) (s : Set) → findings (at_cells rule s []) ≡ []
unfolding findings gather
no_entry_at_no_cell rule s = refl

-- a rule at a slot of no name
pub no_cell_entry : (rule : ℕ) (s : Set) (n : NodeNo) (slot : Slot) → OneOf (1 ∷ 2 ∷ []) (tag_of slot_type slot) → findings (at_cells rule s (cell_of n slot)) ≡ []
unfolding findings gather cell_of
no_cell_entry rule s n (Name x) h = absurd (miss (1 ∷ 2 ∷ []) 0 tt h)
no_cell_entry rule s n (Param k) h = refl
no_cell_entry rule s n (Binder k) h = refl

-- ---- the cells that bind a name outside a set are those that bind one of the list's own names outside it

both_ways : (a b : Bool) → b ≡ true → (b && not a) ≡ not a
both_ways a true e = refl
both_ways a false e = absurd (mathlib.Core.Bool.true≢false (sym e))

own_outside : (rule : ℕ) (own a : Set) (l : Binders) → ((x : ℕ) → binder_names l x ≡ true → own x ≡ true)
    → gather (at_cell rule (own ∖ a)) (cells l) ≡ gather (at_cell rule (outside a)) (cells l)
unfolding cells gather cell_of at_cell ◌∖◌ ◌∪◌ outside named only binder_names
own_outside rule own a (no_binder n) h = refl
own_outside rule own a (binder n s y l) h =
    gather_both (at_cell rule (own ∖ a)) (cell_of n s) (cells l)
    ∙ ap₂ {C = List Finding} ◌++◌ (at_slot s (λ x e. h x (left x e))) (own_outside rule own a l (λ x e. h x (right x e)))
    ∙ sym (gather_both (at_cell rule (outside a)) (cell_of n s) (cells l))
  where
    left : (x : ℕ) → named s x ≡ true → binder_names (binder n s y l) x ≡ true
    left x e = rw e

    right : (x : ℕ) → binder_names l x ≡ true → binder_names (binder n s y l) x ≡ true
    right x e = rw e (either (named s x))
      where
        either : (b : Bool) → (b || true) ≡ true
        either true = refl
        either false = refl

    at_slot : (s : Slot) → ((x : ℕ) → named s x ≡ true → own x ≡ true) → gather (at_cell rule (own ∖ a)) (cell_of n s) ≡ gather (at_cell rule (outside a)) (cell_of n s)
    at_slot (Name x) k = rw (both_ways (a x.0) (own x.0) (k x.0 (eq-eqb x.0 x.0 refl)))
    at_slot (Param j) k = refl
    at_slot (Binder j) k = refl

-- ---- its five rules

module _ {columns : List ℕ} {i : ℕ} where
  in_term : {A : Type 0} (f : Rattle.paper.specs.Tree.Term → A) {m : Node} → Arm columns i m → f (term_of columns i) ≡ f (as_term (planted (tree_of columns)
      (node_no i) m))
  in_term f a = ap (λ (t : Tree). f (as_term t)) a.tree

  pub five_sum : (words scope : Set) {summed : Set} {s : Slot} {l b : NodeNo} → summed ≡ named s → Arm columns i (node.Sum s l b)
      → five_of words (term_of columns i) scope ≡ five words (node_no i) summed (binders_of columns l.0) (condition_of columns b.0) scope
  unfolding planted as_term five_of
  five_sum words scope {l = l} {b = b} e a =
      in_term (λ t. five_of words t scope) a
      ∙ ap (λ (z : Set). five words (node_no i) z (binders_of columns l.0) (condition_of columns b.0) scope) (sym e)

  pub five_count : (words scope : Set) {summed : Set} {l b : NodeNo} → summed ≡ none → Arm columns i (node.Count l b)
      → five_of words (term_of columns i) scope ≡ five words (node_no i) summed (binders_of columns l.0) (condition_of columns b.0) scope
  unfolding planted as_term five_of
  five_count words scope {l = l} {b = b} e a =
      in_term (λ t. five_of words t scope) a
      ∙ ap (λ (z : Set). five words (node_no i) z (binders_of columns l.0) (condition_of columns b.0) scope) (sym e)

-- no aggregate with a body
abbrev no_body_kinds : List ℕ
no_body_kinds = 0 ∷ 1 ∷ 2 ∷ 3 ∷ 4 ∷ 5 ∷ 6 ∷ 7 ∷ 8 ∷ 9 ∷ 10 ∷ 11 ∷ 12 ∷ 13 ∷ 14 ∷ 15 ∷ 16 ∷ 17 ∷ 18 ∷ 19 ∷ 20 ∷ 21 ∷ 24 ∷ 25 ∷ 26 ∷ 27 ∷ 28 ∷ []

no_five : (words scope : Set) (t : ℕ → Tree) (n : NodeNo) (m : Node) → OneOf no_body_kinds (tag_of the_type m) → five_of words (as_term (planted t n m)) scope ≡ []
unfolding five_of
no_five words scope t n =
    term_cases t n (λ m z. OneOf no_body_kinds (tag_of the_type m) → five_of words z scope ≡ [])
    (λ x h. refl) (λ h. refl) (λ y h. refl) (λ y h. refl) (λ y h. refl) (λ k h. refl) (λ k h. refl) (λ l h. refl) (λ o l r h. refl)
    (λ s l b h. absurd (miss no_body_kinds 22 tt h)) (λ l b h. absurd (miss no_body_kinds 23 tt h)) (λ y h. refl) (λ m e h. refl)

pub five_none : (words scope : Set) {columns : List ℕ} {i : ℕ} {m : Node} → Arm columns i m → OneOf no_body_kinds (tag_of the_type m)
    → five_of words (term_of columns i) scope ≡ []
five_none words scope a h = in_term (λ t. five_of words t scope) a ∙ no_five words scope _ _ _ h

-- ---- the five rules, over the sets that the code makes

abbrev pub written : Set → NodeNo → List Cell → Set → Set → Set → Set → List Finding
written words n cs unsummed unknown unused untied =
    findings (at_cells 22 words cs)
    ++ (findings (for_names 24 n unsummed)
    ++ (findings (for_names 25 n unknown) ++ (findings (at_cells 26 unused cs) ++ findings (at_cells 27 untied cs))))

pub five_are : (words : Set) (n : NodeNo) (summed : Set) (l : Binders) (b : Condition) (scope : Set)
    → gather findings (five words n summed l b scope)
    ≡ written words n (cells l) (summed ∖ binder_names l) (free b ∖ (scope ∪ binder_names l)) (binder_names l ∖ free b) (binder_names l ∖ restricted b)
unfolding five gather findings
five_are words n summed l b scope =
    ap₂ {C = List Finding} (λ (x y : List Finding). f22 ++ (f24 ++ (f25 ++ (x ++ y))))
    (sym (own_outside 26 (binder_names l) (free b) l (λ x e. e)))
    (append-nil _ ∙ sym (own_outside 27 (binder_names l) (restricted b) l (λ x e. e)))
  where
    f22 : List Finding
    f22 = findings (at_cells 22 words (cells l))

    f24 : List Finding
    f24 = findings (for_names 24 n (summed ∖ binder_names l))

    f25 : List Finding
    f25 = findings (for_names 25 n (free b ∖ (scope ∪ binder_names l)))
