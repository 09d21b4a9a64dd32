-- What `term_contains_wildcard`, `bare_var` and `unless` find at a node, and what an equality ties. Assumes nothing.
use mathlib.Core.Path.{◌≡◌, refl, sym, ap, ◌∙◌, subst}
use mathlib.Core.Bool.{true, false, ◌||◌}
use mathlib.Core.List.{List, [], ◌∷◌}
use Prim.Native.Nat.{ℕ, ◌<◌}
use lib.ListN.{get_or}
use types.Run.{OneOf, miss}
use denote.Enum.Declared.{tag_of}
use Rattle.paper.specs.contracts.Node.{the_type}
use Rattle.paper.specs.declared.NodeNo.{NodeNo}
use Rattle.paper.specs.declared.NameNo.{NameNo}
use Rattle.std.specs.Prelude.{Option, Some, None}
use Rattle.paper.specs.declared.Reason.TheVariants as reason
use Rattle.paper.specs.declared.Equality.{Equality}
use Rattle.paper.specs.declared.Equality.TheVariants.{Left, Right, Nothing}
use Rattle.paper.specs.declared.Node.{Node}
use Rattle.paper.specs.declared.Node.TheVariants as node
use Rattle.paper.specs.Record.{pick, node_no}
use Rattle.paper.specs.Shape.{names_in}
use Rattle.paper.specs.Tree.{Term, Tree, as_term, planted}
use Rattle.paper.specs.FreeAndRestricted.{has_wildcard, items_wildcard, bare, unless, by_bare, equality}
use Rattle.paper.proofs.Walks.{All}
use Rattle.paper.proofs.Equalities.{no_name, Means, means}
use Rattle.record.specs.Stored.{held, Has}
use Rattle.trees.specs.Trees.{tree_of, term_of, in_terms}
use Rattle.trees.proofs.Arms.{Arm, arm}
use Rattle.trees.proofs.ByKind.{by_kind, term_cases, in_terms_cases}
use Rattle.trees.proofs.Joins.{JoinsTerms}
use Rattle.trees.specs.Terms.{arguments_wildcard, wildcard_in, TabledTied}

-- ---- wildcards

pub wildcard_terms : JoinsTerms has_wildcard arguments_wildcard items_wildcard false ◌||◌
unfolding has_wildcard arguments_wildcard
wildcard_terms =
    record {
      array = λ n l. refl;
      arith = λ n o l r. refl;
      argument = λ n k t l. refl;
      item = λ n t l. refl;
      no_argument = λ n. refl;
      no_item = λ n. refl;
    }

same_name : {x y : NameNo} → Some x ≡ Some y → x ≡ y
same_name e = cc

module _ {columns : List ℕ} {i : ℕ} where
  pub wildcard_here : Arm columns i node.Wildcard → wildcard_in (tree_of columns i) ≡ true
  unfolding planted in_terms has_wildcard
  wildcard_here a = ap wildcard_in a.tree

  -- ---- the binding equality

  pub in_term : {A : Type 0} (f : Term → A) {m : Node} → Arm columns i m → f (term_of columns i) ≡ f (as_term (planted (tree_of columns) (node_no i) m))
  in_term f a = ap (λ (t : Tree). f (as_term t)) a.tree

  pub bare_here : {x : NameNo} → Arm columns i (node.Var x) → bare (term_of columns i) ≡ Some x
  unfolding planted as_term bare
  bare_here a = in_term bare a

  -- a bare variable is in the table
  pub bare_tabled : Has columns i → {x : NameNo} → bare (term_of columns i) ≡ Some x → x.0 < 128
  unfolding bare
  bare_tabled h {x} e = here (get_or (held columns) i node.ListEnd) (arm columns i _ _ h refl refl)
    where
      here : (m : Node) → Arm columns i m → x.0 < 128
      here m a =
          term_cases (tree_of columns) (node_no i) (λ m z. All (λ y. y < 128) (names_in m) → bare z ≡ Some x → x.0 < 128)
          (λ y a e. subst (λ (z : NameNo). z.0 < 128) (same_name e) a.0) (λ a e. absurd (no_name e)) (λ y a e. absurd (no_name e)) (λ y a e. absurd (no_name e))
          (λ y a e. absurd (no_name e)) (λ k a e. absurd (no_name e)) (λ k a e. absurd (no_name e)) (λ l a e. absurd (no_name e)) (λ o l r a e. absurd (no_name e))
          (λ s l b a e. absurd (no_name e)) (λ l b a e. absurd (no_name e)) (λ y a e. absurd (no_name e)) (λ m o a e. absurd (no_name e))
          m a.tabled (sym (in_term bare a) ∙ e)

  -- arithmetic gives nothing where it contains a wildcard
  pub unless_arith : {o : ℕ} {l r : NodeNo} (gives : Equality) → Arm columns i (node.Arith o l r)
      → unless (term_of columns i) gives ≡ pick (wildcard_in (tree_of columns i)) (Nothing reason.Arithmetic) gives
  unfolding planted as_term in_terms unless has_wildcard
  unless_arith gives a =
      in_term (λ (t : Term). unless t gives) a ∙ sym (ap (λ (t : Tree). pick (wildcard_in t) (Nothing reason.Arithmetic) gives) a.tree)

-- ---- what an equality ties

-- the bare variables of its sides decide
pub by_sides : (l r : Term) {p q : Option NameNo} → bare l ≡ p → bare r ≡ q → equality l r ≡ by_bare p q l r
unfolding equality
by_sides l r e d = rw (e, d)

-- the name that an equality ties is in the table
pub tied_within : {columns : List ℕ} {i j : ℕ} → Has columns i → Has columns j → (z : Equality) → z ≡ equality (term_of columns i) (term_of columns j) → TabledTied z
tied_within {columns} {i} {j} h k z e = go z (subst (Means (term_of columns i) (term_of columns j)) (sym e) (means _ _))
  where
    go : (z : Equality) → Means (term_of columns i) (term_of columns j) z → TabledTied z
    go (Left x) b = bare_tabled h b.is_bare
    go (Right x) b = bare_tabled k b.is_bare
    go (Nothing why) m = tt

-- ---- the other kinds

-- what is no wildcard and has no term
abbrev no_wildcard_kinds : List ℕ
no_wildcard_kinds = 0 ∷ 1 ∷ 2 ∷ 3 ∷ 4 ∷ 5 ∷ 6 ∷ 7 ∷ 8 ∷ 9 ∷ 10 ∷ 11 ∷ 12 ∷ 13 ∷ 15 ∷ 16 ∷ 17 ∷ 18 ∷ 19 ∷ 22 ∷ 23 ∷ 24 ∷ 25 ∷ 28 ∷ []

pub no_wildcard : (t : ℕ → Tree) (n : NodeNo) (m : Node) → OneOf no_wildcard_kinds (tag_of the_type m) → wildcard_in (planted t n m) ≡ false
unfolding has_wildcard
no_wildcard t n =
    in_terms_cases has_wildcard arguments_wildcard items_wildcard false t n (λ m z. OneOf no_wildcard_kinds (tag_of the_type m) → z ≡ false)
    (λ x h. refl) (λ h. absurd (miss no_wildcard_kinds 14 tt h)) (λ y h. refl) (λ y h. refl) (λ y h. refl) (λ k h. refl) (λ k h. refl)
    (λ l h. absurd (miss no_wildcard_kinds 20 tt h)) (λ o l r h. absurd (miss no_wildcard_kinds 21 tt h)) (λ s l b h. refl) (λ l b h. refl)
    (λ y h. refl) (λ f x l h. absurd (miss no_wildcard_kinds 26 tt h)) (λ x l h. absurd (miss no_wildcard_kinds 27 tt h)) (λ m e h. refl)

-- no variable
pub not_bare : (t : ℕ → Tree) (n : NodeNo) (m : Node) → ((x : NameNo) → m ≡ node.Var x → ⊥) → bare (as_term (planted t n m)) ≡ None
unfolding planted as_term bare
not_bare t n =
    by_kind (λ m. ((x : NameNo) → m ≡ node.Var x → ⊥) → bare (as_term (planted t n m)) ≡ None)
    (λ l r h. refl) (λ l r h. refl) (λ b h. refl) (λ b w h. refl) (λ b w h. refl) (λ l r w h. refl) (λ s y b h. refl) (λ o l r h. refl)
    (λ a l h. refl) (λ b l h. refl) (λ s h. refl) (λ y h. refl) (λ y h. refl) (λ x h. absurd (h x refl)) (λ h. refl) (λ y h. refl) (λ y h. refl)
    (λ y h. refl) (λ k h. refl) (λ k h. refl) (λ l h. refl) (λ o l r h. refl) (λ s l b h. refl) (λ l b h. refl) (λ y h. refl) (λ h. refl)
    (λ f x l h. refl) (λ x l h. refl) (λ s y l h. refl)

-- no wildcard and no arithmetic
pub unless_other : (t : ℕ → Tree) (n : NodeNo) (gives : Equality) (m : Node) → (m ≡ node.Wildcard → ⊥) → ((o : ℕ) (l r : NodeNo) → m ≡ node.Arith o l r → ⊥)
    → unless (as_term (planted t n m)) gives ≡ gives
unfolding planted as_term unless
unless_other t n gives =
    by_kind (λ m. (m ≡ node.Wildcard → ⊥) → ((o : ℕ) (l r : NodeNo) → m ≡ node.Arith o l r → ⊥) → unless (as_term (planted t n m)) gives ≡ gives)
    (λ l r h g. refl) (λ l r h g. refl) (λ b h g. refl) (λ b w h g. refl) (λ b w h g. refl) (λ l r w h g. refl) (λ s y b h g. refl)
    (λ o l r h g. refl) (λ a l h g. refl) (λ b l h g. refl) (λ s h g. refl) (λ y h g. refl) (λ y h g. refl) (λ x h g. refl) (λ h g. absurd (h refl))
    (λ y h g. refl) (λ y h g. refl) (λ y h g. refl) (λ k h g. refl) (λ k h g. refl) (λ l h g. refl) (λ o l r h g. absurd (g o l r refl))
    (λ s l b h g. refl) (λ l b h g. refl) (λ y h g. refl) (λ h g. refl) (λ f x l h g. refl) (λ x l h g. refl) (λ s y l h g. refl)
