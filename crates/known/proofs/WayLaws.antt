-- How the facts of a node come from those of its parts: in an arm of a match that names the kind, and for the kinds that it does not name. Assumes nothing.
use mathlib.Core.Path.{◌≡◌, refl, sym, ap, ◌∙◌, subst}
use mathlib.Core.Bool.{Bool, true, false, true≢false}
use mathlib.Core.List.{List, [], ◌∷◌}
use Prim.Native.Nat.{ℕ, ◌<◌}
use types.Run.{OneOf, miss}
use denote.Enum.Declared.{tag_of}
use lib.ListN.{get_or}
use Rattle.paper.specs.contracts.Node.{the_type as node_type}
use Rattle.paper.specs.declared.Node.{Node}
use Rattle.paper.specs.Shape.{names_in}
use Rattle.paper.specs.Tree.{Tree}
use Rattle.paper.proofs.Walks.{All}
use Rattle.record.specs.Stored.{Has}
use Rattle.trees.proofs.ByKind.{by_kind}
use Rattle.known.specs.declared.Parts.{Parts}
use Rattle.known.specs.declared.Parts.TheVariants.{Leaf, One, Two, List as Listed, Then}
use Rattle.known.specs.Known.{Known, known_of, nothing, join, parts_of, nodes_of, Way, alone, over, between, way, from_parts, own}
use Rattle.known.specs.Rows.{node_of}
use Rattle.known.proofs.PartLaws.{known_arm}

-- the names of a node that is held are in the table
pub names_tabled : {columns : List ℕ} {i : ℕ} {m : Node} → Has columns i → node_of columns i ≡ m → All (λ x. x < 128) (names_in m)
names_tabled {i = i} h e = subst (λ (m : Node). All (λ x. x < 128) (names_in m)) e (known_arm i h).tabled

-- ---- from the parts

-- one part, and two
one? : List ℕ → Bool
one? [] = false
one? (a ∷ []) = true
one? (a ∷ b ∷ l) = false

two? : List ℕ → Bool
two? [] = false
two? (a ∷ []) = false
two? (a ∷ b ∷ []) = true
two? (a ∷ b ∷ c ∷ l) = false

module _ (t : ℕ → Tree) (m : Node) where
  pub of_alone : {k : Known} → way t m ≡ alone k → own t m ≡ k
  unfolding own from_parts
  of_alone e = ap (λ (w : Way). from_parts t w (parts_of m)) e

  pub of_over : {f : Known → Known} {b : ℕ} → way t m ≡ over f → nodes_of (parts_of m) ≡ b ∷ [] → own t m ≡ f (known_of (t b))
  unfolding own from_parts one?
  of_over {f} {b} e p = ap (λ (w : Way). from_parts t w (parts_of m)) e ∙ go (parts_of m) p
    where
      go : (p : Parts) → nodes_of p ≡ b ∷ [] → from_parts t (over f) p ≡ f (known_of (t b))
      go Leaf q = absurd (true≢false (sym (ap one? q)))
      go (One c) q = ap (λ (l : List ℕ). f (known_of (t (get_or l 0 0)))) q
      go (Two l r) q = absurd (true≢false (sym (ap one? q)))
      go (Listed l) q = ap (λ (l : List ℕ). f (known_of (t (get_or l 0 0)))) q
      go (Then c l) q = absurd (true≢false (sym (ap one? q)))

  pub of_pair : {f : Known → Known → Known} {a b : ℕ} → way t m ≡ between f → nodes_of (parts_of m) ≡ a ∷ b ∷ [] → own t m ≡ f (known_of (t a)) (known_of (t b))
  unfolding own from_parts two?
  of_pair {f} {a} {b} e p = ap (λ (w : Way). from_parts t w (parts_of m)) e ∙ go (parts_of m) p
    where
      go : (p : Parts) → nodes_of p ≡ a ∷ b ∷ [] → from_parts t (between f) p ≡ f (known_of (t a)) (known_of (t b))
      go Leaf q = absurd (true≢false (sym (ap two? q)))
      go (One c) q = absurd (true≢false (sym (ap two? q)))
      go (Two l r) q = ap (λ (l : List ℕ). f (known_of (t (get_or l 0 0))) (known_of (t (get_or l 1 0)))) q
      go (Listed l) q = absurd (true≢false (sym (ap two? q)))
      go (Then c l) q = ap (λ (l : List ℕ). f (known_of (t (get_or l 0 0))) (known_of (t (get_or l 1 0)))) q

-- ---- the kinds that a match does not name

is_leaf : Parts → Bool
is_leaf Leaf = true
is_leaf (One b) = false
is_leaf (Two l r) = false
is_leaf (Listed l) = false
is_leaf (Then b l) = false

abbrev pub leaf_others : List ℕ
leaf_others =
    0 ∷ 1 ∷ 2 ∷ 3 ∷ 4 ∷ 5 ∷ 6 ∷ 7 ∷ 8 ∷ 9 ∷ 14 ∷ 15 ∷ 16 ∷ 17 ∷ 20 ∷ 21 ∷ 22 ∷ 23 ∷ 25 ∷ 26 ∷ 27 ∷ 28 ∷ []

pub other_leaf : (t : ℕ → Tree) (m : Node) → OneOf leaf_others (tag_of node_type m) → Leaf ≡ parts_of m → way t m ≡ alone nothing
unfolding parts_of way is_leaf
other_leaf t =
    by_kind (λ m. OneOf leaf_others (tag_of node_type m) → Leaf ≡ parts_of m → way t m ≡ alone nothing)
    (λ l r h q. absurd (true≢false (ap is_leaf q))) (λ l r h q. absurd (true≢false (ap is_leaf q))) (λ b h q. absurd (true≢false (ap is_leaf q)))
    (λ b w h q. absurd (true≢false (ap is_leaf q))) (λ b w h q. absurd (true≢false (ap is_leaf q))) (λ l r w h q. absurd (true≢false (ap is_leaf q)))
    (λ s y b h q. absurd (true≢false (ap is_leaf q))) (λ o l r h q. absurd (true≢false (ap is_leaf q)))
    (λ a l h q. absurd (true≢false (ap is_leaf q))) (λ b l h q. absurd (true≢false (ap is_leaf q))) (λ s h q. absurd (miss leaf_others 10 tt h))
    (λ y h q. absurd (miss leaf_others 11 tt h)) (λ y h q. absurd (miss leaf_others 12 tt h)) (λ x h q. absurd (miss leaf_others 13 tt h))
    (λ h q. refl) (λ y h q. refl) (λ y h q. refl) (λ y h q. refl) (λ k h q. absurd (miss leaf_others 18 tt h))
    (λ k h q. absurd (miss leaf_others 19 tt h)) (λ l h q. absurd (true≢false (ap is_leaf q))) (λ o l r h q. absurd (true≢false (ap is_leaf q)))
    (λ s l b h q. absurd (true≢false (ap is_leaf q))) (λ l b h q. absurd (true≢false (ap is_leaf q))) (λ y h q. absurd (miss leaf_others 24 tt h))
    (λ h q. refl) (λ f x l h q. absurd (true≢false (ap is_leaf q))) (λ x l h q. absurd (true≢false (ap is_leaf q))) (λ s y l h q. refl)

abbrev pub over_others : List ℕ
over_others =
    0 ∷ 1 ∷ 3 ∷ 4 ∷ 5 ∷ 7 ∷ 9 ∷ 10 ∷ 11 ∷ 12 ∷ 13 ∷ 14 ∷ 15 ∷ 16 ∷ 17 ∷ 18 ∷ 19 ∷ 21 ∷ 24 ∷ 25 ∷ 26 ∷ 27 ∷ 28 ∷ []

over_way : (t : ℕ → Tree) (m : Node) → OneOf over_others (tag_of node_type m) → one? (nodes_of (parts_of m)) ≡ true → way t m ≡ over (λ a. a)
unfolding parts_of way one?
over_way t =
    by_kind (λ m. OneOf over_others (tag_of node_type m) → one? (nodes_of (parts_of m)) ≡ true → way t m ≡ over (λ a. a))
    (λ l r h q. absurd (true≢false (sym q))) (λ l r h q. absurd (true≢false (sym q))) (λ b h q. absurd (miss over_others 2 tt h)) (λ b w h q. refl)
    (λ b w h q. refl) (λ l r w h q. absurd (true≢false (sym q))) (λ s y b h q. absurd (miss over_others 6 tt h))
    (λ o l r h q. absurd (true≢false (sym q))) (λ a l h q. absurd (miss over_others 8 tt h)) (λ b l h q. absurd (true≢false (sym q)))
    (λ s h q. absurd (true≢false (sym q))) (λ y h q. absurd (true≢false (sym q))) (λ y h q. absurd (true≢false (sym q)))
    (λ x h q. absurd (true≢false (sym q))) (λ h q. absurd (true≢false (sym q))) (λ y h q. absurd (true≢false (sym q)))
    (λ y h q. absurd (true≢false (sym q))) (λ y h q. absurd (true≢false (sym q))) (λ k h q. absurd (true≢false (sym q)))
    (λ k h q. absurd (true≢false (sym q))) (λ l h q. absurd (miss over_others 20 tt h)) (λ o l r h q. absurd (true≢false (sym q)))
    (λ s l b h q. absurd (miss over_others 22 tt h)) (λ l b h q. absurd (miss over_others 23 tt h)) (λ y h q. absurd (true≢false (sym q)))
    (λ h q. absurd (true≢false (sym q))) (λ f x l h q. absurd (true≢false (sym q))) (λ x l h q. absurd (true≢false (sym q)))
    (λ s y l h q. absurd (true≢false (sym q)))

abbrev pub pair_others : List ℕ
pair_others =
    2 ∷ 3 ∷ 4 ∷ 6 ∷ 8 ∷ 10 ∷ 11 ∷ 12 ∷ 13 ∷ 14 ∷ 15 ∷ 16 ∷ 17 ∷ 18 ∷ 19 ∷ 20 ∷ 22 ∷ 23 ∷ 24 ∷ 25 ∷ 26 ∷ 27 ∷ 28 ∷ []

pair_way : (t : ℕ → Tree) (m : Node) → OneOf pair_others (tag_of node_type m) → two? (nodes_of (parts_of m)) ≡ true → way t m ≡ between join
unfolding parts_of way two?
pair_way t =
    by_kind (λ m. OneOf pair_others (tag_of node_type m) → two? (nodes_of (parts_of m)) ≡ true → way t m ≡ between join)
    (λ l r h q. absurd (miss pair_others 0 tt h)) (λ l r h q. absurd (miss pair_others 1 tt h)) (λ b h q. absurd (true≢false (sym q)))
    (λ b w h q. absurd (true≢false (sym q))) (λ b w h q. absurd (true≢false (sym q))) (λ l r w h q. absurd (miss pair_others 5 tt h))
    (λ s y b h q. absurd (true≢false (sym q))) (λ o l r h q. absurd (miss pair_others 7 tt h)) (λ a l h q. absurd (true≢false (sym q)))
    (λ b l h q. absurd (miss pair_others 9 tt h)) (λ s h q. absurd (true≢false (sym q))) (λ y h q. absurd (true≢false (sym q)))
    (λ y h q. absurd (true≢false (sym q))) (λ x h q. absurd (true≢false (sym q))) (λ h q. absurd (true≢false (sym q)))
    (λ y h q. absurd (true≢false (sym q))) (λ y h q. absurd (true≢false (sym q))) (λ y h q. absurd (true≢false (sym q)))
    (λ k h q. absurd (true≢false (sym q))) (λ k h q. absurd (true≢false (sym q))) (λ l h q. absurd (true≢false (sym q)))
    (λ o l r h q. absurd (miss pair_others 21 tt h)) (λ s l b h q. absurd (true≢false (sym q))) (λ l b h q. absurd (true≢false (sym q)))
    (λ y h q. absurd (true≢false (sym q))) (λ h q. absurd (true≢false (sym q))) (λ f x l h q. refl) (λ x l h q. refl)
    (λ s y l h q. absurd (true≢false (sym q)))

pub other_over : (t : ℕ → Tree) (m : Node) {b : ℕ} → OneOf over_others (tag_of node_type m) → nodes_of (parts_of m) ≡ b ∷ [] → way t m ≡ over (λ a. a)
unfolding one?
other_over t m h p = over_way t m h (ap one? p)

pub other_pair : (t : ℕ → Tree) (m : Node) {a b : ℕ} → OneOf pair_others (tag_of node_type m) → nodes_of (parts_of m) ≡ a ∷ b ∷ [] → way t m ≡ between join
unfolding two?
other_pair t m h p = pair_way t m h (ap two? p)
