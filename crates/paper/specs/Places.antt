-- Places and document order: what a path from the root is, what is unmet at its end, and which of two entries comes first.
-- Scoping and demands (the next two files) say what lies below a place and which rules are broken there; the rest is the same for both.
-- `Unmet` and `Before` speak of paths alone. `found` is the list, and `Exactly` says when a list is the right one. Assumes nothing: these are definitions.
use Rattle.std.specs.Prelude.{◌≡◌, ◌⊎◌, Bool, true, false, ℕ, zero, suc, ◌<◌, get_or, Option, Some, None}
use Rattle.std.proofs.Math.Option.{some}
use mathlib.Core.List.{List, [], ◌∷◌, ◌++◌, map, Memᴰ}
use Rattle.std.proofs.Math.ListN.{get_elem?}
use Rattle.paper.specs.declared.NodeNo.{NodeNo}
use Rattle.paper.specs.declared.NameNo.{NameNo}
use Rattle.paper.specs.declared.Finding.{Finding}
use Rattle.paper.specs.Sets.{Set, none, members}
use Rattle.paper.specs.Record.{pick, most_names, node_no, name_no}
use Rattle.paper.specs.Tree.{Condition, Term, Arguments, Items, size, term_size, arguments_size, items_size}
use Rattle.paper.specs.Tree.Term.{Wildcard}

-- ---- places

-- what stands at a place, by how the path came to it: a condition; an operand of a comparison, or of arithmetic that is one;
-- a term, arguments or items that are only searched for what may not stand there
pub data Spot : Type 0 where
  condition : Condition → Spot
  operand : Term → Spot
  searched : Term → Spot
  searched_arguments : Arguments → Spot
  searched_items : Items → Spot

-- with the names that the path has put in scope (scoping) or tied (demands), and whether what stands there is asked
pub record Place : Type 0 where
  pub spot : Spot
  pub names : Set
  pub asked : Bool

abbrev pub asked_at : Spot → Set → Place
asked_at s names = record { spot = s; names = names; asked = true }

abbrev pub unasked_at : Spot → Set → Place
unasked_at s names = record { spot = s; names = names; asked = false }

-- off the tree: nothing is broken there, and nothing lies below
abbrev pub nowhere : Place
nowhere = unasked_at (operand (Wildcard (node_no 0))) none

-- a path is a list of child numbers, from 0; `below` gives the places one step down, left first
abbrev pub place : (Place → List Place) → Place → List ℕ → Place
place below p [] = p
place below p (i ∷ path) = place below (get_or (below p) i nowhere) path

-- ---- entries

-- a finding, and its rank among those of its rule at its place: by position in the binder list, or by name
pub record Entry : Type 0 where
  pub rank : ℕ
  pub finding : Finding

abbrev pub entry : ℕ → ℕ → NodeNo → Option NameNo → Entry
entry rule rank n name = record { rank = rank; finding = record { rule = rule; node = n; name = name } }

-- a binder cell: its node and its name
pub record Cell : Type 0 where
  pub node : NodeNo
  pub name : NameNo

-- a rule as it is broken at one place: by the node itself; for each of some names, at the node; for each cell that binds one of some names, at the cell
pub data Broken : Type 0 where
  itself : ℕ → NodeNo → Broken
  for_names : ℕ → NodeNo → Set → Broken
  at_cells : ℕ → Set → List Cell → Broken

abbrev pub Breaks : Broken → Entry → Type 0
Breaks (itself rule n) e = e ≡ entry rule 0 n None
Breaks (for_names rule n s) e = (x : ℕ) × (x < most_names) × (s x ≡ true) × (e ≡ entry rule x n (Some (name_no x)))
Breaks (at_cells rule s cells) e =
    (i : ℕ) × (c : Cell) × (get_elem? cells i ≡ some c) × (s c.name.0 ≡ true) × (e ≡ entry rule i c.node (Some c.name))

-- the entry is unmet at the place that the path leads to, where `broken` gives the rules that are broken at a place
abbrev pub Unmet : (Place → List Place) → (Place → List Broken) → Place → List ℕ → Entry → Type 0
Unmet below broken p path e = (b : Broken) × Memᴰ b (broken (place below p path)) × Breaks b e

-- ---- document order

-- "preorder, node before children, left first"
abbrev pub Before : List ℕ → List ℕ → Type 0
Before [] [] = ⊥
Before [] (j ∷ q) = Unit {0}
Before (i ∷ p) [] = ⊥
Before (i ∷ p) (j ∷ q) = (i < j) ⊎ ((i ≡ j) × Before p q)

-- "by rule, then list order, or name"
abbrev pub Earlier : Entry → Entry → Type 0
Earlier a b = (a.finding.rule < b.finding.rule) ⊎ ((a.finding.rule ≡ b.finding.rule) × (a.rank < b.rank))

-- an entry, with the path of its place
pub record Located : Type 0 where
  pub path : List ℕ
  pub item : Entry

abbrev pub Precedes : Located → Located → Type 0
Precedes a b = Before a.path b.path ⊎ ((a.path ≡ b.path) × Earlier a.item b.item)

-- each before all that follow it, so each stands once
abbrev pub Ascending : {A : Type 0} → (A → A → Type 0) → List A → Type 0
Ascending R [] = Unit {0}
Ascending {A} R (a ∷ l) = ((b : A) → Memᴰ b l → R a b) × Ascending R l

-- the list holds what is unmet by `Holds`, each once, in document order, and nothing else
pub record Exactly (Holds : List ℕ → Entry → Type 0) (found : List Finding) : Type 0 where
  pub located : List Located
  pub findings : map (λ (l : Located). l.item.finding) located ≡ found
  pub sorted : Ascending Precedes located
  pub sound : (l : Located) → Memᴰ l located → Holds l.path l.item
  pub complete : (l : Located) → Holds l.path l.item → Memᴰ l located

-- ---- the list

unfoldable pub gather : {A B : Type 0} → (A → List B) → List A → List B
gather f [] = []
gather f (a ∷ l) = f a ++ gather f l

abbrev finding : ℕ → NodeNo → Option NameNo → Finding
finding rule n name = record { rule = rule; node = n; name = name }

unfoldable pub at_cell : ℕ → Set → Cell → List Finding
at_cell rule s c = pick (s c.name.0) (finding rule c.node (Some c.name) ∷ []) []

unfoldable pub findings : Broken → List Finding
findings (itself rule n) = finding rule n None ∷ []
findings (for_names rule n s) = map (λ (x : ℕ). finding rule n (Some (name_no x))) (members s most_names)
findings (at_cells rule s cells) = gather (at_cell rule s) cells

unfoldable pub spot_size : Spot → ℕ
spot_size (condition c) = size c
spot_size (operand t) = term_size t
spot_size (searched t) = term_size t
spot_size (searched_arguments l) = arguments_size l
spot_size (searched_items l) = items_size l

-- what is broken at a place, then what is found at each place below, left first; `deep` bounds how far down, so that the list can be computed
unfoldable pub found_within : (Place → List Place) → (Place → List Broken) → ℕ → Place → List Finding
found_within below broken zero p = []
found_within below broken (suc deep) p = gather findings (broken p) ++ gather (found_within below broken deep) (below p)

-- no path is longer than the tree has nodes
unfoldable pub found : (Place → List Place) → (Place → List Broken) → Place → List Finding
found below broken p = found_within below broken (spot_size p.spot) p
