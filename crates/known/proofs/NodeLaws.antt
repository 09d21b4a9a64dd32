-- A node's row after those of its parts. Assumes nothing.
use mathlib.Core.Path.{◌≡◌, refl, sym, ap, ◌∙◌, subst}
use mathlib.Core.Bool.{true}
use mathlib.Core.List.{List, [], ◌∷◌}
use Prim.Native.Nat.{ℕ, ◌<◌}
use native.Mathlib.Omega.{arith}
use lib.ListN.{length}
use Rattle.paper.specs.declared.Node.{Node}
use Rattle.paper.specs.Record.{Sort, node_no}
use Rattle.paper.specs.Shape.{references}
use Rattle.paper.proofs.Walks.{All, all_map, all_both}
use Rattle.record.specs.Stored.{Has}
use Rattle.trees.specs.Trees.{tree_of, is_row}
use Rattle.trees.proofs.Arms.{Child, Arm}
use Rattle.known.specs.declared.Facts.{Facts}
use Rattle.known.specs.declared.Parts.{Parts}
use Rattle.known.specs.declared.Parts.TheVariants as parts
use Rattle.known.specs.Known.{known_of, parts_of, nodes_of, own}
use Rattle.known.specs.Rows.{meant, Right, has_row, node_of, Sound, Put, Kept, Reaches, Gathered}
use Rattle.known.proofs.KnownLaws.{planted_known}
use Rattle.known.proofs.PartLaws.{Held, held, known_arm, reached_in}
use Rattle.known.proofs.RowLaws.{kept_same, kept_then, put_right, gathered_kept}

-- ---- the parts of a node

parts_under : (columns : List ℕ) (i : ℕ) (p : Parts) → Held columns i p → All (λ k. (k < i) × Has columns k) (nodes_of p)
parts_under columns i parts.Leaf h = tt
parts_under columns i (parts.One b) h = (h, tt)
parts_under columns i (parts.Two l r) h = (h.0, (h.1, tt))
parts_under columns i (parts.List l) h = (h.0, tt)
parts_under columns i (parts.Then b l) h = (h.0, (h.1, tt))

module _ {columns : List ℕ} {i : ℕ} {m : Node} (h : Has columns i) (is : m ≡ node_of columns i) where
  node_arm : Arm columns i m
  node_arm = subst (Arm columns i) (sym is) (known_arm i h)

  pub node_held : {p : Parts} → p ≡ parts_of m → Held columns i p
  node_held of = subst (Held columns i) (sym of) (held m node_arm)

  pub sound : {rows : List Facts} → i < length rows → All (Right columns rows) (nodes_of (parts_of m)) → Sound columns rows m
  sound {rows} l r =
      record {
        parts = all_both (λ k. (k < i) × Has columns k) (Right columns rows) (λ k. (k < length rows) × Right columns rows k) (λ k b s. (let below = b.0 in omega (arith, below, l), s)) (nodes_of (parts_of m)) (parts_under columns i (parts_of m) (node_held refl)) r;
        has = all_map (λ q (c : Child columns i q.0 q.1). c.has) (references m) node_arm.children;
        tabled = node_arm.tabled;
      }

  pub both_had : {l r : ℕ} → nodes_of (parts_of m) ≡ l ∷ r ∷ [] → Has columns l × Has columns r
  both_had e = let u = subst (All (λ k. (k < i) × Has columns k)) e (parts_under columns i (parts_of m) (node_held refl)) in (u.0.1, u.1.0.1)

  -- its own facts are those of its tree
  pub own_put : {before after : List Facts} {f : Facts} → meant f ≡ own (tree_of columns) m → i < length before → Put before i f after → Kept columns before after × Right columns after i
  own_put e l put =
      put_right put l
      (e
      ∙ sym (ap known_of node_arm.tree ∙ planted_known (tree_of columns) (node_no i) m (all_map (λ q (c : Child columns i q.0 q.1). c.fits) (references m) node_arm.children)))

module _ {columns : List ℕ} {rows : List Facts} {m : Node} where
  pub sound_is : {n : Node} → m ≡ n → Sound columns rows m → Sound columns rows n
  sound_is e s = subst (Sound columns rows) e s

  pub first_row : {b : ℕ} {l : List ℕ} → Sound columns rows m → nodes_of (parts_of m) ≡ b ∷ l → (b < length rows) × Right columns rows b
  first_row s e = (subst (All (λ k. (k < length rows) × Right columns rows k)) e s.parts).0

  pub second_row : {a b : ℕ} {l : List ℕ} → Sound columns rows m → nodes_of (parts_of m) ≡ a ∷ b ∷ l → (b < length rows) × Right columns rows b
  second_row s e = (subst (All (λ k. (k < length rows) × Right columns rows k)) e s.parts).1.0

  pub first_had : {q : Sort × ℕ} {l : List (Sort × ℕ)} → Sound columns rows m → references m ≡ q ∷ l → Has columns q.1
  first_had s e = (subst (All (λ (q : Sort × ℕ). Has columns q.1)) e s.has).0

-- ---- the calls on the parts

pub room : {columns : List ℕ} {before after : List Facts} {i : ℕ} → Kept columns before after → i < length before → i < length after
room k l = let e = k.long in omega (arith, e, l)

-- what a call on a part asks for, where the caller's node is t and there are n rows
pub call : {columns : List ℕ} {n i k t : ℕ} → (k < i) × Has columns k → i ≡ t → i < n → (k < t) × (Has columns k × (k < n))
call (b, h) e l = (omega (arith, b, e), (h, omega (arith, b, l)))

pub call_list : {columns : List ℕ} {n i k t : ℕ} → (k < i) × Has columns k → is_row (tree_of columns k) ≡ true → i ≡ t → i < n
    → (k < t) × (Has columns k × (k < n) × (is_row (tree_of columns k) ≡ true))
call_list (b, h) r e l = (omega (arith, b, e), (h, omega (arith, b, l), r))

-- ---- after them

-- a part whose row is right, and so are those below it
abbrev pub Done : List ℕ → List Facts → ℕ → Type 0
Done columns rows j = Right columns rows j × ((k : ℕ) → Reaches columns j k → has_row columns k ≡ true → Right columns rows k)

pub record Came (columns : List ℕ) (before rows : List Facts) (m : Node) : Type 0 where
  pub kept : Kept columns before rows
  pub parts : All (Done columns rows) (nodes_of (parts_of m))

module _ {columns : List ℕ} {before : List Facts} {m : Node} {p : Parts} (of : p ≡ parts_of m) where
  pub came_none : nodes_of p ≡ [] → Came columns before before m
  came_none e = record { kept = kept_same; parts = subst (λ (z : Parts). All (Done columns before) (nodes_of z)) of (subst (All (Done columns before)) (sym e) tt) }

  pub came_one : {after : List Facts} {b : ℕ} → nodes_of p ≡ b ∷ [] → Gathered columns before after b → Came columns before after m
  came_one {after} e g =
      record {
        kept = g.kept;
        parts = subst (λ (z : Parts). All (Done columns after) (nodes_of z)) of (subst (All (Done columns after)) (sym e) ((g.here, g.below), tt));
      }

  pub came_two : {between after : List Facts} {l r : ℕ} → nodes_of p ≡ l ∷ r ∷ [] → Gathered columns before between l → Gathered columns between after r → Came columns before after m
  came_two {after = after} e f g =
      let k = gathered_kept f g.kept in
      record {
        kept = k.kept;
        parts = subst (λ (z : Parts). All (Done columns after) (nodes_of z)) of (subst (All (Done columns after)) (sym e) ((k.here, k.below), ((g.here, g.below), tt)));
      }

came_right : {columns : List ℕ} {before rows : List Facts} {m : Node} → Came columns before rows m → All (Right columns rows) (nodes_of (parts_of m))
came_right {columns} {rows = rows} {m} c = all_map (λ k (d : Done columns rows k). d.0) (nodes_of (parts_of m)) c.parts

-- what the store of the node's row asks for
pub ready : {columns : List ℕ} {before rows : List Facts} {i : ℕ} {m : Node} {p : Parts} → Has columns i → i < length before → p ≡ parts_of m → Came columns before rows m
    → (Has columns i × (i < length rows) × (nodes_of (parts_of m) ≡ nodes_of p)) × All (Right columns rows) (nodes_of (parts_of m))
ready h l of c = ((h, room c.kept l, ap nodes_of (sym of)), came_right c)

pub finished : {columns : List ℕ} {before rows after : List Facts} {i : ℕ} {m : Node} → Has columns i → m ≡ node_of columns i → Came columns before rows m
    → Kept columns rows after × Right columns after i → Gathered columns before after i
finished {columns} {rows = rows} {after} {m = m} h is c (k, r) =
    record {
      kept = kept_then c.kept k;
      here = r;
      below =
          reached_in (Right columns after) m h is
          (all_map {D = λ (j : ℕ). (k : ℕ) → Reaches columns j k → has_row columns k ≡ true → Right columns after k} (λ j (d : Done columns rows j) n s t. k.right n (d.1 n s t)) (nodes_of (parts_of m)) c.parts) (λ t. r);
    }
