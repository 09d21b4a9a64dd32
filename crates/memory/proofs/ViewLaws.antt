-- A view of a node by its kind: in the arm of a match that names the kind, and for the kinds that it does not name. Assumes nothing.
use mathlib.Core.Path.{◌≡◌, sym, ap, ◌∙◌}
use mathlib.Core.Bool.{true}
use mathlib.Core.List.{List, ◌++◌}
use Prim.Native.Nat.{ℕ}
use Rattle.paper.proofs.Walks.{All}
use Rattle.paper.specs.declared.Node.{Node}
use Rattle.paper.specs.declared.Node.TheVariants.{ListEnd}
use Rattle.memory.specs.Columns.{node_told}
use Rattle.memory.proofs.Unnamed.{conditions, terms, cells, Rest, rest_away, all?, among?, away_among, away_both, of_each, says_end}

module _ {A : Type 0} (view : Node → A) where
  pub named_arm : (k n : ℕ) (ps : List ℕ) (t : A) → k ≡ n → t ≡ view (node_told n ps) → t ≡ view (node_told k ps)
  named_arm k n ps t e h = h ∙ ap (λ (m : ℕ). view (node_told m ps)) (sym e)

  -- the last arm: every kind but 0x30 is named, or is one of the others
  pub last_arm : (t : A) (named others : List ℕ) (k : ℕ) (ps : List ℕ) → all? (among? (named ++ others)) ((conditions ++ terms) ++ cells) ≡ true
      → All (λ n. t ≡ view (node_told n ps)) others → t ≡ view ListEnd → Rest named k (Unit {0}) → t ≡ view (node_told k ps)
  last_arm t named others k ps all each end m =
      of_each (λ n. t ≡ view (node_told n ps)) others k each
      (λ a. end ∙ ap view (sym (says_end k ps (away_among ((conditions ++ terms) ++ cells) (named ++ others) k all
      (away_both named others k (rest_away named k (Unit {0}) m).1 a)))))
