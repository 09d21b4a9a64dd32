-- A node that is read off its word by a match on its kind says what the definition says. Assumes nothing.
use mathlib.Core.Path.{◌≡◌, refl, ap}
use mathlib.Core.List.{List, [], ◌++◌}
use Prim.Native.Nat.{ℕ}
use Rattle.paper.specs.declared.Node.{Node}
use Rattle.paper.specs.declared.Node.TheVariants.{ListEnd}
use Rattle.paper.specs.Record.{node_no, name_no}
use Rattle.memory.specs.Columns.{node_told}
use Rattle.memory.proofs.Unnamed.{conditions, terms, cells, Rest, all?, among?}
use Rattle.memory.proofs.ViewLaws.{named_arm, last_arm as last_view}

-- in the arm of a match that names the kind n: what is asked is the node itself
pub arm : (k n : ℕ) (ps : List ℕ) (t : Node) → k ≡ n → t ≡ node_told n ps → t ≡ node_told k ps
arm = named_arm (λ m. m)

-- a match that names every kind but 0x30
pub last_arm : (k : ℕ) (ps : List ℕ) → Rest ((conditions ++ terms) ++ cells) k (Unit {0}) → ListEnd ≡ node_told k ps
unfolding all? among?
last_arm k ps = last_view (λ m. m) ListEnd ((conditions ++ terms) ++ cells) [] k ps refl tt refl

pub node_no_same : {x y : ℕ} → x ≡ y → node_no x ≡ node_no y
node_no_same e = ap node_no e

pub name_no_same : {x y : ℕ} → x ≡ y → name_no x ≡ name_no y
name_no_same e = ap name_no e

pub ruleset arms = (arm, node_no_same, name_no_same)
