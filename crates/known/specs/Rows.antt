-- When a row holds what is known of its node, when rows do for all nodes, and how they are changed. Assumes nothing: these are definitions.
use Rattle.std.specs.Prelude.{◌≡◌, ℕ, ◌<◌, ◌≤◌, Bool, true, ◌||◌, length, get_or, set}
use mathlib.Core.List.{List, Memᴰ}
use Rattle.paper.specs.declared.Node.{Node}
use Rattle.paper.specs.declared.Node.TheVariants.{ListEnd}
use Rattle.paper.specs.Record.{Sort}
use Rattle.paper.specs.Shape.{references, names_in}
use Rattle.paper.proofs.Walks.{All}
use Rattle.names.specs.Words.{bit, mem}
use Rattle.record.specs.Stored.{held, Has}
use Rattle.trees.specs.Trees.{tree_of, is_condition, is_term}
use Rattle.known.specs.Known.{Known, known_of, parts_of, nodes_of}
use Rattle.known.specs.declared.Facts.{Facts}

-- what facts in words say: a mark is a bit of the word of marks
unfoldable pub meant : Facts → Known
meant f =
    record {
      free = mem f.free;
      restricted = mem f.restricted;
      need = mem f.need;
      sigil = bit f.marks.0 0;
      hard = bit f.marks.0 1;
      broken = bit f.marks.0 2;
      binds = bit f.marks.0 3;
      unclosed = bit f.marks.0 4;
      computed = bit f.marks.0 5;
    }

-- a word whose bits are these marks
pub record Marked (word : ℕ) (sigil hard broken binds unclosed computed : Bool) : Type 0 where
  pub sigils : bit word 0 ≡ sigil
  pub hards : bit word 1 ≡ hard
  pub brokens : bit word 2 ≡ broken
  pub bindings : bit word 3 ≡ binds
  pub unclosings : bit word 4 ≡ unclosed
  pub computings : bit word 5 ≡ computed

-- the facts of a row that is not there
abbrev pub no_facts : Facts
no_facts = record { free = record { lo = 0; hi = 0 }; restricted = record { lo = 0; hi = 0 }; need = record { lo = 0; hi = 0 }; marks = record { 0 = 0 } }

abbrev pub facts_at : List Facts → ℕ → Facts
facts_at rows k = get_or rows k no_facts

-- row k holds what is known of node k
pub record Right (columns : List ℕ) (rows : List Facts) (k : ℕ) : Type 0 where
  pub holds : meant (facts_at rows k) ≡ known_of (tree_of columns k)

-- conditions and terms have rows that are read; the cells of lists have none
abbrev pub has_row : List ℕ → ℕ → Bool
has_row columns k = is_condition (tree_of columns k) || is_term (tree_of columns k)

pub record Noted (columns : List ℕ) (rows : List Facts) : Type 0 where
  pub fits : length (held columns) ≤ length rows
  pub row : (k : ℕ) → k < length (held columns) → has_row columns k ≡ true → Right columns rows k

-- what the facts of a node m are found from: the rows of its parts, names of the table, and nodes that the columns hold
pub record Sound (columns : List ℕ) (rows : List Facts) (m : Node) : Type 0 where
  pub parts : All (λ k. (k < length rows) × Right columns rows k) (nodes_of (parts_of m))
  pub has : All (λ q. Has columns q.1) (references m)
  pub tabled : All (λ x. x < 128) (names_in m)

-- ---- what a call on a node does to the rows

-- row i alone is changed, and is these facts
pub record Put (before : List Facts) (i : ℕ) (f : Facts) (after : List Facts) : Type 0 where
  pub there : after ≡ set before i f

-- what was right stays right
pub record Kept (columns : List ℕ) (before after : List Facts) : Type 0 where
  pub long : length after ≡ length before
  pub right : (k : ℕ) → Right columns before k → Right columns after k

abbrev pub node_of : List ℕ → ℕ → Node
node_of columns i = get_or (held columns) i ListEnd

-- node i refers to node k
abbrev pub Refers : List ℕ → ℕ → ℕ → Type 0
Refers columns i k = (s : Sort) × Memᴰ (s, k) (references (node_of columns i))

-- node k is node i, or stands below it
pub data Reaches (columns : List ℕ) : ℕ → ℕ → Type 0 where
  here : {i : ℕ} → Reaches columns i i
  by : {i j k : ℕ} → Refers columns i j → Reaches columns j k → Reaches columns i k

-- the rows of node i and of all conditions and terms below it are right, and none was spoilt
pub record Gathered (columns : List ℕ) (before after : List Facts) (i : ℕ) : Type 0 where
  pub kept : Kept columns before after
  pub here : Right columns after i
  pub below : (k : ℕ) → Reaches columns i k → has_row columns k ≡ true → Right columns after k
