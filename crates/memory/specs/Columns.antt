-- Nodes as columns: one of kinds and three of fields, each of 16 bits, side by side in 512 words of 64 bits, a word for a node with its kind lowest; and behind them how
-- many nodes there are. The fields have the six bytes of the body, two by two, so that a slot, a type byte or an op is folded in, and what begins at an odd place of the body
-- stands in two of them. Assumes nothing: these are definitions.
use Rattle.std.specs.Prelude.{ℕ, zero, suc, ◌+◌, ◌*◌, ◌/◌, ◌%◌, ◌<◌, ◌≡◌, ◌||◌, List, [], ◌∷◌, ◌++◌, eqb, get_or}
use Rattle.paper.specs.declared.Node.{Node}
use Rattle.paper.specs.declared.Node.TheVariants.{ListEnd}
use Rattle.paper.specs.Record.{pick, Field, to, name_number, symbol, octet, comparison_op, arith_op, slot, slot_of, kinds, Announced, format, name, end, unknown, node, node_kind, announced}
use Rattle.memory.specs.declared.Numbers.{Numbers}
use Rattle.memory.specs.Decoded.{node_from}

-- ---- a node from its columns

-- what a field says where this number stands for it
unfoldable pub said_by : Field → ℕ → List ℕ
said_by (to s) x = x ∷ []
said_by symbol x = x ∷ []
said_by slot x = x % 256 ∷ x / 256 ∷ []
said_by name_number x = x % 256 ∷ []
said_by octet x = x % 256 ∷ []
said_by comparison_op x = x % 256 ∷ []
said_by arith_op x = x % 256 ∷ []

unfoldable pub values_in : List Field → List ℕ → List ℕ
values_in [] xs = []
values_in (f ∷ fs) [] = []
values_in (f ∷ fs) (x ∷ xs) = said_by f x ++ values_in fs xs

-- the line below has all that a literal kind computes with, so that a proof at one names this alone
unfoldable pub node_said : Announced → List ℕ → Node
unfolding announced node_kind kinds slot_of said_by values_in
node_said (node r) xs = r.node (λ i. get_or (values_in r.body xs) i 0)
node_said format xs = ListEnd
node_said name xs = ListEnd
node_said end xs = ListEnd
node_said unknown xs = ListEnd

-- where the fields of a kind begin in its body; where there is no such field, no matter
unfoldable pub second_place : ℕ → ℕ
second_place k = pick (eqb k 0x17 || eqb k 0x28) 1 2

unfoldable pub third_place : ℕ → ℕ
third_place k = pick ((eqb k 0x16 || eqb k 0x17) || (eqb k 0x28 || eqb k 0x33)) 3 4

-- the node of a kind where these are the two bytes at each place of its body
unfoldable pub node_told : ℕ → List ℕ → Node
unfolding node_said second_place third_place
node_told k ps = node_said (announced k) (get_or ps 0 0 ∷ get_or ps (second_place k) 0 ∷ get_or ps (third_place k) 0 ∷ [])

-- the two bytes at each place of the body: those at 0, 2 and 4 are the columns of fields
abbrev pub places_in : ℕ → List ℕ
places_in w =
    w / 0x10000 % 0x10000 ∷ w / 0x1000000 % 0x10000 ∷ w / 0x100000000 % 0x10000 ∷ w / 0x10000000000 % 0x10000 ∷ w / 0x1000000000000 % 0x10000 ∷ []

-- the same as the code has it
abbrev pub told_by : Numbers → Node
told_by n = node_told n.kind (n.p0 ∷ n.p1 ∷ n.p2 ∷ n.p3 ∷ n.p4 ∷ [])

abbrev pub numbers_in : ℕ → Numbers
numbers_in w =
    record {
      kind = w % 0x10000;
      p0 = w / 0x10000 % 0x10000;
      p1 = w / 0x1000000 % 0x10000;
      p2 = w / 0x100000000 % 0x10000;
      p3 = w / 0x10000000000 % 0x10000;
      p4 = w / 0x1000000000000 % 0x10000;
    }

abbrev pub node_in : List ℕ → ℕ → Node
node_in words i = node_told (get_or words i 0 % 0x10000) (places_in (get_or words i 0))

-- ---- the nodes that columns hold

unfoldable pub first_nodes : List ℕ → ℕ → List Node
first_nodes words zero = []
first_nodes words (suc n) = first_nodes words n ++ (node_in words n ∷ [])

unfoldable pub held : List ℕ → List Node
held words = first_nodes words (get_or words 512 0)

-- ---- how they are filled

-- a record as a node's columns, where these are its first eight bytes as one number, the first lowest: no node's record has more than seven
abbrev pub in_columns : ℕ → ℕ
in_columns w = w % 0x100 + 0x10000 * (w / 0x100 % 0x1000000000000)

-- each of so many nodes is the one that its record's bytes say
pub record Copies (bytes starts : List ℕ) (nodes : ℕ) (words : List ℕ) : Type 0 where
  pub count : get_or words 512 0 ≡ nodes
  pub each : (i : ℕ) → i < nodes → node_in words i ≡ node_from bytes (get_or starts i 0)
