-- Document 01, 'When bytes are turned away': the records are read front to back, and the first fault wins.
-- What the reader makes of accepted bytes, a table of names and a row of nodes, is `Contents`. Assumes nothing: these are definitions.
use Rattle.std.specs.Prelude.{ℕ, zero, suc, ◌+◌, ◌-◌, max, Bool, true, false, not, ◌&&◌, ◌||◌, List, [], ◌∷◌, ◌++◌, map, eqb, leb, ltb, length, take, drop, get_or, Result, Ok, Err}
use Rattle.paper.specs.declared.Node.{Node}
use Rattle.paper.specs.declared.Node.TheVariants.{ListEnd}
use Rattle.paper.specs.declared.Counts.{Counts}
use Rattle.paper.specs.declared.Refusal.{Refusal}
use Rattle.paper.specs.Sets.{Set, none, only, ◌∪◌, all_below}
use Rattle.paper.specs.Record.{
  pick,
  edition,
  most_names,
  name_bytes,
  most_nodes,
  most_depth,
  is_name,
  precedes,
  Sort,
  condition,
  fits,
  Field,
  to,
  name_number,
  symbol,
  octet,
  comparison_op,
  arith_op,
  slot,
  field_bytes,
  byte,
  second,
  two_bytes,
  values,
  Kind,
  Announced,
  format,
  name,
  end,
  unknown,
  node,
  announced,
  body_bytes,
}

-- ---- what the bytes come to

-- the names of the table, each as its 24 bytes, and the nodes, both by their numbers
pub record Contents : Type 0 where
  pub names : List (List ℕ)
  pub nodes : List Node

-- "1 to 13 return number and byte offset of the record"
pub data Outcome : Type 0 where
  refused : ℕ → ℕ → Outcome
  accepted : Contents → Outcome

abbrev pub counts : ℕ → ℕ → Counts
counts names nodes = record { names = names; nodes = nodes }

abbrev pub refusal : ℕ → ℕ → Refusal
refusal number offset = record { number = number; offset = offset }

-- the same as the reader's verdict: the counts, or the refusal
unfoldable pub verdict : Outcome → Result Counts Refusal
verdict (refused number offset) = Err (refusal number offset)
verdict (accepted c) = Ok (counts (length c.names) (length c.nodes))

-- ---- what was read so far

-- a node: the kind of its record, its nesting depth, and what it says
pub record Seen : Type 0 where
  pub kind : ℕ
  pub depth : ℕ
  pub node : Node

-- where the next record begins, whether the format record was read, the names, the nodes, and the nodes that are referred to
pub record SoFar : Type 0 where
  pub at : ℕ
  pub begun : Bool
  pub names : List (List ℕ)
  pub nodes : List Seen
  pub used : Set

unfoldable pub nothing_read : SoFar
nothing_read = record { at = 0; begun = false; names = []; nodes = []; used = none }

-- off the end of the row: no reference that is looked up is there
abbrev pub unseen : Seen
unseen = record { kind = 0; depth = 0; node = ListEnd }

-- ---- kind, cut, capacity

-- "Order: one format record, name records, node records, one end record"
unfoldable pub in_order : Announced → SoFar → Bool
in_order format so = not so.begun
in_order name so = so.begun && eqb (length so.nodes) 0
in_order (node r) so = so.begun
in_order end so = so.begun
in_order unknown so = false

-- "129th name or 513th node"
unfoldable pub full : Announced → SoFar → Bool
full format so = false
full name so = leb most_names (length so.names)
full (node r) so = leb most_nodes (length so.nodes)
full end so = false
full unknown so = false

-- ---- the fields of a node, in order

-- the fault of the fields read so far; or the depth of the deepest child, 0 where there is none, and the nodes referred to
pub data Checked : Type 0 where
  fault : ℕ → Checked
  fine : ℕ → Set → Checked

-- "each reference: 8, 9, 11": below its own node, of the place's sort, and not yet referred to
unfoldable pub refer : Sort → ℕ → List Seen → ℕ → Set → Checked
refer sort k nodes deep used =
    pick (ltb k (length nodes))
    (pick (fits sort (get_or nodes k unseen).kind)
    (pick (used k) (fault 11) (fine (max deep (get_or nodes k unseen).depth) (used ∪ only k)))
    (fault 9))
    (fault 8)

-- "7: op, slot sort or name number out of range"
unfoldable pub in_range : Bool → ℕ → Set → Checked
in_range ok deep used = pick ok (fine deep used) (fault 7)

-- "Comparison op 0 is equality, 1 to 5 the others"; "Arith op is 0 to 2"; a slot's sort is 0 to 2, "for sort 0 it is a name"
unfoldable pub check : Field → List ℕ → SoFar → ℕ → Set → Checked
check (to sort) b so deep used = refer sort (two_bytes b) so.nodes deep used
check name_number b so deep used = in_range (ltb (byte b) (length so.names)) deep used
check comparison_op b so deep used = in_range (leb (byte b) 5) deep used
check arith_op b so deep used = in_range (leb (byte b) 2) deep used
check slot b so deep used = in_range (leb (byte b) 2 && (not (eqb (byte b) 0) || ltb (second b) (length so.names))) deep used
check symbol b so deep used = fine deep used
check octet b so deep used = fine deep used

unfoldable pub check_all : List Field → List ℕ → SoFar → ℕ → Set → Checked
check_all [] b so deep used = fine deep used
check_all (f ∷ fs) b so deep used =
    elim (check f b so deep used) [ fault n ↦ fault n | fine d u ↦ check_all fs (drop (field_bytes f) b) so d u ]

-- "depth last": "one more than its deepest child, a childless node has 1"
unfoldable pub check_depth : Checked → Checked
check_depth (fault n) = fault n
check_depth (fine deep used) = pick (ltb most_depth (deep + 1)) (fault 10) (fine deep used)

-- ---- one record

pub data Step : Type 0 where
  on : SoFar → Step
  stop : Outcome → Step

abbrev turn_away : ℕ → SoFar → Step
turn_away number so = stop (refused number so.at)

-- "3: edition not 1"
unfoldable pub read_format : List ℕ → SoFar → Step
read_format b so =
    pick (eqb (byte b) edition)
    (on (record { at = so.at + 1 + 1; begun = true; names = so.names; nodes = so.nodes; used = so.used }))
    (turn_away 3 so)

-- the name read last, or no byte at all, which is before any name
unfoldable pub last_name : List (List ℕ) → List ℕ
last_name names = get_or names (length names - 1) []

-- "4: bad name"; "5: name not above the one before"
unfoldable pub read_name : List ℕ → SoFar → Step
read_name n so =
    pick (is_name n)
    (pick (precedes (last_name so.names) n)
    (on (record { at = so.at + 1 + name_bytes; begun = so.begun; names = so.names ++ (n ∷ []); nodes = so.nodes; used = so.used }))
    (turn_away 5 so))
    (turn_away 4 so)

unfoldable pub add_node : Kind → List ℕ → SoFar → Checked → Step
add_node r b so (fault n) = turn_away n so
add_node r b so (fine deep used) =
    on
    (record {
      at = so.at + 1 + body_bytes (node r);
      begun = so.begun;
      names = so.names;
      nodes = so.nodes ++ (record { kind = r.kind; depth = deep + 1; node = r.node (λ i. get_or (values r.body b) i 0) } ∷ []);
      used = used;
    })

unfoldable pub read_node : Kind → List ℕ → SoFar → Step
read_node r b so = add_node r b so (check_depth (check_all r.body b so 0 so.used))

-- "12: end count wrong, or bytes after the end record"; "13: no node, root not a condition, or another node unused"
unfoldable pub read_end : List ℕ → SoFar → Outcome
read_end b so =
    let n : ℕ = length so.nodes in
    pick (eqb (two_bytes b) n && eqb (length b) 2)
    (pick (not (eqb n 0) && (fits condition (get_or so.nodes (n - 1) unseen).kind && all_below (n - 1) so.used))
    (accepted (record { names = so.names; nodes = map (λ (s : Seen). s.node) so.nodes }))
    (refused 13 so.at))
    (refused 12 so.at)

unfoldable pub read_body : Announced → List ℕ → SoFar → Step
read_body format b so = read_format b so
read_body name b so = read_name (take name_bytes b) so
read_body (node r) b so = read_node r b so
read_body end b so = stop (read_end b so)
read_body unknown b so = turn_away 2 so

-- "Inside one: kind, cut, capacity, then body fields in order"; `b` is all that follows the kind byte
unfoldable pub read_record : ℕ → List ℕ → SoFar → Step
read_record k b so =
    pick (in_order (announced k) so)
    (pick (leb (body_bytes (announced k)) (length b))
    (pick (full (announced k) so) (turn_away 6 so) (read_body (announced k) b so))
    (turn_away 1 so))
    (turn_away 2 so)

-- ---- front to back

-- the bytes that are left, of which the first `skip` belong to the record just read;
-- "or the bytes end with no end record (offset is then the length)"
unfoldable pub read_on : List ℕ → ℕ → SoFar → Outcome
read_on [] skip so = refused 1 so.at
read_on (k ∷ b) (suc skip) so = read_on b skip so
read_on (k ∷ b) zero so = elim (read_record k b so) [ on next ↦ read_on b (body_bytes (announced k)) next | stop o ↦ o ]

unfoldable pub read : List ℕ → Outcome
read bytes = read_on bytes 0 nothing_read
