-- The table of kinds as the code looks it up: a row of small numbers for each kind byte, made from the definitions' table. Assumes nothing: these are definitions.
use Rattle.std.specs.Prelude.{ℕ, ◌+◌, ◌/◌, ◌%◌, List, [], ◌∷◌, ◌++◌, get_or}
use Rattle.paper.specs.Record.{
  Sort,
  condition,
  term,
  arguments,
  items,
  binders,
  Field,
  to,
  name_number,
  symbol,
  octet,
  comparison_op,
  arith_op,
  slot,
  field_bytes,
  body_length,
  Announced,
  format,
  name,
  end,
  unknown,
  node,
  announced,
}
use Rattle.memory.specs.declared.Row.{Row}

-- ---- sorts and checked fields as numbers; 0 is none

abbrev pub sort_code : Sort → ℕ
sort_code condition = 1
sort_code term = 2
sort_code arguments = 3
sort_code items = 4
sort_code binders = 5

-- the kinds that fit a sort, a bit for each
unfoldable pub fitting : Sort → ℕ
fitting condition = 0x1FFF0000
fitting term = 0xFFF00000000
fitting arguments = 0x3000000000000
fitting items = 0x5000000000000
fitting binders = 0x9000000000000

-- a field's number where it is looked at for its range, and 0 for others
abbrev pub range_code : Field → ℕ
range_code (to s) = 0
range_code symbol = 0
range_code octet = 0
range_code name_number = 1
range_code comparison_op = 2
range_code arith_op = 3
range_code slot = 4

-- ---- what is looked at in a body, and where

-- each field with its place in the body
unfoldable pub placed : List Field → ℕ → List (Field × ℕ)
placed [] off = []
placed (f ∷ fs) off = (f, off) ∷ placed fs (off + field_bytes f)

-- a reference by its sort's number and its place
abbrev pub reference : Field × ℕ → List (ℕ × ℕ)
reference p = of p.0
  where
    of : Field → List (ℕ × ℕ)
    of (to s) = (sort_code s, p.1) ∷ []
    of symbol = []
    of octet = []
    of name_number = []
    of comparison_op = []
    of arith_op = []
    of slot = []

unfoldable pub references : List (Field × ℕ) → List (ℕ × ℕ)
references [] = []
references (p ∷ ps) = reference p ++ references ps

-- the range of the first field
unfoldable pub first_range : List Field → ℕ
first_range [] = 0
first_range (f ∷ fs) = range_code f

-- class: 0 nothing known, 1 the format record, 2 a name, 3 a node, 4 the end record
unfoldable pub row_for : Announced → Row
row_for unknown = record { class = 0; len = 0; range = 0; sort1 = 0; at1 = 0; sort2 = 0; at2 = 0 }
row_for format = record { class = 1; len = 1; range = 0; sort1 = 0; at1 = 0; sort2 = 0; at2 = 0 }
row_for name = record { class = 2; len = 24; range = 0; sort1 = 0; at1 = 0; sort2 = 0; at2 = 0 }
row_for end = record { class = 4; len = 2; range = 0; sort1 = 0; at1 = 0; sort2 = 0; at2 = 0 }
row_for (node r) =
    let rs : List (ℕ × ℕ) = references (placed r.body 0) in
    record {
      class = 3;
      len = body_length r.body;
      range = first_range r.body;
      sort1 = (get_or rs 0 (0, 0)).0;
      at1 = (get_or rs 0 (0, 0)).1;
      sort2 = (get_or rs 1 (0, 0)).0;
      at2 = (get_or rs 1 (0, 0)).1;
    }

unfoldable pub row_at : ℕ → Row
row_at k = row_for (announced k)

-- ---- a row in one number: in hex from the left, a digit for each field and two for the length

abbrev pub unpacked : ℕ → Row
unpacked x =
    record {
      class = x / 0x10000000;
      len = x / 0x100000 % 256;
      range = x / 0x10000 % 16;
      sort1 = x / 0x1000 % 16;
      at1 = x / 0x100 % 16;
      sort2 = x / 0x10 % 16;
      at2 = x % 16;
    }
