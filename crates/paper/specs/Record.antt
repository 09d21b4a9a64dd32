-- Document 01, 'The record': the form of a name, the fields of a body, and the table of kinds.
-- How the records follow each other and which faults they may have is in TurnedAway.antt. Assumes nothing: these are definitions.
use Rattle.std.specs.Prelude.{ℕ, ◌+◌, ◌*◌, Bool, true, false, ◌&&◌, ◌||◌, List, [], ◌∷◌, ◌++◌, eqb, leb, ltb, drop, get_or}
use Prim.Native.Char.{code}
use Prim.Native.String.{String}
use Rattle.paper.specs.declared.NodeNo.{NodeNo}
use Rattle.paper.specs.declared.NameNo.{NameNo}
use Rattle.paper.specs.declared.Slot.{Slot}
use Rattle.paper.specs.declared.Slot.TheVariants.{Name, Param, Binder}
use Rattle.paper.specs.declared.Node.{Node}
use Rattle.paper.specs.declared.Node.TheVariants.{
  And,
  Or,
  Not,
  Formerly,
  Previous,
  Since,
  Exists,
  Comparison,
  Predicate,
  Refine,
  Tp,
  Call,
  SigilRef,
  Var,
  Wildcard,
  Literal,
  ScopeField,
  ContextField,
  ParamRef,
  BinderRef,
  Array,
  Arith,
  Sum,
  Count,
  AggregateCall,
  ListEnd,
  ArgumentCell,
  ItemCell,
  BinderCell,
}

-- the first where the test holds, else the second
abbrev pub pick {ℓ} : {A : Type ℓ} → Bool → A → A → A
pick true a b = a
pick false a b = b

-- ---- limits

-- "one format record 01 (edition, 1)"
abbrev pub edition : ℕ
edition = 1

-- "at most 128 names of 24 bytes each", "at most 512 nodes", "64 is the most"
abbrev pub most_names : ℕ
most_names = 128

abbrev pub name_bytes : ℕ
name_bytes = 24

abbrev pub most_nodes : ℕ
most_nodes = 512

abbrev pub most_depth : ℕ
most_depth = 64

-- ---- names

-- ASCII letters, and the underscore
abbrev pub letter : ℕ → Bool
letter x = (leb 65 x && leb x 90) || ((leb 97 x && leb x 122) || eqb x 95)

abbrev pub digit : ℕ → Bool
digit x = leb 48 x && leb x 57

unfoldable pub zeros : List ℕ → Bool
zeros [] = true
zeros (x ∷ xs) = eqb x 0 && zeros xs

-- what may follow the first byte: letters, digits and underscores, then zeros alone
unfoldable pub name_rest : List ℕ → Bool
name_rest [] = true
name_rest (x ∷ xs) = pick (eqb x 0) (zeros xs) ((letter x || digit x) && name_rest xs)

-- "1 to 24 bytes of ASCII letters, digits or underscore, no digit first, zero padded"
unfoldable pub is_name : List ℕ → Bool
is_name [] = false
is_name (x ∷ xs) = letter x && name_rest xs

-- strictly before, in byte order
unfoldable pub precedes : List ℕ → List ℕ → Bool
precedes [] [] = false
precedes [] (y ∷ ys) = true
precedes (x ∷ xs) [] = false
precedes (x ∷ xs) (y ∷ ys) = ltb x y || (eqb x y && precedes xs ys)

-- ---- the fields of a body

-- "10 to 1C are conditions, 20 to 2B terms, 30 to 33 lists; a list has only the cells of its place, and 30 ends any"
pub data Sort : Type 0 where
  condition term arguments items binders : Sort

unfoldable pub fits : Sort → ℕ → Bool
fits condition kind = leb 0x10 kind && leb kind 0x1C
fits term kind = leb 0x20 kind && leb kind 0x2B
fits arguments kind = eqb kind 0x30 || eqb kind 0x31
fits items kind = eqb kind 0x30 || eqb kind 0x32
fits binders kind = eqb kind 0x30 || eqb kind 0x33

-- a reference to a node of a sort; a name's number; a catalogue number or a window; a type byte or a sigil's number; an op; a slot
pub data Field : Type 0 where
  to : Sort → Field
  name_number symbol octet comparison_op arith_op slot : Field

-- "Node references and symbols have two bytes, name numbers one"; "a slot is a sort byte and a number"
unfoldable pub field_bytes : Field → ℕ
field_bytes (to s) = 2
field_bytes symbol = 2
field_bytes slot = 2
field_bytes name_number = 1
field_bytes octet = 1
field_bytes comparison_op = 1
field_bytes arith_op = 1

unfoldable pub body_length : List Field → ℕ
body_length [] = 0
body_length (f ∷ fs) = field_bytes f + body_length fs

-- "Numbers are little-endian"
abbrev pub byte : List ℕ → ℕ
byte b = get_or b 0 0

abbrev pub second : List ℕ → ℕ
second b = get_or b 1 0

unfoldable pub two_bytes : List ℕ → ℕ
two_bytes b = byte b + 256 * second b

-- what a field says at the front of some bytes: one number, or a slot's two
unfoldable pub value : Field → List ℕ → List ℕ
value (to s) b = two_bytes b ∷ []
value symbol b = two_bytes b ∷ []
value slot b = byte b ∷ second b ∷ []
value name_number b = byte b ∷ []
value octet b = byte b ∷ []
value comparison_op b = byte b ∷ []
value arith_op b = byte b ∷ []

unfoldable pub values : List Field → List ℕ → List ℕ
values [] b = []
values (f ∷ fs) b = value f b ++ values fs (drop (field_bytes f) b)

-- ---- the table of kinds

abbrev pub node_no : ℕ → NodeNo
node_no k = record { 0 = k }

abbrev pub name_no : ℕ → NameNo
name_no x = record { 0 = x }

-- "0 name, 1 parameter sigil, 2 binder sigil"
unfoldable pub slot_of : ℕ → ℕ → Slot
slot_of sort number = pick (eqb sort 0) (Name (name_no number)) (pick (eqb sort 1) (Param number) (Binder number))

-- a row of the table: the kind, the fields of its body in order, and the node that their values make
pub record Kind : Type 0 where
  pub kind : ℕ
  pub body : List Field
  pub node : (ℕ → ℕ) → Node

abbrev row : ℕ → List Field → ((ℕ → ℕ) → Node) → Kind
row k fs f = record { kind = k; body = fs; node = f }

unfoldable pub kinds : List Kind
unfolding slot_of
kinds =
    row 0x10 (to condition ∷ to condition ∷ []) (λ v. And (node_no (v 0)) (node_no (v 1)))
    ∷ row 0x11 (to condition ∷ to condition ∷ []) (λ v. Or (node_no (v 0)) (node_no (v 1)))
    ∷ row 0x12 (to condition ∷ []) (λ v. Not (node_no (v 0)))
    ∷ row 0x13 (to condition ∷ symbol ∷ []) (λ v. Formerly (node_no (v 0)) (v 1))
    ∷ row 0x14 (to condition ∷ symbol ∷ []) (λ v. Previous (node_no (v 0)) (v 1))
    ∷ row 0x15 (to condition ∷ to condition ∷ symbol ∷ []) (λ v. Since (node_no (v 0)) (node_no (v 1)) (v 2))
    ∷ row 0x16 (slot ∷ octet ∷ to condition ∷ []) (λ v. Exists (slot_of (v 0) (v 1)) (v 2) (node_no (v 3)))
    ∷ row 0x17 (comparison_op ∷ to term ∷ to term ∷ []) (λ v. Comparison (v 0) (node_no (v 1)) (node_no (v 2)))
    ∷ row 0x18 (symbol ∷ to arguments ∷ []) (λ v. Predicate (v 0) (node_no (v 1)))
    ∷ row 0x19 (to condition ∷ to arguments ∷ []) (λ v. Refine (node_no (v 0)) (node_no (v 1)))
    ∷ row 0x1A (slot ∷ []) (λ v. Tp (slot_of (v 0) (v 1)))
    ∷ row 0x1B (symbol ∷ []) (λ v. Call (v 0))
    ∷ row 0x1C (symbol ∷ []) (λ v. SigilRef (v 0))
    ∷ row 0x20 (name_number ∷ []) (λ v. Var (name_no (v 0)))
    ∷ row 0x21 [] (λ v. Wildcard)
    ∷ row 0x22 (symbol ∷ []) (λ v. Literal (v 0))
    ∷ row 0x23 (symbol ∷ []) (λ v. ScopeField (v 0))
    ∷ row 0x24 (symbol ∷ []) (λ v. ContextField (v 0))
    ∷ row 0x25 (octet ∷ []) (λ v. ParamRef (v 0))
    ∷ row 0x26 (octet ∷ []) (λ v. BinderRef (v 0))
    ∷ row 0x27 (to items ∷ []) (λ v. Array (node_no (v 0)))
    ∷ row 0x28 (arith_op ∷ to term ∷ to term ∷ []) (λ v. Arith (v 0) (node_no (v 1)) (node_no (v 2)))
    ∷ row 0x29 (slot ∷ to binders ∷ to condition ∷ []) (λ v. Sum (slot_of (v 0) (v 1)) (node_no (v 2)) (node_no (v 3)))
    ∷ row 0x2A (to binders ∷ to condition ∷ []) (λ v. Count (node_no (v 0)) (node_no (v 1)))
    ∷ row 0x2B (symbol ∷ []) (λ v. AggregateCall (v 0))
    ∷ row 0x30 [] (λ v. ListEnd)
    ∷ row 0x31 (symbol ∷ to term ∷ to arguments ∷ []) (λ v. ArgumentCell (v 0) (node_no (v 1)) (node_no (v 2)))
    ∷ row 0x32 (to term ∷ to items ∷ []) (λ v. ItemCell (node_no (v 0)) (node_no (v 1)))
    ∷ row 0x33 (slot ∷ octet ∷ to binders ∷ []) (λ v. BinderCell (slot_of (v 0) (v 1)) (v 2) (node_no (v 3)))
    ∷ []

-- what a kind byte announces: the format record 01, a name record 02, a node, the end record 7F, or nothing known
pub data Announced : Type 0 where
  format name end unknown : Announced
  node : Kind → Announced

unfoldable pub node_kind : List Kind → ℕ → Announced
node_kind [] k = unknown
node_kind (r ∷ rs) k = pick (eqb k r.kind) (node r) (node_kind rs k)

unfoldable pub announced : ℕ → Announced
announced k = pick (eqb k 0x01) format (pick (eqb k 0x02) name (pick (eqb k 0x7F) end (node_kind kinds k)))

-- "a body whose length the kind fixes"
unfoldable pub body_bytes : Announced → ℕ
body_bytes format = 1
body_bytes name = name_bytes
body_bytes end = 2
body_bytes unknown = 0
body_bytes (node r) = body_length r.body

-- a text as its bytes
unfoldable pub ascii : String → List ℕ
ascii String.[] = []
ascii (String.◌∷◌ c s) = code c ∷ ascii s
