-- What holds of every kind of the table, by one computed test over it: its fields make a row and begin where the columns take them from, its body has at most
-- 6 bytes, and its row has its number.
-- Assumes nothing.
use mathlib.Core.Path.{◌≡◌, refl, sym, ap, ◌∙◌}
use mathlib.Core.Bool.{Bool, true, false, ◌&&◌}
use mathlib.Core.List.{List, [], ◌∷◌}
use Prim.Native.Nat.{ℕ, ◌+◌, ◌≤◌}
use native.Mathlib.Omega.{arith}
use lib.Dec.{eqb, leb}
use lib.ListN.{length}
use borrow.Author.Tests.{eqb-true, leb-true}
use Rattle.paper.specs.Record.{
  pick,
  Field,
  field_bytes,
  body_length,
  Kind,
  kinds,
  slot_of,
  Announced,
  format,
  name,
  end,
  unknown,
  node,
  node_kind,
  announced,
  body_bytes,
}
use Rattle.paper.proofs.Fields.{as_node}
use Rattle.memory.specs.Rows.{range_code, placed, references, row_for}
use Rattle.memory.specs.Columns.{second_place, third_place}
use Rattle.memory.proofs.FieldLaws.{Plain, RowLike}
use Rattle.memory.proofs.Unnamed.{and_left, and_right}

-- ---- the test

plain? : List (Field × ℕ) → Bool
plain? [] = true
plain? (p ∷ ps) = eqb (range_code p.0) 0 && plain? ps

plain : (ps : List (Field × ℕ)) → plain? ps ≡ true → Plain ps
unfolding plain?
plain [] e = tt
plain (p ∷ ps) e = (eqb-true (range_code p.0) 0 (and_left _ _ e), plain ps (and_right (eqb (range_code p.0) 0) _ e))

like? : List Field → Bool
like? [] = true
like? (f ∷ fs) = plain? (placed fs (0 + field_bytes f)) && leb (length (references (placed (f ∷ fs) 0))) 2

like : (fs : List Field) → like? fs ≡ true → RowLike fs
unfolding like?
like [] e = tt
like (f ∷ fs) e =
    (plain (placed fs (0 + field_bytes f)) (and_left _ _ e), leb-true _ 2 (and_right (plain? (placed fs (0 + field_bytes f))) _ e))

-- fields of which the first stands at a place of the body begin at these places
unfoldable pub begin? : List Field → ℕ → List ℕ → Bool
begin? [] o ps = true
begin? (f ∷ fs) o [] = false
begin? (f ∷ fs) o (p ∷ ps) = eqb o p && begin? fs (o + field_bytes f) ps

-- where the columns take the fields of a kind from
abbrev pub places : ℕ → List ℕ
places k = 0 ∷ second_place k ∷ third_place k ∷ []

good? : Kind → Bool
good? r = like? r.body && (leb (body_length r.body) 6 && begin? r.body 0 (places r.kind))

all_good? : List Kind → Bool
all_good? [] = true
all_good? (r ∷ rs) = good? r && all_good? rs

all_good : all_good? kinds ≡ true
unfolding all_good? good? like? plain? begin? kinds slot_of body_length field_bytes placed references second_place third_place
all_good = refl

-- ---- what it comes to

pub record Known (k : ℕ) (r : Kind) : Type 0 where
  pub row_like : RowLike r.body
  pub short : body_length r.body ≤ 6
  pub numbered : r.kind ≡ k
  pub begin : begin? r.body 0 (places k) ≡ true

node_eq : (r s : Kind) → node r ≡ node s → r ≡ s
node_eq r s e = cc

known_in : (rs : List Kind) (k : ℕ) (r : Kind) → all_good? rs ≡ true → node_kind rs k ≡ node r → (good? r ≡ true) × (r.kind ≡ k)
unfolding all_good? node_kind
known_in [] k r g e = absurd (let z : ◌≡◌ {A = ℕ} 0 1 = cc in omega arith)
known_in (x ∷ rs) k r g e = go (eqb k x.kind) refl e (λ h. known_in rs k r (and_right (good? x) _ g) h)
  where
    go : (t : Bool) → eqb k x.kind ≡ t → pick t (node x) (node_kind rs k) ≡ node r
        → (node_kind rs k ≡ node r → (good? r ≡ true) × (r.kind ≡ k)) → (good? r ≡ true) × (r.kind ≡ k)
    go true p q f =
        let d : x ≡ r = node_eq x r q in
        (sym (ap good? d) ∙ and_left _ _ g, sym (ap (λ (z : Kind). z.kind) d) ∙ sym (eqb-true k x.kind p))
    go false p q f = f q

pub known : (k : ℕ) (r : Kind) → announced k ≡ node r → Known k r
unfolding good?
known k r e =
    let w = known_in kinds k r all_good (as_node k r e) in
    let g = and_right (like? r.body) _ w.0 in
    record {
      row_like = like r.body (and_left _ _ w.0);
      short = leb-true _ 6 (and_left _ _ g);
      numbered = w.1;
      begin = ap (λ (n : ℕ). begin? r.body 0 (places n)) (sym w.1) ∙ and_right (leb (body_length r.body) 6) _ g;
    }

-- a row's length is the body's
pub row_length : (a : Announced) → (row_for a).len ≡ body_bytes a
unfolding row_for body_bytes
row_length format = refl
row_length name = refl
row_length end = refl
row_length unknown = refl
row_length (node r) = refl

-- ---- a row's class tells what was announced

pub class_unknown : (a : Announced) → (row_for a).class ≡ 0 → a ≡ unknown
unfolding row_for
class_unknown unknown e = refl
class_unknown format e = absurd (omega arith)
class_unknown name e = absurd (omega arith)
class_unknown end e = absurd (omega arith)
class_unknown (node r) e = absurd (omega arith)

pub class_format : (a : Announced) → (row_for a).class ≡ 1 → a ≡ format
unfolding row_for
class_format unknown e = absurd (omega arith)
class_format format e = refl
class_format name e = absurd (omega arith)
class_format end e = absurd (omega arith)
class_format (node r) e = absurd (omega arith)

pub class_name : (a : Announced) → (row_for a).class ≡ 2 → a ≡ name
unfolding row_for
class_name unknown e = absurd (omega arith)
class_name format e = absurd (omega arith)
class_name name e = refl
class_name end e = absurd (omega arith)
class_name (node r) e = absurd (omega arith)

pub class_node : (a : Announced) → (row_for a).class ≡ 3 → (r : Kind) × (a ≡ node r)
unfolding row_for
class_node unknown e = absurd (omega arith)
class_node format e = absurd (omega arith)
class_node name e = absurd (omega arith)
class_node end e = absurd (omega arith)
class_node (node r) e = (r, refl)

pub class_end : (a : Announced) → (row_for a).class ≡ 4 → a ≡ end
unfolding row_for
class_end unknown e = absurd (omega arith)
class_end format e = absurd (omega arith)
class_end name e = absurd (omega arith)
class_end end e = refl
class_end (node r) e = absurd (omega arith)
