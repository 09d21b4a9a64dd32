-- Each node reads the same from its word and from its record's bytes: one law over the table of kinds. And what is asked of a node that words hold may be
-- asked of its kind and of the two bytes at each place. Assumes nothing.
use mathlib.Core.Path.{◌≡◌, refl, sym, ap, ap₂, ◌∙◌}
use mathlib.Core.Bool.{Bool, true, false, ◌||◌, false≢true}
use mathlib.Core.List.{List, [], ◌∷◌, ◌++◌, map}
use Prim.Native.Nat.{ℕ, zero, suc, ◌+◌, ◌*◌, ◌/◌, ◌%◌, ◌<◌}
use native.Mathlib.Omega.{arith}
use native.Mathlib.Decide.{dec_lt}
use lib.Dec.{eqb}
use lib.ListN.{length, get_or, drop, length-append, get_or-append}
use lib.Seq.{drop-drop, get_or-drop, get_or_at, ext_get_or}
use borrow.Author.Tests.{eqb-true}
use Rattle.paper.specs.declared.Node.{Node}
use Rattle.paper.specs.declared.Node.TheVariants.{ListEnd}
use Rattle.paper.specs.Record.{pick, Field, to, name_number, symbol, octet, comparison_op, arith_op, slot, field_bytes, two_bytes, value, values, Announced, format, name, end, unknown, node, announced}
use Rattle.memory.specs.declared.Numbers.{Numbers}
use Rattle.memory.specs.Decoded.{node_read, node_from}
use Rattle.memory.specs.Columns.{said_by, values_in, node_said, second_place, third_place, node_told, told_by, numbers_in, node_in, first_nodes, held, Copies}
use Rattle.memory.proofs.Unnamed.{and_left, and_right}
use Rattle.memory.proofs.KindLaws.{begin?, places, known}

-- ---- both layouts

-- numbers that are bytes
abbrev pub Octets : List ℕ → Type 0
Octets b = (i : ℕ) → get_or b i 0 < 256

module _ (b : List ℕ) (small : Octets b) where
  -- the two bytes at a place
  abbrev pub number_at : ℕ → ℕ
  number_at o = two_bytes (drop o b)

  field_same : (f : Field) (o : ℕ) → said_by f (number_at o) ≡ value f (drop o b)
  unfolding said_by value two_bytes
  field_same f o = go f
    where
      low : (get_or (drop o b) 0 0 + 256 * get_or (drop o b) 1 0) % 256 ≡ get_or (drop o b) 0 0
      low = let z = small (o + 0) in let e = get_or-drop o b 0 0 in omega arith

      high : (get_or (drop o b) 0 0 + 256 * get_or (drop o b) 1 0) / 256 ≡ get_or (drop o b) 1 0
      high = let z = small (o + 0) in let e = get_or-drop o b 0 0 in omega arith

      go : (f : Field) → said_by f (number_at o) ≡ value f (drop o b)
      go (to s) = refl
      go symbol = refl
      go slot = ap₂ (λ (x y : ℕ). x ∷ y ∷ []) low high
      go name_number = ap (λ (x : ℕ). x ∷ []) low
      go octet = ap (λ (x : ℕ). x ∷ []) low
      go comparison_op = ap (λ (x : ℕ). x ∷ []) low
      go arith_op = ap (λ (x : ℕ). x ∷ []) low

  values_same : (fs : List Field) (o : ℕ) (ps : List ℕ) → begin? fs o ps ≡ true → values_in fs (map number_at ps) ≡ values fs (drop o b)
  unfolding begin? values_in values
  values_same [] o ps h = refl
  values_same (f ∷ fs) o [] h = absurd (false≢true h)
  values_same (f ∷ fs) o (p ∷ ps) h =
      let e : o ≡ p = eqb-true o p (and_left _ _ h) in
      ap₂ {C = List ℕ} ◌++◌ (ap (λ (q : ℕ). said_by f (number_at q)) (sym e) ∙ field_same f o)
      (values_same fs (o + field_bytes f) ps (and_right (eqb o p) _ h) ∙ ap (values fs) (sym (drop-drop (field_bytes f) o b)))

  -- whatever the kind says, it says it of both
  pub reads_same : (k : ℕ) → node_said (announced k) (map number_at (places k)) ≡ node_read (announced k) b
  unfolding node_said node_read
  reads_same k = go (announced k) refl
    where
      go : (a : Announced) → announced k ≡ a → node_said a (map number_at (places k)) ≡ node_read a b
      go (node r) e = ap (λ (vs : List ℕ). r.node (λ i. get_or vs i 0)) (values_same r.body 0 (places k) (known k r e).begin)
      go format e = refl
      go name e = refl
      go end e = refl
      go unknown e = refl

  -- the two bytes at each place that a field may begin at
  abbrev pub numbers_at : List ℕ
  numbers_at = number_at 0 ∷ number_at 1 ∷ number_at 2 ∷ number_at 3 ∷ number_at 4 ∷ []

  second_same : (t : Bool) → get_or numbers_at (pick t 1 2) 0 ≡ number_at (pick t 1 2)
  second_same true = refl
  second_same false = refl

  third_same : (t : Bool) → get_or numbers_at (pick t 3 4) 0 ≡ number_at (pick t 3 4)
  third_same true = refl
  third_same false = refl

  pub told_same : (k : ℕ) → node_told k numbers_at ≡ node_read (announced k) b
  unfolding node_told second_place third_place
  told_same k =
      ap₂ (λ (y z : ℕ). node_said (announced k) (number_at 0 ∷ y ∷ z ∷ [])) (second_same (eqb k 0x17 || eqb k 0x28)) (third_same ((eqb k 0x16 || eqb k 0x17) || (eqb k 0x28 || eqb k 0x33)))
      ∙ reads_same k

-- ---- the nodes that words hold

module _ (words : List ℕ) where
  pub long_first : (n : ℕ) → length (first_nodes words n) ≡ n
  unfolding first_nodes
  long_first zero = refl
  long_first (suc n) = let z = long_first n in let l = length-append (first_nodes words n) (node_in words n ∷ []) in omega arith

  pub first_at : (n i : ℕ) → i < n → get_or (first_nodes words n) i ListEnd ≡ node_in words i
  unfolding first_nodes
  first_at zero i h = absurd (omega arith)
  first_at (suc n) i h = go (λ l. first_at n i l) (dec_lt i n)
    where
      go : (i < n → get_or (first_nodes words n) i ListEnd ≡ node_in words i) → Dec (i < n) → get_or (first_nodes words n ++ (node_in words n ∷ [])) i ListEnd ≡ node_in words i
      go before (yes l) = get_or-append (first_nodes words n) (node_in words n ∷ []) ListEnd i (let z = long_first n in omega arith) ∙ before l
      go before (no l) =
          let e : n ≡ i = omega arith in
          get_or_at (first_nodes words n) (node_in words n) [] ListEnd i (long_first n ∙ e) ∙ ap (node_in words) e

pub held_at : (words : List ℕ) (i : ℕ) → i < length (held words) → get_or (held words) i ListEnd ≡ node_in words i
unfolding held
held_at words i h = first_at words (get_or words 512 0) i (let z = long_first words (get_or words 512 0) in omega arith)

-- what is asked of a node that is held may be asked of its numbers
pub asked_of : {A : Type 0} (f : Node → A) (words : List ℕ) (i : ℕ) (n : Numbers) {t : A} → i < length (held words) → n ≡ numbers_in (get_or words i 0)
    → t ≡ f (told_by n) → t ≡ f (get_or (held words) i ListEnd)
asked_of f words i n h e q = q ∙ ap (λ (m : Numbers). f (told_by m)) e ∙ ap f (sym (held_at words i h))

-- what was copied is held
pub copied_held : (bytes starts words : List ℕ) (ms : List Node) → Copies bytes starts (length ms) words
    → ((i : ℕ) → i < length ms → get_or ms i ListEnd ≡ node_from bytes (get_or starts i 0)) → held words ≡ ms
unfolding held
copied_held bytes starts words ms c e =
    ap (first_nodes words) c.count ∙ ext_get_or ListEnd (first_nodes words (length ms)) ms (long_first words (length ms))
    (λ i h. let l : i < length ms = let z = long_first words (length ms) in omega arith in first_at words (length ms) i l ∙ c.each i l ∙ sym (e i l))
