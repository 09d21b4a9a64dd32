-- The fields of a node that passed: its references are below it, of their sorts and new, and its names are in the table. Assumes nothing.
use mathlib.Core.Path.{◌≡◌, refl, sym, ap, subst}
use mathlib.Core.Bool.{Bool, true, false, not, ◌&&◌, ◌||◌, true≢false}
use mathlib.Core.List.{List, [], ◌∷◌, ◌++◌}
use Prim.Native.Nat.{ℕ, suc, ◌<◌, ◌≤◌, max}
use native.Mathlib.Nat.{le_of_eq}
use native.Mathlib.Omega.{arith}
use lib.Dec.{eqb, leb, ltb}
use lib.ListN.{length, get_or, drop}
use borrow.Author.Tests.{ltb-true}
use Rattle.paper.specs.declared.Slot.TheVariants.{Name, Param, Binder}
use Rattle.paper.specs.Sets.{Set, only, ◌∪◌}
use Rattle.paper.specs.Record.{pick, byte, second, two_bytes, Sort, condition, term, arguments, items, binders, fits, Field, to, name_number, symbol, octet}
use Rattle.paper.specs.Record.{comparison_op, arith_op, slot, field_bytes, value, values, slot_of, name_no, Kind, kinds, format, name, end, node, node_kind}
use Rattle.paper.specs.Record.{announced}
use Rattle.paper.specs.TurnedAway.{Seen, unseen, SoFar, Checked, fault, fine, refer, in_range, check, check_all}
use Rattle.paper.specs.declared.NodeNo.{NodeNo}
use Rattle.paper.specs.Tree.{Tree, planted}
use Rattle.paper.specs.Shape.{references, slot_names, names_in}
use Rattle.paper.proofs.Walks.{All, all_append}
use Rattle.paper.proofs.Weights.{of_sort}

-- ---- what the fields say, by the table's rows

abbrev next : (ℕ → ℕ) → ℕ → ℕ
next v i = v (suc i)

pub field_references : List Field → (ℕ → ℕ) → List (Sort × ℕ)
field_references [] v = []
field_references (to s ∷ fs) v = (s, v 0) ∷ field_references fs (next v)
field_references (symbol ∷ fs) v = field_references fs (next v)
field_references (octet ∷ fs) v = field_references fs (next v)
field_references (name_number ∷ fs) v = field_references fs (next v)
field_references (comparison_op ∷ fs) v = field_references fs (next v)
field_references (arith_op ∷ fs) v = field_references fs (next v)
field_references (slot ∷ fs) v = field_references fs (next (next v))

pub field_names : List Field → (ℕ → ℕ) → List ℕ
field_names [] v = []
field_names (to s ∷ fs) v = field_names fs (next v)
field_names (symbol ∷ fs) v = field_names fs (next v)
field_names (octet ∷ fs) v = field_names fs (next v)
field_names (name_number ∷ fs) v = v 0 ∷ field_names fs (next v)
field_names (comparison_op ∷ fs) v = field_names fs (next v)
field_names (arith_op ∷ fs) v = field_names fs (next v)
field_names (slot ∷ fs) v = slot_names (slot_of (v 0) (v 1)) ++ field_names fs (next (next v))

-- of each sort
abbrev pub ForSorts : (Sort → Type 0) → Type 0
ForSorts P = P condition × P term × P arguments × P items × P binders

pub for_sort : (P : Sort → Type 0) → ForSorts P → (s : Sort) → P s
for_sort P a condition = a.0
for_sort P a term = a.1
for_sort P a arguments = a.2
for_sort P a items = a.3
for_sort P a binders = a.4

-- a row of the table says of its node what its fields say
pub record Says (r : Kind) : Type 0 where
  pub refs : (v : ℕ → ℕ) → references (r.node v) ≡ field_references r.body v
  pub names : (v : ℕ → ℕ) → names_in (r.node v) ≡ field_names r.body v
  pub fit : (t : ℕ → Tree) (n : NodeNo) (v : ℕ → ℕ) → ForSorts (λ s. fits s r.kind ≡ of_sort s (planted t n (r.node v)))

append_none : (l : List ℕ) → l ≡ l ++ []
append_none [] = refl
append_none (x ∷ l) = ap {B = List ℕ} (λ z. x ∷ z) (append_none l)

all_say : All Says kinds
unfolding kinds field_references field_names fits of_sort planted
all_say = (
  record { refs = λ v. refl; names = λ v. refl; fit = λ t n v. (refl, refl, refl, refl, refl) },
  (
    record { refs = λ v. refl; names = λ v. refl; fit = λ t n v. (refl, refl, refl, refl, refl) },
    (
      record { refs = λ v. refl; names = λ v. refl; fit = λ t n v. (refl, refl, refl, refl, refl) },
      (
        record { refs = λ v. refl; names = λ v. refl; fit = λ t n v. (refl, refl, refl, refl, refl) },
        (
          record { refs = λ v. refl; names = λ v. refl; fit = λ t n v. (refl, refl, refl, refl, refl) },
          (
            record { refs = λ v. refl; names = λ v. refl; fit = λ t n v. (refl, refl, refl, refl, refl) },
            (
              record { refs = λ v. refl; names = λ v. append_none _; fit = λ t n v. (refl, refl, refl, refl, refl) },
              (
                record { refs = λ v. refl; names = λ v. refl; fit = λ t n v. (refl, refl, refl, refl, refl) },
                (
                  record { refs = λ v. refl; names = λ v. refl; fit = λ t n v. (refl, refl, refl, refl, refl) },
                  (
                    record { refs = λ v. refl; names = λ v. refl; fit = λ t n v. (refl, refl, refl, refl, refl) },
                    (
                      record { refs = λ v. refl; names = λ v. append_none _; fit = λ t n v. (refl, refl, refl, refl, refl) },
                      (
                        record { refs = λ v. refl; names = λ v. refl; fit = λ t n v. (refl, refl, refl, refl, refl) },
                        (
                          record { refs = λ v. refl; names = λ v. refl; fit = λ t n v. (refl, refl, refl, refl, refl) },
                          (
                            record { refs = λ v. refl; names = λ v. refl; fit = λ t n v. (refl, refl, refl, refl, refl) },
                            (
                              record { refs = λ v. refl; names = λ v. refl; fit = λ t n v. (refl, refl, refl, refl, refl) },
                              (
                                record { refs = λ v. refl; names = λ v. refl; fit = λ t n v. (refl, refl, refl, refl, refl) },
                                (
                                  record { refs = λ v. refl; names = λ v. refl; fit = λ t n v. (refl, refl, refl, refl, refl) },
                                  (
                                    record { refs = λ v. refl; names = λ v. refl; fit = λ t n v. (refl, refl, refl, refl, refl) },
                                    (
                                      record { refs = λ v. refl; names = λ v. refl; fit = λ t n v. (refl, refl, refl, refl, refl) },
                                      (
                                        record { refs = λ v. refl; names = λ v. refl; fit = λ t n v. (refl, refl, refl, refl, refl) },
                                        (
                                          record { refs = λ v. refl; names = λ v. refl; fit = λ t n v. (refl, refl, refl, refl, refl) },
                                          (
                                            record { refs = λ v. refl; names = λ v. refl; fit = λ t n v. (refl, refl, refl, refl, refl) },
                                            (
                                              record { refs = λ v. refl; names = λ v. append_none _; fit = λ t n v. (refl, refl, refl, refl, refl) },
                                              (
                                                record { refs = λ v. refl; names = λ v. refl; fit = λ t n v. (refl, refl, refl, refl, refl) },
                                                (
                                                  record { refs = λ v. refl; names = λ v. refl; fit = λ t n v. (refl, refl, refl, refl, refl) },
                                                  (
                                                    record { refs = λ v. refl; names = λ v. refl; fit = λ t n v. (refl, refl, refl, refl, refl) },
                                                    (
                                                      record { refs = λ v. refl; names = λ v. refl; fit = λ t n v. (refl, refl, refl, refl, refl) },
                                                      (
                                                        record { refs = λ v. refl; names = λ v. refl; fit = λ t n v. (refl, refl, refl, refl, refl) },
                                                        (
                                                          record { refs = λ v. refl; names = λ v. append_none _; fit = λ t n v. (refl, refl, refl, refl, refl) },
                                                          tt,
                                                        ),
                                                      ),
                                                    ),
                                                  ),
                                                ),
                                              ),
                                            ),
                                          ),
                                        ),
                                      ),
                                    ),
                                  ),
                                ),
                              ),
                            ),
                          ),
                        ),
                      ),
                    ),
                  ),
                ),
              ),
            ),
          ),
        ),
      ),
    ),
  ),
)

-- ---- a kind of the table

pub in_table : (P : Kind → Type 0) (rs : List Kind) → All P rs → (k : ℕ) (r : Kind) → node_kind rs k ≡ node r → P r
unfolding node_kind
in_table P [] a k r e = absurd (let z : ◌≡◌ {A = ℕ} 0 1 = cc in omega arith)
in_table P (x ∷ rs) a k r e = go (eqb k x.kind) e (in_table P rs a.1 k r)
  where
    go : (t : Bool) → pick t (node x) (node_kind rs k) ≡ node r → (node_kind rs k ≡ node r → P r) → P r
    go true q f = subst P (node_eq x r q) a.0
      where
        node_eq : (r s : Kind) → node r ≡ node s → r ≡ s
        node_eq r s e = cc
    go false q f = f q

pub as_node : (k : ℕ) (r : Kind) → announced k ≡ node r → node_kind kinds k ≡ node r
unfolding announced
as_node k r e = go (eqb k 0x01) (eqb k 0x02) (eqb k 0x7F) e
  where
    go : (a b c : Bool) → pick a format (pick b name (pick c end (node_kind kinds k))) ≡ node r → node_kind kinds k ≡ node r
    go true b c e = absurd (let z : ◌≡◌ {A = ℕ} 0 1 = cc in omega arith)
    go false true c e = absurd (let z : ◌≡◌ {A = ℕ} 0 1 = cc in omega arith)
    go false false true e = absurd (let z : ◌≡◌ {A = ℕ} 0 1 = cc in omega arith)
    go false false false e = e

pub says : (k : ℕ) (r : Kind) → announced k ≡ node r → Says r
says k r e = in_table Says kinds all_say k r (as_node k r e)

-- ---- fields that passed

-- each is a new number: not in the set, nor among those before it; and the set that they make of it
abbrev pub New : Set → List (Sort × ℕ) → Set → Type 0
New u [] w = u ≡ w
New u (p ∷ ps) w = (u p.1 ≡ false) × New (u ∪ only p.1) ps w

-- a reference into the nodes read so far
abbrev pub Into : List Seen → Sort × ℕ → Type 0
Into nodes p = (p.1 < length nodes) × (fits p.0 (get_or nodes p.1 unseen).kind ≡ true)

pub record Passed (fs : List Field) (b : List ℕ) (so : SoFar) (d : ℕ) (u : Set) (e : ℕ) (w : Set) : Type 0 where
  pub rises : d ≤ e
  pub shallow : All (λ p. (get_or so.nodes p.1 unseen).depth ≤ e) (field_references fs (λ i. get_or (values fs b) i 0))
  pub into : All (Into so.nodes) (field_references fs (λ i. get_or (values fs b) i 0))
  pub new : New u (field_references fs (λ i. get_or (values fs b) i 0)) w
  pub known : All (λ x. x < length so.names) (field_names fs (λ i. get_or (values fs b) i 0))

fine_eq : (d e : ℕ) (u w : Set) → fine d u ≡ fine e w → u ≡ w
fine_eq d e u w p = cc

fine_deep : (d e : ℕ) (u w : Set) → fine d u ≡ fine e w → d ≡ e
fine_deep d e u w p = cc

fault_fine : {A : Type 0} (n d : ℕ) (u : Set) → fault n ≡ fine d u → A
fault_fine n d u e = absurd (let z : ◌≡◌ {A = ℕ} 0 1 = cc in omega arith)

module _ (b : List ℕ) (so : SoFar) (fs : List Field) (d : ℕ) (u : Set) (e : ℕ) (w : Set) where
  -- what the fields after this one come to, from where this one leaves off
  abbrev Rest : Field → Type 0
  Rest f = (d : ℕ) (u : Set) → check_all fs (drop (field_bytes f) b) so d u ≡ fine e w → Passed fs (drop (field_bytes f) b) so d u e w

  abbrev onward : Field → Checked → Checked
  onward f c = elim c [ fault n ↦ fault n | fine x v ↦ check_all fs (drop (field_bytes f) b) so x v ]

  reference_passed : (s : Sort) → onward (to s) (refer s (two_bytes b) so.nodes d u) ≡ fine e w → Rest (to s) → Passed (to s ∷ fs) b so d u e w
  unfolding refer field_references field_names values value field_bytes
  reference_passed s p ih =
      go (ltb (two_bytes b) (length so.nodes)) (fits s (get_or so.nodes (two_bytes b) unseen).kind) (u (two_bytes b)) refl refl refl p
    where
      go : (x y z : Bool) → ltb (two_bytes b) (length so.nodes) ≡ x → fits s (get_or so.nodes (two_bytes b) unseen).kind ≡ y → u (two_bytes b) ≡ z
          → onward (to s)
          (pick x (pick y (pick z (fault 11) (fine (max d (get_or so.nodes (two_bytes b) unseen).depth) (u ∪ only (two_bytes b)))) (fault 9)) (fault 8)) ≡ fine e w
          → Passed (to s ∷ fs) b so d u e w
      go true true false p q r h =
          let t = ih (max d (get_or so.nodes (two_bytes b) unseen).depth) (u ∪ only (two_bytes b)) h in
          let l = t.rises in
          record {
            rises = omega arith;
            shallow = (omega arith, t.shallow);
            into = ((ltb-true (two_bytes b) (length so.nodes) p, q), t.into);
            new = (r, t.new);
            known = t.known;
          }
      go true true true p q r h = fault_fine 11 e w h
      go true false z p q r h = fault_fine 9 e w h
      go false y z p q r h = fault_fine 8 e w h

  ranged_passed : (f : Field) (t : Bool) → onward f (in_range t d u) ≡ fine e w → Rest f → (t ≡ true) × Passed fs (drop (field_bytes f) b) so d u e w
  unfolding in_range
  ranged_passed f true p ih = (refl, ih d u p)
  ranged_passed f false p ih = fault_fine 7 e w p

  -- a slot's name, if it is one
  slot_known : (x y : ℕ) (n : ℕ) → (leb x 2 && (not (eqb x 0) || ltb y n)) ≡ true → All (λ k. k < n) (slot_names (slot_of x y))
  unfolding slot_of
  slot_known x y n h = go (leb x 2) (eqb x 0) (eqb x 1) (ltb y n) refl h
    where
      go : (p q r t : Bool) → ltb y n ≡ t → (p && (not q || t)) ≡ true
          → All (λ k. k < n) (slot_names (pick q (Name (name_no y)) (pick r (Param y) (Binder y))))
      go true true r true g h = (ltb-true y n g, tt)
      go true true r false g h = absurd (true≢false (sym h))
      go true false true t g h = tt
      go true false false t g h = tt
      go false q r t g h = absurd (true≢false (sym h))

pub passed : (fs : List Field) (b : List ℕ) (so : SoFar) (d : ℕ) (u : Set) (e : ℕ) (w : Set) → check_all fs b so d u ≡ fine e w → Passed fs b so d u e w
unfolding check_all check field_references field_names values value field_bytes
passed [] b so d u e w p = record { rises = le_of_eq (fine_deep d e u w p); shallow = tt; into = tt; new = fine_eq d e u w p; known = tt }
passed (to s ∷ fs) b so d u e w p = reference_passed b so fs d u e w s p (λ d u h. passed fs (drop 2 b) so d u e w h)
passed (symbol ∷ fs) b so d u e w p =
    let t = passed fs (drop 2 b) so d u e w p in record { rises = t.rises; shallow = t.shallow; into = t.into; new = t.new; known = t.known }
passed (octet ∷ fs) b so d u e w p =
    let t = passed fs (drop 1 b) so d u e w p in record { rises = t.rises; shallow = t.shallow; into = t.into; new = t.new; known = t.known }
passed (name_number ∷ fs) b so d u e w p =
    let t = ranged_passed b so fs d u e w name_number (ltb (byte b) (length so.names)) p (λ d u h. passed fs (drop 1 b) so d u e w h) in
    record { rises = t.1.rises; shallow = t.1.shallow; into = t.1.into; new = t.1.new; known = (ltb-true (byte b) (length so.names) t.0, t.1.known) }
passed (comparison_op ∷ fs) b so d u e w p =
    let t = ranged_passed b so fs d u e w comparison_op (leb (byte b) 5) p (λ d u h. passed fs (drop 1 b) so d u e w h) in
    record { rises = t.1.rises; shallow = t.1.shallow; into = t.1.into; new = t.1.new; known = t.1.known }
passed (arith_op ∷ fs) b so d u e w p =
    let t = ranged_passed b so fs d u e w arith_op (leb (byte b) 2) p (λ d u h. passed fs (drop 1 b) so d u e w h) in
    record { rises = t.1.rises; shallow = t.1.shallow; into = t.1.into; new = t.1.new; known = t.1.known }
passed (slot ∷ fs) b so d u e w p =
    let t = ranged_passed b so fs d u e w slot (leb (byte b) 2 && (not (eqb (byte b) 0) || ltb (second b) (length so.names))) p (λ d u h. passed fs (drop 2 b) so d u e w h) in
    record {
      rises = t.1.rises;
      shallow = t.1.shallow;
      into = t.1.into;
      new = t.1.new;
      known =
          all_append (λ (x : ℕ). x < length so.names) (slot_names (slot_of (byte b) (second b))) _
          (slot_known b so fs d u e w (byte b) (second b) (length so.names) t.0) t.1.known;
    }
