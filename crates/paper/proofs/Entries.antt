-- What a broken rule finds at one place: its entries are what breaks it, ascending, and without their ranks its findings. Assumes nothing.
use mathlib.Core.Path.{◌≡◌, refl, sym, ap, ap₂, ◌∙◌, subst}
use mathlib.Core.Logic.{inl, inr, ⊎_elim}
use mathlib.Core.Bool.{Bool, true, false, cond}
use mathlib.Core.Option.{Option, some, none as nothing}
use mathlib.Core.List.Memᴰ
use mathlib.Core.List.{
  List,
  [],
  ◌∷◌,
  ◌++◌,
  map,
  map-append,
  map-map,
  Memᴰ,
}
use Prim.Native.Nat.{ℕ, zero, suc, ◌+◌, ◌<◌, ◌≤◌}
use native.Mathlib.Omega.{arith}
use native.Mathlib.Nat.{eq-or-lt_of_le, add-zero}
use lib.ListN.{get_elem?}
use Rattle.std.specs.Prelude.{Some, None}
use Rattle.paper.specs.declared.Finding.{Finding}
use Rattle.paper.specs.Sets.{Set, members}
use Rattle.paper.specs.Record.{pick, name_no}
use Rattle.paper.specs.Places.{Entry, entry, Cell, Broken, itself, for_names, at_cells, Breaks, Earlier, Ascending, gather, at_cell, findings}
use Rattle.paper.proofs.Ascending.{asc_append, asc_map}

-- ---- the names of a set, ascending

last_get : (f : Set) (k : ℕ) (b : Bool) (x : ℕ) → f k ≡ b → Memᴰ x (cond b (k ∷ []) []) → (x ≡ k) × (f x ≡ true)
last_get f k true x e m = let d : x ≡ k = Memᴰ.eq_of_singleton m in (d, ap f d ∙ e)
last_get f k false x e m = absurd (Memᴰ.not-nil m)

pub members_get : (f : Set) (k x : ℕ) → Memᴰ x (members f k) → (x < k) × (f x ≡ true)
unfolding members
members_get f zero x m = absurd (Memᴰ.not-nil m)
members_get f (suc k) x m =
    ⊎_elim (λ u. let w = members_get f k x u in (omega arith, w.1)) (λ u. let w = last_get f k (f k) x refl u in (omega arith, w.1))
    (Memᴰ.append_cases (members f k) m)

last_put : (k : ℕ) (b : Bool) → b ≡ true → Memᴰ k (cond b (k ∷ []) [])
last_put k true e = Memᴰ.head refl
last_put k false e = let z : ◌≡◌ {A = ℕ} 0 1 = cc in absurd (omega arith)

pub members_put : (f : Set) (k x : ℕ) → x < k → f x ≡ true → Memᴰ x (members f k)
unfolding members
members_put f zero x h e = absurd (omega arith)
members_put f (suc k) x h e =
    ⊎_elim (λ (d : x ≡ k). Memᴰ.append_right (members f k) (Memᴰ.cast d (last_put k (f k) (ap f (sym d) ∙ e))))
    (λ (d : x < k). Memᴰ.append_left _ (members_put f k x d e)) (eq-or-lt_of_le (let d : x ≤ k = omega arith in d))

last_asc : (k : ℕ) (b : Bool) → Ascending ◌<◌ (cond b (k ∷ []) [])
last_asc k true = (λ x m. absurd (Memᴰ.not-nil m), tt)
last_asc k false = tt

pub members_asc : (f : Set) (k : ℕ) → Ascending ◌<◌ (members f k)
unfolding members
members_asc f zero = tt
members_asc f (suc k) =
    asc_append ◌<◌ (members f k) (cond (f k) (k ∷ []) []) (members_asc f k) (last_asc k (f k))
    (λ x y m n. let u = members_get f k x m in let w = last_get f k (f k) y refl n in omega arith)

-- ---- the cells of a list, from position i on

abbrev one_cell : ℕ → ℕ → Cell → Bool → List Entry
one_cell r i c b = pick b (entry r i c.node (Some c.name) ∷ []) []

abbrev cell_entries : ℕ → Set → ℕ → List Cell → List Entry
cell_entries r s i [] = []
cell_entries r s i (c ∷ cs) = one_cell r i c (s c.name.0) ++ cell_entries r s (suc i) cs

abbrev OfCell : ℕ → Set → ℕ → List Cell → Entry → Type 0
OfCell r s i cs e =
    (j : ℕ) × (c : Cell) × (get_elem? cs j ≡ some c) × (s c.name.0 ≡ true) × (e ≡ entry r (i + j) c.node (Some c.name))

one_get : (r i : ℕ) (c : Cell) (b : Bool) (e : Entry) → Memᴰ e (one_cell r i c b) → (b ≡ true) × (e ≡ entry r i c.node (Some c.name))
one_get r i c true e m = (refl, Memᴰ.eq_of_singleton m)
one_get r i c false e m = absurd (Memᴰ.not-nil m)

cells_get : (r : ℕ) (s : Set) (i : ℕ) (cs : List Cell) (e : Entry) → Memᴰ e (cell_entries r s i cs) → OfCell r s i cs e
cells_get r s i [] e m = absurd (Memᴰ.not-nil m)
cells_get r s i (c ∷ cs) e m =
    ⊎_elim
    (λ u.
    let w = one_get r i c (s c.name.0) e u in
    (0, c, refl, w.0, w.1 ∙ ap (λ (k : ℕ). entry r k c.node (Some c.name)) (sym (add-zero i))))
    (λ u.
    let w = cells_get r s (suc i) cs e u in
    let q : suc i + w.0 ≡ i + suc w.0 = omega arith in
    (suc w.0, w.1, w.2, w.3, w.4 ∙ ap (λ (k : ℕ). entry r k w.1.node (Some w.1.name)) q))
    (Memᴰ.append_cases (one_cell r i c (s c.name.0)) m)

one_put : (r i : ℕ) (c : Cell) (b : Bool) → b ≡ true → Memᴰ (entry r i c.node (Some c.name)) (one_cell r i c b)
one_put r i c true e = Memᴰ.head refl
one_put r i c false e = let z : ◌≡◌ {A = ℕ} 0 1 = cc in absurd (omega arith)

some_eq : {A : Type 0} (a b : A) → some a ≡ some b → a ≡ b
some_eq a b e = cc

none_some : {A : Type 0} (a : A) → ◌≡◌ {A = Option A} nothing (some a) → ⊥
none_some a e = let z : ◌≡◌ {A = ℕ} 0 1 = cc in omega arith

cells_put : (r : ℕ) (s : Set) (i : ℕ) (cs : List Cell) (j : ℕ) (c : Cell) → get_elem? cs j ≡ some c → s c.name.0 ≡ true
    → Memᴰ (entry r (i + j) c.node (Some c.name)) (cell_entries r s i cs)
cells_put r s i [] j c g t = absurd (none_some c g)
cells_put r s i (d ∷ cs) zero c g t =
    let e : d ≡ c = some_eq d c g in
    Memᴰ.append_left _
    (Memᴰ.cast (ap (λ (k : ℕ). entry r k c.node (Some c.name)) (add-zero i))
    (subst (λ (z : Cell). Memᴰ (entry r i c.node (Some c.name)) (one_cell r i z (s z.name.0))) (sym e) (one_put r i c (s c.name.0) t)))
cells_put r s i (d ∷ cs) (suc j) c g t =
    let q : i + suc j ≡ suc i + j = omega arith in
    Memᴰ.append_right (one_cell r i d (s d.name.0))
    (Memᴰ.cast (ap (λ (k : ℕ). entry r k c.node (Some c.name)) q) (cells_put r s (suc i) cs j c g t))

one_asc : (r i : ℕ) (c : Cell) (b : Bool) → Ascending Earlier (one_cell r i c b)
one_asc r i c true = (λ x m. absurd (Memᴰ.not-nil m), tt)
one_asc r i c false = tt

cells_asc : (r : ℕ) (s : Set) (i : ℕ) (cs : List Cell) → Ascending Earlier (cell_entries r s i cs)
cells_asc r s i [] = tt
cells_asc r s i (c ∷ cs) =
    asc_append Earlier (one_cell r i c (s c.name.0)) (cell_entries r s (suc i) cs) (one_asc r i c (s c.name.0)) (cells_asc r s (suc i) cs)
    (λ x y m n.
    let u = one_get r i c (s c.name.0) x m in
    let w = cells_get r s (suc i) cs y n in
    let a : x.finding.rule ≡ r = ap (λ (z : Entry). z.finding.rule) u.1 in
    let b : y.finding.rule ≡ r = ap (λ (z : Entry). z.finding.rule) w.4 in
    let p : x.rank ≡ i = ap (λ (z : Entry). z.rank) u.1 in
    let q : y.rank ≡ suc i + w.0 = ap (λ (z : Entry). z.rank) w.4 in
    inr (a ∙ sym b, omega arith))

-- ---- a broken rule

pub entries : Broken → List Entry
entries (itself r n) = entry r 0 n None ∷ []
entries (for_names r n s) = map (λ (x : ℕ). entry r x n (Some (name_no x))) (members s 128)
entries (at_cells r s cs) = cell_entries r s 0 cs

abbrev pub rule_of : Broken → ℕ
rule_of (itself r n) = r
rule_of (for_names r n s) = r
rule_of (at_cells r s cs) = r

zero_plus : (j : ℕ) → 0 + j ≡ j
zero_plus j = omega arith

pub entries_get : (b : Broken) (e : Entry) → Memᴰ e (entries b) → Breaks b e
unfolding entries
entries_get (itself r n) e m = Memᴰ.eq_of_singleton m
entries_get (for_names r n s) e m =
    let w = Memᴰ.of_map (λ (x : ℕ). entry r x n (Some (name_no x))) (members s 128) m in
    let g = members_get s 128 w.0 w.1 in
    (w.0, g.0, g.1, sym w.2)
entries_get (at_cells r s cs) e m =
    let w = cells_get r s 0 cs e m in
    (w.0, w.1, w.2, w.3, w.4 ∙ ap (λ (k : ℕ). entry r k w.1.node (Some w.1.name)) (zero_plus w.0))

pub entries_put : (b : Broken) (e : Entry) → Breaks b e → Memᴰ e (entries b)
unfolding entries
entries_put (itself r n) e h = Memᴰ.head h
entries_put (for_names r n s) e h =
    Memᴰ.cast h.3 (Memᴰ.map (λ (x : ℕ). entry r x n (Some (name_no x))) (members_put s 128 h.0 h.1 h.2))
entries_put (at_cells r s cs) e h =
    Memᴰ.cast (h.4 ∙ ap (λ (k : ℕ). entry r k h.1.node (Some h.1.name)) (sym (zero_plus h.0))) (cells_put r s 0 cs h.0 h.1 h.2 h.3)

pub entries_rule : (b : Broken) (e : Entry) → Memᴰ e (entries b) → e.finding.rule ≡ rule_of b
entries_rule b e m = rule b (entries_get b e m)
  where
    rule : (b : Broken) → Breaks b e → e.finding.rule ≡ rule_of b
    rule (itself r n) h = ap (λ (z : Entry). z.finding.rule) h
    rule (for_names r n s) h = ap (λ (z : Entry). z.finding.rule) h.3
    rule (at_cells r s cs) h = ap (λ (z : Entry). z.finding.rule) h.4

pub entries_asc : (b : Broken) → Ascending Earlier (entries b)
unfolding entries
entries_asc (itself r n) = (λ x m. absurd (Memᴰ.not-nil m), tt)
entries_asc (for_names r n s) =
    asc_map ◌<◌ Earlier (λ (x : ℕ). entry r x n (Some (name_no x))) (λ x y h. inr (refl, h)) (members s 128) (members_asc s 128)
entries_asc (at_cells r s cs) = cells_asc r s 0 cs

cell_findings : (r : ℕ) (s : Set) (i : ℕ) (cs : List Cell) → map (λ (e : Entry). e.finding) (cell_entries r s i cs) ≡ gather (at_cell r s) cs
unfolding gather at_cell
cell_findings r s i [] = refl
cell_findings r s i (c ∷ cs) =
    map-append (λ (e : Entry). e.finding) (one_cell r i c (s c.name.0)) (cell_entries r s (suc i) cs)
    ∙ ap₂ {C = List Finding} ◌++◌ (one (s c.name.0)) (cell_findings r s (suc i) cs)
  where
    one : (b : Bool) → map (λ (e : Entry). e.finding) (one_cell r i c b) ≡ pick b (record { rule = r; node = c.node; name = Some c.name } ∷ []) []
    one true = refl
    one false = refl

pub entries_findings : (b : Broken) → map (λ (e : Entry). e.finding) (entries b) ≡ findings b
unfolding entries findings
entries_findings (itself r n) = refl
entries_findings (for_names r n s) = map-map _ _ (members s 128)
entries_findings (at_cells r s cs) = cell_findings r s 0 cs

-- ---- all that is broken at a place

pub gather_get : {A B : Type 0} (f : A → List B) (l : List A) (b : B) → Memᴰ b (gather f l) → (a : A) × Memᴰ a l × Memᴰ b (f a)
unfolding gather
gather_get f [] b m = absurd (Memᴰ.not-nil m)
gather_get f (a ∷ l) b m =
    ⊎_elim (λ u. (a, Memᴰ.head refl, u)) (λ u. let w = gather_get f l b u in (w.0, Memᴰ.tail w.1, w.2)) (Memᴰ.append_cases (f a) m)

pub gather_put : {A B : Type 0} (f : A → List B) (l : List A) (a : A) (b : B) → Memᴰ a l → Memᴰ b (f a) → Memᴰ b (gather f l)
unfolding gather
gather_put f [] a b m n = absurd (Memᴰ.not-nil m)
gather_put {A} f (x ∷ l) a b m n =
    ⊎_elim (λ (e : a ≡ x). Memᴰ.append_left (gather f l) (subst (λ (z : A). Memᴰ b (f z)) e n)) (λ u. Memᴰ.append_right (f x) (gather_put f l a b u n))
    (Memᴰ.cases_cons m)

-- rules one after the other
abbrev pub ByRule : List Broken → Type 0
ByRule l = Ascending (λ a b. rule_of a < rule_of b) l

pub gather_asc : (l : List Broken) → ByRule l → Ascending Earlier (gather entries l)
unfolding gather
gather_asc [] p = tt
gather_asc (a ∷ l) p =
    asc_append Earlier (entries a) (gather entries l) (entries_asc a) (gather_asc l p.1)
    (λ x y m n.
    let w = gather_get entries l y n in
    let d : x.finding.rule ≡ rule_of a = entries_rule a x m in
    let e : y.finding.rule ≡ rule_of w.0 = entries_rule w.0 y w.2 in
    let h : rule_of a < rule_of w.0 = p.0 w.0 w.1 in
    inl (omega arith))

pub gather_findings : (l : List Broken) → map (λ (e : Entry). e.finding) (gather entries l) ≡ gather findings l
unfolding gather
gather_findings [] = refl
gather_findings (a ∷ l) =
    map-append (λ (e : Entry). e.finding) (entries a) (gather entries l) ∙ ap₂ {C = List Finding} ◌++◌ (entries_findings a) (gather_findings l)
