-- No packed number stands twice in a list. For each number a node weighs one where the number is of a rule at that node. A part of the list then has the number
-- no more often than the nodes weigh by the part's rules (Tallies.antt), and by all rules they weigh one at most: a number has one rule and one node.
-- Assumes nothing.
use mathlib.Core.Path.{◌≡◌, refl, sym, ap, ◌∙◌, subst}
use mathlib.Core.Logic.{⊎_elim}
use mathlib.Core.Bool.{Bool, true, false}
use mathlib.Core.List.{List, [], ◌∷◌, ◌++◌, map, map-append, map-map}
use mathlib.Core.List.Memᴰ
use mathlib.Core.List.{Memᴰ}
use Prim.Native.Nat.{ℕ, zero, suc, ◌+◌, ◌*◌, ◌-◌, ◌/◌, ◌<◌, ◌≤◌}
use native.Mathlib.Omega.{arith}
use native.Mathlib.Decide.{ℕ_discrete}
use native.Mathlib.Nat.{eq-or-lt_of_le}
use lib.Dec.{eqb}
use lib.ListN.{length}
use borrow.Author.Tests.{eq-eqb, ne_eqb, eqb-true}
use Rattle.std.specs.Prelude.{Option, Some, None}
use Rattle.paper.specs.declared.NameNo.{NameNo}
use Rattle.paper.specs.declared.NodeNo.{NodeNo}
use Rattle.paper.specs.declared.Finding.{Finding}
use Rattle.paper.specs.Sets.{Set, none, members}
use Rattle.paper.specs.Record.{pick}
use Rattle.paper.specs.TurnedAway.{Contents}
use Rattle.paper.specs.Tree.{root_no, root}
use Rattle.paper.specs.FreeAndRestricted.{free}
use Rattle.paper.specs.Places.{Cell, itself, for_names, Ascending, at_cell, findings}
use Rattle.paper.specs.Scoping.{scoping_part}
use Rattle.paper.specs.Demands.{closedness_broken, closedness_part, demands_part}
use Rattle.paper.specs.TheList.{the_list, name_or_255, pack, packed}
use Rattle.paper.proofs.Ascending.{asc_map}
use Rattle.paper.proofs.Entries.{members_get, members_asc}
use Rattle.paper.proofs.Walks.{picked}
use Rattle.paper.proofs.Forests.{sum}
use Rattle.paper.proofs.WellFormed.{WellFormed, just}
use Rattle.paper.proofs.Tallies.{Tally, scoping_tally, demands_tally}

-- each stands once
abbrev pub Distinct : List ℕ → Type 0
Distinct l = Ascending (λ a b. a ≡ b → ⊥) l

-- ---- how often a number stands in a list

abbrev times : ℕ → List ℕ → ℕ
times v [] = 0
times v (x ∷ l) = just v x + times v l

times_append : (v : ℕ) (a b : List ℕ) → times v (a ++ b) ≡ times v a + times v b
times_append v [] b = omega arith
times_append v (x ∷ a) b = let z = times_append v a b in omega arith

times_member : (v : ℕ) (l : List ℕ) → Memᴰ v l → 1 ≤ times v l
times_member v [] m = absurd (Memᴰ.not-nil m)
times_member v (x ∷ l) m =
    ⊎_elim (λ (e : v ≡ x). rw (eq-eqb x v (sym e)) (omega arith)) (λ k. let z = times_member v l k in omega arith) (Memᴰ.cases_cons m)

times_none : (v : ℕ) (l : List ℕ) → ((x : ℕ) → Memᴰ x l → x ≡ v → ⊥) → times v l ≡ 0
times_none v [] h = refl
times_none v (x ∷ l) h = rw (ne_eqb x v (h x (Memᴰ.head refl)), times_none v l (λ y m. h y (Memᴰ.tail m)))

-- in an ascending list at most once, and not at all unless one may stand there
times_ascending : (v : ℕ) (l : List ℕ) (most : ℕ) → Ascending ◌<◌ l → ((x : ℕ) → Memᴰ x l → x ≡ v → 1 ≤ most) → times v l ≤ most
times_ascending v [] most a h = omega arith
times_ascending v (x ∷ l) most a h = go (times_ascending v l most a.1 (λ y m. h y (Memᴰ.tail m))) (ℕ_discrete x v)
  where
    go : times v l ≤ most → Dec (x ≡ v) → just v x + times v l ≤ most
    go f (yes e) =
        let z = times_none v l (λ y m d. let q : x < y = a.0 y m in omega arith) in
        let k = h x (Memᴰ.head refl) e in
        rw (eq-eqb x v e) (omega arith)
    go f (no e) = rw (ne_eqb x v e) (omega arith)

distinct_once : (l : List ℕ) → ((v : ℕ) → times v l ≤ 1) → Distinct l
distinct_once [] h = tt
distinct_once (x ∷ l) h = (
  λ b m e.
      let again : 1 ≤ times x l = subst (λ (z : ℕ). 1 ≤ times z l) (sym e) (times_member b l m) in
      let both : just x x + times x l ≤ 1 = h x in
      let two : 1 + times x l ≤ 1 = rw (eq-eqb x x refl) at both in
      omega arith,
  distinct_once l (λ v. let z : just v x + times v l ≤ 1 = h v in omega arith),
)

-- ---- sums

sum_least : (f : ℕ → ℕ) (n k : ℕ) → k < n → f k ≤ sum f n
unfolding sum
sum_least f zero k h = absurd (omega arith)
sum_least f (suc n) k h =
    ⊎_elim (λ (e : k ≡ n). let z : f k ≡ f n = ap f e in omega arith) (λ (l : k < n). let z = sum_least f n k l in omega arith)
    (eq-or-lt_of_le (let d : k ≤ n = omega arith in d))

sum_some : (f : ℕ → ℕ) (n : ℕ) → 1 ≤ sum f n → (k : ℕ) × (k < n) × (1 ≤ f k)
unfolding sum
sum_some f zero h = absurd (omega arith)
sum_some f (suc n) h = go (sum_some f n) (f n) refl
  where
    go : (1 ≤ sum f n → (k : ℕ) × (k < n) × (1 ≤ f k)) → (x : ℕ) → f n ≡ x → (k : ℕ) × (k < suc n) × (1 ≤ f k)
    go g zero e = let w = g (omega arith) in (w.0, omega arith, w.2)
    go g (suc x) e = (n, omega arith, omega arith)

-- where at most one of the numbers counts, and counts once
sum_once : (f : ℕ → ℕ) (n : ℕ) → ((k : ℕ) → f k ≤ 1) → ((i j : ℕ) → i < n → j < n → 1 ≤ f i → 1 ≤ f j → i ≡ j) → sum f n ≤ 1
unfolding sum
sum_once f zero most same = omega arith
sum_once f (suc n) most same = go (sum_once f n most (λ i j a b. same i j (omega arith) (omega arith))) (f n) refl (sum f n) refl
  where
    go : sum f n ≤ 1 → (x : ℕ) → f n ≡ x → (y : ℕ) → sum f n ≡ y → f n + sum f n ≤ 1
    go h zero e y d = omega arith
    go h (suc x) e zero d = let z = most n in omega arith
    go h (suc x) e (suc y) d =
        let w = sum_some f n (omega arith) in
        let z = same w.0 n (omega arith) (omega arith) w.2 (omega arith) in
        let k : w.0 < n = w.1 in
        absurd (omega arith)

sum_three : (f g h e : ℕ → ℕ) (n : ℕ) → ((k : ℕ) → f k + (g k + h k) ≤ e k) → sum f n + (sum g n + sum h n) ≤ sum e n
unfolding sum
sum_three f g h e zero l = omega arith
sum_three f g h e (suc n) l = let a = l n in let b = sum_three f g h e n l in omega arith

-- ---- what a number says of a node

module _ (v : ℕ) where
  -- 1 where the number is this rule's at this node, whatever its name
  own : ℕ → ℕ → ℕ
  own rule k = just (v / 256) (rule * 65536 + k)

  own_of : (rule k name : ℕ) → name < 256 → rule * 16777216 + k * 256 + name ≡ v → 1 ≤ own rule k
  unfolding own
  own_of rule k name h e = let z : rule * 65536 + k ≡ v / 256 = omega arith in rw (eq-eqb (rule * 65536 + k) (v / 256) z) (omega arith)

  own_most : (rule k : ℕ) → own rule k ≤ 1
  unfolding own
  own_most rule k = picked (λ (n : ℕ). n ≤ 1) (eqb (rule * 65536 + k) (v / 256)) 1 0 (omega arith) (omega arith)

  own_says : (rule k : ℕ) → 1 ≤ own rule k → rule * 65536 + k ≡ v / 256
  unfolding own
  own_says rule k = go (eqb (rule * 65536 + k) (v / 256)) refl
    where
      go : (t : Bool) → eqb (rule * 65536 + k) (v / 256) ≡ t → 1 ≤ pick t 1 0 → rule * 65536 + k ≡ v / 256
      go true e h = eqb-true (rule * 65536 + k) (v / 256) e
      go false e h = absurd (omega arith)

  -- the rules of scoping and of the demands, and all rules
  scoped : ℕ → ℕ
  scoped k = own 20 k + own 21 k + own 22 k + own 23 k + own 24 k + own 25 k + own 26 k + own 27 k

  demanded : ℕ → ℕ
  demanded k = own 30 k + own 31 k + own 32 k

  held : ℕ → ℕ
  held k = sum (λ rule. own rule k) 33

  parts_held : (k : ℕ) → scoped k + (own 28 k + demanded k) ≤ held k
  unfolding scoped demanded held sum
  parts_held k = omega arith

  held_most : (k : ℕ) → held k ≤ 1
  unfolding held
  held_most k =
      sum_once (λ rule. own rule k) 33 (λ rule. own_most rule k) (λ i j a b c d. let x = own_says i k c in let y = own_says j k d in omega arith)

  -- nodes are few, so that no two of them are one number's
  held_once : (nodes : ℕ) → nodes ≤ 512 → sum held nodes ≤ 1
  unfolding held
  held_once nodes h =
      sum_once held nodes held_most (λ i j a b c d. same i j a b (sum_some (λ rule. own rule i) 33 c) (sum_some (λ rule. own rule j) 33 d))
    where
      same : (i j : ℕ) → i < nodes → j < nodes → (r : ℕ) × (r < 33) × (1 ≤ own r i) → (r : ℕ) × (r < 33) × (1 ≤ own r j) → i ≡ j
      same i j a b p q = let x = own_says p.0 i p.2 in let y = own_says q.0 j q.2 in omega arith

  -- ---- how often it is found

  abbrev often : List Finding → ℕ
  often fs = times v (map pack fs)

  often_append : (a b : List Finding) → often (a ++ b) ≡ often a + often b
  often_append a b = ap (times v) (map-append pack a b) ∙ times_append v (map pack a) (map pack b)

  often_one : (rule : ℕ) (n : NodeNo) (s : Option NameNo) → name_or_255 s < 256 → often (record { rule = rule; node = n; name = s } ∷ []) ≤ own rule n.0
  unfolding pack
  often_one rule n s h =
      times_ascending v ((rule * 16777216 + n.0 * 256 + name_or_255 s) ∷ []) (own rule n.0) (λ x m. absurd (Memᴰ.not-nil m), tt)
      (λ x m e. own_of rule n.0 (name_or_255 s) h (sym (Memᴰ.eq_of_singleton m) ∙ e))

  often_itself : (rule : ℕ) (n : NodeNo) → often (findings (itself rule n)) ≤ own rule n.0
  unfolding findings name_or_255
  often_itself rule n = often_one rule n None (omega arith)

  often_names : (rule : ℕ) (n : NodeNo) (s : Set) → often (findings (for_names rule n s)) ≤ own rule n.0
  unfolding findings pack name_or_255
  often_names rule n s =
      let number : ℕ → ℕ = λ x. rule * 16777216 + n.0 * 256 + x in
      subst (λ (l : List ℕ). times v l ≤ own rule n.0) (sym (map-map pack _ (members s 128)))
      (times_ascending v (map number (members s 128)) (own rule n.0) (asc_map ◌<◌ ◌<◌ number (λ x y h. omega arith) (members s 128) (members_asc s 128))
      (λ x m e.
      let u = Memᴰ.of_map number (members s 128) m in
      let z = (members_get s 128 u.0 u.1).0 in
      own_of rule n.0 u.0 (omega arith) (u.2 ∙ e)))

  often_cell : (rule : ℕ) (s : Set) (c : Cell) → c.name.0 < 128 → often (at_cell rule s c) ≤ own rule c.node.0
  unfolding at_cell
  often_cell rule s c h =
      picked (λ (l : List Finding). often l ≤ own rule c.node.0) (s c.name.0) _ []
      (often_one rule c.node (Some c.name) (unfold name_or_255 in omega arith)) (omega arith)

  by_number : Tally
  by_number =
      record {
        of = often;
        of_none = refl;
        of_both = often_append;
        most = own;
        most_at_cell = own;
        itself_most = often_itself;
        names_most = often_names;
        cell_most = often_cell;
      }

  -- ---- the list

  number_once : (c : Contents) → WellFormed c → times v (packed c) ≤ 1
  unfolding packed the_list by_number closedness_part closedness_broken root_no
  number_once c f =
      let n = length c.nodes in
      let some = f.some_node in
      omega (
        arith,
        often_append (scoping_part c none) (closedness_part c ++ demands_part c),
        often_append (closedness_part c) (demands_part c),
        scoping_tally by_number scoped (λ k. unfold scoped in omega arith) c f none,
        often_names 28 (root_no c) (free (root c)),
        sum_least (own 28) n (n - 1) (omega arith),
        demands_tally by_number demanded (λ k. unfold demanded in omega arith) c f,
        sum_three scoped (own 28) demanded held n parts_held,
        held_once n f.few_nodes,
      )

-- the theorem
pub once_each : (c : Contents) → WellFormed c → Distinct (packed c)
once_each c f = distinct_once (packed c) (λ v. number_once v c f)
