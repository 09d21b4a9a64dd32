-- Every name in the table of accepted bytes is a name, so none is empty without its padding. Assumes nothing.
use mathlib.Core.Path.{◌≡◌, refl, sym, ap, ◌∙◌, subst}
use mathlib.Core.Bool.{Bool, true, false, ◌&&◌, true≢false}
use mathlib.Core.List.{List, [], ◌∷◌, ◌++◌}
use Prim.Native.Nat.{ℕ, ◌<◌}
use native.Mathlib.Omega.{arith}
use native.Mathlib.Decide.{dec_lt}
use lib.Dec.{eqb}
use lib.ListN.{length, take, get_or, length-append, get_or-append}
use borrow.Author.Tests.{eqb-true}
use Rattle.paper.specs.Record.{letter, name_bytes, name_rest, is_name}
use Rattle.paper.specs.TurnedAway.{Contents, accepted, read, SoFar, nothing_read}
use Rattle.paper.specs.TheList.{trimmed}
use Rattle.paper.proofs.Runs.{Went, went_format, went_name, went_node, last_of, closed, accepted_keeps}

-- ---- over all records

abbrev Named : List (List ℕ) → Type 0
Named names = (x : ℕ) → x < length names → is_name (get_or names x []) ≡ true

one_more : (names : List (List ℕ)) (n : List ℕ) → Named names → is_name n ≡ true → Named (names ++ (n ∷ []))
one_more names n p q x h = go (dec_lt x (length names))
  where
    go : Dec (x < length names) → is_name (get_or (names ++ (n ∷ [])) x []) ≡ true
    go (yes d) = ap is_name (get_or-append names (n ∷ []) [] x d) ∙ p x d
    go (no d) = let l = length-append names (n ∷ []) in ap is_name (last_of names n [] x (omega arith)) ∙ q

keeps : (k : ℕ) (b : List ℕ) (so : SoFar) → Named so.names → {next : SoFar} → Went k b so next → Named next.names
keeps k b so p (went_format a g) = p
keeps k b so p (went_name a g z h m) = one_more so.names (take name_bytes b) p m
keeps k b so p (went_node r deep used a g h m) = p

none_yet : Named nothing_read.names
unfolding nothing_read
none_yet x h = absurd (omega arith)

pub named : (bytes : List ℕ) (c : Contents) → read bytes ≡ accepted c → (x : ℕ) → x < length c.names → is_name (get_or c.names x []) ≡ true
named bytes c e =
    let w = accepted_keeps bytes (λ so. Named so.names) (λ k b so next d p w. keeps k b so p w) none_yet c e in
    subst (λ (z : Contents). Named z.names) (closed w.rest w.so c w.last).contents w.holds

-- ---- a name has a byte

letter_zero : (x : ℕ) → letter x ≡ true → eqb x 0 ≡ true → ⊥
letter_zero x p q =
    let e : letter 0 ≡ true = rw (eqb-true x 0 q) at p in
    let z : ◌≡◌ {A = ℕ} 0 1 = cc in
    omega arith

pub name_has_a_byte : (n : List ℕ) → is_name n ≡ true → 0 < length (trimmed n)
unfolding is_name trimmed
name_has_a_byte [] e = absurd (true≢false (sym e))
name_has_a_byte (x ∷ xs) e = go (letter x) (eqb x 0) refl refl e
  where
    go : (l z : Bool) → letter x ≡ l → eqb x 0 ≡ z → (l && name_rest xs) ≡ true → 0 < length {A = ℕ} (elim z [ true ↦ [] | false ↦ x ∷ trimmed xs ])
    go l false p q e = omega arith
    go true true p q e = absurd (letter_zero x p q)
    go false true p q e = absurd (true≢false (sym e))
