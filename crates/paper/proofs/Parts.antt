-- The parts of the list are told apart by their rules: those of its entries that have rules 20 to 27 are scoping's part, those that have 28 closedness',
-- those that have 30 to 32 the demands'. So the first of each is what that check refuses with. Assumes nothing.
use mathlib.Core.Path.{◌≡◌, refl, ap, ap₂, ◌∙◌}
use mathlib.Core.Logic.{◌⊎◌, inl, inr, ⊎_elim}
use mathlib.Core.Bool.{Bool, true, false, ◌&&◌, and-false}
use mathlib.Core.List.{List, [], ◌∷◌, ◌++◌, append-nil}
use Prim.Native.Nat.{ℕ, ◌<◌}
use native.Mathlib.Omega.{arith}
use lib.Dec.{leb}
use borrow.Author.Tests.{le-leb, lt-leb}
use Rattle.paper.specs.declared.Finding.{Finding}
use Rattle.paper.specs.Sets.{Set, none}
use Rattle.paper.specs.Record.{pick}
use Rattle.paper.specs.TurnedAway.{Contents}
use Rattle.paper.specs.Places.{Broken, itself, for_names, at_cells}
use Rattle.paper.specs.Scoping.{reserved, scope_below, scope_broken, scoping_part}
use Rattle.paper.specs.Demands.{closedness_broken, closedness_part, demand_below, demand_broken, demands_part}
use Rattle.paper.specs.TheList.{the_list}
use Rattle.paper.proofs.Entries.{rule_of}
use Rattle.paper.proofs.Walks.{All, all_map, all_of}
use Rattle.paper.proofs.Exact.{Between, Rising, rising_between, scope_rising, demand_rising}
use Rattle.paper.proofs.EachFound.{Finds, findings_all, scoping_each, demands_each}

-- ---- entries by their rules

-- those with a rule from `low` to `high`
abbrev pub ruled : ℕ → ℕ → List Finding → List Finding
ruled low high [] = []
ruled low high (f ∷ fs) = pick (leb low f.rule && leb f.rule high) (f ∷ ruled low high fs) (ruled low high fs)

abbrev AllBetween : ℕ → ℕ → List Finding → Type 0
AllBetween low high l = All (λ f. Between low high f.rule) l

ruled_append : (low high : ℕ) (a b : List Finding) → ruled low high (a ++ b) ≡ ruled low high a ++ ruled low high b
ruled_append low high [] b = refl
ruled_append low high (f ∷ a) b = go (leb low f.rule && leb f.rule high) (ruled_append low high a b)
  where
    go : (t : Bool) → ruled low high (a ++ b) ≡ ruled low high a ++ ruled low high b
        → pick t (f ∷ ruled low high (a ++ b)) (ruled low high (a ++ b)) ≡ pick t (f ∷ ruled low high a) (ruled low high a) ++ ruled low high b
    go true e = ap (λ (l : List Finding). f ∷ l) e
    go false e = e

ruled_all : (low high : ℕ) (l : List Finding) → AllBetween low high l → ruled low high l ≡ l
ruled_all low high [] h = refl
ruled_all low high (f ∷ l) h =
    rw (le-leb low f.rule h.0.0, le-leb f.rule high h.0.1) (ap (λ (l : List Finding). f ∷ l) (ruled_all low high l h.1))

not_between : (low high rule : ℕ) → (rule < low) ⊎ (high < rule) → (leb low rule && leb rule high) ≡ false
not_between low high rule = ⊎_elim (λ k. rw (lt-leb low rule k)) (λ k. rw (lt-leb rule high k) (and-false (leb low rule)))

ruled_none : (low high from to : ℕ) (l : List Finding) → AllBetween from to l → (to < low) ⊎ (high < from) → ruled low high l ≡ []
ruled_none low high from to [] h k = refl
ruled_none low high from to (f ∷ l) h k =
    let o : (f.rule < low) ⊎ (high < f.rule) =
    ⊎_elim (λ (d : to < low). inl (let z = h.0.1 in omega arith)) (λ (d : high < from). inr (let z = h.0.0 in omega arith)) k in
    rw (not_between low high f.rule o) (ruled_none low high from to l h.1 k)

-- ---- the rules of the three parts

-- a broken rule finds entries of its own number
finds_between : (low high : ℕ) (b : Broken) → Between low high (rule_of b) → Finds (λ f. Between low high f.rule) b
finds_between low high (itself r n) h = h
finds_between low high (for_names r n s) h = λ x l. h
finds_between low high (at_cells r s cs) h = all_of _ cs (λ c m. h)

all_find_between : (low high : ℕ) (l : List Broken) → Rising low high l → All (Finds (λ f. Between low high f.rule)) l
all_find_between low high l h = all_map (finds_between low high) l (rising_between low high l h)

scoping_between : (c : Contents) (seed : Set) → AllBetween 20 27 (scoping_part c seed)
scoping_between c seed =
    let words = reserved c.names in
    scoping_each _ (λ p. Unit {0}) c seed (λ p h. all_of _ (scope_below p) (λ q m. tt)) (λ p h. all_find_between 20 27 (scope_broken words p) (scope_rising words p)) tt

closedness_between : (c : Contents) → AllBetween 28 28 (closedness_part c)
unfolding closedness_part closedness_broken
closedness_between c = findings_all _ (closedness_broken c) (finds_between 28 28 (closedness_broken c) (omega arith))

demands_between : (c : Contents) → AllBetween 30 32 (demands_part c)
demands_between c =
    demands_each _ (λ p. Unit {0}) c (λ p h. all_of _ (demand_below p) (λ q m. tt)) (λ p h. all_find_between 30 32 (demand_broken p) (demand_rising p)) tt

-- the list's entries with some rules, from those of its parts
ruled_list : (low high : ℕ) (c : Contents) {a b d : List Finding} → ruled low high (scoping_part c none) ≡ a → ruled low high (closedness_part c) ≡ b
    → ruled low high (demands_part c) ≡ d → ruled low high (the_list c) ≡ a ++ (b ++ d)
unfolding the_list
ruled_list low high c p q r =
    ruled_append low high (scoping_part c none) (closedness_part c ++ demands_part c)
    ∙ ap₂ {C = List Finding} ◌++◌ p (ruled_append low high (closedness_part c) (demands_part c) ∙ ap₂ {C = List Finding} ◌++◌ q r)

-- "20 to 27 .., then 28, then 30 to 32"
pub list_scoping : (c : Contents) → ruled 20 27 (the_list c) ≡ scoping_part c none
list_scoping c =
    ruled_list 20 27 c (ruled_all 20 27 (scoping_part c none) (scoping_between c none))
    (ruled_none 20 27 28 28 (closedness_part c) (closedness_between c) (inr (omega arith)))
    (ruled_none 20 27 30 32 (demands_part c) (demands_between c) (inr (omega arith)))
    ∙ append-nil (scoping_part c none)

pub list_closedness : (c : Contents) → ruled 28 28 (the_list c) ≡ closedness_part c
list_closedness c =
    ruled_list 28 28 c (ruled_none 28 28 20 27 (scoping_part c none) (scoping_between c none) (inl (omega arith)))
    (ruled_all 28 28 (closedness_part c) (closedness_between c))
    (ruled_none 28 28 30 32 (demands_part c) (demands_between c) (inr (omega arith)))
    ∙ append-nil (closedness_part c)

pub list_demands : (c : Contents) → ruled 30 32 (the_list c) ≡ demands_part c
list_demands c =
    ruled_list 30 32 c (ruled_none 30 32 20 27 (scoping_part c none) (scoping_between c none) (inl (omega arith)))
    (ruled_none 30 32 28 28 (closedness_part c) (closedness_between c) (inl (omega arith))) (ruled_all 30 32 (demands_part c) (demands_between c))
