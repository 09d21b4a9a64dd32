-- A byte that is none of the kinds which a match names: what its last arm knows of the byte, and that the table of kinds has no row for it.
-- Assumes nothing.
use mathlib.Core.Path.{◌≡◌, refl, sym, ap, ◌∙◌, subst}
use mathlib.Core.Bool.{Bool, true, false, ◌&&◌, ◌||◌, false≢true}
use mathlib.Core.List.{List, [], ◌∷◌, ◌++◌, map}
use Prim.Native.Nat.{ℕ}
use native.Mathlib.Decide.{ℕ_discrete}
use lib.Dec.{eqb}
use borrow.Author.Tests.{eqb-true, eqb-false, ne_eqb}
use Rattle.paper.specs.declared.Node.{Node}
use Rattle.paper.specs.declared.Node.TheVariants.{ListEnd}
use Rattle.paper.proofs.Walks.{All}
use Rattle.paper.specs.Record.{pick, Kind, kinds, node_kind, format, name, end, unknown, announced}
use Rattle.memory.specs.Columns.{node_said, node_told}

pub and_left : (a b : Bool) → (a && b) ≡ true → a ≡ true
and_left true b e = refl
and_left false b e = absurd (false≢true e)

pub and_right : (a b : Bool) → (a && b) ≡ true → b ≡ true
and_right true b e = e
and_right false b e = absurd (false≢true e)

-- ---- the kinds of nodes, by their sort

abbrev pub conditions : List ℕ
conditions = 0x10 ∷ 0x11 ∷ 0x12 ∷ 0x13 ∷ 0x14 ∷ 0x15 ∷ 0x16 ∷ 0x17 ∷ 0x18 ∷ 0x19 ∷ 0x1A ∷ 0x1B ∷ 0x1C ∷ []

abbrev pub terms : List ℕ
terms = 0x20 ∷ 0x21 ∷ 0x22 ∷ 0x23 ∷ 0x24 ∷ 0x25 ∷ 0x26 ∷ 0x27 ∷ 0x28 ∷ 0x29 ∷ 0x2A ∷ 0x2B ∷ []

-- those of lists, but 0x30 that ends one
abbrev pub cells : List ℕ
cells = 0x31 ∷ 0x32 ∷ 0x33 ∷ []

-- ---- none of some kinds

unfoldable pub Away : List ℕ → ℕ → Type 0
Away [] k = Unit {0}
Away (i ∷ is) k = (k ≡ i → ⊥) × Away is k

-- what the last arm of a `match` on these numbers knows, after `X`
unfoldable pub Rest : List ℕ → ℕ → Type 0 → Type 0
Rest [] k X = X
Rest (i ∷ is) k X = Rest is k (X × (k ≡ i → ⊥))

pub rest_away : (is : List ℕ) (k : ℕ) (X : Type 0) → Rest is k X → X × Away is k
unfolding Away Rest
rest_away [] k X m = (m, tt)
rest_away (i ∷ is) k X m = let r = rest_away is k (X × (k ≡ i → ⊥)) m in (r.0.0, (r.0.1, r.1))

-- all of them pass a test that the byte fails
unfoldable pub all? : (ℕ → Bool) → List ℕ → Bool
all? p [] = true
all? p (i ∷ is) = p i && all? p is

pub away_by : (p : ℕ → Bool) (is : List ℕ) (k : ℕ) → all? p is ≡ true → p k ≡ false → Away is k
unfolding Away all?
away_by p [] k s f = tt
away_by p (i ∷ is) k s f = ((λ e. false≢true (sym f ∙ ap p e ∙ and_left (p i) (all? p is) s)), away_by p is k (and_right (p i) (all? p is) s) f)

-- none of some kinds is none of others that all stand among them
unfoldable pub among? : List ℕ → ℕ → Bool
among? [] i = false
among? (j ∷ js) i = eqb i j || among? js i

away_one : (js : List ℕ) (i k : ℕ) → among? js i ≡ true → Away js k → k ≡ i → ⊥
unfolding Away among?
away_one [] i k m a e = false≢true m
away_one (j ∷ js) i k m a e = go (λ n. away_one js i k n a.1 e) (eqb i j) refl m
  where
    go : (among? js i ≡ true → ⊥) → (b : Bool) → eqb i j ≡ b → (b || among? js i) ≡ true → ⊥
    go later true d n = a.0 (e ∙ eqb-true i j d)
    go later false d n = later n

pub away_among : (is js : List ℕ) (k : ℕ) → all? (among? js) is ≡ true → Away js k → Away is k
unfolding Away all?
away_among [] js k m a = tt
away_among (i ∷ is) js k m a =
    ((λ e. away_one js i k (and_left (among? js i) _ m) a e), away_among is js k (and_right (among? js i) _ m) a)

pub away_both : (is js : List ℕ) (k : ℕ) → Away is k → Away js k → Away (is ++ js) k
unfolding Away
away_both [] js k a b = b
away_both (i ∷ is) js k a b = (a.0, away_both is js k a.1 b)

-- what holds of each of some kinds, and of every other number, holds
pub of_each : (P : ℕ → Type 0) (is : List ℕ) (k : ℕ) → All P is → (Away is k → P k) → P k
unfolding Away
of_each P [] k a f = f tt
of_each P (i ∷ is) k a f = go (λ g. of_each P is k a.1 g) (ℕ_discrete k i)
  where
    go : ((Away is k → P k) → P k) → Dec (k ≡ i) → P k
    go later (yes e) = subst P (sym e) a.0
    go later (no e) = later (λ w. f (e, w))

pub no_kind : (rs : List Kind) (k : ℕ) → Away (map (λ (r : Kind). r.kind) rs) k → node_kind rs k ≡ unknown
unfolding Away node_kind
no_kind [] k a = refl
no_kind (r ∷ rs) k a = rw (ne_eqb k r.kind a.0) (no_kind rs k a.1)

-- ---- a kind that says no more than `ListEnd`

no_node : (s t u : Bool) (xs : List ℕ) → node_said (pick s format (pick t name (pick u end unknown))) xs ≡ ListEnd
unfolding node_said
no_node true t u xs = refl
no_node false true u xs = refl
no_node false false true xs = refl
no_node false false false xs = refl

said_end : (k : ℕ) (xs : List ℕ) → Away ((conditions ++ terms) ++ cells) k → (t : Bool) → eqb k 0x30 ≡ t → node_said (announced k) xs ≡ ListEnd
unfolding node_said announced node_kind kinds Away all? among?
said_end k xs a true e = rw (eqb-true k 0x30 e)
said_end k xs a false e =
    rw (no_kind kinds k (away_among (map (λ (r : Kind). r.kind) kinds) (0x30 ∷ ((conditions ++ terms) ++ cells)) k refl (eqb-false k 0x30 e, a))) (no_node (eqb k 0x01) (eqb k 0x02) (eqb k 0x7F) xs)

pub says_end : (k : ℕ) (ps : List ℕ) → Away ((conditions ++ terms) ++ cells) k → node_told k ps ≡ ListEnd
unfolding node_told
says_end k ps a = said_end k _ a (eqb k 0x30) refl

-- what holds of each kind that a match does not name, and of `ListEnd`, holds of every number that it does not name
pub by_number : (Q : Node → Type 0) (named : List ℕ) (k : ℕ) (ps : List ℕ) → All (λ n. Away named n → Q (node_told n ps)) ((conditions ++ terms) ++ cells)
    → Q ListEnd → Away named k → Q (node_told k ps)
by_number Q named k ps each last away =
    of_each (λ n. Away named n → Q (node_told n ps)) ((conditions ++ terms) ++ cells) k each
    (λ a w. subst Q (sym (says_end k ps a)) last) away
