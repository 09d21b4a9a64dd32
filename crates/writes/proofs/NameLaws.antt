-- The entries for the names of a set: those for its names one after the other, and none for a set without a name. Assumes nothing.
use mathlib.Core.Path.{◌≡◌, refl, sym, ap, ◌∙◌}
use mathlib.Core.Bool.{true, false, not, not-not}
use mathlib.Core.List.{List, [], ◌∷◌, map}
use Prim.Native.Nat.{ℕ}
use Rattle.paper.specs.declared.NameNo.{NameNo}
use Rattle.paper.specs.declared.NodeNo.{NodeNo}
use Rattle.std.specs.Prelude.{Some}
use Rattle.paper.specs.declared.Finding.{Finding}
use Rattle.paper.specs.Record.{name_no}
use Rattle.paper.specs.Sets.{Set, only, ◌∖◌, outside, all_below, members}
use Rattle.paper.specs.Places.{for_names, findings}
use Rattle.paper.proofs.SetLaws.{all_get, members_none}
use Rattle.names.specs.Ascending.{ascending}
use Rattle.names.specs.Least.{least}
use Rattle.names.proofs.LeastLaws.{members_least, some_least}

-- a rule's entries at a node for names one after the other
abbrev pub for_each : ℕ → NodeNo → List NameNo → List Finding
for_each rule n = map (λ (x : NameNo). record { rule = rule; node = n; name = Some x })

pub for_same : (rule : ℕ) (n : NodeNo) {s t : Set} → s ≡ t → findings (for_names rule n t) ≡ findings (for_names rule n s)
for_same rule n e = ap (λ (z : Set). findings (for_names rule n z)) (sym e)

-- the entries for a set are those for its names, ascending
pub for_ascending : (rule : ℕ) (n : NodeNo) (s : Set) → findings (for_names rule n s) ≡ for_each rule n (ascending s)
unfolding findings
for_ascending rule n s = go (members s 128)
  where
    go : (l : List ℕ) → map (λ (x : ℕ). record { rule = rule; node = n; name = Some (name_no x) }) l ≡ for_each rule n (map name_no l)
    go [] = refl
    go (x ∷ l) = ap (λ (fs : List Finding). record { rule = rule; node = n; name = Some (name_no x) } ∷ fs) (go l)

pub no_names : (rule : ℕ) (n : NodeNo) (s : Set) → all_below 128 (outside s) ≡ true → findings (for_names rule n s) ≡ []
unfolding findings outside
no_names rule n s e = ap (map _) (members_none s 128 (λ k h. sym (not-not (s k)) ∙ ap not (all_get 128 (outside s) e k h)))

-- the same, one name at a time: the entry for the least name, and those for the names without it
pub next_name : (rule : ℕ) (n : NodeNo) (s : Set) {x : ℕ} {others : Set} → all_below 128 (outside s) ≡ false → x ≡ least s 128 → others ≡ s ∖ only x
    → findings (for_names rule n s) ≡ record { rule = rule; node = n; name = Some (name_no x) } ∷ findings (for_names rule n others)
unfolding findings
next_name rule n s e d o = rw (o, d) (ap (map _) (members_least s 128 (some_least s 128 e)))
