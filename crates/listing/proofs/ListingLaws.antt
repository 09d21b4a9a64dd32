-- The parts of the list, over the sets that the code has. Assumes nothing.
use Prim.Native.Nat.{ℕ, ◌+◌, ◌<◌, ◌≤◌}
use mathlib.Core.Path.{◌≡◌, refl, sym, ap, subst}
use mathlib.Core.Bool.{Bool, true, false, ◌&&◌, ◌||◌}
use mathlib.Core.List.{List, [], ◌∷◌, ◌++◌}
use native.Mathlib.Omega.{arith}
use lib.ListN.{length}
use Rattle.paper.specs.declared.Finding.{Finding}
use Rattle.writes.specs.Written.{Wrote}
use Rattle.paper.specs.declared.NodeNo.{NodeNo}
use Rattle.paper.specs.Sets.{Set, none}
use Rattle.paper.specs.Tree.{Condition, Tree, as_condition}
use Rattle.paper.specs.FreeAndRestricted.{free, holds_sigil}
use Rattle.paper.specs.Places.{condition, for_names, findings}
use Rattle.paper.specs.Record.{pick}
use Rattle.memory.proofs.Unnamed.{and_left, and_right}
use Rattle.writes.proofs.NameLaws.{no_names}
use Rattle.scoping.specs.Scoped.{scoped}
use Rattle.scoping.proofs.ScopingLaws.{sound_scoped}
use Rattle.owed.proofs.DemandLaws.{met_demanded}
use Rattle.owed.specs.Demanded.{demanded}
use Rattle.record.specs.Stored.{Has}
use Rattle.record.proofs.StoredLaws.{few}
use Rattle.trees.specs.Trees.{tree_of, is_condition}
use Rattle.trees.proofs.Arms.{last_body}
use Rattle.known.specs.declared.Facts.{Facts}
use Rattle.known.specs.Needs.{has_none, met, sound}
use Rattle.known.specs.Known.{known_of}
use Rattle.known.specs.Rows.{Gathered, Noted}
use Rattle.known.proofs.RowLaws.{all_noted}
use Rattle.names.specs.declared.Names.{Names}
use Rattle.names.specs.Words.{mem}
use Rattle.listing.specs.declared.Check.{Check}
use Rattle.listing.specs.declared.Check.TheVariants.{Scoping, Closedness, Demands}
use Rattle.listing.specs.Parts.{Last, demands_of, part_of, listed, clean, Filled}

pub no_demands : (c : Condition) → holds_sigil c ≡ true → demands_of c ≡ []
unfolding demands_of
no_demands c e = rw e

pub demands_are : (c : Condition) {tied : Set} → tied ≡ none → holds_sigil c ≡ false → demands_of c ≡ demanded true (condition c) tied
unfolding demands_of
demands_are c d e = rw (d, e)

-- the part of each check
module _ {check : Check} (n : NodeNo) (c : Condition) where
  pub part_scoping : {seed words : Names} → check ≡ Scoping seed words → part_of check n c ≡ scoped (mem words) (condition c) (mem seed)
  unfolding part_of
  part_scoping e = ap (λ (k : Check). part_of k n c) e

  pub part_closedness : check ≡ Closedness → part_of check n c ≡ findings (for_names 28 n (free c))
  unfolding part_of
  part_closedness e = ap (λ (k : Check). part_of k n c) e

  pub part_demands : check ≡ Demands → part_of check n c ≡ demands_of c
  unfolding part_of
  part_demands e = ap (λ (k : Check). part_of k n c) e

pub listed_are : (words : Set) (n : NodeNo) (c : Condition) {scope : Set} → scope ≡ none
    → listed words n c ≡ scoped words (condition c) scope ++ (findings (for_names 28 n (free c)) ++ demands_of c)
unfolding listed
listed_are words n c e = ap (λ (s : Set). scoped words (condition c) s ++ (findings (for_names 28 n (free c)) ++ demands_of c)) (sym e)

-- nothing is told of what is quiet, and of what is clean
module _ (t : Tree) (n : NodeNo) (is : is_condition t ≡ true) where
  pub quiet_scoping : (words seed : Set) → ((k : ℕ) → has_none words ≡ true → words k ≡ false)
      → sound (known_of t).broken (known_of t).binds (known_of t).unclosed (known_of t).free words seed ≡ true → scoped words (condition (as_condition t)) seed ≡ []
  quiet_scoping words seed past e = sound_scoped words past t seed is e

  pub quiet_closed : has_none (free (as_condition t)) ≡ true → findings (for_names 28 n (free (as_condition t))) ≡ []
  unfolding has_none
  quiet_closed e = no_names 28 n (free (as_condition t)) e

  met_none : (sigil : Bool) → (sigil || met (known_of t).need (known_of t).hard none) ≡ true → pick sigil [] (demanded true (condition (as_condition t)) none) ≡ []
  met_none true e = refl
  met_none false e = met_demanded t none true is e

  pub quiet_demands : (holds_sigil (as_condition t) || met (known_of t).need (known_of t).hard none) ≡ true → demands_of (as_condition t) ≡ []
  unfolding demands_of
  quiet_demands e = met_none (holds_sigil (as_condition t)) e

  pub clean_listed : (words : Set) → ((k : ℕ) → has_none words ≡ true → words k ≡ false) → clean words t ≡ true → listed words n (as_condition t) ≡ []
  unfolding clean listed
  clean_listed words past e =
      let k = known_of t in
      let first = and_left (sound k.broken k.binds k.unclosed k.free words none && has_none (free (as_condition t))) _ e in
      let other = and_right (sound k.broken k.binds k.unclosed k.free words none && has_none (free (as_condition t))) _ e in
      rw (
        quiet_scoping words none past (and_left (sound k.broken k.binds k.unclosed k.free words none) _ first),
        quiet_closed (and_right (sound k.broken k.binds k.unclosed k.free words none) _ first),
        quiet_demands other,
      )

-- what a walk from the last node asks for, where the rows were gathered from there
pub from_last : {columns : List ℕ} {before after : List Facts} {i : ℕ} → Last columns i × (i < length before) → Gathered columns before after i
    → Has columns i × Noted columns after × (is_condition (tree_of columns i) ≡ true)
from_last p g = let l = p.0 in (l.has, all_noted l.has.0 g l.all p.1, last_body l.has l.all)

pub in_all_rows : {columns : List ℕ} {i : ℕ} → Last columns i → i < 512
in_all_rows l = few l.has

-- ---- all or none

none_wrote : (fs : List Finding) {count : ℕ} {before : List ℕ} → count ≡ 0 + length fs → count ≡ 0 → Wrote fs 0 count before before
none_wrote [] e z = record { total = e; put = refl }
none_wrote (f ∷ fs) e z = absurd (omega arith)

-- the walk that counts
module _ {fs : List Finding} {count : ℕ} {one counted : List ℕ} (w : Wrote fs 0 count one counted) where
  so_many : count ≡ length fs
  so_many = let t = w.total in omega arith

  pub filled_none : {before : List ℕ} → count ≡ 0 → Filled fs count before before
  filled_none z = record { total = so_many; kept = λ h. refl; wrote = λ h. none_wrote fs w.total z }

  pub filled_not : {before : List ℕ} → length before < count → Filled fs count before before
  filled_not l = record { total = so_many; kept = λ h. refl; wrote = λ h. absurd (omega arith) }

  pub filled_all : {next : ℕ} {before after : List ℕ} → count ≤ length before → Wrote fs 0 next before after → Filled fs next before after
  filled_all l v =
      let t = v.total in
      let u = w.total in
      record { total = omega arith; kept = λ h. absurd (omega arith); wrote = λ h. v }

-- no walk at all
pub filled_empty : {fs : List Finding} {before : List ℕ} → fs ≡ [] → Filled fs 0 before before
filled_empty {before = before} e = subst (λ (z : List Finding). Filled z 0 before before) (sym e) (record { total = refl; kept = λ h. refl; wrote = λ h. record { total = refl; put = refl } })

-- the walk that writes at once
pub filled_at_once : {fs : List Finding} {most next : ℕ} {before after : List ℕ} → length fs ≤ most → most ≤ length before → Wrote fs 0 next before after → Filled fs next before after
filled_at_once f l v = let t = v.total in record { total = omega arith; kept = λ h. absurd (omega arith); wrote = λ h. v }
