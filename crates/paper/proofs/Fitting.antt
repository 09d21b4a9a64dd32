-- Every entry of an accepted record's list fits its number, so the number tells the entry:
--     unpack_pack    an entry that fits is what its number stands for
--     list_fits      all entries of the list fit, and so do those of each part by itself, whatever the seed
-- Assumes nothing.
use mathlib.Core.Path.{◌≡◌, refl, ap, ◌∙◌}
use mathlib.Core.List.{◌++◌}
use Prim.Native.Nat.{ℕ, ◌+◌, ◌*◌, ◌/◌, ◌%◌, ◌<◌}
use native.Mathlib.Omega.{arith}
use native.Mathlib.Nat.{div-eq_of_lt-le, mul-add-mod_self_right, mod-eq_of_lt}
use borrow.Author.Tests.{ne_eqb}
use Rattle.std.specs.Prelude.{Option, Some, None}
use Rattle.paper.specs.declared.NameNo.{NameNo}
use Rattle.paper.specs.declared.Finding.{Finding}
use Rattle.paper.specs.Sets.{Set, none}
use Rattle.paper.specs.TurnedAway.{Contents}
use Rattle.paper.specs.Tree.{root_no}
use Rattle.paper.specs.Places.{Broken, itself, for_names, at_cells}
use Rattle.paper.specs.Scoping.{reserved, scope_broken, scoping_part}
use Rattle.paper.specs.Demands.{closedness_broken, closedness_part, demand_broken, demands_part}
use Rattle.paper.specs.TheList.{the_list, name_or_255, pack, subject_of, unpack}
use Rattle.paper.proofs.Walks.{All, all_map, all_append}
use Rattle.paper.proofs.EachFound.{Finds, findings_all, scoping_each, demands_each}
use Rattle.paper.proofs.WellFormed.{WellFormed}
use Rattle.paper.proofs.Sane.{sane_any}
use Rattle.paper.proofs.SanePlaces.{SanePlace, SaneCell, SaneBroken, scope_broken_sane, scope_below_sane, demand_broken_sane, demand_below_sane}

-- ---- an entry and its number

abbrev NameFits : Option NameNo → Type 0
NameFits (Some x) = x.0 < 255
NameFits None = Unit {0}

abbrev pub Fits : Finding → Type 0
Fits f = (f.rule < 256) × (f.node.0 < 65536) × NameFits f.name

subject_name : (s : Option NameNo) → NameFits s → subject_of (name_or_255 s) ≡ s
unfolding subject_of name_or_255
subject_name (Some x) h = rw (ne_eqb x.0 255 (λ e. omega arith))
subject_name None h = refl

name_small : (s : Option NameNo) → NameFits s → name_or_255 s < 256
unfolding name_or_255
name_small (Some x) h = omega arith
name_small None h = omega arith

-- the three digits of a number
rule_digit : (r n x : ℕ) → n < 65536 → x < 256 → (r * 16777216 + n * 256 + x) / 16777216 ≡ r
rule_digit r n x g h = div-eq_of_lt-le 16777216 (omega arith) (omega arith)

node_digit : (r n x : ℕ) → n < 65536 → x < 256 → (r * 16777216 + n * 256 + x) / 256 % 65536 ≡ n
node_digit r n x g h =
    let e : (r * 16777216 + n * 256 + x) / 256 ≡ r * 65536 + n = div-eq_of_lt-le 256 (omega arith) (omega arith) in
    ap (λ (k : ℕ). k % 65536) e ∙ mul-add-mod_self_right r 65536 n ∙ mod-eq_of_lt g

name_digit : (r n x : ℕ) → x < 256 → (r * 16777216 + n * 256 + x) % 256 ≡ x
name_digit r n x h =
    let e : r * 16777216 + n * 256 + x ≡ (r * 65536 + n) * 256 + x = omega arith in
    ap (λ (k : ℕ). k % 256) e ∙ mul-add-mod_self_right (r * 65536 + n) 256 x ∙ mod-eq_of_lt h

pub unpack_pack : (f : Finding) → Fits f → unpack (pack f) ≡ f
unfolding unpack pack
unpack_pack f h =
    let x = name_or_255 f.name in
    let k = name_small f.name h.2 in
    rw (rule_digit f.rule f.node.0 x h.1 k, node_digit f.rule f.node.0 x h.1 k, name_digit f.rule f.node.0 x k, subject_name f.name h.2)

-- ---- the parts

finds_fitting : (b : Broken) → SaneBroken 512 128 b → Finds Fits b
finds_fitting (itself r n) h = (h.0, omega arith, tt)
finds_fitting (for_names r n s) h = λ x l. (h.0, omega arith, omega arith)
finds_fitting (at_cells r s cs) h = all_map (λ c (k : SaneCell 512 128 c). (h.0, omega arith, omega arith)) cs h.1

pub scoping_fits : (c : Contents) → WellFormed c → (seed : Set) → All Fits (scoping_part c seed)
scoping_fits c f seed =
    scoping_each Fits (SanePlace 512 128) c seed (scope_below_sane 512 128)
    (λ p h. let words = reserved c.names in all_map finds_fitting (scope_broken words p) (scope_broken_sane 512 128 words p h)) (sane_any c f)

pub demands_fits : (c : Contents) → WellFormed c → All Fits (demands_part c)
demands_fits c f =
    demands_each Fits (SanePlace 512 128) c (demand_below_sane 512 128)
    (λ p h. all_map finds_fitting (demand_broken p) (demand_broken_sane 512 128 p h)) (sane_any c f)

pub closedness_fits : (c : Contents) → WellFormed c → All Fits (closedness_part c)
unfolding closedness_part closedness_broken root_no
closedness_fits c f =
    let h = f.some_node in let k = f.few_nodes in findings_all Fits (closedness_broken c) (finds_fitting (closedness_broken c) (omega arith, omega arith))

pub list_fits : (c : Contents) → WellFormed c → All Fits (the_list c)
unfolding the_list
list_fits c f =
    all_append Fits (scoping_part c none) (closedness_part c ++ demands_part c) (scoping_fits c f none)
    (all_append Fits (closedness_part c) (demands_part c) (closedness_fits c f) (demands_fits c f))
