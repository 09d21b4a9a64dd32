-- Document 01, 'How far each promise goes': each wrong version that it names is shut out. A version is any function of the arguments; where it meets what
-- the toolchain makes of the contract at the cases named here, and behaves so at these cases, there is a contradiction.
--     refuses everything    at b, which every check accepts and whose list is written
--     one fixed answer      at b and the full record; for scoping, which accepts both, at b and f; for the arithmetic test, which says no to both, at b and c
--     does nothing          at the full record, whose two entries must stand in the buffer
--     invents the rest      after the first entry: at f, which has four
--     invents the count     by the list's length
-- Assumes nothing.
use mathlib.Core.Path.{◌≡◌, sym, ap, ap₂, ◌∙◌}
use mathlib.Core.List.{List, [], ◌∷◌, ◌++◌}
use Prim.Native.Nat.{ℕ, ◌≤◌}
use native.Mathlib.Omega.{arith}
use lib.ListN.{length, take, drop}
use store.Seg.{take-pre}
use contract.Lifetimes.{Lfts}
use denote.Triple.Clauses.{AtExit}
use borrow.Fn.Kinds.{ParamKind, ResultKind, Dens, res_t, ended_of}
use Rattle.std.specs.Prelude.{true, false, Some, None, Ok}
use Rattle.paper.specs.declared.Finding.{Finding}
use Rattle.paper.specs.declared.Counts.{Counts}
use Rattle.paper.specs.Sets.{none}
use Rattle.paper.specs.Record.{ascii}
use Rattle.paper.specs.TurnedAway.{Contents, accepted, verdict, read}
use Rattle.paper.specs.TheList.{packed}
use Rattle.paper.specs.Questions as question
use Rattle.paper.specs.Questions.{Answer, Arithmetic, Listing}
use Rattle.paper.proofs.Cases.{case_b, case_c, case_f, case_full, scoping_b, scoping_f, closedness_b, closedness_full, demands_b, demands_full, verdict_b, name_b}
use Rattle.paper.proofs.Cases.{told, finds, at, as_told, told_b, told_c, told_f, told_full, lent}
use Rattle.paper.proofs.Answers.{list_success, list_writes}
use Rattle.names.specs.Words.{mem}
use Rattle.record.proofs.reader.read.Reads as reader
use Rattle.record.proofs.reader.read.Kinds as of_reader
use Rattle.record.proofs.access.name.Reads as name
use Rattle.record.proofs.access.name.Kinds as of_name
use Rattle.questions.proofs.scoping.Reads as scoping
use Rattle.questions.proofs.scoping.Kinds as of_scoping
use Rattle.questions.proofs.closedness.Reads as closedness
use Rattle.questions.proofs.closedness.Kinds as of_closedness
use Rattle.questions.proofs.demands.Reads as demands
use Rattle.questions.proofs.demands.Kinds as of_demands
use Rattle.questions.proofs.arithmetic.Reads as arithmetic
use Rattle.questions.proofs.arithmetic.Kinds as of_arithmetic
use Rattle.questions.proofs.list.Reads as list
use Rattle.questions.proofs.list.Kinds as of_list

-- what is answered to some arguments, and what is left of them
abbrev pub Version : (n : ℕ) (ps : List (ParamKind n)) (r : ResultKind n) → Lfts n → Type 0
Version n ps r κs = Dens κs ps → (res_t r κs).Denot × AtExit (ended_of n ps r) κs

accepted_unmet : (f : Finding) → ◌≡◌ {A = Answer} (Ok None) (Ok (Some f)) → ⊥
accepted_unmet f e = let z : ◌≡◌ {A = ℕ} 0 1 = cc in omega arith

-- ---- the checks, which accept b, and the arithmetic test, which says no to it

module _ (κs : Lfts 1) (f : Version 1 of_scoping.ps of_scoping.r κs) where
  abbrev scoping_meets : Dens κs of_scoping.ps → Type 0
  scoping_meets a = scoping.Post κs a (f a).0 (f a).1

  pub scoping_refuses_everything : (b : Dens κs of_scoping.ps) → b.0.now ≡ case_b → mem b.1.0 ≡ none → ((f b).0 ≡ Ok None → ⊥) → scoping_meets b → ⊥
  scoping_refuses_everything b at_b unseeded wrong meets = wrong (meets ∙ ap₂ question.scoping at_b unseeded ∙ scoping_b)

  pub scoping_fixed : (b g : Dens κs of_scoping.ps) → b.0.now ≡ case_b → g.0.now ≡ case_f → mem b.1.0 ≡ none → mem g.1.0 ≡ none
      → (f b).0 ≡ (f g).0 → scoping_meets b → scoping_meets g → ⊥
  scoping_fixed b g at_b at_f unseeded_b unseeded_g wrong meets_b meets_g =
      accepted_unmet _
      (sym (meets_b ∙ ap₂ question.scoping at_b unseeded_b ∙ scoping_b) ∙ wrong ∙ meets_g ∙ ap₂ question.scoping at_f unseeded_g ∙ scoping_f)

module _ (κs : Lfts 1) (f : Version 1 of_closedness.ps of_closedness.r κs) where
  abbrev closedness_meets : Dens κs of_closedness.ps → Type 0
  closedness_meets a = closedness.Post κs a (f a).0 (f a).1

  pub closedness_refuses_everything : (b : Dens κs of_closedness.ps) → b.0.now ≡ case_b → ((f b).0 ≡ Ok None → ⊥) → closedness_meets b → ⊥
  closedness_refuses_everything b at_b wrong meets = wrong (meets ∙ ap question.closedness at_b ∙ closedness_b)

  pub closedness_fixed : (b g : Dens κs of_closedness.ps) → b.0.now ≡ case_b → g.0.now ≡ case_full
      → (f b).0 ≡ (f g).0 → closedness_meets b → closedness_meets g → ⊥
  closedness_fixed b g at_b at_full wrong meets_b meets_g =
      accepted_unmet _ (sym (meets_b ∙ ap question.closedness at_b ∙ closedness_b) ∙ wrong ∙ meets_g ∙ ap question.closedness at_full ∙ closedness_full)

module _ (κs : Lfts 1) (f : Version 1 of_demands.ps of_demands.r κs) where
  abbrev demands_meets : Dens κs of_demands.ps → Type 0
  demands_meets a = demands.Post κs a (f a).0 (f a).1

  pub demands_refuses_everything : (b : Dens κs of_demands.ps) → b.0.now ≡ case_b → ((f b).0 ≡ Ok None → ⊥) → demands_meets b → ⊥
  demands_refuses_everything b at_b wrong meets = wrong (meets ∙ ap question.demands at_b ∙ demands_b)

  pub demands_fixed : (b g : Dens κs of_demands.ps) → b.0.now ≡ case_b → g.0.now ≡ case_full → (f b).0 ≡ (f g).0 → demands_meets b → demands_meets g → ⊥
  demands_fixed b g at_b at_full wrong meets_b meets_g =
      accepted_unmet _ (sym (meets_b ∙ ap question.demands at_b ∙ demands_b) ∙ wrong ∙ meets_g ∙ ap question.demands at_full ∙ demands_full)

module _ (κs : Lfts 1) (f : Version 1 of_arithmetic.ps of_arithmetic.r κs) where
  abbrev arithmetic_meets : Dens κs of_arithmetic.ps → Type 0
  arithmetic_meets a = arithmetic.Post κs a (f a).0 (f a).1

  no_to_b : (b : Dens κs of_arithmetic.ps) → b.0.now ≡ case_b → arithmetic_meets b → (f b).0 ≡ Ok false
  no_to_b b at_b meets = meets ∙ ap question.arithmetic at_b ∙ (as_told case_b _ told_b).2

  pub arithmetic_refuses_everything : (b : Dens κs of_arithmetic.ps) → b.0.now ≡ case_b → ((f b).0 ≡ Ok false → ⊥) → arithmetic_meets b → ⊥
  arithmetic_refuses_everything b at_b wrong meets = wrong (no_to_b b at_b meets)

  pub arithmetic_fixed : (b g : Dens κs of_arithmetic.ps) → b.0.now ≡ case_b → g.0.now ≡ case_c
      → (f b).0 ≡ (f g).0 → arithmetic_meets b → arithmetic_meets g → ⊥
  arithmetic_fixed b g at_b at_c wrong meets_b meets_g =
      differ (sym (no_to_b b at_b meets_b) ∙ wrong ∙ meets_g ∙ ap question.arithmetic at_c ∙ (as_told case_c _ told_c).2)
    where
      differ : ◌≡◌ {A = Arithmetic} (Ok false) (Ok true) → ⊥
      differ e = let z : ◌≡◌ {A = ℕ} 0 1 = cc in omega arith

-- ---- the reader and the name lookup, which refuses by the empty stretch

pub reader_refuses_everything : (κs : Lfts 1) (f : Version 1 of_reader.ps of_reader.r κs) (b : Dens κs of_reader.ps) → b.0.now ≡ case_b
    → ((counts : Counts) → (f b).0.verdict ≡ Ok counts → ⊥) → reader.Post κs b (f b).0 (f b).1 → ⊥
reader_refuses_everything κs f b at_b wrong meets = wrong _ (meets.said ∙ ap (λ (l : List ℕ). verdict (read l)) at_b ∙ verdict_b)

pub name_refuses_everything : (κs : Lfts 1) (f : Version 1 of_name.ps of_name.r κs) (b : Dens κs of_name.ps) → b.0.now ≡ case_b → b.1.0.0 ≡ 0
    → (f b).0.now ≡ [] → name.Post κs b (f b).0 (f b).1 → ⊥
unfolding ascii
name_refuses_everything κs f b at_b zeroth wrong meets =
    let e : [] ≡ ascii "x" = sym wrong ∙ meets ∙ ap₂ question.name at_b zeroth ∙ name_b in
    let z : ◌≡◌ {A = ℕ} 0 1 = cc in
    omega arith

-- ---- the list

-- what is told of a case with six entries lent is true of any buffer that has room
told_list : (bytes entries rest : List ℕ) (a : Arithmetic) → told bytes ≡ finds entries rest a → (c : Contents) × (read bytes ≡ accepted c) × (packed c ≡ entries)
told_list bytes entries rest a e =
    let t = as_told bytes (finds entries rest a) e in
    let s = list_success bytes lent (length entries) t.0 in
    (s.contents, s.holds, sym s.written ∙ ap (take (length entries)) t.1 ∙ take-pre entries rest)

abbrev entries_of_full : List ℕ
entries_of_full = 469764097 ∷ 520094209 ∷ []

abbrev rest_of_f : List ℕ
rest_of_f = at 25 8 0 ∷ at 28 10 0 ∷ at 31 10 0 ∷ []

module _ (κs : Lfts 2) (f : Version 2 of_list.ps of_list.r κs) where
  abbrev list_meets : Dens κs of_list.ps → Type 0
  list_meets a = list.Post κs a (f a).0 (f a).1

  -- the buffer before and after
  abbrev before : Dens κs of_list.ps → List ℕ
  before a = a.1.0.now

  abbrev after : Dens κs of_list.ps → List ℕ
  after a = (f a).1.1.0.now

  written : (bytes entries rest : List ℕ) (t : Arithmetic) → told bytes ≡ finds entries rest t → (a : Dens κs of_list.ps) → a.0.now ≡ bytes
      → length entries ≤ length (before a) → list_meets a → ((f a).0 ≡ Ok (length entries)) × (take (length entries) (after a) ≡ entries)
  written bytes entries rest t e a asked room meets =
      let l = told_list bytes entries rest t e in
      let w = list_writes bytes (before a) l.0 l.1 (let z = ap length l.2 in omega arith) in (
        meets.0 ∙ ap (λ (b : List ℕ). question.list b (length (before a))) asked ∙ w.0 ∙ ap (λ (p : List ℕ). Ok (length p)) l.2,
        ap (take (length entries)) (meets.1 ∙ ap (λ (b : List ℕ). question.list_buffer b (before a)) asked ∙ w.1 ∙ ap (λ (p : List ℕ). p ++ drop (length p) (before a)) l.2)
            ∙ take-pre entries (drop (length entries) (before a)),
      )

  nothing_at_b : (b : Dens κs of_list.ps) → b.0.now ≡ case_b → list_meets b → (f b).0 ≡ Ok 0
  nothing_at_b b at_b meets = (written case_b [] _ (Ok false) told_b b at_b (omega arith) meets).0

  two_at_full : (a : Dens κs of_list.ps) → a.0.now ≡ case_full → 2 ≤ length (before a) → list_meets a → ((f a).0 ≡ Ok 2) × (take 2 (after a) ≡ entries_of_full)
  two_at_full = written case_full entries_of_full _ (Ok false) told_full

  pub list_refuses_everything : (b : Dens κs of_list.ps) → b.0.now ≡ case_b → ((count : ℕ) → (f b).0 ≡ Ok count → ⊥) → list_meets b → ⊥
  list_refuses_everything b at_b wrong meets = wrong 0 (nothing_at_b b at_b meets)

  pub list_fixed : (b g : Dens κs of_list.ps) → b.0.now ≡ case_b → g.0.now ≡ case_full → 2 ≤ length (before g)
      → (f b).0 ≡ (f g).0 → list_meets b → list_meets g → ⊥
  list_fixed b g at_b at_full room wrong meets_b meets_g = differ (sym (nothing_at_b b at_b meets_b) ∙ wrong ∙ (two_at_full g at_full room meets_g).0)
    where
      differ : ◌≡◌ {A = Listing} (Ok 0) (Ok 2) → ⊥
      differ e = let z : ◌≡◌ {A = ℕ} 0 2 = cc in omega arith

  -- where the two entries do not stand in the buffer already
  pub does_nothing : (a : Dens κs of_list.ps) → a.0.now ≡ case_full → 2 ≤ length (before a) → (take 2 (before a) ≡ entries_of_full → ⊥)
      → after a ≡ before a → list_meets a → ⊥
  does_nothing a at_full room unlike wrong meets = unlike (ap (take 2) (sym wrong) ∙ (two_at_full a at_full room meets).1)

  pub invents_the_rest : (a : Dens κs of_list.ps) → a.0.now ≡ case_f → 4 ≤ length (before a) → (drop 1 (take 4 (after a)) ≡ rest_of_f → ⊥) → list_meets a → ⊥
  invents_the_rest a at_f room wrong meets = wrong (ap (drop 1) (written case_f (at 24 8 0 ∷ rest_of_f) _ (Ok false) told_f a at_f room meets).1)

  pub invents_the_count : (a : Dens κs of_list.ps) (c : Contents) → read a.0.now ≡ accepted c → (count : ℕ) → (f a).0 ≡ Ok count
      → (count ≡ length (packed c) → ⊥) → list_meets a → ⊥
  invents_the_count a c accepts count says wrong meets =
      let s = list_success a.0.now (before a) count (sym meets.0 ∙ says) in
      wrong (s.counted ∙ ap (λ (z : Contents). length (packed z)) (same s.contents c (sym s.holds ∙ accepts)))
    where
      same : (x y : Contents) → accepted x ≡ accepted y → x ≡ y
      same x y e = cc
