-- One turn of the reader's loop: what its arrays say of the records read so far, and how each kind of record takes that on or ends the reading.
-- Assumes nothing.
use mathlib.Core.Path.{◌≡◌, refl, sym, ap, ap₂, ◌∙◌, subst}
use mathlib.Core.Bool.{Bool, true, false, not}
use mathlib.Core.List.{List, [], ◌∷◌, ◌++◌}
use Prim.Native.Nat.{ℕ, zero, suc, ◌+◌, ◌*◌, ◌≤◌, ◌<◌}
use native.Mathlib.Omega.{arith}
use native.Mathlib.Decide.{dec_lt, ℕ_discrete}
use native.Mathlib.Numerals.{add-one}
use lib.Dec.{eqb}
use lib.ListN.{length, take, drop, get_or, set, replicate, length-set, drop_of_length-le, get_or-append, get_or-eq_default, length-map}
use lib.Seq.{drop-cons, drop-drop, take-suc-set, get_or-set_same, get_or-set_other}
use Rattle.paper.specs.Sets.{Set, none, ◌∪◌}
use Rattle.paper.specs.Record.{byte, ascii, Kind, Announced, node, announced, body_bytes}
use Rattle.paper.specs.TurnedAway.{Contents, Outcome, refused, accepted, verdict, Seen, unseen, SoFar, nothing_read, Checked, fault, fine, check_all, check_depth, Step, on, stop, read_format, add_node, read_node, read_end, read_record, read_on, read, refusal}
use Rattle.paper.specs.Scoping.{is_word, is_reserved, reserved}
use Rattle.paper.proofs.Runs.{after_format, after_name, after_node, seen_node, went, went_at, went_named, went_begun, refused_accepted, last_of, closed}
use Rattle.names.specs.Words.{mem}
use Rattle.names.specs.declared.Names.{Names}
use Rattle.memory.specs.Rows.{row_for, row_at}
use Rattle.memory.specs.Fields.{Marks, Shows, Marked, Says, Same, checked_in, Added}
use Rattle.memory.specs.Heads.{head_by, order_by}
use Rattle.memory.specs.Naming.{named_in, reserved_as}
use Rattle.memory.specs.Ends.{ended_in}
use Rattle.memory.specs.Starts.{start_of, Holds, Scan}
use Rattle.memory.specs.declared.Scanned.{Scanned}
use Rattle.std.specs.Prelude.{Ok, Err, MatchResult}
use Rattle.std.specs.declared.result.Result.{Result}
use Rattle.memory.specs.Faults.{number}
use Rattle.memory.specs.declared.Fault.{Fault}
use Rattle.memory.specs.declared.Fault.TheVariants.{OutOfOrder}
use Rattle.memory.specs.declared.Head.{Head}
use Rattle.memory.specs.declared.Head.TheVariants.{Format, Name, Node, End}
use Rattle.memory.proofs.FieldLaws.{row_same}
use Rattle.memory.proofs.KindLaws.{known, class_format, class_name, class_node}
use Rattle.memory.proofs.HeadLaws.{head, step_bad, step_format, step_name, step_node, step_end}
use Rattle.memory.proofs.EndLaws.{end_said}
use Rattle.memory.proofs.Reached.{Reached, start, keeps, long_by_one}
use Rattle.memory.proofs.NameLaws.{reserved_more, name_step}

-- ---- what the loop's locals say

pub record Looped (bytes : List ℕ) (at : ℕ) (begun : Bool) (nn nk : ℕ) (starts : List ℕ) (words : Names) (table : List (List ℕ)) (ks ds used : List ℕ) : Type 0 where
  pub so : SoFar
  pub run : read_on (drop at bytes) 0 so ≡ read bytes
  pub reached : Reached bytes so
  pub here : so.at ≡ at
  pub begun_is : so.begun ≡ begun
  pub names_are : so.names ≡ take nn table
  pub nn_is : length so.names ≡ nn
  pub nk_is : length so.nodes ≡ nk
  pub shows : Shows so.nodes ks ds
  pub marks : Marks used so.used
  pub starts_are : (i : ℕ) → i < nk → get_or starts i 0 ≡ start_of bytes nn i
  pub words_are : mem words ≡ reserved so.names
  pub near : at ≤ 2 + 25 * nn + 7 * nk
  pub starts_long : length starts ≡ 512
  pub table_long : length table ≡ 128
  pub kinds_long : length ks ≡ 512
  pub depths_long : length ds ≡ 512

-- bytes that belong to the record just read are passed over
skipped : (b : List ℕ) (n : ℕ) (so : SoFar) → read_on b n so ≡ read_on (drop n b) 0 so
unfolding read_on
skipped b zero so = refl
skipped [] (suc n) so = refl
skipped (x ∷ b) (suc n) so = skipped b n so

-- the next free place of an array is filled
put_shows : (nodes : List Seen) (ks ds : List ℕ) (s : Seen) → Shows nodes ks ds → length nodes < length ks → length nodes < length ds
    → Shows (nodes ++ (s ∷ [])) (set ks (length nodes) s.kind) (set ds (length nodes) s.depth)
put_shows nodes ks ds s h l m =
    record {
      kind = λ k. at (λ (z : Seen). z.kind) ks refl l h.kind k (dec_lt k (length nodes)) (ℕ_discrete k (length nodes));
      depth = λ k. at (λ (z : Seen). z.depth) ds refl m h.depth k (dec_lt k (length nodes)) (ℕ_discrete k (length nodes));
    }
  where
    at : (f : Seen → ℕ) (xs : List ℕ) → f unseen ≡ 0 → length nodes < length xs → ((k : ℕ) → get_or xs k 0 ≡ f (get_or nodes k unseen))
        → (k : ℕ) → Dec (k < length nodes) → Dec (k ≡ length nodes) → get_or (set xs (length nodes) (f s)) k 0 ≡ f (get_or (nodes ++ (s ∷ [])) k unseen)
    at f xs z l h k (yes d) e =
        get_or-set_other xs (length nodes) k (f s) 0 (λ g. omega arith) ∙ h k ∙ ap f (sym (get_or-append nodes (s ∷ []) unseen k d))
    at f xs z l h k (no d) (yes e) =
        ap (λ (j : ℕ). get_or (set xs (length nodes) (f s)) j 0) e ∙ get_or-set_same xs (length nodes) (f s) 0 l ∙ ap f (sym (last_of nodes s unseen k e))
    at f xs z l h k (no d) (no e) =
        get_or-set_other xs (length nodes) k (f s) 0 e ∙ h k
        ∙ ap f
        (get_or-eq_default nodes unseen {n = k} (omega arith)
        ∙ sym (get_or-eq_default (nodes ++ (s ∷ [])) unseen {n = k} (let w = long_by_one nodes s in omega arith)))

-- ---- one turn

module _ (bytes : List ℕ) (at : ℕ) (begun : Bool) (nn nk : ℕ) (starts : List ℕ) (words : Names) (table : List (List ℕ)) (ks ds used : List ℕ)
    (l : Looped bytes at begun nn nk starts words table ks ds used) where
  pub counts : (nn ≤ 128) × (nk ≤ 512)
  counts =
      let n = l.reached.few_names in
      let k = l.reached.few_nodes in
      let x = l.nn_is in
      let y = l.nk_is in
      (omega arith, omega arith)

  -- no record is left
  pub out : length bytes ≤ at → read bytes ≡ refused 1 at
  unfolding read_on
  out h = sym l.run ∙ rw (drop_of_length-le bytes {i = at} h, l.here)

  module _ (inside : at < length bytes) where
    abbrev kind : ℕ
    kind = get_or bytes at 0

    abbrev rest : List ℕ
    rest = drop (at + 1) bytes

    front : kind ∷ rest ≡ drop at bytes
    front = sym (drop-cons bytes at 0 inside ∙ ap (λ (n : ℕ). kind ∷ drop n bytes) (sym (add-one at)))

    front_so : kind ∷ rest ≡ drop l.so.at bytes
    front_so = front ∙ ap (λ (n : ℕ). drop n bytes) (sym l.here)

    run_here : elim (read_record kind rest l.so) [ on next ↦ read_on rest (body_bytes (announced kind)) next | stop o ↦ o ] ≡ read bytes
    unfolding read_on
    run_here = ap (λ (z : List ℕ). read_on z 0 l.so) front ∙ l.run

    stop_at : (o : Outcome) → read_record kind rest l.so ≡ stop o → read bytes ≡ o
    stop_at o e = sym (subst (λ (s : Step). elim s [ on next ↦ read_on rest (body_bytes (announced kind)) next | stop o ↦ o ] ≡ read bytes) e run_here)

    refused_at : (n : ℕ) → read_record kind rest l.so ≡ stop (refused n l.so.at) → read bytes ≡ refused n at
    refused_at n e = stop_at (refused n l.so.at) e ∙ ap (refused n) l.here

    next_at : (next : SoFar) → read_record kind rest l.so ≡ on next → next.at ≡ at + 1 + body_bytes (announced kind)
    next_at next e = went_at kind rest l.so (went kind rest l.so next e) ∙ ap (λ (n : ℕ). n + 1 + body_bytes (announced kind)) l.here

    go_on : (next : SoFar) → read_record kind rest l.so ≡ on next → read_on (drop (at + 1 + body_bytes (announced kind)) bytes) 0 next ≡ read bytes
    go_on next e =
        sym (ap (λ (z : List ℕ). read_on z 0 next) (drop-drop (body_bytes (announced kind)) (at + 1) bytes)) ∙ sym (skipped rest (body_bytes (announced kind)) next)
        ∙ subst (λ (s : Step). elim s [ on next ↦ read_on rest (body_bytes (announced kind)) next | stop o ↦ o ] ≡ read bytes) e run_here

    next_reached : (next : SoFar) → read_record kind rest l.so ≡ on next → Reached bytes next
    next_reached next e = keeps bytes kind rest l.so front_so l.reached (went kind rest l.so next e)

    -- the head that the code sees is the definitions'
    abbrev seen : Result Head Fault
    seen = head_by (row_at kind) (length rest) begun nn nk

    seen_is : (h : Result Head Fault) → seen ≡ h → head kind rest l.so ≡ h
    seen_is h e = rw (l.begun_is, l.nn_is, l.nk_is) e

    pub bad_turn : (f : Fault) → seen ≡ Err f → read bytes ≡ refused (number f) at
    bad_turn f e = refused_at (number f) (step_bad kind rest l.so f (seen_is (Err f) e))

    -- ---- the format record

    not_yet : seen ≡ Ok Format → (row_at kind).class ≡ 1 → begun ≡ false
    unfolding head_by order_by
    not_yet e c = go begun refl
      where
        go : (b : Bool) → begun ≡ b → begun ≡ false
        go false d = d
        go true d =
            let z : ◌≡◌ {A = Result Head Fault} (Err OutOfOrder) (Ok Format) = sym (late d) ∙ e in
            absurd (let y : ◌≡◌ {A = ℕ} 0 1 = cc in omega arith)
          where
            late : begun ≡ true → seen ≡ Err OutOfOrder
            late d = rw (c, d)

    pub format_bad : seen ≡ Ok Format → eqb (byte rest) 1 ≡ false → read bytes ≡ refused 3 at
    unfolding read_format
    format_bad e f = refused_at 3 (step_format kind rest l.so (seen_is (Ok Format) e) ∙ rw f)

    pub format_turn : seen ≡ Ok Format → (row_at kind).class ≡ 1 → eqb (byte rest) 1 ≡ true
        → Looped bytes (at + 1 + body_bytes (announced kind)) true nn nk starts words table ks ds used
    unfolding read_format row_at body_bytes
    format_turn e c f =
        let s : read_record kind rest l.so ≡ on (after_format l.so) = step_format kind rest l.so (seen_is (Ok Format) e) ∙ rw f in
        let z : at ≡ 0 = sym l.here ∙ (l.reached.fresh (l.begun_is ∙ not_yet e c)).0 in
        let y : body_bytes (announced kind) ≡ 1 = ap body_bytes (class_format (announced kind) c) in
        record {
          so = after_format l.so;
          run = go_on (after_format l.so) s;
          reached = next_reached (after_format l.so) s;
          here = next_at (after_format l.so) s;
          begun_is = refl;
          names_are = l.names_are;
          nn_is = l.nn_is;
          nk_is = l.nk_is;
          shows = l.shows;
          marks = l.marks;
          starts_are = l.starts_are;
          words_are = l.words_are;
          near = omega arith;
          starts_long = l.starts_long;
          table_long = l.table_long;
          kinds_long = l.kinds_long;
          depths_long = l.depths_long;
        }

    -- ---- a name

    abbrev text : List ℕ
    text = take 24 rest

    abbrev naming : Result (Unit {0}) Fault
    naming = named_in text table nn

    name_is : nn ≤ 128 → seen ≡ Ok Name
        → read_record kind rest l.so ≡ elim naming [ Ok t ↦ on (after_name text l.so) | Err f ↦ stop (refused (number f) l.so.at) ]
    name_is h e =
        step_name kind rest l.so (seen_is (Ok Name) e)
        ∙ name_step text l.so table nn (let t = l.table_long in omega arith) l.names_are l.nn_is

    pub name_bad : (f : Fault) → nn ≤ 128 → seen ≡ Ok Name → naming ≡ Err f → read bytes ≡ refused (number f) at
    name_bad f h e d = refused_at (number f) (name_is h e ∙ rw d)

    pub name_turn : (more : Names) → seen ≡ Ok Name → (row_at kind).class ≡ 2 → nn < 128 → naming ≡ Ok tt → mem more ≡ mem words ∪ reserved_as text nn
        → Looped bytes (at + 1 + body_bytes (announced kind)) begun (nn + 1) nk starts more (set table nn text) ks ds used
    unfolding row_at body_bytes
    name_turn more e c h f m =
        let s : read_record kind rest l.so ≡ on (after_name text l.so) = name_is (omega arith) e ∙ rw f in
        let y : body_bytes (announced kind) ≡ 24 = ap body_bytes (class_name (announced kind) c) in
        let t = l.table_long in
        let n = l.near in
        let none : nk ≡ 0 = sym l.nk_is ∙ went_named kind rest l.so (went kind rest l.so (after_name text l.so) s) (class_name (announced kind) c) in
        record {
          so = after_name text l.so;
          run = go_on (after_name text l.so) s;
          reached = next_reached (after_name text l.so) s;
          here = next_at (after_name text l.so) s;
          begun_is = l.begun_is;
          names_are = ap (λ (z : List (List ℕ)). z ++ (text ∷ [])) l.names_are ∙ sym (ap (λ (z : ℕ). take z (set table nn text)) (add-one nn) ∙ take-suc-set table nn text (omega arith));
          nn_is = long_by_one l.so.names text ∙ ap (λ (z : ℕ). z + 1) l.nn_is;
          nk_is = l.nk_is;
          shows = l.shows;
          marks = l.marks;
          starts_are = λ i z. absurd (omega arith);
          words_are = m ∙ ap₂ {C = Set} ◌∪◌ l.words_are (ap (reserved_as text) (sym l.nn_is)) ∙ sym (reserved_more l.so.names text);
          near = omega arith;
          starts_long = l.starts_long;
          table_long = simp length-set t;
          kinds_long = l.kinds_long;
          depths_long = l.depths_long;
        }

    -- ---- a node

    abbrev pub checking : Marked
    checking = checked_in ks ds rest (row_at kind) nn nk used

    abbrev fields : Kind → Checked
    fields r = check_depth (check_all r.body rest l.so 0 l.so.used)

    agree : (r : Kind) → announced kind ≡ node r → nk ≤ 512 → Same checking (fields r)
    unfolding row_at
    agree r e h =
        subst (λ (a : Announced). Same (checked_in ks ds rest (row_for a) nn nk used) (fields r)) (sym e)
        (rw (← l.nn_is, ← l.nk_is) (row_same rest l.so ks ds l.shows (let k = l.nk_is in omega arith) r (known kind r e).row_like used l.marks))

    node_is : (r : Kind) → announced kind ≡ node r → seen ≡ Ok Node → read_record kind rest l.so ≡ add_node r rest l.so (fields r)
    unfolding read_node
    node_is r e h = step_node kind rest l.so r e (seen_is (Ok Node) h)

    pub node_bad : (f : Fault) → nk ≤ 512 → (row_at kind).class ≡ 3 → seen ≡ Ok Node → checking.answer ≡ Err f → read bytes ≡ refused (number f) at
    unfolding row_at add_node
    node_bad f h c e a =
        let w = class_node (announced kind) c in
        go w.0 w.1 (fields w.0) refl (rw a at (agree w.0 w.1 h))
      where
        go : (r : Kind) → announced kind ≡ node r → (d : Checked) → fields r ≡ d → Says (Err f) checking.used d → read bytes ≡ refused (number f) at
        go r d (fault n) p q =
            refused_at (number f) (node_is r d e ∙ ap (add_node r rest l.so) p ∙ ap (λ (z : ℕ). stop (refused z l.so.at)) (sym q))
        go r d (fine deep u) p q = absurd q

    -- what a node that is read on from was found to be
    pub record Fine (deep : ℕ) : Type 0 where
      pub row : Kind
      pub is : announced kind ≡ node row
      pub used_by : Set
      pub checked : fields row ≡ fine deep used_by
      pub marks : Marks checking.used used_by

    fine_node : (deep : ℕ) → nk ≤ 512 → (row_at kind).class ≡ 3 → checking.answer ≡ Ok deep → Fine deep
    unfolding row_at
    fine_node deep h c a =
        let w = class_node (announced kind) c in
        go w.0 w.1 (fields w.0) refl (rw a at (agree w.0 w.1 h))
      where
        go : (r : Kind) → announced kind ≡ node r → (d : Checked) → fields r ≡ d → Says (Ok deep) checking.used d → Fine deep
        go r d (fault n) p q = absurd q
        go r d (fine found u) p q = record { row = r; is = d; used_by = u; checked = p ∙ ap (λ (z : ℕ). fine z u) (sym q.0); marks = q.1 }

    pub node_turn : (deep : ℕ) → nk < 512 → (row_at kind).class ≡ 3 → seen ≡ Ok Node → checking.answer ≡ Ok deep
        → Looped bytes (at + 1 + body_bytes (announced kind)) begun nn (nk + 1) (set starts nk at) words table (set ks nk kind) (set ds nk (deep + 1)) checking.used
    unfolding add_node body_bytes
    node_turn deep h c e f =
        let w = fine_node deep (omega arith) c f in
        let next = after_node w.row rest deep w.used_by l.so in
        let s : read_record kind rest l.so ≡ on (after_node w.row rest deep w.used_by l.so) =
        node_is w.row w.is e ∙ ap (add_node w.row rest l.so) w.checked in
        let short : body_bytes (announced kind) ≤ 6 = subst (λ (a : Announced). body_bytes a ≤ 6) (sym w.is) (known kind w.row w.is).short in
        let p = l.near in
        let k = l.nk_is in
        let kl = l.kinds_long in
        let dl = l.depths_long in
        let sl = l.starts_long in
        record {
          so = after_node w.row rest deep w.used_by l.so;
          run = go_on next s;
          reached = next_reached next s;
          here = next_at next s;
          begun_is = l.begun_is;
          names_are = l.names_are;
          nn_is = l.nn_is;
          nk_is = long_by_one l.so.nodes (seen_node w.row rest deep) ∙ ap (λ (z : ℕ). z + 1) k;
          shows = shown w;
          marks = w.marks;
          starts_are = λ i z. start_at (went_begun kind rest l.so w.row (went kind rest l.so next s) w.is) i z (dec_lt i nk);
          words_are = l.words_are;
          near = omega arith;
          starts_long = simp length-set sl;
          table_long = l.table_long;
          kinds_long = simp length-set kl;
          depths_long = simp length-set dl;
        }
      where
        shown : (w : Fine deep) → Shows (l.so.nodes ++ (seen_node w.row rest deep ∷ [])) (set ks nk kind) (set ds nk (deep + 1))
        shown w =
            let N = l.so.nodes ++ (seen_node w.row rest deep ∷ []) in
            let k = l.nk_is in
            let kl = l.kinds_long in
            let dl = l.depths_long in
            subst (λ (z : ℕ). Shows N (set ks nk z) (set ds nk (deep + 1))) (known kind w.row w.is).numbered
            (subst (λ (z : ℕ). Shows N (set ks z w.row.kind) (set ds z (deep + 1))) k
            (put_shows l.so.nodes ks ds (seen_node w.row rest deep) l.shows (omega arith) (omega arith)))

        start_at : l.so.begun ≡ true → (i : ℕ) → i < nk + 1 → Dec (i < nk) → get_or (set starts nk at) i 0 ≡ start_of bytes nn i
        start_at g i z (yes d) = get_or-set_other starts nk i at 0 (λ g. omega arith) ∙ l.starts_are i d
        start_at g i z (no d) =
            let j : i ≡ nk = omega arith in
            let sl = l.starts_long in
            ap (λ (m : ℕ). get_or (set starts nk at) m 0) j ∙ get_or-set_same starts nk at 0 (omega arith) ∙ sym l.here ∙ l.reached.place g
            ∙ ap₂ (start_of bytes) l.nn_is l.nk_is ∙ ap (start_of bytes nn) (sym j)

    -- the same by what the code answered
    module _ (r : Result (Unit {0}) Fault) (ks_after ds_after used_after : List ℕ) (a : Added checking kind nk ks ds r ks_after ds_after used_after) where
      pub node_bad_by : (f : Fault) → nk ≤ 512 → (row_at kind).class ≡ 3 → seen ≡ Ok Node → r ≡ Err f → read bytes ≡ refused (number f) at
      node_bad_by f h c e d = go checking.answer refl a
        where
          go : (x : Result ℕ Fault) → checking.answer ≡ x
              → MatchResult x (λ deep. (r ≡ Ok tt) × (ks_after ≡ set ks nk kind) × (ds_after ≡ set ds nk (deep + 1)) × (used_after ≡ checking.used)) (λ f. r ≡ Err f)
              → read bytes ≡ refused (number f) at
          go (Ok deep) x p = absurd (let q = p.0 in cc)
          go (Err g) x p = let y = sym p ∙ d in let q : g ≡ f = cc in node_bad f h c e (x ∙ ap (λ (z : Fault). Err z) q)

      pub node_turn_by : nk < 512 → (row_at kind).class ≡ 3 → seen ≡ Ok Node → r ≡ Ok tt
          → Looped bytes (at + 1 + body_bytes (announced kind)) begun nn (nk + 1) (set starts nk at) words table ks_after ds_after used_after
      node_turn_by h c e d = go checking.answer refl a
        where
          go : (x : Result ℕ Fault) → checking.answer ≡ x
              → MatchResult x (λ deep. (r ≡ Ok tt) × (ks_after ≡ set ks nk kind) × (ds_after ≡ set ds nk (deep + 1)) × (used_after ≡ checking.used)) (λ f. r ≡ Err f)
              → Looped bytes (at + 1 + body_bytes (announced kind)) begun nn (nk + 1) (set starts nk at) words table ks_after ds_after used_after
          go (Ok deep) x p = rw (p.1, p.2, p.3) (node_turn deep h c e x)
          go (Err g) x p = absurd (cc)

    -- ---- the end record

    end_is : seen ≡ Ok End → read bytes ≡ read_end rest l.so
    end_is e = stop_at (read_end rest l.so) (step_end kind rest l.so (seen_is (Ok End) e))

    pub end_verdict : nk ≤ 512 → seen ≡ Ok End → ended_in rest at nn nk ks used ≡ verdict (read bytes)
    end_verdict h e =
        ap (λ (z : ℕ). ended_in rest z nn nk ks used) (sym l.here) ∙ ap (λ (z : ℕ). ended_in rest l.so.at z nk ks used) (sym l.nn_is)
        ∙ ap (λ (z : ℕ). ended_in rest l.so.at (length l.so.names) z ks used) (sym l.nk_is)
        ∙ end_said rest l.so ks ds used l.shows l.marks (let k = l.nk_is in omega arith) ∙ sym (ap verdict (end_is e))

    pub end_holds : seen ≡ Ok End → (c : Contents) → read bytes ≡ accepted c → Holds bytes c starts words
    end_holds e c d =
        subst (λ (z : Contents). Holds bytes z starts words) (closed rest l.so c (sym (end_is e) ∙ d)).contents
        (record {
          starts =
              λ i h.
              l.starts_are i (let m = length-map l.so.nodes (λ (s : Seen). s.node) in let k = l.nk_is in omega arith)
              ∙ ap (λ (z : ℕ). start_of bytes z i) (sym l.nn_is);
          words = l.words_are;
        })

-- ---- the answer

pub refused_scan : (bytes : List ℕ) (r : Scanned) (starts : List ℕ) (n o : ℕ) → read bytes ≡ refused n o → r.verdict ≡ Err (refusal n o) → Scan bytes r starts
unfolding verdict
refused_scan bytes r starts n o e v =
    record { said = v ∙ sym (ap verdict e); held = λ c d. absurd (refused_accepted n o c (sym e ∙ d)) }

zero_at : (n k : ℕ) → ◌≡◌ {A = ℕ} (get_or (replicate n 0) k 0) 0
zero_at zero k = refl
zero_at (suc n) zero = refl
zero_at (suc n) (suc k) = zero_at n k

pub loop_start : (bytes starts : List ℕ) (words : Names) → length starts ≡ 512 → mem words ≡ none
    → Looped bytes 0 false 0 0 starts words (replicate 128 (replicate 24 0)) (replicate 512 0) (replicate 512 0) (replicate 512 0)
unfolding read nothing_read reserved is_reserved is_word ascii none
loop_start bytes starts words long e =
    record {
      so = nothing_read;
      run = refl;
      reached = start bytes;
      here = refl;
      begun_is = refl;
      names_are = refl;
      nn_is = refl;
      nk_is = refl;
      shows = record { kind = λ k. zero_at 512 k; depth = λ k. zero_at 512 k };
      marks = record { size = refl; mark = λ k h. ap (λ (z : ℕ). not (eqb z 0)) (zero_at 512 k) };
      starts_are = λ i h. absurd (omega arith);
      words_are = e;
      near = omega arith;
      starts_long = long;
      table_long = refl;
      kinds_long = refl;
      depths_long = refl;
    }
