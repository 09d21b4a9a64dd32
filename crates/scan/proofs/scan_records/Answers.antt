-- `scan_records` meets its contract: the invariant says what the arrays hold of the records read so far, and each arm cites the law of its turn.
-- Assumes nothing.
use mathlib.Core.Path.{◌≡◌, sym, ap, ap₂, subst, ◌∙◌}
use mathlib.Core.List.{List}
use Prim.Native.Nat.{ℕ, ◌+◌, ◌≤◌, ◌<◌, ◌-◌}
use native.Mathlib.Omega.{arith}
use borrow.Author.Tests.{eq-eqb, ne_eqb}
use lib.ListN.{length, get_or, drop, take, length-drop}
use lib.Seq.{take_all}
use Rattle.memory.specs.declared.Head.TheVariants.{Format, Name, Node}
use Rattle.paper.specs.Record.{Announced, announced, body_bytes}
use Rattle.memory.specs.Rows.{row_for, row_at}
use Rattle.std.specs.Prelude.{Ok}
use Rattle.std.specs.declared.result.Result.{Result}
use Rattle.memory.specs.declared.Fault.{Fault}
use Rattle.memory.specs.declared.Head.{Head}
use Rattle.memory.specs.Fields.{Marked, checked_in, Added}
use Rattle.memory.specs.Heads.{head_by}
use Rattle.memory.specs.declared.Row.{Row}
use Rattle.memory.proofs.KindLaws.{row_length, class_name}
use Rattle.memory.proofs.ReadLaws.{counts, out, bad_turn, format_bad, format_turn, name_bad, name_turn, node_bad_by, node_turn_by, end_verdict, end_holds, refused_scan, loop_start}
use Rattle.scan.proofs.scan_records.Goals as goal
use Rattle.scan.proofs.scan_records.Goals.{After-head_of}

-- what is known where the head has been read, for every arm
module _ (c : After-head_of) where
  abbrev bytes : List ℕ
  bytes = c.args.bytes.now

  abbrev v_at : ℕ
  v_at = c.loop-at.at

  abbrev kind_here : ℕ
  kind_here = get_or bytes v_at 0

  inside : v_at < length bytes
  inside = c.loop-at-test.true

  part : take (length bytes - (v_at + 1)) (drop (v_at + 1) bytes) ≡ drop (v_at + 1) bytes
  part = take_all (length bytes - (v_at + 1)) (drop (v_at + 1) bytes) (simp length-drop (omega arith))

  row_is : c.row_of-row.result ≡ row_at kind_here
  row_is = c.row_of-row.ensures

  len_is : c.from.result ≡ body_bytes (announced kind_here)
  unfolding row_at
  len_is = c.from.ensures ∙ ap (λ (r : Row). r.len) row_is ∙ row_length (announced kind_here)

  head_is : c.head_of.result ≡ head_by (row_at kind_here) (length (drop (v_at + 1) bytes)) c.loop-at.begun c.loop-at.nn c.loop-at.nk
  head_is = rw (← row_is, ← part) c.head_of.ensures.is

  -- what the head lets each arm count on
  format_class : c.head_of.result ≡ Ok Format → (row_at kind_here).class ≡ 1
  format_class e =
      let q = rw e at c.head_of.ensures.allows in
      sym (ap (λ (r : Row). r.class) row_is) ∙ q

  name_room : c.head_of.result ≡ Ok Name
      → ((row_at kind_here).class ≡ 2) × (24 ≤ length (drop (v_at + 1) bytes)) × (c.loop-at.nn < 128)
  unfolding row_at row_for
  name_room e =
      let q = rw e at c.head_of.ensures.allows in
      let k = sym (ap (λ (r : Row). r.class) row_is) ∙ q.0 in
      let m : (row_at kind_here).len ≡ 24 = ap (λ (a : Announced). (row_for a).len) (class_name (announced kind_here) k) in
      let n : c.row_of-row.result.len ≡ 24 = ap (λ (r : Row). r.len) row_is ∙ m in
      (k, rw (← n, ← part) q.1, q.2)

  node_room : c.head_of.result ≡ Ok Node → ((row_at kind_here).class ≡ 3) × (c.loop-at.nk < 512)
  node_room e =
      let q = rw e at c.head_of.ensures.allows in
      (sym (ap (λ (r : Row). r.class) row_is) ∙ q.0, q.1)

  abbrev rest : List ℕ
  rest = take (length bytes - (v_at + 1)) (drop (v_at + 1) bytes)

  -- the name that was copied
  copied_is : {n : List ℕ} → n ≡ take 24 rest → n ≡ take 24 (drop (v_at + 1) bytes)
  copied_is e = rw part at e

  -- what is found of the node that is added
  abbrev finds : List ℕ → Row → Marked
  finds b row = checked_in c.loop-at.nodes.kinds c.loop-at.nodes.depths b row c.loop-at.nn c.loop-at.nk c.loop-at.nodes.used

  abbrev found : Marked
  found = finds (drop (v_at + 1) bytes) (row_at kind_here)

  found_is : finds rest c.row_of-row.result ≡ found
  found_is = ap₂ finds part row_is

  -- and so of what is put down
  put_down : (r : Result (Unit {0}) Fault) (ks ds us : List ℕ)
      → Added (finds rest c.row_of-row.result) kind_here c.loop-at.nk c.loop-at.nodes.kinds c.loop-at.nodes.depths r ks ds us
      → Added found kind_here c.loop-at.nk c.loop-at.nodes.kinds c.loop-at.nodes.depths r ks ds us
  put_down r ks ds us a = subst (λ (m : Marked). Added m kind_here c.loop-at.nk c.loop-at.nodes.kinds c.loop-at.nodes.depths r ks ds us) found_is a

-- a head by the parts of its pattern
headed : {r : Result Head Fault} {h k : Head} → r ≡ Ok h → h ≡ k → r ≡ Ok k
headed e f = e ∙ ap (λ (z : Head). Ok z) f

pub loop-at-init : goal.loop-at-init
loop-at-init c = loop_start _ _ _ c.requires c.empty-reserved.ensures

pub returns-in-Err : goal.returns-in-Err
returns-in-Err c =
    let p = (goal.at.returns-in-Err c).After-head_of in
    refused_scan _ _ _ _ _ (bad_turn _ _ _ _ _ _ _ _ _ _ _ c.loop-at.invariant (inside p) _ (sym (head_is p) ∙ c.in-Err.is)) c.refused.ensures

pub returns-then-byte-ne1 : goal.returns-then-byte-ne1
returns-then-byte-ne1 c =
    let p = (goal.at.returns-then-byte-ne1 c).After-head_of in
    let e = headed c.in-Ok-Format.is c.in-Ok-Format.field-0-is in
    let f = rw (c.byte.ensures, part p) at (ne_eqb _ _ c.if-byte-ne1.true) in
    refused_scan _ _ _ _ _ (format_bad _ _ _ _ _ _ _ _ _ _ _ c.loop-at.invariant (inside p) (sym (head_is p) ∙ e) f) c.refused-then-byte-ne1.ensures

pub loop-at-preserved-in-Ok-Format : goal.loop-at-preserved-in-Ok-Format
loop-at-preserved-in-Ok-Format c =
    let p = (goal.at.loop-at-preserved-in-Ok-Format c).After-head_of in
    let e = headed c.in-Ok-Format.is c.in-Ok-Format.field-0-is in
    let f = rw (c.byte.ensures, part p) at (eq-eqb _ _ c.if-byte-ne1.false) in
    rw (len_is p) (format_turn _ _ _ _ _ _ _ _ _ _ _ c.loop-at.invariant (inside p) (sym (head_is p) ∙ e) (format_class p e) f)

pub copied-n-requires : goal.copied-n-requires
copied-n-requires c =
    let p = (goal.at.copied-n-requires c).After-head_of in
    rw (part p) (name_room p (headed c.in-Ok-Name.is c.in-Ok-Name.field-0-is)).1

pub returns-in-Err-add_name : goal.returns-in-Err-add_name
returns-in-Err-add_name c =
    let p = (goal.at.returns-in-Err-add_name c).After-head_of in
    let e = headed c.in-Ok-Name.is c.in-Ok-Name.field-0-is in
    let z = (name_room p e).2 in
    let n = rw (copied_is p c.copied-n.ensures) at c.add_name.ensures.0 in
    refused_scan _ _ _ _ _
    (name_bad _ _ _ _ _ _ _ _ _ _ _ c.loop-at.invariant (inside p) _ (omega arith) (sym (head_is p) ∙ e) (sym n ∙ c.in-Err-add_name.is))
    c.refused-in-Err-add_name.ensures

pub loop-at-preserved-in-Ok-Name : goal.loop-at-preserved-in-Ok-Name
loop-at-preserved-in-Ok-Name c =
    let p = (goal.at.loop-at-preserved-in-Ok-Name c).After-head_of in
    let e = headed c.in-Ok-Name.is c.in-Ok-Name.field-0-is in
    let r = name_room p e in
    let i = copied_is p c.copied-n.ensures in
    let n = rw i at c.add_name.ensures.0 in
    let m = rw i at c.reserved_with-reserved.ensures in
    rw (len_is p, c.add_name.ensures.1, i)
    (name_turn _ _ _ _ _ _ _ _ _ _ _ c.loop-at.invariant (inside p) c.reserved_with-reserved.result (sym (head_is p) ∙ e) r.0 r.2 (sym n ∙ c.in_default.is) m)

pub returns-in-Err-add : goal.returns-in-Err-add
returns-in-Err-add c =
    let p = (goal.at.returns-in-Err-add c).After-head_of in
    let e = headed c.in-Ok-Node.is c.in-Ok-Node.field-0-is in
    let r = node_room p e in
    refused_scan _ _ _ _ _
    (node_bad_by _ _ _ _ _ _ _ _ _ _ _ c.loop-at.invariant (inside p) c.add.result c.add.new.self.kinds c.add.new.self.depths c.add.new.self.used
    (put_down p c.add.result c.add.new.self.kinds c.add.new.self.depths c.add.new.self.used c.add.ensures) _ (let z = r.1 in omega arith) r.0
    (sym (head_is p) ∙ e) c.in-Err-add.is) c.refused-in-Err-add.ensures

pub loop-at-preserved : goal.loop-at-preserved
loop-at-preserved c =
    let p = (goal.at.loop-at-preserved c).After-head_of in
    let e = headed c.in-Ok-Node.is c.in-Ok-Node.field-0-is in
    let r = node_room p e in
    rw (len_is p)
    (node_turn_by _ _ _ _ _ _ _ _ _ _ _ c.loop-at.invariant (inside p) c.add.result c.add.new.self.kinds c.add.new.self.depths c.add.new.self.used
    (put_down p c.add.result c.add.new.self.kinds c.add.new.self.depths c.add.new.self.used c.add.ensures) r.1 r.0 (sym (head_is p) ∙ e)
    c.in_default-add.is)

pub returns-in-Ok-End : goal.returns-in-Ok-End
returns-in-Ok-End c =
    let p = (goal.at.returns-in-Ok-End c).After-head_of in
    let i = c.loop-at.invariant in
    let e = sym (head_is p) ∙ headed c.in-Ok-End.is c.in-Ok-End.field-0-is in
    record {
      said = rw (part p) at c.ended.ensures ∙ end_verdict _ _ _ _ _ _ _ _ _ _ _ i (inside p) (counts _ _ _ _ _ _ _ _ _ _ _ i).1 e;
      held = end_holds _ _ _ _ _ _ _ _ _ _ _ i (inside p) e;
    }

pub returns : goal.returns
returns c = refused_scan _ _ _ _ _ (out _ _ _ _ _ _ _ _ _ _ _ c.loop-at.invariant c.loop-at-test.false) c.refused-2.ensures
