-- A node and a name by their numbers are the definitions' where an arena holds the bytes, and so are the nodes of columns that were filled from it.
-- Assumes nothing.
use mathlib.Core.Path.{◌≡◌, refl, sym, ap, ◌∙◌, subst}
use mathlib.Core.List.{List, []}
use Prim.Native.Nat.{ℕ, ◌+◌, ◌*◌, ◌%◌, ◌<◌, ◌≤◌}
use native.Mathlib.Omega.{arith}
use lib.ListN.{length, get_or, take, drop, get_or-eq_default}
use Rattle.std.specs.Prelude.{Ok, Err}
use Rattle.paper.specs.declared.Refusal.{Refusal}
use Rattle.paper.specs.declared.Node.{Node}
use Rattle.paper.specs.declared.Node.TheVariants.{ListEnd}
use Rattle.paper.specs.TurnedAway.{Contents, Outcome, refused, accepted, counts, verdict, read}
use Rattle.paper.specs.TheList.{trimmed, name_text}
use Rattle.paper.specs.Questions.{name, name_of}
use Rattle.paper.proofs.WellFormed.{WellFormed}
use Rattle.memory.specs.Decoded.{node_from}
use Rattle.memory.specs.Starts.{start_of}
use Rattle.memory.specs.Columns.{held, node_told, places_in, Copies}
use Rattle.memory.proofs.ColumnLaws.{held_at, copied_held}
use Rattle.record.specs.Arena.{Read}
use Rattle.record.specs.Stored.{contents_of, contents, Stored, Formed, Has}
use Rattle.record.specs.declared.reader.Reading.{Reading}
use Rattle.record.proofs.Lying.{Lies, lies}
use Rattle.record.proofs.Verdicts.{refused_is, Told, counts_are}

-- ---- nodes

-- what is shown of accepted contents holds of a byte's contents wherever they have a node
pub by_outcome : (bytes : List ℕ) (P : Contents → Type 0) → ((c : Contents) → read bytes ≡ accepted c → P c) → (i : ℕ) → i < length (contents bytes).nodes → P (contents bytes)
unfolding contents_of
by_outcome bytes P f i h = go (read bytes) refl h
  where
    go : (o : Outcome) → read bytes ≡ o → i < length (contents_of o).nodes → P (contents_of (read bytes))
    go (refused n k) e h = absurd (omega arith)
    go (accepted c) e h = rw e (f c e)

pub lies_at : (bytes : List ℕ) (i : ℕ) → i < length (contents bytes).nodes → Lies bytes (contents bytes)
lies_at bytes i h = by_outcome bytes (Lies bytes) (lies bytes) i h

pub node_stored : (bytes starts : List ℕ) → Stored bytes starts → (i : ℕ) → i < length (contents bytes).nodes
    → node_from bytes (get_or starts i 0) ≡ get_or (contents bytes).nodes i ListEnd
node_stored bytes starts s i h = ap (node_from bytes) (s.starts_are i h) ∙ sym ((lies_at bytes i h).node i h)

pub few : {columns : List ℕ} {i : ℕ} → Has columns i → i < 512
few h = let z = h.0.formed.few_nodes in let l = h.1 in omega arith

-- the reader's arena holds the bytes
pub read_stored : (bytes : List ℕ) (r : Reading) → Read bytes r → Stored bytes r.arena.starts
unfolding contents_of
read_stored bytes r p = record { starts_are = λ i h. go (read bytes) refl i h }
  where
    go : (o : Outcome) → read bytes ≡ o → (i : ℕ) → i < length (contents_of (read bytes)).nodes → get_or r.arena.starts i 0 ≡ start_of bytes (length (contents_of (read bytes)).names) i
    go (refused n k) e i h = absurd (let z = ap (λ (o : Outcome). length (contents_of o).nodes) e in omega arith)
    go (accepted c) e i h = rw e ((p.held c e).starts i (rw e at h))

-- ---- columns

-- what is copied from where accepted bytes' nodes begin is their nodes
module _ {bytes starts columns : List ℕ} {n k : ℕ} (t : Told bytes n k) (s : Stored bytes starts) (c : Copies bytes starts k columns) where
  pub holds : held columns ≡ (contents bytes).nodes
  holds =
      copied_held bytes starts columns (contents bytes).nodes (subst (λ (m : ℕ). Copies bytes starts m columns) (sym t.nodes_are) c)
      (λ i h. sym (node_stored bytes starts s i h))

  pub formed : Formed columns
  formed =
      record {
        names = (contents bytes).names;
        formed = subst (λ (ms : List Node). WellFormed (record { names = (contents bytes).names; nodes = ms })) (sym holds) t.formed;
      }

-- ---- names

module _ (bytes : List ℕ) (x : ℕ) where
  pub name_refused : (f : Refusal) → verdict (read bytes) ≡ Err f → name bytes x ≡ []
  unfolding name name_of
  name_refused f e = ap (λ (r : Outcome). name_of r x) (refused_is bytes e)

  name_told : {n k : ℕ} → Told bytes n k → name bytes x ≡ trimmed (get_or (contents bytes).names x [])
  unfolding name name_of name_text
  name_told t = ap (λ (r : Outcome). name_of r x) t.outcome

  pub name_unknown : (n k : ℕ) → verdict (read bytes) ≡ Ok (counts n k) → n ≤ x → name bytes x ≡ []
  unfolding trimmed
  name_unknown n k e h =
      let t = counts_are bytes e in
      let long = t.names_are in
      name_told t ∙ ap trimmed (get_or-eq_default (contents bytes).names [] {n = x} (omega arith))

  pub name_known : (n k : ℕ) → verdict (read bytes) ≡ Ok (counts n k) → x < n → trimmed (take 24 (drop (3 + 25 * x) bytes)) ≡ name bytes x
  name_known n k e h =
      let t = counts_are bytes e in
      let long = t.names_are in
      sym (name_told t ∙ ap trimmed ((lies bytes (contents bytes) t.outcome).name x (omega arith)))
