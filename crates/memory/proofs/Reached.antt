-- Where the nodes and the names read so far lie: node i is what the record at its start says, and name x the 24 bytes after its kind.
-- Assumes nothing.
use mathlib.Core.Path.{◌≡◌, refl, sym, ap, ◌∙◌}
use mathlib.Core.Bool.{true, false, true≢false}
use mathlib.Core.List.{List, [], ◌∷◌, ◌++◌}
use Prim.Native.Nat.{ℕ, ◌+◌, ◌*◌, ◌≤◌, ◌<◌}
use native.Mathlib.Omega.{arith}
use native.Mathlib.Decide.{dec_lt}
use native.Mathlib.Numerals.{add-one}
use lib.ListN.{length, take, drop, get_or, length-append, get_or-append}
use lib.Seq.{drop-drop, get_or-drop}
use Rattle.paper.specs.Record.{name_bytes}
use Rattle.paper.specs.TurnedAway.{Seen, unseen, SoFar, nothing_read}
use Rattle.paper.proofs.Runs.{Went, went_format, went_name, went_node, seen_node, last_of}
use Rattle.memory.specs.Decoded.{node_read, node_from}
use Rattle.memory.specs.Starts.{start_of}

pub long_by_one : {A : Type 0} (l : List A) (a : A) → length (l ++ (a ∷ [])) ≡ length l + 1
long_by_one l a = length-append l (a ∷ [])

-- what stands at the front of the bytes that are left
module _ (bytes : List ℕ) (k : ℕ) (b : List ℕ) (at : ℕ) (e : k ∷ b ≡ drop at bytes) where
  pub kind_here : get_or bytes at 0 ≡ k
  kind_here = sym (ap (λ (n : ℕ). get_or bytes n 0) (let z : at + 0 ≡ at = omega arith in z)) ∙ sym (get_or-drop at bytes 0 0) ∙ sym (ap (λ (l : List ℕ). get_or l 0 0) e)

  pub body_here : drop (at + 1) bytes ≡ b
  body_here = sym (drop-drop 1 at bytes) ∙ sym (ap (drop 1) e)

pub record Reached (bytes : List ℕ) (so : SoFar) : Type 0 where
  pub fresh : so.begun ≡ false → (so.at ≡ 0) × (length so.names ≡ 0) × (length so.nodes ≡ 0)
  pub place : so.begun ≡ true → so.at ≡ start_of bytes (length so.names) (length so.nodes)
  pub said : (i : ℕ) → i < length so.nodes → (get_or so.nodes i unseen).node ≡ node_from bytes (start_of bytes (length so.names) i)
  pub written : (x : ℕ) → x < length so.names → get_or so.names x [] ≡ take name_bytes (drop (3 + 25 * x) bytes)
  pub few_names : length so.names ≤ 128
  pub few_nodes : length so.nodes ≤ 512

pub start : (bytes : List ℕ) → Reached bytes nothing_read
unfolding nothing_read
start bytes =
    record {
      fresh = λ e. (refl, refl, refl);
      place = λ e. absurd (true≢false (sym e));
      said = λ i h. absurd (omega arith);
      written = λ x h. absurd (omega arith);
      few_names = omega arith;
      few_nodes = omega arith;
    }

module _ (bytes : List ℕ) (k : ℕ) (b : List ℕ) (so : SoFar) (e : k ∷ b ≡ drop so.at bytes) (p : Reached bytes so) where
  pub keeps : {next : SoFar} → Went k b so next → Reached bytes next
  unfolding start_of node_from node_read
  keeps (went_format a g) =
      let f = p.fresh g in
      record {
        fresh = λ z. absurd (true≢false z);
        place = λ z. rw (f.1, f.2) (omega arith);
        said = λ i h. absurd (omega arith);
        written = λ x h. absurd (omega arith);
        few_names = p.few_names;
        few_nodes = p.few_nodes;
      }
  keeps (went_name a g z h m) =
      let n = take name_bytes b in
      let l = long_by_one so.names n in
      let q : so.at ≡ 2 + 25 * length so.names = p.place g ∙ ap (start_of bytes (length so.names)) z in
      record {
        fresh = λ y. absurd (true≢false (sym g ∙ y));
        place = λ y. rw (z, l) (omega arith);
        said = λ i y. absurd (omega arith);
        written = λ x y. name_at n l q x (rw l at y) (dec_lt x (length so.names));
        few_names = rw l (omega arith);
        few_nodes = p.few_nodes;
      }
    where
      name_at : (n : List ℕ) → length (so.names ++ (take name_bytes b ∷ [])) ≡ length so.names + 1 → so.at ≡ 2 + 25 * length so.names
          → (x : ℕ) → x < length so.names + 1 → Dec (x < length so.names)
          → get_or (so.names ++ (take name_bytes b ∷ [])) x [] ≡ take name_bytes (drop (3 + 25 * x) bytes)
      name_at n l q x y (yes d) = get_or-append so.names (take name_bytes b ∷ []) [] x d ∙ p.written x d
      name_at n l q x y (no d) =
          let i : x ≡ length so.names = omega arith in
          let j : so.at + 1 ≡ 3 + 25 * x = omega arith in
          last_of so.names (take name_bytes b) [] x i ∙ ap (take name_bytes) (sym (body_here bytes k b so.at e) ∙ ap (λ (m : ℕ). drop m bytes) j)
  keeps (went_node r deep used a g h m) =
      let l = long_by_one so.nodes (seen_node r b deep) in
      let q = p.place g in
      record {
        fresh = λ y. absurd (true≢false (sym g ∙ y));
        place = λ y. rw (l, add-one (length so.nodes), ← q, kind_here bytes k b so.at e, a);
        said = λ i y. node_at q i (rw l at y) (dec_lt i (length so.nodes));
        written = p.written;
        few_names = p.few_names;
        few_nodes = rw l (omega arith);
      }
    where
      node_at : so.at ≡ start_of bytes (length so.names) (length so.nodes) → (i : ℕ) → i < length so.nodes + 1 → Dec (i < length so.nodes)
          → (get_or (so.nodes ++ (seen_node r b deep ∷ [])) i unseen).node ≡ node_from bytes (start_of bytes (length so.names) i)
      node_at q i y (yes d) = ap (λ (z : Seen). z.node) (get_or-append so.nodes (seen_node r b deep ∷ []) unseen i d) ∙ p.said i d
      node_at q i y (no d) =
          let j : i ≡ length so.nodes = omega arith in
          ap (λ (z : Seen). z.node) (last_of so.nodes (seen_node r b deep) unseen i j)
          ∙ rw (j, ← q, node_from, kind_here bytes k b so.at e, body_here bytes k b so.at e, a)
