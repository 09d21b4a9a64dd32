-- Where the nodes and the names of accepted bytes lie: node i is what the record at its start says, and name x the 24 bytes after its kind.
-- Assumes nothing.
use mathlib.Core.Path.{◌≡◌, ◌∙◌, subst}
use mathlib.Core.List.{List, []}
use Prim.Native.Nat.{ℕ, ◌+◌, ◌*◌, ◌≤◌, ◌<◌}
use lib.ListN.{length, take, drop, get_or, get_or-map, length-map}
use Rattle.paper.specs.declared.Node.TheVariants.{ListEnd}
use Rattle.paper.specs.Record.{name_bytes}
use Rattle.paper.specs.TurnedAway.{Contents, accepted, read, Seen, unseen, SoFar}
use Rattle.paper.proofs.Runs.{taken, closed, accepted_keeps}
use Rattle.memory.specs.Decoded.{node_from}
use Rattle.memory.specs.Starts.{start_of}
use Rattle.memory.proofs.Reached.{Reached, start, keeps}

pub record Lies (bytes : List ℕ) (c : Contents) : Type 0 where
  pub node : (i : ℕ) → i < length c.nodes → get_or c.nodes i ListEnd ≡ node_from bytes (start_of bytes (length c.names) i)
  pub name : (x : ℕ) → x < length c.names → get_or c.names x [] ≡ take name_bytes (drop (3 + 25 * x) bytes)
  pub few_names : length c.names ≤ 128
  pub few_nodes : length c.nodes ≤ 512

lies_so : (bytes : List ℕ) (so : SoFar) → Reached bytes so → Lies bytes (taken so)
lies_so bytes so p =
    let l = length-map so.nodes (λ (s : Seen). s.node) in
    record {
      node = λ i h. get_or-map (λ (s : Seen). s.node) so.nodes i unseen ∙ p.said i (rw l at h);
      name = p.written;
      few_names = p.few_names;
      few_nodes = rw l p.few_nodes;
    }

pub lies : (bytes : List ℕ) (c : Contents) → read bytes ≡ accepted c → Lies bytes c
lies bytes c e =
    let w = accepted_keeps bytes (Reached bytes) (λ k b so next d p w. keeps bytes k b so d p w) (start bytes) c e in
    subst (λ (z : Contents). Lies bytes z) (closed w.rest w.so c w.last).contents (lies_so bytes w.so w.holds)
