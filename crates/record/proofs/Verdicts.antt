-- What the reader's verdict says of the bytes: a refusal is the definitions', and counts are those of the contents. Assumes nothing.
use mathlib.Core.Path.{◌≡◌, refl, sym, ap, ◌∙◌}
use mathlib.Core.List.{List}
use Prim.Native.Nat.{ℕ}
use native.Mathlib.Omega.{arith}
use lib.ListN.{length}
use Rattle.std.specs.Prelude.{Result, Ok, Err}
use Rattle.paper.specs.declared.Counts.{Counts}
use Rattle.paper.specs.declared.Refusal.{Refusal}
use Rattle.paper.specs.TurnedAway.{Contents, Outcome, refused, accepted, counts, refusal, verdict, read}
use Rattle.paper.proofs.WellFormed.{WellFormed, well_formed}
use Rattle.record.specs.Stored.{contents_of, contents}

pub refused_is : (bytes : List ℕ) {f : Refusal} → verdict (read bytes) ≡ Err f → read bytes ≡ refused f.number f.offset
unfolding verdict
refused_is bytes {f} e = go (read bytes) e
  where
    go : (r : Outcome) → verdict r ≡ Err f → r ≡ refused f.number f.offset
    go (refused m p) e = let same : refusal m p ≡ f = cc in ap (λ (z : Refusal). refused z.number z.offset) same
    go (accepted c) e = absurd (let z : ◌≡◌ {A = ℕ} 0 1 = cc in omega arith)

-- accepted bytes, by their counts
pub record Told (bytes : List ℕ) (names nodes : ℕ) : Type 0 where
  pub outcome : read bytes ≡ accepted (contents bytes)
  pub names_are : length (contents bytes).names ≡ names
  pub nodes_are : length (contents bytes).nodes ≡ nodes
  pub formed : WellFormed (contents bytes)

pub counts_are : (bytes : List ℕ) {n k : ℕ} → verdict (read bytes) ≡ Ok (counts n k) → Told bytes n k
unfolding verdict contents_of
counts_are bytes {n} {k} e = go (read bytes) refl e
  where
    go : (r : Outcome) → read bytes ≡ r → verdict r ≡ Ok (counts n k) → Told bytes n k
    go (refused m p) d e = absurd (let z : ◌≡◌ {A = ℕ} 0 1 = cc in omega arith)
    go (accepted c) d e =
        let same : contents bytes ≡ c = ap contents_of d in
        record {
          outcome = d ∙ ap accepted (sym same);
          names_are = ap (λ (z : Contents). length z.names) same ∙ counted_names e;
          nodes_are = ap (λ (z : Contents). length z.nodes) same ∙ counted_nodes e;
          formed = well_formed bytes (contents bytes) (d ∙ ap accepted (sym same));
        }
      where
        counted_names : {a b n k : ℕ} → ◌≡◌ {A = Result Counts Refusal} (Ok (counts a b)) (Ok (counts n k)) → a ≡ n
        counted_names {a} {b} {n} {k} e = let same : counts a b ≡ counts n k = cc in ap (λ (z : Counts). z.names) same

        counted_nodes : {a b n k : ℕ} → ◌≡◌ {A = Result Counts Refusal} (Ok (counts a b)) (Ok (counts n k)) → b ≡ k
        counted_nodes {a} {b} {n} {k} e = let same : counts a b ≡ counts n k = cc in ap (λ (z : Counts). z.nodes) same
