-- What follows from the reader's verdict: each question's answer is the refusal, or the bytes are ready for what is answered to accepted ones. Assumes nothing.
use mathlib.Core.Path.{◌≡◌, sym, ap, ◌∙◌}
use mathlib.Core.List.{List}
use Prim.Native.Nat.{ℕ}
use lib.ListN.{length}
use Rattle.std.specs.Prelude.{Ok, Err}
use Rattle.paper.specs.declared.Counts.{Counts}
use Rattle.paper.specs.declared.Finding.{Finding}
use Rattle.paper.specs.declared.Refusal.{Refusal}
use Rattle.paper.specs.declared.Unlisted.TheVariants.{Refused}
use Rattle.paper.specs.TurnedAway as outcome
use Rattle.paper.specs.TurnedAway.{Contents, Outcome, read}
use Rattle.paper.specs.Questions.{answered, arithmetic_of, arithmetic, listing_of, list, buffer_of, list_buffer}
use Rattle.record.specs.declared.reader.Reading.{Reading}
use Rattle.record.specs.Arena.{Read}
use Rattle.record.specs.Stored.{contents}
use Rattle.record.proofs.StoredLaws.{read_stored}
use Rattle.record.proofs.Verdicts.{refused_is, counts_are}
use Rattle.accepted.specs.Ready.{Ready, Counted, Reserved}

module _ (bytes : List ℕ) (r : Reading) (p : Read bytes r) {f : Refusal} (e : r.verdict ≡ Err f) where
  refused : read bytes ≡ outcome.refused f.number f.offset
  refused = refused_is bytes (sym p.said ∙ e)

  pub answered_refused : (part : Contents → List Finding) → answered part (read bytes) ≡ Err f
  unfolding answered
  answered_refused part = ap (answered part) refused

  pub list_refused : (before : List ℕ) → (list bytes (length before) ≡ Err (Refused f)) × (list_buffer bytes before ≡ before)
  unfolding list listing_of list_buffer buffer_of
  list_refused before = (ap (λ (r : Outcome). listing_of r (length before)) refused, ap (λ (r : Outcome). buffer_of r before) refused)

  pub arithmetic_refused : arithmetic bytes ≡ Err f
  unfolding arithmetic arithmetic_of
  arithmetic_refused = ap arithmetic_of refused

module _ (bytes : List ℕ) (r : Reading) (p : Read bytes r) {k : Counts} (e : r.verdict ≡ Ok k) where
  pub counted : Counted bytes k.names k.nodes
  counted = sym p.said ∙ e

  pub ready : Ready bytes r.arena.starts k.nodes
  ready = record { names = k.names; counted = counted; stored = read_stored bytes r p }

  pub reserves : Reserved bytes r.arena.reserved
  reserves = (p.held (contents bytes) (counts_are bytes ready.counted).outcome).words
