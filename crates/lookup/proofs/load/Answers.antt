-- `load` has the nodes of accepted bytes in columns, where the number is one of them. Assumes nothing.
use mathlib.Core.Path.{◌≡◌, sym, ap, ◌∙◌, subst}
use mathlib.Core.List.{List}
use Prim.Native.Nat.{ℕ}
use native.Mathlib.Omega.{arith}
use lib.ListN.{length}
use borrow.Author.Rules.{rules}
use Rattle.std.proofs.lemmas.Option.{none-some, same_Some}
use Rattle.record.specs.Stored.{contents, held, Has}
use Rattle.record.proofs.StoredLaws.{read_stored, holds, formed}
use Rattle.record.proofs.Verdicts.{counts_are}
use Rattle.lookup.proofs.FoundLaws.{none_read, past_the_last}
use Rattle.lookup.proofs.load.Goals as goal

pub returns-in_default : goal.returns-in_default
returns-in_default c =
    record { has = λ e. absurd (none-some _ e); has_not = λ e. none_read _ _ (sym c.read-reading.ensures.said ∙ c.in_default.is) }

pub returns-then-nodes-i : goal.returns-then-nodes-i
returns-then-nodes-i c =
    let beyond = c.if-nodes-i.true in
    record { has = λ e. absurd (none-some _ e); has_not = λ e. past_the_last _ _ (sym c.read-reading.ensures.said ∙ c.in-Ok.is) (omega arith) }

pub fill-requires : goal.fill-requires
fill-requires c =
    let t = counts_are _ (sym c.read-reading.ensures.said ∙ c.in-Ok.is) in
    let few = t.formed.few_nodes in
    let all = t.nodes_are in
    (omega arith, search rules)

pub returns : goal.returns
returns c =
    let not-past = c.if-nodes-i.false in
    let asked = c.read-reading.ensures in
    let t = counts_are _ (sym asked.said ∙ c.in-Ok.is) in
    let same = holds t (read_stored _ _ asked) c.fill.ensures in
    let long = ap length same in
    let all = t.nodes_are in
    let IsLoaded : List ℕ → Type 0 = λ columns. Has columns c.args.i.0 × (held columns ≡ (contents c.args.bytes.now).nodes) in
    let there : IsLoaded c.fill.new.columns = ((formed t (read_stored _ _ asked) c.fill.ensures, omega arith), same) in
    record {
      has = λ e. subst IsLoaded (same_Some _ _ e) there;
      has_not = λ e. absurd (none-some _ (sym e));
    }
