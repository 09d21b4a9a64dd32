-- `is_reserved` compares a name with each of the four words, as 24 bytes. Assumes nothing.
use mathlib.Core.Path.{◌∙◌, ap₂}
use mathlib.Core.Bool.{◌||◌, or_assoc}
use native.Mathlib.Omega.{arith}
use Rattle.paper.specs.Record.{ascii}
use Rattle.paper.specs.Scoping.{is_reserved}
use Rattle.words.proofs.Pairs.{same_word}
use Rattle.words.proofs.is_reserved.Goals as goal

pub returns : goal.returns
unfolding is_reserved ascii
returns c =
    let n = c.args.n in
    simp or_assoc
    (ap₂ ◌||◌ (c.same.ensures ∙ same_word (ascii "principal") 15 n (omega arith))
    (ap₂ ◌||◌ (c.same-2.ensures ∙ same_word (ascii "action") 18 n (omega arith))
    (ap₂ ◌||◌ (c.same-3.ensures ∙ same_word (ascii "resource") 16 n (omega arith))
    (c.same-4.ensures ∙ same_word (ascii "context") 17 n (omega arith)))))
