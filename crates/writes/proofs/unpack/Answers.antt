use mathlib.Core.Path.{ap}
use Prim.Native.Nat.{◌/◌, ◌%◌}
use Rattle.std.specs.Prelude.{Option}
use Rattle.paper.specs.declared.NameNo.{NameNo}
use Rattle.paper.specs.declared.Finding.{Finding}
use Rattle.paper.specs.Record.{node_no}
use Rattle.paper.specs.TheList.{unpack}
use Rattle.writes.proofs.unpack.Goals as goal

pub returns : goal.returns
unfolding unpack
returns c =
    let v = c.args.v in
    ap {B = Finding} (λ (z : Option NameNo). record { rule = v / 16777216; node = node_no (v / 256 % 65536); name = z }) c.subject_of-name.ensures
