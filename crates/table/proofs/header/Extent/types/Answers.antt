-- `table::header::Extent::types` meets its contract: the types are the bytes behind the header, one for each variable.
-- Assumes nothing.
use native.Mathlib.Omega.{arith}
use Rattle.table.specs.Laws.Types.{types_at}
use Rattle.table.proofs.header.Extent.types.Goals as goal

pub returns : goal.returns
returns c = let table = c.args.self.now in types_at table.bytes.now table.variables _ table.headed.v_is (omega arith)
