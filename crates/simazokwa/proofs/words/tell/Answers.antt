-- `simazokwa::words::tell` meets its contract: head, values and changes are laid one behind the other and fill the 72 words.
-- Assumes nothing.
use native.Mathlib.Omega.{arith}
use borrow.Author.Rules.{rules}
use Rattle.simazokwa.specs.Laid.{laid_is}
use Rattle.simazokwa.proofs.words.tell.Goals as goal

pub returns : goal.returns
returns c =
    record {
      number = c.from-number.ensures;
      laid = laid_is c.requires c.from-number.ensures (omega (arith, c.from-number.type_inv))
          c.args.words.now (omega arith) (search rules) (search rules)
          c.lay_slice.ensures.laid c.lay_slice-2.ensures.laid c.lay_slice-3.ensures.laid;
    }
