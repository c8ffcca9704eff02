-- `atoms::dollar` meets its contract.

use Rattle.atoms.proofs.dollar.Goals as goal

pub returns : goal.returns
returns c = rw (c.byte_before.ensures, c.byte_before-2.ensures)
