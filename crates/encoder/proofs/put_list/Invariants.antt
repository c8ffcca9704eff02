-- `encoder::put_list` meets its contract, by the laws of `Putting`.
use Rattle.encoder.proofs.Putting.{Puts}
use Rattle.encoder.proofs.put_list.Given as goal

abbrev pub invariant-loop-i : goal.invariant-loop-i
invariant-loop-i l = Puts l.events l.fn.room l.initial.out l.out l.i l.prev.0 l.fits
