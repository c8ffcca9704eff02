-- `scan::autolink`: the run up to the mark and the run behind it lie within the bytes.
use Prim.Native.Nat.{◌-◌}
use mathlib.Core.Path.{ap}
use native.Mathlib.Omega.{arith}
use lib.ListN.{length, take, drop, length-drop}
use Rattle.classes.specs.declared.Set.TheVariants.{Address}
use Rattle.classes.specs.Sets.{in_set}
use Rattle.classes.proofs.Runs.{run-within}
use Rattle.classes.proofs.Parts.{part-from}
use Rattle.scan.proofs.autolink.Goals as goal

pub overflow_add-n : goal.overflow_add-n
overflow_add-n c = let w = run-within (in_set Address) (take (length c.args.s.now - c.eat_while-n.result)
    (drop c.eat_while-n.result c.args.s.now)) in
    omega (
      arith,
      c.eat_while-more.ensures,
      w,
      ap length (part-from c.args.s.now c.eat_while-n.result),
      length-drop
          c.eat_while-n.result c.args.s.now,
    )
