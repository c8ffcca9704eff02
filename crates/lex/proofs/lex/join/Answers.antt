-- `lex::lex::join`: a token is at least one byte, and lies within the line.
use mathlib.Core.Path.{sym, ◌∙◌}
use mathlib.Core.Bool.{false}
use native.Mathlib.Omega.{arith}
use lib.ListN.{drop, length-drop}
use Rattle.lex.proofs.Bounds.{lexed-sized}
use Rattle.lex.proofs.lex.join.Goals as goal

pub overflow_add-end : goal.overflow_add-end
overflow_add-end c = let a = c.args in
    let l = c.loop-t in
    let z =
    lexed-sized false (drop l.end a.src.now) _
    (sym c.token-next.ensures ∙ c.in-Some.is)
    in
    omega (arith, z.some, z.within, length-drop l.end a.src.now)

pub loop-t-smaller : goal.loop-t-smaller
loop-t-smaller c = let a = c.args in
    let l = c.loop-t in
    let z =
    lexed-sized false (drop l.end a.src.now) _
    (sym c.token-next.ensures ∙ c.in-Some.is)
    in
    omega (arith, z.some, z.within, length-drop l.end a.src.now)
