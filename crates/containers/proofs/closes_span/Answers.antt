-- `containers::closes_span` meets its contract: the bracket lies within the line.
use mathlib.Core.Path.{◌≡◌}
use native.Mathlib.Omega.{arith}
use Rattle.std.proofs.Common.{rules, Some}
use Rattle.lex.specs.Lexer.{peek_of}
use Rattle.containers.proofs.Sought.{span-within}
use Rattle.containers.proofs.closes_span.Goals as goal

pub overflow_add-bracket : goal.overflow_add-bracket
overflow_add-bracket c =
    let line = c.args.v.now.bytes.now in
    let at = c.args.p.now.at.cursor in
    let is : (peek_of line at).token ≡ Some c.in-Some.t = search rules in
    let few = span-within line at c.args.h.to c.in-Some.t c.requires.ready.sound c.requires.ready.place is in
    omega (arith, few, c.requires.ready.small)

pub takes_along-requires-clause-fits : goal.takes_along-requires-clause-fits
takes_along-requires-clause-fits c =
    let line = c.args.v.now.bytes.now in
    let at = c.args.p.now.at.cursor in
    let is : (peek_of line at).token ≡ Some c.in-Some.t = search rules in
    let few = span-within line at c.args.h.to c.in-Some.t c.requires.ready.sound c.requires.ready.place is in
    record { within = few.1; small = c.requires.ready.small }

pub takes_along-requires-clause-room : goal.takes_along-requires-clause-room
takes_along-requires-clause-room c =
    let line = c.args.v.now.bytes.now in
    let at = c.args.p.now.at.cursor in
    let is : (peek_of line at).token ≡ Some c.in-Some.t = search rules in
    let few = span-within line at c.args.h.to c.in-Some.t c.requires.ready.sound c.requires.ready.place is in
    omega (arith, few, c.put.ensures.count, c.put.ensures.queued.changed.lent.queue_length, c.requires.ready.room, c.requires.ready.long)
