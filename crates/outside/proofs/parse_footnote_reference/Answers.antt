-- `outside::parse_footnote_reference` meets its contract: the bracket and the token behind it lie within the line.
use mathlib.Core.Path.{refl}
use native.Mathlib.Omega.{arith}
use Rattle.std.proofs.Common.{rules}
use Rattle.reading.specs.Reading.{outside, bracketed}
use Rattle.rooms.specs.Standing.{viewed}
use Rattle.reading.specs.Looks.{seeks_by, unless_taken, noted_at}
use Rattle.outside.proofs.Single.{ready-at, peeked-pos, peeked-sound, both-within, both-pos, both-sound}
use Rattle.outside.proofs.parse_footnote_reference.Goals as goal

pub opens-requires : goal.opens-requires
opens-requires c =
    let v = viewed c.args.v.now in
    let p = c.args.p.now in
    let e = c.peek_token-ahead.ensures in
    record {
      ready = ready-at v c.args.h c.args.h p _ c.requires.ready refl c.requires.ready.long c.requires.ready.within (peeked-pos v c.args.h p c.requires.ready _ e) (peeked-sound v c.args.h p c.requires.ready _ e)
          refl refl refl refl;
      countable = c.requires.countable;
    }

pub returns-in_default : goal.returns-in_default
unfolding outside bracketed seeks_by unless_taken noted_at
returns-in_default c x =
    let e = c.opens.ensures x in
    search rules

pub overflow_add-both : goal.overflow_add-both
overflow_add-both c =
    omega (arith, both-within (viewed c.args.v.now) c.args.h c.args.p.now c.requires.ready _ c.peek_token-ahead.ensures c.in-Some.t c.in-Some.is, c.requires.ready.small)

pub noted-requires : goal.noted-requires
noted-requires c =
    let v = viewed c.args.v.now in
    let p = c.args.p.now in
    let e = c.peek_token-ahead.ensures in
    record {
      ready = ready-at v c.args.h _ p _ c.requires.ready refl (omega (arith, c.requires.ready.long)) (both-within v c.args.h p c.requires.ready _ e c.in-Some.t c.in-Some.is)
          (rw c.skip-p.ensures (both-pos v c.args.h p c.requires.ready _ e c.in-Some.t c.in-Some.is))
          (rw c.skip-p.ensures (both-sound v c.args.h p c.requires.ready _ e c.in-Some.t c.in-Some.is)) refl refl refl refl;
      countable = c.requires.countable;
    }

pub returns-then-is_caret : goal.returns-then-is_caret
unfolding outside bracketed seeks_by unless_taken noted_at
returns-then-is_caret c x =
    let e = c.noted.ensures x in
    search rules

pub opens-requires-2 : goal.opens-requires-2
opens-requires-2 c =
    let v = viewed c.args.v.now in
    let p = c.args.p.now in
    let e = c.peek_token-ahead.ensures in
    record {
      ready = ready-at v c.args.h c.args.h p _ c.requires.ready refl c.requires.ready.long c.requires.ready.within (peeked-pos v c.args.h p c.requires.ready _ e) (peeked-sound v c.args.h p c.requires.ready _ e)
          refl refl refl refl;
      countable = c.requires.countable;
    }

pub returns : goal.returns
unfolding outside bracketed seeks_by unless_taken noted_at
returns c x =
    let e = c.opens-2.ensures x in
    search rules
