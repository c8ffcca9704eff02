-- `outside::outside` meets its contract.
use Prim.Native.Nat.{◌+◌}
use mathlib.Core.Path.{refl}
use Rattle.std.proofs.Common.{rules}
use Rattle.rooms.proofs.Changing.{lent-same}
use Rattle.links.specs.Linked.{sheet_of}
use Rattle.reading.specs.Machine.{State}
use Rattle.reading.specs.Reading.{outside, braced, refuse}
use Rattle.reading.specs.Looks.{seeks_by, looked}
use Rattle.outside.proofs.Single.{counted_all, queued_counted}
use Rattle.outside.proofs.outside.Goals as goal

pub returns-in-Backticks : goal.returns-in-Backticks
unfolding outside seeks_by looked
returns-in-Backticks c x =
    let e = c.backticks.ensures (sheet_of x c.args.text.now c.args.p.now.labels.now) in
    search rules

pub returns-in-Lt : goal.returns-in-Lt
unfolding outside seeks_by looked
returns-in-Lt c x =
    let e = c.parse_autolink.ensures (sheet_of x c.args.text.now c.args.p.now.labels.now) in
    search rules

pub returns-in-Colon : goal.returns-in-Colon
unfolding outside seeks_by looked
returns-in-Colon c x =
    let e = c.parse_symbol.ensures (sheet_of x c.args.text.now c.args.p.now.labels.now) in
    search rules

pub returns-in-Bracket : goal.returns-in-Bracket
unfolding outside seeks_by looked
returns-in-Bracket c x =
    let e = c.parse_footnote_reference.ensures (sheet_of x c.args.text.now c.args.p.now.labels.now) in
    search rules

pub returns-in-Paren : goal.returns-in-Paren
unfolding outside seeks_by looked
returns-in-Paren c x =
    let e = c.alone.ensures (sheet_of x c.args.text.now c.args.p.now.labels.now) in
    search rules

pub returns-in-Hyphens : goal.returns-in-Hyphens
unfolding outside seeks_by looked
returns-in-Hyphens c x =
    let e = c.hyphens.ensures (sheet_of x c.args.text.now c.args.p.now.labels.now) in
    search rules

pub returns-in-Other : goal.returns-in-Other
unfolding outside seeks_by looked
returns-in-Other c x =
    let e = c.parse_container.ensures x in
    search rules

pub returns-in-Periods : goal.returns-in-Periods
unfolding outside seeks_by
returns-in-Periods c x =
    let e = queued_counted c.args.p.now _ _ _ c.dots.ensures refl refl refl refl refl refl in
    search rules

pub returns-in-Brace : goal.returns-in-Brace
unfolding outside braced seeks_by
returns-in-Brace c x =
    let p = c.args.p.now in
    let at = c.args.v.now.base + c.args.h.from in
    record {
      same = rw (c.in-Brace.is, c.place.ensures) (counted_all p (λ (s : State). record { cursor = p.at.cursor; state = refuse at s }));
      lent = lent-same p _ refl refl refl;
      labels = c.requires.label_room.labels;
    }
