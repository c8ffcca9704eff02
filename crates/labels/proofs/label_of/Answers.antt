-- `labels::label_of`: a label that is built.
use mathlib.Core.Path.{refl}
use Rattle.std.proofs.Common.{rules, ◌≡◌, true}
use Rattle.labels.proofs.Homes.{built-few, built-stands, label-words, label-lines}
use Rattle.labels.proofs.label_of.Goals as goal

pub home_in_room-requires-clause-built_bound : goal.home_in_room-requires-clause-built_bound
home_in_room-requires-clause-built_bound c =
    built-few c.args.labels.now c.args.used c.requires.used_in_bounds _ _ c.requires.labels_len_bound _ c.words-built.ensures

pub returns-then-by_text : goal.returns-then-by_text
returns-then-by_text c =
    let fit : c.args.fits ≡ true = search rules in
    let which = label-words c.args.text.now c.args.queue.now c.args.n c.args.d _ c.event_at-e.ensures c.requires.event_lt_n (rw c.eq.ensures at c.if-by_text.true) in
    rw (c.home_in_room.ensures, fit, which) (built-stands c.args.labels.now c.args.used c.requires.used_in_bounds _ _ _ _ c.words-built.ensures)

pub home_in_room-requires-2-clause-built_bound : goal.home_in_room-requires-2-clause-built_bound
home_in_room-requires-2-clause-built_bound c =
    built-few c.args.labels.now c.args.used c.requires.used_in_bounds _ _ c.requires.labels_len_bound _ c.lines-built.ensures

pub returns : goal.returns
returns c =
    let fit : c.args.fits ≡ true = search rules in
    let which = label-lines c.args.text.now c.args.queue.now c.args.n c.args.d _ c.event_at-e.ensures (rw c.eq.ensures at c.if-by_text.false) _ refl (rw c.eq.ensures at c.if-by_text-d.false) in
    rw (c.home_in_room-2.ensures, fit, which) (built-stands c.args.labels.now c.args.used c.requires.used_in_bounds _ _ _ _ c.lines-built.ensures)
